use Rattle.std.proofs.Common.{◌∙◌, ap}
use Rattle.plan_scope.specs.declared.edge.edge_list.EdgeMarks.{EdgeMarks}
use Rattle.plan_scope.specs.Edges.{is_present}
use Rattle.plan_scope.proofs.EdgeRowLemmas.{begins_still, more_far, text_stays, texts_put}
use Rattle.plan_scope.proofs.edge.build_line.marks_of.Goals as goal

pub returns-clause-edge : goal.returns-clause-edge
returns-clause-edge c = λ begins paths.
    let v = c.args.variables.now in
    let one = c.in_ok-put_text.ensures in
    let two = c.in_ok-put_text-2.ensures in
    let three = c.in_ok-put_text-3.ensures in
    let four = c.in_ok-put_text-4.ensures in
    let b2 = begins_still _ _ one.more begins in
    let b3 = begins_still _ _ two.more b2 in
    let b4 = begins_still _ _ three.more b3 in
    let command = text_stays _ _ _ _ four.more (text_stays _ _ _ _ three.more (text_stays _ _ _ _ two.more (one.text begins))) in
    let description = text_stays _ _ _ _ four.more (text_stays _ _ _ _ three.more (two.text b2)) in
    let depfile = text_stays _ _ _ _ four.more (three.text b3) in
    let pool = four.text b4 in
    let marks : EdgeMarks = record { paths = c.args.places; command = c.in_ok-put_text.field-0; description = c.in_ok-put_text-2.field-0; depfile = c.in_ok-put_text-3.field-0; pool = c.in_ok-put_text-4.field-0; deps = c.is_present.result; restat = c.is_present-2.result; generator = c.is_present-3.result; phony = c.args.phony } in
    texts_put _ paths v marks (command.0 ∙ c.as_slice.ensures) (description.0 ∙ c.as_slice-2.ensures) (depfile.0 ∙ c.as_slice-3.ensures) (pool.0 ∙ c.as_slice-4.ensures) (c.is_present.ensures ∙ ap is_present c.as_slice-5.ensures) (c.is_present-2.ensures ∙ ap is_present c.as_slice-6.ensures) (c.is_present-3.ensures ∙ ap is_present c.as_slice-7.ensures)

pub returns-clause-within : goal.returns-clause-within
returns-clause-within c = λ begins.
    let one = c.in_ok-put_text.ensures in
    let two = c.in_ok-put_text-2.ensures in
    let three = c.in_ok-put_text-3.ensures in
    let four = c.in_ok-put_text-4.ensures in
    let b2 = begins_still _ _ one.more begins in
    let b3 = begins_still _ _ two.more b2 in
    let b4 = begins_still _ _ three.more b3 in
    let command = text_stays _ _ _ _ four.more (text_stays _ _ _ _ three.more (text_stays _ _ _ _ two.more (one.text begins))) in
    let description = text_stays _ _ _ _ four.more (text_stays _ _ _ _ three.more (two.text b2)) in
    let depfile = text_stays _ _ _ _ four.more (three.text b3) in
    let pool = four.text b4 in
    (command.1, description.1, depfile.1, pool.1)

pub returns-clause-more : goal.returns-clause-more
returns-clause-more c =
    more_far _ _ _ (more_far _ _ _ (more_far _ _ _ c.in_ok-put_text.ensures.more c.in_ok-put_text-2.ensures.more) c.in_ok-put_text-3.ensures.more) c.in_ok-put_text-4.ensures.more
