use Rattle.std.proofs.Common.{◌≡◌, ◌∙◌, ◌++◌, ◌+◌, ℕ, List, [], Ok, drop, ap, sym, subst, arith, append-nil}
use Rattle.std.proofs.lemmas.List.{drop_all, length-drop, take_rest}
use Rattle.plan_text.specs.Pieces.{pieces_from}
use Rattle.plan_text.specs.declared.piece_reader.Mode.TheVariants as mode
use Rattle.plan_parse.specs.Parts.{IsFirstPart}
use Rattle.plan_scope.specs.Edges.{near}
use Rattle.plan_scope.specs.Kept.{kept}
use Rattle.plan_scope.specs.PathParts.{part_value, pieces_in}
use Rattle.plan_scope.specs.Scopes.{Name, Text}
use Rattle.plan_scope.specs.ScopeNames.{names_in}
use Rattle.plan_scope.proofs.TextLemmas.{kept_append, kept_expand}
use Rattle.plan_scope.proofs.PathLemmas.{kept_near}
use Rattle.plan_scope.proofs.PathPartLemmas.{text_of, text_onto, text_more, whole_text}
use Rattle.plan_scope.proofs.edge.paths.expand_path.Goals as goal

pub loop-done-preserved : goal.loop-done-preserved
loop-done-preserved c =
    let value : Name → Text = near (names_in c.args.here) c.args.block.now in
    let at = c.args.at in
    let path = c.args.path.now in
    let done = c.loop-done.done in
    let so_far = c.loop-done.invariant in
    let part = c.in-Ok.part in
    let len = c.in-Ok.len in
    let first = subst (λ (v : List ℕ). IsFirstPart (at + done) v (Ok (part, len))) (take_rest path done) c.in-Ok.ensures in
    let within = first.1 in
    let left = length-drop done path in
    let before = so_far.0 in (
      omega (arith, within, left, before),
      c.in_ok-append.ensures.within so_far.1,
      so_far.2 ++ part_value value part,
      c.in_ok-append.ensures.appended ∙ kept_append c.loop-done.buffer.items so_far.2 c.part_text.result.now (part_value value part) so_far.3 (ap kept c.part_text.ensures),
      text_more value at done len path so_far.2 part so_far.4 first.2,
    )

pub returns-clause-text : goal.returns-clause-text
returns-clause-text c = λ b m h k.
    let value : Name → Text = near (names_in c.args.here) c.args.block.now in
    let at = c.args.at in
    let path = c.args.path.now in
    let done = c.loop-done.done in
    let read = c.loop-done.invariant in
    let front : Text = read.2 in
    let over : drop done path ≡ [] = drop_all done path c.loop-done-test.false in
    let all : text_of value (pieces_from mode.Path at path) ≡ Ok (front ++ []) =
    read.4 ∙ ap (λ (v : List ℕ). text_onto front (text_of value (pieces_from mode.Path (at + done) v))) over in
    read.3
    ∙ sym (ap kept (whole_text value (pieces_from mode.Path at path) (front ++ []) all ∙ append-nil front))
    ∙ kept_expand value (near m b) (kept_near c.args.block.now b (names_in c.args.here) m h k) (pieces_in at path)
