use Rattle.std.proofs.Common.{◌≡◌, ◌∷◌, ◌++◌, [], ◌+◌, List, drop, map, ap, subst, ◌∙◌, sym}
use Rattle.std.proofs.lemmas.List.{map_push}
use Rattle.plan_text.specs.Outcome.{each}
use Rattle.plan_parse.specs.declared.compact.CompactBinding.{CompactBinding}
use Rattle.plan_parse.specs.declared.statement.Binding.{Binding}
use Rattle.plan_parse.specs.Statements.{block_line_at}
use Rattle.plan_parse.specs.BlockLines.{block_line_of, block_lines_of}
use Rattle.plan_parse.specs.Compact.{variable_in}
use Rattle.plan_parse.specs.PathLists.{Extends, added_to}
use Rattle.plan_parse.specs.Progress.{LineStandsIn}
use Rattle.plan_parse.proofs.BlockLemmas as block
use Rattle.plan_parse.proofs.BlockLemmas.{in_front, line_among, lines_from}
use Rattle.plan_parse.proofs.JoinedLemmas.{one_more, extends_more}
use Rattle.plan_parse.proofs.block.bindings_at.Goals as goal

pub loop-line-preserved : goal.loop-line-preserved
loop-line-preserved c =
    let i = c.loop-line.line-index in
    let ms = c.args.lines.now in
    let item = c.line-item.result in
    let read = variable_in c.args.text.now in
    let older = c.args.bindings.now.items in
    let so_far = c.loop-line.bindings.items in
    let next = c.in_ok-block_line_at.field-0 in
    let front : List Binding = map read (added_to older so_far) in
    let all = each block_line_at (block_lines_of ms) in
    let rest = block_lines_of (drop (i + 1) ms) in
    let here : in_front front (each block_line_at (block_line_of item ∷ rest)) ≡ all =
    sym (ap (λ v. in_front front (each block_line_at v)) (lines_from ms i item c.loop-line-test.true c.line-item.is)) ∙ c.loop-line.invariant.same in
    let pushed : c.push.new.self.items ≡ so_far ++ next ∷ [] = c.in_ok-push.ensures.items in
    let more : added_to older c.push.new.self.items ≡ added_to older so_far ++ next ∷ [] =
    ap (λ (v : List CompactBinding). added_to older v) pushed ∙ one_more older so_far next c.loop-line.invariant.keeps in
    record {
      keeps = subst (λ (v : List CompactBinding). Extends older v) (sym pushed) (extends_more older so_far next c.loop-line.invariant.keeps);
      same = ap (λ (v : List Binding). in_front v (each block_line_at rest)) (ap (map read) more ∙ map_push read (added_to older so_far) next)
          ∙ block.one_more block_line_at front (block_line_of item) rest (read next) all c.in_ok-block_line_at.ensures here;
    }

pub block_line_at-requires : goal.block_line_at-requires
block_line_at-requires c =
    line_among (LineStandsIn c.args.text.now) c.args.lines.now c.loop-line.line-index c.line-item.result c.loop-line-test.true c.line-item.is c.requires
