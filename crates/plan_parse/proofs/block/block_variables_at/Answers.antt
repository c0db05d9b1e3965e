use Rattle.std.proofs.Common.{◌≡◌, ℕ, ◌++◌, ◌∷◌, [], ◌+◌, Bool, List, drop, take, ap, ◌∙◌, sym}
use Rattle.std.specs.Prelude.{◌||◌}
use Rattle.std.specs.List.{list_any}
use Rattle.plan_parse.specs.declared.statement.Binding.{Binding}
use Rattle.plan_parse.specs.Blocks.{BlockLine}
use Rattle.plan_parse.specs.Statements.{is_named, required_name, block_variables_at}
use Rattle.plan_parse.specs.BlockLines.{block_line_of, block_lines_of}
use Rattle.plan_parse.proofs.BlockLemmas.{in_front, one_more_variable, lines_from, lines_to, any_more}
use Rattle.plan_parse.proofs.block.block_variables_at.Goals as goal

pub loop-line-preserved : goal.loop-line-preserved
loop-line-preserved c =
    let block = c.args.block in
    let i = c.loop-line.line-index in
    let ms = c.args.lines.now in
    let item = c.line-item.result in
    let front = c.loop-line.found.items in
    let all = block_variables_at block [] (block_lines_of ms) in
    let above = block_lines_of (take i ms) in
    let rest = block_lines_of (drop (i + 1) ms) in
    let to : block_lines_of (take (i + 1) ms) ≡ above ++ block_line_of item ∷ [] = lines_to ms i item c.loop-line-test.true c.line-item.is in
    let here : in_front front (block_variables_at block above (block_line_of item ∷ rest)) ≡ all =
    sym (ap (λ v. in_front front (block_variables_at block above v)) (lines_from ms i item c.loop-line-test.true c.line-item.is)) ∙ c.loop-line.invariant.same in
    record {
      is_bound = ap (λ (v : Bool). v || c.binds.result) c.loop-line.invariant.is_bound
          ∙ ap (λ (v : Bool). list_any (is_named (required_name block)) above || v) (c.binds.ensures ∙ ap (λ (name : List ℕ). is_named name (block_line_of item)) c.required_name.ensures)
          ∙ sym (ap (list_any (is_named (required_name block))) to ∙ any_more (is_named (required_name block)) above (block_line_of item));
      same = ap (λ (v : List Binding). in_front v (block_variables_at block (block_lines_of (take (i + 1) ms)) rest)) c.in_ok-push.ensures.items
          ∙ ap (λ (v : List BlockLine). in_front (front ++ c.in_ok-block_variable_at.field-0 ∷ []) (block_variables_at block v rest)) to
          ∙ one_more_variable block front above (block_line_of item) rest c.in_ok-block_variable_at.field-0 all (c.in_ok-block_variable_at.ensures above c.loop-line.invariant.is_bound) here;
    }
