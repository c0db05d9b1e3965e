use Rattle.std.proofs.Common.{◌≡◌, ℕ, List, Result, ap, drop, length, map, subst, sym, take, ◌∙◌}
use Rattle.std.proofs.lemmas.List.{at_drop_all, take_rest}
use Rattle.plan_text.specs.Outcome.{Meets}
use Rattle.plan_text.specs.Lines.{raw_past}
use Rattle.plan_parse.specs.declared.fault.ParseFault.{ParseFault}
use Rattle.plan_parse.specs.declared.fault.ParseFault.TheVariants as fault
use Rattle.plan_parse.specs.Kinds.{Statement}
use Rattle.plan_parse.specs.Compact.{said_in}
use Rattle.plan_parse.specs.Blocks.{roles_of_lines}
use Rattle.plan_parse.specs.Statements.{statements_of}
use Rattle.plan_parse.specs.Progress.{state_of, statements_with, statements_at_end}
use Rattle.plan_parse.proofs.ParserLemmas.{ends}
use Rattle.plan_parse.proofs.parser.parse.Goals as goal

pub returns : goal.returns
returns c =
    let all : statements_at_end (state_of c.loop-at.reader) ≡ statements_of c.args.text.now =
    sym (ends (state_of c.loop-at.reader))
    ∙ sym (at_drop_all (λ (v : List ℕ). statements_with (state_of c.loop-at.reader) (roles_of_lines (raw_past c.loop-at.at v 0))) c.args.text.now c.loop-at.at c.loop-at-test.false)
    ∙ c.loop-at.invariant.same in
    let kept = subst (λ (t : List ℕ). Meets fault.Memory (λ file. map (said_in t file.lists) file.statements.items) c.finish.result (statements_at_end (state_of c.loop-at.reader))) c.loop-at.invariant.text c.finish.ensures in
    subst (λ (m : Result (List Statement) ParseFault). Meets fault.Memory (λ file. map (said_in c.args.text.now file.lists) file.statements.items) c.finish.result m) all kept

pub read-requires-clause-line : goal.read-requires-clause-line
read-requires-clause-line c =
    let line = c.split_line-len.result.0.now in
    let here : line ≡ take (length line) (drop c.loop-at.at c.args.text.now) =
    c.split_line-len.ensures.front ∙ ap (take (length line)) (take_rest c.args.text.now c.loop-at.at) in
    subst (λ (t : List ℕ). line ≡ take (length line) (drop c.loop-at.at t)) (sym c.loop-at.invariant.text) here
