use Rattle.std.proofs.Common.{◌≡◌, ◌+◌, ℕ, true, false, Option, Some, None, List, ap, sym, ◌∙◌, drop}
use Rattle.std.specs.Prelude.{slice_get}
use Rattle.plan_image.specs.declared.body.Instr.{Instr}
use Rattle.plan_progress.specs.Command.{is_run, text_before_run}
use Rattle.plan_progress.proofs.CommandLemmas.{ends, goes_on, runs}
use Rattle.plan_progress.proofs.edge_command.text_before_run.Goals as goal

pub returns-in-None : goal.returns-in-None
returns-in-None c =
    let code : List Instr = c.args.code.now in
    let none : slice_get code c.loop-place.place ≡ None = sym c.instr.ensures ∙ c.in-None.is in
    ends c.loop-place.last (text_before_run None code) code c.loop-place.place none c.loop-place.invariant

pub returns-then-is_run : goal.returns-then-is_run
returns-then-is_run c =
    let code : List Instr = c.args.code.now in
    let here : slice_get code c.loop-place.place ≡ Some c.in-Some.instr = sym c.instr.ensures ∙ c.in-Some.is in
    let run : is_run c.in-Some.instr ≡ true = sym c.is_run.ensures ∙ c.if-is_run.true in
    runs c.loop-place.last (text_before_run None code) code c.loop-place.place c.in-Some.instr here run c.loop-place.invariant

pub loop-place-preserved : goal.loop-place-preserved
loop-place-preserved c =
    let code : List Instr = c.args.code.now in
    let i : ℕ = c.loop-place.place in
    let here : slice_get code i ≡ Some c.in-Some.instr = sym c.instr.ensures ∙ c.in-Some.is in
    let other : is_run c.in-Some.instr ≡ false = sym c.is_run.ensures ∙ c.if-is_run.false in
    ap (λ (last : Option ℕ). text_before_run last (drop (i + 1) code)) c.text_pushed-last.ensures
    ∙ goes_on c.loop-place.last (text_before_run None code) code i c.in-Some.instr here other c.loop-place.invariant
