use Rattle.std.proofs.Common.{◌≡◌, ◌<◌, ℕ, List, length, ap, ◌∙◌, arith}
use Rattle.std.specs.Prelude.{◌==◌, slice_index}
use Rattle.std.proofs.lemmas.List.{get_or_default}
use Rattle.plan_machine.specs.Kept.{Running}
use Rattle.plan_machine.proofs.KeptLemmas.{waits_are_well}
use Rattle.plan_machine.proofs.run.state.State.are_waits_well.Goals as goal

pub returns : goal.returns
returns c =
    let r = c.args.self.now in
    let inside = c.self.inside.schedule.waiting.items in
    let same : inside ≡ r.schedule.waiting.items = ap (λ (x : Running). x.schedule.waiting.items) c.self.view_is in
    let kept = c.requires.kept in
    let here : c.args.edge < length inside = omega (arith, c.requires.here, kept.long, kept.plan_is.edges, kept.fit.kept.waiting_sized, ap (λ (l : List ℕ). length l) same) in
    let read : c.index.result.now ≡ slice_index inside c.args.edge = c.index.ensures ∙ get_or_default inside c.args.edge c.index.result.now 0 here in
    ap (λ (n : ℕ). n == 0) (read ∙ ap (λ (l : List ℕ). slice_index l c.args.edge) same) ∙ waits_are_well c.args._image.now r.run_state.now r.plan r.schedule kept c.args.edge c.requires.here
