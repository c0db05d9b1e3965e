use Rattle.std.proofs.Common.{rules, ◌≡◌, false, length, List, ℕ, subst, sym}
use Rattle.plan_machine.specs.Runs.{Opens}
use Rattle.plan_machine.specs.Wanted.{any_outside}
use Rattle.plan_lanes.proofs.BoardLemmas.{kept_opened}
use Rattle.plan_lanes.proofs.board.Board.open.Goals as goal

pub invariant_of-result : goal.invariant_of-result
invariant_of-result g c =
    let all : length c.in_ok-numbers.numbers.items ≡ length c.args.image.now.edges = search rules in
    kept_opened g.W.World.allows c.in_ok-numbers.numbers.items c.args.image.now c.in_ok-targets.targets.items c.in_ok-state.state c.new.result.events c.new-2.result.items
    (subst (λ (t : List ℕ). Opens c.args.image.now t c.in_ok-state.state.run_state.now) (sym c.in_ok-targets.ensures.items) c.in_ok-state.ensures.opens.0) c.in_ok-state.ensures.state c.new.ensures c.new-2.ensures.items all
    (subst (λ (t : List ℕ). any_outside c.args.image.now t ≡ false) (sym c.in_ok-targets.ensures.items) c.in_ok-state.ensures.inside)
