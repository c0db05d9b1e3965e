use Rattle.std.proofs.Common.{List, Option, ℕ, subst}
use Rattle.std.specs.Prelude.{IfSome}
use Rattle.plan_lanes.specs.Recalled.{RecallsAmong}
use Rattle.plan_commands.proofs.RecordedLemmas.{names_both}
use Rattle.plan_commands.proofs.recorded.unrecorded_paths.Goals as goal

pub returns-in_ok-all-in-Some : goal.returns-in_ok-all-in-Some
returns-in_ok-all-in-Some g c =
    let there = subst (λ (x : Option (List (List ℕ))). IfSome x (λ p. RecallsAmong g.W.World.allows c.args.filter.now c.first_output.result.now p)) c.in-Some.is c.in_ok-kept.ensures in
    let recalls = subst (λ (o : List ℕ). RecallsAmong g.W.World.allows c.args.filter.now o c.in-Some.kept) c.first_output.ensures there in
    names_both g.W.World.allows c.args.filter.now c.args.edge.now c.in_ok-named.named c.in-Some.kept c.in_ok-all-in-Some.all c.in_ok-named.ensures recalls c.in_ok-all-in-Some.ensures
