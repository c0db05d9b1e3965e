use Rattle.std.proofs.Common.{List, Option, ℕ, subst}
use Rattle.std.specs.Prelude.{IfSome}
use Rattle.plan_lanes.specs.Recalled.{RecallsAmong}
use Rattle.plan_commands.proofs.RecordedLemmas.{names_others}
use Rattle.plan_commands.proofs.recorded.with_foreign.Goals as goal

pub returns-in_ok-all-in-Some : goal.returns-in_ok-all-in-Some
returns-in_ok-all-in-Some g c =
    let there = subst (λ (x : Option (List (List ℕ))). IfSome x (λ p. RecallsAmong g.W.World.allows c.args.filter.now c.first_output.result.now p)) c.in-Some.is c.in_ok-others.ensures in
    let recalls = subst (λ (o : List ℕ). RecallsAmong g.W.World.allows c.args.filter.now o c.in-Some.others) c.first_output.ensures there in
    names_others g.W.World.allows c.args.filter.now c.args.edge.now c.args.own c.in-Some.others c.in_ok-all-in-Some.all c.requires recalls c.in_ok-all-in-Some.ensures
