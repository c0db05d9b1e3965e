use Rattle.std.proofs.Common.{◌∙◌, List, ℕ, Bor, ap, inr, map}
use Rattle.plan_build.proofs.StatusesLemmas.{builds_other, fault_so}
use Rattle.plan_build.proofs.building.Builder.build_line.Goals as goal

pub returns-in-Err : goal.returns-in-Err
returns-in-Err g c zero =
    let words = λ (xs : List (Bor (List ℕ))). map (λ n. n.now) xs in
    inr (builds_other c.args.mode g.S.Source.gives g.S.Source.fails c.args.source.now c.build-done.new.source _ g.W.World.allows c.args.line.now c.args.jobs c.in-Some-Ok.options _ _ c.in-Some-Ok.ensures
    (ap words c.deref.ensures.value ∙ c.in-Some-Ok.ensures') (ap words c.deref-in-Err.ensures.value ∙ c.in-Some-Ok.ensures') c.build-done.ensures.same
    (fault_so _ c.build-done.result.0 c.in-Err.fault c.in-Err.is c.build-done.ensures.unknown c.if-done.true) (c.build_named.ensures zero))
