use Rattle.std.proofs.Common.{◌≡◌, ◌∙◌, List, ℕ, Bor, ap, arith, length, map}
use Rattle.plan_build.specs.Statuses as statuses
use Rattle.plan_build.proofs.StatusesLemmas.{named_built, nothing_built}
use Rattle.plan_build.proofs.building.Builder.build_named.Goals as goal

pub returns-then-len-eq0 : goal.returns-then-len-eq0
returns-then-len-eq0 g c zero =
    let none : length c.in-Ok.paths ≡ 0 = omega (arith, c.len.ensures, c.if-len-eq0.true) in
    nothing_built c.args.mode g.S.Source.gives g.S.Source.fails c.args.source.now _ g.W.World.allows (statuses.manifest_in c.args.line.now) c.manifest_in.result.now c.args.options _ c.in-Ok.paths c.manifest_in.ensures c.in-Ok.ensures.named none

pub returns-in-Ok-slices_of : goal.returns-in-Ok-slices_of
returns-in-Ok-slices_of g c zero =
    let ended = c.end.ensures zero in
    let targets = ap (λ (xs : List (Bor (List ℕ))). map (λ n. n.now) xs) c.deref.ensures.value ∙ c.in-Ok-slices_of.ensures in
    named_built c.args.mode g.S.Source.gives g.S.Source.fails c.args.source.now c.named_in.new.source _ g.W.World.allows (statuses.manifest_in c.args.line.now) c.manifest_in.result.now c.args.options _ c.in-Ok.paths _ c.build-done.result.0 ended.0
    c.manifest_in.ensures c.in-Ok.ensures.named c.named_in.ensures.same targets ended.1 ended.2 c.build-done.ensures.done
