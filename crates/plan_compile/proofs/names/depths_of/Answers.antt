use Rattle.std.proofs.Common.{◌≡◌, ◌∙◌, ◌<◌, ◌+◌, ◌-◌, List, drop, Some, ℕ, ap, length, refl, sym, arith}
use Rattle.std.specs.Prelude.{slice_get}
use Rattle.std.proofs.lemmas.Option.{slice_get_read}
use Rattle.plan_scope.specs.declared.manifest.Pool.{Pool as ManifestPool}
use Rattle.plan_compile.specs.Names.{depth_of}
use Rattle.plan_compile.proofs.NameLemmas.{depth_step}
use Rattle.plan_compile.proofs.names.depths_of.Goals as goal

pub loop-number-preserved : goal.loop-number-preserved
loop-number-preserved c =
    let pools : List ManifestPool = c.args.pools.now in
    let n = c.loop-number.number - 1 in
    let lt : n < length pools = omega (arith, c.loop-number-test.true, c.loop-number.auto.number) in
    let here : slice_get pools n ≡ Some c.index-pools-number.result = slice_get_read pools (length pools) n c.index-pools-number.result refl lt c.index-pools-number.is in
    let same : n + 1 ≡ c.loop-number.number = omega (arith, c.loop-number-test.true) in
    λ name. depth_step pools n c.index-pools-number.result _ name.bytes.now _ _ here c.as_slice-name.ensures (c.in_ok-insert.ensures.updates.0 name)
    (c.loop-number.invariant name ∙ ap (λ (m : ℕ). depth_of (drop m pools) name.bytes.now) (sym same))
