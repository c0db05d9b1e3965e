use Rattle.std.proofs.Common.{◌≡◌, ◌<◌, ◌∙◌, List, ℕ, Some, length, ap, refl, arith}
use Rattle.std.specs.Prelude.{slice_get}
use Rattle.std.proofs.lemmas.Option.{slice_get_read}
use Rattle.plan_compile.specs.declared.layout.EdgeLayout.{EdgeLayout}
use Rattle.plan_compile.specs.declared.numbers.Numbers.{Numbers}
use Rattle.plan_compile.specs.Assembling.{layout_in}
use Rattle.plan_compile.specs.Builds.{Build}
use Rattle.plan_compile.specs.OutputTable.{Table}
use Rattle.plan_compile.specs.Slots.{form_of}
use Rattle.plan_compile.proofs.AssembleLemmas.{layouts_step}
use Rattle.plan_compile.proofs.all_layouts.layouts_of.Goals as goal

pub loop-number-preserved : goal.loop-number-preserved
loop-number-preserved c =
    let table : Table = c.args.plan.now.table.items in
    let ks : List Numbers = c.args.numbers.now in
    let ns : List ℕ = c.args.plan.now.newest.items in
    let xs : List Build = c.args.builds.now in
    let n = c.loop-number.number in
    let x : Build = c.index-builds-number.result in
    let k : Numbers = c.numbers_at-named.result in
    let slot : ℕ = c.index.result.now in
    let lt : n < length xs = omega (arith, c.loop-number-test.true) in
    let here : slice_get xs n ≡ Some x = slice_get_read xs (length xs) n x refl lt c.index-builds-number.is in
    let named : slice_get ks n ≡ Some k = c.numbers_at-named.ensures in
    let ltn : n < length ns = omega (arith, lt, c.requires.long) in
    let at : slice_get ns n ≡ Some slot = slice_get_read ns (length ns) n slot refl ltn c.index.ensures in
    let w : EdgeLayout = c.in_ok-layout.layout in
    let is : w ≡ layout_in (form_of x) k table slot x = c.in_ok-layout.ensures ∙ ap (λ (t : Table). layout_in (form_of x) k t slot x) c.deref.ensures.value in
    layouts_step table ks ns xs n slot k x w c.loop-number.layouts.items c.push.new.self.items _ named at here is c.in_ok-push.ensures.items c.loop-number.invariant
