use Rattle.std.proofs.Common.{◌≡◌, ◌<◌, ◌∙◌, List, ℕ, Some, length, ap, refl, sym, subst, arith}
use Rattle.std.specs.Prelude.{Err, slice_get}
use Rattle.std.proofs.lemmas.Option.{slice_get_read}
use Rattle.std.proofs.lemmas.Result.{err_from_is_err_and}
use Rattle.plan_compile.specs.declared.numbers.Numbers.{Numbers}
use Rattle.plan_compile.specs.Builds.{Build}
use Rattle.plan_compile.specs.Emit.{code_of}
use Rattle.plan_compile.specs.Assembling.{AreCoded, codes_in, layout_in}
use Rattle.plan_compile.specs.OutputTable.{Table}
use Rattle.plan_compile.specs.Slots.{form_of}
use Rattle.plan_compile.proofs.AssembleLemmas.{bodies_step, code_refused, edges_step, emitted_is}
use Rattle.plan_compile.proofs.edges.edges_of.Goals as goal

pub loop-number-preserved : goal.loop-number-preserved
loop-number-preserved c =
    let table : Table = c.args.table.now in
    let ks : List Numbers = c.args.numbers.now in
    let ns : List ℕ = c.args.newest.now in
    let xs : List Build = c.args.builds.now in
    let n = c.loop-number.number in
    let x : Build = c.index-builds-number.result in
    let k : Numbers = c.numbers_at-named.result in
    let slot : ℕ = c.slot_at-slot.result in
    let lt : n < length xs = omega (arith, c.loop-number-test.true) in
    let here : slice_get xs n ≡ Some x = slice_get_read xs (length xs) n x refl lt c.index-builds-number.is in
    let named : slice_get ks n ≡ Some k = c.numbers_at-named.ensures in
    let at : slice_get ns n ≡ Some slot = c.slot_at-slot.ensures in
    let is : c.put_code.new.code ≡ code_of (layout_in (form_of x) k table slot x) =
    emitted_is (code_of (layout_in (form_of x) k table slot x)) c.put_code.new.code c.in_ok-lists.ensures in
    let bodies = bodies_step table ks ns xs n slot k x c.put_code.new.code c.loop-number.bodies c.push_edge.new.bodies _ named at here is c.in_ok-push_edge.ensures.bodies c.loop-number.invariant.0 in (
      bodies,
      edges_step table ks ns xs n slot k x c.put_code.new.code c.loop-number.bodies c.push_edge.new.bodies _ c.loop-number.edges c.push_edge.new.edges _ named at here is
          c.in_ok-push_edge.ensures.bodies c.in_ok-push_edge.ensures.edges bodies c.loop-number.invariant.1,
      omega (arith, c.in_ok-push_edge.ensures.few, c.loop-number.invariant.2),
    )

pub returns-in_err-lists : goal.returns-in_err-lists
returns-in_err-lists c =
    let table : Table = c.args.table.now in
    let ks : List Numbers = c.args.numbers.now in
    let ns : List ℕ = c.args.newest.now in
    let xs : List Build = c.args.builds.now in
    let n = c.loop-number.number in
    let x : Build = c.index-builds-number.result in
    let k : Numbers = c.numbers_at-named.result in
    let slot : ℕ = c.slot_at-slot.result in
    let lt : n < length xs = omega (arith, c.loop-number-test.true) in
    let here : slice_get xs n ≡ Some x = slice_get_read xs (length xs) n x refl lt c.index-builds-number.is in
    let named : slice_get ks n ≡ Some k = c.numbers_at-named.ensures in
    let at : slice_get ns n ≡ Some slot = c.slot_at-slot.ensures in
    let p = err_from_is_err_and c.from_residual-in_err-lists.result c.from_residual-in_err-lists.ensures.1 in
    subst (λ r. AreCoded ks (codes_in table ks ns xs) xs r) (sym (p.1 ∙ ap (λ e. Err e) p.2))
    (code_refused c.in_err-lists.field-0.0 table ks ns xs n slot k x named at here c.in_err-lists.ensures)
