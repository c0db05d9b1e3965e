use Rattle.std.proofs.Common.{◌≡◌, ◌++◌, ◌/◌, ◌∙◌, ℕ, List, length, map, ap, sym, subst, arith}
use Rattle.std.specs.Prelude.{Err, Result}
use Rattle.std.proofs.lemmas.List.{length-append, length-map, map-append}
use Rattle.std.proofs.lemmas.Result.{err_from_is_err_and}
use Rattle.plan_image.specs.declared.image.Edge.{Edge}
use Rattle.plan_compile.specs.declared.fault.CompileFault.{CompileFault}
use Rattle.plan_compile.specs.declared.numbers.Numbers.{Numbers}
use Rattle.plan_compile.specs.Assembling.{AreCoded, codes_in}
use Rattle.plan_compile.specs.BodyKeys.{Body}
use Rattle.plan_compile.specs.Builds.{Build}
use Rattle.plan_compile.specs.OutputTable.{Table}
use Rattle.plan_compile.proofs.HalvesLemmas.{first_refused, halves_joined, second_refused, split_is}
use Rattle.plan_compile.proofs.halves.+edges_by_halves+fn-edges_by_halves-join+arg2+fn-edges_by_halves-join+arg3.Goals as goal

-- the edges and bodies of a half, or why there are none
abbrev Half : Type 0
Half = Result (List Edge × List Body) CompileFault

pub returns-in_err-first : goal.returns-in_err-first
returns-in_err-first g t c =
    let meant = g.B.HasCode.meant in
    let table : Table = c.args.table.now in
    let all_ks : List Numbers = c.args.numbers.now in
    let all_ns : List ℕ = c.args.newest.now in
    let all_xs : List Build = map meant c.args.builds.now in
    let n = length c.args.builds.now / 2 in
    let ns : List ℕ = c.split_at.result.0.now in
    let ms : List ℕ = c.split_at.result.1.now in
    let ks : List Numbers = c.split_at-2.result.0.now in
    let ls : List Numbers = c.split_at-2.result.1.now in
    let xs : List Build = map meant c.split_at-3.result.0.now in
    let ys : List Build = map meant c.split_at-3.result.1.now in
    let newest : ns ++ ms ≡ all_ns = split_is all_ns ns ms n c.split_at.ensures.front c.split_at.ensures.back in
    let numbers : ks ++ ls ≡ all_ks = split_is all_ks ks ls n c.split_at-2.ensures.front c.split_at-2.ensures.back in
    let builds : xs ++ ys ≡ all_xs =
    sym (map-append meant c.split_at-3.result.0.now c.split_at-3.result.1.now)
    ∙ ap (λ bs. map meant bs) (split_is c.args.builds.now c.split_at-3.result.0.now c.split_at-3.result.1.now n c.split_at-3.ensures.front c.split_at-3.ensures.back) in
    let named : length ks ≡ length xs = c.split_at-2.ensures.front_len ∙ sym c.split_at-3.ensures.front_len ∙ sym (length-map c.split_at-3.result.0.now meant) in
    let long : length ns ≡ length xs = c.split_at.ensures.front_len ∙ sym c.split_at-3.ensures.front_len ∙ sym (length-map c.split_at-3.result.0.now meant) in
    let first : AreCoded ks (codes_in table ks ns xs) xs c.join-first.result.0 = c.join-first.ensures.first in
    let second : AreCoded ls (codes_in table ls ms ys) ys c.join-first.result.1 = c.join-first.ensures.second in
    let p = err_from_is_err_and c.from_residual.result c.from_residual.ensures.1 in
    let half = subst (λ (r : Half). AreCoded ks (codes_in table ks ns xs) xs r) c.in_err-first.was first in
    subst (λ (r : Half). AreCoded all_ks (codes_in table all_ks all_ns all_xs) all_xs r) (sym (p.1 ∙ ap (λ e. Err e) p.2))
    (first_refused table all_ks ks ls all_ns ns ms all_xs xs ys numbers newest builds named long c.in_err-first.field-0.0 half)

pub returns-in_err-second : goal.returns-in_err-second
returns-in_err-second g t c =
    let meant = g.B.HasCode.meant in
    let table : Table = c.args.table.now in
    let all_ks : List Numbers = c.args.numbers.now in
    let all_ns : List ℕ = c.args.newest.now in
    let all_xs : List Build = map meant c.args.builds.now in
    let n = length c.args.builds.now / 2 in
    let ns : List ℕ = c.split_at.result.0.now in
    let ms : List ℕ = c.split_at.result.1.now in
    let ks : List Numbers = c.split_at-2.result.0.now in
    let ls : List Numbers = c.split_at-2.result.1.now in
    let xs : List Build = map meant c.split_at-3.result.0.now in
    let ys : List Build = map meant c.split_at-3.result.1.now in
    let newest : ns ++ ms ≡ all_ns = split_is all_ns ns ms n c.split_at.ensures.front c.split_at.ensures.back in
    let numbers : ks ++ ls ≡ all_ks = split_is all_ks ks ls n c.split_at-2.ensures.front c.split_at-2.ensures.back in
    let builds : xs ++ ys ≡ all_xs =
    sym (map-append meant c.split_at-3.result.0.now c.split_at-3.result.1.now)
    ∙ ap (λ bs. map meant bs) (split_is c.args.builds.now c.split_at-3.result.0.now c.split_at-3.result.1.now n c.split_at-3.ensures.front c.split_at-3.ensures.back) in
    let named : length ks ≡ length xs = c.split_at-2.ensures.front_len ∙ sym c.split_at-3.ensures.front_len ∙ sym (length-map c.split_at-3.result.0.now meant) in
    let long : length ns ≡ length xs = c.split_at.ensures.front_len ∙ sym c.split_at-3.ensures.front_len ∙ sym (length-map c.split_at-3.result.0.now meant) in
    let first : AreCoded ks (codes_in table ks ns xs) xs c.join-first.result.0 = c.join-first.ensures.first in
    let second : AreCoded ls (codes_in table ls ms ys) ys c.join-first.result.1 = c.join-first.ensures.second in
    let p = err_from_is_err_and c.from_residual-in_err-second.result c.from_residual-in_err-second.ensures.1 in
    let half = subst (λ (r : Half). AreCoded ls (codes_in table ls ms ys) ys r) c.in_err-second.was second in
    subst (λ (r : Half). AreCoded all_ks (codes_in table all_ks all_ns all_xs) all_xs r) (sym (p.1 ∙ ap (λ e. Err e) p.2))
    (second_refused table all_ks ks ls all_ns ns ms all_xs xs ys numbers newest builds named long c.in_err-second.field-0.0 half)

pub join_halves-requires : goal.join_halves-requires
join_halves-requires g t c =
    let meant = g.B.HasCode.meant in
    let table : Table = c.args.table.now in
    let all_ks : List Numbers = c.args.numbers.now in
    let all_ns : List ℕ = c.args.newest.now in
    let all_xs : List Build = map meant c.args.builds.now in
    let n = length c.args.builds.now / 2 in
    let ns : List ℕ = c.split_at.result.0.now in
    let ms : List ℕ = c.split_at.result.1.now in
    let ks : List Numbers = c.split_at-2.result.0.now in
    let ls : List Numbers = c.split_at-2.result.1.now in
    let xs : List Build = map meant c.split_at-3.result.0.now in
    let ys : List Build = map meant c.split_at-3.result.1.now in
    let newest : ns ++ ms ≡ all_ns = split_is all_ns ns ms n c.split_at.ensures.front c.split_at.ensures.back in
    let numbers : ks ++ ls ≡ all_ks = split_is all_ks ks ls n c.split_at-2.ensures.front c.split_at-2.ensures.back in
    let builds : xs ++ ys ≡ all_xs =
    sym (map-append meant c.split_at-3.result.0.now c.split_at-3.result.1.now)
    ∙ ap (λ bs. map meant bs) (split_is c.args.builds.now c.split_at-3.result.0.now c.split_at-3.result.1.now n c.split_at-3.ensures.front c.split_at-3.ensures.back) in
    let named : length ks ≡ length xs = c.split_at-2.ensures.front_len ∙ sym c.split_at-3.ensures.front_len ∙ sym (length-map c.split_at-3.result.0.now meant) in
    let long : length ns ≡ length xs = c.split_at.ensures.front_len ∙ sym c.split_at-3.ensures.front_len ∙ sym (length-map c.split_at-3.result.0.now meant) in
    let first : AreCoded ks (codes_in table ks ns xs) xs c.join-first.result.0 = c.join-first.ensures.first in
    let second : AreCoded ls (codes_in table ls ms ys) ys c.join-first.result.1 = c.join-first.ensures.second in
    let one = subst (λ (r : Half). AreCoded ks (codes_in table ks ns xs) xs r) c.in_ok-first.was first in
    let two = subst (λ (r : Half). AreCoded ls (codes_in table ls ms ys) ys r) c.in_ok-second.was second in
    omega (arith, one.2, two.2, length-append xs ys, ap (λ (zs : List Build). length zs) builds, length-map c.args.builds.now meant, c.requires.few)

pub returns : goal.returns
returns g t c =
    let meant = g.B.HasCode.meant in
    let table : Table = c.args.table.now in
    let all_ks : List Numbers = c.args.numbers.now in
    let all_ns : List ℕ = c.args.newest.now in
    let all_xs : List Build = map meant c.args.builds.now in
    let n = length c.args.builds.now / 2 in
    let ns : List ℕ = c.split_at.result.0.now in
    let ms : List ℕ = c.split_at.result.1.now in
    let ks : List Numbers = c.split_at-2.result.0.now in
    let ls : List Numbers = c.split_at-2.result.1.now in
    let xs : List Build = map meant c.split_at-3.result.0.now in
    let ys : List Build = map meant c.split_at-3.result.1.now in
    let newest : ns ++ ms ≡ all_ns = split_is all_ns ns ms n c.split_at.ensures.front c.split_at.ensures.back in
    let numbers : ks ++ ls ≡ all_ks = split_is all_ks ks ls n c.split_at-2.ensures.front c.split_at-2.ensures.back in
    let builds : xs ++ ys ≡ all_xs =
    sym (map-append meant c.split_at-3.result.0.now c.split_at-3.result.1.now)
    ∙ ap (λ bs. map meant bs) (split_is c.args.builds.now c.split_at-3.result.0.now c.split_at-3.result.1.now n c.split_at-3.ensures.front c.split_at-3.ensures.back) in
    let named : length ks ≡ length xs = c.split_at-2.ensures.front_len ∙ sym c.split_at-3.ensures.front_len ∙ sym (length-map c.split_at-3.result.0.now meant) in
    let long : length ns ≡ length xs = c.split_at.ensures.front_len ∙ sym c.split_at-3.ensures.front_len ∙ sym (length-map c.split_at-3.result.0.now meant) in
    let first : AreCoded ks (codes_in table ks ns xs) xs c.join-first.result.0 = c.join-first.ensures.first in
    let second : AreCoded ls (codes_in table ls ms ys) ys c.join-first.result.1 = c.join-first.ensures.second in
    let one = subst (λ (r : Half). AreCoded ks (codes_in table ks ns xs) xs r) c.in_ok-first.was first in
    let two = subst (λ (r : Half). AreCoded ls (codes_in table ls ms ys) ys r) c.in_ok-second.was second in
    halves_joined table all_ks ks ls all_ns ns ms all_xs xs ys numbers newest builds named long c.in_ok-first.field-0 c.in_ok-second.field-0 c.join_halves.result one two
    c.join_halves.ensures.bodies c.join_halves.ensures.edges c.join_halves.ensures.few c.join_halves.ensures.memory
