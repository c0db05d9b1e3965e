-- The edges of two halves, joined, are the edges of both.
use Rattle.std.proofs.Common.{◌≡◌, ◌≤◌, ℕ, zero, suc, ◌+◌, true, false, List, [], ◌∷◌, ◌++◌, length, drop, map, take, Ok, Some, refl, sym, ap, subst, ◌∙◌, arith}
use Rattle.std.specs.Prelude.{◌||◌, Err, IfErr, IfOk, Result, get_or, option_map, slice_get}
use Rattle.std.specs.List.{list_any}
use Rattle.std.proofs.lemmas.List.{length-append, map-append, take-append-drop}
use Rattle.std.proofs.lemmas.Option.{slice_get-map}
use Rattle.plan_image.specs.declared.body.Instr.{Instr}
use Rattle.plan_image.specs.declared.image.Edge.{Edge}
use Rattle.plan_image.specs.Bodies.{body_of, operands_of}
use Rattle.plan_image.specs.declared.image.EdgeCode.TheVariants.{Shared}
use Rattle.plan_compile.specs.declared.fault.CompileFault.{CompileFault}
use Rattle.plan_compile.specs.declared.fault.CompileFault.TheVariants.{Limit, Memory}
use Rattle.plan_compile.specs.declared.numbers.Numbers.{Numbers}
use Rattle.plan_compile.specs.Assembling.{AreCoded, codes_in, edge_in, edges_in, layout_in}
use Rattle.plan_compile.specs.BodyKeys.{Body, same_body}
use Rattle.plan_compile.specs.Builds.{Build}
use Rattle.plan_compile.specs.Emit.{code_of}
use Rattle.plan_compile.specs.Images.{shared, used_bodies}
use Rattle.plan_compile.specs.Numbering.{has, number, once, with_items}
use Rattle.plan_compile.specs.OutputTable.{Table}
use Rattle.plan_compile.specs.Refusals.{RefusesCodes, is_too_long}
use Rattle.plan_compile.specs.Renumbering.{renumbered}
use Rattle.plan_compile.specs.Slots.{form_of}
use Rattle.plan_compile.proofs.BodyKeyLemmas.{bodies_decide}
use Rattle.plan_compile.proofs.ListLemmas.{or_right, some_is}
use Rattle.plan_compile.proofs.NumberingLemmas.{Keeps, items_have, items_join, items_keep, items_once, leads}

get_mapped : {A : Type 0} (f : A → ℕ) (xs : List A) (n : ℕ) (x : A) → slice_get xs n ≡ Some x → get_or (map f xs) n 0 ≡ f x
get_mapped f [] n x h = absurd cc
get_mapped f (y ∷ xs) zero x h = ap f (some_is y x h)
get_mapped f (y ∷ xs) (suc n) x h = get_mapped f xs n x h

-- ---- codes and edges of two halves

module _ (table : Table) where
  codes_join : (ks ls : List Numbers) (ns ms : List ℕ) (xs ys : List Build) → length ks ≡ length xs → length ns ≡ length xs
      → codes_in table (ks ++ ls) (ns ++ ms) (xs ++ ys) ≡ codes_in table ks ns xs ++ codes_in table ls ms ys
  codes_join [] ls [] ms [] ys named long = refl
  codes_join (k ∷ ks) ls ns ms [] ys named long = absurd cc
  codes_join [] ls (n ∷ ns) ms [] ys named long = absurd cc
  codes_join [] ls ns ms (x ∷ xs) ys named long = absurd cc
  codes_join (k ∷ ks) ls [] ms (x ∷ xs) ys named long = absurd cc
  codes_join (k ∷ ks) ls (n ∷ ns) ms (x ∷ xs) ys named long =
      let rest_named : length ks ≡ length xs = cc in
      let rest_long : length ns ≡ length xs = cc in
      ap (λ (cs : List (List Instr)). code_of (layout_in (form_of x) k table n x) ∷ cs) (codes_join ks ls ns ms xs ys rest_named rest_long)

  codes_length : (ks : List Numbers) (ns : List ℕ) (xs : List Build) → length ks ≡ length xs → length ns ≡ length xs → length (codes_in table ks ns xs) ≡ length xs
  codes_length [] [] [] named long = refl
  codes_length (k ∷ ks) ns [] named long = absurd cc
  codes_length [] (n ∷ ns) [] named long = absurd cc
  codes_length [] ns (x ∷ xs) named long = absurd cc
  codes_length (k ∷ ks) [] (x ∷ xs) named long = absurd cc
  codes_length (k ∷ ks) (n ∷ ns) (x ∷ xs) named long =
      let rest_named : length ks ≡ length xs = cc in
      let rest_long : length ns ≡ length xs = cc in
      ap suc (codes_length ks ns xs rest_named rest_long)

edges_join : (bodies : List Body) (ks ls : List Numbers) (cs ds : List (List Instr)) (xs ys : List Build) → length ks ≡ length xs → length cs ≡ length xs
    → edges_in bodies (ks ++ ls) (cs ++ ds) (xs ++ ys) ≡ edges_in bodies ks cs xs ++ edges_in bodies ls ds ys
edges_join bodies [] ls [] ds [] ys named coded = refl
edges_join bodies (k ∷ ks) ls cs ds [] ys named coded = absurd cc
edges_join bodies [] ls (c ∷ cs) ds [] ys named coded = absurd cc
edges_join bodies [] ls cs ds (x ∷ xs) ys named coded = absurd cc
edges_join bodies (k ∷ ks) ls [] ds (x ∷ xs) ys named coded = absurd cc
edges_join bodies (k ∷ ks) ls (c ∷ cs) ds (x ∷ xs) ys named coded =
    let rest_named : length ks ≡ length xs = cc in
    let rest_coded : length cs ≡ length xs = cc in
    ap (λ (es : List Edge). edge_in k (shared bodies c) x ∷ es) (edges_join bodies ks ls cs ds xs ys rest_named rest_coded)

-- each of these codes has its body in the list
abbrev HaveBodies : List Body → List (List Instr) → Type 0
HaveBodies bodies cs = (n : ℕ) (c : List Instr) → slice_get cs n ≡ Some c → has same_body bodies (body_of c) ≡ true

have_bodies : (cs : List (List Instr)) → HaveBodies (used_bodies cs) cs
have_bodies cs n c at =
    items_have same_body bodies_decide [] (map body_of cs) n (body_of c) (slice_get-map body_of cs n ∙ ap (option_map body_of) at)

edges_stay : (old new : List Body) → Keeps same_body bodies_decide old new → (ks : List Numbers) (cs : List (List Instr)) (xs : List Build) → HaveBodies old cs
    → edges_in old ks cs xs ≡ edges_in new ks cs xs
edges_stay old new kept [] cs xs there = refl
edges_stay old new kept (k ∷ ks) [] xs there = refl
edges_stay old new kept (k ∷ ks) (c ∷ cs) [] there = refl
edges_stay old new kept (k ∷ ks) (c ∷ cs) (x ∷ xs) there =
    ap (λ (n : ℕ). edge_in k (Shared n (operands_of c)) x ∷ edges_in old ks cs xs) (sym (kept (body_of c) (there zero c refl)).stays)
    ∙ ap (λ (es : List Edge). edge_in k (shared new c) x ∷ es) (edges_stay old new kept ks cs xs (λ n d h. there (suc n) d h))

edges_renumbered : (old new : List Body) (ks : List Numbers) (cs : List (List Instr)) (xs : List Build) → HaveBodies old cs
    → map (renumbered (map (λ b. number same_body b new) old)) (edges_in old ks cs xs) ≡ edges_in new ks cs xs
edges_renumbered old new [] cs xs there = refl
edges_renumbered old new (k ∷ ks) [] xs there = refl
edges_renumbered old new (k ∷ ks) (c ∷ cs) [] there = refl
edges_renumbered old new (k ∷ ks) (c ∷ cs) (x ∷ xs) there =
    let numbers : List ℕ = map (λ b. number same_body b new) old in
    let at : slice_get old (number same_body (body_of c) old) ≡ Some (body_of c) = leads same_body bodies_decide (body_of c) old (there zero c refl) in
    ap (λ (n : ℕ). edge_in k (Shared n (operands_of c)) x ∷ map (renumbered numbers) (edges_in old ks cs xs))
    (get_mapped (λ b. number same_body b new) old (number same_body (body_of c) old) (body_of c) at)
    ∙ ap (λ (es : List Edge). edge_in k (shared new c) x ∷ es) (edges_renumbered old new ks cs xs (λ n d h. there (suc n) d h))

-- ---- both halves

-- what is joined of the edges and bodies of two halves
abbrev pub AreJoined : (first second both : List Edge × List Body) → Type 0
AreJoined first second both =
    (both.1 ≡ with_items same_body first.1 second.1) × (both.0 ≡ first.0 ++ map (renumbered (map (λ b. number same_body b both.1) second.1)) second.0) × (length both.1 ≤ length first.1 + length second.1)

both_coded : (ks ls : List Numbers) (cs ds : List (List Instr)) (xs ys : List Build) (first second both : List Edge × List Body) → length ks ≡ length xs → length cs ≡ length xs
    → AreCoded ks cs xs (Ok first) → AreCoded ls ds ys (Ok second) → AreJoined first second both → AreCoded (ks ++ ls) (cs ++ ds) (xs ++ ys) (Ok both)
both_coded ks ls cs ds xs ys first second both named coded one two joined =
    let bodies : both.1 ≡ used_bodies (cs ++ ds) =
    joined.0
    ∙ ap (λ (bs : List Body). with_items same_body bs second.1) one.0
    ∙ ap (λ (bs : List Body). with_items same_body (used_bodies cs) bs) two.0
    ∙ items_once same_body bodies_decide (used_bodies cs) (map body_of ds)
    ∙ sym (items_join same_body bodies_decide [] (map body_of cs) (map body_of ds))
    ∙ ap (λ (bs : List Body). once same_body bs) (sym (map-append body_of cs ds)) in
    let kept : Keeps same_body bodies_decide (used_bodies cs) both.1 =
    subst (λ (bs : List Body). Keeps same_body bodies_decide (used_bodies cs) bs) (sym (joined.0 ∙ ap (λ (bs : List Body). with_items same_body bs second.1) one.0))
    (items_keep same_body bodies_decide (used_bodies cs) second.1) in
    let front : first.0 ≡ edges_in both.1 ks cs xs = one.1 ∙ edges_stay (used_bodies cs) both.1 kept ks cs xs (have_bodies cs) in
    let numbers : List Body → List ℕ = λ bs. map (λ b. number same_body b both.1) bs in
    let back : map (renumbered (numbers second.1)) second.0 ≡ edges_in both.1 ls ds ys =
    ap (λ (bs : List Body). map (renumbered (numbers bs)) second.0) two.0
    ∙ ap (λ (es : List Edge). map (renumbered (numbers (used_bodies ds))) es) two.1
    ∙ edges_renumbered (used_bodies ds) both.1 ls ds ys (have_bodies ds) in
    let few_first = one.2 in
    let few_second = two.2 in
    let few = joined.2 in (
      bodies,
      joined.1
          ∙ ap (λ (es : List Edge). es ++ map (renumbered (numbers second.1)) second.0) front
          ∙ ap (λ (es : List Edge). edges_in both.1 ks cs xs ++ es) back
          ∙ sym (edges_join both.1 ks ls cs ds xs ys named coded)
          ∙ ap (λ (bs : List Body). edges_in bs (ks ++ ls) (cs ++ ds) (xs ++ ys)) bodies,
      omega (arith, few, few_first, few_second, length-append xs ys),
    )

-- ---- all edges, of which these are the halves

any_first : (cs ds : List (List Instr)) → list_any is_too_long cs ≡ true → list_any is_too_long (cs ++ ds) ≡ true
any_first [] ds h = absurd cc
any_first (c ∷ cs) ds h =
    elim (is_too_long c) as (λ b. (b || list_any is_too_long cs) ≡ true → (b || list_any is_too_long (cs ++ ds)) ≡ true) [ true ↦ λ g. refl | false ↦ λ g. any_first cs ds g ] h

any_second : (cs ds : List (List Instr)) → list_any is_too_long ds ≡ true → list_any is_too_long (cs ++ ds) ≡ true
any_second [] ds h = h
any_second (c ∷ cs) ds h = or_right (is_too_long c) (list_any is_too_long (cs ++ ds)) (any_second cs ds h)

refused_first : (fault : CompileFault) (cs ds : List (List Instr)) → RefusesCodes fault cs → RefusesCodes fault (cs ++ ds)
refused_first Limit cs ds h = any_first cs ds h
refused_first Memory cs ds h = h

refused_second : (fault : CompileFault) (cs ds : List (List Instr)) → RefusesCodes fault ds → RefusesCodes fault (cs ++ ds)
refused_second Limit cs ds h = any_second cs ds h
refused_second Memory cs ds h = h

-- the two parts of a list that is split
pub split_is : {A : Type 0} (xs front back : List A) (n : ℕ) → front ≡ take n xs → back ≡ drop n xs → front ++ back ≡ xs
split_is xs front back n f b = ap (λ ys. ys ++ back) f ∙ ap (λ ys. take n xs ++ ys) b ∙ take-append-drop n xs

module _ (table : Table) (all_ks ks ls : List Numbers) (all_ns ns ms : List ℕ) (all_xs xs ys : List Build) (numbers : ks ++ ls ≡ all_ks) (newest : ns ++ ms ≡ all_ns) (builds : xs ++ ys ≡ all_xs)
    (named : length ks ≡ length xs) (long : length ns ≡ length xs) where
  abbrev all_codes : List (List Instr)
  all_codes = codes_in table all_ks all_ns all_xs

  codes_split : codes_in table ks ns xs ++ codes_in table ls ms ys ≡ all_codes
  codes_split =
      sym (codes_join table ks ls ns ms xs ys named long)
      ∙ ap (λ (js : List Numbers). codes_in table js (ns ++ ms) (xs ++ ys)) numbers
      ∙ ap (λ (os : List ℕ). codes_in table all_ks os (xs ++ ys)) newest
      ∙ ap (λ (zs : List Build). codes_in table all_ks all_ns zs) builds

  -- what is joined of both halves are the edges and bodies of all
  pub halves_coded : (first second both : List Edge × List Body) → AreCoded ks (codes_in table ks ns xs) xs (Ok first) → AreCoded ls (codes_in table ls ms ys) ys (Ok second)
      → AreJoined first second both → AreCoded all_ks all_codes all_xs (Ok both)
  halves_coded first second both one two joined =
      subst (λ (cs : List (List Instr)). AreCoded all_ks cs all_xs (Ok both)) codes_split
      (subst (λ (zs : List Build). AreCoded all_ks (codes_in table ks ns xs ++ codes_in table ls ms ys) zs (Ok both)) builds
      (subst (λ (js : List Numbers). AreCoded js (codes_in table ks ns xs ++ codes_in table ls ms ys) (xs ++ ys) (Ok both)) numbers
      (both_coded ks ls (codes_in table ks ns xs) (codes_in table ls ms ys) xs ys first second both named (codes_length table ks ns xs named long) one two joined)))

  -- the edges of a half are refused only if all are
  pub first_refused : (fault : CompileFault) → RefusesCodes fault (codes_in table ks ns xs) → RefusesCodes fault all_codes
  first_refused fault h = subst (λ (cs : List (List Instr)). RefusesCodes fault cs) codes_split (refused_first fault (codes_in table ks ns xs) (codes_in table ls ms ys) h)

  pub second_refused : (fault : CompileFault) → RefusesCodes fault (codes_in table ls ms ys) → RefusesCodes fault all_codes
  second_refused fault h = subst (λ (cs : List (List Instr)). RefusesCodes fault cs) codes_split (refused_second fault (codes_in table ks ns xs) (codes_in table ls ms ys) h)

-- halves that can't be joined want memory
pub memory_refused : (fault : CompileFault) (cs : List (List Instr)) → fault ≡ Memory → RefusesCodes fault cs
memory_refused Memory cs h = tt
memory_refused Limit cs h = absurd cc

module _ (table : Table) (all_ks ks ls : List Numbers) (all_ns ns ms : List ℕ) (all_xs xs ys : List Build) (numbers : ks ++ ls ≡ all_ks) (newest : ns ++ ms ≡ all_ns) (builds : xs ++ ys ≡ all_xs)
    (named : length ks ≡ length xs) (long : length ns ≡ length xs) where
  -- what joining the halves gives, be it edges or a fault
  pub halves_joined : (first second : List Edge × List Body) (both : Result (List Edge × List Body) CompileFault) → AreCoded ks (codes_in table ks ns xs) xs (Ok first)
      → AreCoded ls (codes_in table ls ms ys) ys (Ok second) → IfOk both (λ r. r.1 ≡ with_items same_body first.1 second.1)
      → IfOk both (λ r. r.0 ≡ first.0 ++ map (renumbered (map (λ b. number same_body b r.1) second.1)) second.0) → IfOk both (λ r. length r.1 ≤ length first.1 + length second.1)
      → IfErr both (λ fault. fault ≡ Memory) → AreCoded all_ks (codes_in table all_ks all_ns all_xs) all_xs both
  halves_joined first second (Ok r) one two bodies edges few memory =
      halves_coded table all_ks ks ls all_ns ns ms all_xs xs ys numbers newest builds named long first second r one two (bodies, edges, few)
  halves_joined first second (Err fault) one two bodies edges few memory = memory_refused fault (codes_in table all_ks all_ns all_xs) memory
