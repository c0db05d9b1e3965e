-- The producer of an output sets the slots that the edges with this input read.
use Rattle.std.proofs.Common.{◌≡◌, ℕ, zero, suc, ◌+◌, Bool, true, false, List, [], ◌∷◌, ◌++◌, Some, refl, sym, ap, subst, ◌∙◌, arith, inl, inr}
use Rattle.std.specs.Prelude.{◌==◌, slice_get, option_map, if◌then◌else◌}
use Rattle.std.proofs.lemmas.Bool.{eqb-true, eq-eqb}
use Rattle.std.proofs.lemmas.Option.{slice_get-map}
use Rattle.plan_compile.specs.declared.layout.Output.{Output}
use Rattle.plan_compile.specs.Builds.{Build}
use Rattle.plan_compile.specs.Slots.{form_of, find, base, own_len, made, all_made}
use Rattle.plan_compile.specs.Faithful.{OneAssignment}
use Rattle.plan_compile.proofs.ListLemmas.{some_is, bool_cases}
use Rattle.plan_compile.proofs.OutputLemmas.{files_made}
use Rattle.plan_compile.proofs.LayoutLemmas.{IsMadeBy, maker}

-- no file is repeated
abbrev pub AreOnce : List Output → Type 0
AreOnce os = (i j : ℕ) (o q : Output) → slice_get os i ≡ Some o → slice_get os j ≡ Some q → o.file ≡ q.file → i ≡ j

pub finds_itself : (os : List Output) → AreOnce os → (i : ℕ) (o : Output) → slice_get os i ≡ Some o → find o.file os ≡ Some o
finds_itself [] once i o h = absurd cc
finds_itself (q ∷ os) once zero o h =
    let same : q ≡ o = some_is q o h in
    ap (λ (b : Bool). if b then Some q else find o.file os) (eq-eqb q.file o.file (ap (λ (x : Output). x.file) same)) ∙ ap (λ (x : Output). Some x) same
finds_itself (q ∷ os) once (suc i) o h =
    elim (bool_cases (q.file == o.file)) as (λ c. find o.file (q ∷ os) ≡ Some o) [
      | inl same ↦ let e : zero ≡ suc i = once zero (suc i) q o refl h (eqb-true q.file o.file same) in absurd (omega (arith, e))
      | inr other ↦
          ap (λ (b : Bool). if b then Some q else find o.file os) other
          ∙ finds_itself os (λ j k a b ha hb same. let e : suc j ≡ suc k = once (suc j) (suc k) a b ha hb same in omega (arith, e)) i o h
    ]

find_some : (os : List Output) (i : ℕ) (o : Output) → slice_get os i ≡ Some o → (q : Output) × (find o.file os ≡ Some q)
find_some [] i o h = absurd cc
find_some (q ∷ os) zero o h = (q, ap (λ (b : Bool). if b then Some q else find o.file os) (eq-eqb q.file o.file (ap (λ (x : Output). x.file) (some_is q o h))))
find_some (q ∷ os) (suc i) o h =
    elim (q.file == o.file) as (λ b. (r : Output) × ((if b then Some q else find o.file os) ≡ Some r)) [ true ↦ (q, refl) | false ↦ find_some os i o h ]

find_front : (f : ℕ) (os ps : List Output) (q : Output) → find f os ≡ Some q → find f (os ++ ps) ≡ Some q
find_front f [] ps q h = absurd cc
find_front f (o ∷ os) ps q h =
    elim (o.file == f) as (λ b. (if b then Some o else find f os) ≡ Some q → (if b then Some o else find f (os ++ ps)) ≡ Some q) [ true ↦ λ g. g | false ↦ λ g. find_front f os ps q g ] h

find_past : (f : ℕ) (os ps : List Output) (q : Output) → find f ps ≡ Some q → (r : Output) × (find f (os ++ ps) ≡ Some r)
find_past f [] ps q h = (q, h)
find_past f (o ∷ os) ps q h = elim (o.file == f) as (λ b. (r : Output) × ((if b then Some o else find f (os ++ ps)) ≡ Some r)) [ true ↦ (o, refl) | false ↦ find_past f os ps q h ]

all_some : (b : ℕ) (xs : List Build) (e : ℕ) (x : Build) (i : ℕ) (o : Output) → slice_get xs e ≡ Some x → slice_get (made (b + base xs e) x) i ≡ Some o → (q : Output) × (find o.file (all_made b xs) ≡ Some q)
all_some b [] e x i o h g = absurd cc
all_some b (y ∷ xs) zero x i o h g =
    let same : b + zero ≡ b = omega arith in
    let mine : slice_get (made b y) i ≡ Some o = ap (λ (z : Build). slice_get (made b z) i) (some_is y x h) ∙ ap (λ (n : ℕ). slice_get (made n x) i) (sym same) ∙ g in
    let q = find_some (made b y) i o mine in
    (q.0, find_front o.file (made b y) (all_made (b + own_len y) xs) q.0 q.1)
all_some b (y ∷ xs) (suc e) x i o h g =
    let same : b + own_len y + base xs e ≡ b + (own_len y + base xs e) = omega arith in
    let q = all_some (b + own_len y) xs e x i o h (ap (λ (n : ℕ). slice_get (made n x) i) same ∙ g) in
    find_past o.file (made b y) (all_made (b + own_len y) xs) q.0 q.1

-- the index of the output that was found
find_is : (f : ℕ) (os : List Output) (q : Output) → find f os ≡ Some q → (j : ℕ) × (slice_get os j ≡ Some q) × (q.file ≡ f)
find_is f [] q h = absurd cc
find_is f (o ∷ os) q h =
    elim (bool_cases (o.file == f)) as (λ c. (j : ℕ) × (slice_get (o ∷ os) j ≡ Some q) × (q.file ≡ f)) [
      | inl same ↦
          let it : o ≡ q = some_is o q (subst (λ (b : Bool). (if b then Some o else find f os) ≡ Some q) same h) in
          (zero, ap (λ (z : Output). Some z) it, ap (λ (z : Output). z.file) (sym it) ∙ eqb-true o.file f same)
      | inr other ↦
          let r = find_is f os q (subst (λ (b : Bool). (if b then Some o else find f os) ≡ Some q) other h) in
          (suc r.0, r.1, r.2)
    ]

pub file_at : (b : ℕ) (x : Build) (i : ℕ) (o : Output) → slice_get (made b x) i ≡ Some o → slice_get x.outputs i ≡ Some o.file
file_at b x i o h =
    ap (λ (fs : List ℕ). slice_get fs i) (sym (files_made (form_of x) b x.outputs))
    ∙ slice_get-map (λ (q : Output). q.file) (made b x) i ∙ ap (option_map (λ (q : Output). q.file)) h

pub one_assignment : OneAssignment
one_assignment t sound e x i o at here =
    let first : zero + base t.edges e ≡ base t.edges e = omega arith in
    let q = all_some zero t.edges e x i o at (ap (λ (n : ℕ). slice_get (made n x) i) first ∙ here) in
    let m : IsMadeBy zero t.edges o.file q.0 = maker zero t.edges o.file q.0 q.1 in
    let there = find_is o.file (made (zero + base t.edges m.edge) m.build) q.0 m.found in
    let mine : slice_get x.outputs i ≡ Some o.file = file_at (base t.edges e) x i o here in
    let theirs : slice_get m.build.outputs there.0 ≡ Some o.file = file_at (zero + base t.edges m.edge) m.build there.0 q.0 there.1 ∙ ap (λ (n : ℕ). Some n) there.2 in
    let same = sound.once e x i m.edge m.build there.0 o.file at m.here mine theirs in
    let it : m.build ≡ x = some_is m.build x (sym m.here ∙ ap (λ (n : ℕ). slice_get t.edges n) (sym same.0) ∙ at) in
    let second : zero + base t.edges m.edge ≡ base t.edges e = let d : m.edge ≡ e = sym same.0 in ap (λ (n : ℕ). zero + base t.edges n) d ∙ first in
    let both : slice_get (made (base t.edges e) x) i ≡ Some q.0 =
    ap (λ (n : ℕ). slice_get (made (base t.edges e) x) n) same.1 ∙ ap (λ (n : ℕ). slice_get (made n x) there.0) (sym second)
    ∙ ap (λ (z : Build). slice_get (made (zero + base t.edges m.edge) z) there.0) (sym it) ∙ there.1 in
    q.1 ∙ (sym both ∙ here)
