-- The results of look-ups in the table of outputs are those of the specification.
use Rattle.std.proofs.Common.{◌≡◌, ℕ, zero, suc, ◌<◌, Bool, true, false, List, [], ◌∷◌, replicate, Option, Some, None, refl, sym, ap, ◌∙◌, arith, inl, inr}
use Rattle.std.specs.Prelude.{◌||◌, ◌==◌, slice_get, slice_set, if◌then◌else◌, nat_le, is_some}
use Rattle.std.specs.List.{list_any}
use Rattle.std.proofs.lemmas.Bool.{eqb-true, eq-eqb, leb-false}
use Rattle.std.proofs.lemmas.Option.{slice_get_within}
use Rattle.plan_verify.specs.Members.{is_member}
use Rattle.plan_compile.specs.declared.layout.Input.{Input}
use Rattle.plan_compile.specs.declared.layout.Output.{Output}
use Rattle.plan_compile.specs.OutputTable.{Table, put, put_in, filled, found, inputs_in, is_unmade, is_other_source, sources_in, with_found, outputs_in}
use Rattle.plan_compile.specs.Means.{files_of}
use Rattle.plan_compile.specs.Slots.{find, input_by, inputs_by, sources}
use Rattle.plan_compile.proofs.SlotFacts.{get_same, get_other}
use Rattle.plan_compile.proofs.ListLemmas.{bool_cases, or_false}

-- ---- other numbers with the same members

pub sources_same : (table : Table) (a b fs : List ℕ) → ((s : ℕ) → is_member s a ≡ is_member s b) → sources_in table a fs ≡ sources_in table b fs
sources_same table a b [] h = refl
sources_same table a b (f ∷ fs) h =
    ap (λ (c : Bool). if is_unmade (found (slice_get table f)) c then f ∷ sources_in table a fs else sources_in table a fs) (h f)
    ∙ ap (λ (gs : List ℕ). if is_other_source table b f then f ∷ gs else gs) (sources_same table a b fs h)

-- ---- the filled table shows the first output that is a file

-- the present output, or else the new one
abbrev or_find : Option Output → Option Output → Option Output
or_find (Some o) other = Some o
or_find None other = other

put_same : (table : Table) (o : Output) (f : ℕ) (there : Option Output) → slice_get table f ≡ Some there → (o.file == f) ≡ true → slice_get (put table o) f ≡ Some (or_find there (Some o))
put_same table o f (Some q) h same =
    let e : slice_get table o.file ≡ Some (Some q) = ap (λ (n : ℕ). slice_get table n) (eqb-true o.file f same) ∙ h in
    ap (λ (c : Option (Option Output)). slice_get (put_in table o c) f) e ∙ h
put_same table o f None h same =
    let e : slice_get table o.file ≡ Some None = ap (λ (n : ℕ). slice_get table n) (eqb-true o.file f same) ∙ h in
    ap (λ (c : Option (Option Output)). slice_get (put_in table o c) f) e
    ∙ ap (λ (n : ℕ). slice_get (slice_set table o.file (Some o)) n) (sym (eqb-true o.file f same))
    ∙ get_same table o.file (Some o) (slice_get_within table o.file None e)

put_other : (table : Table) (o : Output) (f : ℕ) (c : Option (Option Output)) → (f ≡ o.file → ⊥) → slice_get (put_in table o c) f ≡ slice_get table f
put_other table o f (Some None) apart = get_other table o.file f (Some o) apart
put_other table o f (Some (Some q)) apart = refl
put_other table o f None apart = refl

or_more : (there : Option Output) (o : Output) (more : Option Output) → or_find (or_find there (Some o)) more ≡ or_find there (Some o)
or_more (Some q) o more = refl
or_more None o more = refl

looked : (os : List Output) (table : Table) (f : ℕ) (there : Option Output) → slice_get table f ≡ Some there → slice_get (filled table os) f ≡ Some (or_find there (find f os))
looked [] table f (Some q) h = h
looked [] table f None h = h
looked (o ∷ os) table f there h =
    elim (bool_cases (o.file == f)) as (λ c. slice_get (filled (put table o) os) f ≡ Some (or_find there (find f (o ∷ os)))) [
      | inl same ↦
          looked os (put table o) f (or_find there (Some o)) (put_same table o f there h same)
          ∙ ap (λ (x : Option Output). Some x) (or_more there o (find f os))
          ∙ ap (λ (b : Bool). Some (or_find there (if b then Some o else find f os))) (sym same)
      | inr other ↦
          looked os (put table o) f there (put_other table o f (slice_get table o.file) (λ e. let same : (o.file == f) ≡ true = eq-eqb o.file f (sym e) in absurd cc) ∙ h)
          ∙ ap (λ (b : Bool). Some (or_find there (if b then Some o else find f os))) (sym other)
    ]

abbrev none : Option Output
none = None

empty_at : (n f : ℕ) → f < n → slice_get (replicate n none) f ≡ Some none
empty_at zero f lt = absurd (omega arith)
empty_at (suc n) zero lt = refl
empty_at (suc n) (suc f) lt = empty_at n f (omega (arith, lt))

-- the table of n files
abbrev pub table_of : ℕ → List Output → Table
table_of n os = filled (replicate n none) os

pub found_is : (n : ℕ) (os : List Output) (f : ℕ) → nat_le n f ≡ false → found (slice_get (table_of n os) f) ≡ find f os
found_is n os f inside = ap found (looked os (replicate n none) f None (empty_at n f (leb-false n f inside)))

pub inputs_meant : (n : ℕ) (os : List Output) (fs : List ℕ) → list_any (λ f. nat_le n f) fs ≡ false → inputs_in (table_of n os) fs ≡ inputs_by os fs
inputs_meant n os [] inside = refl
inputs_meant n os (f ∷ fs) inside =
    let o = or_false (nat_le n f) (list_any (λ g. nat_le n g) fs) inside in
    ap (λ (c : Option Output). input_by f c ∷ inputs_in (table_of n os) fs) (found_is n os f o.0)
    ∙ ap (λ (is : List Input). input_by f (find f os) ∷ is) (inputs_meant n os fs o.1)

source_is : (o : Option Output) (named : Bool) (f : ℕ) (rest : List ℕ) → (if is_unmade o named then f ∷ rest else rest) ≡ (if is_some o || named then rest else f ∷ rest)
source_is (Some o) named f rest = refl
source_is None true f rest = refl
source_is None false f rest = refl

pub sources_meant : (n : ℕ) (os : List Output) (named fs : List ℕ) → list_any (λ f. nat_le n f) fs ≡ false → sources_in (table_of n os) named fs ≡ sources os named fs
sources_meant n os named [] inside = refl
sources_meant n os named (f ∷ fs) inside =
    let o = or_false (nat_le n f) (list_any (λ g. nat_le n g) fs) inside in
    let rest : List ℕ = sources_in (table_of n os) named fs in
    ap (λ (c : Option Output). if is_unmade c (is_member f named) then f ∷ rest else rest) (found_is n os f o.0)
    ∙ source_is (find f os) (is_member f named) f rest
    ∙ ap (λ (gs : List ℕ). if is_some (find f os) || is_member f named then gs else f ∷ gs) (sources_meant n os named fs o.1)

-- ---- the outputs of an edge

pub found_outputs : (table : Table) (os : List Output) → ((i : ℕ) (o : Output) → slice_get os i ≡ Some o → found (slice_get table o.file) ≡ Some o) → outputs_in table (files_of os) ≡ os
found_outputs table [] h = refl
found_outputs table (o ∷ os) h =
    ap (λ (c : Option Output). with_found c (outputs_in table (files_of os))) (h zero o refl)
    ∙ ap (λ (ps : List Output). o ∷ ps) (found_outputs table os (λ i p g. h (suc i) p g))
