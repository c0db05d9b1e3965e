-- The comparisons, as the code makes them.
use Rattle.std.proofs.Common.{◌≡◌, ℕ, ◌<◌, ◌≤◌, Bool, true, false, List, [], ◌∷◌, ◌++◌, map, Option, Some, None, refl, sym, ap, ◌∙◌, arith}
use Rattle.std.specs.Prelude.{◌||◌, ◌&&◌, not, nat_lt, nat_le, if◌then◌else◌, ◌==◌}
use Rattle.std.proofs.lemmas.Bool.{eqb-true, eq-eqb, ne_eqb, lt-ltb, leb-true, leb-false}
use Rattle.plan_verify.specs.Turn.{Meaning, earlier, later, Deps}
use Rattle.plan_compile.specs.InteractionTree.{InteractionTree, Ask, Left}
use Rattle.plan_compile.specs.declared.baseline.Baseline.{Baseline}
use Rattle.plan_compile.specs.declared.baseline.Baseline.TheVariants.{Outputs, Basis, OutputsAndBasis}
use Rattle.plan_compile.specs.declared.layout.Output.{Output}
use Rattle.plan_compile.specs.Rule.{Path, Command, Recorded, greatest_from, greatest, least_from, least, some_missing, some_changed, is_new, baseline, is_dirty, changed, depfile, read}
use Rattle.plan_compile.proofs.Machine.{missing_from}
use Rattle.plan_compile.proofs.Folds.{AreMatched, later_left, or_assoc, or_false_right}

pub greatest_app : (n : ℕ) (xs ys : List ℕ) → greatest_from n (xs ++ ys) ≡ greatest_from (greatest_from n xs) ys
greatest_app n [] ys = refl
greatest_app n (x ∷ xs) ys = greatest_app (later n x) xs ys

pub greatest_more : (n : ℕ) (ts : List ℕ) → n ≤ greatest_from n ts
greatest_more n [] = omega arith
greatest_more n (t ∷ ts) = let a : n ≤ later n t = later_left n t in let b : later n t ≤ greatest_from (later n t) ts = greatest_more (later n t) ts in omega (arith, a, b)

pub or_absorbs : (x y : Bool) → (y ≡ true → x ≡ true) → x ≡ (x || y)
or_absorbs true y h = refl
or_absorbs false true h = h refl
or_absorbs false false h = refl

pub earlier_missing : (a b : ℕ) → (earlier a b == 0) ≡ ((a == 0) || (b == 0))
earlier_missing a b = by_test (nat_le a b) refl where
  by_test : (t : Bool) → nat_le a b ≡ t → ((if t then a else b) == 0) ≡ ((a == 0) || (b == 0))
  by_test true is =
      or_absorbs (a == 0) (b == 0) (λ none. let le : a ≤ b = leb-true a b is in let zero_is : b ≡ 0 = eqb-true b 0 none in eq-eqb a 0 (omega (arith, le, zero_is)))
  by_test false is =
      let lt : b < a = leb-false a b is in
      let some : (a == 0) ≡ false = ne_eqb a 0 (λ same. omega (arith, lt, same)) in
      ap (λ (x : Bool). x || (b == 0)) (sym some)

pub or_chain : (a b c d m : Bool) → c ≡ false → (a || b || c || d || m) ≡ (((a || b) || d) || m)
or_chain true b c d m h = refl
or_chain false true c d m h = refl
or_chain false false true d m h = absurd cc
or_chain false false false d m h = refl

pub new_chain : (a b c d m : Bool) → c ≡ true → (a || b || c || d || m) ≡ true
new_chain true b c d m h = refl
new_chain false true c d m h = refl
new_chain false false true d m h = refl
new_chain false false false d m h = absurd cc

abbrev pub basis_in : Option Recorded → ℕ
basis_in (Some entry) = entry.basis
basis_in None = 0

pub changed_plain : (restat : Bool) (os : List Output) (old new : List ℕ) → restat ≡ false → AreMatched os old → AreMatched os new → changed restat old new ≡ map (λ t. (t, true)) new
changed_plain true os old new h a b = absurd cc
changed_plain false [] [] [] h a b = refl
changed_plain false [] (o ∷ old) new h a b = absurd a
changed_plain false [] [] (n ∷ new) h a b = absurd b
changed_plain false (x ∷ os) [] new h a b = absurd a
changed_plain false (x ∷ os) (o ∷ old) [] h a b = absurd b
changed_plain false (x ∷ os) (o ∷ old) (n ∷ new) h a b = ap (λ (xs : Left). (n, true) ∷ xs) (changed_plain false os old new refl a b)

pub depfile_asks : (meaning : Meaning) (d : List ℕ) (go : List Path → InteractionTree) → (d ≡ [] → ⊥) → depfile meaning d go ≡ Ask (Deps d) (read meaning go)
depfile_asks meaning [] go some = absurd (some refl)
depfile_asks meaning (x ∷ xs) go some = refl

pub least_missing : (t : ℕ) (ts : List ℕ) → (least_from t ts == 0) ≡ ((t == 0) || some_missing ts)
least_missing t [] = sym (or_false_right (t == 0))
least_missing t (u ∷ us) = least_missing (earlier t u) us ∙ (ap (λ (b : Bool). b || some_missing us) (earlier_missing t u) ∙ or_assoc (t == 0) (u == 0) (some_missing us))

-- an output is missing if and only if the least stamp is 0
pub missing_least : (old : List ℕ) → (old ≡ [] → ⊥) → (least old == 0) ≡ some_missing old
missing_least [] some = absurd (some refl)
missing_least (t ∷ ts) some = least_missing t ts

pub or_swallows : (a m x : Bool) → (a ≡ true → x ≡ true) → (m || x) ≡ ((a || m) || x)
or_swallows true true x h = refl
or_swallows true false x h = h refl
or_swallows false m x h = refl

pub or_true : (b : Bool) → (b || true) ≡ true
or_true true = refl
or_true false = refl

-- a baseline that is no later than the oldest output is 0 if an output is missing
pub baseline_none : (b : Baseline) (old : List ℕ) (entry : Option Recorded) → (b ≡ Basis → ⊥) → least old ≡ 0 → baseline b old entry ≡ 0
baseline_none Outputs old entry other none = none
baseline_none Basis old entry other none = absurd (other refl)
baseline_none OutputsAndBasis old None other none = none
baseline_none OutputsAndBasis old (Some y) other none =
    eqb-true (earlier y.basis (least old)) 0 (earlier_missing y.basis (least old) ∙ (ap (λ (n : ℕ). (y.basis == 0) || (n == 0)) none ∙ or_true (y.basis == 0)))

-- the earlier of the oldest output and itself
pub earlier_same : (n : ℕ) → earlier n n ≡ n
earlier_same n = by_test (nat_le n n) where
  by_test : (t : Bool) → (if t then n else n) ≡ n
  by_test true = refl
  by_test false = refl

module _ (c : Command) (named old : List ℕ) (entry : Option Recorded) where
  pub missing_is : (b : Bool) (ts : List ℕ) → missing_from b ts ≡ (b || some_missing ts)
  missing_is b [] = sym (or_false_right b)
  missing_is b (t ∷ ts) = missing_is (b || (t == 0)) ts ∙ or_assoc b (t == 0) (some_missing ts)

  -- If its command doesn't differ, the edge is dirty by the rerun flag with which the sweep continues, or by its
  -- baseline.
  pub dirty_is : (swept : List ℕ) → (not c.generator && is_new c.command entry) ≡ false
      → is_dirty c named old entry swept ≡ (missing_from (some_missing old || some_changed c.named) swept || nat_lt (baseline c.baseline old entry) (greatest_from (greatest named) swept))
  dirty_is swept same =
      or_chain (some_missing old) (some_changed c.named) (not c.generator && is_new c.command entry) (some_missing swept) (nat_lt (baseline c.baseline old entry) (greatest (named ++ swept))) same
      ∙ (ap (λ (b : Bool). b || nat_lt (baseline c.baseline old entry) (greatest (named ++ swept))) (sym (missing_is (some_missing old || some_changed c.named) swept))
      ∙ ap (λ (n : ℕ). missing_from (some_missing old || some_changed c.named) swept || nat_lt (baseline c.baseline old entry) n) (greatest_app 0 named swept))

  pub dirty_new : (swept : List ℕ) → (not c.generator && is_new c.command entry) ≡ true → is_dirty c named old entry swept ≡ true
  dirty_new swept fresh = new_chain (some_missing old) (some_changed c.named) (not c.generator && is_new c.command entry) (some_missing swept) (nat_lt (baseline c.baseline old entry) (greatest (named ++ swept))) fresh

  -- a missing output is older than any input that exists
  pub dirty_later : (swept : List ℕ) → (c.baseline ≡ Basis → ⊥) → (old ≡ [] → ⊥) → 0 < greatest named → some_missing old ≡ true → nat_lt (baseline c.baseline old entry) (greatest_from (greatest named) swept) ≡ true
  dirty_later swept plain some positive missing =
      let zero_is : least old ≡ 0 = eqb-true (least old) 0 (missing_least old some ∙ missing) in
      let baseline_is : baseline c.baseline old entry ≡ 0 = baseline_none c.baseline old entry plain zero_is in
      let more : greatest named ≤ greatest_from (greatest named) swept = greatest_more (greatest named) swept in
      ap (λ (n : ℕ). nat_lt n (greatest_from (greatest named) swept)) baseline_is ∙ lt-ltb 0 (greatest_from (greatest named) swept) (omega (arith, more, positive))

  -- the same without a test of the outputs
  pub dirty_unlooked : (swept : List ℕ) → (not c.generator && is_new c.command entry) ≡ false → (c.baseline ≡ Basis → ⊥) → (old ≡ [] → ⊥) → 0 < greatest named
      → is_dirty c named old entry swept ≡ (missing_from (some_changed c.named) swept || nat_lt (baseline c.baseline old entry) (greatest_from (greatest named) swept))
  dirty_unlooked swept same plain some positive =
      let x : Bool = nat_lt (baseline c.baseline old entry) (greatest_from (greatest named) swept) in
      dirty_is swept same
      ∙ (ap (λ (b : Bool). b || x) (missing_is (some_missing old || some_changed c.named) swept ∙ or_assoc (some_missing old) (some_changed c.named) (some_missing swept))
      ∙ (sym (or_swallows (some_missing old) (some_changed c.named || some_missing swept) x (dirty_later swept plain some positive))
      ∙ ap (λ (b : Bool). b || x) (sym (missing_is (some_changed c.named) swept))))
