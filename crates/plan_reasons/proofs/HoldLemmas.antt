-- What the first reason says holds.
use Rattle.std.proofs.Common.{◌≡◌, ℕ, zero, suc, ◌+◌, Bool, true, false, List, [], ◌∷◌, ◌++◌, map, Option, Some, None, refl, sym, ap, ◌∙◌, subst, arith}
use Rattle.std.specs.Prelude.{◌==◌, not, ◌&&◌, nat_lt, option_map, if◌then◌else◌, slice_get}
use Rattle.std.proofs.lemmas.Bool.{eqb-true}
use Rattle.plan_verify.specs.Turn.{same_text}
use Rattle.plan_compile.specs.Rule.{Given, SourceFile, Made, Command, Recorded, is_new, baseline}
use Rattle.plan_reasons.specs.declared.reason.Reason.{Reason}
use Rattle.plan_reasons.specs.declared.reason.Reason.TheVariants.{OutputMissing, InputChanged, NeverBuilt, NotFinished, OtherCommand, PathMissing, Newer}
use Rattle.plan_reasons.specs.Facts.{named_input, facts_of}
use Rattle.plan_reasons.specs.Observing.{Observations}
use Rattle.plan_reasons.specs.Reasons.{first_at, first_changed, or_else, is_missing, is_start, entry_reason, path_reason, command_reason, newer_reason, Holds, ReasonsHold}

some_is : {A : Type 0} (x y : A) → Some x ≡ Some y → x ≡ y
some_is x y h = cc

-- ---- what a search found

abbrev IsFound : (ℕ → Bool) → ℕ → List ℕ → ℕ → Type 0
IsFound test k ts n = (i : ℕ) × (k + i ≡ n) × (t : ℕ) × (slice_get ts i ≡ Some t) × (test t ≡ true)

found_at : (test : ℕ → Bool) (k n : ℕ) (ts : List ℕ) → first_at test k ts ≡ Some n → IsFound test k ts n
found_at test k n [] h = absurd cc
found_at test k n (t ∷ ts) h = by (test t) refl (λ more. found_at test (suc k) n ts more) h
  where
    by : (b : Bool) → test t ≡ b → (first_at test (suc k) ts ≡ Some n → IsFound test (suc k) ts n) → (if b then Some k else first_at test (suc k) ts) ≡ Some n → IsFound test k (t ∷ ts) n
    by true here more is = let same : k ≡ n = some_is k n is in (0, omega (arith, same), t, refl, here)
    by false here more is = let later = more is in (suc later.0, omega (arith, later.1), later.2, later.3, later.4)

found_from_0 : (test : ℕ → Bool) (n : ℕ) (ts : List ℕ) → first_at test 0 ts ≡ Some n → (t : ℕ) × (slice_get ts n ≡ Some t) × (test t ≡ true)
found_from_0 test n ts h =
    let f = found_at test 0 n ts h in
    let same : f.0 ≡ n = omega (arith, f.1) in
    (f.2, subst (λ (i : ℕ). slice_get ts i ≡ Some f.2) same f.3, f.4)

found_missing : (n : ℕ) (ts : List ℕ) → first_at is_missing 0 ts ≡ Some n → slice_get ts n ≡ Some 0
found_missing n ts h = let f = found_from_0 is_missing n ts h in f.1 ∙ ap (λ (t : ℕ). Some t) (eqb-true f.0 0 f.2)

abbrev IsChangedAt : ℕ → List Given → ℕ → Type 0
IsChangedAt k is n = (i : ℕ) × (k + i ≡ n) × (stamp : ℕ) × (slice_get is i ≡ Some (Made stamp true))

changed_at : (k n : ℕ) (is : List Given) → first_changed k (map named_input is) ≡ Some n → IsChangedAt k is n
changed_at k n [] h = absurd cc
changed_at k n (SourceFile f path ∷ others) h = let later = changed_at (suc k) n others h in (suc later.0, omega (arith, later.1), later.2, later.3)
changed_at k n (Made t true ∷ others) h = let same : k ≡ n = some_is k n h in (0, omega (arith, same), t, refl)
changed_at k n (Made t false ∷ others) h = let later = changed_at (suc k) n others h in (suc later.0, omega (arith, later.1), later.2, later.3)

changed_from_0 : (n : ℕ) (is : List Given) → first_changed 0 (map named_input is) ≡ Some n → (stamp : ℕ) × (slice_get is n ≡ Some (Made stamp true))
changed_from_0 n is h =
    let f = changed_at 0 n is h in
    let same : f.0 ≡ n = omega (arith, f.1) in
    (f.2, subst (λ (i : ℕ). slice_get is i ≡ Some (Made f.2 true)) same f.3)

-- ---- cause by cause

module _ (c : Command) (o : Observations) (reason : Reason) where
  abbrev Is : Type 0
  Is = Holds c o reason

  it : (other : Reason) → Some other ≡ Some reason → Holds c o other → Is
  it other h holds = subst (Holds c o) (some_is other reason h) holds

  by_output : (found : Option ℕ) (rest : Option Reason) → first_at is_missing 0 o.outputs ≡ found → (rest ≡ Some reason → Is) → or_else (option_map OutputMissing found) rest ≡ Some reason → Is
  by_output (Some n) rest is more h = it (OutputMissing n) h (found_missing n o.outputs is)
  by_output None rest is more h = more h

  by_change : (found : Option ℕ) (rest : Option Reason) → first_changed 0 (map named_input c.named) ≡ found → (rest ≡ Some reason → Is) → or_else (option_map InputChanged found) rest ≡ Some reason → Is
  by_change (Some n) rest is more h = it (InputChanged n) h (changed_from_0 n c.named is)
  by_change None rest is more h = more h

  -- an entry with another command
  other_entry : (entry : Recorded) (start : Bool) → is_start entry ≡ start → o.entry ≡ Some entry → c.generator ≡ false → same_text entry.command c.command ≡ false → Holds c o (if start then NotFinished else OtherCommand)
  other_entry entry true is at plain other = (entry, at, is)
  other_entry entry false is at plain other = (plain, entry, at, other)

  not_true : (b : Bool) → not b ≡ true → b ≡ false
  not_true true h = absurd cc
  not_true false h = refl

  and_left : (a b : Bool) → (a && b) ≡ true → a ≡ true
  and_left true b h = refl
  and_left false b h = absurd cc

  and_right : (a b : Bool) → (a && b) ≡ true → b ≡ true
  and_right true b h = h
  and_right false b h = absurd cc

  entry_holds : (entry : Option Recorded) → o.entry ≡ entry → (not c.generator && is_new c.command entry) ≡ true → Holds c o (entry_reason entry)
  entry_holds None at new = (not_true c.generator (and_left (not c.generator) true new), at)
  entry_holds (Some entry) at new =
      other_entry entry (is_start entry) refl at (not_true c.generator (and_left (not c.generator) (not (same_text entry.command c.command)) new))
      (not_true (same_text entry.command c.command) (and_right (not c.generator) (not (same_text entry.command c.command)) new))

  by_entry : (new : Bool) (rest : Option Reason) → (not c.generator && is_new c.command o.entry) ≡ new → (rest ≡ Some reason → Is) → or_else (if new then Some (entry_reason o.entry) else None) rest ≡ Some reason → Is
  by_entry true rest is more h = it (entry_reason o.entry) h (entry_holds o.entry refl is)
  by_entry false rest is more h = more h

  path_by_start : (entry : Recorded) (n : ℕ) (start : Bool) → is_start entry ≡ start → o.entry ≡ Some entry → slice_get o.recorded n ≡ Some 0 → Holds c o (if start then NotFinished else PathMissing n)
  path_by_start entry n true is at missing = (entry, at, is)
  path_by_start entry n false is at missing = missing

  path_holds : (entry : Option Recorded) (n : ℕ) → o.entry ≡ entry → slice_get o.recorded n ≡ Some 0 → Holds c o (path_reason entry n)
  path_holds None n at missing = missing
  path_holds (Some entry) n at missing = path_by_start entry n (is_start entry) refl at missing

  by_path : (found : Option ℕ) (rest : Option Reason) → first_at is_missing 0 o.recorded ≡ found → (rest ≡ Some reason → Is) → or_else (option_map (path_reason o.entry) found) rest ≡ Some reason → Is
  by_path (Some n) rest is more h = it (path_reason o.entry n) h (path_holds o.entry n refl (found_missing n o.recorded is))
  by_path None rest is more h = more h

  abbrev bound : ℕ
  bound = baseline c.baseline o.outputs o.entry

  by_newer : (found : Option ℕ) → first_at (nat_lt bound) 0 (o.named ++ o.recorded) ≡ found → option_map (λ n. Newer n bound) found ≡ Some reason → Is
  by_newer (Some n) is h = let f = found_from_0 (nat_lt bound) n (o.named ++ o.recorded) is in it (Newer n bound) h (refl, f.0, f.1, f.2)
  by_newer None is h = absurd cc

pub reasons_hold : ReasonsHold
reasons_hold c o reason h =
    by_output c o reason (first_at is_missing 0 o.outputs) _ refl
    (by_change c o reason (first_changed 0 (map named_input c.named)) _ refl
    (by_entry c o reason (not c.generator && is_new c.command o.entry) _ refl
    (by_path c o reason (first_at is_missing 0 o.recorded) _ refl
    (by_newer c o reason (first_at (nat_lt (bound c o reason)) 0 (o.named ++ o.recorded)) refl)))) h
