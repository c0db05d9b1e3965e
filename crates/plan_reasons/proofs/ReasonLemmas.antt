-- There is a reason exactly if an edge is dirty.
use Rattle.std.proofs.Common.{◌≡◌, ℕ, suc, ◌==◌, Bool, true, false, List, [], ◌∷◌, ◌++◌, map, Option, Some, None, refl, sym, ap, ◌∙◌, arith}
use Rattle.std.specs.Prelude.{not, ◌||◌, ◌&&◌, is_some, option_map, nat_lt, nat_le, if◌then◌else◌}
use Rattle.plan_verify.specs.Turn.{later}
use Rattle.plan_compile.specs.Rule.{Given, SourceFile, Made, Command, Recorded, is_dirty, is_new, baseline, greatest, greatest_from, some_missing, some_changed}
use Rattle.plan_reasons.specs.declared.reason.Reason.{Reason}
use Rattle.plan_reasons.specs.declared.reason.Reason.TheVariants.{OutputMissing, InputChanged, Newer}
use Rattle.plan_reasons.specs.Facts.{named_input, facts_of}
use Rattle.plan_reasons.specs.Reasons.{first_at, first_changed, or_else, entry_reason, path_reason, is_missing, command_reason, newer_reason, first_reason}

one_more : (b : Bool) (n : ℕ) (o : Option ℕ) (m : Bool) → is_some o ≡ m → is_some (if b then Some n else o) ≡ (b || m)
one_more true n o m h = refl
one_more false n o m h = h

found_missing : (n : ℕ) (ts : List ℕ) → is_some (first_at is_missing n ts) ≡ some_missing ts
found_missing n [] = refl
found_missing n (t ∷ ts) = one_more (t == 0) n (first_at is_missing (suc n) ts) (some_missing ts) (found_missing (suc n) ts)

found_changed : (n : ℕ) (is : List Given) → is_some (first_changed n (map named_input is)) ≡ some_changed is
found_changed n [] = refl
found_changed n (SourceFile f path ∷ others) = found_changed (suc n) others
found_changed n (Made t true ∷ others) = refl
found_changed n (Made t false ∷ others) = found_changed (suc n) others

-- whether the later of two is above a bound
later_above : (b m t : ℕ) → nat_lt b (later m t) ≡ (nat_lt b m || nat_lt b t)
later_above b m t = by (nat_le m t) refl
  where
    by : (c : Bool) → nat_le m t ≡ c → nat_lt b (if c then t else m) ≡ (nat_lt b m || nat_lt b t)
    by true low = up (nat_lt b m) refl
      where
        up : (d : Bool) → nat_lt b m ≡ d → nat_lt b t ≡ (nat_lt b m || nat_lt b t)
        up true under = grind (arith, under, low)
        up false over = ap (λ (x : Bool). x || nat_lt b t) (sym over)
    by false high = down (nat_lt b t) refl
      where
        down : (d : Bool) → nat_lt b t ≡ d → nat_lt b m ≡ (nat_lt b m || nat_lt b t)
        down true under = grind (arith, under, high)
        down false over = grind (arith, over)

above : (b m n : ℕ) (ts : List ℕ) → nat_lt b (greatest_from m ts) ≡ (nat_lt b m || is_some (first_at (nat_lt b) n ts))
above b m n [] = plain (nat_lt b m)
  where
    plain : (x : Bool) → x ≡ (x || false)
    plain true = refl
    plain false = refl
above b m n (t ∷ ts) = above b (later m t) (suc n) ts ∙ ap (λ (x : Bool). x || is_some (first_at (nat_lt b) (suc n) ts)) (later_above b m t) ∙ by (nat_lt b m) (nat_lt b t)
  where
    by : (x y : Bool) → ((x || y) || is_some (first_at (nat_lt b) (suc n) ts)) ≡ (x || is_some (if y then Some n else first_at (nat_lt b) (suc n) ts))
    by true y = refl
    by false true = refl
    by false false = refl

none_below : (b : ℕ) (d : Bool) → nat_lt b 0 ≡ d → nat_lt b 0 ≡ false
none_below b true under = absurd (grind (arith, under))
none_below b false over = over

found_newer : (b n : ℕ) (ts : List ℕ) → is_some (first_at (nat_lt b) n ts) ≡ nat_lt b (greatest ts)
found_newer b n ts = ap (λ (x : Bool). x || is_some (first_at (nat_lt b) n ts)) (sym (none_below b (nat_lt b 0) refl)) ∙ sym (above b 0 n ts)

mapped : {A : Type 0} (f : A → Reason) (o : Option A) → is_some (option_map f o) ≡ is_some o
mapped f (Some x) = refl
mapped f None = refl

either : (a b : Option Reason) → is_some (or_else a b) ≡ (is_some a || is_some b)
either (Some x) b = refl
either None b = refl

chosen : (b : Bool) (reason : Reason) → is_some (if b then Some reason else None) ≡ b
chosen true reason = refl
chosen false reason = refl

or_same : (a b c d : Bool) → a ≡ b → c ≡ d → (a || c) ≡ (b || d)
or_same a b c d e f = ap (λ (x : Bool). x || c) e ∙ ap (λ (x : Bool). b || x) f

regroup : (a b c d e : Bool) → (a || (b || (c || (d || e)))) ≡ ((((a || b) || c) || d) || e)
regroup true b c d e = refl
regroup false true c d e = refl
regroup false false true d e = refl
regroup false false false true e = refl
regroup false false false false e = refl

pub reasons_are_causes : (c : Command) (named old : List ℕ) (entry : Option Recorded) (swept : List ℕ) → is_some (first_reason c named old entry swept) ≡ is_dirty c named old entry swept
reasons_are_causes c named old entry swept =
    let b = baseline c.baseline old entry in
    let newer = either (option_map (path_reason entry) (first_at is_missing 0 swept)) (newer_reason b (named ++ swept))
    ∙ or_same _ _ _ _ (mapped (path_reason entry) (first_at is_missing 0 swept) ∙ found_missing 0 swept) (mapped (λ n. Newer n b) (first_at (nat_lt b) 0 (named ++ swept)) ∙ found_newer b 0 (named ++ swept)) in
    let new = either (command_reason (facts_of c) entry) _ ∙ or_same _ _ _ _ (chosen (not c.generator && is_new c.command entry) (entry_reason entry)) newer in
    let change = either (option_map InputChanged (first_changed 0 (map named_input c.named))) _ ∙ or_same _ _ _ _ (mapped InputChanged (first_changed 0 (map named_input c.named)) ∙ found_changed 0 c.named) new in
    either (option_map OutputMissing (first_at is_missing 0 old)) _ ∙ or_same _ _ _ _ (mapped OutputMissing (first_at is_missing 0 old) ∙ found_missing 0 old) change
    ∙ regroup (some_missing old) (some_changed c.named) (not c.generator && is_new c.command entry) (some_missing swept) (nat_lt b (greatest (named ++ swept)))
