-- The stricter out-of-date rule compared with the specified one.
use Rattle.std.proofs.Common.{◌≡◌, ℕ, ◌<◌, ◌≤◌, Bool, true, false, List, [], ◌∷◌, ◌++◌, Option, Some, None, refl, ap, ◌∙◌, arith}
use Rattle.std.specs.Prelude.{◌||◌, ◌&&◌, not, nat_le, nat_lt, if◌then◌else◌}
use Rattle.std.proofs.lemmas.Bool.{eq-eqb, leb-false, leb-true, le-ltb, lt-ltb, ltb-true}
use Rattle.plan_verify.specs.Turn.{earlier, same_text}
use Rattle.plan_compile.specs.declared.baseline.Baseline.{Baseline}
use Rattle.plan_compile.specs.declared.baseline.Baseline.TheVariants.{Outputs, Basis, OutputsAndBasis}
use Rattle.plan_compile.specs.declared.baseline.OutOfDateRule.TheVariants.{Specified, Stricter}
use Rattle.plan_compile.specs.Rule.{Recorded, baseline, baseline_by, greatest, least, some_missing, some_changed, is_new}
use Rattle.plan_compile.specs.Stricter.{StricterIsNoLaxer, ChangesAreSeen, UnchangedIsClean}

-- ---- the earlier of two stamps

earlier_left : (a b : ℕ) → earlier a b ≤ a
earlier_left a b = by_test (nat_le a b) refl where
  by_test : (t : Bool) → nat_le a b ≡ t → (if t then a else b) ≤ a
  by_test true is = omega arith
  by_test false is = let lt : b < a = leb-false a b is in omega (arith, lt)

earlier_right : (a b : ℕ) → earlier a b ≤ b
earlier_right a b = by_test (nat_le a b) refl where
  by_test : (t : Bool) → nat_le a b ≡ t → (if t then a else b) ≤ b
  by_test true is = let le : a ≤ b = leb-true a b is in omega (arith, le)
  by_test false is = omega arith

earlier_above : (n a b : ℕ) → n ≤ a → n ≤ b → n ≤ earlier a b
earlier_above n a b x y = by_test (nat_le a b) where
  by_test : (t : Bool) → n ≤ (if t then a else b)
  by_test true = x
  by_test false = y

-- ---- the last of the five causes

last_cause : (a b c d m n : Bool) → (m ≡ true → n ≡ true) → (a || b || c || d || m) ≡ true → (a || b || c || d || n) ≡ true
last_cause true b c d m n h is = refl
last_cause false true c d m n h is = refl
last_cause false false true d m n h is = refl
last_cause false false false true m n h is = refl
last_cause false false false false m n h is = h is

any_cause : (a b c d : Bool) → (a || b || c || d || true) ≡ true
any_cause true b c d = refl
any_cause false true c d = refl
any_cause false false true d = refl
any_cause false false false true = refl
any_cause false false false false = refl

no_cause : (a b c d m : Bool) → a ≡ false → b ≡ false → c ≡ false → d ≡ false → m ≡ false → (a || b || c || d || m) ≡ false
no_cause a b c d m ha hb hc hd hm =
    ap (λ (x : Bool). x || b || c || d || m) ha ∙ (ap (λ (x : Bool). x || c || d || m) hb ∙ (ap (λ (x : Bool). x || d || m) hc ∙ (ap (λ (x : Bool). x || m) hd ∙ hm)))

-- the stricter baseline is no later
later_by : (restat generator : Bool) (outputs : List ℕ) (entry : Option Recorded) (n : ℕ)
    → nat_lt (baseline (baseline_by restat generator Specified) outputs entry) n ≡ true → nat_lt (baseline (baseline_by restat generator Stricter) outputs entry) n ≡ true
later_by true generator outputs entry n h = h
later_by false true outputs entry n h = h
later_by false false outputs None n h = h
later_by false false outputs (Some y) n h =
    let lt : least outputs < n = ltb-true (least outputs) n h in
    let le : earlier y.basis (least outputs) ≤ least outputs = earlier_right y.basis (least outputs) in
    lt-ltb (earlier y.basis (least outputs)) n (omega (arith, lt, le))

pub stricter_is_no_laxer : StricterIsNoLaxer
stricter_is_no_laxer c named outputs entry recorded h =
    last_cause (some_missing outputs) (some_changed c.named) (not c.generator && is_new c.command entry) (some_missing recorded) _ _
    (later_by c.restat c.generator outputs entry (greatest (named ++ recorded))) h

seen_by : (restat generator : Bool) (outputs : List ℕ) (y : Recorded) (n : ℕ) → restat ≡ false → generator ≡ false → y.basis < n
    → nat_lt (baseline (baseline_by restat generator Stricter) outputs (Some y)) n ≡ true
seen_by true generator outputs y n plain by_hand h = absurd cc
seen_by false true outputs y n plain by_hand h = absurd cc
seen_by false false outputs y n plain by_hand h =
    let le : earlier y.basis (least outputs) ≤ y.basis = earlier_left y.basis (least outputs) in
    lt-ltb (earlier y.basis (least outputs)) n (omega (arith, h, le))

pub changes_are_seen : ChangesAreSeen
changes_are_seen c named outputs entry recorded plain by_hand later =
    ap (λ (m : Bool). some_missing outputs || some_changed c.named || (not c.generator && is_new c.command (Some entry)) || some_missing recorded || m)
    (seen_by c.restat c.generator outputs entry (greatest (named ++ recorded)) plain by_hand later)
    ∙ any_cause (some_missing outputs) (some_changed c.named) (not c.generator && is_new c.command (Some entry)) (some_missing recorded)

same_as_itself : (t : List ℕ) → same_text t t ≡ true
same_as_itself [] = refl
same_as_itself (x ∷ xs) = ap (λ (b : Bool). b && same_text xs xs) (eq-eqb x x refl) ∙ same_as_itself xs

and_false : (b : Bool) → (b && false) ≡ false
and_false true = refl
and_false false = refl

-- no baseline is later than both the basis and the oldest output
baseline_above : (b : Baseline) (outputs : List ℕ) (y : Recorded) (n : ℕ) → n ≤ y.basis → n ≤ least outputs → n ≤ baseline b outputs (Some y)
baseline_above Outputs outputs y n h g = g
baseline_above Basis outputs y n h g = h
baseline_above OutputsAndBasis outputs y n h g = earlier_above n y.basis (least outputs) h g

pub unchanged_is_clean : UnchangedIsClean
unchanged_is_clean rule c named outputs entry recorded h =
    let n : ℕ = greatest (named ++ recorded) in
    let b : Baseline = baseline_by c.restat c.generator rule in
    let known : is_new c.command (Some entry) ≡ false = ap (λ (t : List ℕ). not (same_text t c.command)) h.command ∙ ap not (same_as_itself c.command) in
    let basis : entry.basis ≡ n = h.basis in
    no_cause (some_missing outputs) (some_changed c.named) (not c.generator && is_new c.command (Some entry)) (some_missing recorded) (nat_lt (baseline b outputs (Some entry)) n)
    h.outputs_exist h.inputs (ap (λ (x : Bool). not c.generator && x) known ∙ and_false (not c.generator)) h.paths_exist
    (le-ltb (baseline b outputs (Some entry)) n (baseline_above b outputs entry n (omega (arith, basis)) h.younger))
