-- The code of an edge is well shaped.
use Rattle.std.proofs.Common.{◌≡◌, ℕ, zero, suc, ◌+◌, ◌-◌, ◌<◌, ◌≤◌, Bool, true, false, List, [], ◌∷◌, ◌++◌, length, drop, Option, Some, None, refl, sym, ap, subst, ◌∙◌, arith, inl, inr, append_assoc}
use Rattle.std.specs.Prelude.{◌||◌, ◌&&◌, not, nat_le, nat_lt, ◌==◌, if◌then◌else◌}
use Rattle.std.specs.List.{list_all}
use Rattle.std.proofs.lemmas.Bool.{eqb-true, eq-eqb, le-ltb}
use Rattle.plan_image.specs.declared.body.Kind.{Kind}
use Rattle.plan_image.specs.declared.body.Kind.TheVariants.{Stamp, Flag, Text, Paths, Swept}
use Rattle.plan_image.specs.declared.body.Instr.{Instr}
use Rattle.plan_image.specs.declared.body.Instr.TheVariants as op
use Rattle.plan_image.specs.declared.image.Parts.{Parts}
use Rattle.plan_image.specs.Code.{code}
use Rattle.plan_verify.specs.declared.kinds.Shape.{Shape}
use Rattle.plan_verify.specs.Members.{is_member, with_member}
use Rattle.plan_verify.specs.Tables.{is_lent, own_slots}
use Rattle.plan_verify.specs.Shape.{left, targets, refused, bad_jump, is_wanted, falls_off, table_refusal}
use Rattle.plan_verify.specs.WellShaped.{at_start, begins, IsShapedEdge}
use Rattle.plan_compile.specs.Laws.{CommandShaped, PhonyShaped}
use Rattle.plan_compile.specs.declared.baseline.Baseline.{Baseline}
use Rattle.plan_compile.specs.declared.baseline.Baseline.TheVariants.{Outputs, Basis, OutputsAndBasis}
use Rattle.plan_compile.specs.declared.layout.Input.{Input}
use Rattle.plan_compile.specs.declared.layout.Input.TheVariants.{File, Made}
use Rattle.plan_compile.specs.declared.layout.Output.{Output}
use Rattle.plan_compile.specs.declared.layout.CommandLayout.{CommandLayout}
use Rattle.plan_compile.specs.declared.layout.GatherLayout.{GatherLayout}
use Rattle.plan_compile.specs.Emit.{compares_basis, has_source_file, order_code, newer_code, newest_code, or_code, any_code, stat_code, older_code, oldest_code, rerun_flag_code, before_sweep_code, front, flag_code, holders, restat_code, after_code, same_code, under_code, ready_code, ready_len, skip_code, clean_code, clean_len, deps_code, run_code, dirty_code, age_test_code, same_command_code, dirty_place, other_code, same_place, compare_code, known_place, pass_code, from_entry_code, files_code, own_files_code, alone_code, gather_code}
use Rattle.plan_compile.specs.Means.{IsText, IsOwnOf, IsLentOf, AreInputs, AreSourceFiles, AreOutputs, HaveFiles, ShareFlag, HaveFlagSlots, slots_of, IsCommand, IsGather, IsAlone}
use Rattle.plan_compile.proofs.LaidOut.{or_cases, or_right, flags_lent}
use Rattle.plan_compile.proofs.Machine.{drop_length}
use Rattle.plan_compile.proofs.SlotFacts.{and_both}
use Rattle.plan_compile.proofs.Placing.{from_entry_stands, age_test_stands, same_stands, known_stands, baseline_stands, passed_stands, dirty_stands, run_stands}
use Rattle.plan_compile.proofs.Whole.{less, app_long, under_long, ready_long}
use Rattle.plan_compile.proofs.Edge.{skip_long, ready_some}
use Rattle.plan_compile.proofs.Scanning.{Good, good_long, are_shapes}
use Rattle.plan_compile.proofs.Shaping.{Fit, AreAhead, IsEasy, pass, branch, jump_land, end_land, end_land_twice, join, last, none_refused, one_arrives}

abbrev pub sh : List Kind → Bool → List ℕ → Shape
sh kinds held set = record { kinds = kinds; holding = held; set = set }

-- ---- sets of slots

abbrev pub stamps_set : List ℕ → List Output → List ℕ
stamps_set set [] = set
stamps_set set (o ∷ os) = stamps_set (with_member o.stamp set) os

abbrev pub flags_set : List ℕ → List Output → List ℕ
flags_set set [] = set
flags_set set (o ∷ os) = flags_set (with_member o.changed set) os

abbrev pub HasStamps : List ℕ → List Output → Type 0
HasStamps set [] = Unit {0}
HasStamps set (o ∷ os) = (is_member o.stamp set ≡ true) × HasStamps set os

pub mem_here : (n : ℕ) (set : List ℕ) → is_member n (with_member n set) ≡ true
mem_here n [] = ap (λ (b : Bool). b || false) (eq-eqb n n refl)
mem_here n (m ∷ ms) = by_test (nat_lt n m) (n == m) refl (mem_here n ms) where
  by_test : (b c : Bool) → (n == m) ≡ c → is_member n (with_member n ms) ≡ true → is_member n (if b then n ∷ m ∷ ms else if c then m ∷ ms else m ∷ with_member n ms) ≡ true
  by_test true c is h = ap (λ (x : Bool). x || is_member n (m ∷ ms)) (eq-eqb n n refl)
  by_test false true is h = ap (λ (x : Bool). x || is_member n ms) (eq-eqb m n (sym (eqb-true n m is)))
  by_test false false is h = or_right (m == n) (is_member n (with_member n ms)) h

pub mem_stays : (m n : ℕ) (set : List ℕ) → is_member m set ≡ true → is_member m (with_member n set) ≡ true
mem_stays m n [] h = absurd cc
mem_stays m n (x ∷ xs) h = by_test (nat_lt n x) (n == x) (mem_stays m n xs) where
  by_test : (b c : Bool) → (is_member m xs ≡ true → is_member m (with_member n xs) ≡ true) → is_member m (if b then n ∷ x ∷ xs else if c then x ∷ xs else x ∷ with_member n xs) ≡ true
  by_test true c ih = or_right (n == m) (is_member m (x ∷ xs)) h
  by_test false true ih = h
  by_test false false ih = elim (or_cases (x == m) (is_member m xs) h) [
    | inl at ↦ ap (λ (b : Bool). b || is_member m (with_member n xs)) at
    | inr rest ↦ or_right (x == m) (is_member m (with_member n xs)) (ih rest)
  ]

pub stamps_stay : (m : ℕ) (set : List ℕ) (os : List Output) → is_member m set ≡ true → is_member m (stamps_set set os) ≡ true
stamps_stay m set [] h = h
stamps_stay m set (o ∷ os) h = stamps_stay m (with_member o.stamp set) os (mem_stays m o.stamp set h)

pub flags_stay : (m : ℕ) (set : List ℕ) (os : List Output) → is_member m set ≡ true → is_member m (flags_set set os) ≡ true
flags_stay m set [] h = h
flags_stay m set (o ∷ os) h = flags_stay m (with_member o.changed set) os (mem_stays m o.changed set h)

pub stamps_have : (set : List ℕ) (os : List Output) → HasStamps (stamps_set set os) os
stamps_have set [] = tt
stamps_have set (o ∷ os) = (stamps_stay o.stamp (with_member o.stamp set) os (mem_here o.stamp set), stamps_have (with_member o.stamp set) os)

pub all_have : (s : ℕ) (set : List ℕ) (os : List Output) → HasStamps set os → is_member s (slots_of os) ≡ true → is_member s (flags_set set os) ≡ true
all_have s set [] has h = absurd cc
all_have s set (o ∷ os) has h = elim (or_cases (o.stamp == s) ((o.changed == s) || is_member s (slots_of os)) h) [
  | inl at ↦ flags_stay s (with_member o.changed set) os (mem_stays s o.changed set (subst (λ (n : ℕ). is_member n set ≡ true) (eqb-true o.stamp s at) has.0))
  | inr more ↦ elim (or_cases (o.changed == s) (is_member s (slots_of os)) more) [
    | inl at ↦ flags_stay s (with_member o.changed set) os (subst (λ (n : ℕ). is_member n (with_member o.changed set) ≡ true) (eqb-true o.changed s at) (mem_here o.changed set))
    | inr rest ↦ all_have s (with_member o.changed set) os (has_more os has.1) rest
  ]
] where
  has_more : (os : List Output) → HasStamps set os → HasStamps (with_member o.changed set) os
  has_more [] h = tt
  has_more (x ∷ xs) h = (mem_stays x.stamp o.changed set h.0, has_more xs h.1)

-- a stamp and a flag for each output
abbrev pub placed_set : List ℕ → List Output → List ℕ
placed_set set [] = set
placed_set set (o ∷ os) = placed_set (with_member o.changed (with_member o.stamp set)) os

pub placed_stay : (m : ℕ) (set : List ℕ) (os : List Output) → is_member m set ≡ true → is_member m (placed_set set os) ≡ true
placed_stay m set [] h = h
placed_stay m set (o ∷ os) h = placed_stay m (with_member o.changed (with_member o.stamp set)) os (mem_stays m o.changed (with_member o.stamp set) (mem_stays m o.stamp set h))

pub all_placed : (s : ℕ) (set : List ℕ) (os : List Output) → is_member s (slots_of os) ≡ true → is_member s (placed_set set os) ≡ true
all_placed s set [] h = absurd cc
all_placed s set (o ∷ os) h = elim (or_cases (o.stamp == s) ((o.changed == s) || is_member s (slots_of os)) h) [
  | inl at ↦ placed_stay s (with_member o.changed (with_member o.stamp set)) os (mem_stays s o.changed (with_member o.stamp set) (subst (λ (n : ℕ). is_member n (with_member o.stamp set) ≡ true) (eqb-true o.stamp s at) (mem_here o.stamp set)))
  | inr more ↦ elim (or_cases (o.changed == s) (is_member s (slots_of os)) more) [
    | inl at ↦ placed_stay s (with_member o.changed (with_member o.stamp set)) os (subst (λ (n : ℕ). is_member n (with_member o.changed (with_member o.stamp set)) ≡ true) (eqb-true o.changed s at) (mem_here o.changed (with_member o.stamp set)))
    | inr rest ↦ all_placed s (with_member o.changed (with_member o.stamp set)) os rest
  ]
]

-- with one flag for all outputs
pub all_shared : (changed s : ℕ) (set : List ℕ) (os : List Output) → ShareFlag changed os → is_member changed set ≡ true → HasStamps set os → is_member s (slots_of os) ≡ true → is_member s set ≡ true
all_shared changed s set [] share lies has h = absurd cc
all_shared changed s set (o ∷ os) share lies has h = elim (or_cases (o.stamp == s) ((o.changed == s) || is_member s (slots_of os)) h) [
  | inl at ↦ subst (λ (n : ℕ). is_member n set ≡ true) (eqb-true o.stamp s at) has.0
  | inr more ↦ elim (or_cases (o.changed == s) (is_member s (slots_of os)) more) [
    | inl at ↦ subst (λ (n : ℕ). is_member n set ≡ true) (eqb-true o.changed s at) (subst (λ (n : ℕ). is_member n set ≡ true) (sym share.0) lies)
    | inr rest ↦ all_shared changed s set os share.1 lies has.1 rest
  ]
]

pub has_with : (m : ℕ) (set : List ℕ) (os : List Output) → HasStamps set os → HasStamps (with_member m set) os
has_with m set [] h = tt
has_with m set (o ∷ os) h = (mem_stays o.stamp m set h.0, has_with m set os h.1)

-- with a flag for each output that has one
pub all_held : (restat : Bool) (s : ℕ) (set : List ℕ) (os : List Output) → HaveFlagSlots restat os → HasStamps set os → is_member s (slots_of os) ≡ true → is_member s (flags_set set (holders restat os)) ≡ true
all_held true s set os have has h = all_have s set os has h
all_held false s set [] have has h = absurd cc
all_held false s set (o ∷ os) have has h =
    all_shared o.changed s (with_member o.changed set) (o ∷ os) (refl, have) (mem_here o.changed set) (has_with o.changed set (o ∷ os) has) h

pub all_among : (test other : ℕ → Bool) (xs : List ℕ) → ((s : ℕ) → test s ≡ true → other s ≡ true) → list_all test xs ≡ true → list_all other xs ≡ true
all_among test other [] h all = refl
all_among test other (x ∷ xs) h all =
    let b = and_both (test x) (list_all test xs) all in
    ap (λ (c : Bool). c && list_all other xs) (h x b.0) ∙ all_among test other xs h b.1

pub some_app : (xs rest : List Instr) → 0 < length rest → 0 < length (xs ++ rest)
some_app [] rest h = h
some_app (x ∷ xs) rest h = omega arith

module _ (p : Parts) (e : ℕ) where
  -- an instruction that continues to the next place
  pub go_on : {rest : List Instr} {due : List (ℕ × Shape)} (i : Instr) (s t : Shape) → ((at : ℕ) → targets at i ≡ (at + 1) ∷ []) → ((at : ℕ) → bad_jump (length (code p e)) at i ≡ false)
      → ((at : ℕ) → falls_off (length (code p e)) at i ≡ nat_le (length (code p e)) (at + 1)) → left p i s ≡ t → IsEasy p e i s → AreAhead p e due rest → 0 < length rest
      → Fit p e rest t due → Fit p e (i ∷ rest) s due
  go_on {rest = rest} {due = due} i s t next jumps falls is easy ahead some f =
      pass p e i rest s due next ahead some (λ at off. none_refused p e at i s easy (jumps at) (falls at ∙ off)) (subst (λ (x : Shape). Fit p e rest x due) (sym is) f)

  pub enough : (n : ℕ) → nat_lt n 0 ≡ false
  enough n = le-ltb n 0 (omega arith)

  pub enough_one : (n : ℕ) → nat_lt (suc n) 1 ≡ false
  enough_one n = le-ltb (suc n) 1 (omega arith)

  pub enough_two : (n : ℕ) → nat_lt (suc (suc n)) 2 ≡ false
  enough_two n = le-ltb (suc (suc n)) 2 (omega arith)

  pub load_lent : {rest : List Instr} {kinds : List Kind} {held : Bool} {set : List ℕ} {due : List (ℕ × Shape)} (s : ℕ) (k : Kind) → IsLentOf p e k s → nat_lt 64 (suc (length kinds)) ≡ false
      → AreAhead p e due rest → 0 < length rest → Fit p e rest (sh (k ∷ kinds) held set) due → Fit p e (op.Load s ∷ rest) (sh kinds held set) due
  unfolding left
  load_lent {kinds = kinds} {held = held} {set = set} s k lent low ahead some f =
      go_on (op.Load s) (sh kinds held set) (sh (k ∷ kinds) held set) (λ at. refl) (λ at. refl) (λ at. refl) (ap (λ (x : Kind). sh (x ∷ kinds) held set) lent.2)
      (ap (λ (b : Bool). not (b || is_lent p e s)) lent.0 ∙ ap not lent.1, refl, refl, refl, refl, enough (length kinds), refl, ap (λ (b : Bool). b && not (is_member s set)) lent.0, refl, low) ahead some f

  pub load_own : {rest : List Instr} {kinds : List Kind} {held : Bool} {set : List ℕ} {due : List (ℕ × Shape)} (s : ℕ) (k : Kind) → IsOwnOf p e k s → is_member s set ≡ true → nat_lt 64 (suc (length kinds)) ≡ false
      → AreAhead p e due rest → 0 < length rest → Fit p e rest (sh (k ∷ kinds) held set) due → Fit p e (op.Load s ∷ rest) (sh kinds held set) due
  unfolding left
  load_own {kinds = kinds} {held = held} {set = set} s k own has low ahead some f =
      go_on (op.Load s) (sh kinds held set) (sh (k ∷ kinds) held set) (λ at. refl) (λ at. refl) (λ at. refl) (ap (λ (x : Kind). sh (x ∷ kinds) held set) own.1)
      (ap (λ (b : Bool). not (b || is_lent p e s)) own.0, refl, refl, refl, refl, enough (length kinds), refl, (ap (λ (b : Bool). b && not (is_member s set)) own.0 ∙ ap not has), refl, low) ahead some f

  pub store_own : {rest : List Instr} {held : Bool} {set : List ℕ} {due : List (ℕ × Shape)} (s : ℕ) (k : Kind) → IsOwnOf p e k s → not (is_wanted (Some k) k) ≡ false
      → AreAhead p e due rest → 0 < length rest → Fit p e rest (sh [] held (with_member s set)) due → Fit p e (op.Store s ∷ rest) (sh (k ∷ []) held set) due
  unfolding left
  store_own {held = held} {set = set} s k own same ahead some f =
      go_on (op.Store s) (sh (k ∷ []) held set) (sh [] held (with_member s set)) (λ at. refl) (λ at. refl) (λ at. refl) refl
      (ap not own.0, refl, refl, refl, refl, refl, (ap (λ (x : Kind). not (is_wanted (Some x) k) || false) own.1 ∙ ap (λ (b : Bool). b || false) same), refl, refl, refl) ahead some f

  -- a store with one stamp below
  pub store_over : {rest : List Instr} {held : Bool} {set : List ℕ} {due : List (ℕ × Shape)} (s : ℕ) (k : Kind) → IsOwnOf p e k s → not (is_wanted (Some k) k) ≡ false
      → AreAhead p e due rest → 0 < length rest → Fit p e rest (sh (Stamp ∷ []) held (with_member s set)) due → Fit p e (op.Store s ∷ rest) (sh (k ∷ Stamp ∷ []) held set) due
  unfolding left
  store_over {held = held} {set = set} s k own same ahead some f =
      go_on (op.Store s) (sh (k ∷ Stamp ∷ []) held set) (sh (Stamp ∷ []) held (with_member s set)) (λ at. refl) (λ at. refl) (λ at. refl) refl
      (ap not own.0, refl, refl, refl, refl, refl, (ap (λ (x : Kind). not (is_wanted (Some x) k) || false) own.1 ∙ ap (λ (b : Bool). b || false) same), refl, refl, refl) ahead some f

  -- ---- fragments before the entry

  pub order_fit : (fs : List ℕ) (rest : List Instr) (set : List ℕ) → AreSourceFiles p fs → 0 < length rest → Fit p e rest (sh [] false set) [] → Fit p e (order_code fs ++ rest) (sh [] false set) []
  unfolding left
  order_fit [] rest set files some f = f
  order_fit (x ∷ xs) rest set files some f =
      go_on (op.Need x) (sh ([]) false set) (sh (Stamp ∷ []) false set) (λ at. refl) (λ at. refl) (λ at. refl) refl (refl, files.0, refl, refl, refl, refl, refl, refl, refl, refl) tt (omega arith)
      (go_on op.Drop (sh (Stamp ∷ []) false set) (sh ([]) false set) (λ at. refl) (λ at. refl) (λ at. refl) refl (refl, refl, refl, refl, refl, refl, refl, refl, refl, refl) tt (some_app (order_code xs) rest some) (order_fit xs rest set files.1 some f))

  pub newer_fit : (is : List Input) (rest : List Instr) (set : List ℕ) → AreInputs p e is → 0 < length rest → Fit p e rest (sh (Stamp ∷ []) false set) [] → Fit p e (newer_code is ++ rest) (sh (Stamp ∷ []) false set) []
  unfolding left
  newer_fit [] rest set ok some f = f
  newer_fit (File x ∷ is) rest set ok some f =
      go_on (op.Need x) (sh (Stamp ∷ []) false set) (sh (Stamp ∷ Stamp ∷ []) false set) (λ at. refl) (λ at. refl) (λ at. refl) refl (refl, ok.0, refl, refl, refl, refl, refl, refl, refl, refl) tt (omega arith)
      (go_on op.Newer (sh (Stamp ∷ Stamp ∷ []) false set) (sh (Stamp ∷ []) false set) (λ at. refl) (λ at. refl) (λ at. refl) refl (refl, refl, refl, refl, refl, refl, refl, refl, refl, refl) tt (some_app (newer_code is) rest some) (newer_fit is rest set ok.1 some f))
  newer_fit (Made st ch ∷ is) rest set ok some f =
      load_lent st Stamp ok.0.0 refl tt (omega arith)
      (go_on op.Newer (sh (Stamp ∷ Stamp ∷ []) false set) (sh (Stamp ∷ []) false set) (λ at. refl) (λ at. refl) (λ at. refl) refl (refl, refl, refl, refl, refl, refl, refl, refl, refl, refl) tt (some_app (newer_code is) rest some) (newer_fit is rest set ok.1 some f))

  pub newest_fit : (is : List Input) (rest : List Instr) (set : List ℕ) → AreInputs p e is → 0 < length rest → Fit p e rest (sh (Stamp ∷ []) false set) [] → Fit p e (newest_code is ++ rest) (sh [] false set) []
  unfolding left
  newest_fit [] rest set ok some f = go_on op.Zero (sh ([]) false set) (sh (Stamp ∷ []) false set) (λ at. refl) (λ at. refl) (λ at. refl) refl (refl, refl, refl, refl, refl, refl, refl, refl, refl, refl) tt some f
  newest_fit (File x ∷ is) rest set ok some f =
      go_on (op.Need x) (sh ([]) false set) (sh (Stamp ∷ []) false set) (λ at. refl) (λ at. refl) (λ at. refl) refl (refl, ok.0, refl, refl, refl, refl, refl, refl, refl, refl) tt (some_app (newer_code is) rest some) (newer_fit is rest set ok.1 some f)
  newest_fit (Made st ch ∷ is) rest set ok some f = load_lent st Stamp ok.0.0 refl tt (some_app (newer_code is) rest some) (newer_fit is rest set ok.1 some f)

  pub files_fit : (os : List Output) (rest : List Instr) (set : List ℕ) → HaveFiles p os → 0 < length rest → Fit p e rest (sh (Stamp ∷ []) false set) [] → Fit p e (files_code os ++ rest) (sh (Stamp ∷ []) false set) []
  unfolding left
  files_fit [] rest set ok some f = f
  files_fit (o ∷ os) rest set ok some f =
      go_on (op.Stat o.file) (sh (Stamp ∷ []) false set) (sh (Stamp ∷ Stamp ∷ []) false set) (λ at. refl) (λ at. refl) (λ at. refl) refl (refl, ok.0, refl, refl, refl, refl, refl, refl, refl, refl) tt (omega arith)
      (go_on op.Newer (sh (Stamp ∷ Stamp ∷ []) false set) (sh (Stamp ∷ []) false set) (λ at. refl) (λ at. refl) (λ at. refl) refl (refl, refl, refl, refl, refl, refl, refl, refl, refl, refl) tt (some_app (files_code os) rest some) (files_fit os rest set ok.1 some f))

  pub own_files_fit : (b : Baseline) (os : List Output) (rest : List Instr) (set : List ℕ) → HaveFiles p os → 0 < length rest → Fit p e rest (sh (Stamp ∷ []) false set) [] → Fit p e (own_files_code b os ++ rest) (sh (Stamp ∷ []) false set) []
  own_files_fit Outputs os rest set ok some f = f
  own_files_fit Basis os rest set ok some f = files_fit os rest set ok some f
  own_files_fit OutputsAndBasis os rest set ok some f = files_fit os rest set ok some f

  pub stat_fit : (os : List Output) (rest : List Instr) (set : List ℕ) → AreOutputs p e os → 0 < length rest → Fit p e rest (sh [] false (stamps_set set os)) [] → Fit p e (stat_code os ++ rest) (sh [] false set) []
  unfolding left
  stat_fit [] rest set ok some f = f
  stat_fit (o ∷ os) rest set ok some f =
      go_on (op.Stat o.file) (sh ([]) false set) (sh (Stamp ∷ []) false set) (λ at. refl) (λ at. refl) (λ at. refl) refl (refl, ok.0.0, refl, refl, refl, refl, refl, refl, refl, refl) tt (omega arith)
      (store_own o.stamp Stamp ok.0.1 refl tt (some_app (stat_code os) rest some) (stat_fit os rest (with_member o.stamp set) ok.1 some f))

  -- ---- fragments over a list, over any stack with room, with jumps still to land

  abbrev pub IsAhead : List (ℕ × Shape) → List Instr → Type 0
  IsAhead due rest = (xs : List Instr) → length rest ≤ length xs → AreAhead p e due xs

  abbrev pub HasRoom : List Kind → Type 0
  HasRoom below = nat_lt 64 (suc (suc (suc (length below)))) ≡ false

  pub older_fit : (os : List Output) (rest : List Instr) (set : List ℕ) (below : List Kind) (due : List (ℕ × Shape)) → HasRoom below → AreOutputs p e os → HasStamps set os → IsAhead due rest → 0 < length rest
      → Fit p e rest (sh (Stamp ∷ below) false set) due → Fit p e (older_code os ++ rest) (sh (Stamp ∷ below) false set) due
  unfolding left
  older_fit [] rest set below due low ok has ahead some f = f
  older_fit (o ∷ os) rest set below due low ok has ahead some f =
      let l : length rest ≤ length (older_code os ++ rest) = app_long (older_code os) rest in
      load_own o.stamp Stamp ok.0.1 has.0 (less (omega arith) low) (ahead (op.Older ∷ (older_code os ++ rest)) (omega (arith, l))) (omega arith)
      (go_on op.Older (sh (Stamp ∷ Stamp ∷ below) false set) (sh (Stamp ∷ below) false set) (λ at. refl) (λ at. refl) (λ at. refl) refl
      (refl, refl, refl, refl, refl, enough_two (length below), refl, refl, refl, less (omega arith) low) (ahead (older_code os ++ rest) l) (some_app (older_code os) rest some)
      (older_fit os rest set below due low ok.1 has.1 ahead some f))

  pub oldest_fit : (os : List Output) (rest : List Instr) (set : List ℕ) (below : List Kind) (due : List (ℕ × Shape)) → HasRoom below → AreOutputs p e os → HasStamps set os → IsAhead due rest → 0 < length rest
      → Fit p e rest (sh (Stamp ∷ below) false set) due → Fit p e (oldest_code os ++ rest) (sh below false set) due
  unfolding left
  oldest_fit [] rest set below due low ok has ahead some f =
      go_on op.Zero (sh below false set) (sh (Stamp ∷ below) false set) (λ at. refl) (λ at. refl) (λ at. refl) refl
      (refl, refl, refl, refl, refl, enough (length below), refl, refl, refl, less (omega arith) low) (ahead rest (omega arith)) some f
  oldest_fit (o ∷ os) rest set below due low ok has ahead some f =
      load_own o.stamp Stamp ok.0.1 has.0 (less (omega arith) low) (ahead (older_code os ++ rest) (app_long (older_code os) rest)) (some_app (older_code os) rest some)
      (older_fit os rest set below due low ok.1 has.1 ahead some f)

  abbrev pub AreLent : List ℕ → Type 0
  AreLent flags = (s : ℕ) → is_member s flags ≡ true → IsLentOf p e Flag s

  pub first_lent : (s : ℕ) (ss : List ℕ) → AreLent (s ∷ ss) → IsLentOf p e Flag s
  first_lent s ss lent = lent s (ap (λ (b : Bool). b || is_member s ss) (eq-eqb s s refl))

  pub others_lent : (s : ℕ) (ss : List ℕ) → AreLent (s ∷ ss) → AreLent ss
  others_lent s ss lent m h = lent m (or_right (s == m) (is_member m ss) h)

  pub or_fit : (flags : List ℕ) (rest : List Instr) (set : List ℕ) (below : List Kind) (due : List (ℕ × Shape)) → HasRoom below → AreLent flags → IsAhead due rest → 0 < length rest
      → Fit p e rest (sh (Flag ∷ below) false set) due → Fit p e (or_code flags ++ rest) (sh (Flag ∷ below) false set) due
  unfolding left
  or_fit [] rest set below due low lent ahead some f = f
  or_fit (s ∷ ss) rest set below due low lent ahead some f =
      let l : length rest ≤ length (or_code ss ++ rest) = app_long (or_code ss) rest in
      load_lent s Flag (first_lent s ss lent) (less (omega arith) low) (ahead (op.Or ∷ (or_code ss ++ rest)) (omega (arith, l))) (omega arith)
      (go_on op.Or (sh (Flag ∷ Flag ∷ below) false set) (sh (Flag ∷ below) false set) (λ at. refl) (λ at. refl) (λ at. refl) refl
      (refl, refl, refl, refl, refl, enough_two (length below), refl, refl, refl, less (omega arith) low) (ahead (or_code ss ++ rest) l) (some_app (or_code ss) rest some)
      (or_fit ss rest set below due low (others_lent s ss lent) ahead some f))

  pub any_fit : (flags : List ℕ) (rest : List Instr) (set : List ℕ) (below : List Kind) (due : List (ℕ × Shape)) → HasRoom below → AreLent flags → IsAhead due rest → 0 < length rest
      → Fit p e rest (sh (Flag ∷ below) false set) due → Fit p e (any_code flags ++ rest) (sh below false set) due
  unfolding left
  any_fit [] rest set below due low lent ahead some f =
      go_on (op.Flag false) (sh below false set) (sh (Flag ∷ below) false set) (λ at. refl) (λ at. refl) (λ at. refl) refl
      (refl, refl, refl, refl, refl, enough (length below), refl, refl, refl, less (omega arith) low) (ahead rest (omega arith)) some f
  any_fit (s ∷ ss) rest set below due low lent ahead some f =
      load_lent s Flag (first_lent s ss lent) (less (omega arith) low) (ahead (or_code ss ++ rest) (app_long (or_code ss) rest)) (some_app (or_code ss) rest some)
      (or_fit ss rest set below due low (others_lent s ss lent) ahead some f)

  pub rerun_flag_fit : (looks : Bool) (os : List Output) (flags : List ℕ) (rest : List Instr) (set : List ℕ) (below : List Kind) (due : List (ℕ × Shape)) → HasRoom below → AreOutputs p e os → HasStamps set os → AreLent flags → IsAhead due rest → 0 < length rest
      → Fit p e rest (sh (Flag ∷ below) false set) due → Fit p e (rerun_flag_code looks os flags ++ rest) (sh below false set) due
  unfolding left
  rerun_flag_fit true os flags rest set below due low ok has lent ahead some f =
      let l : length rest ≤ length (or_code flags ++ rest) = app_long (or_code flags) rest in
      subst (λ (c : List Instr). Fit p e c (sh below false set) due) (sym (append_assoc (oldest_code os) (op.IsMissing ∷ or_code flags) rest))
      (oldest_fit os (op.IsMissing ∷ (or_code flags ++ rest)) set below due low ok has (λ xs le. ahead xs (omega (arith, l, le))) (omega arith)
      (go_on op.IsMissing (sh (Stamp ∷ below) false set) (sh (Flag ∷ below) false set) (λ at. refl) (λ at. refl) (λ at. refl) refl
      (refl, refl, refl, refl, refl, enough_one (length below), refl, refl, refl, less (omega arith) low) (ahead (or_code flags ++ rest) l) (some_app (or_code flags) rest some)
      (or_fit flags rest set below due low lent ahead some f)))
  rerun_flag_fit false os flags rest set below due low ok has lent ahead some f = any_fit flags rest set below due low lent ahead some f

  -- flags of a clean edge, with jumps still to land
  pub flag_fit : (b : Bool) (os : List Output) (rest : List Instr) (set : List ℕ) (due : List (ℕ × Shape)) → AreOutputs p e os → ((xs : List Instr) → AreAhead p e due (xs ++ rest)) → 0 < length rest
      → Fit p e rest (sh [] false (flags_set set os)) due → Fit p e (flag_code b os ++ rest) (sh [] false set) due
  unfolding left
  flag_fit b [] rest set due ok ahead some f = f
  flag_fit b (o ∷ os) rest set due ok ahead some f =
      go_on (op.Flag b) (sh ([]) false set) (sh (Flag ∷ []) false set) (λ at. refl) (λ at. refl) (λ at. refl) refl (refl, refl, refl, refl, refl, refl, refl, refl, refl, refl) (ahead (op.Store o.changed ∷ flag_code b os)) (omega arith)
      (store_own o.changed Flag ok.0.2 refl (ahead (flag_code b os)) (some_app (flag_code b os) rest some) (flag_fit b os rest (with_member o.changed set) due ok.1 ahead some f))

  -- ---- after the command

  pub deps_fit : (d : Option ℕ) (rest : List Instr) (set : List ℕ) → ((t : ℕ) → d ≡ Some t → IsText p t) → 0 < length rest → Fit p e rest (sh (Swept ∷ Stamp ∷ Text ∷ []) false set) []
      → Fit p e (deps_code d ++ rest) (sh (Stamp ∷ Text ∷ []) false set) []
  unfolding left
  deps_fit None rest set has some f = go_on op.NoPaths (sh (Stamp ∷ Text ∷ []) false set) (sh (Swept ∷ Stamp ∷ Text ∷ []) false set) (λ at. refl) (λ at. refl) (λ at. refl) refl (refl, refl, refl, refl, refl, refl, refl, refl, refl, refl) tt some f
  deps_fit (Some t) rest set has some f =
      go_on (op.Flag false) (sh (Stamp ∷ Text ∷ []) false set) (sh (Flag ∷ Stamp ∷ Text ∷ []) false set) (λ at. refl) (λ at. refl) (λ at. refl) refl (refl, refl, refl, refl, refl, refl, refl, refl, refl, refl) tt (omega arith)
      (go_on (op.Text t) (sh (Flag ∷ Stamp ∷ Text ∷ []) false set) (sh (Text ∷ Flag ∷ Stamp ∷ Text ∷ []) false set) (λ at. refl) (λ at. refl) (λ at. refl) refl (refl, refl, has t refl, refl, refl, refl, refl, refl, refl, refl) tt (omega arith)
      (go_on op.Deps (sh (Text ∷ Flag ∷ Stamp ∷ Text ∷ []) false set) (sh (Paths ∷ Flag ∷ Stamp ∷ Text ∷ []) false set) (λ at. refl) (λ at. refl) (λ at. refl) refl (refl, refl, refl, refl, refl, refl, refl, refl, refl, refl) tt (omega arith)
      (go_on op.Sweep (sh (Paths ∷ Flag ∷ Stamp ∷ Text ∷ []) false set) (sh (Swept ∷ Flag ∷ Stamp ∷ Text ∷ []) false set) (λ at. refl) (λ at. refl) (λ at. refl) refl (refl, refl, refl, refl, refl, refl, refl, refl, refl, refl) tt (omega arith)
      (go_on op.Swap (sh (Swept ∷ Flag ∷ Stamp ∷ Text ∷ []) false set) (sh (Flag ∷ Swept ∷ Stamp ∷ Text ∷ []) false set) (λ at. refl) (λ at. refl) (λ at. refl) refl (refl, refl, refl, refl, refl, refl, refl, refl, refl, refl) tt (omega arith)
      (go_on op.Drop (sh (Flag ∷ Swept ∷ Stamp ∷ Text ∷ []) false set) (sh (Swept ∷ Stamp ∷ Text ∷ []) false set) (λ at. refl) (λ at. refl) (λ at. refl) refl (refl, refl, refl, refl, refl, refl, refl, refl, refl, refl) tt some f)))))

  pub restat_fit : (os : List Output) (rest : List Instr) (set : List ℕ) → AreOutputs p e os → HasStamps set os → 0 < length rest → Fit p e rest (sh [] false (placed_set set os)) [] → Fit p e (restat_code os ++ rest) (sh [] false set) []
  unfolding left
  restat_fit [] rest set ok has some f = f
  restat_fit (o ∷ os) rest set ok has some f =
      let set1 : List ℕ = with_member o.stamp set in
      let set2 : List ℕ = with_member o.changed set1 in
      load_own o.stamp Stamp ok.0.1 has.0 refl tt (omega arith)
      (go_on (op.Stat o.file) (sh (Stamp ∷ []) false set) (sh (Stamp ∷ Stamp ∷ []) false set) (λ at. refl) (λ at. refl) (λ at. refl) refl (refl, ok.0.0, refl, refl, refl, refl, refl, refl, refl, refl) tt (omega arith)
      (store_over o.stamp Stamp ok.0.1 refl tt (omega arith)
      (load_own o.stamp Stamp ok.0.1 (mem_here o.stamp set) refl tt (omega arith)
      (go_on op.Same (sh (Stamp ∷ Stamp ∷ []) false set1) (sh (Flag ∷ []) false set1) (λ at. refl) (λ at. refl) (λ at. refl) refl (refl, refl, refl, refl, refl, refl, refl, refl, refl, refl) tt (omega arith)
      (go_on op.Not (sh (Flag ∷ []) false set1) (sh (Flag ∷ []) false set1) (λ at. refl) (λ at. refl) (λ at. refl) refl (refl, refl, refl, refl, refl, refl, refl, refl, refl, refl) tt (omega arith)
      (store_own o.changed Flag ok.0.2 refl tt (some_app (restat_code os) rest some)
      (restat_fit os rest set2 ok.1 (has_more os has.1) some f))))))) where
        has_more : (xs : List Output) → HasStamps set xs → HasStamps (with_member o.changed (with_member o.stamp set)) xs
        has_more [] h = tt
        has_more (x ∷ xs) h = (mem_stays x.stamp o.changed (with_member o.stamp set) (mem_stays x.stamp o.stamp set h.0), has_more xs h.1)

  -- ---- a command edge

  pub holders_outputs : (restat : Bool) (os : List Output) → AreOutputs p e os → AreOutputs p e (holders restat os)
  holders_outputs true os ok = ok
  holders_outputs false [] ok = tt
  holders_outputs false (o ∷ os) ok = (ok.0, tt)

  pub has_again : (set : List ℕ) (os : List Output) (xs : List Output) → HasStamps set xs → HasStamps (stamps_set set os) xs
  has_again set os [] h = tt
  has_again set os (x ∷ xs) h = (stamps_stay x.stamp set os h.0, has_again set os xs h.1)

  -- the values below the recorded paths
  abbrev pub under : Bool → List Kind
  under true = []
  under false = Flag ∷ Stamp ∷ Stamp ∷ []

  pub under_roomy : (r : Bool) → nat_lt 64 (suc (suc (suc (suc (suc (suc (length (under r)))))))) ≡ false
  under_roomy true = refl
  under_roomy false = refl

  module _ (w : CommandLayout) (right : IsCommand p e w) where
    -- the slots that are set after the outputs were asked for
    abbrev pub IsReady : List ℕ → Type 0
    IsReady set = (is_member w.newest set ≡ true) × HasStamps set w.outputs

    pub lent : AreLent w.flags
    lent = flags_lent p e w.named w.flags right.named right.flags

    pub end_fine : (set : List ℕ) → is_member w.newest set ≡ true → ((s : ℕ) → is_member s (slots_of w.outputs) ≡ true → is_member s set ≡ true)
        → (at : ℕ) → refused p e at op.End (sh [] false set) ≡ None
    end_fine set newest has at =
        let all : list_all (λ s. is_member s set) (own_slots p e) ≡ true =
        all_among (λ s. is_member s (w.newest ∷ slots_of w.outputs)) (λ s. is_member s set) (own_slots p e) (λ s h. elim (or_cases (w.newest == s) (is_member s (slots_of w.outputs)) h) [
          | inl same ↦ subst (λ (n : ℕ). is_member n set ≡ true) (eqb-true w.newest s same) newest
          | inr more ↦ has s more
        ]) right.own in
        none_refused p e at op.End (sh [] false set) (refl, refl, refl, refl, refl, refl, refl, ap not all, refl, refl) refl refl

    pub after_fit : (r : Bool) → w.restat ≡ r → (set : List ℕ) → IsReady set → Fit p e (after_code r w.outputs (op.End ∷ [])) (sh [] false set) []
    after_fit true is set ready =
        restat_fit w.outputs (op.End ∷ []) set right.outputs ready.1 (omega arith)
        (last p e (sh [] false (placed_set set w.outputs)) (end_fine (placed_set set w.outputs) (placed_stay w.newest set w.outputs ready.0) (λ s h. all_placed s set w.outputs h)))
    after_fit false is set ready =
        let have : HaveFlagSlots false w.outputs = subst (λ (r : Bool). HaveFlagSlots r w.outputs) is right.changed in
        let held : List Output = holders false w.outputs in
        let set2 : List ℕ = stamps_set set w.outputs in
        stat_fit w.outputs (flag_code true held ++ (op.End ∷ [])) set right.outputs (some_app (flag_code true held) (op.End ∷ []) (omega arith))
        (flag_fit true held (op.End ∷ []) set2 [] (holders_outputs false w.outputs right.outputs) (λ xs. tt) (omega arith)
        (last p e (sh [] false (flags_set set2 held)) (end_fine (flags_set set2 held) (flags_stay w.newest set2 held (stamps_stay w.newest set w.outputs ready.0))
        (λ s h. all_held false s set2 w.outputs have (has_again set w.outputs w.outputs ready.1) h))))

    pub after_some : (r : Bool) → 0 < length (after_code r w.outputs (op.End ∷ []))
    after_some true = some_app (restat_code w.outputs) (op.End ∷ []) (omega arith)
    after_some false = some_app (stat_code w.outputs) (flag_code true (holders false w.outputs) ++ (op.End ∷ [])) (some_app (flag_code true (holders false w.outputs)) (op.End ∷ []) (omega arith))

    pub text_right : (t : ℕ) → w.depfile ≡ Some t → IsText p t
    text_right t is = (right.depfile t is).0

    pub run_fit : (set : List ℕ) → IsReady set → Fit p e (run_code w) (sh [] false set) []
    unfolding left
    run_fit set ready =
        go_on op.Take (sh ([]) false set) (sh ([]) true set) (λ at. refl) (λ at. refl) (λ at. refl) refl (refl, refl, refl, refl, refl, refl, refl, refl, refl, refl) tt (omega arith)
        (go_on (op.Text w.command) (sh ([]) true set) (sh (Text ∷ []) true set) (λ at. refl) (λ at. refl) (λ at. refl) refl (refl, refl, right.command.0, refl, refl, refl, refl, refl, refl, refl) tt (omega arith)
        (go_on op.Run (sh (Text ∷ []) true set) (sh ([]) true set) (λ at. refl) (λ at. refl) (λ at. refl) refl (refl, refl, refl, refl, refl, refl, refl, refl, refl, refl) tt (omega arith)
        (go_on op.Release (sh ([]) true set) (sh ([]) false set) (λ at. refl) (λ at. refl) (λ at. refl) refl (refl, refl, refl, refl, refl, refl, refl, refl, refl, refl) tt (omega arith)
        (go_on (op.Text w.command) (sh ([]) false set) (sh (Text ∷ []) false set) (λ at. refl) (λ at. refl) (λ at. refl) refl (refl, refl, right.command.0, refl, refl, refl, refl, refl, refl, refl) tt (omega arith)
        (load_own w.newest Stamp right.newest.0 ready.0 refl tt (some_app (deps_code w.depfile) (op.Keep ∷ after_code w.restat w.outputs (op.End ∷ [])) (omega arith))
        (deps_fit w.depfile (op.Keep ∷ after_code w.restat w.outputs (op.End ∷ [])) set text_right (omega arith)
        (go_on op.Keep (sh (Swept ∷ Stamp ∷ Text ∷ []) false set) (sh ([]) false set) (λ at. refl) (λ at. refl) (λ at. refl) refl (refl, refl, refl, refl, refl, refl, refl, refl, refl, refl) tt (after_some w.restat) (after_fit w.restat refl set ready))))))))

    pub dirty_fit : (set : List ℕ) (r : ℕ) → IsReady set → drop r (code p e) ≡ run_code w → Fit p e (dirty_code w) (sh (Stamp ∷ Stamp ∷ []) false set) ((r, sh [] false set) ∷ [])
    unfolding left
    dirty_fit set r ready stands =
        let long : length (run_code w) ≡ length (code p e) - r = sym (ap length stands) ∙ drop_length (code p e) r in
        go_on op.Drop (sh (Stamp ∷ Stamp ∷ []) false set) (sh (Stamp ∷ []) false set) (λ at. refl) (λ at. refl) (λ at. refl) refl (refl, refl, refl, refl, refl, refl, refl, refl, refl, refl) (omega (arith, long), tt) (omega arith)
        (join p e op.Drop r (run_code w) (sh (Stamp ∷ []) false set) (sh [] false set) refl (λ at. refl) stands (omega arith)
        (λ at off. none_refused p e at op.Drop (sh (Stamp ∷ []) false set) (refl, refl, refl, refl, refl, refl, refl, refl, refl, refl) refl off) (run_fit set ready))

    -- the end of a clean edge
    pub clean_fine : (set : List ℕ) → IsReady set → (at : ℕ) → refused p e at op.End (sh [] false (flags_set set (holders w.restat w.outputs))) ≡ None
    clean_fine set ready =
        end_fine (flags_set set (holders w.restat w.outputs)) (flags_stay w.newest set (holders w.restat w.outputs) ready.0) (λ s h. all_held w.restat s set w.outputs right.changed ready.1 h)

    pub ahead_more : (due : List (ℕ × Shape)) (d : ℕ) (s : Shape) (rest : List Instr) → AreAhead p e due rest → length (code p e) - d < length rest → AreAhead p e (due ++ ((d, s) ∷ [])) rest
    ahead_more [] d s rest ahead lt = (lt, tt)
    ahead_more (x ∷ xs) d s rest ahead lt = (ahead.0, ahead_more xs d s rest ahead.1 lt)

    -- from the sweep on, with the jumps still to land, given that the code after the end fits
    pub age_test_fit : (at d r : ℕ) (set : List ℕ) (due : List (ℕ × Shape)) → IsReady set → d ≡ at + 6 + clean_len w → r ≡ at + 8 + clean_len w
        → drop d (code p e) ≡ dirty_code w → drop r (code p e) ≡ run_code w → IsAhead due (op.End ∷ dirty_code w)
        → Fit p e (op.End ∷ dirty_code w) (sh [] false (flags_set set (holders w.restat w.outputs))) ((due ++ ((d, sh (Stamp ∷ Stamp ∷ []) false set) ∷ [])) ++ ((r, sh [] false set) ∷ []))
        → Fit p e (age_test_code w at) (sh (Paths ∷ Flag ∷ Stamp ∷ Stamp ∷ []) false set) due
    unfolding left
    age_test_fit at d r set due ready d_is r_is d_stands r_stands ahead f =
        let sd : Shape = sh (Stamp ∷ Stamp ∷ []) false set in
        let tail : List Instr = clean_code w ++ (op.End ∷ dirty_code w) in
        let late : List Instr = op.Before ∷ op.JumpIf (at + 8 + clean_len w) ∷ tail in
        let d_long : length (dirty_code w) ≡ length (code p e) - d = sym (ap length d_stands) ∙ drop_length (code p e) d in
        let r_long : length (run_code w) ≡ length (code p e) - r = sym (ap length r_stands) ∙ drop_length (code p e) r in
        let longer : length (op.End ∷ dirty_code w) ≤ length tail = app_long (clean_code w) (op.End ∷ dirty_code w) in
        go_on op.Sweep (sh (Paths ∷ Flag ∷ Stamp ∷ Stamp ∷ []) false set) (sh (Swept ∷ Flag ∷ Stamp ∷ Stamp ∷ []) false set) (λ at. refl) (λ at. refl) (λ at. refl) refl (refl, refl, refl, refl, refl, refl, refl, refl, refl, refl) (ahead (op.Drop ∷ op.JumpIf (at + 6 + clean_len w) ∷ late) (omega (arith, longer))) (omega arith)
        (go_on op.Drop (sh (Swept ∷ Flag ∷ Stamp ∷ Stamp ∷ []) false set) (sh (Flag ∷ Stamp ∷ Stamp ∷ []) false set) (λ at. refl) (λ at. refl) (λ at. refl) refl (refl, refl, refl, refl, refl, refl, refl, refl, refl, refl) (ahead (op.JumpIf (at + 6 + clean_len w) ∷ late) (omega (arith, longer))) (omega arith)
        (subst (λ (n : ℕ). Fit p e (op.JumpIf n ∷ late) (sh (Flag ∷ Stamp ∷ Stamp ∷ []) false set) due) d_is
        (branch p e d late (sh (Flag ∷ Stamp ∷ Stamp ∷ []) false set) due
        (ahead late (omega (arith, longer))) (omega (arith, d_long, longer)) (omega (arith, d_long))
        (λ place a b c. none_refused p e place (op.JumpIf d) (sh (Flag ∷ Stamp ∷ Stamp ∷ []) false set) (refl, refl, refl, refl, refl, refl, refl, refl, refl, refl) (ap (λ (x : Bool). x || nat_le (length (code p e)) d) a ∙ b) c)
        (go_on op.Before (sh (Stamp ∷ Stamp ∷ []) false set) (sh (Flag ∷ []) false set) (λ at. refl) (λ at. refl) (λ at. refl) refl (refl, refl, refl, refl, refl, refl, refl, refl, refl, refl)
        (ahead_more due d sd (op.JumpIf (at + 8 + clean_len w) ∷ tail) (ahead (op.JumpIf (at + 8 + clean_len w) ∷ tail) (omega (arith, longer))) (omega (arith, d_long, longer))) (omega arith)
        (subst (λ (n : ℕ). Fit p e (op.JumpIf n ∷ tail) (sh (Flag ∷ []) false set) (due ++ ((d, sd) ∷ []))) r_is
        (branch p e r tail (sh (Flag ∷ []) false set) (due ++ ((d, sd) ∷ []))
        (ahead_more due d sd tail (ahead tail longer) (omega (arith, d_long, longer))) (omega (arith, r_long, longer)) (omega (arith, r_long))
        (λ place a b c. none_refused p e place (op.JumpIf r) (sh (Flag ∷ []) false set) (refl, refl, refl, refl, refl, refl, refl, refl, refl, refl) (ap (λ (x : Bool). x || nat_le (length (code p e)) r) a ∙ b) c)
        (flag_fit false (holders w.restat w.outputs) (op.End ∷ dirty_code w) set ((due ++ ((d, sd) ∷ [])) ++ ((r, sh [] false set) ∷ [])) (holders_outputs w.restat w.outputs right.outputs)
        (λ xs. let l2 : length (op.End ∷ dirty_code w) ≤ length (xs ++ (op.End ∷ dirty_code w)) = app_long xs (op.End ∷ dirty_code w) in
        ahead_more (due ++ ((d, sd) ∷ [])) r (sh [] false set) (xs ++ (op.End ∷ dirty_code w))
        (ahead_more due d sd (xs ++ (op.End ∷ dirty_code w)) (ahead (xs ++ (op.End ∷ dirty_code w)) l2) (omega (arith, d_long, l2))) (omega (arith, r_long, l2))) (omega arith) f)))))))

    -- from a baseline above the paths
    pub under_fit : (looks : Bool) (rest : List Instr) (set : List ℕ) (due : List (ℕ × Shape)) → IsReady set → IsAhead due rest → 0 < length rest
        → Fit p e rest (sh (Paths ∷ Flag ∷ Stamp ∷ Stamp ∷ []) false set) due → Fit p e (under_code looks w rest) (sh (Stamp ∷ Paths ∷ []) false set) due
    unfolding left
    under_fit looks rest set due ready ahead some f =
        let rerun_flag : List Instr = rerun_flag_code looks w.outputs w.flags ++ (op.Swap ∷ rest) in
        let l : length (op.Swap ∷ rest) ≤ length rerun_flag = app_long (rerun_flag_code looks w.outputs w.flags) (op.Swap ∷ rest) in
        go_on op.Swap (sh (Stamp ∷ Paths ∷ []) false set) (sh (Paths ∷ Stamp ∷ []) false set) (λ at. refl) (λ at. refl) (λ at. refl) refl (refl, refl, refl, refl, refl, refl, refl, refl, refl, refl) (ahead (op.Load w.newest ∷ op.Swap ∷ rerun_flag) (omega (arith, l))) (omega arith)
        (load_own w.newest Stamp right.newest.0 ready.0 refl (ahead (op.Swap ∷ rerun_flag) (omega (arith, l))) (omega arith)
        (go_on op.Swap (sh (Stamp ∷ Paths ∷ Stamp ∷ []) false set) (sh (Paths ∷ Stamp ∷ Stamp ∷ []) false set) (λ at. refl) (λ at. refl) (λ at. refl) refl (refl, refl, refl, refl, refl, refl, refl, refl, refl, refl) (ahead rerun_flag (omega (arith, l))) (omega (arith, l))
        (rerun_flag_fit looks w.outputs w.flags (op.Swap ∷ rest) set (Paths ∷ Stamp ∷ Stamp ∷ []) due refl right.outputs ready.1 lent (λ xs le. ahead xs (omega (arith, le))) (omega arith)
        (go_on op.Swap (sh (Flag ∷ Paths ∷ Stamp ∷ Stamp ∷ []) false set) (sh (Paths ∷ Flag ∷ Stamp ∷ Stamp ∷ []) false set) (λ at. refl) (λ at. refl) (λ at. refl) refl (refl, refl, refl, refl, refl, refl, refl, refl, refl, refl) (ahead rest (omega arith)) some f))))

    pub ready_fit : (b : Baseline) (rest : List Instr) (set : List ℕ) (due : List (ℕ × Shape)) → IsReady set → IsAhead due rest → 0 < length rest
        → Fit p e rest (sh (Paths ∷ Flag ∷ Stamp ∷ Stamp ∷ []) false set) due → Fit p e (ready_code b w rest) (sh (Stamp ∷ Paths ∷ under (compares_basis b)) false set) due
    unfolding left
    ready_fit Basis rest set due ready ahead some f = under_fit true rest set due ready ahead some f
    ready_fit OutputsAndBasis rest set due ready ahead some f =
        let looks : Bool = not (has_source_file w.named) in
        let tail : List Instr = under_code looks w rest in
        let l : length rest ≤ length tail = under_long looks w rest in
        oldest_fit w.outputs (op.Older ∷ tail) set (Stamp ∷ Paths ∷ []) due refl right.outputs ready.1 (λ xs le. ahead xs (omega (arith, l, le))) (omega arith)
        (go_on op.Older (sh (Stamp ∷ Stamp ∷ Paths ∷ []) false set) (sh (Stamp ∷ Paths ∷ []) false set) (λ at. refl) (λ at. refl) (λ at. refl) refl (refl, refl, refl, refl, refl, refl, refl, refl, refl, refl) (ahead tail l) (omega arith)
        (under_fit looks rest set due ready ahead some f))
    ready_fit Outputs rest set due ready ahead some f =
        go_on op.Drop (sh (Stamp ∷ Paths ∷ Flag ∷ Stamp ∷ Stamp ∷ []) false set) (sh (Paths ∷ Flag ∷ Stamp ∷ Stamp ∷ []) false set) (λ at. refl) (λ at. refl) (λ at. refl) refl (refl, refl, refl, refl, refl, refl, refl, refl, refl, refl) (ahead rest (omega arith)) some f

    pub skip_fit : (r : Bool) (rest : List Instr) (set : List ℕ) (due : List (ℕ × Shape)) → IsAhead due rest → 0 < length rest
        → Fit p e rest (sh (Paths ∷ Flag ∷ Stamp ∷ Stamp ∷ []) false set) due → Fit p e (skip_code r rest) (sh (Stamp ∷ Paths ∷ under r) false set) due
    unfolding left
    skip_fit true rest set due ahead some f =
        go_on op.Swap (sh (Stamp ∷ Paths ∷ []) false set) (sh (Paths ∷ Stamp ∷ []) false set) (λ at. refl) (λ at. refl) (λ at. refl) refl (refl, refl, refl, refl, refl, refl, refl, refl, refl, refl) (ahead (op.Zero ∷ op.Swap ∷ op.Flag false ∷ op.Swap ∷ rest) (omega arith)) (omega arith)
        (go_on op.Zero (sh (Paths ∷ Stamp ∷ []) false set) (sh (Stamp ∷ Paths ∷ Stamp ∷ []) false set) (λ at. refl) (λ at. refl) (λ at. refl) refl (refl, refl, refl, refl, refl, refl, refl, refl, refl, refl) (ahead (op.Swap ∷ op.Flag false ∷ op.Swap ∷ rest) (omega arith)) (omega arith)
        (go_on op.Swap (sh (Stamp ∷ Paths ∷ Stamp ∷ []) false set) (sh (Paths ∷ Stamp ∷ Stamp ∷ []) false set) (λ at. refl) (λ at. refl) (λ at. refl) refl (refl, refl, refl, refl, refl, refl, refl, refl, refl, refl) (ahead (op.Flag false ∷ op.Swap ∷ rest) (omega arith)) (omega arith)
        (go_on (op.Flag false) (sh (Paths ∷ Stamp ∷ Stamp ∷ []) false set) (sh (Flag ∷ Paths ∷ Stamp ∷ Stamp ∷ []) false set) (λ at. refl) (λ at. refl) (λ at. refl) refl (refl, refl, refl, refl, refl, refl, refl, refl, refl, refl) (ahead (op.Swap ∷ rest) (omega arith)) (omega arith)
        (go_on op.Swap (sh (Flag ∷ Paths ∷ Stamp ∷ Stamp ∷ []) false set) (sh (Paths ∷ Flag ∷ Stamp ∷ Stamp ∷ []) false set) (λ at. refl) (λ at. refl) (λ at. refl) refl (refl, refl, refl, refl, refl, refl, refl, refl, refl, refl) (ahead rest (omega arith)) some f))))
    skip_fit false rest set due ahead some f =
        go_on op.Drop (sh (Stamp ∷ Paths ∷ Flag ∷ Stamp ∷ Stamp ∷ []) false set) (sh (Paths ∷ Flag ∷ Stamp ∷ Stamp ∷ []) false set) (λ at. refl) (λ at. refl) (λ at. refl) refl (refl, refl, refl, refl, refl, refl, refl, refl, refl, refl) (ahead rest (omega arith)) some f

    -- the comparison of the command
    pub same_fit : (blank : Bool) (deep : List Kind) (rest : List Instr) (set : List ℕ) → nat_lt 64 (suc (suc (suc (suc (suc (suc (length deep))))))) ≡ false → 0 < length rest
        → Fit p e rest (sh (Flag ∷ Stamp ∷ Paths ∷ deep) false set) [] → Fit p e (same_code blank w.command ++ rest) (sh (Flag ∷ Text ∷ Stamp ∷ Paths ∷ deep) false set) []
    unfolding left
    same_fit true deep rest set low some f =
        let two : ℕ = suc (suc (length deep)) in
        go_on op.Not (sh (Flag ∷ Text ∷ Stamp ∷ Paths ∷ deep) false set) (sh (Flag ∷ Text ∷ Stamp ∷ Paths ∷ deep) false set) (λ at. refl) (λ at. refl) (λ at. refl) refl (refl, refl, refl, refl, refl, enough_one (suc two), refl, refl, refl, less (omega arith) low) tt (omega arith)
        (go_on op.Swap (sh (Flag ∷ Text ∷ Stamp ∷ Paths ∷ deep) false set) (sh (Text ∷ Flag ∷ Stamp ∷ Paths ∷ deep) false set) (λ at. refl) (λ at. refl) (λ at. refl) refl (refl, refl, refl, refl, refl, enough_two two, refl, refl, refl, less (omega arith) low) tt (omega arith)
        (go_on (op.Text w.command) (sh (Text ∷ Flag ∷ Stamp ∷ Paths ∷ deep) false set) (sh (Text ∷ Text ∷ Flag ∷ Stamp ∷ Paths ∷ deep) false set) (λ at. refl) (λ at. refl) (λ at. refl) refl (refl, refl, right.command.0, refl, refl, enough (suc (suc two)), refl, refl, refl, less (omega arith) low) tt (omega arith)
        (go_on op.Equal (sh (Text ∷ Text ∷ Flag ∷ Stamp ∷ Paths ∷ deep) false set) (sh (Flag ∷ Flag ∷ Stamp ∷ Paths ∷ deep) false set) (λ at. refl) (λ at. refl) (λ at. refl) refl (refl, refl, refl, refl, refl, enough_two (suc two), refl, refl, refl, less (omega arith) low) tt (omega arith)
        (go_on op.Not (sh (Flag ∷ Flag ∷ Stamp ∷ Paths ∷ deep) false set) (sh (Flag ∷ Flag ∷ Stamp ∷ Paths ∷ deep) false set) (λ at. refl) (λ at. refl) (λ at. refl) refl (refl, refl, refl, refl, refl, enough_one (suc two), refl, refl, refl, less (omega arith) low) tt (omega arith)
        (go_on op.Or (sh (Flag ∷ Flag ∷ Stamp ∷ Paths ∷ deep) false set) (sh (Flag ∷ Stamp ∷ Paths ∷ deep) false set) (λ at. refl) (λ at. refl) (λ at. refl) refl (refl, refl, refl, refl, refl, enough_two two, refl, refl, refl, less (omega arith) low) tt (omega arith)
        (go_on op.Not (sh (Flag ∷ Stamp ∷ Paths ∷ deep) false set) (sh (Flag ∷ Stamp ∷ Paths ∷ deep) false set) (λ at. refl) (λ at. refl) (λ at. refl) refl (refl, refl, refl, refl, refl, enough_one two, refl, refl, refl, less (omega arith) low) tt some f))))))
    same_fit false deep rest set low some f =
        let two : ℕ = suc (suc (length deep)) in
        go_on op.Drop (sh (Flag ∷ Text ∷ Stamp ∷ Paths ∷ deep) false set) (sh (Text ∷ Stamp ∷ Paths ∷ deep) false set) (λ at. refl) (λ at. refl) (λ at. refl) refl (refl, refl, refl, refl, refl, enough_one (suc two), refl, refl, refl, less (omega arith) low) tt (omega arith)
        (go_on (op.Text w.command) (sh (Text ∷ Stamp ∷ Paths ∷ deep) false set) (sh (Text ∷ Text ∷ Stamp ∷ Paths ∷ deep) false set) (λ at. refl) (λ at. refl) (λ at. refl) refl (refl, refl, right.command.0, refl, refl, enough (suc two), refl, refl, refl, less (omega arith) low) tt (omega arith)
        (go_on op.Equal (sh (Text ∷ Text ∷ Stamp ∷ Paths ∷ deep) false set) (sh (Flag ∷ Stamp ∷ Paths ∷ deep) false set) (λ at. refl) (λ at. refl) (λ at. refl) refl (refl, refl, refl, refl, refl, enough_two two, refl, refl, refl, less (omega arith) low) tt some f))

    -- the code that decides whether the edge is dirty, if no jump is still to land
    pub same_command_fit : (r : Bool) → compares_basis w.baseline ≡ r → (at : ℕ) (set : List ℕ) → IsReady set → drop at (code p e) ≡ same_command_code w at → Fit p e (same_command_code w at) (sh (Stamp ∷ Paths ∷ under r) false set) []
    same_command_fit r is at set ready stands =
        let place : ℕ = at + ready_len w in
        let age_test : drop place (code p e) ≡ age_test_code w place = age_test_stands (code p e) w at stands in
        let d : ℕ = place + 6 + clean_len w in
        let rr : ℕ = place + 8 + clean_len w in
        let d_stands : drop d (code p e) ≡ dirty_code w = dirty_stands (code p e) w place age_test in
        let r_stands : drop rr (code p e) ≡ run_code w = run_stands (code p e) w place age_test in
        let r_long : length (run_code w) ≡ length (code p e) - rr = sym (ap length r_stands) ∙ drop_length (code p e) rr in
        subst (λ (x : Bool). Fit p e (same_command_code w at) (sh (Stamp ∷ Paths ∷ under x) false set) []) is
        (ready_fit w.baseline (age_test_code w place) set [] ready (λ xs le. tt) (omega arith)
        (age_test_fit place d rr set [] ready refl refl d_stands r_stands (λ xs le. tt)
        (end_land p e d rr (dirty_code w) (sh [] false (flags_set set (holders w.restat w.outputs))) (sh (Stamp ∷ Stamp ∷ []) false set) (sh [] false set)
        d_stands (omega arith) (omega (arith, r_long)) (clean_fine set ready) (dirty_fit set rr ready r_stands))))

    -- the same with a jump to the dirty code
    pub same_command_twice_fit : (at : ℕ) (set : List ℕ) → IsReady set → drop at (code p e) ≡ same_command_code w at → Fit p e (same_command_code w at) (sh (Stamp ∷ Paths ∷ under (compares_basis w.baseline)) false set) ((dirty_place w at, sh (Stamp ∷ Stamp ∷ []) false set) ∷ [])
    same_command_twice_fit at set ready stands =
        let place : ℕ = at + ready_len w in
        let age_test : drop place (code p e) ≡ age_test_code w place = age_test_stands (code p e) w at stands in
        let d : ℕ = place + 6 + clean_len w in
        let rr : ℕ = place + 8 + clean_len w in
        let sd : Shape = sh (Stamp ∷ Stamp ∷ []) false set in
        let d_stands : drop d (code p e) ≡ dirty_code w = dirty_stands (code p e) w place age_test in
        let r_stands : drop rr (code p e) ≡ run_code w = run_stands (code p e) w place age_test in
        let d_long : length (dirty_code w) ≡ length (code p e) - d = sym (ap length d_stands) ∙ drop_length (code p e) d in
        let r_long : length (run_code w) ≡ length (code p e) - rr = sym (ap length r_stands) ∙ drop_length (code p e) rr in
        let tail : List Instr = clean_code w ++ (op.End ∷ dirty_code w) in
        let long : length (op.End ∷ dirty_code w) ≤ length tail = app_long (clean_code w) (op.End ∷ dirty_code w) in
        ready_fit w.baseline (age_test_code w place) set ((d, sd) ∷ []) ready (λ xs le. (omega (arith, d_long, long, le), tt)) (omega arith)
        (age_test_fit place d rr set ((d, sd) ∷ []) ready refl refl d_stands r_stands (λ xs le. (omega (arith, d_long, le), tt))
        (end_land_twice p e d rr (dirty_code w) (sh [] false (flags_set set (holders w.restat w.outputs))) sd (sh [] false set)
        d_stands (omega arith) (omega (arith, r_long)) (clean_fine set ready) (dirty_fit set rr ready r_stands)))

    pub compare_fit : (at : ℕ) (set : List ℕ) → IsReady set → drop at (code p e) ≡ compare_code w at → Fit p e (compare_code w at) (sh (Flag ∷ Text ∷ Stamp ∷ Paths ∷ under (compares_basis w.baseline)) false set) []
    unfolding left
    compare_fit at set ready stands =
        let place : ℕ = same_place w at in
        let d : ℕ = dirty_place w place in
        let judged : List Instr = same_command_code w place in
        let sj : Shape = sh (Stamp ∷ Paths ∷ under (compares_basis w.baseline)) false set in
        let sd : Shape = sh (Stamp ∷ Stamp ∷ []) false set in
        let same_command_at : drop place (code p e) ≡ judged = same_stands (code p e) w at stands in
        let age_test : drop (place + ready_len w) (code p e) ≡ age_test_code w (place + ready_len w) = age_test_stands (code p e) w place same_command_at in
        let d_stands : drop d (code p e) ≡ dirty_code w = dirty_stands (code p e) w (place + ready_len w) age_test in
        let j_long : length judged ≡ length (code p e) - place = sym (ap length same_command_at) ∙ drop_length (code p e) place in
        let d_long : length (dirty_code w) ≡ length (code p e) - d = sym (ap length d_stands) ∙ drop_length (code p e) d in
        let tail : List Instr = clean_code w ++ (op.End ∷ dirty_code w) in
        let long : length (op.End ∷ dirty_code w) ≤ length tail = app_long (clean_code w) (op.End ∷ dirty_code w) in
        let longer : length (age_test_code w (place + ready_len w)) ≤ length judged = ready_long w.baseline w (age_test_code w (place + ready_len w)) in
        let other : List Instr = other_code w d judged in
        let skip : suc (suc (suc (suc (length judged)))) < length other = skip_long (compares_basis w.baseline) (op.Sweep ∷ op.Drop ∷ op.Drop ∷ op.Jump d ∷ judged) in
        same_fit w.blank (under (compares_basis w.baseline)) (op.JumpIf place ∷ other) set (under_roomy (compares_basis w.baseline)) (omega arith)
        (branch p e place other (sh (Flag ∷ Stamp ∷ Paths ∷ under (compares_basis w.baseline)) false set) [] tt (omega (arith, j_long, skip)) (omega (arith, j_long, longer))
        (λ here a b c. none_refused p e here (op.JumpIf place) (sh (Flag ∷ Stamp ∷ Paths ∷ under (compares_basis w.baseline)) false set)
        (refl, refl, refl, refl, refl, enough_one (suc (suc (length (under (compares_basis w.baseline))))), refl, refl, refl, less (omega arith) (under_roomy (compares_basis w.baseline))) (ap (λ (x : Bool). x || nat_le (length (code p e)) place) a ∙ b) c)
        (skip_fit (compares_basis w.baseline) (op.Sweep ∷ op.Drop ∷ op.Drop ∷ op.Jump d ∷ judged) set ((place, sj) ∷ []) (λ xs le. (omega (arith, j_long, le), tt)) (omega arith)
        (go_on op.Sweep (sh (Paths ∷ Flag ∷ Stamp ∷ Stamp ∷ []) false set) (sh (Swept ∷ Flag ∷ Stamp ∷ Stamp ∷ []) false set) (λ at. refl) (λ at. refl) (λ at. refl) refl (refl, refl, refl, refl, refl, refl, refl, refl, refl, refl) (omega (arith, j_long), tt) (omega arith)
        (go_on op.Drop (sh (Swept ∷ Flag ∷ Stamp ∷ Stamp ∷ []) false set) (sh (Flag ∷ Stamp ∷ Stamp ∷ []) false set) (λ at. refl) (λ at. refl) (λ at. refl) refl (refl, refl, refl, refl, refl, refl, refl, refl, refl, refl) (omega (arith, j_long), tt) (omega arith)
        (go_on op.Drop (sh (Flag ∷ Stamp ∷ Stamp ∷ []) false set) (sh (Stamp ∷ Stamp ∷ []) false set) (λ at. refl) (λ at. refl) (λ at. refl) refl (refl, refl, refl, refl, refl, refl, refl, refl, refl, refl) (omega (arith, j_long), tt) (omega arith)
        (jump_land p e d place judged sd sj refl same_command_at (omega (arith, d_long, long, longer)) (omega (arith, d_long))
        (λ here a b. none_refused p e here (op.Jump d) sd (refl, refl, refl, refl, refl, refl, refl, refl, refl, refl) (ap (λ (x : Bool). x || nat_le (length (code p e)) d) a ∙ b) refl)
        (same_command_twice_fit place set ready same_command_at)))))))

    pub pass_fit : (r : Bool) → compares_basis w.baseline ≡ r → (at : ℕ) (set : List ℕ) → IsReady set → drop at (code p e) ≡ pass_code r w at → Fit p e (pass_code r w at) (sh (Flag ∷ Text ∷ Stamp ∷ Paths ∷ under r) false set) []
    unfolding left
    pass_fit false is at set ready stands =
        go_on op.Drop (sh (Flag ∷ Text ∷ Stamp ∷ Paths ∷ Flag ∷ Stamp ∷ Stamp ∷ []) false set) (sh (Text ∷ Stamp ∷ Paths ∷ Flag ∷ Stamp ∷ Stamp ∷ []) false set) (λ at. refl) (λ at. refl) (λ at. refl) refl (refl, refl, refl, refl, refl, refl, refl, refl, refl, refl) tt (omega arith)
        (go_on op.Drop (sh (Text ∷ Stamp ∷ Paths ∷ Flag ∷ Stamp ∷ Stamp ∷ []) false set) (sh (Stamp ∷ Paths ∷ Flag ∷ Stamp ∷ Stamp ∷ []) false set) (λ at. refl) (λ at. refl) (λ at. refl) refl (refl, refl, refl, refl, refl, refl, refl, refl, refl, refl) tt
        (ready_some w.baseline w (age_test_code w (at + 2 + ready_len w))) (same_command_fit false is (at + 2) set ready (passed_stands (code p e) w at stands)))
    pass_fit true is at set ready stands =
        let place : ℕ = known_place w at in
        let judged : List Instr = same_command_code w (place + 1) in
        let known : drop place (code p e) ≡ op.Drop ∷ judged = known_stands (code p e) w at stands in
        let based : drop (place + 1) (code p e) ≡ judged = baseline_stands (code p e) w at stands in
        let k_long : length (op.Drop ∷ judged) ≡ length (code p e) - place = sym (ap length known) ∙ drop_length (code p e) place in
        let m_long : length judged ≡ length (code p e) - (place + 1) = sym (ap length based) ∙ drop_length (code p e) (place + 1) in
        let some : 0 < length judged = ready_some w.baseline w (age_test_code w (place + 1 + ready_len w)) in
        let sk : Shape = sh (Text ∷ Stamp ∷ Paths ∷ []) false set in
        let sj : Shape = sh (Stamp ∷ Paths ∷ []) false set in
        let back : List Instr = op.Jump (place + 1) ∷ op.Drop ∷ judged in
        let old : List Instr = oldest_code w.outputs ++ back in
        let long : length back ≤ length old = app_long (oldest_code w.outputs) back in
        branch p e place (op.Drop ∷ op.Drop ∷ old) (sh (Flag ∷ Text ∷ Stamp ∷ Paths ∷ []) false set) [] tt (omega (arith, k_long, long)) (omega (arith, k_long))
        (λ here a b c. none_refused p e here (op.JumpIf place) (sh (Flag ∷ Text ∷ Stamp ∷ Paths ∷ []) false set) (refl, refl, refl, refl, refl, refl, refl, refl, refl, refl) (ap (λ (x : Bool). x || nat_le (length (code p e)) place) a ∙ b) c)
        (go_on op.Drop sk (sh (Stamp ∷ Paths ∷ []) false set) (λ at. refl) (λ at. refl) (λ at. refl) refl (refl, refl, refl, refl, refl, refl, refl, refl, refl, refl) (omega (arith, k_long, long), tt) (omega arith)
        (go_on op.Drop (sh (Stamp ∷ Paths ∷ []) false set) (sh (Paths ∷ []) false set) (λ at. refl) (λ at. refl) (λ at. refl) refl (refl, refl, refl, refl, refl, refl, refl, refl, refl, refl) (omega (arith, k_long, long), tt) (omega (arith, long))
        (oldest_fit w.outputs back set (Paths ∷ []) ((place, sk) ∷ []) refl right.outputs ready.1 (λ xs le. (omega (arith, k_long, le), tt)) (omega arith)
        (jump_land p e (place + 1) place (op.Drop ∷ judged) sj sk refl known (omega (arith, m_long)) (omega (arith, m_long, some))
        (λ here a b. none_refused p e here (op.Jump (place + 1)) sj (refl, refl, refl, refl, refl, refl, refl, refl, refl, refl) (ap (λ (x : Bool). x || nat_le (length (code p e)) (place + 1)) a ∙ b) refl)
        (join p e op.Drop (place + 1) judged sk sj refl (λ at. refl) based some
        (λ here off. none_refused p e here op.Drop sk (refl, refl, refl, refl, refl, refl, refl, refl, refl, refl) refl off)
        (same_command_fit true is (place + 1) set ready based))))))

    -- the code after the entry
    pub from_entry_fit : (g : Bool) (at : ℕ) (set : List ℕ) → IsReady set → drop at (code p e) ≡ from_entry_code g w at → Fit p e (from_entry_code g w at) (sh (Flag ∷ Text ∷ Stamp ∷ Paths ∷ under (compares_basis w.baseline)) false set) []
    from_entry_fit true at set ready stands = pass_fit (compares_basis w.baseline) refl at set ready stands
    from_entry_fit false at set ready stands = compare_fit at set ready stands

    pub before_sweep_some : (r : Bool) (rest : List Instr) → 0 < length rest → 0 < length (before_sweep_code r w rest)
    before_sweep_some true rest some = some
    before_sweep_some false rest some = some_app (oldest_code w.outputs) (op.Load w.newest ∷ (rerun_flag_code (not (has_source_file w.named)) w.outputs w.flags ++ rest)) (omega arith)

    pub before_sweep_fit : (r : Bool) (rest : List Instr) (set : List ℕ) → IsReady set → 0 < length rest → Fit p e rest (sh (under r) false set) [] → Fit p e (before_sweep_code r w rest) (sh [] false set) []
    before_sweep_fit true rest set ready some f = f
    before_sweep_fit false rest set ready some f =
        let rerun_flag : List Instr = rerun_flag_code (not (has_source_file w.named)) w.outputs w.flags in
        oldest_fit w.outputs (op.Load w.newest ∷ (rerun_flag ++ rest)) set [] [] refl right.outputs ready.1 (λ xs le. tt) (omega arith)
        (load_own w.newest Stamp right.newest.0 ready.0 refl tt (some_app rerun_flag rest some)
        (rerun_flag_fit (not (has_source_file w.named)) w.outputs w.flags rest set (Stamp ∷ Stamp ∷ []) [] refl right.outputs ready.1 lent (λ xs le. tt) some f))

    pub front_fit : (rest : List Instr) → 0 < length rest → ((set : List ℕ) → IsReady set → Fit p e rest (sh (Flag ∷ Text ∷ Stamp ∷ Paths ∷ under (compares_basis w.baseline)) false set) []) → Fit p e (front w rest) at_start []
    unfolding left
    front_fit rest some f =
        let set : List ℕ = stamps_set (with_member w.newest []) w.outputs in
        let has : HasStamps set w.outputs = stamps_have (with_member w.newest []) w.outputs in
        let newest : is_member w.newest set ≡ true = stamps_stay w.newest (with_member w.newest []) w.outputs (mem_here w.newest []) in
        let before_sweep : List Instr = before_sweep_code (compares_basis w.baseline) w (op.Recall ∷ rest) in
        let s1 : 0 < length before_sweep = before_sweep_some (compares_basis w.baseline) (op.Recall ∷ rest) (omega arith) in
        let stats : List Instr = stat_code w.outputs ++ before_sweep in
        order_fit w.order_only (newest_code w.named ++ (op.Store w.newest ∷ stats)) [] right.order_only (some_app (newest_code w.named) (op.Store w.newest ∷ stats) (omega arith))
        (newest_fit w.named (op.Store w.newest ∷ stats) [] right.named (omega arith)
        (store_own w.newest Stamp right.newest.0 refl tt (some_app (stat_code w.outputs) before_sweep s1)
        (stat_fit w.outputs before_sweep (with_member w.newest []) right.outputs s1
        (before_sweep_fit (compares_basis w.baseline) (op.Recall ∷ rest) set (newest, has) (omega arith)
        (go_on op.Recall (sh (under (compares_basis w.baseline)) false set) (sh (Flag ∷ Text ∷ Stamp ∷ Paths ∷ under (compares_basis w.baseline)) false set) (λ at. refl) (λ at. refl) (λ at. refl) refl
        (refl, refl, refl, refl, refl, enough (length (under (compares_basis w.baseline))), refl, refl, refl, less (omega arith) (under_roomy (compares_basis w.baseline))) tt some (f set (newest, has)))))))

  -- ---- code that has shapes from the start on

  pub shaped_by : (is : List Instr) → code p e ≡ is → 0 < length is → Fit p e is at_start [] → table_refusal p e ≡ None → IsShapedEdge p e
  shaped_by is same some f tables =
      let g = f.go 0 same begins (record { here = one_arrives p e at_start (begins 0) refl; ahead = later }) in
      let good : Good p e 0 (code p e) g.0 begins = subst (λ (xs : List Instr). Good p e 0 xs g.0 begins) (sym same) g.1 in
      (g.0, record { tables = tables; some = subst (λ (xs : List Instr). 0 < length xs) (sym same) some; long = good_long p e 0 (code p e) g.0 begins good; are = are_shapes p e g.0 good })
    where
      later : (n : ℕ) → 0 < n → begins n ≡ []
      later zero lt = absurd (omega (arith, lt))
      later (suc n) lt = refl

  -- ---- phonies

  abbrev pub AreIn : List ℕ → Type 0
  AreIn set = list_all (λ s. is_member s set) (own_slots p e) ≡ true

  pub ends : (set : List ℕ) → AreIn set → Fit p e (op.End ∷ []) (sh [] false set) []
  ends set all = last p e (sh [] false set) (λ at. none_refused p e at op.End (sh [] false set) (refl, refl, refl, refl, refl, refl, refl, ap not all, refl, refl) refl refl)

  pub alone_some : (os : List Output) → 0 < length (alone_code os)
  alone_some [] = omega arith
  alone_some (o ∷ os) = omega arith

  pub alone_fit : (os : List Output) (set : List ℕ) → AreOutputs p e os → AreIn (placed_set set os) → Fit p e (alone_code os) (sh [] false set) []
  unfolding left
  alone_fit [] set ok all = ends set all
  alone_fit (o ∷ os) set ok all =
      let set1 : List ℕ = with_member o.stamp set in
      go_on (op.Stat o.file) (sh [] false set) (sh (Stamp ∷ []) false set) (λ at. refl) (λ at. refl) (λ at. refl) refl (refl, ok.0.0, refl, refl, refl, refl, refl, refl, refl, refl) tt (omega arith)
      (store_own o.stamp Stamp ok.0.1 refl tt (omega arith)
      (load_own o.stamp Stamp ok.0.1 (mem_here o.stamp set) refl tt (omega arith)
      (go_on op.IsMissing (sh (Stamp ∷ []) false set1) (sh (Flag ∷ []) false set1) (λ at. refl) (λ at. refl) (λ at. refl) refl (refl, refl, refl, refl, refl, refl, refl, refl, refl, refl) tt (omega arith)
      (store_own o.changed Flag ok.0.2 refl tt (alone_some os) (alone_fit os (with_member o.changed set1) ok.1 all)))))

  pub gather_fit : (g : GatherLayout) → IsGather p e g → AreIn (with_member g.changed (with_member g.stamp [])) → Fit p e (gather_code g) (sh [] false []) []
  gather_fit g right all =
      let back : List Instr = op.Store g.changed ∷ op.End ∷ [] in
      let flags : List Instr = any_code g.flags ++ back in
      let own : List Instr = own_files_code g.baseline g.outputs ++ (op.Store g.stamp ∷ flags) in
      let some : 0 < length own = some_app (own_files_code g.baseline g.outputs) (op.Store g.stamp ∷ flags) (omega arith) in
      order_fit g.order_only (newest_code g.named ++ own) [] right.order_only (some_app (newest_code g.named) own some)
      (newest_fit g.named own [] right.named some
      (own_files_fit g.baseline g.outputs (op.Store g.stamp ∷ flags) [] right.files (omega arith)
      (store_own g.stamp Stamp right.stamp refl tt (some_app (any_code g.flags) back (omega arith))
      (any_fit g.flags back (with_member g.stamp []) [] [] refl (flags_lent p e g.named g.flags right.named right.flags) (λ xs le. tt) (omega arith)
      (store_own g.changed Flag right.changed refl tt (omega arith) (ends (with_member g.changed (with_member g.stamp [])) all))))))

-- ---- edges

pub from_entry_some : (r : Bool) (w : CommandLayout) (at : ℕ) → 0 < length (pass_code r w at)
from_entry_some true w at = omega arith
from_entry_some false w at = omega arith

pub command_shaped : CommandShaped
command_shaped p e w is right tables =
    let at : ℕ = length (front w []) in
    let rest : List Instr = from_entry_code w.generator w at in
    let some : 0 < length rest = by_generator w.generator at in
    shaped_by p e (front w rest) is (front_some rest)
    (front_fit p e w right rest some (λ set ready. from_entry_fit p e w right w.generator at set ready (from_entry_stands (code p e) w is))) tables
  where
    by_generator : (g : Bool) (at : ℕ) → 0 < length (from_entry_code g w at)
    by_generator true at = from_entry_some (compares_basis w.baseline) w at
    by_generator false at = some_app (same_code w.blank w.command) (op.JumpIf (same_place w at) ∷ other_code w (dirty_place w (same_place w at)) (same_command_code w (same_place w at))) (omega arith)

    front_some : (rest : List Instr) → 0 < length (front w rest)
    front_some rest =
        let stats : List Instr = stat_code w.outputs ++ before_sweep_code (compares_basis w.baseline) w (op.Recall ∷ rest) in
        some_app (order_code w.order_only) (newest_code w.named ++ (op.Store w.newest ∷ stats)) (some_app (newest_code w.named) (op.Store w.newest ∷ stats) (omega arith))

pub gather_shaped : (p : Parts) (e : ℕ) (g : GatherLayout) → code p e ≡ gather_code g → IsGather p e g → table_refusal p e ≡ None → IsShapedEdge p e
gather_shaped p e g is right tables =
    let set : List ℕ = with_member g.changed (with_member g.stamp []) in
    let all : AreIn p e set = all_among (λ s. is_member s (g.stamp ∷ g.changed ∷ [])) (λ s. is_member s set) (own_slots p e) (λ s h. elim (or_cases (g.stamp == s) ((g.changed == s) || false) h) [
      | inl at ↦ subst (λ (n : ℕ). is_member n set ≡ true) (eqb-true g.stamp s at) (mem_stays g.stamp g.changed (with_member g.stamp []) (mem_here g.stamp []))
      | inr more ↦ elim (or_cases (g.changed == s) false more) [
        | inl at ↦ subst (λ (n : ℕ). is_member n set ≡ true) (eqb-true g.changed s at) (mem_here g.changed (with_member g.stamp []))
        | inr none ↦ absurd cc
      ]
    ]) right.own in
    let back : List Instr = any_code g.flags ++ (op.Store g.changed ∷ op.End ∷ []) in
    let own : List Instr = own_files_code g.baseline g.outputs ++ (op.Store g.stamp ∷ back) in
    shaped_by p e (gather_code g) is
    (some_app (order_code g.order_only) (newest_code g.named ++ own) (some_app (newest_code g.named) own (some_app (own_files_code g.baseline g.outputs) (op.Store g.stamp ∷ back) (omega arith))))
    (gather_fit p e g right all) tables

pub alone_shaped : (p : Parts) (e : ℕ) (outputs : List Output) → code p e ≡ alone_code outputs → IsAlone p e outputs → table_refusal p e ≡ None → IsShapedEdge p e
alone_shaped p e outputs is right tables =
    let all : AreIn p e (placed_set [] outputs) = all_among (λ s. is_member s (slots_of outputs)) (λ s. is_member s (placed_set [] outputs)) (own_slots p e) (λ s h. all_placed s [] outputs h) right.own in
    shaped_by p e (alone_code outputs) is (alone_some p e outputs) (alone_fit p e outputs [] right.outputs all) tables

pub phony_shaped : PhonyShaped
phony_shaped = record { gather = gather_shaped; alone = alone_shaped }
