-- Fragments that iterate over a list.
use Rattle.std.proofs.Common.{◌≡◌, ℕ, suc, ◌<◌, ◌≤◌, Bool, true, false, List, [], ◌∷◌, ◌++◌, length, map, Option, Some, None, refl, sym, ap, subst, ◌∙◌, arith, inl, inr, append_assoc}
use Rattle.std.specs.Prelude.{◌||◌, ◌⊎◌, nat_lt, nat_le, if◌then◌else◌, slice_get, slice_set, ◌==◌}
use Rattle.std.proofs.Math.Dec.{leb-zero}
use Rattle.std.proofs.lemmas.Bool.{le-ltb, ltb-false, leb-true, leb-false}
use Rattle.plan_image.specs.declared.body.Instr.{Instr}
use Rattle.plan_image.specs.declared.body.Instr.TheVariants as op
use Rattle.plan_image.specs.declared.image.Slot.{Slot}
use Rattle.plan_image.specs.declared.image.Parts.{Parts}
use Rattle.plan_verify.specs.declared.value.Value.{Value}
use Rattle.plan_verify.specs.declared.value.Value.TheVariants.{Stamp, Flag}
use Rattle.plan_verify.specs.Tables.{owned_by}
use Rattle.plan_verify.specs.Turn.{Slots, Meaning, earlier, later}
use Rattle.plan_compile.specs.declared.baseline.Baseline.{Baseline}
use Rattle.plan_compile.specs.declared.baseline.Baseline.TheVariants.{Outputs, Basis, OutputsAndBasis}
use Rattle.plan_compile.specs.declared.layout.Input.{Input}
use Rattle.plan_compile.specs.declared.layout.Input.TheVariants.{File, Made}
use Rattle.plan_compile.specs.declared.layout.Output.{Output}
use Rattle.plan_compile.specs.InteractionTree.{Left, InteractionTree}
use Rattle.plan_compile.specs.Rule.{inputs, stamps, greatest_from, greatest, least_from, least, own_files}
use Rattle.plan_compile.specs.Emit.{has_source_file, order_code, newer_code, newest_code, or_code, any_code, stat_code, older_code, oldest_code, rerun_flag_code, flag_code, files_code, own_files_code}
use Rattle.plan_compile.specs.Means.{path_at, stamp_at, flag_at, given, source_file, output_path}
use Rattle.plan_compile.proofs.LaidOut.{AreReadable, AreFlags, AreFiles, HavePaths, AreWritable, some_flag}
use Rattle.plan_compile.proofs.Machine.{From, need, stat, load, store, plain}

-- a stack with room for a few more values
abbrev pub IsLow : List Value → Type 0
IsLow stack = nat_lt 64 (suc (suc (suc (length stack)))) ≡ false

pub shallow_two : (below : List Value) → IsLow below → nat_lt 64 (suc (suc (length below))) ≡ false
shallow_two below low = le-ltb 64 (suc (suc (length below))) (let h : suc (suc (suc (length below))) ≤ 64 = ltb-false 64 (suc (suc (suc (length below)))) low in omega (arith, h))

pub shallow_one : (below : List Value) → IsLow below → nat_lt 64 (suc (length below)) ≡ false
shallow_one below low = le-ltb 64 (suc (length below)) (let h : suc (suc (suc (length below))) ≤ 64 = ltb-false 64 (suc (suc (suc (length below)))) low in omega (arith, h))

pub later_zero : (n : ℕ) → later 0 n ≡ n
later_zero n = ap (λ (b : Bool). if b then n else 0) (leb-zero n)

-- the later of two stamps is not earlier than either
pub later_left : (a b : ℕ) → a ≤ later a b
later_left a b = by_test (nat_le a b) refl where
  by_test : (t : Bool) → nat_le a b ≡ t → a ≤ (if t then b else a)
  by_test true is = leb-true a b is
  by_test false is = omega arith

pub later_right : (a b : ℕ) → b ≤ later a b
later_right a b = by_test (nat_le a b) refl where
  by_test : (t : Bool) → nat_le a b ≡ t → b ≤ (if t then b else a)
  by_test true is = omega arith
  by_test false is = let lt : b < a = leb-false a b is in omega (arith, lt)

-- two lists of one length
abbrev pub AreMatched : List Output → List ℕ → Type 0
AreMatched [] [] = Unit {0}
AreMatched (o ∷ os) (t ∷ ts) = AreMatched os ts
AreMatched _ _ = ⊥

-- the stamps of outputs, stored
abbrev pub stored : Slots → List Output → List ℕ → Slots
stored slots (o ∷ os) (t ∷ ts) = stored (slice_set slots o.stamp (Some (Stamp t))) os ts
stored slots _ _ = slots

-- the flags of outputs, stored
abbrev pub flagged : Slots → Bool → List Output → Slots
flagged slots b [] = slots
flagged slots b (o ∷ os) = flagged (slice_set slots o.changed (Some (Flag b))) b os

-- the stamps are in the outputs' slots
abbrev pub Hold : Slots → List Output → List ℕ → Type 0
Hold slots [] [] = Unit {0}
Hold slots (o ∷ os) (t ∷ ts) = (slice_get slots o.stamp ≡ Some (Some (Stamp t))) × Hold slots os ts
Hold slots _ _ = ⊥

-- a source file among the inputs has a stamp, so their greatest isn't 0
abbrev pub IsPositive : List Input → ℕ → Type 0
IsPositive is n = has_source_file is ≡ true → 0 < n

-- the slot of an own number
pub own_slot : (e : ℕ) (o : Option Slot) → owned_by e o ≡ true → (slot : Slot) × (o ≡ Some slot) × ((slot.owner == e) ≡ true)
own_slot e (Some slot) h = (slot, refl, h)
own_slot e None h = absurd cc

pub or_assoc : (a b c : Bool) → ((a || b) || c) ≡ (a || (b || c))
or_assoc true b c = refl
or_assoc false b c = refl

pub or_false_right : (a : Bool) → (a || false) ≡ a
or_false_right true = refl
or_false_right false = refl

module _ (meaning : Meaning) (p : Parts) (e : ℕ) (L : Slots → Left → Type 0) where
  pub order_all : {rest : List Instr} {slots : Slots} {holding ran : Bool} (fs : List ℕ) (k : List ℕ → InteractionTree) → AreFiles p fs
      → ((ts : List ℕ) → From meaning p e L rest [] slots holding ran (k ts)) → From meaning p e L (order_code fs ++ rest) [] slots holding ran (inputs (map (source_file p) fs) k)
  order_all [] k files h = h []
  order_all (f ∷ fs) k files h =
      need meaning p e L f (path_at p f) (λ t. inputs (map (source_file p) fs) (λ ts. k (t ∷ ts))) files.0 (λ n. refl) λ n.
      plain meaning p e L op.Drop (Stamp (suc n) ∷ []) [] (λ l. refl) refl refl (order_all fs (λ ts. k (suc n ∷ ts)) files.1 (λ ts. h (suc n ∷ ts)))

  pub newer_all : {rest : List Instr} {slots : Slots} {holding ran : Bool} (is : List Input) (a : ℕ) (k : List ℕ → InteractionTree) → AreReadable p e slots is
      → ((ts : List ℕ) → ((0 < a) ⊎ (has_source_file is ≡ true) → 0 < greatest_from a ts) → From meaning p e L rest (Stamp (greatest_from a ts) ∷ []) slots holding ran (k ts))
      → From meaning p e L (newer_code is ++ rest) (Stamp a ∷ []) slots holding ran (inputs (map (given p slots) is) k)
  newer_all [] a k readable h = h [] (λ c. elim c [ inl lt ↦ lt | inr none ↦ absurd cc ])
  newer_all {slots = slots} (File f ∷ is) a k readable h =
      need meaning p e L f (path_at p f) (λ t. inputs (map (given p slots) is) (λ ts. k (t ∷ ts))) readable.0 (λ n. refl) λ n.
      plain meaning p e L op.Newer (Stamp (suc n) ∷ Stamp a ∷ []) (Stamp (later a (suc n)) ∷ []) (λ l. refl) refl refl
      (newer_all is (later a (suc n)) (λ ts. k (suc n ∷ ts)) readable.1 (λ ts fact. h (suc n ∷ ts) (λ c. fact (inl (let r : suc n ≤ later a (suc n) = later_right a (suc n) in omega (arith, r))))))
  newer_all {slots = slots} (Made st ch ∷ is) a k readable h =
      load meaning p e L st (Stamp (stamp_at slots st)) readable.0.0 refl
      (plain meaning p e L op.Newer (Stamp (stamp_at slots st) ∷ Stamp a ∷ []) (Stamp (later a (stamp_at slots st)) ∷ []) (λ l. refl) refl refl
      (newer_all is (later a (stamp_at slots st)) (λ ts. k (stamp_at slots st ∷ ts)) readable.1 (λ ts fact. h (stamp_at slots st ∷ ts) (λ c. fact (elim c [
        | inl lt ↦ inl (let r : a ≤ later a (stamp_at slots st) = later_left a (stamp_at slots st) in omega (arith, r, lt))
        | inr has ↦ inr has
      ])))))

  pub from_zero : {rest : List Instr} {slots : Slots} {holding ran : Bool} {interaction : InteractionTree} (n : ℕ) (ts : List ℕ)
      → From meaning p e L rest (Stamp (greatest (n ∷ ts)) ∷ []) slots holding ran interaction → From meaning p e L rest (Stamp (greatest_from n ts) ∷ []) slots holding ran interaction
  from_zero {rest = rest} {slots = slots} {holding = holding} {ran = ran} {interaction = interaction} n ts h =
      subst (λ (a : ℕ). From meaning p e L rest (Stamp (greatest_from a ts) ∷ []) slots holding ran interaction) (later_zero n) h

  pub newest_all : {rest : List Instr} {slots : Slots} {holding ran : Bool} (is : List Input) (k : List ℕ → InteractionTree) → AreReadable p e slots is
      → ((ts : List ℕ) → IsPositive is (greatest ts) → From meaning p e L rest (Stamp (greatest ts) ∷ []) slots holding ran (k ts))
      → From meaning p e L (newest_code is ++ rest) [] slots holding ran (inputs (map (given p slots) is) k)
  newest_all [] k readable h = plain meaning p e L op.Zero [] (Stamp 0 ∷ []) (λ l. refl) refl refl (h [] (λ none. absurd cc))
  newest_all {slots = slots} (File f ∷ is) k readable h =
      need meaning p e L f (path_at p f) (λ t. inputs (map (given p slots) is) (λ ts. k (t ∷ ts))) readable.0 (λ n. refl) λ n.
      newer_all is (suc n) (λ ts. k (suc n ∷ ts)) readable.1
      (λ ts fact. from_zero (suc n) ts (h (suc n ∷ ts) (λ has. subst (λ (a : ℕ). 0 < greatest_from a ts) (sym (later_zero (suc n))) (fact (inl (omega arith))))))
  newest_all {slots = slots} (Made st ch ∷ is) k readable h =
      load meaning p e L st (Stamp (stamp_at slots st)) readable.0.0 refl
      (newer_all is (stamp_at slots st) (λ ts. k (stamp_at slots st ∷ ts)) readable.1
      (λ ts fact. from_zero (stamp_at slots st) ts (h (stamp_at slots st ∷ ts) (λ has. subst (λ (a : ℕ). 0 < greatest_from a ts) (sym (later_zero (stamp_at slots st))) (fact (inr has))))))

  -- the greatest of a stamp and those of the outputs' files
  pub files_all : {rest : List Instr} {slots : Slots} {holding ran : Bool} (os : List Output) (a : ℕ) (k : List ℕ → InteractionTree) → HavePaths p os
      → ((ts : List ℕ) → From meaning p e L rest (Stamp (greatest_from a ts) ∷ []) slots holding ran (k ts))
      → From meaning p e L (files_code os ++ rest) (Stamp a ∷ []) slots holding ran (stamps (map (output_path p) os) k)
  files_all [] a k paths h = h []
  files_all (o ∷ os) a k paths h =
      stat meaning p e L o.file (output_path p o) paths.0 (λ n. refl) λ n.
      plain meaning p e L op.Newer (Stamp n ∷ Stamp a ∷ []) (Stamp (later a n) ∷ []) (λ l. refl) refl refl (files_all os (later a n) (λ ts. k (n ∷ ts)) paths.1 (λ ts. h (n ∷ ts)))

  pub own_files_all : {rest : List Instr} {slots : Slots} {holding ran : Bool} (b : Baseline) (os : List Output) (a : ℕ) (k : List ℕ → InteractionTree) → HavePaths p os
      → ((ts : List ℕ) → From meaning p e L rest (Stamp (greatest_from a ts) ∷ []) slots holding ran (k ts))
      → From meaning p e L (own_files_code b os ++ rest) (Stamp a ∷ []) slots holding ran (own_files b (map (output_path p) os) k)
  own_files_all Outputs os a k paths h = h []
  own_files_all Basis os a k paths h = files_all os a k paths h
  own_files_all OutputsAndBasis os a k paths h = files_all os a k paths h

  pub stat_all : {rest : List Instr} {holding ran : Bool} (os : List Output) (slots : Slots) (k : List ℕ → InteractionTree) → AreWritable p e os
      → ((ts : List ℕ) → AreMatched os ts → From meaning p e L rest [] (stored slots os ts) holding ran (k ts))
      → From meaning p e L (stat_code os ++ rest) [] slots holding ran (stamps (map (output_path p) os) k)
  stat_all [] slots k writable h = h [] tt
  stat_all (o ∷ os) slots k writable h =
      let own = own_slot e (slice_get p.slots o.stamp) writable.0.1 in
      stat meaning p e L o.file (output_path p o) writable.0.0 (λ n. refl) λ n.
      store meaning p e L o.stamp (Stamp n) own.0 own.1 own.2 (stat_all os (slice_set slots o.stamp (Some (Stamp n))) (λ ts. k (n ∷ ts)) writable.1 (λ ts m. h (n ∷ ts) m))

  pub flag_all : {rest : List Instr} {holding ran : Bool} {interaction : InteractionTree} (b : Bool) (os : List Output) (slots : Slots) → AreWritable p e os
      → From meaning p e L rest [] (flagged slots b os) holding ran interaction → From meaning p e L (flag_code b os ++ rest) [] slots holding ran interaction
  flag_all b [] slots writable h = h
  flag_all b (o ∷ os) slots writable h =
      let own = own_slot e (slice_get p.slots o.changed) writable.0.2 in
      plain meaning p e L (op.Flag b) [] (Flag b ∷ []) (λ l. refl) refl refl
      (store meaning p e L o.changed (Flag b) own.0 own.1 own.2 (flag_all b os (slice_set slots o.changed (Some (Flag b))) writable.1 h))

  -- ---- from the stored stamps, over any stack that isn't too deep

  pub older_all : {rest : List Instr} {slots : Slots} {holding ran : Bool} {interaction : InteractionTree} (os : List Output) (ts : List ℕ) (a : ℕ) (below : List Value) → IsLow below → Hold slots os ts
      → From meaning p e L rest (Stamp (least_from a ts) ∷ below) slots holding ran interaction → From meaning p e L (older_code os ++ rest) (Stamp a ∷ below) slots holding ran interaction
  older_all [] [] a below low hold h = h
  older_all [] (t ∷ ts) a below low hold h = absurd hold
  older_all (o ∷ os) [] a below low hold h = absurd hold
  older_all (o ∷ os) (t ∷ ts) a below low hold h =
      load meaning p e L o.stamp (Stamp t) hold.0 (shallow_two below low)
      (plain meaning p e L op.Older (Stamp t ∷ Stamp a ∷ below) (Stamp (earlier a t) ∷ below) (λ l. refl) refl (shallow_one below low) (older_all os ts (earlier a t) below low hold.1 h))

  pub oldest_all : {rest : List Instr} {slots : Slots} {holding ran : Bool} {interaction : InteractionTree} (os : List Output) (ts : List ℕ) (below : List Value) → IsLow below → Hold slots os ts
      → From meaning p e L rest (Stamp (least ts) ∷ below) slots holding ran interaction → From meaning p e L (oldest_code os ++ rest) below slots holding ran interaction
  oldest_all [] [] below low hold h = plain meaning p e L op.Zero below (Stamp 0 ∷ below) (λ l. refl) refl (shallow_one below low) h
  oldest_all [] (t ∷ ts) below low hold h = absurd hold
  oldest_all (o ∷ os) [] below low hold h = absurd hold
  oldest_all (o ∷ os) (t ∷ ts) below low hold h = load meaning p e L o.stamp (Stamp t) hold.0 (shallow_one below low) (older_all os ts t below low hold.1 h)

  -- the flags of the inputs that other edges produce; the slots of other edges are as at the start
  pub or_all : {rest : List Instr} {slots : Slots} {holding ran : Bool} {interaction : InteractionTree} (flags : List ℕ) (start : Slots) (a : Bool) (below : List Value) → IsLow below → AreFlags p e start flags
      → ((s : ℕ) → owned_by e (slice_get p.slots s) ≡ false → slice_get slots s ≡ slice_get start s)
      → From meaning p e L rest (Flag (a || some_flag start flags) ∷ below) slots holding ran interaction → From meaning p e L (or_code flags ++ rest) (Flag a ∷ below) slots holding ran interaction
  or_all {rest = rest} {slots = slots} {holding = holding} {ran = ran} {interaction = interaction} [] start a below low readable same h =
      subst (λ (b : Bool). From meaning p e L rest (Flag b ∷ below) slots holding ran interaction) (or_false_right a) h
  or_all {rest = rest} {slots = slots} {holding = holding} {ran = ran} {interaction = interaction} (s ∷ ss) start a below low readable same h =
      load meaning p e L s (Flag (flag_at start s)) (same s readable.0.1 ∙ readable.0.0) (shallow_two below low)
      (plain meaning p e L op.Or (Flag (flag_at start s) ∷ Flag a ∷ below) (Flag (a || flag_at start s) ∷ below) (λ l. refl) refl (shallow_one below low)
      (or_all ss start (a || flag_at start s) below low readable.1 same
      (subst (λ (b : Bool). From meaning p e L rest (Flag b ∷ below) slots holding ran interaction) (sym (or_assoc a (flag_at start s) (some_flag start ss))) h)))

  pub any_all : {rest : List Instr} {slots : Slots} {holding ran : Bool} {interaction : InteractionTree} (flags : List ℕ) (start : Slots) (below : List Value) → IsLow below → AreFlags p e start flags
      → ((s : ℕ) → owned_by e (slice_get p.slots s) ≡ false → slice_get slots s ≡ slice_get start s)
      → From meaning p e L rest (Flag (some_flag start flags) ∷ below) slots holding ran interaction → From meaning p e L (any_code flags ++ rest) below slots holding ran interaction
  any_all [] start below low readable same h = plain meaning p e L (op.Flag false) below (Flag false ∷ below) (λ l. refl) refl (shallow_one below low) h
  any_all (s ∷ ss) start below low readable same h =
      load meaning p e L s (Flag (flag_at start s)) (same s readable.0.1 ∙ readable.0.0) (shallow_one below low) (or_all ss start (flag_at start s) below low readable.1 same h)

  -- the value of the rerun flag
  abbrev pub rerun_flag_of : (looks : Bool) → List ℕ → Bool → Bool
  rerun_flag_of true ts changed = (least ts == 0) || changed
  rerun_flag_of false ts changed = changed

  pub rerun_flag_all : {rest : List Instr} {slots : Slots} {holding ran : Bool} {interaction : InteractionTree} (looks : Bool) (os : List Output) (ts : List ℕ) (flags : List ℕ) (start : Slots) (below : List Value) → IsLow below → Hold slots os ts
      → AreFlags p e start flags → ((s : ℕ) → owned_by e (slice_get p.slots s) ≡ false → slice_get slots s ≡ slice_get start s)
      → From meaning p e L rest (Flag (rerun_flag_of looks ts (some_flag start flags)) ∷ below) slots holding ran interaction → From meaning p e L (rerun_flag_code looks os flags ++ rest) below slots holding ran interaction
  rerun_flag_all {rest = rest} {slots = slots} {holding = holding} {ran = ran} {interaction = interaction} true os ts flags start below low hold readable same h =
      subst (λ (c : List Instr). From meaning p e L c below slots holding ran interaction) (sym (append_assoc (oldest_code os) (op.IsMissing ∷ or_code flags) rest))
      (oldest_all os ts below low hold
      (plain meaning p e L op.IsMissing (Stamp (least ts) ∷ below) (Flag (least ts == 0) ∷ below) (λ l. refl) refl (shallow_one below low)
      (or_all flags start (least ts == 0) below low readable same h)))
  rerun_flag_all false os ts flags start below low hold readable same h = any_all flags start below low readable same h
