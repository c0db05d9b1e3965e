-- The effect of one instruction, given the rest of the code.
use Rattle.std.proofs.Common.{◌≡◌, ℕ, zero, suc, ◌+◌, ◌-◌, ◌<◌, ◌≤◌, Bool, true, false, List, [], ◌∷◌, length, drop, Option, Some, None, refl, sym, ap, subst, ◌∙◌, arith}
use Rattle.std.specs.Prelude.{◌||◌, not, Result, Ok, Err, nat_lt, nat_le, if◌then◌else◌, slice_get, slice_set, ◌==◌}
use Rattle.std.specs.List.{list_all}
use Rattle.std.proofs.lemmas.Bool.{lt-leb}
use Rattle.plan_image.specs.declared.body.Instr.{Instr}
use Rattle.plan_image.specs.declared.body.Instr.TheVariants as op
use Rattle.plan_image.specs.declared.image.Slot.{Slot}
use Rattle.plan_image.specs.declared.image.Parts.{Parts}
use Rattle.plan_image.specs.Code.{code}
use Rattle.plan_verify.specs.declared.value.Value.{Value}
use Rattle.plan_verify.specs.declared.value.Value.TheVariants.{Stamp, Flag, Text, Paths, Swept}
use Rattle.plan_verify.specs.declared.value.Cause.TheVariants as cause
use Rattle.plan_verify.specs.Tables.{own_slots, path_of, paths_of, outputs_of, first_output, pool_outside}
use Rattle.plan_verify.specs.Turn.{Slots, is_set, Request, Stat, Recall, Run, Deps, Keep, Reply, StampIs, Entry, Nothing, Exit, Signal, NotStarted, Bytes, Kept, Fault, Meaning, Local, Turn, Goes, Sets, Asks, Ends, Wrong, Moved, Took, TooDeep, JumpBack, PlaceOutside, SlotForeign, PoolOutside, SlotsLeft, Calculated, On, calculate, calculated, later, goes, next, holds, jumps, asks_of, loads, stores, writes, sweeps, runs, keeps, act, act_at, turn, request_of, found, ran, replied, replied_at, heard}
use Rattle.plan_verify.specs.Sound.{asking}
use Rattle.plan_verify.specs.Alone.{Runs, after}
use Rattle.plan_compile.specs.InteractionTree.{Left, InteractionTree, Ask, Over, Fail, Obeys, is_over, has_failed, moves, asks}
use Rattle.plan_compile.specs.Rule.{Path, Recorded, needed, stamped, recalled, exited, told_paths, read, kept, stamps, greatest_from}

-- ---- the rest of the code

pub some_is : {A : Type 0} (x y : A) → ◌≡◌ {A = Option A} (Some x) (Some y) → x ≡ y
some_is x y e = cc

pub get_of_drop : {I : Type 0} (xs : List I) (n : ℕ) (i : I) (rest : List I) → drop n xs ≡ i ∷ rest → slice_get xs n ≡ Some i
get_of_drop [] zero i rest h = absurd cc
get_of_drop [] (suc n) i rest h = absurd cc
get_of_drop (x ∷ xs) zero i rest h = cc
get_of_drop (x ∷ xs) (suc n) i rest h = get_of_drop xs n i rest h

pub none_of_drop : {I : Type 0} (xs : List I) (n : ℕ) → drop n xs ≡ [] → slice_get xs n ≡ None
none_of_drop [] zero h = refl
none_of_drop [] (suc n) h = refl
none_of_drop (x ∷ xs) zero h = absurd cc
none_of_drop (x ∷ xs) (suc n) h = none_of_drop xs n h

pub drop_past : {I : Type 0} (xs : List I) (n : ℕ) (i : I) (rest : List I) → drop n xs ≡ i ∷ rest → drop (n + 1) xs ≡ rest
drop_past [] zero i rest h = absurd cc
drop_past [] (suc n) i rest h = absurd cc
drop_past (x ∷ xs) zero i rest h = cc
drop_past (x ∷ xs) (suc n) i rest h = let e : suc n + 1 ≡ suc (n + 1) = omega arith in ap (λ k. drop k (x ∷ xs)) e ∙ drop_past xs n i rest h

pub drop_length : {I : Type 0} (xs : List I) (n : ℕ) → length (drop n xs) ≡ length xs - n
drop_length [] zero = refl
drop_length [] (suc n) = omega arith
drop_length (x ∷ xs) zero = omega arith
drop_length (x ∷ xs) (suc n) = let h : length (drop n xs) ≡ length xs - n = drop_length xs n in omega (arith, h)

-- ---- one edge, from the rest of the code

abbrev pub local : ℕ → List Value → Bool → Bool → Local
local place stack holding ran = record { place = place; stack = stack; holding = holding; ran = ran; asked = false }

-- the values that a reply to Recall leaves on the stack
abbrev pub entry_values : Option Recorded → List Value → List Value
entry_values (Some entry) stack = Flag true ∷ Text entry.command ∷ Stamp entry.basis ∷ Paths 0 entry.paths ∷ stack
entry_values None stack = Flag false ∷ Text [] ∷ Stamp 0 ∷ Paths 0 [] ∷ stack

-- whether a flag is set or a stamp is 0
abbrev pub missing_from : Bool → List ℕ → Bool
missing_from b [] = b
missing_from b (t ∷ ts) = missing_from (b || (t == 0)) ts

module _ (meaning : Meaning) (p : Parts) (e : ℕ) (Leaves : Slots → Left → Type 0) where
  abbrev pub Keeps : Local → Slots → Turn → InteractionTree → Type 0
  Keeps l slots t interaction = Obeys meaning p e Leaves (after l slots t) interaction

  -- at each place that has this code, the edge follows the interaction tree from that place on
  pub record From (rest : List Instr) (stack : List Value) (slots : Slots) (holding ran : Bool) (interaction : InteractionTree) : Type 0 where
    pub go : (place : ℕ) → drop place (code p e) ≡ rest → Obeys meaning p e Leaves (record { stage = Runs (local place stack holding ran); slots = slots }) interaction

  pub moved : (l : Local) (slots : Slots) (i : Instr) (rest : List Instr) (interaction : InteractionTree) → l.asked ≡ false → drop l.place (code p e) ≡ i ∷ rest
      → Keeps l slots (act p e slots l i) interaction → Obeys meaning p e Leaves (record { stage = Runs l; slots = slots }) interaction
  unfolding turn
  moved l slots i rest interaction quiet at h =
      moves quiet (subst (λ (o : Option Instr). Keeps l slots (act_at p e slots l o) interaction) (sym (get_of_drop (code p e) l.place i rest at)) h)

  pub asked : (l : Local) (slots : Slots) (i : Instr) (rest : List Instr) (q : Request) (k : Reply → InteractionTree) → l.asked ≡ false → drop l.place (code p e) ≡ i ∷ rest
      → act p e slots l i ≡ Asks q → act p e slots (asking l) i ≡ Asks q
      → ((r : Reply) (t : Turn) → replied meaning (asking l) i r ≡ Some t → Keeps (asking l) slots t (k r))
      → Obeys meaning p e Leaves (record { stage = Runs l; slots = slots }) (Ask q k)
  unfolding turn heard
  asked l slots i rest q k quiet at is again h =
      let here : slice_get (code p e) l.place ≡ Some i = get_of_drop (code p e) l.place i rest at in
      moved l slots i rest (Ask q k) quiet at (subst (λ (t : Turn). Keeps l slots t (Ask q k)) (sym is)
      (asks refl (ap (λ (o : Option Instr). request_of (act_at p e slots (asking l) o)) here ∙ ap request_of again)
      (λ r t hears. h r t (sym (ap (λ (o : Option Instr). replied_at meaning (asking l) o r) here) ∙ hears))))

  -- the next place, with another stack
  pub onward : (place : ℕ) (i : Instr) (rest : List Instr) (stack : List Value) (slots : Slots) (holding ran : Bool) (interaction : InteractionTree) (l : Local)
      → l.place ≡ place → l.holding ≡ holding → l.ran ≡ ran
      → drop place (code p e) ≡ i ∷ rest → nat_lt 64 (length stack) ≡ false → From rest stack slots holding ran interaction
      → (m : Local) → Keeps m slots (next l stack) interaction
  onward place i rest stack slots holding ran interaction l a b c at shallow f m =
      let e1 : next l stack ≡ Goes Moved (record { place = l.place + 1; stack = stack; holding = l.holding; ran = l.ran; asked = false }) =
      ap (λ (b : Bool). if b then Wrong TooDeep else Goes Moved (record { place = l.place + 1; stack = stack; holding = l.holding; ran = l.ran; asked = false })) shallow in
      let e2 : Goes Moved (record { place = l.place + 1; stack = stack; holding = l.holding; ran = l.ran; asked = false }) ≡ Goes Moved (local (place + 1) stack holding ran) =
      ap (λ (n : ℕ). Goes Moved (record { place = n + 1; stack = stack; holding = l.holding; ran = l.ran; asked = false })) a
      ∙ (ap (λ (h : Bool). Goes Moved (record { place = place + 1; stack = stack; holding = h; ran = l.ran; asked = false })) b
      ∙ ap (λ (r : Bool). Goes Moved (record { place = place + 1; stack = stack; holding = holding; ran = r; asked = false })) c) in
      subst (λ (t : Turn). Keeps m slots t interaction) (sym (e1 ∙ e2)) (f.go (place + 1) (drop_past (code p e) place i rest at))

  -- ---- instructions that calculate

  pub plain : {rest : List Instr} {slots : Slots} {holding ran : Bool} {interaction : InteractionTree} (i : Instr) (stack new : List Value)
      → ((l : Local) → act p e slots l i ≡ calculated l (calculate i l.stack)) → calculate i stack ≡ On new → nat_lt 64 (length new) ≡ false
      → From rest new slots holding ran interaction → From (i ∷ rest) stack slots holding ran interaction
  plain {rest = rest} {slots = slots} {holding = holding} {ran = ran} {interaction = interaction} i stack new acts is shallow f = record {
    go = λ place at. moved (local place stack holding ran) slots i rest interaction refl at
        (subst (λ (t : Turn). Keeps (local place stack holding ran) slots t interaction)
        (sym (acts (local place stack holding ran) ∙ ap (λ (c : Calculated). calculated (local place stack holding ran) c) is))
        (onward place i rest new slots holding ran interaction (local place stack holding ran) refl refl refl at shallow f (local place stack holding ran)));
  }

  -- ---- slots and texts

  pub load : {rest : List Instr} {stack : List Value} {slots : Slots} {holding ran : Bool} {interaction : InteractionTree} (s : ℕ) (v : Value)
      → slice_get slots s ≡ Some (Some v) → nat_lt 64 (length (v ∷ stack)) ≡ false
      → From rest (v ∷ stack) slots holding ran interaction → From (op.Load s ∷ rest) stack slots holding ran interaction
  load {rest = rest} {stack = stack} {slots = slots} {holding = holding} {ran = ran} {interaction = interaction} s v is shallow f = record {
    go = λ place at. moved (local place stack holding ran) slots (op.Load s) rest interaction refl at
        (subst (λ (o : Option (Option Value)). Keeps (local place stack holding ran) slots (loads (local place stack holding ran) o) interaction) (sym is)
        (onward place (op.Load s) rest (v ∷ stack) slots holding ran interaction (local place stack holding ran) refl refl refl at shallow f (local place stack holding ran)));
  }

  pub text : {rest : List Instr} {stack : List Value} {slots : Slots} {holding ran : Bool} {interaction : InteractionTree} (t : ℕ) (words : List ℕ)
      → slice_get p.texts t ≡ Some words → nat_lt 64 (length (Text words ∷ stack)) ≡ false
      → From rest (Text words ∷ stack) slots holding ran interaction → From (op.Text t ∷ rest) stack slots holding ran interaction
  text {rest = rest} {stack = stack} {slots = slots} {holding = holding} {ran = ran} {interaction = interaction} t words is shallow f = record {
    go = λ place at. moved (local place stack holding ran) slots (op.Text t) rest interaction refl at
        (subst (λ (o : Option (List ℕ)). Keeps (local place stack holding ran) slots (writes (local place stack holding ran) o) interaction) (sym is)
        (onward place (op.Text t) rest (Text words ∷ stack) slots holding ran interaction (local place stack holding ran) refl refl refl at shallow f (local place stack holding ran)));
  }

  pub store : {rest : List Instr} {below : List Value} {slots : Slots} {holding ran : Bool} {interaction : InteractionTree} (s : ℕ) (v : Value) (slot : Slot)
      → slice_get p.slots s ≡ Some slot → (slot.owner == e) ≡ true
      → From rest below (slice_set slots s (Some v)) holding ran interaction → From (op.Store s ∷ rest) (v ∷ below) slots holding ran interaction
  store {rest = rest} {below = below} {slots = slots} {holding = holding} {ran = ran} {interaction = interaction} s v slot is own f = record {
    go = λ place at. moved (local place (v ∷ below) holding ran) slots (op.Store s) rest interaction refl at
        (subst (λ (o : Option Slot). Keeps (local place (v ∷ below) holding ran) slots (stores (local place (v ∷ below) holding ran) e s o (v ∷ below)) interaction) (sym is)
        (subst (λ (b : Bool). Keeps (local place (v ∷ below) holding ran) slots (if b then Sets s v (local (place + 1) below holding ran) else Wrong SlotForeign) interaction) (sym own)
        (f.go (place + 1) (drop_past (code p e) place (op.Store s) rest at))));
  }

  -- ---- questions

  pub need : {rest : List Instr} {stack : List Value} {slots : Slots} {holding ran : Bool} (f : ℕ) (path : Path) (k : ℕ → InteractionTree)
      → path_of p f ≡ Some path → ((n : ℕ) → nat_lt 64 (length (Stamp n ∷ stack)) ≡ false)
      → ((n : ℕ) → From rest (Stamp (suc n) ∷ stack) slots holding ran (k (suc n))) → From (op.Need f ∷ rest) stack slots holding ran (Ask (Stat path) (needed f k))
  need {rest = rest} {stack = stack} {slots = slots} {holding = holding} {ran = ran} f path k is shallow h = record {
    go = λ place at. asked (local place stack holding ran) slots (op.Need f) rest (Stat path) (needed f k) refl at
        (ap (λ (o : Option Path). asks_of o (λ x. Stat x)) is) (ap (λ (o : Option Path). asks_of o (λ x. Stat x)) is)
        (λ r t hears. needs place at r t hears);
  } where
    needs : (place : ℕ) → drop place (code p e) ≡ op.Need f ∷ rest → (r : Reply) (t : Turn) → replied meaning (asking (local place stack holding ran)) (op.Need f) r ≡ Some t
        → Keeps (asking (local place stack holding ran)) slots t (needed f k r)
    needs place at (StampIs zero) t hears = subst (λ (u : Turn). Keeps (asking (local place stack holding ran)) slots u (needed f k (StampIs zero))) (some_is _ _ hears) has_failed
    needs place at (StampIs (suc n)) t hears = subst (λ (u : Turn). Keeps (asking (local place stack holding ran)) slots u (k (suc n))) (some_is _ _ hears)
        (onward place (op.Need f) rest (Stamp (suc n) ∷ stack) slots holding ran (k (suc n)) (asking (local place stack holding ran)) refl refl refl at (shallow (suc n)) (h n) (asking (local place stack holding ran)))
    needs place at Fault t hears = subst (λ (u : Turn). Keeps (asking (local place stack holding ran)) slots u (needed f k Fault)) (some_is _ _ hears) has_failed
    needs place at (Entry c b ps) t hears = absurd cc
    needs place at Nothing t hears = absurd cc
    needs place at (Exit n) t hears = absurd cc
    needs place at Signal t hears = absurd cc
    needs place at NotStarted t hears = absurd cc
    needs place at (Bytes b) t hears = absurd cc
    needs place at Kept t hears = absurd cc

  pub stat : {rest : List Instr} {stack : List Value} {slots : Slots} {holding ran : Bool} {k : ℕ → InteractionTree} (f : ℕ) (path : Path)
      → path_of p f ≡ Some path → ((n : ℕ) → nat_lt 64 (length (Stamp n ∷ stack)) ≡ false)
      → ((n : ℕ) → From rest (Stamp n ∷ stack) slots holding ran (k n)) → From (op.Stat f ∷ rest) stack slots holding ran (Ask (Stat path) (stamped k))
  stat {rest = rest} {stack = stack} {slots = slots} {holding = holding} {ran = ran} {k = k} f path is shallow h = record {
    go = λ place at. asked (local place stack holding ran) slots (op.Stat f) rest (Stat path) (stamped k) refl at
        (ap (λ (o : Option Path). asks_of o (λ x. Stat x)) is) (ap (λ (o : Option Path). asks_of o (λ x. Stat x)) is)
        (λ r t hears. needs place at r t hears);
  } where
    needs : (place : ℕ) → drop place (code p e) ≡ op.Stat f ∷ rest → (r : Reply) (t : Turn) → replied meaning (asking (local place stack holding ran)) (op.Stat f) r ≡ Some t
        → Keeps (asking (local place stack holding ran)) slots t (stamped k r)
    needs place at (StampIs n) t hears = subst (λ (u : Turn). Keeps (asking (local place stack holding ran)) slots u (k n)) (some_is _ _ hears)
        (onward place (op.Stat f) rest (Stamp n ∷ stack) slots holding ran (k n) (asking (local place stack holding ran)) refl refl refl at (shallow n) (h n) (asking (local place stack holding ran)))
    needs place at Fault t hears = subst (λ (u : Turn). Keeps (asking (local place stack holding ran)) slots u (stamped k Fault)) (some_is _ _ hears) has_failed
    needs place at (Entry c b ps) t hears = absurd cc
    needs place at Nothing t hears = absurd cc
    needs place at (Exit n) t hears = absurd cc
    needs place at Signal t hears = absurd cc
    needs place at NotStarted t hears = absurd cc
    needs place at (Bytes b) t hears = absurd cc
    needs place at Kept t hears = absurd cc

  pub recall : {rest : List Instr} {stack : List Value} {slots : Slots} {holding ran : Bool} {k : Option Recorded → InteractionTree} (path : Path)
      → first_output p e ≡ Some path → nat_lt 64 (length (entry_values None stack)) ≡ false
      → ((o : Option Recorded) → From rest (entry_values o stack) slots holding ran (k o)) → From (op.Recall ∷ rest) stack slots holding ran (Ask (Recall path) (recalled k))
  recall {rest = rest} {stack = stack} {slots = slots} {holding = holding} {ran = ran} {k = k} path is shallow h = record {
    go = λ place at. asked (local place stack holding ran) slots op.Recall rest (Recall path) (recalled k) refl at
        (ap (λ (o : Option Path). asks_of o (λ x. Recall x)) is) (ap (λ (o : Option Path). asks_of o (λ x. Recall x)) is)
        (λ r t hears. needs place at r t hears);
  } where
    needs : (place : ℕ) → drop place (code p e) ≡ op.Recall ∷ rest → (r : Reply) (t : Turn) → replied meaning (asking (local place stack holding ran)) op.Recall r ≡ Some t
        → Keeps (asking (local place stack holding ran)) slots t (recalled k r)
    needs place at (Entry c b ps) t hears = let o : Option Recorded = Some (record { command = c; basis = b; paths = ps }) in subst (λ (u : Turn). Keeps (asking (local place stack holding ran)) slots u (k o)) (some_is _ _ hears)
        (onward place op.Recall rest (entry_values o stack) slots holding ran (k o) (asking (local place stack holding ran)) refl refl refl at shallow (h o) (asking (local place stack holding ran)))
    needs place at Nothing t hears = subst (λ (u : Turn). Keeps (asking (local place stack holding ran)) slots u (k None)) (some_is _ _ hears)
        (onward place op.Recall rest (entry_values None stack) slots holding ran (k None) (asking (local place stack holding ran)) refl refl refl at shallow (h None) (asking (local place stack holding ran)))
    needs place at Fault t hears = subst (λ (u : Turn). Keeps (asking (local place stack holding ran)) slots u (recalled k Fault)) (some_is _ _ hears) has_failed
    needs place at (StampIs n) t hears = absurd cc
    needs place at (Exit n) t hears = absurd cc
    needs place at Signal t hears = absurd cc
    needs place at NotStarted t hears = absurd cc
    needs place at (Bytes b) t hears = absurd cc
    needs place at Kept t hears = absurd cc

  pub run : {rest : List Instr} {below : List Value} {slots : Slots} {already : Bool} {interaction : InteractionTree} (command : List ℕ) (outputs : List Path)
      → paths_of p (outputs_of p e) ≡ Some outputs → nat_lt 64 (length below) ≡ false
      → From rest below slots true true interaction → From (op.Run ∷ rest) (Text command ∷ below) slots true already (Ask (Run command outputs) (exited interaction))
  run {rest = rest} {below = below} {slots = slots} {already = already} {interaction = interaction} command outputs is shallow h = record {
    go = λ place at. asked (local place (Text command ∷ below) true already) slots op.Run rest (Run command outputs) (exited interaction) refl at
        (ap (λ (o : Option (List Path)). runs o (Text command ∷ below)) is) (ap (λ (o : Option (List Path)). runs o (Text command ∷ below)) is)
        (λ r t hears. needs place at r t hears);
  } where
    needs : (place : ℕ) → drop place (code p e) ≡ op.Run ∷ rest → (r : Reply) (t : Turn) → replied meaning (asking (local place (Text command ∷ below) true already)) op.Run r ≡ Some t
        → Keeps (asking (local place (Text command ∷ below) true already)) slots t (exited interaction r)
    needs place at (Exit zero) t hears = subst (λ (u : Turn). Keeps (asking (local place (Text command ∷ below) true already)) slots u interaction) (some_is _ _ hears)
        (onward place op.Run rest below slots true true interaction (ran (asking (local place (Text command ∷ below) true already))) refl refl refl at shallow h (asking (local place (Text command ∷ below) true already)))
    needs place at (Exit (suc n)) t hears = subst (λ (u : Turn). Keeps (asking (local place (Text command ∷ below) true already)) slots u (exited interaction (Exit (suc n)))) (some_is _ _ hears) has_failed
    needs place at Signal t hears = subst (λ (u : Turn). Keeps (asking (local place (Text command ∷ below) true already)) slots u (exited interaction Signal)) (some_is _ _ hears) has_failed
    needs place at NotStarted t hears = subst (λ (u : Turn). Keeps (asking (local place (Text command ∷ below) true already)) slots u (exited interaction NotStarted)) (some_is _ _ hears) has_failed
    needs place at Fault t hears = absurd cc
    needs place at (StampIs n) t hears = absurd cc
    needs place at (Entry c b ps) t hears = absurd cc
    needs place at Nothing t hears = absurd cc
    needs place at (Bytes b) t hears = absurd cc
    needs place at Kept t hears = absurd cc

  pub deps : {rest : List Instr} {below : List Value} {slots : Slots} {holding ran : Bool} {k : List Path → InteractionTree} (d : List ℕ)
      → nat_lt 64 (length (Paths 0 [] ∷ below)) ≡ false
      → ((ps : List Path) → From rest (Paths 0 ps ∷ below) slots holding ran (k ps)) → From (op.Deps ∷ rest) (Text d ∷ below) slots holding ran (Ask (Deps d) (read meaning k))
  deps {rest = rest} {below = below} {slots = slots} {holding = holding} {ran = ran} {k = k} d shallow h = record {
    go = λ place at. asked (local place (Text d ∷ below) holding ran) slots op.Deps rest (Deps d) (read meaning k) refl at refl refl (λ r t hears. needs place at r t hears);
  } where
    by_meaning : (place : ℕ) → drop place (code p e) ≡ op.Deps ∷ rest → (m : Result (List Path) (ℕ × ℕ))
        → Keeps (asking (local place (Text d ∷ below) holding ran)) slots (found (asking (local place (Text d ∷ below) holding ran)) m) (told_paths k m)
    by_meaning place at (Ok ps) = onward place op.Deps rest (Paths 0 ps ∷ below) slots holding ran (k ps) (asking (local place (Text d ∷ below) holding ran)) refl refl refl at shallow (h ps) (asking (local place (Text d ∷ below) holding ran))
    by_meaning place at (Err fault) = has_failed

    needs : (place : ℕ) → drop place (code p e) ≡ op.Deps ∷ rest → (r : Reply) (t : Turn) → replied meaning (asking (local place (Text d ∷ below) holding ran)) op.Deps r ≡ Some t
        → Keeps (asking (local place (Text d ∷ below) holding ran)) slots t (read meaning k r)
    needs place at (Bytes b) t hears = subst (λ (u : Turn). Keeps (asking (local place (Text d ∷ below) holding ran)) slots u (read meaning k (Bytes b))) (some_is _ _ hears) (by_meaning place at (meaning b))
    needs place at Nothing t hears = subst (λ (u : Turn). Keeps (asking (local place (Text d ∷ below) holding ran)) slots u (k [])) (some_is _ _ hears)
        (onward place op.Deps rest (Paths 0 [] ∷ below) slots holding ran (k []) (asking (local place (Text d ∷ below) holding ran)) refl refl refl at shallow (h []) (asking (local place (Text d ∷ below) holding ran)))
    needs place at Fault t hears = subst (λ (u : Turn). Keeps (asking (local place (Text d ∷ below) holding ran)) slots u (read meaning k Fault)) (some_is _ _ hears) has_failed
    needs place at (StampIs n) t hears = absurd cc
    needs place at (Entry c b ps) t hears = absurd cc
    needs place at (Exit n) t hears = absurd cc
    needs place at Signal t hears = absurd cc
    needs place at NotStarted t hears = absurd cc
    needs place at Kept t hears = absurd cc

  pub keep : {rest : List Instr} {below : List Value} {slots : Slots} {holding ran : Bool} {interaction : InteractionTree} (path command : List ℕ) (basis : ℕ) (paths : List Path)
      → first_output p e ≡ Some path → nat_lt 64 (length below) ≡ false
      → From rest below slots holding ran interaction → From (op.Keep ∷ rest) (Swept paths ∷ Stamp basis ∷ Text command ∷ below) slots holding ran (Ask (Keep path command basis paths) (kept interaction))
  keep {rest = rest} {below = below} {slots = slots} {holding = holding} {ran = ran} {interaction = interaction} path command basis paths is shallow h = record {
    go = λ place at. asked (local place (Swept paths ∷ Stamp basis ∷ Text command ∷ below) holding ran) slots op.Keep rest (Keep path command basis paths) (kept interaction) refl at
        (ap (λ (o : Option Path). keeps o (Swept paths ∷ Stamp basis ∷ Text command ∷ below)) is) (ap (λ (o : Option Path). keeps o (Swept paths ∷ Stamp basis ∷ Text command ∷ below)) is)
        (λ r t hears. needs place at r t hears);
  } where
    needs : (place : ℕ) → drop place (code p e) ≡ op.Keep ∷ rest → (r : Reply) (t : Turn) → replied meaning (asking (local place (Swept paths ∷ Stamp basis ∷ Text command ∷ below) holding ran)) op.Keep r ≡ Some t
        → Keeps (asking (local place (Swept paths ∷ Stamp basis ∷ Text command ∷ below) holding ran)) slots t (kept interaction r)
    needs place at Kept t hears = subst (λ (u : Turn). Keeps (asking (local place (Swept paths ∷ Stamp basis ∷ Text command ∷ below) holding ran)) slots u interaction) (some_is _ _ hears)
        (onward place op.Keep rest below slots holding ran interaction (asking (local place (Swept paths ∷ Stamp basis ∷ Text command ∷ below) holding ran)) refl refl refl at shallow h (asking (local place (Swept paths ∷ Stamp basis ∷ Text command ∷ below) holding ran)))
    needs place at Fault t hears = subst (λ (u : Turn). Keeps (asking (local place (Swept paths ∷ Stamp basis ∷ Text command ∷ below) holding ran)) slots u (kept interaction Fault)) (some_is _ _ hears) has_failed
    needs place at (StampIs n) t hears = absurd cc
    needs place at (Entry c b ps) t hears = absurd cc
    needs place at Nothing t hears = absurd cc
    needs place at (Exit n) t hears = absurd cc
    needs place at Signal t hears = absurd cc
    needs place at NotStarted t hears = absurd cc
    needs place at (Bytes b) t hears = absurd cc

  -- ---- the sweep: a question for each path that is left

  pub sweep_all : {rest : List Instr} {below : List Value} {slots : Slots} {holding ran : Bool} (todo : List Path) (k : List ℕ → InteractionTree) (all : List Path) (swept : ℕ) (b : Bool) (n : ℕ)
      → drop swept all ≡ todo → nat_lt 64 (length (Paths 0 [] ∷ Flag true ∷ Stamp 0 ∷ below)) ≡ false
      → ((ts : List ℕ) → From rest (Swept all ∷ Flag (missing_from b ts) ∷ Stamp (greatest_from n ts) ∷ below) slots holding ran (k ts))
      → From (op.Sweep ∷ rest) (Paths swept all ∷ Flag b ∷ Stamp n ∷ below) slots holding ran (stamps todo k)
  sweep_all {rest = rest} {below = below} {slots = slots} {holding = holding} {ran = ran} [] k all swept b n left shallow h = record {
    go = λ place at. moved (local place (Paths swept all ∷ Flag b ∷ Stamp n ∷ below) holding ran) slots op.Sweep rest (k []) refl at
        (subst (λ (o : Option Path). Keeps (local place (Paths swept all ∷ Flag b ∷ Stamp n ∷ below) holding ran) slots (sweeps (local place (Paths swept all ∷ Flag b ∷ Stamp n ∷ below) holding ran) all (Flag b ∷ Stamp n ∷ below) o) (k []))
        (sym (none_of_drop all swept left))
        (onward place op.Sweep rest (Swept all ∷ Flag b ∷ Stamp n ∷ below) slots holding ran (k []) (local place (Paths swept all ∷ Flag b ∷ Stamp n ∷ below) holding ran) refl refl refl at shallow (h [])
        (local place (Paths swept all ∷ Flag b ∷ Stamp n ∷ below) holding ran)));
  }
  sweep_all {rest = rest} {below = below} {slots = slots} {holding = holding} {ran = ran} (path ∷ todo) k all swept b n left shallow h = record {
    go = λ place at. asked (local place (Paths swept all ∷ Flag b ∷ Stamp n ∷ below) holding ran) slots op.Sweep rest (Stat path) (stamped (λ t. stamps todo (λ ts. k (t ∷ ts)))) refl at
        (ap (λ (o : Option Path). sweeps (local place (Paths swept all ∷ Flag b ∷ Stamp n ∷ below) holding ran) all (Flag b ∷ Stamp n ∷ below) o) (get_of_drop all swept path todo left))
        (ap (λ (o : Option Path). sweeps (asking (local place (Paths swept all ∷ Flag b ∷ Stamp n ∷ below) holding ran)) all (Flag b ∷ Stamp n ∷ below) o) (get_of_drop all swept path todo left))
        (λ r t hears. needs (λ t. sweep_all todo (λ ts. k (t ∷ ts)) all (swept + 1) (b || (t == 0)) (later n t) (drop_past all swept path todo left) shallow (λ ts. h (t ∷ ts))) place at r t hears);
  } where
    needs : ((t : ℕ) → From (op.Sweep ∷ rest) (Paths (swept + 1) all ∷ Flag (b || (t == 0)) ∷ Stamp (later n t) ∷ below) slots holding ran (stamps todo (λ ts. k (t ∷ ts))))
        → (place : ℕ) → drop place (code p e) ≡ op.Sweep ∷ rest → (r : Reply) (t : Turn)
        → replied meaning (asking (local place (Paths swept all ∷ Flag b ∷ Stamp n ∷ below) holding ran)) op.Sweep r ≡ Some t
        → Keeps (asking (local place (Paths swept all ∷ Flag b ∷ Stamp n ∷ below) holding ran)) slots t (stamped (λ t. stamps todo (λ ts. k (t ∷ ts))) r)
    needs again place at (StampIs s) t hears = subst (λ (u : Turn). Keeps (asking (local place (Paths swept all ∷ Flag b ∷ Stamp n ∷ below) holding ran)) slots u (stamps todo (λ ts. k (s ∷ ts))))
        (sym (ap (λ (x : Bool). if x then Wrong TooDeep else Goes Moved (local place (Paths (swept + 1) all ∷ Flag (b || (s == 0)) ∷ Stamp (later n s) ∷ below) holding ran)) shallow) ∙ some_is _ _ hears)
        ((again s).go place at)
    needs again place at Fault t hears = subst (λ (u : Turn). Keeps (asking (local place (Paths swept all ∷ Flag b ∷ Stamp n ∷ below) holding ran)) slots u (Fail cause.StatFault)) (some_is _ _ hears) has_failed
    needs again place at (Entry c x ps) t hears = absurd cc
    needs again place at Nothing t hears = absurd cc
    needs again place at (Exit x) t hears = absurd cc
    needs again place at Signal t hears = absurd cc
    needs again place at NotStarted t hears = absurd cc
    needs again place at (Bytes x) t hears = absurd cc
    needs again place at Kept t hears = absurd cc

  -- ---- places of the pool, jumps, the end

  pub take_place : {rest : List Instr} {stack : List Value} {slots : Slots} {ran : Bool} {interaction : InteractionTree}
      → pool_outside p e ≡ false → From rest stack slots true ran interaction → From (op.Take ∷ rest) stack slots false ran interaction
  take_place {rest = rest} {stack = stack} {slots = slots} {ran = ran} {interaction = interaction} inside f = record {
    go = λ place at. moved (local place stack false ran) slots op.Take rest interaction refl at
        (subst (λ (b : Bool). Keeps (local place stack false ran) slots (if b then Wrong PoolOutside else holds Took (local place stack false ran) true) interaction) (sym inside)
        (f.go (place + 1) (drop_past (code p e) place op.Take rest at)));
  }

  pub release_place : {rest : List Instr} {stack : List Value} {slots : Slots} {ran : Bool} {interaction : InteractionTree}
      → From rest stack slots false ran interaction → From (op.Release ∷ rest) stack slots true ran interaction
  release_place {rest = rest} {stack = stack} {slots = slots} {ran = ran} {interaction = interaction} f = record {
    go = λ place at. moved (local place stack true ran) slots op.Release rest interaction refl at (f.go (place + 1) (drop_past (code p e) place op.Release rest at));
  }

  pub landing : (place d : ℕ) (stack : List Value) (slots : Slots) (holding ran : Bool) (interaction : InteractionTree) (target : List Instr) (l : Local)
      → place < d → drop d (code p e) ≡ target → 0 < length target → nat_lt 64 (length stack) ≡ false → l.place ≡ place → l.holding ≡ holding → l.ran ≡ ran
      → From target stack slots holding ran interaction → (m : Local) → Keeps m slots (jumps l (length (code p e)) d stack) interaction
  landing place d stack slots holding ran interaction target l forwards lands some shallow a b c f m =
      let len : length target ≡ length (code p e) - d = sym (ap length lands) ∙ drop_length (code p e) d in
      let e0 : nat_le d l.place ≡ false = ap (λ (n : ℕ). nat_le d n) a ∙ lt-leb d place forwards in
      let e1 : nat_le (length (code p e)) d ≡ false = lt-leb (length (code p e)) d (omega (arith, len, some)) in
      let e2 : jumps l (length (code p e)) d stack ≡ Goes Moved (local d stack holding ran) =
      ap (λ (x : Bool). if x then Wrong JumpBack else if nat_le (length (code p e)) d then Wrong PlaceOutside else goes l d stack) e0
      ∙ (ap (λ (x : Bool). if x then Wrong PlaceOutside else goes l d stack) e1
      ∙ (ap (λ (x : Bool). if x then Wrong TooDeep else Goes Moved (record { place = d; stack = stack; holding = l.holding; ran = l.ran; asked = false })) shallow
      ∙ (ap (λ (h : Bool). Goes Moved (record { place = d; stack = stack; holding = h; ran = l.ran; asked = false })) b
      ∙ ap (λ (r : Bool). Goes Moved (record { place = d; stack = stack; holding = holding; ran = r; asked = false })) c))) in
      subst (λ (t : Turn). Keeps m slots t interaction) (sym e2) (f.go d lands)

  -- code that ends later is at a later place
  pub is_later : (place d : ℕ) (i : Instr) (rest target : List Instr) → drop place (code p e) ≡ i ∷ rest → drop d (code p e) ≡ target → length target ≤ length rest → place < d
  is_later place d i rest target at lands le =
      let a : suc (length rest) ≡ length (code p e) - place = sym (ap length at) ∙ drop_length (code p e) place in
      let b : length target ≡ length (code p e) - d = sym (ap length lands) ∙ drop_length (code p e) d in
      omega (arith, a, b, le)

  pub jump : {rest : List Instr} {stack : List Value} {slots : Slots} {holding ran : Bool} {interaction : InteractionTree} (d : ℕ) (target : List Instr)
      → drop d (code p e) ≡ target → length target ≤ length rest → 0 < length target → nat_lt 64 (length stack) ≡ false
      → From target stack slots holding ran interaction → From (op.Jump d ∷ rest) stack slots holding ran interaction
  jump {rest = rest} {stack = stack} {slots = slots} {holding = holding} {ran = ran} {interaction = interaction} d target lands le some shallow f = record {
    go = λ place at. moved (local place stack holding ran) slots (op.Jump d) rest interaction refl at
        (landing place d stack slots holding ran interaction target (local place stack holding ran) (is_later place d (op.Jump d) rest target at lands le) lands some shallow refl refl refl f (local place stack holding ran));
  }

  pub jump_if : {rest : List Instr} {stack : List Value} {slots : Slots} {holding ran : Bool} {interaction : InteractionTree} (d : ℕ) (target : List Instr) (b : Bool)
      → drop d (code p e) ≡ target → length target ≤ length rest → 0 < length target → nat_lt 64 (length stack) ≡ false
      → (b ≡ true → From target stack slots holding ran interaction) → (b ≡ false → From rest stack slots holding ran interaction) → From (op.JumpIf d ∷ rest) (Flag b ∷ stack) slots holding ran interaction
  jump_if {rest = rest} {stack = stack} {slots = slots} {holding = holding} {ran = ran} {interaction = interaction} d target true lands le some shallow f g = record {
    go = λ place at. moved (local place (Flag true ∷ stack) holding ran) slots (op.JumpIf d) rest interaction refl at
        (landing place d stack slots holding ran interaction target (local place (Flag true ∷ stack) holding ran) (is_later place d (op.JumpIf d) rest target at lands le) lands some shallow refl refl refl (f refl) (local place (Flag true ∷ stack) holding ran));
  }
  jump_if {rest = rest} {stack = stack} {slots = slots} {holding = holding} {ran = ran} {interaction = interaction} d target false lands le some shallow f g = record {
    go = λ place at. moved (local place (Flag false ∷ stack) holding ran) slots (op.JumpIf d) rest interaction refl at
        (onward place (op.JumpIf d) rest stack slots holding ran interaction (local place (Flag false ∷ stack) holding ran) refl refl refl at shallow (g refl) (local place (Flag false ∷ stack) holding ran));
  }

  pub finish : {rest : List Instr} {slots : Slots} {ran : Bool} {left : Left}
      → list_all (is_set slots) (own_slots p e) ≡ true → Leaves slots left → From (op.End ∷ rest) [] slots false ran (Over ran left)
  finish {rest = rest} {slots = slots} {ran = ran} {left = left} all leaves = record {
    go = λ place at. moved (local place [] false ran) slots op.End rest (Over ran left) refl at
        (subst (λ (b : Bool). Keeps (local place [] false ran) slots (if not b then Wrong SlotsLeft else Ends) (Over ran left)) (sym all) (is_over leaves));
  }
