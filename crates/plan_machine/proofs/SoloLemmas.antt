-- One edge alone, from the slots that it can access.
use Rattle.std.proofs.Common.{◌≡◌, ℕ, zero, suc, ◌+◌, Bool, true, false, eqb, List, [], ◌∷◌, length, Option, Some, None, refl, sym, ap, subst, ◌∙◌, arith}
use Rattle.std.specs.Prelude.{◌||◌, ◌&&◌, not, nat_lt, if◌then◌else◌, slice_get}
use Rattle.std.specs.List.{list_all}
use Rattle.plan_image.specs.declared.body.Instr.{Instr}
use Rattle.plan_image.specs.declared.body.Instr.TheVariants as op
use Rattle.plan_image.specs.declared.image.Slot.{Slot}
use Rattle.plan_image.specs.declared.image.Parts.{Parts}
use Rattle.plan_image.specs.Code.{code}
use Rattle.plan_verify.specs.declared.kinds.Shape.{Shape}
use Rattle.plan_verify.specs.Tables.{owned_by, owns, is_lent, own_from, own_slots}
use Rattle.plan_verify.specs.Turn.{Slots, is_filled, is_set, Local, Turn, Wrong, Ends, PlaceHeld, SlotsLeft, ValuesLeft, Meaning, loads, act, act_at, turn, heard}
use Rattle.plan_verify.specs.declared.fault.Refusal.{Refusal}
use Rattle.plan_verify.specs.Shape.{checks, first_of, refused}
use Rattle.plan_verify.specs.WellShaped.{AreAllShapes}
use Rattle.plan_verify.specs.Sound.{IsTyped}
use Rattle.plan_verify.specs.Alone.{Stage, Runs, Ended, Failed, WentWrong, Alone, after}
use Rattle.plan_machine.proofs.ListLemmas.{not_false, is_some_of}
use Rattle.plan_machine.specs.declared.event.reply.Reply.{Reply}
use Rattle.plan_machine.specs.Step.{answer_of}
use Rattle.plan_machine.proofs.OnlySlotsLemmas.{only, only_on}

-- the slots that an edge may read or write: its own, and those of its waits
abbrev pub sees : Parts → ℕ → ℕ → Bool
sees p e k = owns p e k || is_lent p e k

abbrev pub seen : Parts → ℕ → Slots → Slots
seen p e slots = only (sees p e) slots

abbrev pub lent : Parts → ℕ → Slots → Slots
lent p e slots = only (is_lent p e) slots

pub owned_seen : (p : Parts) (e k : ℕ) → owns p e k ≡ true → sees p e k ≡ true
owned_seen p e k own = ap (λ (b : Bool). b || is_lent p e k) own

-- ---- a turn reads what the edge sees

abbrev first_fails : List (Bool × Refusal) → Bool
first_fails [] = false
first_fails (c ∷ cs) = c.0

first_passes : (cs : List (Bool × Refusal)) → first_of cs ≡ None → first_fails cs ≡ false
first_passes [] h = refl
first_passes ((true, r) ∷ cs) h = absurd cc
first_passes ((false, r) ∷ cs) h = refl

loads_seen : (p : Parts) (e : ℕ) (shapes : List Shape) → AreAllShapes p e shapes → (place k : ℕ) (s : Shape) → slice_get (code p e) place ≡ Some (op.Load k) → slice_get shapes place ≡ Some s → sees p e k ≡ true
unfolding refused
loads_seen p e shapes all place k s here shape = not_false (sees p e k) (first_passes (checks p e place (op.Load k) s) (all.are.each place (op.Load k) s here shape).1)

all_own : (f g : ℕ → Bool) (e n : ℕ) (slots : List Slot) → ((k : ℕ) → owned_by e (slice_get slots k) ≡ true → f (n + k) ≡ g (n + k)) → list_all f (own_from e n slots) ≡ list_all g (own_from e n slots)
all_own f g e n [] h = refl
all_own f g e n (s ∷ slots) h =
    by (eqb s.owner e) (λ mine. ap f (zero_more n) ∙ h zero mine ∙ sym (ap g (zero_more n)))
    (all_own f g e (n + 1) slots (λ k own. ap f (one_more n k) ∙ h (suc k) own ∙ sym (ap g (one_more n k))))
  where
    zero_more : (n : ℕ) → n ≡ n + 0
    zero_more n = omega arith

    one_more : (n k : ℕ) → n + 1 + k ≡ n + suc k
    one_more n k = omega arith

    by : (b : Bool) → (b ≡ true → f n ≡ g n) → list_all f (own_from e (n + 1) slots) ≡ list_all g (own_from e (n + 1) slots)
        → list_all f (if b then n ∷ own_from e (n + 1) slots else own_from e (n + 1) slots) ≡ list_all g (if b then n ∷ own_from e (n + 1) slots else own_from e (n + 1) slots)
    by true first rest = ap (λ (b : Bool). b && list_all f (own_from e (n + 1) slots)) (first refl) ∙ ap (λ (b : Bool). g n && b) rest
    by false first rest = rest

own_set : (p : Parts) (e : ℕ) (slots : Slots) → list_all (is_set slots) (own_slots p e) ≡ list_all (is_set (seen p e slots)) (own_slots p e)
own_set p e slots = all_own (is_set slots) (is_set (seen p e slots)) e 0 p.slots (λ k own. zero_less k own)
  where
    zero_less : (k : ℕ) → owns p e k ≡ true → is_set slots (0 + k) ≡ is_set (seen p e slots) (0 + k)
    zero_less k own =
        let plain : 0 + k ≡ k = omega arith in
        rw plain (ap is_filled (sym (only_on (sees p e) slots k (owned_seen p e k own))))

abbrev Sees : Parts → ℕ → Instr → Type 0
Sees p e (op.Load k) = sees p e k ≡ true
Sees p e _ = Unit {0}

same_act : (p : Parts) (e : ℕ) (slots : Slots) (l : Local) (i : Instr) → Sees p e i → act p e slots l i ≡ act p e (seen p e slots) l i
same_act p e slots l op.End h =
    ap (λ (b : Bool). if l.holding then Wrong PlaceHeld else if not b then Wrong SlotsLeft else if nat_lt 0 (length l.stack) then Wrong ValuesLeft else Ends) (own_set p e slots)
same_act p e slots l (op.Load k) h = ap (loads l) (sym (only_on (sees p e) slots k h))
same_act p e slots l _ h = refl

pub turn_seen : (p : Parts) (e : ℕ) (shapes : List Shape) → AreAllShapes p e shapes → (slots : Slots) (l : Local) → IsTyped p e shapes slots l → turn p e slots l ≡ turn p e (seen p e slots) l
unfolding turn
turn_seen p e shapes all slots l typed =
    let i = is_some_of (slice_get (code p e) l.place) typed.inside in
    subst (λ (o : Option Instr). act_at p e slots l o ≡ act_at p e (seen p e slots) l o) (sym i.1) (same_act p e slots l i.0 (by i.0 i.1))
  where
    by : (i : Instr) → slice_get (code p e) l.place ≡ Some i → Sees p e i
    by (op.Load k) here = loads_seen p e shapes all l.place k typed.shape here typed.here
    by _ here = tt

-- ---- the run of an edge alone, with the replies that are still to come

pub record Solo : Type 0 where
  pub now : Alone
  pub left : List Reply

abbrev pub solo : Stage → Slots → List Reply → Solo
solo stage slots left = record { now = record { stage = stage; slots = slots }; left = left }

abbrev pub by_heard : Local → Slots → Reply → List Reply → Option Turn → Solo
by_heard l slots r left (Some t) = record { now = after l slots t; left = left }
by_heard l slots r left None = solo (Runs l) slots (r ∷ left)

abbrev pub by_reply : Meaning → Parts → ℕ → Local → Slots → List Reply → Solo
by_reply meaning p e l slots [] = solo (Runs l) slots []
by_reply meaning p e l slots (r ∷ left) = by_heard l slots r left (heard meaning p e l (answer_of r))

abbrev pub next_at : Meaning → Parts → ℕ → Stage → Slots → List Reply → Solo
next_at meaning p e (Runs l) slots left = if l.asked then by_reply meaning p e l slots left else record { now = after l slots (turn p e slots l); left = left }
next_at meaning p e (Ended ran) slots left = solo (Ended ran) slots left
next_at meaning p e (Failed cause) slots left = solo (Failed cause) slots left
next_at meaning p e (WentWrong flaw) slots left = solo (WentWrong flaw) slots left

abbrev pub solo_next : Meaning → Parts → ℕ → Solo → Solo
solo_next meaning p e x = next_at meaning p e x.now.stage x.now.slots x.left

abbrev pub solo_after : Meaning → Parts → ℕ → ℕ → Solo → Solo
solo_after meaning p e zero x = x
solo_after meaning p e (suc n) x = solo_next meaning p e (solo_after meaning p e n x)

abbrev pub Closed : Stage → Type 0
Closed (Runs l) = ⊥
Closed (Ended ran) = Unit {0}
Closed (Failed cause) = Unit {0}
Closed (WentWrong flaw) = Unit {0}

module _ (meaning : Meaning) (p : Parts) (e : ℕ) where
  rests : (stage : Stage) (slots : Slots) (left : List Reply) → Closed stage → next_at meaning p e stage slots left ≡ solo stage slots left
  rests (Runs l) slots left h = absurd h
  rests (Ended ran) slots left h = refl
  rests (Failed cause) slots left h = refl
  rests (WentWrong flaw) slots left h = refl

  stays : (n : ℕ) (stage : Stage) (slots : Slots) (left : List Reply) → Closed stage → solo_after meaning p e n (solo stage slots left) ≡ solo stage slots left
  stays zero stage slots left h = refl
  stays (suc n) stage slots left h = ap (solo_next meaning p e) (stays n stage slots left h) ∙ rests stage slots left h

  further : (m n : ℕ) (x : Solo) → solo_after meaning p e (n + m) x ≡ solo_after meaning p e n (solo_after meaning p e m x)
  further m zero x = let none : 0 + m ≡ m = omega arith in ap (λ (k : ℕ). solo_after meaning p e k x) none
  further m (suc n) x =
      let one : suc n + m ≡ suc (n + m) = omega arith in
      ap (λ (k : ℕ). solo_after meaning p e k x) one ∙ ap (solo_next meaning p e) (further m n x)

  -- an edge alone has only one end
  pub one_end : (m n : ℕ) (x : Solo) (a b : Stage) (slots slots2 : Slots) (left left2 : List Reply) → Closed a → Closed b
      → solo_after meaning p e m x ≡ solo a slots left → solo_after meaning p e n x ≡ solo b slots2 left2 → solo a slots left ≡ solo b slots2 left2
  one_end m n x a b slots slots2 left left2 shut shut2 first second =
      let one = further m n x ∙ ap (solo_after meaning p e n) first ∙ stays n a slots left shut in
      let two = further n m x ∙ ap (solo_after meaning p e m) second ∙ stays m b slots2 left2 shut2 in
      let same : n + m ≡ m + n = omega arith in
      sym one ∙ ap (λ (k : ℕ). solo_after meaning p e k x) same ∙ two
