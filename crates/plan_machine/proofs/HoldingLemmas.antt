-- How a turn of an edge changes the job token that it holds.
use Rattle.std.proofs.Common.{◌≡◌, ℕ, zero, suc, ◌+◌, true, false, eqb, List, [], ◌∷◌, length, drop, Option, Some, None, refl, ap}
use Rattle.std.specs.Prelude.{not, IfSome, nat_lt, nat_le, slice_get, Result, Ok, Err}
use Rattle.std.specs.List.{list_all}
use Rattle.plan_image.specs.declared.body.Instr.{Instr}
use Rattle.plan_image.specs.declared.body.Instr.TheVariants as op
use Rattle.plan_image.specs.declared.image.Slot.{Slot}
use Rattle.plan_image.specs.declared.image.Parts.{Parts}
use Rattle.plan_image.specs.Code.{code}
use Rattle.plan_verify.specs.declared.value.Value.{Value}
use Rattle.plan_verify.specs.declared.value.Value.TheVariants.{Stamp, Flag, Text, Paths, Swept}
use Rattle.plan_verify.specs.Tables.{own_slots, path_of, paths_of, outputs_of, first_output, pool_outside}
use Rattle.plan_verify.specs.Turn.{Slots, is_set, Request, Stat, Recall, Reply, StampIs, Entry, Nothing, Exit, Signal, NotStarted, Bytes, Kept, Fault, Meaning, Local, Moved, Took, Released, Turn, Goes, Sets, Asks, Ends, Fails, Wrong, Calculated, On, TooLong, Off, calculate, calculated, goes, jumps, asks_of, loads, stores, writes, sweeps, sweep, branches, runs, reads, keeps, act, act_at, turn, merged, found, ran, replied, replied_at, heard}
use Rattle.plan_machine.proofs.ListLemmas.{when_either}
use Rattle.plan_machine.specs.Places.{is_take, at_take}

-- the change by a step
abbrev pub Noted : Parts → ℕ → Local → Turn → Type 0
Noted p e l (Goes Moved m) = m.holding ≡ l.holding
Noted p e l (Goes Took m) = (m.holding ≡ true) × (at_take p e l ≡ true)
Noted p e l (Goes Released m) = m.holding ≡ false
Noted p e l (Sets k v m) = m.holding ≡ l.holding
Noted p e l (Asks q) = Unit {0}
Noted p e l Ends = Unit {0}
Noted p e l (Fails cause) = Unit {0}
Noted p e l (Wrong flaw) = Unit {0}

-- a reply doesn't change it
abbrev pub KeepsPlace : Local → Turn → Type 0
KeepsPlace l (Goes did m) = m.holding ≡ l.holding
KeepsPlace l (Sets k v m) = m.holding ≡ l.holding
KeepsPlace l (Asks q) = Unit {0}
KeepsPlace l Ends = Unit {0}
KeepsPlace l (Fails cause) = Unit {0}
KeepsPlace l (Wrong flaw) = Unit {0}

module _ (p : Parts) (e : ℕ) (slots : Slots) (l : Local) where
  abbrev N : Turn → Type 0
  N t = Noted p e l t

  goes_noted : (to : ℕ) (stack : List Value) → N (goes l to stack)
  goes_noted to stack = when_either N (nat_lt 64 (length stack)) _ _ (λ h. tt) (λ h. refl)

  jumps_noted : (len to : ℕ) (stack : List Value) → N (jumps l len to stack)
  jumps_noted len to stack = when_either N (nat_le to l.place) _ _ (λ h. tt) (λ h. when_either N (nat_le len to) _ _ (λ k. tt) (λ k. goes_noted to stack))

  calculated_noted : (c : Calculated) → N (calculated l c)
  calculated_noted (On stack) = goes_noted (l.place + 1) stack
  calculated_noted TooLong = tt
  calculated_noted (Off flaw) = tt

  asks_noted : (o : Option (List ℕ)) (q : List ℕ → Request) → N (asks_of o q)
  asks_noted (Some path) q = tt
  asks_noted None q = tt

  loads_noted : (o : Option (Option Value)) → N (loads l o)
  loads_noted (Some (Some v)) = goes_noted (l.place + 1) (v ∷ l.stack)
  loads_noted (Some None) = tt
  loads_noted None = tt

  stores_noted : (s : ℕ) (o : Option Slot) (stack : List Value) → N (stores l e s o stack)
  stores_noted s None stack = tt
  stores_noted s (Some slot) [] = tt
  stores_noted s (Some slot) (v ∷ below) = when_either N (eqb slot.owner e) _ _ (λ h. refl) (λ h. tt)

  writes_noted : (o : Option (List ℕ)) → N (writes l o)
  writes_noted (Some t) = goes_noted (l.place + 1) (Text t ∷ l.stack)
  writes_noted None = tt

  sweeps_noted : (all : List (List ℕ)) (below : List Value) (o : Option (List ℕ)) → N (sweeps l all below o)
  sweeps_noted all below (Some path) = tt
  sweeps_noted all below None = goes_noted (l.place + 1) (Swept all ∷ below)

  sweep_noted : (stack : List Value) → N (sweep l stack)
  sweep_noted (Paths swept all ∷ Flag b ∷ Stamp n ∷ below) = sweeps_noted all (Flag b ∷ Stamp n ∷ below) (slice_get all swept)
  sweep_noted _ = tt

  branches_noted : (len to : ℕ) (stack : List Value) → N (branches l len to stack)
  branches_noted len to (Flag b ∷ below) = when_either N b _ _ (λ h. jumps_noted len to below) (λ h. goes_noted (l.place + 1) below)
  branches_noted len to _ = tt

  runs_noted : (o : Option (List (List ℕ))) (stack : List Value) → N (runs o stack)
  runs_noted (Some outputs) (Text command ∷ below) = tt
  runs_noted (Some outputs) _ = tt
  runs_noted None stack = tt

  reads_noted : (stack : List Value) → N (reads stack)
  reads_noted (Text path ∷ below) = tt
  reads_noted _ = tt

  keeps_noted : (o : Option (List ℕ)) (stack : List Value) → N (keeps o stack)
  keeps_noted (Some output) (Swept paths ∷ Stamp basis ∷ Text command ∷ below) = tt
  keeps_noted (Some output) _ = tt
  keeps_noted None stack = tt

  act_noted : (i : Instr) → slice_get (code p e) l.place ≡ Some i → N (act p e slots l i)
  act_noted op.End here =
      when_either N l.holding _ _ (λ h. tt) (λ h.
      when_either N (not (list_all (is_set slots) (own_slots p e))) _ _ (λ k. tt) (λ k. when_either N (nat_lt 0 (length l.stack)) _ _ (λ m. tt) (λ m. tt)))
  act_noted (op.Stat f) here = asks_noted (path_of p f) Stat
  act_noted (op.Need f) here = asks_noted (path_of p f) Stat
  act_noted (op.Load s) here = loads_noted (slice_get slots s)
  act_noted (op.Store s) here = stores_noted s (slice_get p.slots s) l.stack
  act_noted (op.Text t) here = writes_noted (slice_get p.texts t)
  act_noted op.Recall here = asks_noted (first_output p e) Recall
  act_noted op.Sweep here = sweep_noted l.stack
  act_noted (op.Jump d) here = jumps_noted (length (code p e)) d l.stack
  act_noted (op.JumpIf d) here = branches_noted (length (code p e)) d l.stack
  act_noted op.Take here = when_either N l.holding _ _ (λ h. tt) (λ h. when_either N (pool_outside p e) _ _ (λ k. tt) (λ k. (refl, ap is_take here)))
  act_noted op.Release here = when_either N l.holding _ _ (λ h. refl) (λ h. tt)
  act_noted op.Run here = when_either N l.holding _ _ (λ h. runs_noted (paths_of p (outputs_of p e)) l.stack) (λ h. tt)
  act_noted op.Deps here = reads_noted l.stack
  act_noted op.Keep here = keeps_noted (first_output p e) l.stack
  act_noted i here = calculated_noted (calculate i l.stack)

  pub turn_noted : N (turn p e slots l)
  unfolding turn
  turn_noted = by (slice_get (code p e) l.place) refl
    where
      by : (o : Option Instr) → slice_get (code p e) l.place ≡ o → N (act_at p e slots l o)
      by None here = tt
      by (Some i) here = act_noted i here

-- ---- replies

module _ (meaning : Meaning) (l : Local) where
  abbrev K : Turn → Type 0
  K t = KeepsPlace l t

  on_kept : (k : Local) (to : ℕ) (stack : List Value) → k.holding ≡ l.holding → K (goes k to stack)
  on_kept k to stack same = when_either K (nat_lt 64 (length stack)) _ _ (λ h. tt) (λ h. same)

  found_kept : (o : Result (List (List ℕ)) (ℕ × ℕ)) → K (found l o)
  found_kept (Ok paths) = on_kept l (l.place + 1) (Paths 0 paths ∷ drop 1 l.stack) refl
  found_kept (Err fault) = tt

  replied_kept : (i : Instr) (r : Reply) → IfSome (replied meaning l i r) K
  replied_kept (op.Stat f) (StampIs n) = on_kept l (l.place + 1) (Stamp n ∷ l.stack) refl
  replied_kept (op.Stat f) Fault = tt
  replied_kept (op.Need f) (StampIs zero) = tt
  replied_kept (op.Need f) (StampIs (suc n)) = on_kept l (l.place + 1) (Stamp (suc n) ∷ l.stack) refl
  replied_kept (op.Need f) Fault = tt
  replied_kept op.Recall (Entry command basis paths) = on_kept l (l.place + 1) (Flag true ∷ Text command ∷ Stamp basis ∷ Paths 0 paths ∷ l.stack) refl
  replied_kept op.Recall Nothing = on_kept l (l.place + 1) (Flag false ∷ Text [] ∷ Stamp 0 ∷ Paths 0 [] ∷ l.stack) refl
  replied_kept op.Recall Fault = tt
  replied_kept op.Sweep (StampIs n) = on_kept l l.place (merged n l.stack) refl
  replied_kept op.Sweep Fault = tt
  replied_kept op.Run (Exit zero) = on_kept (ran l) (l.place + 1) (drop 1 l.stack) refl
  replied_kept op.Run (Exit (suc n)) = tt
  replied_kept op.Run Signal = tt
  replied_kept op.Run NotStarted = tt
  replied_kept op.Deps (Bytes bytes) = found_kept (meaning bytes)
  replied_kept op.Deps Nothing = on_kept l (l.place + 1) (Paths 0 [] ∷ drop 1 l.stack) refl
  replied_kept op.Deps Fault = tt
  replied_kept op.Keep Kept = on_kept l (l.place + 1) (drop 3 l.stack) refl
  replied_kept op.Keep Fault = tt
  replied_kept i r = tt

  pub heard_kept : (p : Parts) (e : ℕ) (r : Reply) → IfSome (heard meaning p e l r) K
  unfolding heard
  heard_kept p e r = when_either (λ (o : Option Turn). IfSome o K) l.asked _ _ (λ h. by (slice_get (code p e) l.place)) (λ h. tt)
    where
      by : (o : Option Instr) → IfSome (replied_at meaning l o r) K
      by None = tt
      by (Some i) = replied_kept i r
