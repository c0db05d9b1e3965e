-- The questions of an edge, and the replies that it accepts.
use Rattle.std.proofs.Common.{◌≡◌, ℕ, zero, suc, ◌+◌, eqb, List, [], ◌∷◌, length, Option, Some, None, refl, sym, subst, ◌∙◌}
use Rattle.std.specs.Prelude.{not, is_some, IsSome, nat_lt, nat_le, slice_get}
use Rattle.std.specs.List.{list_all}
use Rattle.plan_image.specs.declared.body.Instr.{Instr}
use Rattle.plan_image.specs.declared.body.Instr.TheVariants as op
use Rattle.plan_image.specs.declared.image.Slot.{Slot}
use Rattle.plan_image.specs.declared.image.Parts.{Parts}
use Rattle.plan_image.specs.Code.{code}
use Rattle.plan_verify.specs.declared.value.Value.{Value}
use Rattle.plan_verify.specs.declared.value.Value.TheVariants.{Stamp, Flag, Text, Paths, Swept}
use Rattle.plan_verify.specs.Tables.{own_slots, path_of, paths_of, outputs_of, first_output, pool_outside}
use Rattle.plan_verify.specs.Turn.{Slots, is_set, Request, Stat, Recall, Run, Deps, Keep, Reply, StampIs, Exit, Fault, Meaning, Local, Turn, Calculated, On, TooLong, Off, calculate, calculated, goes, next, jumps, asks_of, ends, loads, stores, writes, sweeps, sweep, branches, runs, reads, keeps, act, act_at, turn, request_of, replied, replied_at, heard}
use Rattle.plan_verify.specs.Seam.{QuestionsIgnoreSlots, StaysTyped, suits, HearsWhatSuits}
use Rattle.plan_verify.proofs.ListLemmas.{when_true, when_either}

abbrev Silent : Turn → Type 0
Silent t = request_of t ≡ None

goes_silent : (l : Local) (to : ℕ) (stack : List Value) → Silent (goes l to stack)
goes_silent l to stack = when_either Silent (nat_lt 64 (length stack)) _ _ (λ h. refl) (λ h. refl)

ends_silent : (p : Parts) (e : ℕ) (slots : Slots) (l : Local) → Silent (ends p e slots l)
ends_silent p e slots l =
    when_either Silent l.holding _ _ (λ h. refl) (λ h.
    when_either Silent (not (list_all (is_set slots) (own_slots p e))) _ _ (λ k. refl) (λ k.
    when_either Silent (nat_lt 0 (length l.stack)) _ _ (λ m. refl) (λ m. refl)))

loads_silent : (l : Local) (o : Option (Option Value)) → Silent (loads l o)
loads_silent l (Some (Some v)) = goes_silent l (l.place + 1) (v ∷ l.stack)
loads_silent l (Some None) = refl
loads_silent l None = refl

same_question : (p : Parts) (e : ℕ) (slots other : Slots) (l : Local) (i : Instr) → request_of (act p e slots l i) ≡ request_of (act p e other l i)
same_question p e slots other l op.End = ends_silent p e slots l ∙ sym (ends_silent p e other l)
same_question p e slots other l (op.Load s) = loads_silent l (slice_get slots s) ∙ sym (loads_silent l (slice_get other s))
same_question p e slots other l _ = refl

pub questions_ignore_slots : QuestionsIgnoreSlots
unfolding turn
questions_ignore_slots p e slots other l = by (slice_get (code p e) l.place)
  where
    by : (o : Option Instr) → request_of (act_at p e slots l o) ≡ request_of (act_at p e other l o)
    by None = refl
    by (Some i) = same_question p e slots other l i

pub stays_typed : StaysTyped
stays_typed p e shapes slots new l more typed =
    record {
      shape = typed.shape;
      here = typed.here;
      inside = typed.inside;
      kinds = typed.kinds;
      holding = typed.holding;
      set = λ s h. more s (typed.set s h);
      awaits = λ loud. subst (λ (o : Option Request). IsSome o) (questions_ignore_slots p e slots new l) (typed.awaits loud);
    }

-- ---- hearing

calculated_silent : (l : Local) (c : Calculated) → Silent (calculated l c)
calculated_silent l (On stack) = goes_silent l (l.place + 1) stack
calculated_silent l TooLong = refl
calculated_silent l (Off flaw) = refl

jumps_silent : (l : Local) (len to : ℕ) (stack : List Value) → Silent (jumps l len to stack)
jumps_silent l len to stack = when_either Silent (nat_le to l.place) _ _ (λ h. refl) (λ h. when_either Silent (nat_le len to) _ _ (λ k. refl) (λ k. goes_silent l to stack))

stores_silent : (l : Local) (e s : ℕ) (o : Option Slot) (stack : List Value) → Silent (stores l e s o stack)
stores_silent l e s None stack = refl
stores_silent l e s (Some slot) [] = refl
stores_silent l e s (Some slot) (v ∷ below) = when_either Silent (eqb slot.owner e) _ _ (λ h. refl) (λ h. refl)

writes_silent : (l : Local) (o : Option (List ℕ)) → Silent (writes l o)
writes_silent l (Some t) = goes_silent l (l.place + 1) (Text t ∷ l.stack)
writes_silent l None = refl

branches_silent : (l : Local) (len to : ℕ) (stack : List Value) → Silent (branches l len to stack)
branches_silent l len to (Flag b ∷ below) = when_either Silent b _ _ (λ h. jumps_silent l len to below) (λ h. goes_silent l (l.place + 1) below)
branches_silent l len to [] = refl
branches_silent l len to (Stamp n ∷ below) = refl
branches_silent l len to (Text t ∷ below) = refl
branches_silent l len to (Paths n a ∷ below) = refl
branches_silent l len to (Swept a ∷ below) = refl

-- an instruction that asks nothing accepts no reply
abbrev Fits : Meaning → Local → Instr → Option Request → Type 0
Fits meaning l i (Some q) = (r : Reply) → is_some (replied meaning l i r) ≡ suits q r
Fits meaning l i None = Unit {0}

quiet : (meaning : Meaning) (l : Local) (i : Instr) (t : Turn) → Silent t → Fits meaning l i (request_of t)
quiet meaning l i t h = subst (λ (o : Option Request). Fits meaning l i o) (sym h) tt

stat_fits : (meaning : Meaning) (l : Local) (n : ℕ) (path : List ℕ) (r : Reply) → is_some (replied meaning l (op.Stat n) r) ≡ suits (Stat path) r
stat_fits meaning l n path Fault = refl
stat_fits meaning l n path _ = refl

need_fits : (meaning : Meaning) (l : Local) (n : ℕ) (path : List ℕ) (r : Reply) → is_some (replied meaning l (op.Need n) r) ≡ suits (Stat path) r
need_fits meaning l n path (StampIs zero) = refl
need_fits meaning l n path (StampIs (suc k)) = refl
need_fits meaning l n path _ = refl

sweep_fits : (meaning : Meaning) (l : Local) (path : List ℕ) (r : Reply) → is_some (replied meaning l op.Sweep r) ≡ suits (Stat path) r
sweep_fits meaning l path Fault = refl
sweep_fits meaning l path _ = refl

recall_fits : (meaning : Meaning) (l : Local) (path : List ℕ) (r : Reply) → is_some (replied meaning l op.Recall r) ≡ suits (Recall path) r
recall_fits meaning l path Fault = refl
recall_fits meaning l path _ = refl

run_fits : (meaning : Meaning) (l : Local) (command : List ℕ) (outputs : List (List ℕ)) (r : Reply) → is_some (replied meaning l op.Run r) ≡ suits (Run command outputs) r
run_fits meaning l command outputs (Exit zero) = refl
run_fits meaning l command outputs (Exit (suc k)) = refl
run_fits meaning l command outputs _ = refl

deps_fits : (meaning : Meaning) (l : Local) (path : List ℕ) (r : Reply) → is_some (replied meaning l op.Deps r) ≡ suits (Deps path) r
deps_fits meaning l path Fault = refl
deps_fits meaning l path _ = refl

keep_fits : (meaning : Meaning) (l : Local) (output command : List ℕ) (basis : ℕ) (paths : List (List ℕ)) (r : Reply) → is_some (replied meaning l op.Keep r) ≡ suits (Keep output command basis paths) r
keep_fits meaning l output command basis paths Fault = refl
keep_fits meaning l output command basis paths _ = refl

asked_of : (meaning : Meaning) (l : Local) (i : Instr) (request : List ℕ → Request) → ((path : List ℕ) (r : Reply) → is_some (replied meaning l i r) ≡ suits (request path) r) → (o : Option (List ℕ)) → Fits meaning l i (request_of (asks_of o request))
asked_of meaning l i request fits (Some path) = fits path
asked_of meaning l i request fits None = tt

swept_fit : (meaning : Meaning) (l : Local) (all : List (List ℕ)) (below : List Value) (o : Option (List ℕ)) → Fits meaning l op.Sweep (request_of (sweeps l all below o))
swept_fit meaning l all below (Some path) = sweep_fits meaning l path
swept_fit meaning l all below None = quiet meaning l op.Sweep (next l (Swept all ∷ below)) (goes_silent l (l.place + 1) (Swept all ∷ below))

sweep_fit : (meaning : Meaning) (l : Local) (stack : List Value) → Fits meaning l op.Sweep (request_of (sweep l stack))
sweep_fit meaning l (Paths n all ∷ Flag b ∷ Stamp m ∷ below) = swept_fit meaning l all (Flag b ∷ Stamp m ∷ below) (slice_get all n)
sweep_fit meaning l _ = tt

run_fit : (meaning : Meaning) (l : Local) (o : Option (List (List ℕ))) (stack : List Value) → Fits meaning l op.Run (request_of (runs o stack))
run_fit meaning l (Some outputs) (Text command ∷ below) = run_fits meaning l command outputs
run_fit meaning l (Some outputs) _ = tt
run_fit meaning l None _ = tt

deps_fit : (meaning : Meaning) (l : Local) (stack : List Value) → Fits meaning l op.Deps (request_of (reads stack))
deps_fit meaning l (Text path ∷ below) = deps_fits meaning l path
deps_fit meaning l _ = tt

keep_fit : (meaning : Meaning) (l : Local) (o : Option (List ℕ)) (stack : List Value) → Fits meaning l op.Keep (request_of (keeps o stack))
keep_fit meaning l (Some output) (Swept paths ∷ Stamp basis ∷ Text command ∷ below) = keep_fits meaning l output command basis paths
keep_fit meaning l (Some output) _ = tt
keep_fit meaning l None _ = tt

fits : (meaning : Meaning) (p : Parts) (e : ℕ) (slots : Slots) (l : Local) (i : Instr) → Fits meaning l i (request_of (act p e slots l i))
fits meaning p e slots l op.End = quiet meaning l op.End (ends p e slots l) (ends_silent p e slots l)
fits meaning p e slots l (op.Stat n) = asked_of meaning l (op.Stat n) Stat (stat_fits meaning l n) (path_of p n)
fits meaning p e slots l (op.Need n) = asked_of meaning l (op.Need n) Stat (need_fits meaning l n) (path_of p n)
fits meaning p e slots l (op.Load s) = quiet meaning l (op.Load s) (loads l (slice_get slots s)) (loads_silent l (slice_get slots s))
fits meaning p e slots l (op.Store s) = quiet meaning l (op.Store s) (stores l e s (slice_get p.slots s) l.stack) (stores_silent l e s (slice_get p.slots s) l.stack)
fits meaning p e slots l (op.Text t) = quiet meaning l (op.Text t) (writes l (slice_get p.texts t)) (writes_silent l (slice_get p.texts t))
fits meaning p e slots l op.Recall = asked_of meaning l op.Recall Recall (recall_fits meaning l) (first_output p e)
fits meaning p e slots l op.Sweep = sweep_fit meaning l l.stack
fits meaning p e slots l (op.Jump d) = quiet meaning l (op.Jump d) (jumps l (length (code p e)) d l.stack) (jumps_silent l (length (code p e)) d l.stack)
fits meaning p e slots l (op.JumpIf d) = quiet meaning l (op.JumpIf d) (branches l (length (code p e)) d l.stack) (branches_silent l (length (code p e)) d l.stack)
fits meaning p e slots l op.Take =
    quiet meaning l op.Take (act p e slots l op.Take) (when_either Silent l.holding _ _ (λ h. refl) (λ h. when_either Silent (pool_outside p e) _ _ (λ k. refl) (λ k. refl)))
fits meaning p e slots l op.Release = quiet meaning l op.Release (act p e slots l op.Release) (when_either Silent l.holding _ _ (λ h. refl) (λ h. refl))
fits meaning p e slots l op.Run =
    when_either (λ (t : Turn). Fits meaning l op.Run (request_of t)) l.holding _ _ (λ h. run_fit meaning l (paths_of p (outputs_of p e)) l.stack) (λ h. tt)
fits meaning p e slots l op.Deps = deps_fit meaning l l.stack
fits meaning p e slots l op.Keep = keep_fit meaning l (first_output p e) l.stack
fits meaning p e slots l i = quiet meaning l i (calculated l (calculate i l.stack)) (calculated_silent l (calculate i l.stack))

pub hears_what_suits : HearsWhatSuits
unfolding turn heard
hears_what_suits p e slots l meaning q r loud asked =
    when_true (λ (o : Option Turn). is_some o ≡ suits q r) l.asked _ _ loud (by (slice_get (code p e) l.place) asked)
  where
    by : (o : Option Instr) → request_of (act_at p e slots l o) ≡ Some q → is_some (replied_at meaning l o r) ≡ suits q r
    by None h = absurd cc
    by (Some i) h = subst (λ (o : Option Request). Fits meaning l i o) h (fits meaning p e slots l i) r
