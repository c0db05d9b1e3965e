-- The question of an instruction whose turn isn't wrong.
use Rattle.std.proofs.Common.{◌≡◌, ℕ, zero, suc, ◌+◌, ◌<◌, ◌≤◌, Bool, true, false, eqb, List, [], ◌∷◌, length, get_or, Option, Some, None, refl, sym, ap, ◌∙◌, subst, arith}
use Rattle.std.specs.Prelude.{nat_le, nat_lt, slice_get, option_map, IsSome, if◌then◌else◌, not}
use Rattle.std.specs.List.{list_all}
use Rattle.std.proofs.lemmas.Option.{get_or_from_slice_get, slice_get_past}
use Rattle.plan_image.specs.declared.body.Instr.{Instr}
use Rattle.plan_image.specs.declared.body.Instr.TheVariants as op
use Rattle.plan_image.specs.declared.image.Slot.{Slot}
use Rattle.plan_image.specs.declared.image.Parts.{Parts}
use Rattle.plan_image.specs.Code.{code}
use Rattle.plan_verify.specs.declared.value.Value.{Value}
use Rattle.plan_verify.specs.declared.value.Value.TheVariants.{Stamp, Flag, Text, Paths, Swept}
use Rattle.plan_verify.specs.Tables.{outputs_of, own_slots, path_of, paths_of, pool_outside, with_path}
use Rattle.plan_verify.specs.Turn.{Slots, is_set, Local, Request as Question, Stat, Run, Deps, Keep, Turn, Wrong, PlaceNotHeld, Calculated, On, TooLong, Off, act, branches, calculate, calculated, ends, jumps, keeps, loads, goes, reads, request_of, runs, stores, sweep, sweeps, writes}
use Rattle.plan_machine.specs.Lent.{paths_by}
use Rattle.plan_machine.specs.declared.event.Request.{Request}
use Rattle.plan_machine.specs.Requests.{HasPathsAt, HasStampAt, HasSweptAt, HasTextAt, asked_at, asked_by, is_asking, shown}
use Rattle.plan_machine.specs.Standing.{Stands}
use Rattle.plan_machine.specs.State.{Status, Active, State}
use Rattle.plan_machine.specs.Working.{Works}
use Rattle.plan_machine.proofs.ListLemmas.{some_is, when_either, when_true}

-- ---- instructions that ask nothing

pub goes_quiet : (l : Local) (to : ℕ) (stack : List Value) → request_of (goes l to stack) ≡ None
goes_quiet l to stack = when_either (λ (t : Turn). request_of t ≡ None) (nat_lt 64 (length stack)) _ _ (λ h. refl) (λ h. refl)

calculated_quiet : (l : Local) (c : Calculated) → request_of (calculated l c) ≡ None
calculated_quiet l (On stack) = goes_quiet l (l.place + 1) stack
calculated_quiet l TooLong = refl
calculated_quiet l (Off flaw) = refl

jumps_quiet : (l : Local) (len to : ℕ) (stack : List Value) → request_of (jumps l len to stack) ≡ None
jumps_quiet l len to stack =
    when_either (λ (t : Turn). request_of t ≡ None) (nat_le to l.place) _ _ (λ h. refl)
    (λ h. when_either (λ (t : Turn). request_of t ≡ None) (nat_le len to) _ _ (λ k. refl) (λ k. goes_quiet l to stack))

branches_quiet : (l : Local) (len to : ℕ) (stack : List Value) → request_of (branches l len to stack) ≡ None
branches_quiet l len to (Flag b ∷ below) = when_either (λ (t : Turn). request_of t ≡ None) b _ _ (λ h. jumps_quiet l len to below) (λ h. goes_quiet l (l.place + 1) below)
branches_quiet l len to [] = refl
branches_quiet l len to (Stamp n ∷ below) = refl
branches_quiet l len to (Text t ∷ below) = refl
branches_quiet l len to (Paths n all ∷ below) = refl
branches_quiet l len to (Swept all ∷ below) = refl

loads_quiet : (l : Local) (o : Option (Option Value)) → request_of (loads l o) ≡ None
loads_quiet l (Some (Some v)) = goes_quiet l (l.place + 1) (v ∷ l.stack)
loads_quiet l (Some None) = refl
loads_quiet l None = refl

stores_quiet : (l : Local) (e k : ℕ) (o : Option Slot) (stack : List Value) → request_of (stores l e k o stack) ≡ None
stores_quiet l e k None stack = refl
stores_quiet l e k (Some slot) [] = refl
stores_quiet l e k (Some slot) (v ∷ below) = when_either (λ (t : Turn). request_of t ≡ None) (eqb slot.owner e) _ _ (λ h. refl) (λ h. refl)

writes_quiet : (l : Local) (o : Option (List ℕ)) → request_of (writes l o) ≡ None
writes_quiet l (Some t) = goes_quiet l (l.place + 1) (Text t ∷ l.stack)
writes_quiet l None = refl

ends_quiet : (p : Parts) (e : ℕ) (slots : Slots) (l : Local) → request_of (ends p e slots l) ≡ None
ends_quiet p e slots l =
    when_either (λ (t : Turn). request_of t ≡ None) l.holding _ _ (λ h. refl)
    (λ h. when_either (λ (t : Turn). request_of t ≡ None) (not (list_all (is_set slots) (own_slots p e))) _ _ (λ k. refl)
    (λ k. when_either (λ (t : Turn). request_of t ≡ None) (nat_lt 0 (length l.stack)) _ _ (λ m. refl) (λ m. refl)))

pub silent : (p : Parts) (e : ℕ) (slots : Slots) (l : Local) (i : Instr) → is_asking i ≡ false → None ≡ request_of (act p e slots l i)
silent p e slots l op.End h = sym (ends_quiet p e slots l)
silent p e slots l (op.Stat f) h = absurd cc
silent p e slots l (op.Need f) h = absurd cc
silent p e slots l (op.Load k) h = sym (loads_quiet l (slice_get slots k))
silent p e slots l (op.Store k) h = sym (stores_quiet l e k (slice_get p.slots k) l.stack)
silent p e slots l (op.Text t) h = sym (writes_quiet l (slice_get p.texts t))
silent p e slots l op.Recall h = absurd cc
silent p e slots l op.Sweep h = absurd cc
silent p e slots l (op.Jump d) h = sym (jumps_quiet l (length (code p e)) d l.stack)
silent p e slots l (op.JumpIf d) h = sym (branches_quiet l (length (code p e)) d l.stack)
silent p e slots l op.Take h =
    sym (when_either (λ (t : Turn). request_of t ≡ None) l.holding _ _ (λ k. refl) (λ k. when_either (λ (t : Turn). request_of t ≡ None) (pool_outside p e) _ _ (λ m. refl) (λ m. refl)))
silent p e slots l op.Release h = sym (when_either (λ (t : Turn). request_of t ≡ None) l.holding _ _ (λ k. refl) (λ k. refl))
silent p e slots l op.Run h = absurd cc
silent p e slots l op.Deps h = absurd cc
silent p e slots l op.Keep h = absurd cc
silent p e slots l op.Older h = sym (calculated_quiet l (calculate op.Older l.stack))
silent p e slots l op.Newer h = sym (calculated_quiet l (calculate op.Newer l.stack))
silent p e slots l op.Before h = sym (calculated_quiet l (calculate op.Before l.stack))
silent p e slots l op.Same h = sym (calculated_quiet l (calculate op.Same l.stack))
silent p e slots l op.IsMissing h = sym (calculated_quiet l (calculate op.IsMissing l.stack))
silent p e slots l op.Or h = sym (calculated_quiet l (calculate op.Or l.stack))
silent p e slots l op.Not h = sym (calculated_quiet l (calculate op.Not l.stack))
silent p e slots l (op.Flag b) h = sym (calculated_quiet l (calculate (op.Flag b) l.stack))
silent p e slots l op.Zero h = sym (calculated_quiet l (calculate op.Zero l.stack))
silent p e slots l op.NoPaths h = sym (calculated_quiet l (calculate op.NoPaths l.stack))
silent p e slots l op.Join h = sym (calculated_quiet l (calculate op.Join l.stack))
silent p e slots l op.Equal h = sym (calculated_quiet l (calculate op.Equal l.stack))
silent p e slots l op.Drop h = sym (calculated_quiet l (calculate op.Drop l.stack))
silent p e slots l op.Swap h = sym (calculated_quiet l (calculate op.Swap l.stack))

-- questions of an edge without values
pub run_bare : (holding : Bool) (outputs : Option (List (List ℕ))) → None ≡ request_of (if holding then runs outputs [] else Wrong PlaceNotHeld)
run_bare false outputs = refl
run_bare true None = refl
run_bare true (Some outputs) = refl

pub keep_bare : (output : Option (List ℕ)) → None ≡ request_of (keeps output [])
keep_bare None = refl
keep_bare (Some output) = refl

-- ---- a depfile

pub deps_finds : (stack : List Value) → Works (reads stack) → HasTextAt 0 stack
deps_finds (Text path ∷ below) w = (path, refl)
deps_finds [] w = absurd w
deps_finds (Stamp n ∷ below) w = absurd w
deps_finds (Flag b ∷ below) w = absurd w
deps_finds (Paths n all ∷ below) w = absurd w
deps_finds (Swept all ∷ below) w = absurd w

pub deps_requests : (stack : List Value) (path : List ℕ) → slice_get stack 0 ≡ Some (Text path) → Some (Deps path) ≡ request_of (reads stack)
deps_requests [] path at = absurd cc
deps_requests (v ∷ below) path at = ap (λ (x : Value). request_of (reads (x ∷ below))) (sym (some_is v (Text path) at))

-- ---- a command

text_first : (stack : List Value) (outputs : List (List ℕ)) → Works (runs (Some outputs) stack) → HasTextAt 0 stack
text_first (Text c ∷ below) outputs w = (c, refl)
text_first [] outputs w = absurd w
text_first (Stamp n ∷ below) outputs w = absurd w
text_first (Flag b ∷ below) outputs w = absurd w
text_first (Paths n all ∷ below) outputs w = absurd w
text_first (Swept all ∷ below) outputs w = absurd w

pub run_finds : (p : Parts) (e : ℕ) (held : Bool) (stack : List Value) → Works (if held then runs (paths_of p (outputs_of p e)) stack else Wrong PlaceNotHeld) → HasTextAt 0 stack
run_finds p e false stack w = absurd w
run_finds p e true stack w = by (paths_of p (outputs_of p e)) w
  where
    by : (o : Option (List (List ℕ))) → Works (runs o stack) → HasTextAt 0 stack
    by None w = absurd w
    by (Some outputs) w = text_first stack outputs w

all_paths : (p : Parts) (fs : List ℕ) (paths : List (List ℕ)) → paths_of p fs ≡ Some paths → paths ≡ paths_by p.files fs
all_paths p [] paths is = sym (some_is [] paths is)
all_paths p (f ∷ fs) paths is = by (path_of p f) (paths_of p fs) refl refl is (λ rest h. all_paths p fs rest h)
  where
    by : (one : Option (List ℕ)) (rest : Option (List (List ℕ))) → path_of p f ≡ one → paths_of p fs ≡ rest → with_path one rest ≡ Some paths
        → ((rest : List (List ℕ)) → paths_of p fs ≡ Some rest → rest ≡ paths_by p.files fs) → paths ≡ paths_by p.files (f ∷ fs)
    by None rest a b h again = absurd cc
    by (Some path) None a b h again = absurd cc
    by (Some path) (Some rest) a b h again =
        sym (some_is (path ∷ rest) paths h) ∙ ap (λ (l : List (List ℕ)). path ∷ l) (again rest b)
        ∙ ap (λ (x : List ℕ). x ∷ paths_by p.files fs) (sym (get_or_from_slice_get p.files f path [] a))

pub run_requests : (p : Parts) (e : ℕ) (held : Bool) (stack : List Value) (command : List ℕ) → Works (if held then runs (paths_of p (outputs_of p e)) stack else Wrong PlaceNotHeld) → slice_get stack 0 ≡ Some (Text command)
    → Some (Run command (paths_by p.files (outputs_of p e))) ≡ request_of (if held then runs (paths_of p (outputs_of p e)) stack else Wrong PlaceNotHeld)
run_requests p e false stack command w at = absurd w
run_requests p e true stack command w at = by (paths_of p (outputs_of p e)) refl w
  where
    by_stack : (stack : List Value) (outputs : List (List ℕ)) → slice_get stack 0 ≡ Some (Text command) → Some (Run command outputs) ≡ request_of (runs (Some outputs) stack)
    by_stack [] outputs at = absurd cc
    by_stack (v ∷ below) outputs at = ap (λ (x : Value). request_of (runs (Some outputs) (x ∷ below))) (sym (some_is v (Text command) at))

    by : (o : Option (List (List ℕ))) → paths_of p (outputs_of p e) ≡ o → Works (runs o stack) → Some (Run command (paths_by p.files (outputs_of p e))) ≡ request_of (runs o stack)
    by None is w = absurd w
    by (Some outputs) is w = ap (λ (l : List (List ℕ)). Some (Run command l)) (sym (all_paths p (outputs_of p e) outputs is)) ∙ by_stack stack outputs at

-- ---- a record

abbrev Kept : List Value → Type 0
Kept stack = HasTextAt 2 stack × HasStampAt 1 stack × HasSweptAt stack

kept_by : (stack : List Value) (output : List ℕ) → Works (keeps (Some output) stack) → Kept stack
kept_by (Swept all ∷ Stamp n ∷ Text c ∷ below) output w = ((c, refl), (n, refl), (all, refl))
kept_by [] output w = absurd w
kept_by _ output w = absurd w

keep_all : (o : Option (List ℕ)) (stack : List Value) → Works (keeps o stack) → Kept stack
keep_all None stack w = absurd w
keep_all (Some output) stack w = kept_by stack output w

pub keep_text : (o : Option (List ℕ)) (stack : List Value) → Works (keeps o stack) → HasTextAt 2 stack
keep_text o stack w = (keep_all o stack w).0

pub keep_stamp : (o : Option (List ℕ)) (stack : List Value) → Works (keeps o stack) → HasStampAt 1 stack
keep_stamp o stack w = (keep_all o stack w).1

pub keep_swept : (o : Option (List ℕ)) (stack : List Value) → Works (keeps o stack) → HasSweptAt stack
keep_swept o stack w = (keep_all o stack w).2

pub keep_requests : (o : Option (List ℕ)) (output : List ℕ) (stack : List Value) (command : List ℕ) (basis : ℕ) (all : List (List ℕ)) → Some output ≡ o → Works (keeps o stack)
    → slice_get stack 2 ≡ Some (Text command) → slice_get stack 1 ≡ Some (Stamp basis) → slice_get stack 0 ≡ Some (Swept all) → Some (Keep output command basis all) ≡ request_of (keeps o stack)
keep_requests None output stack command basis all is w c b a = absurd cc
keep_requests (Some x) output (v ∷ u ∷ t ∷ below) command basis all is w c b a =
    let one : v ≡ Swept all = some_is v (Swept all) a in
    let two : u ≡ Stamp basis = some_is u (Stamp basis) b in
    let three : t ≡ Text command = some_is t (Text command) c in
    let four : output ≡ x = some_is output x is in
    rw (one, two, three, four) refl
keep_requests (Some x) output [] command basis all is w c b a = absurd cc
keep_requests (Some x) output (v ∷ []) command basis all is w c b a = absurd cc
keep_requests (Some x) output (v ∷ u ∷ []) command basis all is w c b a = absurd cc

-- ---- the next path to be swept

pub sweep_finds : (l : Local) (stack : List Value) → Works (sweep l stack) → HasPathsAt stack
sweep_finds l (Paths swept all ∷ rest) w = (swept, all, refl)
sweep_finds l [] w = absurd w
sweep_finds l (Stamp n ∷ rest) w = absurd w
sweep_finds l (Flag b ∷ rest) w = absurd w
sweep_finds l (Text t ∷ rest) w = absurd w
sweep_finds l (Swept all ∷ rest) w = absurd w

by_paths : (l : Local) (stack : List Value) (swept : ℕ) (all : List (List ℕ)) (P : Turn → Type 0) → Works (sweep l stack) → slice_get stack 0 ≡ Some (Paths swept all)
    → ((below : List Value) → P (sweeps l all below (slice_get all swept))) → P (sweep l stack)
by_paths l (Paths n xs ∷ Flag b ∷ Stamp m ∷ below) swept all P w at h =
    let same : Paths n xs ≡ Paths swept all = some_is (Paths n xs) (Paths swept all) at in
    let count : n ≡ swept = cc in
    let list : xs ≡ all = cc in
    rw (count, list) (h (Flag b ∷ Stamp m ∷ below))
by_paths l [] swept all P w at h = absurd w
by_paths l _ swept all P w at h = absurd w

pub sweep_requests : (l : Local) (stack : List Value) (swept : ℕ) (all : List (List ℕ)) → Works (sweep l stack) → slice_get stack 0 ≡ Some (Paths swept all) → swept < length all
    → Some (Stat (get_or all swept [])) ≡ request_of (sweep l stack)
sweep_requests l stack swept all w at lt =
    by_paths l stack swept all (λ (t : Turn). Some (Stat (get_or all swept [])) ≡ request_of t) w at
    (λ below. ap (λ (o : Option (List ℕ)). request_of (sweeps l all below o)) (sym (inside all swept lt)))
  where
    inside : (xs : List (List ℕ)) (k : ℕ) → k < length xs → slice_get xs k ≡ Some (get_or xs k [])
    inside [] k lt = absurd (omega (arith, lt))
    inside (x ∷ xs) zero lt = refl
    inside (x ∷ xs) (suc k) lt = inside xs k (omega (arith, lt))

pub sweep_rests : (l : Local) (stack : List Value) (swept : ℕ) (all : List (List ℕ)) → Works (sweep l stack) → slice_get stack 0 ≡ Some (Paths swept all) → length all ≤ swept
    → None ≡ request_of (sweep l stack)
sweep_rests l stack swept all w at le =
    by_paths l stack swept all (λ (t : Turn). None ≡ request_of t) w at
    (λ below. sym (ap (λ (o : Option (List ℕ)). request_of (sweeps l all below o)) (slice_get_past all swept le) ∙ goes_quiet l (l.place + 1) (Swept all ∷ below)))

-- ---- an edge that awaits a reply

pub some_shown : (o : Option Request) (q : Option Question) → option_map shown o ≡ q → IsSome q → IsSome o
some_shown (Some r) q is h = refl
some_shown None (Some q) is h = absurd cc
some_shown None None is h = absurd cc

pub asked_is : (p : Parts) (s : State) (e : ℕ) (l : Local) → Stands p s → slice_get s.edges e ≡ Some (Active l) → l.asked ≡ true → IsSome (asked_at p s e)
asked_is p s e l sound at loud =
    subst (λ (o : Option Status). IsSome (asked_by p e s.slots o)) (sym at)
    (when_true (λ (o : Option Question). IsSome o) l.asked _ _ loud ((sound.active e l at).typed.awaits loud))
