-- In an edge with shapes each instruction fits its place.
use Rattle.std.proofs.Common.{◌≡◌, ℕ, zero, suc, ◌+◌, ◌<◌, ◌≤◌, Bool, true, false, ltb, leb, List, [], ◌∷◌, ◌++◌, length, drop, Option, Some, None, refl, sym, ap, subst, ◌∙◌, arith, inl, inr}
use Rattle.std.specs.Prelude.{Contains, ◌||◌, ◌&&◌, ◌⊎◌, not, IsSome}
use Rattle.std.specs.List.{slice_get, AllByRecursion, list_all, list_any}
use Rattle.std.proofs.lemmas.Bool.{cases_eq, eq-eqb, ne_eqb, leb-false, ltb-false}
use Rattle.std.proofs.lemmas.List.{nil_from_length}
use Rattle.std.proofs.lemmas.List.Elements.{Contains-append_left, Contains-append_right}
use Rattle.plan_image.specs.declared.body.Kind.{Kind}
use Rattle.plan_image.specs.declared.body.Kind.TheVariants as kind
use Rattle.plan_image.specs.declared.body.Instr.{Instr}
use Rattle.plan_image.specs.declared.body.Instr.TheVariants as op
use Rattle.plan_image.specs.declared.image.Edge.{Edge}
use Rattle.plan_image.specs.declared.image.Parts.{Parts}
use Rattle.plan_image.specs.Code.{code, edge_code}
use Rattle.plan_verify.specs.declared.kinds.Shape.{Shape}
use Rattle.plan_verify.specs.declared.fault.Refusal.{Refusal}
use Rattle.plan_verify.specs.Members.{is_member}
use Rattle.plan_verify.specs.Tables.{owns, is_lent, own_slots, slot_kind, path_of, paths_of, outputs_of, first_output, first_path, pool_outside, is_outside, pool_in, outputs_in, with_path}
use Rattle.plan_verify.specs.Shape.{left, targets, refused, first_of, checks, takes, kinds_after, bad_slot, bad_jump, bad_file, bad_text, lacks_place, keeps_place, same_kind, wrong_kind, unset_slot, values_left, falls_off, table_checks, table_refusal, table_refusal_of, lacks_outputs}
use Rattle.plan_verify.specs.WellShaped.{at_start, toward, arriving_from, begins, arriving, AreAllShapes}
use Rattle.plan_verify.specs.Fits.{Leads, Turns, Fits, with_kinds}
use Rattle.plan_verify.specs.Sound.{InstructionsFit}
use Rattle.plan_verify.proofs.ListLemmas.{some_is, get_inside, or_false, not_false}

-- ---- the shape that an instruction leaves arrives at its targets

toward_has : (m : ℕ) (ts : List ℕ) (s : Shape) → Contains ts m → Contains (toward m ts s) s
toward_has m [] s there = absurd (let lt = there.1 in omega (arith, lt))
toward_has m (t ∷ ts) s (zero, lt, at) = rw (eq-eqb t m at) (0, omega arith, refl)
toward_has m (t ∷ ts) s (suc k, lt, at) =
    let rest = toward_has m ts s (k, omega (arith, lt), at) in
    elim (cases_eq t m) [
      | inl e ↦ rw (eq-eqb t m e) (0, omega arith, refl)
      | inr ne ↦ rw (ne_eqb t m ne) rest
    ]

arriving_from_has : (p : Parts) (at : ℕ) (is : List Instr) (shapes : List Shape) (k : ℕ) (i : Instr) (s : Shape) (m : ℕ) → slice_get is k ≡ Some i → slice_get shapes k ≡ Some s
    → Contains (targets (at + k) i) m → Contains (arriving_from p at is shapes m) (left p i s)
arriving_from_has p at [] shapes k i s m here shape there = absurd cc
arriving_from_has p at (j ∷ js) [] k i s m here shape there = absurd cc
arriving_from_has p at (j ∷ js) (t ∷ ts) zero i s m here shape there =
    let head : Contains (targets at j) m = rw (some_is j i here, ← add_none at) there in
    Contains-append_left (toward m (targets at j) (left p j t)) (arriving_from p (at + 1) js ts m) (left p i s) (rw (← some_is j i here, ← some_is t s shape) (toward_has m (targets at j) (left p j t) head))
  where
    add_none : (n : ℕ) → n + 0 ≡ n
    add_none n = omega arith
arriving_from_has p at (j ∷ js) (t ∷ ts) (suc k) i s m here shape there =
    let same : at + suc k ≡ at + 1 + k = omega arith in
    Contains-append_right (toward m (targets at j) (left p j t)) (arriving_from p (at + 1) js ts m) (left p i s) (arriving_from_has p (at + 1) js ts k i s m here shape (rw (← same) there))

exact : (p : Parts) (e : ℕ) (shapes : List Shape) (k : ℕ) (i : Instr) (s : Shape) (m : ℕ) → AreAllShapes p e shapes → slice_get (code p e) k ≡ Some i → slice_get shapes k ≡ Some s
    → Contains (targets k i) m → m < length (code p e) → slice_get shapes m ≡ Some (left p i s)
unfolding arriving
exact p e shapes k i s m all here shape there lt =
    let zero_plus : 0 + k ≡ k = omega arith in
    let arrives : Contains (arriving p e shapes m) (left p i s) = Contains-append_right (begins m) (arriving_from p 0 (code p e) shapes m) (left p i s) (arriving_from_has p 0 (code p e) shapes k i s m here shape (rw zero_plus there)) in
    let t = get_inside shapes m (omega (arith, all.long)) in
    let j = get_inside (code p e) m lt in
    let among = (all.are.each m j.0 t.0 j.1 t.1).0 in
    t.1 ∙ ap (λ (x : Shape). Some x) (sym (among.alone arrives.0 (left p i s) arrives.1) ∙ arrives.2)

-- the first place has the empty shape
pub first_shape : (p : Parts) (e : ℕ) (shapes : List Shape) → AreAllShapes p e shapes → slice_get shapes 0 ≡ Some at_start
unfolding arriving
first_shape p e shapes all =
    let t = get_inside shapes 0 (let some = all.some in omega (arith, all.long, some)) in
    let j = get_inside (code p e) 0 all.some in
    let among = (all.are.each 0 j.0 t.0 j.1 t.1).0 in
    t.1 ∙ ap (λ (x : Shape). Some x) (sym (among.alone 0 at_start (omega arith)))

-- ---- the checks that passed, by name

-- a place is after another one and inside the code
abbrev pub IsOnwards : ℕ → ℕ → ℕ → Type 0
IsOnwards n len t = (n < t) × (t < len)

jump_onwards : (n len d : ℕ) → (leb d n || leb len d) ≡ false → IsOnwards n len d
jump_onwards n len d e = let o = or_false (leb d n) (leb len d) e in (leb-false d n o.0, leb-false len d o.1)

next_onwards : (n len : ℕ) → leb len (n + 1) ≡ false → IsOnwards n len (n + 1)
next_onwards n len e = let h = leb-false len (n + 1) e in (omega arith, h)

targets_onwards : (n len : ℕ) (i : Instr) → bad_jump len n i ≡ false → falls_off len n i ≡ false → AllByRecursion (IsOnwards n len) (targets n i)
targets_onwards n len op.End j f = tt
targets_onwards n len (op.Jump d) j f = (jump_onwards n len d j, tt)
targets_onwards n len (op.JumpIf d) j f = (next_onwards n len f, (jump_onwards n len d j, tt))
targets_onwards n len _ j f = (next_onwards n len f, tt)

pub all_pass : (cs : List (Bool × Refusal)) → first_of cs ≡ None → AllByRecursion (λ c. c.0 ≡ false) cs
all_pass [] e = tt
all_pass ((true, r) ∷ cs) e = absurd cc
all_pass ((false, r) ∷ cs) e = (refl, all_pass cs e)

-- the checks that an instruction passed, by name
pub record Passed (p : Parts) (e n : ℕ) (i : Instr) (s : Shape) : Type 0 where
  pub slot : bad_slot p e i ≡ false
  pub file : bad_file p i ≡ false
  pub text : bad_text p i ≡ false
  pub lacks : lacks_place i s.holding ≡ false
  pub keeps : keeps_place i s.holding ≡ false
  pub few : ltb (length s.kinds) (length (takes p i)) ≡ false
  pub kinds : wrong_kind (takes p i) s.kinds ≡ false
  pub unset : unset_slot p e i s.set ≡ false
  pub left : values_left i s.kinds ≡ false
  pub deep : ltb 64 (length (kinds_after p i s.kinds)) ≡ false
  pub onwards : AllByRecursion (IsOnwards n (length (code p e))) (targets n i)

pub passed_from : (p : Parts) (e n : ℕ) (i : Instr) (s : Shape) → refused p e n i s ≡ None → Passed p e n i s
unfolding refused
passed_from p e n i s h =
    let a = all_pass (checks p e n i s) h in
    record {
      slot = a.0;
      file = a.1.1.0;
      text = a.1.1.1.0;
      lacks = a.1.1.1.1.0;
      keeps = a.1.1.1.1.1.0;
      few = a.1.1.1.1.1.1.0;
      kinds = a.1.1.1.1.1.1.1.0;
      unset = a.1.1.1.1.1.1.1.1.0;
      left = a.1.1.1.1.1.1.1.1.1.0;
      deep = a.1.1.1.1.1.1.1.1.1.1.0;
      onwards = targets_onwards n (length (code p e)) i a.1.0 a.1.1.1.1.1.1.1.1.1.1.1.0;
    }

-- ---- stacks

same_is : (a b : Kind) → same_kind a b ≡ true → a ≡ b
same_is kind.Stamp kind.Stamp e = refl
same_is kind.Flag kind.Flag e = refl
same_is kind.Text kind.Text e = refl
same_is kind.Paths kind.Paths e = refl
same_is kind.Swept kind.Swept e = refl
same_is _ _ e = absurd cc

took_one : (k : Kind) (ks : List Kind) → ltb (length ks) 1 ≡ false → wrong_kind (Some k ∷ []) ks ≡ false → ks ≡ k ∷ drop 1 ks
took_one k [] few clash = absurd cc
took_one k (l ∷ ks) few clash = ap (λ (x : Kind). x ∷ ks) (sym (same_is k l (not_false (same_kind k l) (or_false (not (same_kind k l)) false clash).0)))

took_two : (j k : Kind) (ks : List Kind) → ltb (length ks) 2 ≡ false → wrong_kind (Some j ∷ Some k ∷ []) ks ≡ false → ks ≡ j ∷ k ∷ drop 2 ks
took_two j k [] few clash = absurd cc
took_two j k (l ∷ []) few clash = absurd cc
took_two j k (l ∷ m ∷ ks) few clash =
    let a = or_false (not (same_kind j l)) (not (same_kind k m) || false) clash in
    let b = or_false (not (same_kind k m)) false a.1 in
    let e : l ≡ j = sym (same_is j l (not_false (same_kind j l) a.0)) in
    let f : m ≡ k = sym (same_is k m (not_false (same_kind k m) b.0)) in
    rw (e, f) refl

took_three : (j k n : Kind) (ks : List Kind) → ltb (length ks) 3 ≡ false → wrong_kind (Some j ∷ Some k ∷ Some n ∷ []) ks ≡ false → ks ≡ j ∷ k ∷ n ∷ drop 3 ks
took_three j k n [] few clash = absurd cc
took_three j k n (a ∷ []) few clash = absurd cc
took_three j k n (a ∷ b ∷ []) few clash = absurd cc
took_three j k n (a ∷ b ∷ c ∷ ks) few clash =
    let x = or_false (not (same_kind j a)) (not (same_kind k b) || (not (same_kind n c) || false)) clash in
    let y = or_false (not (same_kind k b)) (not (same_kind n c) || false) x.1 in
    let z = or_false (not (same_kind n c)) false y.1 in
    let ea : a ≡ j = sym (same_is j a (not_false (same_kind j a) x.0)) in
    let eb : b ≡ k = sym (same_is k b (not_false (same_kind k b) y.0)) in
    let ec : c ≡ n = sym (same_is n c (not_false (same_kind n c) z.0)) in
    rw (ea, eb, ec) refl

any_one : (ks : List Kind) → ltb (length ks) 1 ≡ false → (k : Kind) × (ks ≡ k ∷ drop 1 ks)
any_one [] few = absurd cc
any_one (k ∷ ks) few = (k, refl)

any_two : (ks : List Kind) → ltb (length ks) 2 ≡ false → (y : Kind) × (x : Kind) × (rest : List Kind) × (ks ≡ y ∷ x ∷ rest)
any_two [] few = absurd cc
any_two (k ∷ []) few = absurd cc
any_two (y ∷ x ∷ ks) few = (y, x, ks, refl)

-- ---- tables

inside_some : {A : Type 0} (xs : List A) (k : ℕ) → leb (length xs) k ≡ false → IsSome (slice_get xs k)
inside_some xs k h = let g = get_inside xs k (leb-false (length xs) k h) in rw g.1 refl

record Right (p : Parts) (e : ℕ) : Type 0 where
  pool : pool_outside p e ≡ false
  first : IsSome (first_output p e)
  outputs : IsSome (paths_of p (outputs_of p e))

both_some : (a : Option (List ℕ)) (b : Option (List (List ℕ))) → IsSome a → IsSome b → IsSome (with_path a b)
both_some (Some path) (Some paths) h k = refl
both_some None b h k = absurd cc
both_some (Some path) None h k = absurd cc

all_inside : (p : Parts) (fs : List ℕ) → list_any (λ g. leb (length p.files) g) fs ≡ false → IsSome (paths_of p fs)
all_inside p [] h = refl
all_inside p (f ∷ fs) h =
    let o = or_false (leb (length p.files) f) (list_any (λ g. leb (length p.files) g) fs) h in
    both_some (path_of p f) (paths_of p fs) (inside_some p.files f o.0) (all_inside p fs o.1)

first_inside : (p : Parts) (fs : List ℕ) → lacks_outputs p fs ≡ false → IsSome (first_path p fs)
first_inside p [] h = absurd cc
first_inside p (f ∷ fs) h = inside_some p.files f (or_false (leb (length p.files) f) (list_any (λ g. leb (length p.files) g) fs) h).0

outputs_inside : (p : Parts) (fs : List ℕ) → lacks_outputs p fs ≡ false → IsSome (paths_of p fs)
outputs_inside p [] h = refl
outputs_inside p (f ∷ fs) h = all_inside p (f ∷ fs) h

right_by : (p : Parts) (e : ℕ) (o : Option Edge) → slice_get p.edges e ≡ o → 0 < length (edge_code p.bodies o) → table_refusal_of p e o ≡ None → Right p e
right_by p e None is some h = absurd (omega (arith, some))
right_by p e (Some x) is some h =
    let a = all_pass (table_checks p e x) h in
    record {
      pool = ap (λ (o : Option Edge). is_outside p (pool_in o)) is ∙ a.1.0;
      first = subst (λ (o : Option Edge). IsSome (first_path p (outputs_in o))) (sym is) (first_inside p x.outputs a.1.1.1.0);
      outputs = subst (λ (o : Option Edge). IsSome (paths_of p (outputs_in o))) (sym is) (outputs_inside p x.outputs a.1.1.1.0);
    }

right : (p : Parts) (e : ℕ) (shapes : List Shape) → AreAllShapes p e shapes → Right p e
unfolding table_refusal
right p e shapes all = right_by p e (slice_get p.edges e) refl all.some all.tables

loadable : (a b c : Bool) → not (a || b) ≡ false → (a && not c) ≡ false → (c ≡ true) ⊎ ((a ≡ false) × (b ≡ true))
loadable true b true h k = inl refl
loadable true b false h k = absurd cc
loadable false true c h k = inr (refl, refl)
loadable false false c h k = absurd cc

-- ---- each instruction

module _ (p : Parts) (e : ℕ) (shapes : List Shape) (all : AreAllShapes p e shapes) (n : ℕ) (s : Shape) (shape : slice_get shapes n ≡ Some s) where
  to : (i : Instr) (m : ℕ) → slice_get (code p e) n ≡ Some i → Passed p e n i s → Contains (targets n i) m → m < length (code p e) → Leads p e shapes m (left p i s)
  unfolding left
  to i m here ok there inside = record { inside = inside; exact = exact p e shapes n i s m all here shape there inside; shallow = ltb-false 64 (length (kinds_after p i s.kinds)) ok.deep }

  -- the next place has the shape that the instruction leaves
  on : (i : Instr) → slice_get (code p e) n ≡ Some i → Passed p e n i s → targets n i ≡ (n + 1) ∷ [] → Leads p e shapes (n + 1) (left p i s)
  on i here ok is =
      let there : Contains (targets n i) (n + 1) = rw is (0, omega arith, refl) in
      let o = subst (λ ts. AllByRecursion (IsOnwards n (length (code p e))) ts) is ok.onwards in
      to i (n + 1) here ok there o.0.1

  one : (i : Instr) (k : Kind) → Passed p e n i s → takes p i ≡ Some k ∷ [] → s.kinds ≡ k ∷ drop 1 s.kinds
  one i k ok is = took_one k s.kinds (subst (λ ts. ltb (length s.kinds) (length ts) ≡ false) is ok.few) (subst (λ ts. wrong_kind ts s.kinds ≡ false) is ok.kinds)

  two : (i : Instr) (j k : Kind) → Passed p e n i s → takes p i ≡ Some j ∷ Some k ∷ [] → s.kinds ≡ j ∷ k ∷ drop 2 s.kinds
  two i j k ok is = took_two j k s.kinds (subst (λ ts. ltb (length s.kinds) (length ts) ≡ false) is ok.few) (subst (λ ts. wrong_kind ts s.kinds ≡ false) is ok.kinds)

  three : (i : Instr) (j k m : Kind) → Passed p e n i s → takes p i ≡ Some j ∷ Some k ∷ Some m ∷ [] → s.kinds ≡ j ∷ k ∷ m ∷ drop 3 s.kinds
  three i j k m ok is = took_three j k m s.kinds (subst (λ ts. ltb (length s.kinds) (length ts) ≡ false) is ok.few) (subst (λ ts. wrong_kind ts s.kinds ≡ false) is ok.kinds)

  -- an instruction that only pushes
  puts : (i : Instr) (given : List Kind) → slice_get (code p e) n ≡ Some i → Passed p e n i s → targets n i ≡ (n + 1) ∷ [] → left p i s ≡ with_kinds s (given ++ s.kinds) → Turns p e shapes n s [] given
  puts i given here ok is same = (s.kinds, refl, subst (λ (x : Shape). Leads p e shapes (n + 1) x) same (on i here ok is))

  fit : Right p e → (i : Instr) → slice_get (code p e) n ≡ Some i → Passed p e n i s → Fits p e shapes n s i
  unfolding left
  fit t op.End here ok =
      let none : length s.kinds ≤ 0 = ltb-false 0 (length s.kinds) ok.left in
      (nil_from_length s.kinds (omega (arith, none)), ok.keeps, not_false (list_all (λ k. is_member k s.set) (own_slots p e)) ok.unset)
  fit t (op.Stat f) here ok = (inside_some p.files f ok.file, puts (op.Stat f) (kind.Stamp ∷ []) here ok refl refl)
  fit t (op.Need f) here ok = (inside_some p.files f ok.file, puts (op.Need f) (kind.Stamp ∷ []) here ok refl refl)
  fit t (op.Load k) here ok =
      (loadable (owns p e k) (is_lent p e k) (is_member k s.set) ok.slot ok.unset, puts (op.Load k) (slot_kind p k ∷ []) here ok refl refl)
  fit t (op.Store k) here ok =
      (not_false (owns p e k) ok.slot, drop 1 s.kinds, one (op.Store k) (slot_kind p k) ok refl, on (op.Store k) here ok refl)
  fit t op.Older here ok = (drop 2 s.kinds, two op.Older kind.Stamp kind.Stamp ok refl, on op.Older here ok refl)
  fit t op.Newer here ok = (drop 2 s.kinds, two op.Newer kind.Stamp kind.Stamp ok refl, on op.Newer here ok refl)
  fit t op.Before here ok = (drop 2 s.kinds, two op.Before kind.Stamp kind.Stamp ok refl, on op.Before here ok refl)
  fit t op.Same here ok = (drop 2 s.kinds, two op.Same kind.Stamp kind.Stamp ok refl, on op.Same here ok refl)
  fit t op.IsMissing here ok = (drop 1 s.kinds, one op.IsMissing kind.Stamp ok refl, on op.IsMissing here ok refl)
  fit t op.Or here ok = (drop 2 s.kinds, two op.Or kind.Flag kind.Flag ok refl, on op.Or here ok refl)
  fit t op.Not here ok = (drop 1 s.kinds, one op.Not kind.Flag ok refl, on op.Not here ok refl)
  fit t (op.Flag b) here ok = puts (op.Flag b) (kind.Flag ∷ []) here ok refl refl
  fit t op.Zero here ok = puts op.Zero (kind.Stamp ∷ []) here ok refl refl
  fit t op.NoPaths here ok = puts op.NoPaths (kind.Swept ∷ []) here ok refl refl
  fit t (op.Text n) here ok = (inside_some p.texts n ok.text, puts (op.Text n) (kind.Text ∷ []) here ok refl refl)
  fit t op.Join here ok = (drop 2 s.kinds, two op.Join kind.Text kind.Text ok refl, on op.Join here ok refl)
  fit t op.Equal here ok = (drop 2 s.kinds, two op.Equal kind.Text kind.Text ok refl, on op.Equal here ok refl)
  fit t op.Recall here ok = (t.first, puts op.Recall (kind.Flag ∷ kind.Text ∷ kind.Stamp ∷ kind.Paths ∷ []) here ok refl refl)
  fit t op.Sweep here ok = (drop 3 s.kinds, three op.Sweep kind.Paths kind.Flag kind.Stamp ok refl, on op.Sweep here ok refl)
  fit t (op.Jump d) here ok = let o = ok.onwards.0 in (o.0, to (op.Jump d) d here ok (0, omega arith, refl) o.1)
  fit t (op.JumpIf d) here ok =
      let o = ok.onwards.0 in
      let u = ok.onwards.1.0 in
      (u.0, drop 1 s.kinds, one (op.JumpIf d) kind.Flag ok refl, to (op.JumpIf d) (n + 1) here ok (0, omega arith, refl) o.1, to (op.JumpIf d) d here ok (1, omega arith, refl) u.1)
  fit t op.Take here ok = (ok.keeps, t.pool, on op.Take here ok refl)
  fit t op.Release here ok = (not_false s.holding ok.lacks, on op.Release here ok refl)
  fit t op.Run here ok = (not_false s.holding ok.lacks, t.outputs, (drop 1 s.kinds, one op.Run kind.Text ok refl, on op.Run here ok refl))
  fit t op.Deps here ok = (drop 1 s.kinds, one op.Deps kind.Text ok refl, on op.Deps here ok refl)
  fit t op.Keep here ok = (t.first, (drop 3 s.kinds, three op.Keep kind.Swept kind.Stamp kind.Text ok refl, on op.Keep here ok refl))
  fit t op.Drop here ok = let k = any_one s.kinds ok.few in (k.0, (drop 1 s.kinds, k.1, on op.Drop here ok refl))
  fit t op.Swap here ok =
      let k = any_two s.kinds ok.few in
      (k.0, k.1, (k.2, k.3, subst (λ (ks : List Kind). Leads p e shapes (n + 1) (with_kinds s (kinds_after p op.Swap ks))) k.3 (on op.Swap here ok refl)))

pub instructions_fit : InstructionsFit
instructions_fit p e shapes all place i s here shape =
    fit p e shapes all place s shape (right p e shapes all) i here (passed_from p e place i s (all.are.each place i s here shape).1)
