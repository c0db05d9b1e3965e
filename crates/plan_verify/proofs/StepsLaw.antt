-- A step of a typed edge is safe, and so is the effect of a reply.
use Rattle.std.proofs.Common.{◌≡◌, ℕ, zero, suc, ◌+◌, ◌<◌, ◌≤◌, Bool, true, false, cond, eqb, ltb, List, [], ◌∷◌, ◌++◌, length, drop, map, Option, Some, None, refl, sym, ap, subst, ◌∙◌, arith, inl, inr}
use Rattle.std.specs.Prelude.{◌||◌, ◌⊎◌, not, IsSome, IfSome, nat_lt, nat_le, if◌then◌else◌, slice_get, slice_set, ◌==◌, Result, Ok, Err}
use Rattle.std.specs.List.{list_all}
use Rattle.std.proofs.lemmas.Bool.{cases_eq, eqb-true, le-ltb, lt-leb}
use Rattle.std.proofs.lemmas.Option.{slice_get_within}
use Rattle.plan_image.specs.declared.body.Kind.{Kind}
use Rattle.plan_image.specs.declared.body.Kind.TheVariants as kind
use Rattle.plan_image.specs.declared.body.Instr.{Instr}
use Rattle.plan_image.specs.declared.body.Instr.TheVariants as op
use Rattle.plan_image.specs.declared.image.Slot.{Slot}
use Rattle.plan_image.specs.declared.image.Parts.{Parts}
use Rattle.plan_image.specs.Code.{code}
use Rattle.plan_verify.specs.declared.value.Value.{Value}
use Rattle.plan_verify.specs.declared.value.Value.TheVariants.{Stamp, Flag, Text, Paths, Swept}
use Rattle.plan_verify.specs.declared.kinds.Shape.{Shape}
use Rattle.plan_verify.specs.Members.{is_member, with_member}
use Rattle.plan_verify.specs.Tables.{owned_by, own_slots, slot_kind, path_of, paths_of, outputs_of, first_output, pool_outside}
use Rattle.plan_verify.specs.Turn.{kind_of, Slots, is_filled, is_set, Request, Stat, Recall, Run, Deps, Keep, Reply, StampIs, Entry, Nothing, Exit, Signal, NotStarted, Bytes, Kept, Fault, Meaning, Local, PlaceNotHeld, Turn, Asks, Wrong, Calculated, calculate, calculated, earlier, later, same_text, goes, next, jumps, asks_of, ends, loads, stores, writes, sweeps, sweep, branches, runs, reads, keeps, act, act_at, turn, merged, found, ran, replied, replied_at, heard}
use Rattle.plan_verify.specs.Shape.{}
use Rattle.plan_verify.specs.Fits.{Leads, GoesOn, Fits, with_kinds}
use Rattle.plan_verify.specs.Sound.{AreTyped, AreLentSet, IsTyped, asking, IsSafe, StepsAreSafe, RepliesAreSafe}
use Rattle.plan_verify.proofs.ListLemmas.{get_inside, get_same, get_other, map_length, when_true, when_false, when_either, or_cases, or_right, and_both, is_some_of}
use Rattle.plan_verify.proofs.FitsLaw.{instructions_fit}

-- ---- stacks with the wanted kinds

-- the top value
pub top_any : (stack : List Value) (k : Kind) (ks : List Kind) → map kind_of stack ≡ k ∷ ks → (v : Value) × (below : List Value) × (stack ≡ v ∷ below) × (kind_of v ≡ k) × (map kind_of below ≡ ks)
top_any [] k ks e = absurd cc
top_any (v ∷ below) k ks e = (v, below, refl, (cc), (cc))

pub top_stamp : (stack : List Value) (ks : List Kind) → map kind_of stack ≡ kind.Stamp ∷ ks → (n : ℕ) × (below : List Value) × (stack ≡ Stamp n ∷ below) × (map kind_of below ≡ ks)
top_stamp [] ks e = absurd cc
top_stamp (Stamp n ∷ below) ks e = (n, below, refl, (cc))
top_stamp (Flag b ∷ below) ks e = absurd cc
top_stamp (Text t ∷ below) ks e = absurd cc
top_stamp (Paths n a ∷ below) ks e = absurd cc
top_stamp (Swept a ∷ below) ks e = absurd cc

pub top_flag : (stack : List Value) (ks : List Kind) → map kind_of stack ≡ kind.Flag ∷ ks → (b : Bool) × (below : List Value) × (stack ≡ Flag b ∷ below) × (map kind_of below ≡ ks)
top_flag [] ks e = absurd cc
top_flag (Stamp n ∷ below) ks e = absurd cc
top_flag (Flag b ∷ below) ks e = (b, below, refl, (cc))
top_flag (Text t ∷ below) ks e = absurd cc
top_flag (Paths n a ∷ below) ks e = absurd cc
top_flag (Swept a ∷ below) ks e = absurd cc

pub top_text : (stack : List Value) (ks : List Kind) → map kind_of stack ≡ kind.Text ∷ ks → (t : List ℕ) × (below : List Value) × (stack ≡ Text t ∷ below) × (map kind_of below ≡ ks)
top_text [] ks e = absurd cc
top_text (Stamp n ∷ below) ks e = absurd cc
top_text (Flag b ∷ below) ks e = absurd cc
top_text (Text t ∷ below) ks e = (t, below, refl, (cc))
top_text (Paths n a ∷ below) ks e = absurd cc
top_text (Swept a ∷ below) ks e = absurd cc

pub top_paths : (stack : List Value) (ks : List Kind) → map kind_of stack ≡ kind.Paths ∷ ks → (all : List (List ℕ)) × (n : ℕ) × (below : List Value) × (stack ≡ Paths n all ∷ below) × (map kind_of below ≡ ks)
top_paths [] ks e = absurd cc
top_paths (Stamp n ∷ below) ks e = absurd cc
top_paths (Flag b ∷ below) ks e = absurd cc
top_paths (Text t ∷ below) ks e = absurd cc
top_paths (Paths n a ∷ below) ks e = (a, n, below, refl, (cc))
top_paths (Swept a ∷ below) ks e = absurd cc

pub top_swept : (stack : List Value) (ks : List Kind) → map kind_of stack ≡ kind.Swept ∷ ks → (all : List (List ℕ)) × (below : List Value) × (stack ≡ Swept all ∷ below) × (map kind_of below ≡ ks)
top_swept [] ks e = absurd cc
top_swept (Stamp n ∷ below) ks e = absurd cc
top_swept (Flag b ∷ below) ks e = absurd cc
top_swept (Text t ∷ below) ks e = absurd cc
top_swept (Paths n a ∷ below) ks e = absurd cc
top_swept (Swept a ∷ below) ks e = (a, below, refl, (cc))

pub two_stamps : (stack : List Value) (ks : List Kind) → map kind_of stack ≡ kind.Stamp ∷ kind.Stamp ∷ ks → (b : ℕ) × (a : ℕ) × (below : List Value) × (stack ≡ Stamp b ∷ Stamp a ∷ below) × (map kind_of below ≡ ks)
two_stamps stack ks e =
    let y = top_stamp stack (kind.Stamp ∷ ks) e in
    let x = top_stamp y.1 ks y.3 in
    (y.0, x.0, x.1, y.2 ∙ ap (λ (rest : List Value). Stamp y.0 ∷ rest) x.2, x.3)

pub two_flags : (stack : List Value) (ks : List Kind) → map kind_of stack ≡ kind.Flag ∷ kind.Flag ∷ ks → (b : Bool) × (a : Bool) × (below : List Value) × (stack ≡ Flag b ∷ Flag a ∷ below) × (map kind_of below ≡ ks)
two_flags stack ks e =
    let y = top_flag stack (kind.Flag ∷ ks) e in
    let x = top_flag y.1 ks y.3 in
    (y.0, x.0, x.1, y.2 ∙ ap (λ (rest : List Value). Flag y.0 ∷ rest) x.2, x.3)

pub two_texts : (stack : List Value) (ks : List Kind) → map kind_of stack ≡ kind.Text ∷ kind.Text ∷ ks → (b : List ℕ) × (a : List ℕ) × (below : List Value) × (stack ≡ Text b ∷ Text a ∷ below) × (map kind_of below ≡ ks)
two_texts stack ks e =
    let y = top_text stack (kind.Text ∷ ks) e in
    let x = top_text y.1 ks y.3 in
    (y.0, x.0, x.1, y.2 ∙ ap (λ (rest : List Value). Text y.0 ∷ rest) x.2, x.3)

pub swept_three : (stack : List Value) (ks : List Kind) → map kind_of stack ≡ kind.Paths ∷ kind.Flag ∷ kind.Stamp ∷ ks
    → (all : List (List ℕ)) × (n : ℕ) × (b : Bool) × (m : ℕ) × (below : List Value) × (stack ≡ Paths n all ∷ Flag b ∷ Stamp m ∷ below) × (map kind_of below ≡ ks)
swept_three stack ks e =
    let z = top_paths stack (kind.Flag ∷ kind.Stamp ∷ ks) e in
    let y = top_flag z.2 (kind.Stamp ∷ ks) z.4 in
    let x = top_stamp y.1 ks y.3 in
    (z.0, z.1, y.0, x.0, x.1, z.3 ∙ ap (λ (rest : List Value). Paths z.1 z.0 ∷ rest) (y.2 ∙ ap (λ (rest : List Value). Flag y.0 ∷ rest) x.2), x.3)

pub kept_three : (stack : List Value) (ks : List Kind) → map kind_of stack ≡ kind.Swept ∷ kind.Stamp ∷ kind.Text ∷ ks
    → (all : List (List ℕ)) × (n : ℕ) × (t : List ℕ) × (below : List Value) × (stack ≡ Swept all ∷ Stamp n ∷ Text t ∷ below) × (map kind_of below ≡ ks)
kept_three stack ks e =
    let z = top_swept stack (kind.Stamp ∷ kind.Text ∷ ks) e in
    let y = top_stamp z.1 (kind.Text ∷ ks) z.3 in
    let x = top_text y.1 ks y.3 in
    (z.0, y.0, x.0, x.1, z.2 ∙ ap (λ (rest : List Value). Swept z.0 ∷ rest) (y.2 ∙ ap (λ (rest : List Value). Stamp y.0 ∷ rest) x.2), x.3)

-- ---- slots

pub owned_is : (e : ℕ) (o : Option Slot) → owned_by e o ≡ true → (slot : Slot) × (o ≡ Some slot) × (eqb slot.owner e ≡ true)
owned_is e (Some slot) h = (slot, refl, h)
owned_is e None h = absurd cc

filled_is : (o : Option (Option Value)) → is_filled o ≡ true → (v : Value) × (o ≡ Some (Some v))
filled_is (Some (Some v)) h = (v, refl)
filled_is (Some None) h = absurd cc
filled_is None h = absurd cc

pub set_is : (slots : Slots) (s : ℕ) → is_set slots s ≡ true → (v : Value) × (slice_get slots s ≡ Some (Some v))
set_is slots s h = filled_is (slice_get slots s) h

-- a slot that was set, or is set now, is set
pub set_stays : (slots : Slots) (n k : ℕ) (v : Value) → n < length slots → (n ≡ k) ⊎ (is_set slots k ≡ true) → is_set (slice_set slots n (Some v)) k ≡ true
set_stays slots n k v short (inl same) = ap is_filled (ap (slice_get (slice_set slots n (Some v))) (sym same) ∙ get_same slots n (Some v) short)
set_stays slots n k v short (inr old) =
    elim (cases_eq n k) [
      | inl same ↦ ap is_filled (ap (slice_get (slice_set slots n (Some v))) (sym same) ∙ get_same slots n (Some v) short)
      | inr ne ↦ ap is_filled (get_other slots n k (Some v) ne) ∙ old
    ]

member-step : (k n m : ℕ) (ms : List ℕ) (b c : Bool) → (is_member k (with_member n ms) ≡ true → (n ≡ k) ⊎ (is_member k ms ≡ true))
    → is_member k (cond b (n ∷ m ∷ ms) (cond c (m ∷ ms) (m ∷ with_member n ms))) ≡ true → (n ≡ k) ⊎ (is_member k (m ∷ ms) ≡ true)
member-step k n m ms true c ih h = elim (or_cases (eqb n k) (is_member k (m ∷ ms)) h) [ inl e ↦ inl (eqb-true n k e) | inr old ↦ inr old ]
member-step k n m ms false true ih h = inr h
member-step k n m ms false false ih h =
    elim (or_cases (eqb m k) (is_member k (with_member n ms)) h) [
      | inl e ↦ inr (rw e refl)
      | inr r ↦ elim (ih r) [ inl same ↦ inl same | inr old ↦ inr (or_right (eqb m k) (is_member k ms) old) ]
    ]

pub member-with : (k n : ℕ) (ms : List ℕ) → is_member k (with_member n ms) ≡ true → (n ≡ k) ⊎ (is_member k ms ≡ true)
member-with k n [] h = elim (or_cases (eqb n k) false h) [ inl e ↦ inl (eqb-true n k e) | inr bad ↦ absurd cc ]
member-with k n (m ∷ ms) h = member-step k n m ms (ltb n m) (eqb n m) (member-with k n ms) h

all_set : (slots : Slots) (set ns : List ℕ) → ((s : ℕ) → is_member s set ≡ true → is_set slots s ≡ true) → list_all (λ k. is_member k set) ns ≡ true → list_all (is_set slots) ns ≡ true
all_set slots set [] has h = refl
all_set slots set (n ∷ ns) has h =
    let b = and_both (is_member n set) (list_all (λ k. is_member k set) ns) h in
    rw (has n b.0, all_set slots set ns has b.1) refl

-- ---- a step

module _ (p : Parts) (e : ℕ) (shapes : List Shape) (slots : Slots) (l : Local) (typed : IsTyped p e shapes slots l) where
  Safe : Turn → Type 0
  Safe t = IsSafe p e shapes slots l t

  -- the edge is typed at a place that has this shape
  at_place : (new : Slots) (m : Local) (shape : Shape) → Leads p e shapes m.place shape → map kind_of m.stack ≡ shape.kinds → m.holding ≡ shape.holding
      → ((s : ℕ) → is_member s shape.set ≡ true → is_set new s ≡ true) → m.asked ≡ false → IsTyped p e shapes new m
  at_place new m shape leads kinds held set quiet =
      record {
        shape = shape;
        here = leads.exact;
        inside = (let i = get_inside (code p e) m.place leads.inside in rw i.1 refl);
        kinds = kinds;
        holding = held;
        set = set;
        awaits = λ loud. absurd (let clash : true ≡ false = sym loud ∙ quiet in cc);
      }

  goes_safe : (m : Local) (to : ℕ) (stack : List Value) (kinds : List Kind) → m.holding ≡ l.holding → Leads p e shapes to (with_kinds typed.shape kinds) → map kind_of stack ≡ kinds → Safe (goes m to stack)
  unfolding Safe
  goes_safe m to stack kinds held leads same =
      let few : length stack ≤ 64 = omega (arith, leads.shallow, map_length kind_of stack, ap length same) in
      when_false Safe (nat_lt 64 (length stack)) _ _ (le-ltb 64 (length stack) few)
      (at_place slots (record { place = to; stack = stack; holding = m.holding; ran = m.ran; asked = false }) (with_kinds typed.shape kinds) leads same (held ∙ typed.holding) typed.set refl)

  next_safe : (stack : List Value) (kinds : List Kind) → GoesOn p e shapes l.place typed.shape kinds → map kind_of stack ≡ kinds → Safe (next l stack)
  next_safe stack kinds leads same = goes_safe l (l.place + 1) stack kinds refl leads same

  push_safe : (v : Value) (k : Kind) (kinds : List Kind) → kind_of v ≡ k → (rest : List Value) → map kind_of rest ≡ kinds → GoesOn p e shapes l.place typed.shape (k ∷ kinds) → Safe (next l (v ∷ rest))
  push_safe v k kinds is rest same leads = next_safe (v ∷ rest) (k ∷ kinds) leads (ap (λ (x : Kind). x ∷ map kind_of rest) is ∙ ap (λ (ks : List Kind). k ∷ ks) same)

  jumps_safe : (to : ℕ) (stack : List Value) (kinds : List Kind) → l.place < to → Leads p e shapes to (with_kinds typed.shape kinds) → map kind_of stack ≡ kinds → Safe (jumps l (length (code p e)) to stack)
  jumps_safe to stack kinds up leads same =
      when_false Safe (nat_le to l.place) _ _ (lt-leb to l.place up)
      (when_false Safe (nat_le (length (code p e)) to) _ _ (lt-leb (length (code p e)) to leads.inside) (goes_safe l to stack kinds refl leads same))

  asks_safe : (q : Request) (i : Instr) → slice_get (code p e) l.place ≡ Some i → act p e slots (asking l) i ≡ Asks q → Safe (Asks q)
  unfolding Safe turn
  asks_safe q i here is =
      record {
        shape = typed.shape;
        here = typed.here;
        inside = typed.inside;
        kinds = typed.kinds;
        holding = typed.holding;
        set = typed.set;
        awaits = λ loud. rw (here, is) refl;
      }

  -- the file whose stamp is requested
  stat_safe : (i : Instr) (f : ℕ) → slice_get (code p e) l.place ≡ Some i → act p e slots (asking l) i ≡ asks_of (path_of p f) Stat → IsSome (path_of p f) → Safe (asks_of (path_of p f) Stat)
  stat_safe i f here is some =
      let x = is_some_of (path_of p f) some in
      subst (λ (o : Option (List ℕ)). Safe (asks_of o Stat)) (sym x.1) (asks_safe (Stat x.0) i here (is ∙ ap (λ (o : Option (List ℕ)). asks_of o Stat) x.1))

  store_safe : AreTyped p slots → (k : ℕ) → Fits p e shapes l.place typed.shape (op.Store k) → Safe (stores l e k (slice_get p.slots k) l.stack)
  unfolding Safe
  store_safe good k f =
      let o = owned_is e (slice_get p.slots k) f.0 in
      let t = top_any l.stack (slot_kind p k) f.1 (typed.kinds ∙ f.2) in
      let short : k < length slots = omega (arith, slice_get_within p.slots k o.0 o.1, good.table) in
      subst (λ (x : Option Slot). Safe (stores l e k x l.stack)) (sym o.1)
      (subst (λ (x : List Value). Safe (stores l e k (Some o.0) x)) (sym t.2)
      (when_true Safe (o.0.owner == e) _ _ o.2 (
        f.0,
        t.3,
        at_place (slice_set slots k (Some t.0)) (record { place = l.place + 1; stack = t.1; holding = l.holding; ran = l.ran; asked = false }) _ f.3 t.4 typed.holding
            (λ s h. set_stays slots k s t.0 short (elim (member-with s k typed.shape.set h) [ inl same ↦ inl same | inr old ↦ inr (typed.set s old) ])) refl,
      )))

  sweep_by : (all : List (List ℕ)) (n : ℕ) (b : Bool) (m : ℕ) (below : List Value) (rest : List Kind) → slice_get (code p e) l.place ≡ Some op.Sweep → l.stack ≡ Paths n all ∷ Flag b ∷ Stamp m ∷ below → map kind_of below ≡ rest
      → GoesOn p e shapes l.place typed.shape (kind.Swept ∷ kind.Flag ∷ kind.Stamp ∷ rest) → (o : Option (List ℕ)) → slice_get all n ≡ o → Safe (sweeps l all (Flag b ∷ Stamp m ∷ below) o)
  sweep_by all n b m below rest here is same leads None at =
      next_safe (Swept all ∷ Flag b ∷ Stamp m ∷ below) (kind.Swept ∷ kind.Flag ∷ kind.Stamp ∷ rest) leads (ap (λ (ks : List Kind). kind.Swept ∷ kind.Flag ∷ kind.Stamp ∷ ks) same)
  sweep_by all n b m below rest here is same leads (Some path) at =
      asks_safe (Stat path) op.Sweep here (ap (λ (x : List Value). sweep (asking l) x) is ∙ ap (λ (o : Option (List ℕ)). sweeps (asking l) all (Flag b ∷ Stamp m ∷ below) o) at)

  end_safe : Fits p e shapes l.place typed.shape op.End → Safe (ends p e slots l)
  unfolding Safe
  end_safe f =
      let held : l.holding ≡ false = typed.holding ∙ f.1 in
      let own : list_all (is_set slots) (own_slots p e) ≡ true = all_set slots typed.shape.set (own_slots p e) typed.set f.2 in
      let empty : l.stack ≡ [] = map_nil l.stack (typed.kinds ∙ f.0) in
      when_false Safe l.holding _ _ held
      (when_false Safe (not (list_all (is_set slots) (own_slots p e))) _ _ (ap not own)
      (when_false Safe (nat_lt 0 (length l.stack)) _ _ (ap (λ (x : List Value). nat_lt 0 (length x)) empty) (empty, held, own)))
    where
      map_nil : (stack : List Value) → map kind_of stack ≡ [] → stack ≡ []
      map_nil [] h = refl
      map_nil (v ∷ vs) h = absurd cc

  safe : AreTyped p slots → AreLentSet p e slots → (i : Instr) → slice_get (code p e) l.place ≡ Some i → Fits p e shapes l.place typed.shape i → Safe (act p e slots l i)
  unfolding Safe
  safe good lent op.End here f = end_safe f
  safe good lent (op.Stat n) here f = stat_safe (op.Stat n) n here refl f.0
  safe good lent (op.Need n) here f = stat_safe (op.Need n) n here refl f.0
  safe good lent (op.Load k) here f =
      let v = set_is slots k (elim f.0 [ inl own ↦ typed.set k own | inr w ↦ lent k w.1 ]) in
      subst (λ (x : Option (Option Value)). Safe (loads l x)) (sym v.1) (push_safe v.0 (slot_kind p k) f.1.0 (good.kinds k v.0 v.1) l.stack (typed.kinds ∙ f.1.1) f.1.2)
  safe good lent (op.Store k) here f = store_safe good k f
  safe good lent op.Older here f =
      let t = two_stamps l.stack f.0 (typed.kinds ∙ f.1) in
      subst (λ (x : List Value). Safe (calculated l (calculate op.Older x))) (sym t.3) (push_safe (Stamp (earlier t.1 t.0)) kind.Stamp f.0 refl t.2 t.4 f.2)
  safe good lent op.Newer here f =
      let t = two_stamps l.stack f.0 (typed.kinds ∙ f.1) in
      subst (λ (x : List Value). Safe (calculated l (calculate op.Newer x))) (sym t.3) (push_safe (Stamp (later t.1 t.0)) kind.Stamp f.0 refl t.2 t.4 f.2)
  safe good lent op.Before here f =
      let t = two_stamps l.stack f.0 (typed.kinds ∙ f.1) in
      subst (λ (x : List Value). Safe (calculated l (calculate op.Before x))) (sym t.3) (push_safe (Flag (nat_lt t.1 t.0)) kind.Flag f.0 refl t.2 t.4 f.2)
  safe good lent op.Same here f =
      let t = two_stamps l.stack f.0 (typed.kinds ∙ f.1) in
      subst (λ (x : List Value). Safe (calculated l (calculate op.Same x))) (sym t.3) (push_safe (Flag (t.1 == t.0)) kind.Flag f.0 refl t.2 t.4 f.2)
  safe good lent op.IsMissing here f =
      let t = top_stamp l.stack f.0 (typed.kinds ∙ f.1) in
      subst (λ (x : List Value). Safe (calculated l (calculate op.IsMissing x))) (sym t.2) (push_safe (Flag (t.0 == 0)) kind.Flag f.0 refl t.1 t.3 f.2)
  safe good lent op.Or here f =
      let t = two_flags l.stack f.0 (typed.kinds ∙ f.1) in
      subst (λ (x : List Value). Safe (calculated l (calculate op.Or x))) (sym t.3) (push_safe (Flag (t.1 || t.0)) kind.Flag f.0 refl t.2 t.4 f.2)
  safe good lent op.Not here f =
      let t = top_flag l.stack f.0 (typed.kinds ∙ f.1) in
      subst (λ (x : List Value). Safe (calculated l (calculate op.Not x))) (sym t.2) (push_safe (Flag (not t.0)) kind.Flag f.0 refl t.1 t.3 f.2)
  safe good lent (op.Flag b) here f = push_safe (Flag b) kind.Flag f.0 refl l.stack (typed.kinds ∙ f.1) f.2
  safe good lent op.Zero here f = push_safe (Stamp 0) kind.Stamp f.0 refl l.stack (typed.kinds ∙ f.1) f.2
  safe good lent op.NoPaths here f = push_safe (Swept []) kind.Swept f.0 refl l.stack (typed.kinds ∙ f.1) f.2
  safe good lent (op.Text t) here f =
      let x = is_some_of (slice_get p.texts t) f.0 in
      subst (λ (o : Option (List ℕ)). Safe (writes l o)) (sym x.1) (push_safe (Text x.0) kind.Text f.1.0 refl l.stack (typed.kinds ∙ f.1.1) f.1.2)
  safe good lent op.Join here f =
      let t = two_texts l.stack f.0 (typed.kinds ∙ f.1) in
      subst (λ (x : List Value). Safe (calculated l (calculate op.Join x))) (sym t.3)
      (when_either (λ (c : Calculated). Safe (calculated l c)) (nat_lt 1048576 (length t.1 + length t.0)) _ _ (λ long. tt)
      (λ short. push_safe (Text (t.1 ++ t.0)) kind.Text f.0 refl t.2 t.4 f.2))
  safe good lent op.Equal here f =
      let t = two_texts l.stack f.0 (typed.kinds ∙ f.1) in
      subst (λ (x : List Value). Safe (calculated l (calculate op.Equal x))) (sym t.3) (push_safe (Flag (same_text t.1 t.0)) kind.Flag f.0 refl t.2 t.4 f.2)
  safe good lent op.Recall here f =
      let x = is_some_of (first_output p e) f.0 in
      subst (λ (o : Option (List ℕ)). Safe (asks_of o Recall)) (sym x.1) (asks_safe (Recall x.0) op.Recall here (ap (λ (o : Option (List ℕ)). asks_of o Recall) x.1))
  safe good lent op.Sweep here f =
      let t = swept_three l.stack f.0 (typed.kinds ∙ f.1) in
      subst (λ (x : List Value). Safe (sweep l x)) (sym t.5) (sweep_by t.0 t.1 t.2 t.3 t.4 f.0 here t.5 t.6 f.2 (slice_get t.0 t.1) refl)
  safe good lent (op.Jump d) here f = jumps_safe d l.stack typed.shape.kinds f.0 f.1 typed.kinds
  safe good lent (op.JumpIf d) here f =
      let t = top_flag l.stack f.1 (typed.kinds ∙ f.2) in
      subst (λ (x : List Value). Safe (branches l (length (code p e)) d x)) (sym t.2)
      (when_either Safe t.0 _ _ (λ on. jumps_safe d t.1 f.1 f.0 f.4 t.3) (λ off. next_safe t.1 f.1 f.3 t.3))
  safe good lent op.Take here f =
      when_false Safe l.holding _ _ (typed.holding ∙ f.0) (when_false Safe (pool_outside p e) _ _ f.1
      (at_place slots (record { place = l.place + 1; stack = l.stack; holding = true; ran = l.ran; asked = false }) _ f.2 typed.kinds refl typed.set refl))
  safe good lent op.Release here f =
      when_true Safe l.holding _ _ (typed.holding ∙ f.0)
      (at_place slots (record { place = l.place + 1; stack = l.stack; holding = false; ran = l.ran; asked = false }) _ f.1 typed.kinds refl typed.set refl)
  safe good lent op.Run here f =
      let held : l.holding ≡ true = typed.holding ∙ f.0 in
      let x = is_some_of (paths_of p (outputs_of p e)) f.1 in
      let t = top_text l.stack f.2.0 (typed.kinds ∙ f.2.1) in
      when_true Safe l.holding _ _ held
      (subst (λ (o : Option (List (List ℕ))). Safe (runs o l.stack)) (sym x.1) (subst (λ (z : List Value). Safe (runs (Some x.0) z)) (sym t.2)
      (asks_safe (Run t.0 x.0) op.Run here
      (ap (λ (h : Bool). if h then runs (paths_of p (outputs_of p e)) l.stack else Wrong PlaceNotHeld) held
      ∙ ap (λ (o : Option (List (List ℕ))). runs o l.stack) x.1 ∙ ap (λ (z : List Value). runs (Some x.0) z) t.2))))
  safe good lent op.Deps here f =
      let t = top_text l.stack f.0 (typed.kinds ∙ f.1) in
      subst (λ (z : List Value). Safe (reads z)) (sym t.2) (asks_safe (Deps t.0) op.Deps here (ap (λ (z : List Value). reads z) t.2))
  safe good lent op.Keep here f =
      let x = is_some_of (first_output p e) f.0 in
      let t = kept_three l.stack f.1.0 (typed.kinds ∙ f.1.1) in
      subst (λ (o : Option (List ℕ)). Safe (keeps o l.stack)) (sym x.1) (subst (λ (z : List Value). Safe (keeps (Some x.0) z)) (sym t.4)
      (asks_safe (Keep x.0 t.2 t.1 t.0) op.Keep here (ap (λ (o : Option (List ℕ)). keeps o l.stack) x.1 ∙ ap (λ (z : List Value). keeps (Some x.0) z) t.4)))
  safe good lent op.Drop here f =
      let t = top_any l.stack f.0 f.1.0 (typed.kinds ∙ f.1.1) in
      subst (λ (x : List Value). Safe (calculated l (calculate op.Drop x))) (sym t.2) (next_safe t.1 f.1.0 f.1.2 t.4)
  safe good lent op.Swap here f =
      let y = top_any l.stack f.0 (f.1 ∷ f.2.0) (typed.kinds ∙ f.2.1) in
      let x = top_any y.1 f.1 f.2.0 y.4 in
      subst (λ (z : List Value). Safe (calculated l (calculate op.Swap z))) (sym (y.2 ∙ ap (λ (z : List Value). y.0 ∷ z) x.2))
      (push_safe x.0 f.1 (f.0 ∷ f.2.0) x.3 (y.0 ∷ x.1) (ap (λ (k : Kind). k ∷ map kind_of x.1) y.3 ∙ ap (λ (ks : List Kind). f.0 ∷ ks) x.4) f.2.2)

  -- ---- a reply

  found_safe : (rest : List Kind) → map kind_of l.stack ≡ kind.Text ∷ rest → GoesOn p e shapes l.place typed.shape (kind.Paths ∷ rest) → (res : Result (List (List ℕ)) (ℕ × ℕ)) → Safe (found l res)
  unfolding Safe
  found_safe rest is leads (Err fault) = tt
  found_safe rest is leads (Ok paths) =
      let t = top_text l.stack rest is in
      subst (λ (z : List Value). Safe (next l (Paths 0 paths ∷ drop 1 z))) (sym t.2) (push_safe (Paths 0 paths) kind.Paths rest refl t.1 t.3 leads)

  stays : (k : ℕ) → slice_get (code p e) l.place ≡ Some op.Sweep → Fits p e shapes l.place typed.shape op.Sweep → Safe (goes l l.place (merged k l.stack))
  stays k here f =
      let t = swept_three l.stack f.0 (typed.kinds ∙ f.1) in
      let shallow : length typed.shape.kinds ≤ 64 = omega (arith, ap length f.1, f.2.shallow) in
      subst (λ (z : List Value). Safe (goes l l.place (merged k z))) (sym t.5)
      (goes_safe l l.place (Paths (t.1 + 1) t.0 ∷ Flag (t.2 || (k == 0)) ∷ Stamp (later t.3 k) ∷ t.4) typed.shape.kinds refl
      (record { inside = slice_get_within (code p e) l.place op.Sweep here; exact = typed.here; shallow = shallow })
      (ap (λ (ks : List Kind). kind.Paths ∷ kind.Flag ∷ kind.Stamp ∷ ks) t.6 ∙ sym f.1))

  reply_safe : (meaning : Meaning) (i : Instr) → slice_get (code p e) l.place ≡ Some i → Fits p e shapes l.place typed.shape i → (r : Reply) → IfSome (replied meaning l i r) Safe
  unfolding Safe
  reply_safe meaning (op.Stat n) here f (StampIs k) = push_safe (Stamp k) kind.Stamp f.1.0 refl l.stack (typed.kinds ∙ f.1.1) f.1.2
  reply_safe meaning (op.Stat n) here f Fault = tt
  reply_safe meaning (op.Need n) here f (StampIs zero) = tt
  reply_safe meaning (op.Need n) here f (StampIs (suc k)) = push_safe (Stamp (suc k)) kind.Stamp f.1.0 refl l.stack (typed.kinds ∙ f.1.1) f.1.2
  reply_safe meaning (op.Need n) here f Fault = tt
  reply_safe meaning op.Recall here f (Entry command basis paths) =
      next_safe (Flag true ∷ Text command ∷ Stamp basis ∷ Paths 0 paths ∷ l.stack) (kind.Flag ∷ kind.Text ∷ kind.Stamp ∷ kind.Paths ∷ f.1.0) f.1.2 (ap (λ (ks : List Kind). kind.Flag ∷ kind.Text ∷ kind.Stamp ∷ kind.Paths ∷ ks) (typed.kinds ∙ f.1.1))
  reply_safe meaning op.Recall here f Nothing =
      next_safe (Flag false ∷ Text [] ∷ Stamp 0 ∷ Paths 0 [] ∷ l.stack) (kind.Flag ∷ kind.Text ∷ kind.Stamp ∷ kind.Paths ∷ f.1.0) f.1.2 (ap (λ (ks : List Kind). kind.Flag ∷ kind.Text ∷ kind.Stamp ∷ kind.Paths ∷ ks) (typed.kinds ∙ f.1.1))
  reply_safe meaning op.Recall here f Fault = tt
  reply_safe meaning op.Sweep here f (StampIs k) = stays k here f
  reply_safe meaning op.Sweep here f Fault = tt
  reply_safe meaning op.Run here f (Exit zero) =
      let t = top_text l.stack f.2.0 (typed.kinds ∙ f.2.1) in
      subst (λ (z : List Value). Safe (next (ran l) (drop 1 z))) (sym t.2) (goes_safe (ran l) (l.place + 1) t.1 f.2.0 refl f.2.2 t.3)
  reply_safe meaning op.Run here f (Exit (suc k)) = tt
  reply_safe meaning op.Run here f Signal = tt
  reply_safe meaning op.Run here f NotStarted = tt
  reply_safe meaning op.Deps here f (Bytes bytes) = found_safe f.0 (typed.kinds ∙ f.1) f.2 (meaning bytes)
  reply_safe meaning op.Deps here f Nothing = found_safe f.0 (typed.kinds ∙ f.1) f.2 (Ok [])
  reply_safe meaning op.Deps here f Fault = tt
  reply_safe meaning op.Keep here f Kept =
      let t = kept_three l.stack f.1.0 (typed.kinds ∙ f.1.1) in
      subst (λ (z : List Value). Safe (next l (drop 3 z))) (sym t.4) (next_safe t.3 f.1.0 f.1.2 t.5)
  reply_safe meaning op.Keep here f Fault = tt
  reply_safe meaning i here f r = tt

pub steps_are_safe : StepsAreSafe
unfolding turn Safe
steps_are_safe p e shapes all slots l good lent typed =
    let i = is_some_of (slice_get (code p e) l.place) typed.inside in
    subst (λ (o : Option Instr). IsSafe p e shapes slots l (act_at p e slots l o)) (sym i.1)
    (safe p e shapes slots l typed good lent i.0 i.1 (instructions_fit p e shapes all l.place i.0 typed.shape i.1 typed.here))

pub replies_are_safe : RepliesAreSafe
unfolding heard Safe
replies_are_safe p e shapes all slots l meaning r typed =
    let i = is_some_of (slice_get (code p e) l.place) typed.inside in
    when_either (λ (o : Option Turn). IfSome o (IsSafe p e shapes slots l)) l.asked _ _
    (λ loud. subst (λ (o : Option Instr). IfSome (replied_at meaning l o r) (IsSafe p e shapes slots l)) (sym i.1)
    (reply_safe p e shapes slots l typed meaning i.0 i.1 (instructions_fit p e shapes all l.place i.0 typed.shape i.1 typed.here) r))
    (λ quiet. tt)
