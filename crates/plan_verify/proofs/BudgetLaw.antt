-- An edge run alone has no more events than its budget and the number of bytes in the replies together.
use Rattle.std.proofs.Common.{◌≡◌, ℕ, zero, suc, ◌+◌, ◌-◌, ◌*◌, ◌<◌, ◌≤◌, Bool, true, false, eqb, List, [], ◌∷◌, ◌++◌, length, drop, map, Option, Some, None, refl, sym, ap, subst, ◌∙◌, arith, add-one, inl, inr}
use Rattle.std.specs.Prelude.{◌||◌, not, IfSome, nat_lt, nat_le, if◌then◌else◌, slice_get, ◌==◌, Result, Ok, Err}
use Rattle.std.specs.List.{list_all, list_any}
use Rattle.std.proofs.lemmas.Bool.{leb-false, eq-eqb}
use Rattle.std.proofs.lemmas.Option.{slice_get_within, none-some}
use Rattle.plan_image.specs.declared.body.Kind.{Kind}
use Rattle.plan_image.specs.declared.body.Kind.TheVariants as kind
use Rattle.plan_image.specs.declared.body.Instr.{Instr}
use Rattle.plan_image.specs.declared.body.Instr.TheVariants as op
use Rattle.plan_image.specs.declared.image.Slot.{Slot}
use Rattle.plan_image.specs.declared.image.Edge.{Edge}
use Rattle.plan_image.specs.declared.image.Parts.{Parts}
use Rattle.plan_image.specs.Code.{code}
use Rattle.plan_verify.specs.declared.value.Value.{Value}
use Rattle.plan_verify.specs.declared.value.Value.TheVariants.{Stamp, Flag, Text, Paths, Swept}
use Rattle.plan_verify.specs.declared.kinds.Shape.{Shape}
use Rattle.plan_verify.specs.Tables.{own_from, own_slots, slot_kind, kind_in, path_of, paths_of, outputs_of, first_output, pool_outside}
use Rattle.plan_verify.specs.Turn.{kind_of, Slots, Request, Stat, Recall, Run, Deps, Keep, Reply, StampIs, Entry, Nothing, Exit, Signal, NotStarted, Bytes, Kept, Fault, Meaning, Local, Turn, Goes, Sets, Asks, Ends, Fails, Wrong, Calculated, calculate, calculated, earlier, later, same_text, goes, next, jumps, asks_of, loads, stores, writes, sweeps, sweep, branches, runs, reads, keeps, act, act_at, turn, request_of, question, merged, found, ran, replied, replied_at, heard}
use Rattle.plan_verify.specs.Shape.{is_paths, table_checks, table_refusal, table_refusal_of, image_checks, image_refusal}
use Rattle.plan_verify.specs.WellShaped.{AreAllShapes, IsWellShaped}
use Rattle.plan_verify.specs.Fits.{Fits}
use Rattle.plan_verify.specs.Sound.{AreLentSet, IsTyped}
use Rattle.plan_verify.specs.Alone.{Stage, Runs, Ended, Failed, WentWrong, Alone, after, at_begin, RunsAlone, rests, steps, hears}
use Rattle.plan_verify.specs.Worth.{paths_left, unswept, rest_of, worth, Pays, AllTurnsPay}
use Rattle.plan_verify.specs.Budget.{asks_once, cost, costs, path_bytes, brought, all_brought, IsFrugal, StaysInBudgetAlone}
use Rattle.plan_verify.proofs.ListLemmas.{some_is, when_true, when_either, or_false, is_some_of, get_inside}
use Rattle.plan_verify.proofs.FitsLaw.{all_pass, instructions_fit}
use Rattle.plan_verify.proofs.StepsLaw.{top_any, top_stamp, top_flag, top_text, two_stamps, two_flags, two_texts, swept_three, kept_three, set_is, owned_is}
use Rattle.plan_verify.proofs.AloneLaw.{Good, begun_typed, step_good, hear_good}

cost_at : (is : List Instr) (n : ℕ) (i : Instr) → slice_get is n ≡ Some i → costs (drop n is) ≡ cost i + costs (drop (suc n) is)
cost_at [] n i h = absurd cc
cost_at (j ∷ is) zero i h = ap (λ (x : Instr). cost x + costs is) (some_is j i h)
cost_at (j ∷ is) (suc n) i h = cost_at is n i h

cost_after : (is : List Instr) (n : ℕ) (i : Instr) → slice_get is n ≡ Some i → costs (drop n is) ≡ cost i + costs (drop (n + 1) is)
cost_after is n i h = cost_at is n i h ∙ ap (λ (k : ℕ). cost i + costs (drop k is)) (sym (add-one n))

cost_less : (is : List Instr) (n m : ℕ) → n ≤ m → costs (drop m is) ≤ costs (drop n is)
cost_less [] n m h = none n m
  where
    none : (a b : ℕ) → costs (drop b []) ≤ costs (drop a [])
    none zero zero = omega arith
    none zero (suc b) = omega arith
    none (suc a) zero = omega arith
    none (suc a) (suc b) = omega arith
cost_less (i ∷ is) zero zero h = omega arith
cost_less (i ∷ is) zero (suc m) h = let r = cost_less is zero m (omega arith) in omega (arith, r)
cost_less (i ∷ is) (suc n) zero h = absurd (omega (arith, h))
cost_less (i ∷ is) (suc n) (suc m) h = cost_less is n m (omega (arith, h))

some_cost : (i : Instr) → 1 ≤ cost i
some_cost i = when_either (λ (n : ℕ). 1 ≤ n) (asks_once i) 2 1 (λ h. omega arith) (λ h. omega arith)

goes_pays : (p : Parts) (e : ℕ) (l k : Local) (m to : ℕ) (stack : List Value) → rest_of (code p e) to + unswept stack + 1 ≤ m → Pays p e l m (goes k to stack)
goes_pays p e l k m to stack h = when_either (Pays p e l m) (nat_lt 64 (length stack)) _ _ (λ deep. tt) (λ short. h)

module _ (p : Parts) (e : ℕ) (shapes : List Shape) (slots : Slots) (l : Local) (typed : IsTyped p e shapes slots l) where
  abbrev P : Turn → Type 0
  P t = Pays p e l (worth p e l) t

  spends : (i : Instr) → slice_get (code p e) l.place ≡ Some i → worth p e l ≡ cost i + rest_of (code p e) (l.place + 1) + unswept l.stack
  spends i here = ap (λ (n : ℕ). n + unswept l.stack) (cost_after (code p e) l.place i here)

  next_pays : (i : Instr) → slice_get (code p e) l.place ≡ Some i → (stack : List Value) → unswept stack ≤ unswept l.stack → P (next l stack)
  next_pays i here stack less = goes_pays p e l l (worth p e l) (l.place + 1) stack (omega (arith, less, spends i here, some_cost i))

  asks_pay : (i : Instr) → slice_get (code p e) l.place ≡ Some i → (q : Request) → P (Asks q)
  asks_pay i here q = (omega arith, omega (arith, spends i here, some_cost i))

  jumps_pay : (i : Instr) → slice_get (code p e) l.place ≡ Some i → (to : ℕ) (stack : List Value) → l.place < to → unswept stack ≤ unswept l.stack → P (jumps l (length (code p e)) to stack)
  jumps_pay i here to stack up less =
      when_either P (nat_le to l.place) _ _ (λ back. tt) (λ onwards.
      when_either P (nat_le (length (code p e)) to) _ _ (λ off. tt) (λ inside.
      goes_pays p e l l (worth p e l) to stack (omega (arith, less, spends i here, some_cost i, cost_less (code p e) (l.place + 1) to (omega (arith, up))))))

  stat_pays : (i : Instr) → slice_get (code p e) l.place ≡ Some i → (o : Option (List ℕ)) (q : List ℕ → Request) → P (asks_of o q)
  stat_pays i here (Some path) q = asks_pay i here (q path)
  stat_pays i here None q = tt

  sweep_pays : (all : List (List ℕ)) (n m : ℕ) (b : Bool) (below : List Value) → slice_get (code p e) l.place ≡ Some op.Sweep → l.stack ≡ Paths n all ∷ Flag b ∷ Stamp m ∷ below → (o : Option (List ℕ)) → P (sweeps l all (Flag b ∷ Stamp m ∷ below) o)
  sweep_pays all n m b below here is None = next_pays op.Sweep here (Swept all ∷ Flag b ∷ Stamp m ∷ below) (omega (arith, ap unswept is))
  sweep_pays all n m b below here is (Some path) = asks_pay op.Sweep here (Stat path)

  store_pays : (k : ℕ) → slice_get (code p e) l.place ≡ Some (op.Store k) → Fits p e shapes l.place typed.shape (op.Store k) → P (stores l e k (slice_get p.slots k) l.stack)
  store_pays k here f =
      let o = owned_is e (slice_get p.slots k) f.0 in
      let t = top_any l.stack (slot_kind p k) f.1 (typed.kinds ∙ f.2) in
      subst (λ (x : Option Slot). P (stores l e k x l.stack)) (sym o.1)
      (subst (λ (x : List Value). P (stores l e k (Some o.0) x)) (sym t.2)
      (when_true P (o.0.owner == e) _ _ o.2 (omega (arith, ap unswept t.2, spends (op.Store k) here))))

  pays : ((k : ℕ) (v : Value) → slice_get slots k ≡ Some (Some v) → paths_left v ≡ 0) → AreLentSet p e slots → (i : Instr) → slice_get (code p e) l.place ≡ Some i → Fits p e shapes l.place typed.shape i → P (act p e slots l i)
  pays plain lent op.End here f =
      when_either P l.holding _ _ (λ h. tt) (λ h.
      when_either P (not (list_all _ (own_slots p e))) _ _ (λ k. tt) (λ k.
      when_either P (nat_lt 0 (length l.stack)) _ _ (λ m. tt) (λ m. omega (arith, spends op.End here))))
  pays plain lent (op.Stat n) here f = stat_pays (op.Stat n) here (path_of p n) Stat
  pays plain lent (op.Need n) here f = stat_pays (op.Need n) here (path_of p n) Stat
  pays plain lent (op.Load k) here f =
      let v = set_is slots k (elim f.0 [ inl own ↦ typed.set k own | inr w ↦ lent k w.1 ]) in
      subst (λ (x : Option (Option Value)). P (loads l x)) (sym v.1) (next_pays (op.Load k) here (v.0 ∷ l.stack) (omega (arith, plain k v.0 v.1)))
  pays plain lent (op.Store k) here f = store_pays k here f
  pays plain lent op.Older here f =
      let t = two_stamps l.stack f.0 (typed.kinds ∙ f.1) in
      subst (λ (x : List Value). P (calculated l (calculate op.Older x))) (sym t.3) (next_pays op.Older here (Stamp (earlier t.1 t.0) ∷ t.2) (omega (arith, ap unswept t.3)))
  pays plain lent op.Newer here f =
      let t = two_stamps l.stack f.0 (typed.kinds ∙ f.1) in
      subst (λ (x : List Value). P (calculated l (calculate op.Newer x))) (sym t.3) (next_pays op.Newer here (Stamp (later t.1 t.0) ∷ t.2) (omega (arith, ap unswept t.3)))
  pays plain lent op.Before here f =
      let t = two_stamps l.stack f.0 (typed.kinds ∙ f.1) in
      subst (λ (x : List Value). P (calculated l (calculate op.Before x))) (sym t.3) (next_pays op.Before here (Flag (nat_lt t.1 t.0) ∷ t.2) (omega (arith, ap unswept t.3)))
  pays plain lent op.Same here f =
      let t = two_stamps l.stack f.0 (typed.kinds ∙ f.1) in
      subst (λ (x : List Value). P (calculated l (calculate op.Same x))) (sym t.3) (next_pays op.Same here (Flag (t.1 == t.0) ∷ t.2) (omega (arith, ap unswept t.3)))
  pays plain lent op.IsMissing here f =
      let t = top_stamp l.stack f.0 (typed.kinds ∙ f.1) in
      subst (λ (x : List Value). P (calculated l (calculate op.IsMissing x))) (sym t.2) (next_pays op.IsMissing here (Flag (t.0 == 0) ∷ t.1) (omega (arith, ap unswept t.2)))
  pays plain lent op.Or here f =
      let t = two_flags l.stack f.0 (typed.kinds ∙ f.1) in
      subst (λ (x : List Value). P (calculated l (calculate op.Or x))) (sym t.3) (next_pays op.Or here (Flag (t.1 || t.0) ∷ t.2) (omega (arith, ap unswept t.3)))
  pays plain lent op.Not here f =
      let t = top_flag l.stack f.0 (typed.kinds ∙ f.1) in
      subst (λ (x : List Value). P (calculated l (calculate op.Not x))) (sym t.2) (next_pays op.Not here (Flag (not t.0) ∷ t.1) (omega (arith, ap unswept t.2)))
  pays plain lent (op.Flag b) here f = next_pays (op.Flag b) here (Flag b ∷ l.stack) (omega arith)
  pays plain lent op.Zero here f = next_pays op.Zero here (Stamp 0 ∷ l.stack) (omega arith)
  pays plain lent op.NoPaths here f = next_pays op.NoPaths here (Swept [] ∷ l.stack) (omega arith)
  pays plain lent (op.Text n) here f =
      let x = is_some_of (slice_get p.texts n) f.0 in
      subst (λ (o : Option (List ℕ)). P (writes l o)) (sym x.1) (next_pays (op.Text n) here (Text x.0 ∷ l.stack) (omega arith))
  pays plain lent op.Join here f =
      let t = two_texts l.stack f.0 (typed.kinds ∙ f.1) in
      subst (λ (x : List Value). P (calculated l (calculate op.Join x))) (sym t.3)
      (when_either (λ (c : Calculated). P (calculated l c)) (nat_lt 1048576 (length t.1 + length t.0)) _ _ (λ long. omega (arith, spends op.Join here))
      (λ short. next_pays op.Join here (Text (t.1 ++ t.0) ∷ t.2) (omega (arith, ap unswept t.3))))
  pays plain lent op.Equal here f =
      let t = two_texts l.stack f.0 (typed.kinds ∙ f.1) in
      subst (λ (x : List Value). P (calculated l (calculate op.Equal x))) (sym t.3) (next_pays op.Equal here (Flag (same_text t.1 t.0) ∷ t.2) (omega (arith, ap unswept t.3)))
  pays plain lent op.Recall here f = stat_pays op.Recall here (first_output p e) Recall
  pays plain lent op.Sweep here f =
      let t = swept_three l.stack f.0 (typed.kinds ∙ f.1) in
      subst (λ (x : List Value). P (sweep l x)) (sym t.5) (sweep_pays t.0 t.1 t.3 t.2 t.4 here t.5 (slice_get t.0 t.1))
  pays plain lent (op.Jump d) here f = jumps_pay (op.Jump d) here d l.stack f.0 (omega arith)
  pays plain lent (op.JumpIf d) here f =
      let t = top_flag l.stack f.1 (typed.kinds ∙ f.2) in
      subst (λ (x : List Value). P (branches l (length (code p e)) d x)) (sym t.2)
      (when_either P t.0 _ _ (λ on. jumps_pay (op.JumpIf d) here d t.1 f.0 (omega (arith, ap unswept t.2))) (λ off. next_pays (op.JumpIf d) here t.1 (omega (arith, ap unswept t.2))))
  pays plain lent op.Take here f =
      when_either P l.holding _ _ (λ h. tt) (λ h. when_either P (pool_outside p e) _ _ (λ k. tt) (λ k. omega (arith, spends op.Take here)))
  pays plain lent op.Release here f = when_either P l.holding _ _ (λ h. omega (arith, spends op.Release here)) (λ h. tt)
  pays plain lent op.Run here f =
      let x = is_some_of (paths_of p (outputs_of p e)) f.1 in
      let t = top_text l.stack f.2.0 (typed.kinds ∙ f.2.1) in
      when_either P l.holding _ _ (λ h.
      subst (λ (o : Option (List (List ℕ))). P (runs o l.stack)) (sym x.1) (subst (λ (z : List Value). P (runs (Some x.0) z)) (sym t.2) (asks_pay op.Run here (Run t.0 x.0)))) (λ h. tt)
  pays plain lent op.Deps here f =
      let t = top_text l.stack f.0 (typed.kinds ∙ f.1) in
      subst (λ (z : List Value). P (reads z)) (sym t.2) (asks_pay op.Deps here (Deps t.0))
  pays plain lent op.Keep here f =
      let x = is_some_of (first_output p e) f.0 in
      let t = kept_three l.stack f.1.0 (typed.kinds ∙ f.1.1) in
      subst (λ (o : Option (List ℕ)). P (keeps o l.stack)) (sym x.1) (subst (λ (z : List Value). P (keeps (Some x.0) z)) (sym t.4) (asks_pay op.Keep here (Keep x.0 t.2 t.1 t.0)))
  pays plain lent op.Drop here f =
      let t = top_any l.stack f.0 f.1.0 (typed.kinds ∙ f.1.1) in
      subst (λ (x : List Value). P (calculated l (calculate op.Drop x))) (sym t.2) (next_pays op.Drop here t.1 (omega (arith, ap unswept t.2)))
  pays plain lent op.Swap here f =
      let y = top_any l.stack f.0 (f.1 ∷ f.2.0) (typed.kinds ∙ f.2.1) in
      let x = top_any y.1 f.1 f.2.0 y.4 in
      let is : l.stack ≡ y.0 ∷ x.0 ∷ x.1 = y.2 ∙ ap (λ (z : List Value). y.0 ∷ z) x.2 in
      subst (λ (z : List Value). P (calculated l (calculate op.Swap z))) (sym is) (next_pays op.Swap here (x.0 ∷ y.0 ∷ x.1) (omega (arith, ap unswept is)))

  -- ---- replies

  more : (n : ℕ) → n < length (code p e) → 1 ≤ rest_of (code p e) n
  more n lt = at (code p e) n lt
    where
      at : (is : List Instr) (n : ℕ) → n < length is → 1 ≤ costs (drop n is)
      at [] n lt = absurd (omega (arith, lt))
      at (i ∷ is) zero lt = omega (arith, some_cost i)
      at (i ∷ is) (suc n) lt = at is n (omega (arith, lt))

  -- a sweep that asks has a path left
  left_to_sweep : (q : Request) (all : List (List ℕ)) (n m : ℕ) (b : Bool) (below : List Value) → slice_get (code p e) l.place ≡ Some op.Sweep → l.stack ≡ Paths n all ∷ Flag b ∷ Stamp m ∷ below → question p e slots l ≡ Some q → n < length all
  unfolding turn
  left_to_sweep q all n m b below here is asked =
      by (slice_get all n) refl (sym (ap request_of (ap (λ (o : Option Instr). act_at p e slots l o) here ∙ ap (λ (x : List Value). sweep l x) is)) ∙ asked)
    where
      silent : (stack : List Value) → request_of (next l stack) ≡ None
      silent stack = when_either (λ (t : Turn). request_of t ≡ None) (nat_lt 64 (length stack)) _ _ (λ h. refl) (λ h. refl)

      by : (o : Option (List ℕ)) → slice_get all n ≡ o → request_of (sweeps l all (Flag b ∷ Stamp m ∷ below) o) ≡ Some q → n < length all
      by None at h = absurd (none-some q (sym (silent (Swept all ∷ Flag b ∷ Stamp m ∷ below)) ∙ h))
      by (Some path) at h = slice_get_within all n path at

  two_each : (paths : List (List ℕ)) → 2 * length paths ≤ path_bytes paths
  two_each [] = omega arith
  two_each (path ∷ paths) = let r = two_each paths in omega (arith, r)

  on_pays : (i : Instr) → slice_get (code p e) l.place ≡ Some i → (k : Local) (m : ℕ) (stack : List Value) → k.place ≡ l.place → rest_of (code p e) (l.place + 1) + unswept stack + 1 ≤ m → Pays p e l m (next k stack)
  on_pays i here k m stack same h = goes_pays p e l k m (k.place + 1) stack (subst (λ (n : ℕ). rest_of (code p e) (n + 1) + unswept stack + 1 ≤ m) (sym same) h)

  found_pays : (meaning : Meaning) → IsFrugal meaning → (m : ℕ) (rest : List Kind) → slice_get (code p e) l.place ≡ Some op.Deps → map kind_of l.stack ≡ kind.Text ∷ rest → (bytes : List ℕ) → m + 1 ≡ worth p e l + length bytes → Pays p e l m (found l (meaning bytes))
  found_pays meaning frugal m rest here is bytes enough = by (meaning bytes) refl
    where
      by : (o : Result (List (List ℕ)) (ℕ × ℕ)) → meaning bytes ≡ o → Pays p e l m (found l o)
      by (Err fault) at = omega (arith, enough, spends op.Deps here)
      by (Ok paths) at =
          let t = top_text l.stack rest is in
          subst (λ (z : List Value). Pays p e l m (next l (Paths 0 paths ∷ drop 1 z))) (sym t.2)
          (on_pays op.Deps here l m (Paths 0 paths ∷ t.1) refl (omega (arith, enough, spends op.Deps here, ap unswept t.2, frugal bytes paths at)))

  reply_pays : (meaning : Meaning) → IsFrugal meaning → (q : Request) → question p e slots l ≡ Some q → (i : Instr) → slice_get (code p e) l.place ≡ Some i → Fits p e shapes l.place typed.shape i → (r : Reply) (m : ℕ) → m + 1 ≡ worth p e l + brought r
      → IfSome (replied meaning l i r) (Pays p e l m)
  reply_pays meaning frugal q asked (op.Stat n) here f (StampIs k) m enough = on_pays (op.Stat n) here l m (Stamp k ∷ l.stack) refl (omega (arith, enough, spends (op.Stat n) here))
  reply_pays meaning frugal q asked (op.Stat n) here f Fault m enough = omega (arith, enough, spends (op.Stat n) here)
  reply_pays meaning frugal q asked (op.Need n) here f (StampIs zero) m enough = omega (arith, enough, spends (op.Need n) here)
  reply_pays meaning frugal q asked (op.Need n) here f (StampIs (suc k)) m enough = on_pays (op.Need n) here l m (Stamp (suc k) ∷ l.stack) refl (omega (arith, enough, spends (op.Need n) here))
  reply_pays meaning frugal q asked (op.Need n) here f Fault m enough = omega (arith, enough, spends (op.Need n) here)
  reply_pays meaning frugal q asked op.Recall here f (Entry command basis paths) m enough =
      on_pays op.Recall here l m (Flag true ∷ Text command ∷ Stamp basis ∷ Paths 0 paths ∷ l.stack) refl (omega (arith, enough, spends op.Recall here, two_each paths))
  reply_pays meaning frugal q asked op.Recall here f Nothing m enough =
      on_pays op.Recall here l m (Flag false ∷ Text [] ∷ Stamp 0 ∷ Paths 0 [] ∷ l.stack) refl (omega (arith, enough, spends op.Recall here))
  reply_pays meaning frugal q asked op.Recall here f Fault m enough = omega (arith, enough, spends op.Recall here)
  reply_pays meaning frugal q asked op.Sweep here f (StampIs k) m enough =
      let t = swept_three l.stack f.0 (typed.kinds ∙ f.1) in
      let lt = left_to_sweep q t.0 t.1 t.3 t.2 t.4 here t.5 asked in
      subst (λ (z : List Value). Pays p e l m (goes l l.place (merged k z))) (sym t.5)
      (goes_pays p e l l m l.place (Paths (t.1 + 1) t.0 ∷ Flag (t.2 || (k == 0)) ∷ Stamp (later t.3 k) ∷ t.4) (omega (arith, enough, lt, ap unswept t.5)))
  reply_pays meaning frugal q asked op.Sweep here f Fault m enough = omega (arith, enough, spends op.Sweep here, more (l.place + 1) f.2.inside)
  reply_pays meaning frugal q asked op.Run here f (Exit zero) m enough =
      let t = top_text l.stack f.2.0 (typed.kinds ∙ f.2.1) in
      subst (λ (z : List Value). Pays p e l m (next (ran l) (drop 1 z))) (sym t.2) (on_pays op.Run here (ran l) m t.1 refl (omega (arith, enough, spends op.Run here, ap unswept t.2)))
  reply_pays meaning frugal q asked op.Run here f (Exit (suc k)) m enough = omega (arith, enough, spends op.Run here)
  reply_pays meaning frugal q asked op.Run here f Signal m enough = omega (arith, enough, spends op.Run here)
  reply_pays meaning frugal q asked op.Run here f NotStarted m enough = omega (arith, enough, spends op.Run here)
  reply_pays meaning frugal q asked op.Deps here f (Bytes bytes) m enough = found_pays meaning frugal m f.0 here (typed.kinds ∙ f.1) bytes enough
  reply_pays meaning frugal q asked op.Deps here f Nothing m enough =
      let t = top_text l.stack f.0 (typed.kinds ∙ f.1) in
      subst (λ (z : List Value). Pays p e l m (next l (Paths 0 [] ∷ drop 1 z))) (sym t.2) (on_pays op.Deps here l m (Paths 0 [] ∷ t.1) refl (omega (arith, enough, spends op.Deps here, ap unswept t.2)))
  reply_pays meaning frugal q asked op.Deps here f Fault m enough = omega (arith, enough, spends op.Deps here)
  reply_pays meaning frugal q asked op.Keep here f Kept m enough =
      let t = kept_three l.stack f.1.0 (typed.kinds ∙ f.1.1) in
      subst (λ (z : List Value). Pays p e l m (next l (drop 3 z))) (sym t.4) (on_pays op.Keep here l m t.3 refl (omega (arith, enough, spends op.Keep here, ap unswept t.4)))
  reply_pays meaning frugal q asked op.Keep here f Fault m enough = omega (arith, enough, spends op.Keep here)
  reply_pays meaning frugal q asked i here f r m enough = tt

-- ---- no slot takes paths

any_false : {A : Type 0} (f : A → Bool) (xs : List A) (k : ℕ) (x : A) → slice_get xs k ≡ Some x → list_any f xs ≡ false → f x ≡ false
any_false f [] k x at h = absurd cc
any_false f (y ∷ xs) zero x at h = ap f (sym (some_is y x at)) ∙ (or_false (f y) (list_any f xs) h).0
any_false f (y ∷ xs) (suc k) x at h = any_false f xs k x at (or_false (f y) (list_any f xs) h).1

own_false : (f : ℕ → Bool) (e n k : ℕ) (slots : List Slot) (slot : Slot) → slice_get slots k ≡ Some slot → slot.owner ≡ e → list_any f (own_from e n slots) ≡ false → f (n + k) ≡ false
own_false f e n k [] slot at own h = absurd cc
own_false f e n zero (s ∷ slots) slot at own h =
    let mine : eqb s.owner e ≡ true = eq-eqb s.owner e (ap (λ (x : Slot). x.owner) (some_is s slot at) ∙ own) in
    let g : list_any f (n ∷ own_from e (n + 1) slots) ≡ false = subst (λ (b : Bool). list_any f (if b then n ∷ own_from e (n + 1) slots else own_from e (n + 1) slots) ≡ false) mine h in
    ap f (zero_more n) ∙ (or_false (f n) (list_any f (own_from e (n + 1) slots)) g).0
  where
    zero_more : (n : ℕ) → n + 0 ≡ n
    zero_more n = omega arith
own_false f e n (suc k) (s ∷ slots) slot at own h =
    let rest : list_any f (own_from e (n + 1) slots) ≡ false = later_part (eqb s.owner e) h in
    ap f (one_more n k) ∙ own_false f e (n + 1) k slots slot at own rest
  where
    one_more : (n k : ℕ) → n + suc k ≡ n + 1 + k
    one_more n k = omega arith

    later_part : (b : Bool) → list_any f (if b then n ∷ own_from e (n + 1) slots else own_from e (n + 1) slots) ≡ false → list_any f (own_from e (n + 1) slots) ≡ false
    later_part true h = (or_false (f n) (list_any f (own_from e (n + 1) slots)) h).1
    later_part false h = h

plain_by : (p : Parts) (e : ℕ) (o : Option Edge) → slice_get p.edges e ≡ o → e < length p.edges → table_refusal_of p e o ≡ None → list_any (λ s. is_paths (slot_kind p s)) (own_slots p e) ≡ false
plain_by p e None at lt h = absurd (let is = get_inside p.edges e lt in none-some is.0 (sym at ∙ is.1))
plain_by p e (Some x) at lt h = (all_pass (table_checks p e x) h).1.1.1.1.0

plain_slot : (p : Parts) → IsWellShaped p → (k : ℕ) → is_paths (slot_kind p k) ≡ false
unfolding table_refusal image_refusal
plain_slot p shaped k = by (slice_get p.slots k) refl
  where
    by : (o : Option Slot) → slice_get p.slots k ≡ o → is_paths (slot_kind p k) ≡ false
    by None at = ap (λ (o : Option Slot). is_paths (kind_in o)) at
    by (Some slot) at =
        let inside : slot.owner < length p.edges = leb-false (length p.edges) slot.owner (any_false (λ (s : Slot). nat_le (length p.edges) s.owner) p.slots k slot at (all_pass (image_checks p) shaped.tables).1.0) in
        let plain = plain_by p slot.owner (slice_get p.edges slot.owner) refl inside (shaped.edges slot.owner inside).1.tables in
        let zero_plus : 0 + k ≡ k = omega arith in
        ap (λ (n : ℕ). is_paths (slot_kind p n)) (sym zero_plus) ∙ own_false (λ s. is_paths (slot_kind p s)) slot.owner 0 k p.slots slot at refl plain

plain_value : (v : Value) → is_paths (kind_of v) ≡ false → paths_left v ≡ 0
plain_value (Stamp n) h = refl
plain_value (Flag b) h = refl
plain_value (Text t) h = refl
plain_value (Paths n all) h = absurd cc
plain_value (Swept all) h = refl

-- ---- runs

abbrev one_if : Bool → ℕ
one_if true = 1
one_if false = 0

-- the remaining cost of an edge
abbrev load : Parts → ℕ → Stage → ℕ
load p e (Runs l) = worth p e l - one_if l.asked
load p e (Ended ran) = 0
load p e (Failed cause) = 0
load p e (WentWrong flaw) = 0

module _ (p : Parts) (e : ℕ) (shaped : IsWellShaped p) (shapes : List Shape) (all : AreAllShapes p e shapes) where
  -- a turn that is paid for leaves a lower cost
  paid : (slots : Slots) (l : Local) (m : ℕ) (t : Turn) → Pays p e l m t → Good p e shapes all (after l slots t) → load p e (after l slots t).stage + 1 ≤ m
  paid slots l m (Goes did k) h g = omega (arith, h)
  paid slots l m (Sets s v k) h g = omega (arith, h)
  paid slots l m (Asks q) h g = omega (arith, h.0, h.1)
  paid slots l m Ends h g = omega (arith, h)
  paid slots l m (Fails cause) h g = omega (arith, h)
  paid slots l m (Wrong flaw) h g = absurd g.sound

  step_pays : (slots : Slots) (l : Local) → Good p e shapes all (record { stage = Runs l; slots = slots }) → Pays p e l (worth p e l) (turn p e slots l)
  unfolding turn
  step_pays slots l g =
      let typed : IsTyped p e shapes slots l = g.sound in
      let i = is_some_of (slice_get (code p e) l.place) typed.inside in
      subst (λ (o : Option Instr). Pays p e l (worth p e l) (act_at p e slots l o)) (sym i.1)
      (pays p e shapes slots l typed (λ k v at. plain_value v (ap is_paths (g.typed.kinds k v at) ∙ plain_slot p shaped k)) g.lent i.0 i.1 (instructions_fit p e shapes all l.place i.0 typed.shape i.1 typed.here))

  worth_some : (slots : Slots) (l : Local) → IsTyped p e shapes slots l → 1 ≤ worth p e l
  worth_some slots l typed =
      let i = is_some_of (slice_get (code p e) l.place) typed.inside in
      omega (arith, more p e shapes slots l typed l.place (slice_get_within (code p e) l.place i.0 i.1))

module _ (p : Parts) (e : ℕ) (shaped : IsWellShaped p) (shapes : List Shape) (all : AreAllShapes p e shapes) (meaning : Meaning) (frugal : IsFrugal meaning) where
  hear_pays : (slots : Slots) (l : Local) (q : Request) (r : Reply) (t : Turn) → question p e slots l ≡ Some q → heard meaning p e l r ≡ Some t → Good p e shapes all (record { stage = Runs l; slots = slots })
      → (l.asked ≡ true) × Pays p e l (worth p e l - 1 + brought r) t
  unfolding heard
  hear_pays slots l q r t asked is g =
      let typed : IsTyped p e shapes slots l = g.sound in
      let i = is_some_of (slice_get (code p e) l.place) typed.inside in
      let some = worth_some p e shaped shapes all slots l typed in
      let m : ℕ = worth p e l - 1 + brought r in
      let all_replies = reply_pays p e shapes slots l typed meaning frugal q asked i.0 i.1 (instructions_fit p e shapes all l.place i.0 typed.shape i.1 typed.here) r m (omega (arith, some)) in
      by l.asked refl is (subst (λ (o : Option Instr). IfSome (replied_at meaning l o r) (Pays p e l m)) (sym i.1) all_replies)
    where
      by : (b : Bool) → l.asked ≡ b → (if b then replied_at meaning l (slice_get (code p e) l.place) r else None) ≡ Some t → IfSome (replied_at meaning l (slice_get (code p e) l.place) r) (Pays p e l (worth p e l - 1 + brought r))
          → (l.asked ≡ true) × Pays p e l (worth p e l - 1 + brought r) t
      by true loud at h = (loud, subst (λ (o : Option Turn). IfSome o (Pays p e l (worth p e l - 1 + brought r))) at h)
      by false quiet at h = absurd (none-some t at)

  run_pays : (n : ℕ) (x y : Alone) (told : List (Request × Reply)) → Good p e shapes all x → RunsAlone meaning p e n x told y → n + load p e y.stage ≤ load p e x.stage + all_brought told
  run_pays n x y told g rests = omega arith
  run_pays (suc n) x y told g (steps {l = l} {slots = slots} quiet run) =
      let next_good = step_good p e shapes all slots l g in
      let less = paid p e shaped shapes all slots l (worth p e l) (turn p e slots l) (step_pays p e shaped shapes all slots l g) next_good in
      let rest = run_pays n (after l slots (turn p e slots l)) y told next_good run in
      omega (arith, less, rest, ap one_if quiet)
  run_pays (suc n) x y told g (hears {l = l} {slots = slots} {q = q} {r = r} {t = t} {told = others} asked is run) =
      let next_good = hear_good p e shapes all meaning slots l r t is g in
      let h = hear_pays slots l q r t asked is g in
      let less = paid p e shaped shapes all slots l (worth p e l - 1 + brought r) t h.1 next_good in
      let rest = run_pays n (after l slots t) y others next_good run in
      omega (arith, less, rest, ap one_if h.0, worth_some p e shaped shapes all slots l g.sound)

pub all_turns_pay : AllTurnsPay
all_turns_pay p e shaped shapes all slots l typed lent sound =
    let good : Good p e shapes all (record { stage = Runs l; slots = slots }) = record { typed = typed; lent = lent; sound = sound } in
    record {
      some = worth_some p e shaped shapes all slots l sound;
      step = step_pays p e shaped shapes all slots l good;
      reply = λ meaning frugal q r t asked is. (hear_pays p e shaped shapes all meaning frugal slots l q r t asked is good).1;
    }

pub stays_in_budget_alone : StaysInBudgetAlone
stays_in_budget_alone p e shaped within slots good lent meaning frugal n told x run =
    let edge = shaped.edges e within in
    let start : Good p e edge.0 edge.1 (at_begin slots) = record { typed = good; lent = lent; sound = begun_typed p e edge.0 slots edge.1 } in
    let r = run_pays p e shaped edge.0 edge.1 meaning frugal n (at_begin slots) x told start run in
    omega (arith, r)
