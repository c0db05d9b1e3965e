-- Fragments have shapes: a fragment has shapes if the code after it has.
use Rattle.std.proofs.Common.{◌≡◌, ℕ, zero, suc, ◌+◌, ◌-◌, ◌<◌, Bool, true, false, List, [], ◌∷◌, ◌++◌, length, drop, None, refl, sym, ap, subst, ◌∙◌, arith, append-nil}
use Rattle.std.specs.Prelude.{nat_le, nat_lt, ◌==◌, if◌then◌else◌, All}
use Rattle.std.specs.List.{AllByRecursion}
use Rattle.std.proofs.lemmas.Bool.{eq-eqb, ne_eqb, lt-leb}
use Rattle.plan_image.specs.declared.body.Instr.{Instr}
use Rattle.plan_image.specs.declared.body.Instr.TheVariants as op
use Rattle.plan_image.specs.declared.image.Parts.{Parts}
use Rattle.plan_image.specs.Code.{code}
use Rattle.plan_verify.specs.declared.kinds.Shape.{Shape}
use Rattle.plan_verify.specs.declared.fault.Refusal.{Refusal}
use Rattle.plan_verify.specs.Shape.{left, targets, refused, first_of, checks, bad_slot, bad_jump, bad_file, bad_text, lacks_place, keeps_place, takes, wrong_kind, unset_slot, values_left, kinds_after, falls_off}
use Rattle.plan_verify.specs.WellShaped.{toward, IsShapeAmong}
use Rattle.plan_compile.proofs.Machine.{drop_past, drop_length}
use Rattle.plan_compile.proofs.Scanning.{Good}

module _ (p : Parts) (e : ℕ) where
  -- the shapes that jumps leave at a place
  abbrev pub due_at : ℕ → List (ℕ × Shape) → List Shape
  due_at n [] = []
  due_at n (x ∷ xs) = if x.0 == n then x.1 ∷ due_at n xs else due_at n xs

  -- the shapes that arrive: one here, and at places ahead those that jumps left there
  pub record Arrives (at : ℕ) (s : Shape) (due : List (ℕ × Shape)) (so_far : ℕ → List Shape) : Type 0 where
    pub here : IsShapeAmong s (so_far at)
    pub ahead : (n : ℕ) → at < n → so_far n ≡ due_at n due

  -- wherever this code is, with this shape and these jumps still to land, it has shapes
  pub record Fit (rest : List Instr) (s : Shape) (due : List (ℕ × Shape)) : Type 0 where
    pub go : (at : ℕ) → drop at (code p e) ≡ rest → (so_far : ℕ → List Shape) → Arrives at s due so_far → (shapes : List Shape) × Good p e at rest shapes so_far

  -- each jump lands after the first place of this code
  abbrev pub AreAhead : List (ℕ × Shape) → List Instr → Type 0
  AreAhead [] rest = Unit {0}
  AreAhead (x ∷ xs) rest = (length (code p e) - x.0 < length rest) × AreAhead xs rest

  pub none_due : (due : List (ℕ × Shape)) (rest : List Instr) (n : ℕ) → length rest ≡ length (code p e) - n → AreAhead due rest → due_at n due ≡ []
  none_due [] rest n long ahead = refl
  none_due (x ∷ xs) rest n long ahead =
      ap (λ (b : Bool). if b then x.1 ∷ due_at n xs else due_at n xs) (ne_eqb x.0 n (λ same. let lt : length (code p e) - n < length rest = subst (λ (m : ℕ). length (code p e) - m < length rest) same ahead.0 in omega (arith, lt, long)))
      ∙ none_due xs rest n long ahead.1

  pub one_arrives : (s : Shape) (xs : List Shape) → xs ≡ s ∷ [] → IsShapeAmong s xs
  one_arrives s xs is = subst (λ (ys : List Shape). IsShapeAmong s ys) (sym is) (record { arrives = (0, omega arith, refl); alone = only }) where
    only : All (λ t. t ≡ s) (s ∷ [])
    only zero t lt = refl
    only (suc n) t lt = absurd (omega (arith, lt))

  -- An instruction, with the shapes that arrive at the next place and ahead, from the jumps still to land and
  -- from this one.
  pub step_fit : (i : Instr) (rest : List Instr) (s next : Shape) (due then_due : List (ℕ × Shape))
      → ((at : ℕ) → drop (at + 1) (code p e) ≡ rest → at < length (code p e) → length rest ≡ length (code p e) - (at + 1) → refused p e at i s ≡ None)
      → ((at : ℕ) → drop (at + 1) (code p e) ≡ rest → length rest ≡ length (code p e) - (at + 1) → IsShapeAmong next (due_at (at + 1) due ++ toward (at + 1) (targets at i) (left p i s)))
      → ((at n : ℕ) → drop (at + 1) (code p e) ≡ rest → length rest ≡ length (code p e) - (at + 1) → at + 1 < n → due_at n due ++ toward n (targets at i) (left p i s) ≡ due_at n then_due)
      → Fit rest next then_due → Fit (i ∷ rest) s due
  step_fit i rest s next due then_due fine arrives onwards f = record {
    go = λ at stands so_far arr.
        let past : drop (at + 1) (code p e) ≡ rest = drop_past (code p e) at i rest stands in
        let whole : suc (length rest) ≡ length (code p e) - at = sym (ap length stands) ∙ drop_length (code p e) at in
        let long : length rest ≡ length (code p e) - (at + 1) = sym (ap length past) ∙ drop_length (code p e) (at + 1) in
        let after : ℕ → List Shape = λ n. so_far n ++ toward n (targets at i) (left p i s) in
        let g = f.go (at + 1) past after (record {
          here = subst (λ (xs : List Shape). IsShapeAmong next (xs ++ toward (at + 1) (targets at i) (left p i s))) (sym (arr.ahead (at + 1) (omega arith))) (arrives at past long);
          ahead = λ n lt. ap (λ (xs : List Shape). xs ++ toward n (targets at i) (left p i s)) (arr.ahead n (omega (arith, lt))) ∙ onwards at n past long lt;
        }) in
        (s ∷ g.0, (arr.here, fine at past (omega (arith, whole)) long, g.1));
  }

  pub toward_next : (at : ℕ) (s : Shape) → toward (at + 1) ((at + 1) ∷ []) s ≡ s ∷ []
  toward_next at s = ap (λ (b : Bool). if b then s ∷ [] else []) (eq-eqb (at + 1) (at + 1) refl)

  pub toward_other : (n d : ℕ) (s : Shape) → (d ≡ n → ⊥) → toward n (d ∷ []) s ≡ []
  toward_other n d s ne = ap (λ (b : Bool). if b then s ∷ [] else []) (ne_eqb d n ne)

  -- an instruction that only continues to the next place, at which no jump lands
  pub pass : (i : Instr) (rest : List Instr) (s : Shape) (due : List (ℕ × Shape)) → ((at : ℕ) → targets at i ≡ (at + 1) ∷ []) → AreAhead due rest → 0 < length rest
      → ((at : ℕ) → nat_le (length (code p e)) (at + 1) ≡ false → refused p e at i s ≡ None)
      → Fit rest (left p i s) due → Fit (i ∷ rest) s due
  pass i rest s due next ahead some fine f =
      step_fit i rest s (left p i s) due due
      (λ at past lt long. fine at (lt-leb (length (code p e)) (at + 1) (omega (arith, long, some))))
      (λ at past long. one_arrives (left p i s) _
      (ap (λ (ts : List ℕ). due_at (at + 1) due ++ toward (at + 1) ts (left p i s)) (next at)
      ∙ (ap (λ (xs : List Shape). due_at (at + 1) due ++ xs) (toward_next at (left p i s)) ∙ ap (λ (xs : List Shape). xs ++ (left p i s ∷ [])) (none_due due rest (at + 1) long ahead))))
      (λ at n past long lt. ap (λ (ts : List ℕ). due_at n due ++ toward n ts (left p i s)) (next at)
      ∙ (ap (λ (xs : List Shape). due_at n due ++ xs) (toward_other n (at + 1) (left p i s) (λ same. let x : at + 1 < n = lt in omega (arith, x, same))) ∙ append-nil (due_at n due)))
      f

  pub due_app : (n : ℕ) (xs ys : List (ℕ × Shape)) → due_at n (xs ++ ys) ≡ due_at n xs ++ due_at n ys
  due_app n [] ys = refl
  due_app n (x ∷ xs) ys = by_test (x.0 == n) (due_app n xs ys) where
    by_test : (b : Bool) → due_at n (xs ++ ys) ≡ due_at n xs ++ due_at n ys → (if b then x.1 ∷ due_at n (xs ++ ys) else due_at n (xs ++ ys)) ≡ (if b then x.1 ∷ due_at n xs else due_at n xs) ++ due_at n ys
    by_test true h = ap (λ (zs : List Shape). x.1 ∷ zs) h
    by_test false h = h

  -- jumps ahead if a flag is set, and otherwise continues
  pub branch : (d : ℕ) (rest : List Instr) (s : Shape) (due : List (ℕ × Shape)) → AreAhead due rest → length (code p e) - d < length rest → 0 < length (code p e) - d
      → ((at : ℕ) → nat_le d at ≡ false → nat_le (length (code p e)) d ≡ false → nat_le (length (code p e)) (at + 1) ≡ false → refused p e at (op.JumpIf d) s ≡ None)
      → Fit rest (left p (op.JumpIf d) s) (due ++ ((d, left p (op.JumpIf d) s) ∷ [])) → Fit (op.JumpIf d ∷ rest) s due
  branch d rest s due ahead lands inside fine f =
      let t : Shape = left p (op.JumpIf d) s in
      step_fit (op.JumpIf d) rest s t due (due ++ ((d, t) ∷ []))
      (λ at past lt long. fine at (lt-leb d at (omega (arith, lands, long))) (lt-leb (length (code p e)) d (omega (arith, inside))) (lt-leb (length (code p e)) (at + 1) (omega (arith, long, lands))))
      (λ at past long. one_arrives t _
      (ap (λ (xs : List Shape). xs ++ toward (at + 1) ((at + 1) ∷ d ∷ []) t) (none_due due rest (at + 1) long ahead)
      ∙ (ap (λ (b : Bool). if b then t ∷ toward (at + 1) (d ∷ []) t else toward (at + 1) (d ∷ []) t) (eq-eqb (at + 1) (at + 1) refl)
      ∙ ap (λ (xs : List Shape). t ∷ xs) (toward_other (at + 1) d t (λ same. omega (arith, same, lands, long))))))
      (λ at n past long lt.
      ap (λ (b : Bool). due_at n due ++ (if b then t ∷ toward n (d ∷ []) t else toward n (d ∷ []) t)) (ne_eqb (at + 1) n (λ same. let x : at + 1 < n = lt in omega (arith, x, same)))
      ∙ sym (due_app n due ((d, t) ∷ [])))
      f

  -- ---- where jumps land

  pub two_arrive : (s : Shape) (xs : List Shape) → xs ≡ s ∷ s ∷ [] → IsShapeAmong s xs
  two_arrive s xs is = subst (λ (ys : List Shape). IsShapeAmong s ys) (sym is) (record { arrives = (0, omega arith, refl); alone = only }) where
    only : All (λ t. t ≡ s) (s ∷ s ∷ [])
    only zero t lt = refl
    only (suc zero) t lt = refl
    only (suc (suc n)) t lt = absurd (omega (arith, lt))

  -- the place of the rest of the code
  pub place_is : (d at : ℕ) (rest : List Instr) → drop d (code p e) ≡ rest → length rest ≡ length (code p e) - (at + 1) → 0 < length rest → d ≡ at + 1
  place_is d at rest stands long some = let h : length rest ≡ length (code p e) - d = sym (ap length stands) ∙ drop_length (code p e) d in omega (arith, h, long, some)

  pub due_here : (n d : ℕ) (s : Shape) (xs : List (ℕ × Shape)) → d ≡ n → due_at n ((d, s) ∷ xs) ≡ s ∷ due_at n xs
  due_here n d s xs same = ap (λ (b : Bool). if b then s ∷ due_at n xs else due_at n xs) (eq-eqb d n same)

  pub due_past : (n d : ℕ) (s : Shape) (xs : List (ℕ × Shape)) → (d ≡ n → ⊥) → due_at n ((d, s) ∷ xs) ≡ due_at n xs
  due_past n d s xs ne = ap (λ (b : Bool). if b then s ∷ due_at n xs else due_at n xs) (ne_eqb d n ne)

  -- a jump ahead, and after it a place at which another jump landed
  pub jump_land : (d l : ℕ) (rest : List Instr) (s t : Shape) → left p (op.Jump d) s ≡ s → drop l (code p e) ≡ rest → length (code p e) - d < length rest → 0 < length (code p e) - d
      → ((at : ℕ) → nat_le d at ≡ false → nat_le (length (code p e)) d ≡ false → refused p e at (op.Jump d) s ≡ None)
      → Fit rest t ((d, s) ∷ []) → Fit (op.Jump d ∷ rest) s ((l, t) ∷ [])
  jump_land d l rest s t same stands lands inside fine f =
      step_fit (op.Jump d) rest s t ((l, t) ∷ []) ((d, s) ∷ [])
      (λ at past lt long. fine at (lt-leb d at (omega (arith, lands, long))) (lt-leb (length (code p e)) d (omega (arith, inside))))
      (λ at past long. one_arrives t _
      (ap (λ (x : Shape). due_at (at + 1) ((l, t) ∷ []) ++ toward (at + 1) (d ∷ []) x) same
      ∙ (ap (λ (xs : List Shape). xs ++ toward (at + 1) (d ∷ []) s) (due_here (at + 1) l t [] (place_is l at rest stands long (omega (arith, lands))))
      ∙ ap (λ (xs : List Shape). t ∷ xs) (toward_other (at + 1) d s (λ eq. omega (arith, eq, lands, long))))))
      (λ at n past long lt.
      let l_is : l ≡ at + 1 = place_is l at rest stands long (omega (arith, lands)) in
      ap (λ (x : Shape). due_at n ((l, t) ∷ []) ++ toward n (d ∷ []) x) same
      ∙ ap (λ (xs : List Shape). xs ++ toward n (d ∷ []) s) (due_past n l t [] (λ eq. let x : at + 1 < n = lt in omega (arith, x, eq, l_is))))
      f

  -- an end, and after it a place at which a jump landed, once or twice
  pub end_land : (d r : ℕ) (rest : List Instr) (s t u : Shape) → drop d (code p e) ≡ rest → 0 < length rest → length (code p e) - r < length rest
      → ((at : ℕ) → refused p e at op.End s ≡ None) → Fit rest t ((r, u) ∷ []) → Fit (op.End ∷ rest) s ((d, t) ∷ (r, u) ∷ [])
  end_land d r rest s t u stands some lands fine f =
      step_fit op.End rest s t ((d, t) ∷ (r, u) ∷ []) ((r, u) ∷ [])
      (λ at past lt long. fine at)
      (λ at past long. one_arrives t _ (append-nil (due_at (at + 1) ((d, t) ∷ (r, u) ∷ []))
      ∙ (due_here (at + 1) d t ((r, u) ∷ []) (place_is d at rest stands long some) ∙ ap (λ (xs : List Shape). t ∷ xs) (due_past (at + 1) r u [] (λ eq. omega (arith, eq, lands, long))))))
      (λ at n past long lt.
      let d_is : d ≡ at + 1 = place_is d at rest stands long some in
      append-nil (due_at n ((d, t) ∷ (r, u) ∷ [])) ∙ due_past n d t ((r, u) ∷ []) (λ eq. let x : at + 1 < n = lt in omega (arith, x, eq, d_is)))
      f

  pub end_land_twice : (d r : ℕ) (rest : List Instr) (s t u : Shape) → drop d (code p e) ≡ rest → 0 < length rest → length (code p e) - r < length rest
      → ((at : ℕ) → refused p e at op.End s ≡ None) → Fit rest t ((r, u) ∷ []) → Fit (op.End ∷ rest) s ((d, t) ∷ (d, t) ∷ (r, u) ∷ [])
  end_land_twice d r rest s t u stands some lands fine f =
      step_fit op.End rest s t ((d, t) ∷ (d, t) ∷ (r, u) ∷ []) ((r, u) ∷ [])
      (λ at past lt long. fine at)
      (λ at past long. let d_is : d ≡ at + 1 = place_is d at rest stands long some in
      two_arrive t _ (append-nil (due_at (at + 1) ((d, t) ∷ (d, t) ∷ (r, u) ∷ []))
      ∙ (due_here (at + 1) d t ((d, t) ∷ (r, u) ∷ []) d_is ∙ ap (λ (xs : List Shape). t ∷ xs)
      (due_here (at + 1) d t ((r, u) ∷ []) d_is ∙ ap (λ (xs : List Shape). t ∷ xs) (due_past (at + 1) r u [] (λ eq. omega (arith, eq, lands, long)))))))
      (λ at n past long lt.
      let d_is : d ≡ at + 1 = place_is d at rest stands long some in
      let far : d ≡ n → ⊥ = λ eq. let x : at + 1 < n = lt in omega (arith, x, eq, d_is) in
      append-nil (due_at n ((d, t) ∷ (d, t) ∷ (r, u) ∷ [])) ∙ (due_past n d t ((d, t) ∷ (r, u) ∷ []) far ∙ due_past n d t ((r, u) ∷ []) far))
      f

  -- an instruction that continues to a place at which a jump landed too
  pub join : (i : Instr) (r : ℕ) (rest : List Instr) (s t : Shape) → left p i s ≡ t → ((at : ℕ) → targets at i ≡ (at + 1) ∷ []) → drop r (code p e) ≡ rest → 0 < length rest
      → ((at : ℕ) → nat_le (length (code p e)) (at + 1) ≡ false → refused p e at i s ≡ None) → Fit rest t [] → Fit (i ∷ rest) s ((r, t) ∷ [])
  join i r rest s t is next stands some fine f =
      step_fit i rest s t ((r, t) ∷ []) []
      (λ at past lt long. fine at (lt-leb (length (code p e)) (at + 1) (omega (arith, long, some))))
      (λ at past long. two_arrive t _
      (ap (λ (ts : List ℕ). due_at (at + 1) ((r, t) ∷ []) ++ toward (at + 1) ts (left p i s)) (next at)
      ∙ (ap (λ (x : Shape). due_at (at + 1) ((r, t) ∷ []) ++ toward (at + 1) ((at + 1) ∷ []) x) is
      ∙ (ap (λ (xs : List Shape). due_at (at + 1) ((r, t) ∷ []) ++ xs) (toward_next at t)
      ∙ ap (λ (xs : List Shape). xs ++ (t ∷ [])) (due_here (at + 1) r t [] (place_is r at rest stands long some))))))
      (λ at n past long lt.
      let r_is : r ≡ at + 1 = place_is r at rest stands long some in
      ap (λ (ts : List ℕ). due_at n ((r, t) ∷ []) ++ toward n ts (left p i s)) (next at)
      ∙ (ap (λ (xs : List Shape). due_at n ((r, t) ∷ []) ++ xs) (toward_other n (at + 1) (left p i s) (λ same. let x : at + 1 < n = lt in omega (arith, x, same)))
      ∙ (append-nil (due_at n ((r, t) ∷ [])) ∙ due_past n r t [] (λ eq. let x : at + 1 < n = lt in omega (arith, x, eq, r_is)))))
      f

  -- the last end
  pub last : (s : Shape) → ((at : ℕ) → refused p e at op.End s ≡ None) → Fit (op.End ∷ []) s []
  last s fine = record { go = λ at stands so_far arr. (s ∷ [], (arr.here, fine at, tt)) }

  -- ---- no check fails

  pub from_all : (cs : List (Bool × Refusal)) → AllByRecursion (λ c. c.0 ≡ false) cs → first_of cs ≡ None
  from_all [] h = refl
  from_all ((true, r) ∷ cs) h = absurd cc
  from_all ((false, r) ∷ cs) h = from_all cs h.1

  abbrev pub IsEasy : Instr → Shape → Type 0
  IsEasy i s =
      (bad_slot p e i ≡ false) × (bad_file p i ≡ false) × (bad_text p i ≡ false) × (lacks_place i s.holding ≡ false) × (keeps_place i s.holding ≡ false)
      × (nat_lt (length s.kinds) (length (takes p i)) ≡ false) × (wrong_kind (takes p i) s.kinds ≡ false) × (unset_slot p e i s.set ≡ false) × (values_left i s.kinds ≡ false)
      × (nat_lt 64 (length (kinds_after p i s.kinds)) ≡ false)

  pub none_refused : (at : ℕ) (i : Instr) (s : Shape) → IsEasy i s → bad_jump (length (code p e)) at i ≡ false → falls_off (length (code p e)) at i ≡ false → refused p e at i s ≡ None
  unfolding refused
  none_refused at i s easy jumps falls =
      from_all (checks p e at i s) (easy.0, (jumps, (easy.1, (easy.2, (easy.3, (easy.4, (easy.5, (easy.6, (easy.7, (easy.8, (easy.9, (falls, tt))))))))))))
