-- The items of a list that is built index by index. Lemmas for src/edges.rt and src/edge_ref.rt.
use Rattle.std.proofs.Common.{◌≡◌, ℕ, zero, suc, ◌+◌, ◌<◌, ◌≤◌, List, [], ◌∷◌, ◌++◌, length, get_or, drop, take, Option, Some, None, true, refl, sym, ap, ◌∙◌, arith}
use Rattle.std.specs.Prelude.{slice_get, option_map, is_some}
use Rattle.std.proofs.lemmas.List.{get_or-take, get_or_at, get_or_append_left, length-take-le}
use Rattle.plan_image.specs.declared.image.Edge.{Edge}
use Rattle.plan_image.specs.declared.body.Instr.{Instr}
use Rattle.plan_image.specs.declared.edge_ref.Head.{Head}
use Rattle.plan_image.specs.Opcodes.{instr_by}
use Rattle.plan_image.specs.Columns.{by_place, code_by, instr_with, instrs_by, edge_with, shared_body, shared_operands, AreSameBelow}

pub at : {X : Type 0} (xs : List X) (i : ℕ) (x : X) → i < length xs → x ≡ get_or xs i x → slice_get xs i ≡ Some x
at [] i x h e = absurd (omega (arith, h))
at (y ∷ xs) zero x h e = ap Some (sym e)
at (y ∷ xs) (suc i) x h e = at xs i x (omega (arith, h)) e

past : {X : Type 0} (xs : List X) (i : ℕ) → length xs ≤ i → slice_get xs i ≡ None
past [] i h = refl
past (y ∷ xs) zero h = absurd (omega (arith, h))
past (y ∷ xs) (suc i) h = past xs i (omega (arith, h))

module _ {X Y : Type 0} where
  pub length_by : (f : ℕ → X → Y) (n : ℕ) (xs : List X) → length (by_place f n xs) ≡ length xs
  length_by f n [] = refl
  length_by f n (x ∷ xs) = ap suc (length_by f (n + 1) xs)

  get_from : (f : ℕ → X → Y) (n : ℕ) (xs : List X) (i : ℕ) → slice_get (by_place f n xs) i ≡ option_map (f (n + i)) (slice_get xs i)
  get_from f n [] i = refl
  get_from f n (x ∷ xs) zero = let here : n + 0 ≡ n = omega arith in ap (λ k. Some (f k x)) (sym here)
  get_from f n (x ∷ xs) (suc i) = let next : n + 1 + i ≡ n + suc i = omega arith in get_from f (n + 1) xs i ∙ ap (λ k. option_map (f k) (slice_get xs i)) next

  pub get_by : (f : ℕ → X → Y) (xs : List X) (i : ℕ) → slice_get (by_place f 0 xs) i ≡ option_map (f i) (slice_get xs i)
  get_by f xs i = let same : 0 + i ≡ i = omega arith in get_from f 0 xs i ∙ ap (λ k. option_map (f k) (slice_get xs i)) same

  pub found_by : (f : ℕ → X → Y) (xs : List X) (i : ℕ) (x : X) → i < length xs → x ≡ get_or xs i x → slice_get (by_place f 0 xs) i ≡ Some (f i x)
  found_by f xs i x h e = get_by f xs i ∙ ap (option_map (f i)) (at xs i x h e)

  -- there is no item after the last one
  pub past_by : (f : ℕ → X → Y) (xs : List X) (i : ℕ) → length xs ≤ i → slice_get (by_place f 0 xs) i ≡ None
  past_by f xs i h = get_by f xs i ∙ ap (option_map (f i)) (past xs i h)

  drop_from : (f : ℕ → X → Y) (n : ℕ) (xs : List X) (i : ℕ) (x : X) → i < length xs → x ≡ get_or xs i x → drop i (by_place f n xs) ≡ f (n + i) x ∷ drop (i + 1) (by_place f n xs)
  drop_from f n [] i x h e = absurd (omega (arith, h))
  drop_from f n (y ∷ xs) zero x h e =
      let here : n ≡ n + 0 = omega arith in ap (λ k. f k y ∷ by_place f (n + 1) xs) here ∙ ap (λ z. f (n + 0) z ∷ by_place f (n + 1) xs) (sym e)
  drop_from f n (y ∷ xs) (suc i) x h e =
      let next : n + 1 + i ≡ n + suc i = omega arith in
      let more : suc i + 1 ≡ suc (i + 1) = omega arith in
      drop_from f (n + 1) xs i x (omega (arith, h)) e ∙ (ap (λ k. f k x ∷ drop (i + 1) (by_place f (n + 1) xs)) next ∙ ap (λ k. f (n + suc i) x ∷ drop k (by_place f n (y ∷ xs))) (sym more))

  pub drop_by : (f : ℕ → X → Y) (xs : List X) (i : ℕ) (x : X) → i < length xs → x ≡ get_or xs i x → drop i (by_place f 0 xs) ≡ f i x ∷ drop (i + 1) (by_place f 0 xs)
  drop_by f xs i x h e = let same : 0 + i ≡ i = omega arith in drop_from f 0 xs i x h e ∙ ap (λ k. f k x ∷ drop (i + 1) (by_place f 0 xs)) same

  more_from : (f : ℕ → X → Y) (n : ℕ) (xs : List X) (x : X) → by_place f n (xs ++ x ∷ []) ≡ by_place f n xs ++ f (n + length xs) x ∷ []
  more_from f n [] x = let here : n ≡ n + 0 = omega arith in ap (λ k. f k x ∷ []) here
  more_from f n (y ∷ xs) x =
      let next : n + 1 + length xs ≡ n + suc (length xs) = omega arith in
      ap (λ (ys : List Y). f n y ∷ ys) (more_from f (n + 1) xs x ∙ ap (λ k. by_place f (n + 1) xs ++ f k x ∷ []) next)

  pub same_from : (f g : ℕ → X → Y) (n : ℕ) (xs : List X) → ((i : ℕ) (x : X) → i < n + length xs → f i x ≡ g i x) → by_place f n xs ≡ by_place g n xs
  same_from f g n [] h = refl
  same_from f g n (x ∷ xs) h =
      ap (λ y. y ∷ by_place f (n + 1) xs) (h n x (omega arith)) ∙ ap (λ (ys : List Y). g n x ∷ ys) (same_from f g (n + 1) xs (λ i y lt. h i y (omega (arith, lt))))

  -- one more item, if the others stay the same
  pub grows_by : (f g : ℕ → X → Y) (xs : List X) (x : X) (y : Y) → ((i : ℕ) (z : X) → i < length xs → g i z ≡ f i z) → g (length xs) x ≡ y
      → by_place g 0 (xs ++ x ∷ []) ≡ by_place f 0 xs ++ y ∷ []
  grows_by f g xs x y h e =
      let same : 0 + length xs ≡ length xs = omega arith in
      more_from g 0 xs x
      ∙ (ap (λ k. by_place g 0 xs ++ g k x ∷ []) same
      ∙ (ap (λ z. by_place g 0 xs ++ z ∷ []) e ∙ ap (λ (ys : List Y). ys ++ y ∷ []) (same_from g f 0 xs (λ i z lt. h i z (omega (arith, lt))))))

  there : {Z : Type 0} (p : Y → Z) (z : Z) (g : X → Y) (xs : List X) (i : ℕ) → i < length xs → ((x : X) → p (g x) ≡ z) → option_map p (option_map g (slice_get xs i)) ≡ Some z
  there p z g [] i lt e = absurd (omega (arith, lt))
  there p z g (x ∷ xs) zero lt e = ap Some (e x)
  there p z g (x ∷ xs) (suc i) lt e = there p z g xs i (omega (arith, lt)) e

  -- a property that does not depend on the item
  pub each_by : {Z : Type 0} (p : Y → Z) (z : Z) (f : ℕ → X → Y) (xs : List X) (i : ℕ) → i < length xs → ((x : X) → p (f i x) ≡ z) → option_map p (slice_get (by_place f 0 xs) i) ≡ Some z
  each_by p z f xs i h e = ap (option_map p) (get_by f xs i) ∙ there p z (f i) xs i h e

-- ---- instructions

-- one more instruction
pub instrs_more : (os ns : List ℕ) (o n : ℕ) (i : Instr) → length os ≡ length ns → instr_by o n ≡ i → instrs_by (os ++ o ∷ []) (ns ++ n ∷ []) ≡ instrs_by os ns ++ i ∷ []
instrs_more os ns o n i long e =
    grows_by (instr_with ns) (instr_with (ns ++ n ∷ [])) os o i
    (λ k z lt. ap (instr_by z) (get_or_append_left ns (n ∷ []) 0 k (omega (arith, lt, long))))
    (ap (instr_by o) (get_or_at ns n [] 0 (length os) (sym long)) ∙ e)

-- ---- rows

-- the rows before a number, and one after them
pub row_put : {X : Type 0} (rows : List (List X)) (n : ℕ) (row : List X) → n ≤ length rows → get_or (take n rows ++ row ∷ []) n [] ≡ row
row_put rows n row h = get_or_at (take n rows) row [] [] n (length-take-le n rows h)

pub rows_kept : {X : Type 0} (rows : List (List X)) (n : ℕ) (row : List X) → n ≤ length rows → AreSameBelow n rows (take n rows ++ row ∷ [])
rows_kept rows n row h i lt = let long = length-take-le n rows h in get_or_append_left (take n rows) (row ∷ []) [] i (omega (arith, lt, long)) ∙ get_or-take n rows i [] lt

pub rows_cut : {X : Type 0} (rows : List (List X)) (n : ℕ) → AreSameBelow n rows (take n rows)
rows_cut rows n i lt = get_or-take n rows i [] lt

pub rows_stay : {X : Type 0} (rows : List (List X)) (n : ℕ) → AreSameBelow n rows rows
rows_stay rows n i lt = refl

-- ---- edges

pub edge_same : (a a' b b' c c' d d' : List (List ℕ)) (n : ℕ) → AreSameBelow n a a' → AreSameBelow n b b' → AreSameBelow n c c' → AreSameBelow n d d'
    → (i : ℕ) (h : Head) → i < n → edge_with a' b' c' d' i h ≡ edge_with a b c d i h
edge_same a a' b b' c c' d d' n p q r s i h lt = rw (p i lt, q i lt, r i lt, s i lt) refl

-- edges stay the same if their rows do
pub edges_same : (hs : List Head) (n : ℕ) (a a' b b' c c' d d' : List (List ℕ)) → n ≡ length hs → AreSameBelow n a a' → AreSameBelow n b b' → AreSameBelow n c c' → AreSameBelow n d d'
    → by_place (edge_with a' b' c' d') 0 hs ≡ by_place (edge_with a b c d) 0 hs
edges_same hs n a a' b b' c c' d d' e p q r s =
    same_from (edge_with a' b' c' d') (edge_with a b c d) 0 hs (λ i h lt. edge_same a a' b b' c c' d d' n p q r s i h (omega (arith, e, lt)))

-- one more edge
pub edges_more : (hs : List Head) (n : ℕ) (h : Head) (x : Edge) (a a' b b' c c' d d' : List (List ℕ)) → n ≡ length hs → AreSameBelow n a a' → AreSameBelow n b b' → AreSameBelow n c c' → AreSameBelow n d d'
    → edge_with a' b' c' d' n h ≡ x → by_place (edge_with a' b' c' d') 0 (hs ++ h ∷ []) ≡ by_place (edge_with a b c d) 0 hs ++ x ∷ []
edges_more hs n h x a a' b b' c c' d d' e p q r s shown =
    grows_by (edge_with a b c d) (edge_with a' b' c' d') hs h x (λ i z lt. edge_same a a' b b' c c' d d' n p q r s i z (omega (arith, e, lt)))
    (ap (λ k. edge_with a' b' c' d' k h) (sym e) ∙ shown)

-- the body in a column is the one that the code shares, and then the operands are those of their column
pub shared_is : (b : Option ℕ) (os ns : List ℕ) → b ≡ shared_body (Some (code_by b os ns))
shared_is None os ns = refl
shared_is (Some b) os ns = refl

operands_by : (b : Option ℕ) (os ns : List ℕ) → is_some (shared_body (Some (code_by b os ns))) ≡ true → ns ≡ shared_operands (Some (code_by b os ns))
operands_by None os ns t = absurd cc
operands_by (Some b) os ns t = refl

pub operands_are : (outputs waits opcodes operands : List (List ℕ)) (e : ℕ) (o : Option Head)
    → is_some (shared_body (option_map (λ (edge : Edge). edge.code) (option_map (edge_with outputs waits opcodes operands e) o))) ≡ true
    → get_or operands e [] ≡ shared_operands (option_map (λ (edge : Edge). edge.code) (option_map (edge_with outputs waits opcodes operands e) o))
operands_are outputs waits opcodes operands e None t = absurd cc
operands_are outputs waits opcodes operands e (Some h) t = operands_by h.body (get_or opcodes e []) (get_or operands e []) t
