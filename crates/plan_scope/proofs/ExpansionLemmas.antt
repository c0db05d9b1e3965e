-- A text that is found in steps is the one that is found with names in use. Used for src/edge/expansion.rt.
use Rattle.std.proofs.Common.{◌≡◌, ℕ, zero, suc, ◌≤◌, Bool, true, false, ◌||◌, List, [], ◌∷◌, Option, Some, None, refl, ap, sym, subst, ◌∙◌, bytes_eq, arith}
use Rattle.std.specs.List.{list_any}
use Rattle.std.proofs.lemmas.Slice.Eq.{bytes_eq-Decides}
use Rattle.plan_text.specs.declared.piece_reader.Piece.{Piece}
use Rattle.plan_text.specs.declared.piece_reader.Piece.TheVariants.{Literal, Reference}
use Rattle.plan_scope.specs.Scopes.{Text, Name}
use Rattle.plan_scope.specs.Expansion.{Meaning, Known, Late, both, text_of_piece, joined, text_of, text_within}
use Rattle.plan_scope.specs.Memo.{text_by}

-- A text that is known.
within_known : (meaning : Name → Meaning) (n : ℕ) (in_use : List Name) (name : Name) (t : Text) → meaning name ≡ Known t → text_within n meaning in_use name ≡ Some t
within_known meaning zero in_use name t e = ap (λ m. text_of m true (λ pieces. None)) e
within_known meaning (suc n) in_use name t e = ap (λ m. text_of m (list_any (bytes_eq name) in_use) (joined (text_within n meaning (name ∷ in_use)))) e

-- The second gives each text that the first gives.
abbrev Less : {X : Type 0} → (X → Option Text) → (X → Option Text) → Type 0
Less {X} f g = (x : X) (t : Text) → f x ≡ Some t → g x ≡ Some t

both_more : (a b c d : Option Text) → ((t : Text) → a ≡ Some t → c ≡ Some t) → ((t : Text) → b ≡ Some t → d ≡ Some t) → (t : Text) → both a b ≡ Some t → both c d ≡ Some t
both_more None b c d h k t e = cc
both_more (Some x) None c d h k t e = cc
both_more (Some x) (Some y) c d h k t e =
    ap (λ (o : Option Text). both o d) (h x refl) ∙ (ap (λ (o : Option Text). both (Some x) o) (k y refl) ∙ e)

piece_more : (f g : Name → Option Text) → Less f g → (p : Piece) (t : Text) → text_of_piece f p ≡ Some t → text_of_piece g p ≡ Some t
piece_more f g h (Literal text) t e = e
piece_more f g h (Reference name) t e = h name t e

joined_more : (f g : Name → Option Text) → Less f g → (ps : List Piece) (t : Text) → joined f ps ≡ Some t → joined g ps ≡ Some t
joined_more f g h [] t e = e
joined_more f g h (p ∷ ps) t e = both_more (text_of_piece f p) (joined f ps) (text_of_piece g p) (joined g ps) (piece_more f g h p) (joined_more f g h ps) t e

-- A text stays the same if its name is no longer in use.
meant_more : (a : Meaning) (s : Bool) (f g : List Piece → Option Text) → Less f g → (t : Text) → text_of a s f ≡ Some t → text_of a false g ≡ Some t
meant_more (Known x) s f g h t e = e
meant_more (Late ps) true f g h t e = cc
meant_more (Late ps) false f g h t e = h ps t e

none_more : (a : Meaning) (g : List Piece → Option Text) (t : Text) → text_of a true (λ pieces. None) ≡ Some t → text_of a false g ≡ Some t
none_more (Known x) g t e = e
none_more (Late ps) g t e = cc

-- More steps give the same text.
pub by_more : (m : Name → Meaning) (n k : ℕ) → n ≤ k → Less (text_by n m) (text_by k m)
by_more m zero zero le x t e = e
by_more m zero (suc k) le x t e = none_more (m x) (joined (text_by k m)) t e
by_more m (suc n) zero le x t e = let f : ⊥ = omega arith in absurd f
by_more m (suc n) (suc k) le x t e =
    meant_more (m x) false (joined (text_by n m)) (joined (text_by k m)) (joined_more (text_by n m) (text_by k m) (by_more m n k (omega arith))) t e

-- A text that is found with names in use is found in steps too.
within_by : (m : Name → Meaning) (n : ℕ) (used : List Name) → Less (text_within n m used) (text_by n m)
within_by m zero used x t e = e
within_by m (suc n) used x t e =
    meant_more (m x) (list_any (bytes_eq x) used) (joined (text_within n m (x ∷ used))) (joined (text_by n m)) (joined_more (text_within n m (x ∷ used)) (text_by n m) (within_by m n (x ∷ used))) t e

-- None of these names has a text.
abbrev NoneOf : (Name → Option Text) → List Name → Type 0
NoneOf f [] = Unit {0}
NoneOf f (u ∷ us) = (f u ≡ None) × NoneOf f us

lost : (a b : Option Text) → ((t : Text) → a ≡ Some t → b ≡ Some t) → b ≡ None → a ≡ None
lost None b h e = refl
lost (Some x) b h e = let k : b ≡ Some x = h x refl in cc

none_less : (f g : Name → Option Text) → Less f g → (us : List Name) → NoneOf g us → NoneOf f us
none_less f g h [] e = tt {0}
none_less f g h (u ∷ us) e = (lost (f u) (g u) (h u) e.0, none_less f g h us e.1)

differs : (b : Bool) → (b ≡ true → ⊥) → b ≡ false
differs true h = absurd (h refl)
differs false h = refl

no_text : (o : Option Text) (t : Text) → o ≡ None → o ≡ Some t → ⊥
no_text o t e f = cc

not_used : (f : Name → Option Text) (x : Name) (t : Text) → f x ≡ Some t → (us : List Name) → NoneOf f us → list_any (bytes_eq x) us ≡ false
not_used f x t e [] h = refl
not_used f x t e (u ∷ us) h =
    ap (λ b. b || list_any (bytes_eq x) us) (differs (bytes_eq x u) (λ k. no_text (f u) t h.0 (subst (λ (y : Name). f y ≡ Some t) ((bytes_eq-Decides x u).0 k) e)))
    ∙ not_used f x t e us h.1

abbrev Finds : (Name → Meaning) → ℕ → Type 0
Finds m k = (n : ℕ) → k ≤ n → (used : List Name) → NoneOf (text_by k m) used → Less (text_by k m) (text_within n m used)

at_none : (m : Name → Meaning) (n : ℕ) (used : List Name) (x : Name) (t : Text) (a : Meaning) → m x ≡ a → text_of a true (λ pieces. None) ≡ Some t → text_within n m used x ≡ Some t
at_none m n used x t (Known y) e h = within_known m n used x y e ∙ h
at_none m n used x t (Late ps) e h = cc

late_found : (m : Name → Meaning) (j n : ℕ) (used : List Name) (x : Name) (t : Text) (a : Meaning) → m x ≡ a → j ≤ n → Finds m j → text_by j m x ≡ None
    → NoneOf (text_by (suc j) m) used → text_by (suc j) m x ≡ Some t → text_within (suc n) m used x ≡ Some t
late_found m j n used x t (Known y) e le ih none free h =
    within_known m (suc n) used x y e ∙ (sym (ap (λ a. text_of a false (joined (text_by j m))) e) ∙ h)
late_found m j n used x t (Late ps) e le ih none free h =
    ap (λ a. text_of a (list_any (bytes_eq x) used) (joined (text_within n m (x ∷ used)))) e
    ∙ (ap (λ b. text_of (Late ps) b (joined (text_within n m (x ∷ used)))) (not_used (text_by (suc j) m) x t h used free)
    ∙ joined_more (text_by j m) (text_within n m (x ∷ used)) (ih n le (x ∷ used) (none, none_less (text_by j m) (text_by (suc j) m) (by_more m j (suc j) (omega arith)) used free)) ps t
    (sym (ap (λ a. text_of a false (joined (text_by j m))) e) ∙ h))

step_found : (m : Name → Meaning) (j n : ℕ) (used : List Name) (x : Name) (t : Text) (o : Option Text) → text_by j m x ≡ o → suc j ≤ n → Finds m j
    → NoneOf (text_by (suc j) m) used → text_by (suc j) m x ≡ Some t → text_within n m used x ≡ Some t
step_found m j zero used x t o e le ih free h = let f : ⊥ = omega arith in absurd f
step_found m j (suc n) used x t None e le ih free h = late_found m j n used x t (m x) refl (omega arith) ih e free h
step_found m j (suc n) used x t (Some y) e le ih free h =
    let more : text_by (suc j) m x ≡ Some y = by_more m j (suc j) (omega arith) x y e in
    let same : text_by j m x ≡ Some t = e ∙ (sym more ∙ h) in
    ih (suc n) (omega arith) used (none_less (text_by j m) (text_by (suc j) m) (by_more m j (suc j) (omega arith)) used free) x t same

-- If no name in use has a text within a number of steps, none is met on the way to a name that has one.
by_within : (m : Name → Meaning) (k : ℕ) → Finds m k
by_within m zero n le used free x t e = at_none m n used x t (m x) refl e
by_within m (suc j) n le used free x t e = step_found m j n used x t (text_by j m x) refl le (by_within m j) free e

equal_by : (a b : Option Text) → ((t : Text) → a ≡ Some t → b ≡ Some t) → ((t : Text) → b ≡ Some t → a ≡ Some t) → a ≡ b
equal_by None None h k = refl
equal_by None (Some y) h k = k y refl
equal_by (Some x) b h k = sym (h x refl)

-- If no name is in use, the same texts are found in the same number of steps.
pub within_is_by : (m : Name → Meaning) (n : ℕ) (x : Name) → text_within n m [] x ≡ text_by n m x
within_is_by m n x = equal_by (text_within n m [] x) (text_by n m x) (within_by m n [] x) (by_within m n n (omega arith) [] (tt {0}) x)

-- More steps give a piece the same text.
pub piece_by : (m : Name → Meaning) (n k : ℕ) → n ≤ k → (p : Piece) (t : Text) → text_of_piece (text_by n m) p ≡ Some t → text_of_piece (text_by k m) p ≡ Some t
piece_by m n k le = piece_more (text_by n m) (text_by k m) (by_more m n k le)

-- More steps give pieces the same text.
pub joined_by : (m : Name → Meaning) (n k : ℕ) → n ≤ k → (ps : List Piece) (t : Text) → joined (text_by n m) ps ≡ Some t → joined (text_by k m) ps ≡ Some t
joined_by m n k le = joined_more (text_by n m) (text_by k m) (by_more m n k le)
