-- A list, item by item. Used for src/manifest.
use Rattle.std.proofs.Common.{◌≡◌, ℕ, suc, ◌+◌, ◌<◌, drop, add-one, drop-cons, List, [], ◌∷◌, ◌++◌, append-nil, append_assoc, length, ap, sym, ◌∙◌, get_or}

-- The rest from an item on is this item, followed by the rest after it.
pub one_dropped : {X : Type 0} (all : List X) (i : ℕ) (s : X) → i < length all → s ≡ get_or all i s → drop i all ≡ s ∷ drop (i + 1) all
one_dropped all i s lt e = let d : drop i all ≡ get_or all i s ∷ drop (suc i) all = drop-cons all i s lt in rw add-one (d ∙ ap (λ x. x ∷ drop (suc i) all) (sym e))

pub dropped_at : {X : Type 0} (all : List X) (i : ℕ) (d : X) → i < length all → drop i all ≡ get_or all i d ∷ drop (i + 1) all
dropped_at all i d lt = let e : drop i all ≡ get_or all i d ∷ drop (suc i) all = drop-cons all i d lt in rw add-one e

-- One more item is taken from the rest.
pub one_given : {X : Type 0} (front rest next all : List X) (x : X) → rest ≡ x ∷ next → front ++ rest ≡ all → (front ++ x ∷ []) ++ next ≡ all
one_given front rest next all x e h = append_assoc front (x ∷ []) next ∙ (ap (λ r. front ++ r) (sym e) ∙ h)

-- If the rest is empty, all items were taken.
pub all_given : {X : Type 0} (front rest all : List X) → rest ≡ [] → front ++ rest ≡ all → front ≡ all
all_given front rest all e h = sym (append-nil front) ∙ (ap (λ r. front ++ r) (sym e) ∙ h)
