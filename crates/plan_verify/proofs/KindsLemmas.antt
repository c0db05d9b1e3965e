-- Equality of lists of kinds, and the rest of a list after a place.
use Rattle.std.proofs.Common.{◌≡◌, ℕ, ◌+◌, ◌-◌, List, [], ◌∷◌, ◌++◌, length, take, drop, refl, sym, ap, ◌∙◌, Decides}
use Rattle.std.specs.Prelude.{reverse}
use Rattle.std.proofs.lemmas.List.{reverse-reverse, drop-drop, length-drop}
use Rattle.plan_image.specs.declared.body.Kind.{Kind}
use Rattle.plan_image.specs.declared.body.Kind.TheVariants as kind
use Rattle.plan_verify.specs.Stack.{swapped}
use Rattle.plan_image.specs.contracts.body.KindPartialEq.TheImpl as impl

-- `==` of kinds decides equality
pub kinds_decide : (a b : Kind) → Decides (impl.eq-value.it a b) (a ≡ b)
kinds_decide kind.Stamp kind.Stamp = (λ _. refl, λ _. refl)
kinds_decide kind.Flag kind.Flag = (λ _. refl, λ _. refl)
kinds_decide kind.Text kind.Text = (λ _. refl, λ _. refl)
kinds_decide kind.Paths kind.Paths = (λ _. refl, λ _. refl)
kinds_decide kind.Swept kind.Swept = (λ _. refl, λ _. refl)
kinds_decide _ _ = (λ e. cc, λ e. cc)

-- lists are equal if their reversals are equal
pub reverse_same : {A : Type 0} (xs ys : List A) → reverse xs ≡ reverse ys → xs ≡ ys
reverse_same xs ys e = sym (reverse-reverse xs) ∙ ap reverse e ∙ reverse-reverse ys

-- the rest after two cuts
pub dropped : {A : Type 0} (m n : ℕ) (xs : List A) → drop m (drop n xs) ≡ drop (n + m) xs
dropped m n xs = drop-drop m n xs

pub lengths : {A : Type 0} (i : ℕ) (xs : List A) → length (drop i xs) ≡ length xs - i
lengths i xs = length-drop i xs

-- swapping the two top kinds keeps the length
pub turned_len : (kinds : List Kind) → length (swapped (take 2 kinds) ++ drop 2 kinds) ≡ length kinds
turned_len [] = refl
turned_len (x ∷ []) = refl
turned_len (x ∷ y ∷ kinds) = refl
