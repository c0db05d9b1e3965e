-- The kinds that an instruction takes, compared in turn with those on the stack.
use Rattle.std.proofs.Common.{◌≡◌, ℕ, zero, suc, ◌+◌, ◌<◌, Bool, true, false, List, [], ◌∷◌, length, drop, get_or, Option, Some, None, refl, sym, ap, ◌∙◌}
use Rattle.std.specs.List.{slice_get}
use Rattle.std.specs.Prelude.{not, ◌||◌}
use Rattle.std.proofs.lemmas.List.{drop_more}
use Rattle.plan_image.specs.declared.body.Kind.{Kind}
use Rattle.plan_verify.specs.Shape.{wrong_kind, is_wanted}
use Rattle.plan_verify.specs.Wanted.{options}
use Rattle.plan_verify.proofs.OwnSlotsLemmas.{rest_at}

rest_none : {A : Type 0} (i : ℕ) (xs : List A) → slice_get xs i ≡ None → drop i xs ≡ []
rest_none zero [] e = refl
rest_none (suc i) [] e = refl
rest_none zero (y ∷ ys) e = cc
rest_none (suc i) (y ∷ ys) e = rest_none i ys e

module _ (wanted : List (Option (Option Kind))) (kinds : List Kind) (i d : ℕ) (total : Bool) (in_range : i < length wanted) (so_far : wrong_kind (options (drop i wanted)) (drop d kinds) ≡ total) where
  wants : (w : Option (Option Kind)) → get_or wanted i None ≡ w → wrong_kind (options (w ∷ drop (i + 1) wanted)) (drop d kinds) ≡ total
  wants w at = ap (λ (ws : List (Option (Option Kind))). wrong_kind (options ws) (drop d kinds)) (sym (drop_more wanted i None in_range ∙ ap (λ (x : Option (Option Kind)). x ∷ drop (i + 1) wanted) at)) ∙ so_far

  pub passes_by : get_or wanted i None ≡ None → wrong_kind (options (drop (i + 1) wanted)) (drop d kinds) ≡ total
  passes_by at = wants None at

  pub is_out : (want : Option Kind) → get_or wanted i None ≡ Some want → slice_get kinds d ≡ None → false ≡ total
  is_out want at none = (let e : wrong_kind (options (Some want ∷ drop (i + 1) wanted)) (drop d kinds) ≡ false = rw (rest_none d kinds none) refl in sym e) ∙ wants (Some want) at

  at_kind : (want : Option Kind) (k : Kind) → get_or wanted i None ≡ Some want → slice_get kinds d ≡ Some k → (not (is_wanted want k) || wrong_kind (options (drop (i + 1) wanted)) (drop (d + 1) kinds)) ≡ total
  at_kind want k at got = (let e : wrong_kind (options (Some want ∷ drop (i + 1) wanted)) (drop d kinds) ≡ (not (is_wanted want k) || wrong_kind (options (drop (i + 1) wanted)) (drop (d + 1) kinds)) = rw (rest_at d kinds k got) refl in sym e) ∙ wants (Some want) at

  pub clashes_here : (want : Option Kind) (k : Kind) → get_or wanted i None ≡ Some want → slice_get kinds d ≡ Some k → is_wanted want k ≡ false → true ≡ total
  clashes_here want k at got misfit = (let e : (not (is_wanted want k) || wrong_kind (options (drop (i + 1) wanted)) (drop (d + 1) kinds)) ≡ true = rw misfit refl in sym e) ∙ at_kind want k at got

  pub fits_here : (want : Option Kind) (k : Kind) → get_or wanted i None ≡ Some want → slice_get kinds d ≡ Some k → is_wanted want k ≡ true → wrong_kind (options (drop (i + 1) wanted)) (drop (d + 1) kinds) ≡ total
  fits_here want k at got fitting = (let e : (not (is_wanted want k) || wrong_kind (options (drop (i + 1) wanted)) (drop (d + 1) kinds)) ≡ wrong_kind (options (drop (i + 1) wanted)) (drop (d + 1) kinds) = rw fitting refl in sym e) ∙ at_kind want k at got
