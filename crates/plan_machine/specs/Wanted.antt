-- Which edges are wanted.
use Rattle.std.specs.Prelude.{◌≡◌, ◌↔◌, ℕ, Bool, true, List, [], ◌∷◌, length, Some, nat_le, slice_get}
use Rattle.std.specs.List.{list_any}
use Rattle.plan_image.specs.declared.image.Parts.{Parts}
use Rattle.plan_verify.specs.Members.{is_member}
use Rattle.plan_verify.specs.Tables.{waits_of}

-- the targets, or the image's defaults if there are none
abbrev pub chosen : Parts → List ℕ → List ℕ
chosen p [] = p.defaults
chosen p (t ∷ ts) = t ∷ ts

-- an edge is wanted: it is chosen, or a wanted edge waits for it
pub data IsWanted (p : Parts) (targets : List ℕ) : ℕ → Type 0 where
  is_chosen : {e : ℕ} → is_member e (chosen p targets) ≡ true → IsWanted p targets e
  is_waited : {e w : ℕ} → IsWanted p targets e → is_member w (waits_of p e) ≡ true → IsWanted p targets w

-- for each edge of the image, whether it is wanted
pub record AreWanted (p : Parts) (targets : List ℕ) (wanted : List Bool) : Type 0 where
  pub long : length wanted ≡ length p.edges
  pub each : (e : ℕ) → (slice_get wanted e ≡ Some true) ↔ IsWanted p targets e

-- a target is no edge of the image
abbrev pub any_outside : Parts → List ℕ → Bool
any_outside p targets = list_any (λ e. nat_le (length p.edges) e) targets
