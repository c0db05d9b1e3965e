-- A walk along waits.
use Rattle.std.specs.Prelude.{◌≡◌, ◌⊎◌, ℕ, ◌+◌, ◌*◌, Bool, true, false, List, [], ◌∷◌, length, Option, Some, None, slice_get, slice_set}
use Rattle.plan_image.specs.declared.image.Parts.{Parts}
use Rattle.plan_verify.specs.Tables.{waits_of}
use Rattle.plan_verify.specs.Members.{is_member}
use Rattle.plan_machine.specs.Wanted.{IsWanted, chosen}

-- for each edge whether it was met, and the edges that were met and not yet continued from, the latest first
pub record Walked : Type 0 where
  pub met : List Bool
  pub ahead : List ℕ

abbrev pub meet_by : Walked → ℕ → Option Bool → Walked
meet_by w e (Some false) = record { met = slice_set w.met e true; ahead = e ∷ w.ahead }
meet_by w e (Some true) = w
meet_by w e None = w

-- meets an edge
abbrev pub meet : Walked → ℕ → Walked
meet w e = meet_by w e (slice_get w.met e)

abbrev pub meet_all : Walked → List ℕ → Walked
meet_all w [] = w
meet_all w (e ∷ es) = meet_all (meet w e) es

abbrev pub unmet : List Bool → ℕ
unmet [] = 0
unmet (true ∷ met) = unmet met
unmet (false ∷ met) = 1 + unmet met

-- the measure of the remaining work
abbrev pub left : Walked → ℕ
left w = 2 * unmet w.met + length w.ahead

-- an edge to continue from, or None if none is left
abbrev pub IsNext : Walked → Option ℕ → Walked → Type 0
IsNext old (Some e) new = (old.ahead ≡ e ∷ new.ahead) × (new.met ≡ old.met)
IsNext old None new = (old.ahead ≡ []) × (new ≡ old)

-- Each met edge is wanted. The chosen edges were met, and so were the waits of each edge that was continued
-- from.
pub record Walks (p : Parts) (targets : List ℕ) (w : Walked) : Type 0 where
  pub long : length w.met ≡ length p.edges
  pub begun : (e : ℕ) → is_member e (chosen p targets) ≡ true → slice_get w.met e ≡ Some true
  pub sound : (e : ℕ) → slice_get w.met e ≡ Some true → IsWanted p targets e
  pub on : (e v : ℕ) → slice_get w.met e ≡ Some true → is_member v (waits_of p e) ≡ true → (is_member e w.ahead ≡ true) ⊎ (slice_get w.met v ≡ Some true)
  pub ahead_met : (e : ℕ) → is_member e w.ahead ≡ true → slice_get w.met e ≡ Some true
