-- Lines with too few words. Lemmas for src/events.rt.
use Rattle.std.proofs.Common.{◌≡◌, ◌<◌, ℕ, List, [], ◌∷◌, None, length, map, arith, refl}
use Rattle.plan_trace.specs.Reading.{event_of}

pub few : {W : Type 0} (now : W → List ℕ) (words : List W) → length words < 2 → event_of (map now words) ≡ None
few now [] less = refl
few now (word ∷ []) less = refl
few now (word ∷ next ∷ words) less = absurd (omega (arith, less))
