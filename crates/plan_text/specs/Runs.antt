-- Runs of units: the length of a sequence of units at the front of a text.
use Rattle.std.specs.Prelude.{ℕ, zero, suc, List, [], ◌∷◌}

-- 0 if there is no unit, and else its n bytes and the bytes that follow
abbrev pub and_more : ℕ → (ℕ → ℕ) → ℕ
and_more zero more = 0
and_more (suc n) more = suc (more n)

-- The number of bytes at the front of a text that are units, including the bytes to skip. `size` is the length
-- of the unit that a text begins with, or 0 if it begins with none.
--
-- Skipping: a definition that goes over a text in steps of several bytes, such as `run_past`, also takes the
-- number of bytes to skip first. Each step then recurses on the text without its first byte, whatever the
-- length of the step is, and no measure is needed.
abbrev pub run_past : (List ℕ → ℕ) → List ℕ → ℕ → ℕ
run_past size [] skip = 0
run_past size (b ∷ rest) (suc skip) = suc (run_past size rest skip)
run_past size (b ∷ rest) zero = and_more (size (b ∷ rest)) (λ skip. run_past size rest skip)

-- the number of bytes at the front of a text that are units
abbrev pub run : (List ℕ → ℕ) → List ℕ → ℕ
run size text = run_past size text 0
