-- What other edges left for an edge, in the slots that it may read.
use Rattle.std.specs.Prelude.{◌≡◌, ℕ, Bool, true, List, [], ◌∷◌}
use Rattle.plan_image.specs.declared.image.Parts.{Parts}
use Rattle.plan_image.specs.Code.{code}
use Rattle.plan_verify.specs.Turn.{Slots}
use Rattle.plan_compile.specs.declared.layout.Input.{Input}
use Rattle.plan_compile.specs.declared.layout.Input.TheVariants.{File, Made}
use Rattle.plan_compile.specs.Loaded.{loads}
use Rattle.plan_compile.specs.Means.{stamp_at, flag_at}
use Rattle.plan_reasons.specs.declared.facts.NamedInput.{NamedInput}
use Rattle.plan_reasons.specs.declared.facts.NamedInput.TheVariants as input

-- a named input, by the stamp and the flag that its producer left in these slots
abbrev pub input_left : (stamp : ℕ → ℕ) (flag : ℕ → Bool) → Input → NamedInput
input_left stamp flag (File f) = input.SourceFile
input_left stamp flag (Made s c) = input.Made (stamp s) (flag c)

-- these are the stamps and flags of the slots of these inputs
abbrev pub AreLeft : (stamp : ℕ → ℕ) (flag : ℕ → Bool) → Slots → List Input → Type 0
AreLeft stamp flag slots [] = Unit {0}
AreLeft stamp flag slots (File f ∷ is) = AreLeft stamp flag slots is
AreLeft stamp flag slots (Made s c ∷ is) = (stamp s ≡ stamp_at slots s) × (flag c ≡ flag_at slots c) × AreLeft stamp flag slots is

-- these are the stamps and flags of all slots that the code of the edge loads
abbrev pub AreLent : (stamp : ℕ → ℕ) (flag : ℕ → Bool) → Parts → ℕ → Slots → Type 0
AreLent stamp flag p e slots = (k : ℕ) → loads k (code p e) ≡ true → (stamp k ≡ stamp_at slots k) × (flag k ≡ flag_at slots k)
