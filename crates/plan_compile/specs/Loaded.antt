-- The slots that the code of an edge loads, and the law that those of its inputs are among them.
use Rattle.std.specs.Prelude.{◌≡◌, ℕ, ◌==◌, Bool, true, false, List, [], ◌∷◌, Some, slice_get}
use Rattle.std.specs.List.{list_any}
use Rattle.plan_image.specs.declared.body.Instr.{Instr}
use Rattle.plan_image.specs.declared.body.Instr.TheVariants as op
use Rattle.plan_image.specs.Code.{code}
use Rattle.plan_compile.specs.declared.layout.CommandLayout.{CommandLayout}
use Rattle.plan_compile.specs.declared.layout.EdgeLayout.TheVariants as layout
use Rattle.plan_compile.specs.declared.layout.Input.{Input}
use Rattle.plan_compile.specs.declared.layout.Input.TheVariants.{File, Made}
use Rattle.plan_compile.specs.Builds.{Build, Builds}
use Rattle.plan_compile.specs.Faithful.{IsEdge, IsSound}
use Rattle.plan_compile.specs.Images.{layouts, image_of}

-- an instruction loads this slot
abbrev pub is_load : ℕ → Instr → Bool
is_load k (op.Load j) = j == k
is_load k instr = false

-- the code loads this slot
abbrev pub loads : ℕ → List Instr → Bool
loads k instrs = list_any (is_load k) instrs

-- the code loads the stamp and the flag of each of these inputs that an edge makes
abbrev pub AreLoaded : List Instr → List Input → Type 0
AreLoaded instrs [] = Unit {0}
AreLoaded instrs (File f ∷ inputs) = AreLoaded instrs inputs
AreLoaded instrs (Made stamp changed ∷ inputs) = (loads stamp instrs ≡ true) × (loads changed instrs ≡ true) × AreLoaded instrs inputs

-- The code of an edge with a command loads the slots of its named inputs.
abbrev pub InputsAreLoaded : Type 0
InputsAreLoaded =
    (t : Builds) → IsSound t → (e : ℕ) (x : Build) → IsEdge t e x → (w : CommandLayout) → slice_get (layouts t.edges) e ≡ Some (layout.Command w)
    → AreLoaded (code (image_of t) e) w.named
