-- An instruction fits its place: the shape there has the values that the instruction takes, and each place that
-- it continues to has exactly the shape that it leaves.
use Rattle.std.specs.Prelude.{◌≡◌, ℕ, ◌+◌, ◌<◌, ◌≤◌, true, false, ◌⊎◌, List, [], ◌∷◌, ◌++◌, length, Some, IsSome, slice_get}
use Rattle.std.specs.List.{list_all}
use Rattle.plan_image.specs.declared.body.Kind.{Kind}
use Rattle.plan_image.specs.declared.body.Kind.TheVariants.{Stamp, Flag, Text, Paths, Swept}
use Rattle.plan_image.specs.declared.body.Instr.{Instr}
use Rattle.plan_image.specs.declared.body.Instr.TheVariants as op
use Rattle.plan_image.specs.declared.image.Parts.{Parts}
use Rattle.plan_image.specs.Code.{code}
use Rattle.plan_verify.specs.declared.kinds.Shape.{Shape}
use Rattle.plan_verify.specs.declared.kinds.TheConstants.{MAX_STACK}
use Rattle.plan_verify.specs.Members.{is_member, with_member}
use Rattle.plan_verify.specs.Tables.{owns, is_lent, own_slots, slot_kind, path_of, paths_of, outputs_of, first_output, pool_outside}
use Rattle.plan_verify.specs.Shape.{}

-- a place of the code has this shape
pub record Leads (p : Parts) (e : ℕ) (shapes : List Shape) (place : ℕ) (shape : Shape) : Type 0 where
  pub inside : place < length (code p e)
  pub exact : slice_get shapes place ≡ Some shape
  pub shallow : length shape.kinds ≤ MAX_STACK

abbrev pub with_kinds : Shape → List Kind → Shape
with_kinds s kinds = record { kinds = kinds; holding = s.holding; set = s.set }

-- the place after this one has the same shape with other kinds
abbrev pub GoesOn : Parts → ℕ → List Shape → ℕ → Shape → List Kind → Type 0
GoesOn p e shapes n s kinds = Leads p e shapes (n + 1) (with_kinds s kinds)

-- takes these kinds from the top of the stack, and continues with others instead
abbrev pub Turns : Parts → ℕ → List Shape → ℕ → Shape → (taken given : List Kind) → Type 0
Turns p e shapes n s taken given = (rest : List Kind) × (s.kinds ≡ taken ++ rest) × GoesOn p e shapes n s (given ++ rest)

-- a slot that may be loaded: an own slot that is set, or a slot of an edge that is waited for
abbrev pub IsLoadable : Parts → ℕ → Shape → ℕ → Type 0
IsLoadable p e s k = (is_member k s.set ≡ true) ⊎ ((owns p e k ≡ false) × (is_lent p e k ≡ true))

abbrev pub Fits : Parts → ℕ → List Shape → ℕ → Shape → Instr → Type 0
Fits p e shapes n s op.End = (s.kinds ≡ []) × (s.holding ≡ false) × (list_all (λ k. is_member k s.set) (own_slots p e) ≡ true)
Fits p e shapes n s (op.Stat f) = IsSome (path_of p f) × Turns p e shapes n s [] (Stamp ∷ [])
Fits p e shapes n s (op.Need f) = IsSome (path_of p f) × Turns p e shapes n s [] (Stamp ∷ [])
Fits p e shapes n s (op.Load k) = IsLoadable p e s k × Turns p e shapes n s [] (slot_kind p k ∷ [])
Fits p e shapes n s (op.Store k) =
    (owns p e k ≡ true) × (rest : List Kind) × (s.kinds ≡ slot_kind p k ∷ rest)
    × Leads p e shapes (n + 1) (record { kinds = rest; holding = s.holding; set = with_member k s.set })
Fits p e shapes n s op.Older = Turns p e shapes n s (Stamp ∷ Stamp ∷ []) (Stamp ∷ [])
Fits p e shapes n s op.Newer = Turns p e shapes n s (Stamp ∷ Stamp ∷ []) (Stamp ∷ [])
Fits p e shapes n s op.Before = Turns p e shapes n s (Stamp ∷ Stamp ∷ []) (Flag ∷ [])
Fits p e shapes n s op.Same = Turns p e shapes n s (Stamp ∷ Stamp ∷ []) (Flag ∷ [])
Fits p e shapes n s op.IsMissing = Turns p e shapes n s (Stamp ∷ []) (Flag ∷ [])
Fits p e shapes n s op.Or = Turns p e shapes n s (Flag ∷ Flag ∷ []) (Flag ∷ [])
Fits p e shapes n s op.Not = Turns p e shapes n s (Flag ∷ []) (Flag ∷ [])
Fits p e shapes n s (op.Flag b) = Turns p e shapes n s [] (Flag ∷ [])
Fits p e shapes n s op.Zero = Turns p e shapes n s [] (Stamp ∷ [])
Fits p e shapes n s op.NoPaths = Turns p e shapes n s [] (Swept ∷ [])
Fits p e shapes n s (op.Text t) = IsSome (slice_get p.texts t) × Turns p e shapes n s [] (Text ∷ [])
Fits p e shapes n s op.Join = Turns p e shapes n s (Text ∷ Text ∷ []) (Text ∷ [])
Fits p e shapes n s op.Equal = Turns p e shapes n s (Text ∷ Text ∷ []) (Flag ∷ [])
Fits p e shapes n s op.Recall = IsSome (first_output p e) × Turns p e shapes n s [] (Flag ∷ Text ∷ Stamp ∷ Paths ∷ [])
Fits p e shapes n s op.Sweep = Turns p e shapes n s (Paths ∷ Flag ∷ Stamp ∷ []) (Swept ∷ Flag ∷ Stamp ∷ [])
Fits p e shapes n s (op.Jump d) = (n < d) × Leads p e shapes d s
Fits p e shapes n s (op.JumpIf d) = (n < d) × (rest : List Kind) × (s.kinds ≡ Flag ∷ rest) × GoesOn p e shapes n s rest × Leads p e shapes d (with_kinds s rest)
Fits p e shapes n s op.Take = (s.holding ≡ false) × (pool_outside p e ≡ false) × Leads p e shapes (n + 1) (record { kinds = s.kinds; holding = true; set = s.set })
Fits p e shapes n s op.Release = (s.holding ≡ true) × Leads p e shapes (n + 1) (record { kinds = s.kinds; holding = false; set = s.set })
Fits p e shapes n s op.Run = (s.holding ≡ true) × IsSome (paths_of p (outputs_of p e)) × Turns p e shapes n s (Text ∷ []) []
Fits p e shapes n s op.Deps = Turns p e shapes n s (Text ∷ []) (Paths ∷ [])
Fits p e shapes n s op.Keep = IsSome (first_output p e) × Turns p e shapes n s (Swept ∷ Stamp ∷ Text ∷ []) []
Fits p e shapes n s op.Drop = (k : Kind) × Turns p e shapes n s (k ∷ []) []
Fits p e shapes n s op.Swap = (y : Kind) × (x : Kind) × Turns p e shapes n s (y ∷ x ∷ []) (x ∷ y ∷ [])
