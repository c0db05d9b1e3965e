-- The conditions that the code of a step relies on.
use Rattle.std.specs.Prelude.{List, ◌∷◌, length, ◌≤◌, ◌<◌, Option, Some, None}
use Rattle.plan_image.specs.declared.body.Instr.{Instr}
use Rattle.plan_image.specs.declared.body.Instr.TheVariants as op
use Rattle.plan_verify.specs.declared.value.Value.{Value}
use Rattle.plan_verify.specs.declared.value.Value.TheVariants.{Stamp, Flag, Text, Paths}
use Rattle.plan_verify.specs.Turn.{Calculated, On, TooLong, Off, Turn, Wrong}

abbrev pub Computes : Calculated → Type 0
Computes (On stack) = Unit {0}
Computes TooLong = Unit {0}
Computes (Off flaw) = ⊥

abbrev pub HasStamp : List Value → Type 0
HasStamp (Stamp n ∷ rest) = Unit {0}
HasStamp stack = ⊥

abbrev pub HasFlag : List Value → Type 0
HasFlag (Flag b ∷ rest) = Unit {0}
HasFlag stack = ⊥

abbrev pub HasText : List Value → Type 0
HasText (Text t ∷ rest) = Unit {0}
HasText stack = ⊥

abbrev pub HasPaths : List Value → Type 0
HasPaths (Paths swept all ∷ rest) = Unit {0}
HasPaths stack = ⊥

-- a stack on which paths are being swept, and some are left
abbrev pub IsSweeping : List Value → Type 0
IsSweeping (Paths swept all ∷ Flag b ∷ Stamp n ∷ rest) = swept < length all
IsSweeping stack = ⊥

-- an edge that asked in a Sweep has paths left
abbrev pub Sweeps : Instr → List Value → Type 0
Sweeps op.Sweep stack = IsSweeping stack
Sweeps _ stack = Unit {0}

-- at most as many values as fit on a stack
abbrev pub IsShallow : Calculated → Type 0
IsShallow (On stack) = length stack ≤ 64
IsShallow TooLong = Unit {0}
IsShallow (Off flaw) = Unit {0}

-- instructions that calculate without memory
abbrev pub IsPlain : Instr → Type 0
IsPlain op.Older = Unit {0}
IsPlain op.Newer = Unit {0}
IsPlain op.Before = Unit {0}
IsPlain op.Same = Unit {0}
IsPlain op.IsMissing = Unit {0}
IsPlain op.Or = Unit {0}
IsPlain op.Not = Unit {0}
IsPlain (op.Flag b) = Unit {0}
IsPlain op.Zero = Unit {0}
IsPlain op.Drop = Unit {0}
IsPlain op.Swap = Unit {0}
IsPlain _ = ⊥

-- a turn that isn't wrong
abbrev pub Works : Turn → Type 0
Works (Wrong flaw) = ⊥
Works turn = Unit {0}

-- instructions that read no slot and take no memory
abbrev pub IsSimple : Instr → Type 0
IsSimple (op.Load s) = ⊥
IsSimple (op.Store s) = ⊥
IsSimple (op.Text t) = ⊥
IsSimple op.NoPaths = ⊥
IsSimple op.Join = ⊥
IsSimple op.Equal = ⊥
IsSimple op.Sweep = ⊥
IsSimple _ = Unit {0}

-- the value of a slot, or None if there is no such slot
abbrev pub filling : Option (Option Value) → Option Value
filling (Some v) = v
filling None = None
