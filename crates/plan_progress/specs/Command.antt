-- The command of an edge, as text.
use Rattle.std.specs.Prelude.{ℕ, Bool, true, false, List, [], ◌∷◌, Option, Some, None, if◌then◌else◌, slice_get}
use Rattle.plan_image.specs.declared.image.Parts.{Parts}
use Rattle.plan_image.specs.declared.body.Instr.{Instr}
use Rattle.plan_image.specs.declared.body.Instr.TheVariants as op
use Rattle.plan_image.specs.Code.{code}

abbrev pub is_run : Instr → Bool
is_run op.Run = true
is_run _ = false

-- the number of the text that an instruction pushes
abbrev pub text_pushed : Instr → Option ℕ
text_pushed (op.Text n) = Some n
text_pushed _ = None

-- the text that is pushed right before the first `Run` of these instructions; the one before them pushes `last`
abbrev pub text_before_run : Option ℕ → List Instr → Option ℕ
text_before_run last [] = None
text_before_run last (instr ∷ instrs) = if is_run instr then last else text_before_run (text_pushed instr) instrs

abbrev pub text_at : Parts → Option ℕ → Option (List ℕ)
text_at p (Some n) = slice_get p.texts n
text_at p None = None

-- the command of an edge: the text that its code pushes right before `Run`
abbrev pub command_of : Parts → ℕ → Option (List ℕ)
command_of p e = text_at p (text_before_run None (code p e))
