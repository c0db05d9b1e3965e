-- What is printed of the marks of a run, by a format.
use Rattle.std.specs.Prelude.{◌≡◌, ℕ, ◌≤◌, List, Option, None, length, take}
use Rattle.plan_image.specs.declared.image.Parts.{Parts}
use Rattle.plan_machine.specs.declared.event.Mark.{Mark}
use Rattle.plan_status.specs.declared.fault.PrintFault.{PrintFault}
use Rattle.plan_status.specs.Lines.{ends, lines_of}
use Rattle.plan_status.specs.Printing.{Prints}

-- A text that tells these marks was printed. If printing stopped, the text tells the first of these marks, and perhaps
-- not all of it was printed.
pub record HasPrinted (tells : List Mark → List ℕ → Type 0) (marks : List Mark) (stop : Option PrintFault) (old new : ℕ × Option (List ℕ)) : Type 0 where
  pub count : ℕ
  pub within : count ≤ length marks
  pub all : stop ≡ None → count ≡ length marks
  pub text : List ℕ
  pub told : tells (take count marks) text
  pub printed : Prints text stop old new

-- The text is the status lines of the marks, of which so many say how a command edge ended.
abbrev pub TellsLines : ℕ → Parts → ℕ → List Mark → List ℕ → Type 0
TellsLines ended p total marks text = (ended ≡ ends p marks) × (text ≡ lines_of p total marks)

-- ---- laws

-- what is printed by status lines is the lines of all marks, or a prefix of them
abbrev pub LinesArePrinted : Type 0
LinesArePrinted = (ended : ℕ) (p : Parts) (total : ℕ) (marks : List Mark) (stop : Option PrintFault) (old new : ℕ × Option (List ℕ))
    → HasPrinted (TellsLines ended p total) marks stop old new → Prints (lines_of p total marks) stop old new
