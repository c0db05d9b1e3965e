-- What a call that prints leaves.
use Rattle.std.specs.Prelude.{◌≡◌, ℕ, true, false, List, ◌++◌, Option, Some, None}
use Rattle.plan_text.specs.Sinks.{AppendsFront, Writes}
use Rattle.plan_image.specs.declared.image.Parts.{Parts}
use Rattle.plan_machine.specs.declared.event.Mark.{Mark}
use Rattle.plan_status.specs.declared.fault.PrintFault.{PrintFault}
use Rattle.plan_status.specs.declared.fault.PrintFault.TheVariants.{Memory, Write}
use Rattle.plan_status.specs.Lines.{lines_behind}

-- A text was printed. The states of the sink before and after are the number of its failed writes, and the bytes that
-- it took, if these are known. Without a fault the sink took the whole text. If a write failed, the sink took a prefix,
-- and one more failure is counted. If memory ran out, the sink took a prefix, and no write failed.
abbrev pub Prints : List ℕ → Option PrintFault → (ℕ × Option (List ℕ)) → (ℕ × Option (List ℕ)) → Type 0
Prints text None old new = Writes true old new text
Prints text (Some Write) old new = Writes false old new text
Prints text (Some Memory) old new = (new.0 ≡ old.0) × AppendsFront old.1 new.1 text

-- ---- laws

-- what is printed after a text that was taken is printed of both
abbrev pub PrintsJoin : Type 0
PrintsJoin = (a b c : ℕ × Option (List ℕ)) (xs ys : List ℕ) (stop : Option PrintFault) → Writes true a b xs → Prints ys stop b c → Prints (xs ++ ys) stop a c

-- a text that wasn't printed to its end is a front of each longer one
abbrev pub StopStays : Type 0
StopStays = (a b : ℕ × Option (List ℕ)) (xs ys : List ℕ) (fault : PrintFault) → Prints xs (Some fault) a b → Prints (xs ++ ys) (Some fault) a b

-- the lines of some marks and of those after them are the lines of the former, and those of the latter, counted on
abbrev pub LinesJoin : Type 0
LinesJoin = (p : Parts) (total : ℕ) (before xs ys : List Mark) → lines_behind p total before (xs ++ ys) ≡ lines_behind p total before xs ++ lines_behind p total (before ++ xs) ys
