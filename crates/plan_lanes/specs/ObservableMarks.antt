-- Observable marks: marks that report something.
use Rattle.std.specs.Prelude.{◌≡◌, ℕ, Bool, true, false, List, [], ◌∷◌, if◌then◌else◌}
use Rattle.plan_image.specs.declared.image.Parts.{Parts}
use Rattle.plan_machine.specs.declared.event.Mark.{Mark}
use Rattle.plan_machine.specs.declared.event.Mark.TheVariants.{Started, Asked, Moved, Answered}
use Rattle.plan_status.specs.Lines.{lines_of}

-- The mark says how an edge ended, or that it took or released a job token. Other marks say only that an edge went on.
abbrev pub is_observable : Mark → Bool
is_observable (Started e) = false
is_observable (Asked e) = false
is_observable (Moved e) = false
is_observable (Answered e) = false
is_observable mark = true

-- the observable ones of some marks
abbrev pub observable : List Mark → List Mark
observable [] = []
observable (mark ∷ marks) = if is_observable mark then mark ∷ observable marks else observable marks

-- the status lines of all marks are those of the observable marks
abbrev pub TellAllLines : Type 0
TellAllLines = (p : Parts) (total : ℕ) (marks : List Mark) → lines_of p total (observable marks) ≡ lines_of p total marks
