-- How fast the last commands finished.
use Rattle.std.specs.Prelude.{ℕ, ◌+◌, ◌-◌, ◌*◌, ◌/◌, ◌==◌, nat_lt, Bool, true, false, List, [], ◌∷◌, ◌++◌, length, slice_index, Option, Some, None, if◌then◌else◌}
use Rattle.plan_image.specs.declared.image.Parts.{Parts}
use Rattle.plan_machine.specs.declared.event.Mark.{Mark}
use Rattle.plan_machine.specs.declared.event.Mark.TheVariants.{Ended, Failed}
use Rattle.plan_machine.specs.Total.{has_command}

-- a mark says that a command ran or failed
abbrev pub is_finish : Parts → Mark → Bool
is_finish p (Ended e true) = has_command p e
is_finish p (Failed e cause) = has_command p e
is_finish p mark = false

abbrev pub without_first : List ℕ → List ℕ
without_first [] = []
without_first (time ∷ times) = times

-- the times that are kept if one more comes, so that there are eight at most
abbrev pub kept : List ℕ → List ℕ
kept times = if nat_lt (length times) 8 then times else without_first times

-- The times of the last commands that finished, after one more mark, which is shown after so many milliseconds. The
-- oldest time comes first.
abbrev pub times_then : Parts → List ℕ → Mark → (elapsed : ℕ) → List ℕ
times_then p times mark elapsed = if is_finish p mark then kept times ++ elapsed ∷ [] else times

-- how many commands finish in ten seconds, rounded, if so many do in a time
abbrev pub per_ten_seconds : (count : ℕ) → (time : ℕ) → ℕ
per_ten_seconds count time = (count * 10 * 1000 + time / 2) / time

-- the milliseconds between the first of these times and the last
abbrev pub between : List ℕ → ℕ
between times = slice_index times (length times - 1) - slice_index times 0

-- how many commands finish in ten seconds; it isn't known before there are two different times
abbrev pub recent_rate : List ℕ → Option ℕ
recent_rate times = if between times == 0 then None else Some (per_ten_seconds (length times) (between times))
