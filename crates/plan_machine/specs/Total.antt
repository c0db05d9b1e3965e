-- The number of commands that a run may have.
use Rattle.std.specs.Prelude.{ℕ, zero, suc, ◌+◌, Bool, true, false, ◌&&◌, length, Option, Some, None, if◌then◌else◌, slice_get}
use Rattle.plan_image.specs.declared.image.Sort.{Sort}
use Rattle.plan_image.specs.declared.image.Sort.TheVariants as sort
use Rattle.plan_image.specs.declared.image.Edge.{Edge}
use Rattle.plan_image.specs.declared.image.Parts.{Parts}
use Rattle.plan_machine.specs.declared.event.Outcome.TheVariants.{NotWanted}
use Rattle.plan_machine.specs.State.{Status, Over, State, stands}

abbrev pub is_command : Sort → Bool
is_command sort.Command = true
is_command sort.Phony = false

abbrev pub command_in : Option Edge → Bool
command_in (Some edge) = is_command edge.sort
command_in None = false

-- the edge with this number has a command
abbrev pub has_command : Parts → ℕ → Bool
has_command p e = command_in (slice_get p.edges e)

abbrev pub is_wanted : Status → Bool
is_wanted (Over NotWanted) = false
is_wanted _ = true

-- the number of wanted edges with a command among the first ones
abbrev pub commands_among : Parts → State → ℕ → ℕ
commands_among p s zero = 0
commands_among p s (suc e) = commands_among p s e + (if has_command p e && stands is_wanted s e then 1 else 0)

-- the number of wanted edges with a command
abbrev pub total_of : Parts → State → ℕ
total_of p s = commands_among p s (length p.edges)
