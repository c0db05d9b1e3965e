-- Questions, as lanes carry them.
use Rattle.std.specs.Prelude.{Bool, true, false, ℕ, List, [], get_or}
use Rattle.plan_verify.specs.Turn.{Request, Stat, Recall, Run, Deps, Keep}
use Rattle.plan_lanes.specs.declared.batch.OwnedRequest.{OwnedRequest}
use Rattle.plan_lanes.specs.declared.batch.OwnedRequest.TheVariants as asked

-- the request, in the form that a step of an edge uses
abbrev pub shown : OwnedRequest → Request
shown (asked.Stat path) = Stat path
shown (asked.Sweep paths place) = Stat (get_or paths place [])
shown (asked.Recall output) = Recall output
shown (asked.Run command outputs) = Run command outputs
shown (asked.Deps path) = Deps path
shown (asked.Keep order) = Keep order.output order.command order.basis order.paths

-- the request asks to run a command
abbrev pub is_run : Request → Bool
is_run (Run command outputs) = true
is_run _ = false

-- the command that a request asks to run; none if it asks for something else
abbrev pub command_in : Request → List ℕ
command_in (Run command outputs) = command
command_in _ = []
