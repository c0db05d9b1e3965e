use Rattle.std.proofs.Common.{◌≡◌, ◌++◌, [], drop, get_or, map}
use Rattle.plan_world.specs.StartRecorded.{begun_with}
use Rattle.plan_world.proofs.record_sink.push_others_begun.Given as goal

abbrev pub invariant-loop-number : goal.invariant-loop-number
invariant-loop-number l = l.entries.items ++ map (begun_with (get_or l.outputs 0 [])) (drop l.number l.outputs) ≡ l.initial.entries.items ++ map (begun_with (get_or l.outputs 0 [])) (drop 1 l.outputs)
