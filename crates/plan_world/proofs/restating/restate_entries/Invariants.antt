use Rattle.std.proofs.Common.{◌≡◌, ◌++◌, drop}
use Rattle.plan_text.specs.Reducing.{texts}
use Rattle.plan_world.specs.Rewriting.{restated}
use Rattle.plan_world.proofs.restating.restate_entries.Given as goal

abbrev pub invariant-loop-number : goal.invariant-loop-number
invariant-loop-number l = l.made.items ++ restated (texts l.outputs) (drop l.number l.stamps) (drop l.number l.entries) ≡ restated (texts l.outputs) l.stamps l.entries
