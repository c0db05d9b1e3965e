use Rattle.std.proofs.Common.{◌<◌, ◌≤◌, ℕ, length}
use Rattle.std.specs.Prelude.{slice_index}
use Rattle.plan_graph.proofs.cycle.least.Given as goal

abbrev pub invariant-loop-other : goal.invariant-loop-other
invariant-loop-other l = (l.at < length l.numbers) × ((i : ℕ) → i < l.other → slice_index l.numbers l.at ≤ slice_index l.numbers i)
