use Rattle.std.proofs.Common.{◌≡◌, length, take}
use Rattle.plan_world.proofs.restating.stamps_for.Given as goal

abbrev pub invariant-loop-entry : goal.invariant-loop-entry
invariant-loop-entry g l = length l.stamps.items ≡ length (take l.entry-index l.entries)
