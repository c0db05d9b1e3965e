use Rattle.std.proofs.Common.{◌↔◌, drop}
use Rattle.plan_image.specs.Spelling.{AscendsFrom}
use Rattle.plan_image.proofs.limits.ascends.Given as goal

abbrev pub invariant-loop-item : goal.invariant-loop-item
invariant-loop-item l = AscendsFrom l.least (drop l.item-index l.items) ↔ AscendsFrom 0 l.items
