use Rattle.std.proofs.Common.{◌≡◌, drop}
use Rattle.plan_image.specs.Makers.{first_maker}
use Rattle.plan_image.proofs.makers.edge_of.Given as goal

abbrev pub invariant-loop-number : goal.invariant-loop-number
invariant-loop-number l = first_maker l.image l.path l.number (drop l.number l.image.edges) ≡ first_maker l.image l.path 0 l.image.edges
