-- What an edge of a run has observed.
use Rattle.std.specs.Prelude.{◌≡◌, ℕ, Bool, true, false, Option, Some, None, IfSome}
use Rattle.plan_machine.specs.Agreement.{replies_to}
use Rattle.plan_machine.specs.Loads.{loads_of}
use Rattle.plan_lanes.specs.declared.board.Advance.{Advance}
use Rattle.plan_lanes.specs.declared.board.Advance.TheVariants.{Job}
use Rattle.plan_lanes.specs.declared.observed.Observed.{Observed}
use Rattle.plan_lanes.specs.Progress.{Progress}

-- the replies that it received so far, and the slots that its code loads, as they are now
abbrev pub observed_by : Progress → ℕ → Observed
observed_by b e = record { replies = replies_to e b.journal; slots = loads_of b.opened.parts b.state e }

-- these observations, if the world observes edges
abbrev pub observed_if : Bool → Progress → ℕ → Option Observed
observed_if true b e = Some (observed_by b e)
observed_if false b e = None

-- A permit belongs to the edge that asked. If the world observes edges, it has the observations of this edge.
abbrev pub Observes : Bool → Progress → Advance → Type 0
Observes observes b (Job e question permit) = IfSome permit (λ x. (x.edge ≡ e) × (x.observed ≡ observed_if observes b e))
Observes observes b _ = Unit {0}
