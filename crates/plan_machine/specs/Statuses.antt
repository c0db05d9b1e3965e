-- The status of an edge, as the code stores it.
use Rattle.plan_machine.specs.declared.edge.status.EdgeState.{EdgeState}
use Rattle.plan_machine.specs.declared.edge.status.EdgeState.TheVariants as stage
use Rattle.plan_machine.specs.ParkedLocal.{parked_local}
use Rattle.plan_machine.specs.State.{Status, Unbegun, Active, Over}

abbrev pub status_of : EdgeState → Status
status_of stage.Unbegun = Unbegun
status_of (stage.Parked parked) = Active (parked_local parked)
status_of (stage.Active local) = Active local
status_of (stage.Over outcome) = Over outcome
