-- Phases determine which edges may make a step.
use Rattle.std.proofs.Common.{◌≡◌, ℕ, Bool, true, false, not, Option, Some, None, refl}
use Rattle.std.specs.Prelude.{◌&&◌, ◌||◌}
use Rattle.plan_image.specs.declared.image.Parts.{Parts}
use Rattle.plan_machine.specs.Limits.{Limits}
use Rattle.plan_machine.specs.declared.event.Outcome.{Outcome}
use Rattle.plan_machine.specs.declared.event.Outcome.TheVariants.{Clean, Ran, Failed, Skipped, Stopped, NotWanted}
use Rattle.plan_machine.specs.State.{Status, Unbegun, Active, Over, State}
use Rattle.plan_machine.specs.Places.{at_take, is_free}
use Rattle.plan_machine.specs.Applying.{may_step_by}
use Rattle.plan_machine.specs.Kept.{phase_over, phase_active, phase_in, steps_by}

not_not : (b : Bool) → not (not b) ≡ b
not_not true = refl
not_not false = refl

active_steps : (asked taking holding free : Bool) → not (asked || (taking && not free)) ≡ steps_by (phase_active asked taking holding) free
active_steps true taking holding free = refl
active_steps false true holding free = not_not free
active_steps false false holding free = refl

over_steps : (outcome : Outcome) (free : Bool) → false ≡ steps_by (phase_over outcome) free
over_steps Clean free = refl
over_steps Ran free = refl
over_steps (Failed cause) free = refl
over_steps (Skipped w) free = refl
over_steps Stopped free = refl
over_steps NotWanted free = refl

pub steps_is : (p : Parts) (limits : Limits) (s : State) (e : ℕ) (o : Option Status) → may_step_by p limits s e o ≡ steps_by (phase_in p e o) (is_free p limits s e)
steps_is p limits s e None = refl
steps_is p limits s e (Some Unbegun) = refl
steps_is p limits s e (Some (Active l)) = active_steps l.asked (at_take p e l) l.holding (is_free p limits s e)
steps_is p limits s e (Some (Over outcome)) = over_steps outcome (is_free p limits s e)
