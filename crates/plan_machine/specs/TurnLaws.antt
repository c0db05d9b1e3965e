-- The laws of plan_verify that turns of edges rely on.
use Rattle.plan_verify.specs.Facts.{TablesAreInRange}
use Rattle.plan_verify.specs.Seam.{QuestionsIgnoreSlots, StaysTyped}
use Rattle.plan_verify.specs.Sound.{InstructionsFit, StepsAreSafe, RepliesAreSafe}
use Rattle.plan_verify.specs.Worth.{AllTurnsPay}

pub record TurnLaws : Type 0 where
  pub fit : InstructionsFit
  pub steps_safe : StepsAreSafe
  pub replies_safe : RepliesAreSafe
  pub stay_typed : StaysTyped
  pub ignore_slots : QuestionsIgnoreSlots
  pub in_range : TablesAreInRange
  pub turns_pay : AllTurnsPay
