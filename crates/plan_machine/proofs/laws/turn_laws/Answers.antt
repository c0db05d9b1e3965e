use Rattle.plan_machine.proofs.laws.turn_laws.Goals as goal

pub returns : goal.returns
returns c = record {
  fit = c.instructions_fit.ensures;
  steps_safe = c.steps_are_safe.ensures;
  replies_safe = c.replies_are_safe.ensures;
  stay_typed = c.stays_typed.ensures;
  ignore_slots = c.questions_ignore_slots.ensures;
  in_range = c.tables_are_in_range.ensures;
  turns_pay = c.all_turns_pay.ensures;
}
