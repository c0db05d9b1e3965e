use Rattle.std.proofs.Common.{inl, inr, refl}
use Rattle.plan_commands.proofs.comparing.do_compare.Goals as goal

pub returns-in-Err-clause-refused : goal.returns-in-Err-clause-refused
returns-in-Err-clause-refused g c = inl (refl, inl c.in-Err.ensures.refused)

pub returns-in-Err-answer-clause-refused : goal.returns-in-Err-answer-clause-refused
returns-in-Err-answer-clause-refused g c = inl (refl, inr (c.in-Ok.image, c.in-Ok.ensures.image.0, c.in-Ok.ensures.image.1, inl c.in-Err-answer.ensures.refused))
