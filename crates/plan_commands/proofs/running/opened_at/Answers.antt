use Rattle.std.proofs.Common.{inl, inr}
use Rattle.plan_commands.proofs.RunningLemmas.{not_opened}
use Rattle.plan_commands.proofs.running.opened_at.Goals as goal

pub returns-in-Err-clause-refused : goal.returns-in-Err-clause-refused
returns-in-Err-clause-refused g c = inl c.in-Err.ensures.refused

pub returns-in-Err-targets_of-clause-refused : goal.returns-in-Err-targets_of-clause-refused
returns-in-Err-targets_of-clause-refused g c =
    inr (not_opened (g.S.Source.gives c.args.source.now) _ _ _ _ _ c.image.ensures.same c.in-Ok.ensures.image c.in-Err-targets_of.ensures.refused)
