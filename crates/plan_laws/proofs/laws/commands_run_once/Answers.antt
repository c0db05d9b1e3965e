use Rattle.plan_laws.proofs.OnceLemmas.{commands_run_once}
use Rattle.plan_laws.proofs.laws.commands_run_once.Goals as goal

pub returns : goal.returns
returns c = commands_run_once
