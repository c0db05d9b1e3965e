use Rattle.std.proofs.Common.{◌≤◌, length, arith}
use Rattle.plan_image.specs.Code.{code}
use Rattle.plan_verify.proofs.BudgetLemmas.{code_short}
use Rattle.plan_verify.proofs.laws.codes_are_short.Goals as goal

pub returns : goal.returns
returns c p e spelled = let short : length (code p e) ≤ 67108864 = code_short p e spelled in omega (arith, short)
