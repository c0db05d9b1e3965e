use Rattle.std.proofs.Common.{ℕ, ◌∙◌, ap, false, get_or}
use Rattle.plan_scope.specs.declared.scope.text.TheConstants.{PLAIN}
use Rattle.plan_scope.proofs.PlainTable.{plain_told}
use Rattle.plan_scope.proofs.scope.text.is_plain.Goals as goal

pub returns : goal.returns
returns c = ap (λ (i : ℕ). get_or PLAIN i false) c.from.ensures ∙ plain_told c.args.byte c.ranges.byte.fits
