use Rattle.std.proofs.Common.{ℕ, ◌∙◌, ap, false, get_or}
use Rattle.plan_text.specs.declared.piece_reader.TheConstants.{BARE_NAME}
use Rattle.plan_text.proofs.PlainTable.{bare_name_told}
use Rattle.plan_text.proofs.piece_reader.is_bare_name_byte.Goals as goal

pub returns : goal.returns
returns c = ap (λ (i : ℕ). get_or BARE_NAME i false) c.from.ensures ∙ bare_name_told c.args.byte c.ranges.byte.fits
