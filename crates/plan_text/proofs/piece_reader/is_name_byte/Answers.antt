use Rattle.std.proofs.Common.{ℕ, ◌∙◌, ap, false, get_or}
use Rattle.plan_text.specs.declared.piece_reader.TheConstants.{NAME}
use Rattle.plan_text.proofs.PlainTable.{name_told}
use Rattle.plan_text.proofs.piece_reader.is_name_byte.Goals as goal

pub returns : goal.returns
returns c = ap (λ (i : ℕ). get_or NAME i false) c.from.ensures ∙ name_told c.args.byte c.ranges.byte.fits
