use Rattle.std.proofs.Common.{◌∙◌, ap, arith}
use Rattle.plan_record.specs.Reading.{entry_head_at}
use Rattle.plan_record.proofs.PlacedLemmas.{head_there, head_not_missing}
use Rattle.plan_record.proofs.entry.placed_head.Goals as goal

pub returns-in-Some : goal.returns-in-Some
returns-in-Some c = head_there c.args.bytes.now c.args.start _ c.in-Some.field-0-1.now (λ i. omega (arith, c.type_inv.bytes i)) c.requires (c.in-Some.ensures ∙ ap entry_head_at c.bytes_from.ensures)

pub returns-in-None : goal.returns-in-None
returns-in-None c = absurd (head_not_missing c.args.bytes.now c.args.start (λ i. omega (arith, c.type_inv.bytes i)) c.requires (c.in-None.ensures ∙ ap entry_head_at c.bytes_from.ensures))
