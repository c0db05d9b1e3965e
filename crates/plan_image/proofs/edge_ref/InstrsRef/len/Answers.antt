use Rattle.std.proofs.Common.{sym}
use Rattle.plan_image.specs.Columns.{instr_with}
use Rattle.plan_image.proofs.ColumnLemmas.{length_by}
use Rattle.plan_image.proofs.edge_ref.InstrsRef.len.Goals as goal

pub returns : goal.returns
returns c = sym (length_by (instr_with c.args.self.now.operands.now) 0 c.args.self.now.opcodes.now)
