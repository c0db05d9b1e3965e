use Rattle.std.proofs.Common.{◌<◌, ◌+◌, ◌∷◌, ◌∙◌, Some, ap, arith, drop, get_or, length, sym}
use Rattle.std.proofs.lemmas.List.{get_or_default}
use Rattle.plan_image.specs.Opcodes.{instr_by}
use Rattle.plan_image.specs.Columns.{instr_with, lent_instrs}
use Rattle.plan_image.proofs.ColumnLemmas.{drop_by, found_by, length_by}
use Rattle.plan_image.proofs.edge_ref.InstrsRef.instr.Goals as goal

pub bounds-self-place : goal.bounds-self-place
bounds-self-place c =
    let long = length_by (instr_with c.args.self.now.operands.now) 0 c.args.self.now.opcodes.now in
    omega (arith, c.requires, long)

pub returns-clause-found : goal.returns-clause-found
returns-clause-found c =
    let os = c.args.self.now.opcodes.now in
    let f = instr_with c.args.self.now.operands.now in
    let n = c.args.place in
    let long = length_by f 0 os in
    let here : n < length os = omega (arith, c.requires, long) in
    found_by f os n (get_or os n 0) here (get_or_default os n 0 (get_or os n 0) here)
    ∙ ap Some (sym (c.from_opcode.ensures ∙ ap (instr_by (get_or os n 0)) c.operand_at.ensures))

pub returns-clause-rest : goal.returns-clause-rest
returns-clause-rest c =
    let os = c.args.self.now.opcodes.now in
    let f = instr_with c.args.self.now.operands.now in
    let n = c.args.place in
    let long = length_by f 0 os in
    let here : n < length os = omega (arith, c.requires, long) in
    drop_by f os n (get_or os n 0) here (get_or_default os n 0 (get_or os n 0) here)
    ∙ ap (λ i. i ∷ drop (n + 1) (lent_instrs c.args.self.now)) (sym (c.from_opcode.ensures ∙ ap (instr_by (get_or os n 0)) c.operand_at.ensures))
