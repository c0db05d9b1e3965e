use Rattle.std.proofs.Common.{◌∙◌, ◌++◌, ◌∷◌, [], List, ap}
use Rattle.plan_image.specs.declared.body.Instr.{Instr}
use Rattle.plan_compile.proofs.CodeLemmas.{more, still}
use Rattle.plan_compile.proofs.code.Code.push.Goals as goal

pub invariant_of-self : goal.invariant_of-self
invariant_of-self c =
    still c.split_law.ensures.split c.self.inside.key.items c.self.inside.operands.items c.put.new.key.items c.put.new.operands.items c.args.instr c.self.invariant c.in-Ok.ensures.key c.in-Ok.ensures.operands
    c.put.ensures.small

pub returns-in-Ok : goal.returns-in-Ok
returns-in-Ok c =
    more c.split_law.ensures.split c.self.inside.key.items c.self.inside.operands.items c.put.new.key.items c.put.new.operands.items c.args.instr c.self.invariant c.in-Ok.ensures.key c.in-Ok.ensures.operands
    ∙ ap (λ (is : List Instr). is ++ c.args.instr ∷ []) c.self.view_is
