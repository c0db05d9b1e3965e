use Rattle.std.proofs.Common.{◌∙◌, List, ℕ, length, ap}
use Rattle.plan_image.specs.declared.body.Instr.{Instr}
use Rattle.plan_compile.specs.BodyKeys.{code_at}
use Rattle.plan_compile.proofs.CodeLemmas.{key_long}
use Rattle.plan_compile.proofs.code.Code.len.Goals as goal

pub returns : goal.returns
returns c =
    c.len.ensures ∙ c.self.inside.key.ok.0 ∙ ap (λ (xs : List ℕ). length xs) c.self.invariant.0 ∙ key_long (code_at c.self.inside.key.items c.self.inside.operands.items)
    ∙ ap (λ (is : List Instr). length is) c.self.view_is
