use Rattle.std.proofs.Common.{◌≡◌, ◌∙◌, List, ap, subst}
use Rattle.std.specs.Prelude.{IfOk}
use Rattle.plan_image.specs.declared.body.Instr.{Instr}
use Rattle.plan_image.specs.Bodies.{body_of}
use Rattle.plan_compile.specs.BodyKeys.{Body, body_at, code_at}
use Rattle.plan_compile.proofs.BodyKeyLemmas.{body_back}
use Rattle.plan_compile.proofs.code.Code.body.Goals as goal

pub returns : goal.returns
returns c =
    let members : c.in_ok-members.members.items ≡ body_of c.args.self.now =
    c.in_ok-members.ensures ∙ ap body_at (c.as_slice.ensures.value ∙ c.self.invariant.0) ∙ body_back (body_of (code_at c.self.inside.key.items c.self.inside.operands.items))
    ∙ ap (λ (is : List Instr). body_of is) c.self.view_is in
    subst (λ (b : Body). IfOk c.new.result (λ body. body ≡ b)) members c.new.ensures
