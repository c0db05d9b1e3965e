use Rattle.std.proofs.Common.{◌∙◌, false, refl}
use Rattle.std.specs.Prelude.{is_none}
use Rattle.plan_scope.specs.Scopes.{Name}
use Rattle.plan_scope.specs.Expansion.{plain, quoted, variable}
use Rattle.plan_scope.specs.Edges.{plain_names, quoted_names}
use Rattle.plan_scope.specs.HeldEnvironment.{environment_of}
use Rattle.plan_scope.proofs.CompiledLemmas.{both_whole}
use Rattle.plan_scope.proofs.VariableLemmas.{◌∷≡◌, also, any_past_is, checked_are, or_both}
use Rattle.plan_scope.proofs.edge.variables.expanded_variables.Goals as goal

pub returns : goal.returns
returns c = checked_are c.checked.result _ _ _ c.checked.ensures
    (λ enough.
    let edge = environment_of c.args.edge.now in
    let both = both_whole _ _ enough in
    let description = both.0 in
    let command = c.variable-4.ensures.memory description in
    let rspfile = both.1 in
    let restat = c.variable-9.ensures.memory rspfile in
    let pool = c.variable-8.ensures.memory restat in
    let generator = c.variable-7.ensures.memory pool in
    let dyndep = c.variable-6.ensures.memory generator in
    let deps = c.variable-5.ensures.memory dyndep in
    let depfile = c.variable-3.ensures.memory deps in
    let shell = also _ _ _ _ (c.variable-4.ensures.cycle description)
    (also _ _ _ _ (c.variable.ensures.cycle command) c.no_findings-quoted.ensures.cycle) in
    let plainly =
    also _ _ _ _ (c.variable-9.ensures.cycle rspfile)
    (also _ _ _ _ (c.variable-8.ensures.cycle restat)
    (also _ _ _ _ (c.variable-7.ensures.cycle pool)
    (also _ _ _ _ (c.variable-6.ensures.cycle generator)
    (also _ _ _ _ (c.variable-5.ensures.cycle dyndep)
    (also _ _ _ _ (c.variable-3.ensures.cycle deps)
    (also _ _ _ _ (c.variable-2.ensures.cycle depfile) c.no_findings-plain.ensures.cycle)))))) in
    let one = shell ∙ any_past_is (λ (n : Name). is_none (variable quoted edge n)) false quoted_names in
    let other = plainly ∙ any_past_is (λ (n : Name). is_none (variable plain edge n)) false plain_names in
    record {
      texts =
          c.variable.ensures.text command ∷≡
          c.variable-2.ensures.text depfile ∷≡
          c.variable-3.ensures.text deps ∷≡
          c.variable-4.ensures.text description ∷≡
          c.variable-5.ensures.text dyndep ∷≡
          c.variable-6.ensures.text generator ∷≡
          c.variable-7.ensures.text pool ∷≡
          c.variable-8.ensures.text restat ∷≡
          c.variable-9.ensures.text rspfile ∷≡ refl;
      cycle = or_both _ _ _ _ one other;
    })
