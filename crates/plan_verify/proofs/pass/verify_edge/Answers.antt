use Rattle.std.proofs.Common.{Some, refl, sym, ap, ◌∙◌}
use Rattle.plan_image.specs.declared.image.Parts.{Parts}
use Rattle.plan_image.specs.Columns.{lent}
use Rattle.plan_verify.specs.Shape.{table_refusal_of}
use Rattle.plan_verify.specs.WellShaped.{tables_fail}
use Rattle.plan_verify.proofs.VerifiedLemmas.{table_refusal_is}
use Rattle.plan_verify.proofs.pass.verify_edge.Goals as goal

pub returns-in-Some-clause-err : goal.returns-in-Some-clause-err
returns-in-Some-clause-err c = (
  refl,
  tables_fail (table_refusal_is c.args.image.now c.args.edge (lent c.args.entry) c.requires.entry
      ∙ ap (λ (p : Parts). table_refusal_of p c.args.edge (Some (lent c.args.entry))) (sym c.parts.ensures.tables) ∙ sym c.in-Some.ensures),
)

pub pass_code-requires-clause-tables : goal.pass_code-requires-clause-tables
pass_code-requires-clause-tables c =
    table_refusal_is c.args.image.now c.args.edge (lent c.args.entry) c.requires.entry
    ∙ ap (λ (p : Parts). table_refusal_of p c.args.edge (Some (lent c.args.entry))) (sym c.parts.ensures.tables) ∙ sym c.in_default.ensures
