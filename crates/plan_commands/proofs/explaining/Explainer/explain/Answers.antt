use Rattle.std.proofs.Common.{◌∙◌, Global, Vec, subst, ℕ}
use Rattle.std.specs.Prelude.{option_map}
use Rattle.plan_scope.specs.declared.manifest.Manifest.{Manifest}
use Rattle.plan_commands.specs.Explaining.{Explains}
use Rattle.plan_commands.proofs.ExplainingLemmas.{into, out_of}
use Rattle.plan_commands.proofs.explaining.Explainer.explain.Goals as goal

pub returns : goal.returns
returns c =
    let laid = c.self.invariant in
    into c.sentence_for.result (λ text ok.
    subst (λ (m : Manifest). Explains m c.args.edge c.args.command.now c.args.outputs.now c.args.observed.now (option_map (λ (t : Vec ℕ Global). t.items) text)) c.self.view_is
    (laid.1, laid.2, out_of _ c.sentence_for.result text ok (c.sentence_for.ensures laid.1 laid.2 (c.deref.ensures.value ∙ laid.3))))
