use Rattle.std.proofs.Common.{◌≡◌, ◌∙◌, List, [], ◌∷◌, ◌++◌, ap, sym}
use Rattle.std.proofs.lemmas.Result.{on_ok_weaker}
use Rattle.plan_text.specs.declared.piece_reader.Piece.{Piece}
use Rattle.plan_scope.specs.Scopes.{Bindings, ScopedBindings, frame, in_own, last_of}
use Rattle.plan_scope.specs.Edges.{late}
use Rattle.plan_scope.proofs.EvaluatorLemmas.{own_bound}
use Rattle.plan_scope.proofs.manifest.rules.insert_rule.Goals as goal

pub returns : goal.returns
returns c =
    let name = c.args.rule.now.name in
    let rule = late c.args.rule.now.bindings in
    let own = c.in-Some.own in
    let bound : (own, (c.as_slice-2.result.now, c.in_ok-variables.variables)) ∷ [] ≡ in_own c.args.scopes.now name rule =
    own_bound c.args.scopes.now own c.as_slice-2.result.now name c.in_ok-variables.variables rule (sym c.own_scope.ensures ∙ c.in-Some.is) c.as_slice-2.ensures (c.in_ok-variables.ensures ∙ ap late c.as_slice.ensures) in
    on_ok_weaker c.set.result
    (λ known s n. known s n ∙ ap (λ (bs : ScopedBindings (Bindings (List Piece))). last_of n (frame s (c.args.rules.now ++ bs))) bound)
    c.set.ensures.bound
