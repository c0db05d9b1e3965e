use Rattle.std.proofs.Common.{◌≡◌, List, Option, None, false, ap, subst, sym, ◌∙◌, slice_index_or}
use Rattle.plan_text.specs.declared.piece_reader.Piece.{Piece}
use Rattle.plan_scope.specs.Scopes.{Bindings, last_of}
use Rattle.plan_scope.proofs.edge.compiled.RuleVariables.get.Goals as goal

pub returns-then-not-self-mark : goal.returns-then-not-self-mark
returns-then-not-self-mark c =
    let name = c.args.name.now in
    subst (λ (f : Bindings (List Piece)). ◌≡◌ {A = Option (List Piece)} None (last_of name f)) c.self.view_is
    (sym (c.self.invariant.1.1 name (ap (λ i. slice_index_or c.self.inside.marked i false) (sym c.mark.ensures.mark) ∙ c.if-not-self-mark.true)))
