use Rattle.std.proofs.Common.{ℕ, ◌≡◌, ◌+◌, ◌++◌, List, [], ◌∷◌, true, take, ap, subst, slice_set, sym, ◌∙◌, option_map, Bor}
use Rattle.std.proofs.lemmas.List.{map_more}
use Rattle.plan_text.specs.declared.piece_reader.Piece.{Piece}
use Rattle.plan_parse.specs.declared.statement.Binding.{Binding}
use Rattle.plan_scope.specs.Scopes.{Bindings, last_of}
use Rattle.plan_scope.specs.Edges.{late}
use Rattle.plan_scope.specs.Keys.{AreMarked, mark_of}
use Rattle.plan_scope.proofs.ScopedMapLemmas.{marked_more}
use Rattle.plan_scope.proofs.SmallMapLemmas.{pushed}
use Rattle.plan_scope.proofs.edge.compiled.RuleVariables.new.Goals as goal

pub loop-binding-preserved : goal.loop-binding-preserved
loop-binding-preserved c =
    let i = c.loop-binding.binding-index in
    let bindings = c.args.bindings.now in
    let b = c.binding-item.result in
    let now = λ (p : Bor (List Piece)). p.now in
    let entry : Binding → List ℕ × List Piece = λ x. (x.name, x.value) in
    let more : late (take i bindings) ++ (b.name, b.value) ∷ [] ≡ late (take (i + 1) bindings) =
    ap (λ (x : Binding). late (take i bindings) ++ (x.name, x.value) ∷ []) c.binding-item.is ∙ sym (map_more entry bindings i b c.loop-binding-test.true)
    in (
      λ n.
          ap (option_map now) (c.in_ok-set.ensures.bound n)
          ∙ (pushed now n c.loop-binding.last (late (take i bindings)) c.as_slice.result.now b.name c.as_slice-in-loop-binding.result b.value c.as_slice.ensures c.as_slice-in-loop-binding.ensures (c.loop-binding.invariant.0 n)
          ∙ ap (λ (bs : Bindings (List Piece)). last_of n bs) more),
      subst (AreMarked (slice_set c.loop-binding.marked c.mark.result true)) more
          (marked_more (late (take i bindings)) c.loop-binding.marked c.mark.result b.name b.value c.loop-binding.invariant.1 (c.mark.ensures.mark ∙ ap mark_of c.as_slice-in-loop-binding-2.ensures) c.mark.ensures.within),
    )
