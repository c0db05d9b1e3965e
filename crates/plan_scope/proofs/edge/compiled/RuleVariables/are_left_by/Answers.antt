use Rattle.std.proofs.Common.{◌≡◌, ◌∙◌, ◌+◌, ◌++◌, ◌∷◌, [], List, ℕ, None, ap, subst, sym, take}
use Rattle.std.proofs.lemmas.List.{map_more, take_all}
use Rattle.plan_text.specs.declared.piece_reader.Piece.{Piece}
use Rattle.plan_parse.specs.declared.statement.Binding.{Binding}
use Rattle.plan_scope.specs.Scopes.{Bindings, last_of}
use Rattle.plan_scope.specs.Edges.{late}
use Rattle.plan_scope.specs.Compiled.{LeavesRule}
use Rattle.plan_scope.proofs.CompiledLemmas.{left_more}
use Rattle.plan_scope.proofs.edge.compiled.RuleVariables.are_left_by.Goals as goal

pub loop-binding-preserved : goal.loop-binding-preserved
loop-binding-preserved c =
    let i = c.loop-binding.binding-index in
    let bindings = c.self.inside.bindings.now in
    let b = c.binding-item.result in
    let block = c.args.block.now in
    let entry : Binding → List ℕ × List Piece = λ x. (x.name, x.value) in
    let more : late (take i bindings) ++ (b.name, b.value) ∷ [] ≡ late (take (i + 1) bindings) =
    ap (λ (x : Binding). late (take i bindings) ++ (x.name, x.value) ∷ []) c.binding-item.is ∙ sym (map_more entry bindings i b c.loop-binding-test.true)
    in
    let none : last_of b.name block ≡ None = ap (λ (n : List ℕ). last_of n block) (sym c.as_slice.ensures) ∙ sym c.in-None.ensures in
    subst (λ (r : Bindings (List Piece)). LeavesRule r block) more (left_more (late (take i bindings)) block b.name b.value c.loop-binding.invariant none)

pub returns : goal.returns
returns c = λ e.
    subst (λ (r : Bindings (List Piece)). LeavesRule r c.args.block.now) (ap late (take_all c.loop-binding.binding-index c.self.inside.bindings.now c.loop-binding-test.false) ∙ c.self.view_is) c.loop-binding.invariant
