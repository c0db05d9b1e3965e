use Rattle.std.proofs.Common.{◌≡◌, ◌<◌, ◌+◌, ◌++◌, ◌∷◌, [], ◌∙◌, List, ap, append_assoc, arith, length, sym, take}
use Rattle.std.specs.Prelude.{flat_map}
use Rattle.std.proofs.lemmas.List.{flat_map_more, take_more}
use Rattle.std.proofs.lemmas.Option.{get_or_from_slice_get}
use Rattle.plan_scope.specs.Edge.{Edge}
use Rattle.plan_scope.specs.Scopes.{Text}
use Rattle.plan_graph.specs.Graph.{outputs_of}
use Rattle.plan_commands.proofs.recorded.filter_of.Goals as goal

pub loop-number-preserved : goal.loop-number-preserved
loop-number-preserved c =
    let edges = c.args.edges.now in
    let n = c.loop-number.number in
    let edge = c.edge-edge.result in
    let lt : n < length edges = omega (arith, c.loop-number-test.true, c.len-number-end.ensures) in
    let taken : take (n + 1) edges ≡ take n edges ++ edge ∷ [] = take_more edges n edge lt ∙ ap (λ (x : Edge). take n edges ++ x ∷ []) (get_or_from_slice_get edges n edge edge c.edge-edge.ensures) in
    let first : c.add_paths.new.filter ≡ flat_map outputs_of (take n edges) ++ edge.paths.outputs = c.add_paths.ensures ∙ ap (λ (l : List Text). l ++ c.outputs.result) c.loop-number.invariant ∙ ap (λ (l : List Text). flat_map outputs_of (take n edges) ++ l) c.outputs.ensures in
    let second : c.add_paths-in-loop-number.new.filter ≡ (flat_map outputs_of (take n edges) ++ edge.paths.outputs) ++ edge.paths.implicit_outputs
    = c.add_paths-in-loop-number.ensures ∙ ap (λ (l : List Text). l ++ c.implicit_outputs.result) first ∙ ap (λ (l : List Text). (flat_map outputs_of (take n edges) ++ edge.paths.outputs) ++ l) c.implicit_outputs.ensures in
    second ∙ append_assoc (flat_map outputs_of (take n edges)) edge.paths.outputs edge.paths.implicit_outputs ∙ flat_map_more outputs_of [] (take n edges) edge ∙ ap (flat_map outputs_of) (sym taken)
