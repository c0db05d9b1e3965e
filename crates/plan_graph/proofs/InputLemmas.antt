-- The inputs of an edge, of all sorts.
use Rattle.std.proofs.Common.{◌≡◌, ◌++◌, ◌∙◌, true, false, List, ap, refl, sym}
use Rattle.std.specs.Prelude.{filter, if◌then◌else◌, not}
use Rattle.std.proofs.lemmas.List.{append_assoc}
use Rattle.std.proofs.lemmas.List.Elements.{filter-append}
use Rattle.plan_scope.specs.Edge.{Edge}
use Rattle.plan_scope.specs.Edges.{is_among}
use Rattle.plan_graph.specs.Files.{Path}
use Rattle.plan_graph.specs.Graph.{inputs_named, inputs_of, outputs_of, without_own}

without_append : (e : Edge) (xs ys : List Path) → without_own e (xs ++ ys) ≡ without_own e xs ++ without_own e ys
without_append e xs ys =
    let test = λ (p : Path). not (is_among (outputs_of e) p) in
    elim e.phony as (λ b. (if b then filter test (xs ++ ys) else xs ++ ys) ≡ (if b then filter test xs else xs) ++ (if b then filter test ys else ys))
    [ true ↦ filter-append test xs ys | false ↦ refl ]

-- the inputs of all sorts are the named ones, without the own outputs of a phony
pub inputs_are : (e : Edge) → inputs_of e ≡ without_own e (inputs_named e)
inputs_are e = sym (without_append e (e.paths.inputs ++ e.paths.implicit_inputs) e.paths.order_only_inputs) ∙ ap (without_own e) (append_assoc e.paths.inputs e.paths.implicit_inputs e.paths.order_only_inputs)
