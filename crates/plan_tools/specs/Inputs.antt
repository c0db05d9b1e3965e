-- What edges take as inputs, and what makes a path.
use Rattle.std.specs.Prelude.{ℕ, Bool, false, not, ◌==◌, List, [], filter, get_or, Option, Some, None}
use Rattle.plan_graph.specs.declared.graph_data.Graph.{Graph}
use Rattle.plan_graph.specs.Files.{producer_at}

-- whether the edge that makes a path is this one
abbrev pub is_edge : ℕ → Option ℕ → Bool
is_edge e (Some maker) = maker == e
is_edge e None = false

-- the inputs of an edge, as it names them; a phony's own outputs are not among them
abbrev pub inputs_at : Graph → (edge : ℕ) → List ℕ
inputs_at g e = filter (λ i. not (is_edge e (producer_at g.files i))) (get_or g.inputs e [])

-- the inputs of the edge that makes a path; none of a source
abbrev pub inputs_made_from : Graph → Option ℕ → List ℕ
inputs_made_from g (Some e) = inputs_at g e
inputs_made_from g None = []
