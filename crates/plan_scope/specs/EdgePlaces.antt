-- The places of an edge's paths among those of all edges.
use Rattle.std.specs.Prelude.{◌≤◌, ℕ, List}
use Rattle.plan_parse.specs.declared.compact.PathLists.{PathLists}
use Rattle.plan_parse.specs.PathLists.{between}
use Rattle.plan_scope.specs.declared.edge.edge_list.PathPlaces.{PathPlaces}
use Rattle.plan_scope.specs.Scopes.{Text}

-- The paths of an edge, taken from the paths of all edges.
abbrev pub paths_at : List Text → PathPlaces → PathLists (List Text)
paths_at rows p = record {
  outputs = between p.outputs p.implicit_outputs rows;
  implicit_outputs = between p.implicit_outputs p.inputs rows;
  inputs = between p.inputs p.implicit_inputs rows;
  implicit_inputs = between p.implicit_inputs p.order_only_inputs rows;
  order_only_inputs = between p.order_only_inputs p.end rows;
}

-- The places of an edge's paths ascend and are at most `count`.
pub record ArePlaced (count : ℕ) (p : PathPlaces) : Type 0 where
  pub outputs : p.outputs ≤ p.implicit_outputs
  pub implicit_outputs : p.implicit_outputs ≤ p.inputs
  pub inputs : p.inputs ≤ p.implicit_inputs
  pub implicit_inputs : p.implicit_inputs ≤ p.order_only_inputs
  pub order_only_inputs : p.order_only_inputs ≤ p.end
  pub end : p.end ≤ count
