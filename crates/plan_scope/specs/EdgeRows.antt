-- Edges whose paths and texts are held in rows that all edges share.
use Rattle.std.specs.Prelude.{◌≡◌, ◌<◌, ℕ, List, [], All, length, map, get_or}
use Rattle.plan_parse.specs.declared.compact.PathLists.{PathLists}
use Rattle.plan_scope.specs.declared.edge.edge_list.EdgeMarks.{EdgeMarks}
use Rattle.plan_scope.specs.declared.edge.edge_list.EdgeRows.{EdgeRows}
use Rattle.plan_scope.specs.Edge.{Edge}
use Rattle.plan_scope.specs.EdgePlaces.{ArePlaced, paths_at}
use Rattle.plan_scope.specs.Scopes.{Text}

-- An edge with these paths and with texts taken from those of all edges.
abbrev pub edge_with : PathLists (List Text) → List Text → EdgeMarks → Edge
edge_with paths texts m = record {
  paths = paths;
  command = get_or texts m.command [];
  description = get_or texts m.description [];
  depfile = get_or texts m.depfile [];
  deps = m.deps;
  restat = m.restat;
  generator = m.generator;
  phony = m.phony;
  pool = get_or texts m.pool [];
}

-- An edge, taken from the paths and the texts of all edges.
abbrev pub edge_at : (rows texts : List Text) → EdgeMarks → Edge
edge_at rows texts m = edge_with (paths_at rows m.paths) texts m

-- The places of an edge are within these numbers of paths and texts.
pub record IsPlaced (path_count text_count : ℕ) (m : EdgeMarks) : Type 0 where
  pub paths : ArePlaced path_count m.paths
  pub command : m.command < text_count
  pub description : m.description < text_count
  pub depfile : m.depfile < text_count
  pub pool : m.pool < text_count

-- The first text is empty.
pub record BeginsEmpty (texts : List Text) : Type 0 where
  pub some : 0 < length texts
  pub none : get_or texts 0 [] ≡ []

-- The edges that the rows hold.
abbrev pub edges_in : EdgeRows → List Edge
edges_in r = map (edge_at r.paths.rows r.texts) r.marks.items

-- Each edge is within the rows, and the first text is empty.
pub record AreWithin (r : EdgeRows) : Type 0 where
  pub marks : All (IsPlaced (length r.paths.rows) (length r.texts)) r.marks.items
  pub empty : BeginsEmpty r.texts
