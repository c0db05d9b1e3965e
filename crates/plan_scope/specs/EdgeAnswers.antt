-- Answers of the functions that append an edge.
use Rattle.std.specs.Prelude.{◌≡◌, ◌<◌, ℕ, List, [], ◌∷◌, ◌++◌, length, Result, Ok, Err}
use Rattle.plan_chunks.specs.Joining.{HasMore}
use Rattle.plan_scope.specs.declared.edge.paths.PathRows.{PathRows}
use Rattle.plan_scope.specs.declared.edge.paths.PathTexts.{PathTexts}
use Rattle.plan_scope.specs.declared.fault.Cause.{Cause}
use Rattle.plan_scope.specs.declared.fault.StatementFault.{StatementFault}
use Rattle.plan_scope.specs.declared.fault.StatementFault.TheVariants.{Refused, Memory}
use Rattle.plan_scope.specs.declared.edge.edge_list.PathPlaces.{PathPlaces}
use Rattle.plan_scope.specs.declared.edge.edge_list.EdgeMarks.{EdgeMarks}
use Rattle.plan_scope.specs.declared.edge.edge_list.EdgeRows.{EdgeRows}
use Rattle.plan_scope.specs.Edge.{Edge}
use Rattle.plan_scope.specs.EdgePlaces.{paths_at}
use Rattle.plan_scope.specs.EdgeRows.{AreWithin, edge_with, edges_in}
use Rattle.plan_scope.specs.Edges.{Paths}
use Rattle.plan_scope.specs.Scopes.{Text}

-- The paths of a build line that were read, from their places.
abbrev pub texts_read : PathRows → PathPlaces → PathTexts
texts_read r p = record { paths = paths_at r.rows p; has_empty = r.has_empty; has_long = r.has_long }

-- The answer when this edge is to be appended.
abbrev pub GivesEdge : (before now : EdgeRows) → Result (Unit {0}) StatementFault → Result Edge Cause → Type 0
GivesEdge before now (Ok done) meant = (edge : Edge) × (meant ≡ Ok edge) × (edges_in now ≡ edges_in before ++ edge ∷ []) × AreWithin now
GivesEdge before now (Err (Refused cause)) meant = meant ≡ Err cause
GivesEdge before now (Err Memory) meant = Unit {0}

-- The texts of an edge are among the first `count` texts.
abbrev pub AreTexts : ℕ → EdgeMarks → Type 0
AreTexts count m = (m.command < count) × (m.description < count) × (m.depfile < count) × (m.pool < count)

-- The answer when the texts of an edge with these paths are to be appended.
abbrev pub GivesMarks : Paths → PathPlaces → (before now : List Text) → Result EdgeMarks StatementFault → Result Edge Cause → Type 0
GivesMarks paths places before now (Ok m) meant = (meant ≡ Ok (edge_with paths now m)) × (m.paths ≡ places) × AreTexts (length now) m × HasMore before now
GivesMarks paths places before now (Err (Refused cause)) meant = meant ≡ Err cause
GivesMarks paths places before now (Err Memory) meant = Unit {0}
