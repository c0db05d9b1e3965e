-- What the record adds to a manifest: edges wait for the makers of the paths that their entries name.
use Rattle.std.specs.Prelude.{◌≡◌, ◌≢◌, ◌⊎◌, ◌<◌, ◌≤◌, ◌==◌, ℕ, List, [], ◌∷◌, ◌++◌, All, Contains, Some, Result, Ok, Err, get_or, if◌then◌else◌, length, slice_get}
use Rattle.plan_depfile.specs.Depfile.{depfile_of}
use Rattle.plan_depfile.specs.declared.fault.DepFault.{DepFault}
use Rattle.plan_scope.specs.Edge.{Edge}
use Rattle.plan_scope.specs.Scopes.{Text}
use Rattle.plan_scope.specs.declared.edge.addition.Addition.{Addition}
use Rattle.plan_scope.specs.declared.manifest.Manifest.{Manifest}
use Rattle.plan_graph.specs.Cycles.{IsCycle, WaitsFor}
use Rattle.plan_graph.specs.Files.{producer_in}
use Rattle.plan_graph.specs.Graph.{all_waits, outputs_of, producer_of}
use Rattle.plan_graph.specs.declared.further_waits.Wait.{Wait}
use Rattle.plan_graph.specs.declared.graph_data.Graph.{Graph}
use Rattle.plan_verify.specs.Turn.{Deps}
use Rattle.plan_machine.specs.declared.event.reply.Reply.{Reply}
use Rattle.plan_machine.specs.declared.event.reply.Reply.TheVariants as reply
use Rattle.plan_lanes.specs.Journals.{Rule}
use Rattle.plan_lanes.specs.Recalled.{AreAmong, MayRecall}

-- The first output of an edge. The record has the edge's entry under this name.
abbrev pub name_of : Edge → Text
name_of e = get_or (outputs_of e) 0 []

-- The paths of a depfile. None if the grammar refuses it.
abbrev pub ok_or_none : Result (List Text) DepFault → List Text
ok_or_none (Ok paths) = paths
ok_or_none (Err fault) = []

-- The paths that the depfile in a reply names. None if the reply is no depfile, or one that the grammar refuses.
abbrev pub paths_in : Reply → List Text
paths_in (reply.Bytes bytes) = ok_or_none (depfile_of bytes)
paths_in r = []

-- The world may reply to a read of the depfile at this path with one that names these paths, or with none.
abbrev pub MayRead : Rule → Text → (paths : List Text) → Type 0
MayRead rule path paths = (n : ℕ) × (r : Reply) × rule n (Deps path) r × (paths_in r ≡ paths)

-- The paths that a depfile names, and then those of a start entry.
abbrev pub MayReadBegun : Rule → Edge → (paths : List Text) → Type 0
MayReadBegun rule e paths = (named kept : List Text) × MayRead rule e.depfile named × MayRecall rule (name_of e) kept × (paths ≡ named ++ kept)

-- The paths that the last commands of an edge read, as far as the record and the edge's depfile tell: by an entry, by the
-- depfile, or by both if it is a start entry.
abbrev pub MayNameOwn : Rule → Edge → (paths : List Text) → Type 0
MayNameOwn rule e paths = MayRecall rule (name_of e) paths ⊎ MayRead rule e.depfile paths ⊎ MayReadBegun rule e paths

-- Such paths, and then those that the record of another builder names for the edge.
abbrev pub MayNameBoth : Rule → Edge → (paths : List Text) → Type 0
MayNameBoth rule e paths = (own others : List Text) × MayNameOwn rule e own × MayRecall rule (name_of e) others × (paths ≡ own ++ others)

-- The paths that the last commands of an edge read, as far as the world tells.
abbrev pub MayName : Rule → Edge → (paths : List Text) → Type 0
MayName rule e paths = MayNameOwn rule e paths ⊎ MayNameBoth rule e paths

-- Edge e waits for edge w, directly or through other edges.
pub data DependsOn (waits : List (List ℕ)) (e : ℕ) : ℕ → Type 0 where
  directly : {w : ℕ} → WaitsFor waits e w → DependsOn waits e w
  through : {v w : ℕ} → DependsOn waits e v → WaitsFor waits v w → DependsOn waits e w

-- An entry or depfile of edge e names an output of edge w.
pub record NamesOutput (rule : Rule) (edges : List Edge) (e w : ℕ) : Type 0 where
  pub edge : Edge
  pub there : slice_get edges e ≡ Some edge
  pub paths : List Text
  pub recalled : MayName rule edge paths
  pub path : Text
  pub named : Contains paths path
  pub made : producer_of edges path ≡ Some w

-- Each of these waits is one of the manifest, or one for an output that an entry or a depfile names.
abbrev pub AreRecordedWaits : Rule → List Edge → List (List ℕ) → Type 0
AreRecordedWaits rule edges waits = (e w : ℕ) → WaitsFor waits e w → WaitsFor (all_waits edges) e w ⊎ NamesOutput rule edges e w

-- Both edges are on a cycle of such waits.
pub record AreOnCycle (rule : Rule) (edges : List Edge) (e w : ℕ) : Type 0 where
  pub waits : List (List ℕ)
  pub recorded : AreRecordedWaits rule edges waits
  pub cycle : List ℕ
  pub is : IsCycle waits cycle
  pub first : Contains cycle e
  pub second : Contains cycle w

-- A recorded path of edge e may be left out: no other edge makes it, or edge e depends on its maker by the manifest, or
-- both are on a cycle.
abbrev pub MayLeave : Rule → List Edge → ℕ → Text → Type 0
MayLeave rule edges e path = (w : ℕ) → producer_of edges path ≡ Some w → w ≢ e → DependsOn (all_waits edges) e w ⊎ AreOnCycle rule edges e w

-- Some of these paths: each path that may not be left out is among them.
pub record AreSome (Leave : Text → Type 0) (paths kept : List Text) : Type 0 where
  pub some : All (Contains paths) kept
  pub all : All (λ path. Contains kept path ⊎ Leave path) paths

-- The order-only inputs that an edge gains. An edge without a depfile gains none. Other edges gain the paths that their
-- last command read, except those that may be left out.
abbrev pub IsRecorded : Rule → List Edge → ℕ → Edge → (added : List Text) → Type 0
IsRecorded rule edges e edge added =
    ((edge.depfile ≡ []) × (added ≡ []))
    ⊎ ((paths : List Text) × MayName rule edge paths × AreSome (MayLeave rule edges e) paths added)

-- The order-only inputs in an addition, if it is one for edge e.
abbrev pub own_paths : ℕ → Addition → List Text
own_paths e a = if a.edge == e then a.order_only else []

-- The order-only inputs that edge e gains by all additions.
abbrev pub paths_for : ℕ → List Addition → List Text
paths_for e [] = []
paths_for e (a ∷ additions) = own_paths e a ++ paths_for e additions

-- An edge other than edge e makes a path.
abbrev pub IsMadeElsewhere : List Edge → ℕ → Text → Type 0
IsMadeElsewhere edges e path = (w : ℕ) × (producer_of edges path ≡ Some w) × (w ≢ e)

-- An addition to an edge of the manifest: order-only inputs, each of which another edge makes.
pub record IsOrderOnly (edges : List Edge) (a : Addition) : Type 0 where
  pub there : a.edge < length edges
  pub outputs : a.outputs ≡ []
  pub inputs : a.inputs ≡ []
  pub made : All (IsMadeElsewhere edges a.edge) a.order_only

-- What the record adds to a manifest, by the rule of the world.
pub record AreRecorded (rule : Rule) (m : Manifest) (additions : List Addition) : Type 0 where
  pub only : All (IsOrderOnly m.edges) additions
  pub each : (e : ℕ) (edge : Edge) → slice_get m.edges e ≡ Some edge → IsRecorded rule m.edges e edge (paths_for e additions)

-- ---- parts of the search

-- The paths that the last command of an edge read, of those that are wanted.
abbrev pub NamesAmong : Rule → (wanted : List Text) → Edge → (found : List Text) → Type 0
NamesAmong rule wanted e found = (paths : List Text) × MayName rule e paths × AreAmong wanted paths found

-- Those of these paths that the record and the depfile tell.
abbrev pub NamesOwn : Rule → (wanted : List Text) → Edge → (found : List Text) → Type 0
NamesOwn rule wanted e found = (paths : List Text) × MayNameOwn rule e paths × AreAmong wanted paths found

-- The paths that the depfile of an edge names, of those that are wanted.
abbrev pub ReadsAmong : Rule → (wanted : List Text) → Edge → (found : List Text) → Type 0
ReadsAmong rule wanted e found = (paths : List Text) × MayRead rule e.depfile paths × AreAmong wanted paths found

-- An addition of order-only inputs to one of the first n edges.
abbrev pub IsRecalled : ℕ → Addition → Type 0
IsRecalled n a = (a.edge < n) × (a.outputs ≡ []) × (a.inputs ≡ [])

-- An addition of order-only inputs to one of the edges from one number up to another one.
abbrev pub IsRecalledFrom : ℕ → ℕ → Addition → Type 0
IsRecalledFrom from to a = (from ≤ a.edge) × IsRecalled to a

-- The paths of the entries of the edges from one number up to another one, of which some may be no outputs.
pub record AreRecalledBetween (rule : Rule) (edges : List Edge) (from to : ℕ) (additions : List Addition) : Type 0 where
  pub only : All (IsRecalledFrom from to) additions
  pub each : (e : ℕ) (edge : Edge) → from ≤ e → e < to → slice_get edges e ≡ Some edge → IsRecorded rule edges e edge (paths_for e additions)

-- The paths of entries, of which some may be no outputs.
pub record AreRecalled (rule : Rule) (edges : List Edge) (additions : List Addition) : Type 0 where
  pub only : All (IsRecalled (length edges)) additions
  pub each : (e : ℕ) (edge : Edge) → slice_get edges e ≡ Some edge → IsRecorded rule edges e edge (paths_for e additions)

-- An edge other than edge e makes a path, by the graph.
abbrev pub IsMadeIn : Graph → ℕ → Text → Type 0
IsMadeIn g e path = (w : ℕ) × (producer_in g.files path ≡ Some w) × (w ≢ e)

-- A path of edge e may be left out, by the graph: no other edge makes it, or edge e depends on its maker, or both are
-- among the edges of a cycle.
abbrev pub MayLeaveIn : Graph → (cycle : List ℕ) → ℕ → Text → Type 0
MayLeaveIn g cycle e path = (w : ℕ) → producer_in g.files path ≡ Some w → w ≢ e → DependsOn g.waits e w ⊎ (Contains cycle e × Contains cycle w)

-- An addition of order-only inputs to one of the first n edges, each of which another edge makes.
abbrev pub IsNeeded : Graph → ℕ → Addition → Type 0
IsNeeded g n a = IsRecalled n a × All (IsMadeIn g a.edge) a.order_only

-- A wait for the maker of a path that an addition has.
abbrev pub IsWaitOf : Graph → List Addition → Wait → Type 0
IsWaitOf g additions wait = (a : Addition) × Contains additions a × (a.edge ≡ wait.edge) × (path : Text) × Contains a.order_only path × (producer_in g.files path ≡ Some wait.maker)
