-- Parts of a scan.
use Rattle.std.specs.Prelude.{◌≡◌, ◌<◌, ◌≤◌, ◌==◌, ◌+◌, ◌&&◌, ℕ, suc, Bool, true, false, not, List, [], ◌∷◌, Option, Some, None, get_or, length, map, nat_lt, slice_get}
use Rattle.std.specs.List.{list_all}
use Rattle.plan_scope.specs.Edge.{Edge as ManifestEdge}
use Rattle.plan_scope.specs.declared.manifest.Manifest.{Manifest}
use Rattle.plan_graph.specs.declared.graph_data.Graph.{Graph}
use Rattle.plan_graph.specs.Files.{producer_at}
use Rattle.plan_verify.specs.Turn.{Recall, Stat}
use Rattle.plan_compile.specs.Builds.{build_at}
use Rattle.plan_compile.specs.Rule.{Path, baseline_by, paths_in}
use Rattle.plan_compile.specs.declared.baseline.OutOfDateRule.TheVariants.{Stricter}
use Rattle.plan_machine.specs.declared.event.reply.Reply.TheVariants.{Stamp}
use Rattle.plan_lanes.specs.Journals.{Rule}
use Rattle.plan_reasons.specs.declared.facts.Facts.{Facts}
use Rattle.plan_reasons.specs.Facts.{named_input}
use Rattle.plan_reasons.specs.Observing.{Observations, entry_reply, file_exchanges}
use Rattle.plan_scan.specs.declared.found.Found.{Found}
use Rattle.plan_scan.specs.Scans.{AreAllowed, IsUpToDate, MayBe, found_of, given, path_of}

-- ---- stamps of files

-- the world allows this stamp for the file under every number
abbrev pub IsStampOf : Rule → Graph → (file stamp : ℕ) → Type 0
IsStampOf rule g f t = (number : ℕ) → rule number (Stat (path_of g f)) (Stamp t)

-- the world allows these stamps for the files from one number on
abbrev pub AreStampsFrom : Rule → Graph → ℕ → List ℕ → Type 0
AreStampsFrom rule g from [] = Unit {0}
AreStampsFrom rule g from (t ∷ stamps) = IsStampOf rule g from t × AreStampsFrom rule g (suc from) stamps

-- the same, for the files from one number up to another one
pub record AreStampsBetween (rule : Rule) (g : Graph) (from to : ℕ) (stamps : List ℕ) : Type 0 where
  pub allowed : AreStampsFrom rule g from stamps
  pub all : from + length stamps ≡ to

abbrev pub AreStamps : Rule → Graph → List ℕ → Type 0
AreStamps rule g stamps = (f : ℕ) → f < length stamps → IsStampOf rule g f (get_or stamps f 0)

-- ---- inputs

abbrev pub stamp_at : List ℕ → ℕ → ℕ
stamp_at stamps f = get_or stamps f 0

abbrev pub is_missing_by : Option ℕ → ℕ → Bool
is_missing_by None stamp = stamp == 0
is_missing_by (Some maker) stamp = false

-- a source file that is missing
abbrev pub is_missing : Graph → List ℕ → ℕ → Bool
is_missing g stamps f = is_missing_by (producer_at g.files f) (stamp_at stamps f)

abbrev pub stamp_by : Option ℕ → ℕ → Found → ℕ
stamp_by None stamp x = stamp
stamp_by (Some maker) stamp x = x.stamp

-- the stamp of an input: that of a source file, or what was found of an output
abbrev pub input_stamp : Graph → List ℕ → List Found → ℕ → ℕ
input_stamp g stamps found f = stamp_by (producer_at g.files f) (stamp_at stamps f) (found_of found f)

-- ---- edges

-- the edge with this number is up to date if it is marked
abbrev pub IsUpToDateAt : Rule → Manifest → Graph → List Found → List Bool → ℕ → Type 0
IsUpToDateAt rule m g found wanted n =
    (x : ManifestEdge) → slice_get wanted n ≡ Some true → slice_get m.edges n ≡ Some x → IsUpToDate rule g found (build_at Stricter g n x)

-- each of these edges that is marked is up to date
abbrev pub AreUpToDate : Rule → Manifest → Graph → List Found → List Bool → (from to : ℕ) → Type 0
AreUpToDate rule m g found wanted from to =
    (e : ℕ) (x : ManifestEdge) → from ≤ e → e < to → slice_get wanted e ≡ Some true → slice_get m.edges e ≡ Some x → IsUpToDate rule g found (build_at Stricter g e x)

abbrev pub is_marked : List Bool → ℕ → Bool
is_marked wanted e = get_or wanted e false

-- what these edges wait for is marked, too, if they are
abbrev pub IsClosedBelow : (waits : List (List ℕ)) → (wanted : List Bool) → ℕ → Type 0
IsClosedBelow waits wanted n = (e : ℕ) → e < n → is_marked wanted e ≡ true → list_all (is_marked wanted) (get_or waits e []) ≡ true

-- ---- an edge with a command

-- what was found of an output is its own stamp
abbrev pub keeps_stamp : List ℕ → List Found → ℕ → Bool
keeps_stamp stamps found f = nat_lt f (length stamps) && ((found_of found f).stamp == stamp_at stamps f) && not (found_of found f).changed

-- The stamps of these named inputs and outputs; an entry that the world may recall for the output with this name; and the
-- stamps of its paths.
abbrev pub Sees : Rule → Graph → List ℕ → List Found → (named outputs : List ℕ) → (name : Path) → Observations → Type 0
Sees rule g stamps found named outputs name o =
    (o.named ≡ map (input_stamp g stamps found) named) × (o.outputs ≡ map (stamp_at stamps) outputs) × MayBe rule (Recall name) (entry_reply o.entry)
    × (length o.recorded ≡ length (paths_in o.entry)) × AreAllowed rule (file_exchanges (paths_in o.entry) o.recorded)

-- What the reasons need to know of an edge. The numbers of its order-only inputs and of its outputs don't matter.
abbrev pub AreFactsOf : Graph → List Found → ManifestEdge → (named : List ℕ) → Facts → Type 0
AreFactsOf g found e named x =
    (x.named ≡ map (λ f. named_input (given g found f)) named) × (x.command ≡ e.command) × (x.generator ≡ e.generator) × (x.baseline ≡ baseline_by e.restat e.generator Stricter)

-- ---- a phony edge

-- two flags are the same
abbrev pub agree : Bool → Bool → Bool
agree true other = other
agree false other = not other

-- what was found of an output is its own stamp; a missing file counts as changed
abbrev pub stands_alone : List ℕ → List Found → ℕ → Bool
stands_alone stamps found f = nat_lt f (length stamps) && ((found_of found f).stamp == stamp_at stamps f) && agree (stamp_at stamps f == 0) (found_of found f).changed

-- what was found of an output is this
abbrev pub is_gathered : List ℕ → List Found → (stamp : ℕ) (changed : Bool) → ℕ → Bool
is_gathered stamps found stamp changed f = nat_lt f (length stamps) && ((found_of found f).stamp == stamp) && agree changed (found_of found f).changed
