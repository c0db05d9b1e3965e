-- When nothing is to do: each wanted edge follows the out-of-date rule to its end and runs nothing, by what the world may
-- say of files and of the record.
use Rattle.std.specs.Prelude.{◌≡◌, ℕ, true, false, List, [], ◌∷◌, Option, Some, None, map, get_or, slice_get}
use Rattle.plan_scope.specs.Edge.{Edge as ManifestEdge}
use Rattle.plan_scope.specs.declared.manifest.Manifest.{Manifest}
use Rattle.plan_graph.specs.declared.graph_data.Graph.{Graph}
use Rattle.plan_graph.specs.Files.{paths_in, producer_at}
use Rattle.plan_verify.specs.Members.{is_member}
use Rattle.plan_verify.specs.Turn.{Request, Reply as Answer}
use Rattle.plan_compile.specs.Builds.{Build, build_at}
use Rattle.plan_compile.specs.declared.baseline.OutOfDateRule.TheVariants.{Stricter}
use Rattle.plan_compile.specs.InteractionTree.{Left, Over, Follows}
use Rattle.plan_compile.specs.Rule.{Path, Given, SourceFile, Made, Command}
use Rattle.plan_compile.specs.Told.{edge_does}
use Rattle.plan_machine.specs.Depfile.{depfile}
use Rattle.plan_machine.specs.Step.{answer_of}
use Rattle.plan_machine.specs.declared.event.reply.Reply.{Reply}
use Rattle.plan_lanes.specs.Journals.{Rule}
use Rattle.plan_reasons.specs.Observing.{Exchange}
use Rattle.plan_scan.specs.declared.found.Found.{Found}

-- ---- what is found

-- the path of a file, by its number
abbrev pub path_of : Graph → ℕ → Path
path_of g f = get_or (paths_in g.files) f []

-- what was found of a file, by its number
abbrev pub found_of : List Found → ℕ → Found
found_of found f = get_or found f (record { stamp = 0; changed = false })

abbrev pub given_by : Option ℕ → ℕ → Path → Found → Given
given_by None f path x = SourceFile f path
given_by (Some maker) f path x = Made x.stamp x.changed

-- an input: a source file with its number and path, or an output with what was found of it
abbrev pub given : Graph → List Found → ℕ → Given
given g found f = given_by (producer_at g.files f) f (path_of g f) (found_of found f)

-- the facts of an edge that the rule is applied to
abbrev pub facts_by : Graph → List Found → Build → Command
facts_by g found x = record {
  named = map (given g found) x.named;
  order_only = map (given g found) x.order_only;
  outputs = map (path_of g) x.outputs;
  command = x.edge.command;
  depfile = x.edge.depfile;
  restat = x.edge.restat;
  generator = x.edge.generator;
  baseline = x.baseline;
}

-- what was found of these outputs
abbrev pub left_for : List Found → List ℕ → Left
left_for found outputs = map (λ f. ((found_of found f).stamp, (found_of found f).changed)) outputs

-- ---- an edge

-- the world allows this reply to the question under some number
abbrev pub MayBe : Rule → Request → Answer → Type 0
MayBe rule question answer = (reply : Reply) × (answer ≡ answer_of reply) × ((number : ℕ) × rule number question reply)

-- the world allows each reply
abbrev pub AreAllowed : Rule → List Exchange → Type 0
AreAllowed rule [] = Unit {0}
AreAllowed rule (x ∷ conversation) = MayBe rule x.0 x.1 × AreAllowed rule conversation

-- By replies that the world allows, the edge follows the rule to its end, and runs nothing. It leaves what was found of
-- its outputs.
pub record IsUpToDate (rule : Rule) (g : Graph) (found : List Found) (x : Build) : Type 0 where
  pub conversation : List Exchange
  pub allowed : AreAllowed rule conversation
  pub follows : Follows (edge_does x.edge.phony depfile (facts_by g found x)) conversation (Over false (left_for found x.outputs))

-- ---- all edges

-- an edge is wanted: it is a target, or a wanted edge waits for it
pub data IsWanted (g : Graph) (targets : List ℕ) : ℕ → Type 0 where
  is_target : {e : ℕ} → is_member e targets ≡ true → IsWanted g targets e
  is_waited : {e w : ℕ} → IsWanted g targets e → is_member w (get_or g.waits e []) ≡ true → IsWanted g targets w

-- What was found of files shows that each wanted edge is up to date.
pub record HasNothingToDo (rule : Rule) (m : Manifest) (g : Graph) (targets : List ℕ) : Type 0 where
  pub found : List Found
  pub clean : (e : ℕ) (x : ManifestEdge) → IsWanted g targets e → slice_get m.edges e ≡ Some x → IsUpToDate rule g found (build_at Stricter g e x)
