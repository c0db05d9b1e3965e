-- The edges of a manifest, with their files by number.
use Rattle.std.specs.Prelude.{ℕ, suc, ◌-◌, ◌==◌, Bool, true, false, not, List, [], ◌∷◌, length, take, drop, filter, get_or, slice_index, Option, Some, None}
use Rattle.plan_scope.specs.Edge.{Edge as ManifestEdge}
use Rattle.plan_scope.specs.declared.manifest.Pool.{Pool as ManifestPool}
use Rattle.plan_scope.specs.declared.manifest.Manifest.{Manifest}
use Rattle.plan_graph.specs.declared.graph_data.Graph.{Graph}
use Rattle.plan_graph.specs.Files.{Table, paths_in, producer_at}
use Rattle.plan_verify.specs.Members.{is_member}
use Rattle.plan_compile.specs.declared.baseline.Baseline.{Baseline}
use Rattle.plan_compile.specs.declared.baseline.OutOfDateRule.{OutOfDateRule}
use Rattle.plan_compile.specs.Rule.{baseline_by}

-- an edge: its edge in the manifest, the numbers of its files, the edges that it waits for, its rank, and its
-- baseline
pub record Build : Type 0 where
  pub edge : ManifestEdge
  pub outputs : List ℕ
  -- explicit and implicit inputs
  pub named : List ℕ
  pub order_only : List ℕ
  pub waits : List ℕ
  pub rank : ℕ
  pub baseline : Baseline

-- a default for edges that don't exist
abbrev pub no_edge : ManifestEdge
no_edge = record {
  paths = record { outputs = []; implicit_outputs = []; inputs = []; implicit_inputs = []; order_only_inputs = [] };
  command = [];
  description = [];
  depfile = [];
  deps = false;
  restat = false;
  generator = false;
  phony = false;
  pool = [];
}

-- removes the outputs of a phony from its inputs
abbrev pub without_own : Bool → (outputs inputs : List ℕ) → List ℕ
without_own true outputs inputs = filter (λ f. not (is_member f outputs)) inputs
without_own false outputs inputs = inputs

-- the number of an edge's inputs that are explicit or implicit: the order-only ones are last
abbrev pub named_count : ManifestEdge → List ℕ → ℕ
named_count e inputs = length inputs - length e.paths.order_only_inputs

-- an edge with these rows of a graph, for this rule
abbrev pub build_of : OutOfDateRule → ManifestEdge → (outputs inputs waits : List ℕ) → (rank : ℕ) → Build
build_of rule e outputs inputs waits rank = record {
  edge = e;
  outputs = outputs;
  named = without_own e.phony outputs (take (named_count e inputs) inputs);
  order_only = without_own e.phony outputs (drop (named_count e inputs) inputs);
  waits = waits;
  rank = rank;
  baseline = baseline_by e.restat e.generator rule;
}

-- the edge with this number
abbrev pub build_at : OutOfDateRule → Graph → ℕ → ManifestEdge → Build
build_at rule g n e = build_of rule e (get_or g.outputs n []) (get_or g.inputs n []) (get_or g.waits n []) (slice_index g.ranks n)

-- edges, the first of which has the number n
abbrev pub builds_from : OutOfDateRule → Graph → ℕ → List ManifestEdge → List Build
builds_from rule g n [] = []
builds_from rule g n (e ∷ es) = build_at rule g n e ∷ builds_from rule g (suc n) es

-- the data from which an image is created: the edges have their baselines by the rule that it is compiled for
pub record Builds : Type 0 where
  pub files : List (List ℕ)
  pub edges : List Build
  pub pools : List ManifestPool
  pub defaults : List ℕ

abbrev pub builds : OutOfDateRule → Manifest → Graph → Builds
builds rule m g = record { files = paths_in g.files; edges = builds_from rule g 0 m.edges; pools = m.pools; defaults = g.defaults }

-- the edge is the producer
abbrev pub is_maker : Option ℕ → ℕ → Bool
is_maker (Some producer) edge = producer == edge
is_maker None edge = false

-- the numbers of files, without the outputs of this edge if it is a phony
abbrev pub without_made : Table → ℕ → Bool → List ℕ → List ℕ
without_made files edge true numbers = filter (λ f. not (is_maker (producer_at files f) edge)) numbers
without_made files edge false numbers = numbers
