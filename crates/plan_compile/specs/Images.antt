-- The image of a manifest.
use Rattle.std.specs.Prelude.{ℕ, zero, suc, ◌+◌, Bool, true, false, List, [], ◌∷◌, map, Some}
use Rattle.plan_scope.specs.declared.manifest.Manifest.{Manifest}
use Rattle.plan_graph.specs.declared.graph_data.Graph.{Graph}
use Rattle.plan_image.specs.declared.body.Instr.{Instr}
use Rattle.plan_image.specs.declared.image.Sort.{Sort}
use Rattle.plan_image.specs.declared.image.Sort.TheVariants.{Command, Phony}
use Rattle.plan_image.specs.declared.image.EdgeCode.{EdgeCode}
use Rattle.plan_image.specs.declared.image.EdgeCode.TheVariants.{Shared}
use Rattle.plan_image.specs.declared.image.Edge.{Edge}
use Rattle.plan_image.specs.declared.image.Parts.{Parts}
use Rattle.plan_image.specs.Bodies.{body_of, operands_of}
use Rattle.plan_compile.specs.declared.baseline.OutOfDateRule.{OutOfDateRule}
use Rattle.plan_compile.specs.declared.layout.Output.{Output}
use Rattle.plan_compile.specs.declared.layout.CommandLayout.{CommandLayout}
use Rattle.plan_compile.specs.declared.layout.GatherLayout.{GatherLayout}
use Rattle.plan_compile.specs.declared.layout.EdgeLayout.{EdgeLayout}
use Rattle.plan_compile.specs.declared.layout.EdgeLayout.TheVariants as layout
use Rattle.plan_compile.specs.declared.slot_pattern.SlotPattern.{SlotPattern}
use Rattle.plan_compile.specs.declared.slot_pattern.SlotPattern.TheVariants.{Gathers, Alone}
use Rattle.plan_compile.specs.Emit.{code_of}
use Rattle.plan_compile.specs.Builds.{Build, Builds, builds}
use Rattle.plan_compile.specs.Slots.{form_of, outputs_by, newest_by, all_made, inputs_by, sources, flags_once, own_len, slots_from}
use Rattle.plan_compile.specs.Numbering.{number, once}
use Rattle.plan_compile.specs.BodyKeys.{Body, same_body}
use Rattle.plan_compile.specs.Names.{Text, text_number, label_of, all_texts, depfile_number, pool_in, used_pools, pool_number, declared}

-- ---- an edge by its numbers, its own slots being those from b on

abbrev pub is_blank : Text → Bool
is_blank [] = true
is_blank (c ∷ cs) = false

abbrev pub command_layout : List Text → List Output → SlotPattern → ℕ → Build → CommandLayout
command_layout texts outputs form b x = record {
  named = inputs_by outputs x.named;
  order_only = sources outputs x.named x.order_only;
  outputs = outputs_by form b x.outputs;
  flags = flags_once (inputs_by outputs x.named);
  newest = newest_by form b;
  command = text_number texts x.edge.command;
  blank = is_blank x.edge.command;
  depfile = depfile_number texts x.edge.depfile;
  restat = x.edge.restat;
  generator = x.edge.generator;
  baseline = x.baseline;
}

abbrev pub gather_layout : List Output → ℕ → Build → GatherLayout
gather_layout outputs b x = record {
  named = inputs_by outputs x.named;
  order_only = sources outputs x.named x.order_only;
  outputs = outputs_by Gathers b x.outputs;
  flags = flags_once (inputs_by outputs x.named);
  stamp = b;
  changed = suc b;
  baseline = x.baseline;
}

abbrev pub layout_by : SlotPattern → List Text → List Output → ℕ → Build → EdgeLayout
layout_by Gathers texts outputs b x = layout.Gather (gather_layout outputs b x)
layout_by Alone texts outputs b x = layout.Alone (outputs_by Alone b x.outputs)
layout_by form texts outputs b x = layout.Command (command_layout texts outputs form b x)

abbrev pub layout_of : List Text → List Output → ℕ → Build → EdgeLayout
layout_of texts outputs b x = layout_by (form_of x) texts outputs b x

-- the codes of these edges, if the own slots of the first one begin at b
abbrev pub codes_from : List Text → List Output → ℕ → List Build → List (List Instr)
codes_from texts outputs b [] = []
codes_from texts outputs b (x ∷ xs) = code_of (layout_of texts outputs b x) ∷ codes_from texts outputs (b + own_len x) xs

abbrev pub codes : List Build → List (List Instr)
codes xs = codes_from (all_texts xs) (all_made zero xs) zero xs

-- the layouts of these edges, if the own slots of the first one begin at b
abbrev pub layouts_from : List Text → List Output → ℕ → List Build → List EdgeLayout
layouts_from texts outputs b [] = []
layouts_from texts outputs b (x ∷ xs) = layout_of texts outputs b x ∷ layouts_from texts outputs (b + own_len x) xs

-- the layout of each edge
abbrev pub layouts : List Build → List EdgeLayout
layouts xs = layouts_from (all_texts xs) (all_made zero xs) zero xs

-- ---- bodies that edges share

-- the bodies without repetitions, in the order of first use
abbrev pub used_bodies : List (List Instr) → List Body
used_bodies all = once same_body (map body_of all)

abbrev pub shared : List Body → List Instr → EdgeCode
shared bodies is = Shared (number same_body (body_of is) bodies) (operands_of is)

-- ---- the image

abbrev pub sort_of : (phony : Bool) → Sort
sort_of true = Phony
sort_of false = Command

-- an edge with this code
abbrev pub edge_by : (texts pools : List Text) → EdgeCode → Build → Edge
edge_by texts pools code x = record {
  sort = sort_of x.edge.phony;
  pool = pool_number pools (pool_in x);
  rank = x.rank;
  label = text_number texts (label_of x);
  outputs = x.outputs;
  waits = x.waits;
  code = code;
}

abbrev pub edge_of : (texts pools : List Text) → List Body → List Instr → Build → Edge
edge_of texts pools bodies is x = edge_by texts pools (shared bodies is) x

-- edges with their codes
abbrev pub edges_of : (texts pools : List Text) → List Body → List (List Instr) → List Build → List Edge
edges_of texts pools bodies (is ∷ others) (x ∷ xs) = edge_of texts pools bodies is x ∷ edges_of texts pools bodies others xs
edges_of texts pools bodies _ _ = []

abbrev pub image_of : Builds → Parts
image_of t = record {
  texts = all_texts t.edges;
  files = t.files;
  pools = map (declared t.pools) (used_pools t.edges);
  slots = slots_from zero t.edges;
  bodies = Some (used_bodies (codes t.edges));
  edges = edges_of (all_texts t.edges) (used_pools t.edges) (used_bodies (codes t.edges)) (codes t.edges) t.edges;
  defaults = t.defaults;
}

-- the image of a manifest with its graph, for this rule
abbrev pub compiled : OutOfDateRule → Manifest → Graph → Parts
compiled rule m g = image_of (builds rule m g)
