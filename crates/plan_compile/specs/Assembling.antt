-- An edge by its numbers, as the code builds it from the table of outputs.
use Rattle.std.specs.Prelude.{◌≡◌, ◌≤◌, ℕ, zero, List, [], ◌∷◌, length, Result, Ok, Err}
use Rattle.plan_compile.specs.declared.layout.Output.{Output}
use Rattle.plan_compile.specs.declared.layout.CommandLayout.{CommandLayout}
use Rattle.plan_compile.specs.declared.layout.GatherLayout.{GatherLayout}
use Rattle.plan_compile.specs.declared.layout.EdgeLayout.{EdgeLayout}
use Rattle.plan_compile.specs.declared.layout.EdgeLayout.TheVariants as layout
use Rattle.plan_compile.specs.declared.slot_pattern.SlotPattern.{SlotPattern}
use Rattle.plan_compile.specs.declared.slot_pattern.SlotPattern.TheVariants.{Gathers, Alone}
use Rattle.plan_image.specs.declared.body.Instr.{Instr}
use Rattle.plan_compile.specs.Builds.{Build}
use Rattle.plan_compile.specs.Emit.{code_of}
use Rattle.plan_image.specs.declared.image.EdgeCode.{EdgeCode}
use Rattle.plan_image.specs.declared.image.Edge.{Edge}
use Rattle.plan_compile.specs.BodyKeys.{Body}
use Rattle.plan_compile.specs.Images.{is_blank, shared, sort_of, used_bodies}
use Rattle.plan_compile.specs.declared.numbers.Numbers.{Numbers}
use Rattle.plan_compile.specs.declared.fault.CompileFault.{CompileFault}
use Rattle.plan_compile.specs.Refusals.{RefusesCodes}
use Rattle.plan_compile.specs.OutputTable.{Table, inputs_in, outputs_in, sources_in}
use Rattle.plan_compile.specs.Slots.{flags_once, form_of}

abbrev pub command_in : Numbers → Table → (newest : ℕ) → Build → CommandLayout
command_in numbers table newest x = record {
  named = inputs_in table x.named;
  order_only = sources_in table x.named x.order_only;
  outputs = outputs_in table x.outputs;
  flags = flags_once (inputs_in table x.named);
  newest = newest;
  command = numbers.command;
  blank = is_blank x.edge.command;
  depfile = numbers.depfile;
  restat = x.edge.restat;
  generator = x.edge.generator;
  baseline = x.baseline;
}

abbrev pub first_changed : List Output → ℕ
first_changed [] = zero
first_changed (o ∷ os) = o.changed

abbrev pub gather_in : Table → (newest : ℕ) → Build → GatherLayout
gather_in table newest x = record {
  named = inputs_in table x.named;
  order_only = sources_in table x.named x.order_only;
  outputs = outputs_in table x.outputs;
  flags = flags_once (inputs_in table x.named);
  stamp = newest;
  changed = first_changed (outputs_in table x.outputs);
  baseline = x.baseline;
}

abbrev pub layout_in : SlotPattern → Numbers → Table → (newest : ℕ) → Build → EdgeLayout
layout_in Gathers numbers table newest x = layout.Gather (gather_in table newest x)
layout_in Alone numbers table newest x = layout.Alone (outputs_in table x.outputs)
layout_in form numbers table newest x = layout.Command (command_in numbers table newest x)

-- the codes of edges, given the numbers and the newest input's slot of each
abbrev pub codes_in : Table → List Numbers → List ℕ → List Build → List (List Instr)
codes_in table (k ∷ ks) (n ∷ ns) (x ∷ xs) = code_of (layout_in (form_of x) k table n x) ∷ codes_in table ks ns xs
codes_in table _ _ _ = []

-- the layouts of edges, given the numbers and the newest input's slot of each
abbrev pub layouts_in : Table → List Numbers → List ℕ → List Build → List EdgeLayout
layouts_in table (k ∷ ks) (n ∷ ns) (x ∷ xs) = layout_in (form_of x) k table n x ∷ layouts_in table ks ns xs
layouts_in table _ _ _ = []

-- an edge with these numbers and this code
abbrev pub edge_in : Numbers → EdgeCode → Build → Edge
edge_in numbers code x = record {
  sort = sort_of x.edge.phony;
  pool = numbers.pool;
  rank = x.rank;
  label = numbers.label;
  outputs = x.outputs;
  waits = x.waits;
  code = code;
}

-- edges with their numbers and codes
abbrev pub edges_in : List Body → List Numbers → List (List Instr) → List Build → List Edge
edges_in bodies (k ∷ ks) (is ∷ others) (x ∷ xs) = edge_in k (shared bodies is) x ∷ edges_in bodies ks others xs
edges_in bodies _ _ _ = []

-- the edges with these codes and the bodies that they share, or why there are none
abbrev pub AreCoded : List Numbers → List (List Instr) → List Build → Result (List Edge × List Body) CompileFault → Type 0
AreCoded numbers codes xs (Ok r) = (r.1 ≡ used_bodies codes) × (r.0 ≡ edges_in (used_bodies codes) numbers codes xs) × (length r.1 ≤ length xs)
AreCoded numbers codes xs (Err fault) = RefusesCodes fault codes
