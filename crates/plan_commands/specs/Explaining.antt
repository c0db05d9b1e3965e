-- The reason of a command, by what its edge has observed.
use Rattle.std.specs.Prelude.{◌≡◌, ℕ, ◌==◌, Bool, false, List, [], ◌∷◌, ◌++◌, Option, Some, None, get_or, slice_get, if◌then◌else◌}
use Rattle.plan_scope.specs.Sound.{IsSound}
use Rattle.plan_scope.specs.declared.manifest.Manifest.{Manifest}
use Rattle.plan_graph.specs.Graph.{IsGraph}
use Rattle.plan_graph.specs.declared.graph_data.Graph.{Graph}
use Rattle.plan_image.specs.Code.{code}
use Rattle.plan_verify.specs.Turn.{Slots}
use Rattle.plan_verify.specs.declared.value.Value.{Value}
use Rattle.plan_verify.specs.declared.value.Value.TheVariants.{Stamp, Flag}
use Rattle.plan_compile.specs.declared.baseline.OutOfDateRule.TheVariants.{Stricter}
use Rattle.plan_compile.specs.declared.layout.CommandLayout.{CommandLayout}
use Rattle.plan_compile.specs.declared.layout.EdgeLayout.{EdgeLayout}
use Rattle.plan_compile.specs.declared.layout.EdgeLayout.TheVariants as layout
use Rattle.plan_compile.specs.Builds.{Build, Builds, builds}
use Rattle.plan_compile.specs.Faithful.{IsEdge}
use Rattle.plan_compile.specs.Images.{compiled, layouts}
use Rattle.plan_compile.specs.Rule.{paths_in}
use Rattle.plan_compile.specs.Told as told
use Rattle.plan_machine.specs.Loads.{loads_in}
use Rattle.plan_machine.specs.declared.run.loads.LoadedSlot.{LoadedSlot}
use Rattle.plan_lanes.specs.declared.observed.Observed.{Observed}
use Rattle.plan_reasons.specs.declared.facts.Facts.{Facts}
use Rattle.plan_reasons.specs.declared.reason.Reason.{Reason}
use Rattle.plan_reasons.specs.declared.reason.Reason.TheVariants.{Newer}
use Rattle.plan_reasons.specs.declared.sentences.Names.{Names}
use Rattle.plan_reasons.specs.Facts.{facts_of}
use Rattle.plan_reasons.specs.Observing.{Observations}
use Rattle.plan_reasons.specs.Reasons.{reason_in}
use Rattle.plan_reasons.specs.Replies.{observed}
use Rattle.plan_reasons.specs.Sentences.{sentence}

-- the value of a slot, if it is among these and set
abbrev pub value_in : List LoadedSlot → ℕ → Option Value
value_in [] k = None
value_in (slot ∷ slots) k = if slot.number == k then slot.value else value_in slots k

-- a stamp, or 0 for another value
abbrev pub stamp_in : Option Value → ℕ
stamp_in (Some (Stamp n)) = n
stamp_in _ = 0

-- a flag, or false for another value
abbrev pub flag_in : Option Value → Bool
flag_in (Some (Flag b)) = b
flag_in _ = false

-- ---- the sentence

-- the stamp of the input that is newer than the baseline, if that is the reason
abbrev pub newer_in : Reason → Observations → ℕ
newer_in (Newer n b) o = get_or (o.named ++ o.recorded) n 0
newer_in reason o = 0

-- What a sentence on an edge names: its outputs and their stamps, its named inputs and after them the recorded paths.
pub record AreNames (x : Build) (made : List (List ℕ)) (o : Observations) (reason : Reason) (names : Names) : Type 0 where
  pub outputs : names.outputs.now ≡ made
  pub stamps : names.stamps.now ≡ o.outputs
  pub inputs : names.inputs.now ≡ x.edge.paths.inputs ++ (x.edge.paths.implicit_inputs ++ paths_in o.entry)
  pub recorded : names.recorded.now ≡ paths_in o.entry
  pub newer : names.newer ≡ newer_in reason o

-- a text is the sentence on this reason; without a reason there is none
abbrev pub Says : Build → (outputs : List (List ℕ)) → Observations → Option Reason → Option (List ℕ) → Type 0
Says x outputs o None None = Unit {0}
Says x outputs o (Some reason) (Some text) = (names : Names) × AreNames x outputs o reason names × (text ≡ sentence names reason)
Says x outputs o _ _ = ⊥

-- The text says the first reason of an edge that has a command, by the replies that it got, and by the slots that its
-- code loads, as they were then.
abbrev pub SaysReason : Manifest → Graph → ℕ → (command : List ℕ) → (outputs : List (List ℕ)) → Observed → Option (List ℕ) → Type 0
SaysReason m g e command outputs seen text =
    let t = builds Stricter m g in
    (x : Build) (w : CommandLayout) → IsEdge t e x → slice_get (layouts t.edges) e ≡ Some (layout.Command w) → command ≡ x.edge.command
    → (slots : Slots) → seen.slots ≡ loads_in slots (code (compiled Stricter m g) e)
    → let facts = facts_of (told.facts t slots x) in Says x outputs (observed facts seen.replies) (reason_in facts seen.replies) text

-- these are the layouts of the edges of a manifest with a graph
abbrev pub AreLayouts : Manifest → List EdgeLayout → Type 0
AreLayouts m ls = IsSound m × (g : Graph) × IsGraph m g × (ls ≡ layouts (builds Stricter m g).edges)

-- the same, for a graph of the manifest
abbrev pub Explains : Manifest → ℕ → (command : List ℕ) → (outputs : List (List ℕ)) → Observed → Option (List ℕ) → Type 0
Explains m e command outputs seen text = (g : Graph) × IsGraph m g × SaysReason m g e command outputs seen text
