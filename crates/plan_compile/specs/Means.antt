-- The meaning of an edge's numbers, the conditions on them, and the meaning of the edge's code.
use Rattle.std.specs.Prelude.{◌≡◌, ℕ, Bool, true, false, ◌&&◌, List, [], ◌∷◌, length, map, Option, Some, None, nat_le, slice_get}
use Rattle.std.specs.List.{list_all}
use Rattle.plan_image.specs.declared.body.Kind.{Kind}
use Rattle.plan_image.specs.declared.body.Kind.TheVariants as kind
use Rattle.plan_image.specs.declared.image.Parts.{Parts}
use Rattle.plan_verify.specs.declared.value.Value.{Value}
use Rattle.plan_verify.specs.declared.value.Value.TheVariants.{Stamp, Flag}
use Rattle.plan_verify.specs.Members.{is_member}
use Rattle.plan_verify.specs.Tables.{path_of, own_slots, owns, is_lent, slot_kind, outputs_of, pool_outside}
use Rattle.plan_verify.specs.Turn.{Slots, Meaning}
use Rattle.plan_verify.specs.Alone.{at_begin}
use Rattle.plan_verify.specs.Sound.{AreTyped, AreLentSet}
use Rattle.plan_compile.specs.declared.baseline.Baseline.{Baseline}
use Rattle.plan_compile.specs.declared.baseline.Baseline.TheVariants as baseline
use Rattle.plan_compile.specs.declared.layout.Input.{Input}
use Rattle.plan_compile.specs.declared.layout.Input.TheVariants.{File, Made}
use Rattle.plan_compile.specs.declared.layout.Output.{Output}
use Rattle.plan_compile.specs.declared.layout.CommandLayout.{CommandLayout}
use Rattle.plan_compile.specs.declared.layout.GatherLayout.{GatherLayout}
use Rattle.plan_compile.specs.declared.layout.EdgeLayout.{EdgeLayout}
use Rattle.plan_compile.specs.declared.layout.EdgeLayout.TheVariants as layout
use Rattle.plan_compile.specs.InteractionTree.{Left, InteractionTree, Obeys}
use Rattle.plan_compile.specs.Rule.{Path, Given, SourceFile, Command, asked, has_none, does, does_phony}
use Rattle.plan_compile.specs.Rule.{Made as MadeBy}

-- ---- look-ups; the results outside the tables don't matter

abbrev pub text_in : Option (List ℕ) → List ℕ
text_in (Some t) = t
text_in None = []

abbrev pub path_at : Parts → ℕ → Path
path_at p f = text_in (path_of p f)

abbrev pub text_at : Parts → ℕ → List ℕ
text_at p t = text_in (slice_get p.texts t)

abbrev pub stamp_in : Option (Option Value) → ℕ
stamp_in (Some (Some (Stamp n))) = n
stamp_in _ = 0

abbrev pub stamp_at : Slots → ℕ → ℕ
stamp_at slots s = stamp_in (slice_get slots s)

abbrev pub flag_in : Option (Option Value) → Bool
flag_in (Some (Some (Flag b))) = b
flag_in _ = false

abbrev pub flag_at : Slots → ℕ → Bool
flag_at slots s = flag_in (slice_get slots s)

-- ---- an edge by the meaning of its numbers

abbrev pub given : Parts → Slots → Input → Given
given p slots (File f) = SourceFile f (path_at p f)
given p slots (Made stamp changed) = MadeBy (stamp_at slots stamp) (flag_at slots changed)

abbrev pub source_file : Parts → ℕ → Given
source_file p f = SourceFile f (path_at p f)

abbrev pub output_path : Parts → Output → Path
output_path p o = path_at p o.file

abbrev pub depfile_text : Parts → Option ℕ → List ℕ
depfile_text p (Some t) = text_at p t
depfile_text p None = []

-- a command edge, with its order-only inputs as given
abbrev pub command_of : Parts → Slots → CommandLayout → List Given → Command
command_of p slots w order_only = record {
  named = map (given p slots) w.named;
  order_only = order_only;
  outputs = map (output_path p) w.outputs;
  command = text_at p w.command;
  depfile = depfile_text p w.depfile;
  restat = w.restat;
  generator = w.generator;
  baseline = w.baseline;
}

-- a phony: these inputs and outputs, this baseline, and nothing else
abbrev pub phony_of : Parts → Slots → List Input → List Output → Baseline → List Given → Command
phony_of p slots named outputs own_baseline order_only = record {
  named = map (given p slots) named;
  order_only = order_only;
  outputs = map (output_path p) outputs;
  command = [];
  depfile = [];
  restat = false;
  generator = false;
  baseline = own_baseline;
}

-- the rule of an edge
abbrev pub rule_of : Meaning → Parts → Slots → List Given → EdgeLayout → InteractionTree
rule_of meaning p slots order_only (layout.Command w) = does meaning (command_of p slots w order_only)
rule_of meaning p slots order_only (layout.Gather g) = does_phony (phony_of p slots g.named g.outputs g.baseline order_only)
rule_of meaning p slots order_only (layout.Alone outputs) = does_phony (phony_of p slots [] outputs baseline.Outputs order_only)

abbrev pub outputs_in : EdgeLayout → List Output
outputs_in (layout.Command w) = w.outputs
outputs_in (layout.Gather g) = g.outputs
outputs_in (layout.Alone outputs) = outputs

-- the stamp and the flag of each output are in its slots
abbrev pub Leaves : List Output → Slots → Left → Type 0
Leaves [] slots [] = Unit {0}
Leaves (o ∷ os) slots (x ∷ xs) =
    (slice_get slots o.stamp ≡ Some (Some (Stamp x.0))) × (slice_get slots o.changed ≡ Some (Some (Flag x.1))) × Leaves os slots xs
Leaves _ slots _ = ⊥

-- ---- the conditions on the numbers

abbrev pub IsFile : Parts → ℕ → Type 0
IsFile p f = nat_le (length p.files) f ≡ false

abbrev pub IsText : Parts → ℕ → Type 0
IsText p t = nat_le (length p.texts) t ≡ false

-- an own slot of this kind
abbrev pub IsOwnOf : Parts → ℕ → Kind → ℕ → Type 0
IsOwnOf p e k s = (owns p e s ≡ true) × (slot_kind p s ≡ k)

-- a slot of this kind that belongs to an edge that is waited for
abbrev pub IsLentOf : Parts → ℕ → Kind → ℕ → Type 0
IsLentOf p e k s = (owns p e s ≡ false) × (is_lent p e s ≡ true) × (slot_kind p s ≡ k)

abbrev pub AreInputs : Parts → ℕ → List Input → Type 0
AreInputs p e [] = Unit {0}
AreInputs p e (File f ∷ is) = IsFile p f × AreInputs p e is
AreInputs p e (Made stamp changed ∷ is) = (IsLentOf p e kind.Stamp stamp × IsLentOf p e kind.Flag changed) × AreInputs p e is

abbrev pub AreSourceFiles : Parts → List ℕ → Type 0
AreSourceFiles p [] = Unit {0}
AreSourceFiles p (f ∷ fs) = IsFile p f × AreSourceFiles p fs

abbrev pub AreOutputs : Parts → ℕ → List Output → Type 0
AreOutputs p e [] = Unit {0}
AreOutputs p e (o ∷ os) = (IsFile p o.file × IsOwnOf p e kind.Stamp o.stamp × IsOwnOf p e kind.Flag o.changed) × AreOutputs p e os

-- the flag slots among inputs
abbrev pub flags_of : List Input → List ℕ
flags_of [] = []
flags_of (File f ∷ is) = flags_of is
flags_of (Made stamp changed ∷ is) = changed ∷ flags_of is

abbrev pub HaveFlags : List Input → List ℕ → Type 0
HaveFlags named flags = (s : ℕ) → is_member s flags ≡ is_member s (flags_of named)

-- a number that is no output's stamp slot
abbrev pub IsNoStamp : ℕ → List Output → Type 0
IsNoStamp s [] = Unit {0}
IsNoStamp s (o ∷ os) = (s ≡ o.stamp → ⊥) × IsNoStamp s os

abbrev pub IsNoFlag : ℕ → List Output → Type 0
IsNoFlag s [] = Unit {0}
IsNoFlag s (o ∷ os) = (s ≡ o.changed → ⊥) × IsNoFlag s os

-- the files of outputs are files of the image
abbrev pub HaveFiles : Parts → List Output → Type 0
HaveFiles p [] = Unit {0}
HaveFiles p (o ∷ os) = IsFile p o.file × HaveFiles p os

-- no two outputs share a stamp slot
abbrev pub AreApart : List Output → Type 0
AreApart [] = Unit {0}
AreApart (o ∷ os) = IsNoStamp o.stamp os × AreApart os

-- no two outputs share a flag slot
abbrev pub HaveOwnFlags : List Output → Type 0
HaveOwnFlags [] = Unit {0}
HaveOwnFlags (o ∷ os) = IsNoFlag o.changed os × HaveOwnFlags os

-- all outputs have this flag slot
abbrev pub ShareFlag : ℕ → List Output → Type 0
ShareFlag changed [] = Unit {0}
ShareFlag changed (o ∷ os) = (o.changed ≡ changed) × ShareFlag changed os

-- all outputs have the flag slot of the first
abbrev pub ShareFirstFlag : List Output → Type 0
ShareFirstFlag [] = Unit {0}
ShareFirstFlag (o ∷ os) = ShareFlag o.changed os

-- each output has a flag slot of its own if the edge is restat; otherwise all have the same
abbrev pub HaveFlagSlots : (restat : Bool) → List Output → Type 0
HaveFlagSlots true os = HaveOwnFlags os
HaveFlagSlots false os = ShareFirstFlag os

-- all outputs have these slots
abbrev pub Share : ℕ → ℕ → List Output → Type 0
Share stamp changed [] = Unit {0}
Share stamp changed (o ∷ os) = (o.stamp ≡ stamp) × (o.changed ≡ changed) × Share stamp changed os

abbrev pub slots_of : List Output → List ℕ
slots_of [] = []
slots_of (o ∷ os) = o.stamp ∷ o.changed ∷ slots_of os

abbrev pub files_of : List Output → List ℕ
files_of os = map (λ (o : Output). o.file) os

-- all own slots of an edge are among these
abbrev pub AreAllOwn : Parts → ℕ → List ℕ → Type 0
AreAllOwn p e slots = list_all (λ s. is_member s slots) (own_slots p e) ≡ true

-- The numbers of a command edge are right in an image.
pub record IsCommand (p : Parts) (e : ℕ) (w : CommandLayout) : Type 0 where
  pub named : AreInputs p e w.named
  pub order_only : AreSourceFiles p w.order_only
  pub outputs : AreOutputs p e w.outputs
  pub files : outputs_of p e ≡ files_of w.outputs
  pub some : w.outputs ≡ [] → ⊥
  pub apart : AreApart w.outputs
  pub changed : HaveFlagSlots w.restat w.outputs
  pub flags : HaveFlags w.named w.flags
  pub newest : IsOwnOf p e kind.Stamp w.newest × IsNoStamp w.newest w.outputs
  pub own : AreAllOwn p e (w.newest ∷ slots_of w.outputs)
  pub command : IsText p w.command × (w.blank ≡ false → text_at p w.command ≡ [] → ⊥)
  pub depfile : (t : ℕ) → w.depfile ≡ Some t → IsText p t × (text_at p t ≡ [] → ⊥)
  pub pool : pool_outside p e ≡ false

-- The numbers of a phony with inputs are right.
pub record IsGather (p : Parts) (e : ℕ) (g : GatherLayout) : Type 0 where
  pub named : AreInputs p e g.named
  pub order_only : AreSourceFiles p g.order_only
  pub flags : HaveFlags g.named g.flags
  pub files : HaveFiles p g.outputs
  pub share : Share g.stamp g.changed g.outputs
  pub stamp : IsOwnOf p e kind.Stamp g.stamp
  pub changed : IsOwnOf p e kind.Flag g.changed
  pub own : AreAllOwn p e (g.stamp ∷ g.changed ∷ [])

-- The numbers of a phony without inputs are right.
pub record IsAlone (p : Parts) (e : ℕ) (os : List Output) : Type 0 where
  pub outputs : AreOutputs p e os
  pub apart : AreApart os
  pub flags : HaveOwnFlags os
  pub own : AreAllOwn p e (slots_of os)

-- the numbers of an edge are right in an image
abbrev pub IsLaidOut : Parts → ℕ → EdgeLayout → Type 0
IsLaidOut p e (layout.Command w) = IsCommand p e w
IsLaidOut p e (layout.Gather g) = IsGather p e g
IsLaidOut p e (layout.Alone outputs) = IsAlone p e outputs

-- The order-only inputs, as given, are those that the code asks for. There are none if the edge is a phony
-- without inputs.
abbrev pub AreGiven : Parts → Slots → List Given → EdgeLayout → Type 0
AreGiven p slots order_only (layout.Command w) = asked (map (given p slots) w.named) order_only ≡ map (source_file p) w.order_only
AreGiven p slots order_only (layout.Gather g) =
    (asked (map (given p slots) g.named) order_only ≡ map (source_file p) g.order_only) × ((has_none (map (given p slots) g.named) && has_none order_only) ≡ false)
AreGiven p slots order_only (layout.Alone outputs) = order_only ≡ []

-- ---- the meaning of an edge's code

-- Run alone, with any slots that its waits may have left, the edge follows the rule, and its slots then have
-- the values that the rule says.
abbrev pub CodeMeans : Parts → ℕ → EdgeLayout → Type 0
CodeMeans p e w =
    (meaning : Meaning) (slots : Slots) (order_only : List Given) → AreTyped p slots → AreLentSet p e slots → AreGiven p slots order_only w
    → Obeys meaning p e (Leaves (outputs_in w)) (at_begin slots) (rule_of meaning p slots order_only w)
