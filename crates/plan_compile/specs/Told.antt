-- The facts of a manifest's edge that the rule is applied to, and the laws about the edge's code.
use Rattle.std.specs.Prelude.{◌≡◌, ℕ, zero, Bool, true, false, List, map, Option, Some, None, slice_get}
use Rattle.plan_verify.specs.Turn.{Slots, Meaning, Request, Reply}
use Rattle.plan_verify.specs.Alone.{Alone, at_begin, RunsAlone}
use Rattle.plan_verify.specs.Sound.{AreTyped, AreLentSet}
use Rattle.plan_verify.specs.WellShaped.{IsWellShaped}
use Rattle.plan_compile.specs.declared.layout.CommandLayout.{CommandLayout}
use Rattle.plan_compile.specs.declared.layout.EdgeLayout.TheVariants as layout
use Rattle.plan_compile.specs.declared.layout.Output.{Output}
use Rattle.plan_compile.specs.InteractionTree.{InteractionTree, Obeys, Follows}
use Rattle.plan_compile.specs.Rule.{Path, Given, SourceFile, Command, does, does_phony}
use Rattle.plan_compile.specs.Rule.{Made as MadeBy}
use Rattle.plan_compile.specs.Means.{text_in, stamp_at, flag_at, command_of, AreGiven, Leaves, IsLaidOut}
use Rattle.plan_compile.specs.Builds.{Build, Builds}
use Rattle.plan_compile.specs.Slots.{base, made, all_made, find}
use Rattle.plan_compile.specs.Names.{all_texts}
use Rattle.plan_compile.specs.Images.{layout_of, layouts, image_of}
use Rattle.plan_compile.specs.Faithful.{IsEdge, IsSound}

-- the path of a file
abbrev pub path_in : Builds → ℕ → Path
path_in t f = text_in (slice_get t.files f)

abbrev pub told_by : Builds → Slots → ℕ → Option Output → Given
told_by t slots f (Some o) = MadeBy (stamp_at slots o.stamp) (flag_at slots o.changed)
told_by t slots f None = SourceFile f (path_in t f)

-- an input: the stamp and the flag that its producer left, or the source file's number and path
abbrev pub told : Builds → Slots → ℕ → Given
told t slots f = told_by t slots f (find f (all_made zero t.edges))

-- an edge: its inputs, and its bindings in the manifest
abbrev pub facts : Builds → Slots → Build → Command
facts t slots x = record {
  named = map (told t slots) x.named;
  order_only = map (told t slots) x.order_only;
  outputs = map (path_in t) x.outputs;
  command = x.edge.command;
  depfile = x.edge.depfile;
  restat = x.edge.restat;
  generator = x.edge.generator;
  baseline = x.baseline;
}

abbrev pub edge_does : (phony : Bool) → Meaning → Command → InteractionTree
edge_does true meaning c = does_phony c
edge_does false meaning c = does meaning c

-- Each edge, run alone with the values that its waits left, follows the rule, and its slots then have the
-- values that the rule says.
abbrev pub ImageMeans : Type 0
ImageMeans =
    (t : Builds) → IsSound t → (e : ℕ) (x : Build) → IsEdge t e x
    → (meaning : Meaning) (slots : Slots) → AreTyped (image_of t) slots → AreLentSet (image_of t) e slots
    → Obeys meaning (image_of t) e (Leaves (made (base t.edges e) x)) (at_begin slots) (edge_does x.edge.phony meaning (facts t slots x))

-- The questions and replies of an edge that ran by itself lead along the rule, and the edge follows the rest of
-- it.
abbrev pub ImageKeepsToRule : Type 0
ImageKeepsToRule =
    (t : Builds) → IsSound t → (e : ℕ) (x : Build) → IsEdge t e x
    → (meaning : Meaning) (slots : Slots) → AreTyped (image_of t) slots → AreLentSet (image_of t) e slots
    → (n : ℕ) (told : List (Request × Reply)) (y : Alone) → RunsAlone meaning (image_of t) e n (at_begin slots) told y
    → (rest : InteractionTree) × Follows (edge_does x.edge.phony meaning (facts t slots x)) told rest × Obeys meaning (image_of t) e (Leaves (made (base t.edges e) x)) y rest

-- The layout of an edge with a command means the facts of the manifest's edge, and the order-only inputs as
-- given are those that the edge asks for. The layout has its place among all layouts.
abbrev pub LayoutsAreFacts : Type 0
LayoutsAreFacts =
    (t : Builds) → (e : ℕ) (x : Build) → IsEdge t e x → (w : CommandLayout) → slice_get (layouts t.edges) e ≡ Some (layout.Command w)
    → (slots : Slots)
    → (x.edge.phony ≡ false) × (command_of (image_of t) slots w (map (told t slots) x.order_only) ≡ facts t slots x) × AreGiven (image_of t) slots (map (told t slots) x.order_only) (layout.Command w)
    × (layout.Command w ≡ layout_of (all_texts t.edges) (all_made zero t.edges) (base t.edges e) x)

-- The numbers of each edge are right in the image: the slots of its outputs are its own, and those of a named
-- input that another edge produces belong to an edge that is waited for.
abbrev pub ImageIsLaidOut : Type 0
ImageIsLaidOut = (t : Builds) → IsSound t → (e : ℕ) (x : Build) → IsEdge t e x → IsLaidOut (image_of t) e (layout_of (all_texts t.edges) (all_made zero t.edges) (base t.edges e) x)

-- the verifier accepts the image
abbrev pub ImageIsShaped : Type 0
ImageIsShaped = (t : Builds) → IsSound t → IsWellShaped (image_of t)
