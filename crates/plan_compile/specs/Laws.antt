-- The laws about the code of every edge.
use Rattle.std.specs.Prelude.{◌≡◌, ℕ, List, None}
use Rattle.plan_image.specs.declared.image.Parts.{Parts}
use Rattle.plan_image.specs.Code.{code}
use Rattle.plan_verify.specs.Turn.{Slots, Meaning, Request, Reply}
use Rattle.plan_verify.specs.Alone.{Alone, at_begin, RunsAlone}
use Rattle.plan_verify.specs.Shape.{table_refusal}
use Rattle.plan_verify.specs.Sound.{AreTyped, AreLentSet}
use Rattle.plan_verify.specs.WellShaped.{IsShapedEdge}
use Rattle.plan_compile.specs.declared.layout.Output.{Output}
use Rattle.plan_compile.specs.declared.layout.CommandLayout.{CommandLayout}
use Rattle.plan_compile.specs.declared.layout.GatherLayout.{GatherLayout}
use Rattle.plan_compile.specs.declared.layout.EdgeLayout.{EdgeLayout}
use Rattle.plan_compile.specs.declared.layout.EdgeLayout.TheVariants as layout
use Rattle.plan_compile.specs.InteractionTree.{InteractionTree, Obeys, Follows}
use Rattle.plan_compile.specs.Rule.{Given}
use Rattle.plan_compile.specs.Emit.{command_code, gather_code, alone_code, code_of}
use Rattle.plan_compile.specs.Means.{IsCommand, IsGather, IsAlone, IsLaidOut, AreGiven, outputs_in, rule_of, Leaves, CodeMeans}

-- the code of a command edge means the rule
abbrev pub CommandMeans : Type 0
CommandMeans = (p : Parts) (e : ℕ) (w : CommandLayout) → code p e ≡ command_code w → IsCommand p e w → CodeMeans p e (layout.Command w)

-- the code of each sort of phony means the rule
pub record PhonyMeans : Type 0 where
  pub gather : (p : Parts) (e : ℕ) (g : GatherLayout) → code p e ≡ gather_code g → IsGather p e g → CodeMeans p e (layout.Gather g)
  pub alone : (p : Parts) (e : ℕ) (outputs : List Output) → code p e ≡ alone_code outputs → IsAlone p e outputs → CodeMeans p e (layout.Alone outputs)

-- Each run alone of an edge follows the rule: its questions and replies are a path in the rule's interaction tree, and
-- the edge follows the subtree at the end of that path.
abbrev pub RunsKeepToRule : Type 0
RunsKeepToRule =
    (p : Parts) (e : ℕ) (w : EdgeLayout) → code p e ≡ code_of w → IsLaidOut p e w
    → (meaning : Meaning) (slots : Slots) (order_only : List Given) → AreTyped p slots → AreLentSet p e slots → AreGiven p slots order_only w
    → (n : ℕ) (told : List (Request × Reply)) (x : Alone) → RunsAlone meaning p e n (at_begin slots) told x
    → (rest : InteractionTree) × Follows (rule_of meaning p slots order_only w) told rest × Obeys meaning p e (Leaves (outputs_in w)) x rest

-- the code of a command edge has shapes, if the edge's tables pass their checks
abbrev pub CommandShaped : Type 0
CommandShaped = (p : Parts) (e : ℕ) (w : CommandLayout) → code p e ≡ command_code w → IsCommand p e w → table_refusal p e ≡ None → IsShapedEdge p e

-- the code of each sort of phony has shapes
pub record PhonyShaped : Type 0 where
  pub gather : (p : Parts) (e : ℕ) (g : GatherLayout) → code p e ≡ gather_code g → IsGather p e g → table_refusal p e ≡ None → IsShapedEdge p e
  pub alone : (p : Parts) (e : ℕ) (outputs : List Output) → code p e ≡ alone_code outputs → IsAlone p e outputs → table_refusal p e ≡ None → IsShapedEdge p e
