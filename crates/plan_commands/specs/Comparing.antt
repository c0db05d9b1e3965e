-- The behavior of `replay IMG TRACE TRACE2`.
use Rattle.std.specs.Prelude.{◌≡◌, ◌⊎◌, ℕ, Bool, true, false, ◌&&◌, ◌==◌, List, [], ◌∷◌, ◌++◌, codes}
use Rattle.plan_text.specs.Bytes.{line_feed}
use Rattle.plan_text.specs.Sinks.{Writes}
use Rattle.plan_scope.specs.Scopes.{Text}
use Rattle.plan_scope.specs.Loading.{FileContents, PathSet}
use Rattle.plan_image.specs.declared.image.Parts.{Parts}
use Rattle.plan_verify.specs.WellShaped.{IsWellShaped}
use Rattle.plan_machine.specs.Limits.{Limits}
use Rattle.plan_machine.specs.declared.run.refused.Refused.{Refused}
use Rattle.plan_machine.specs.Ends.{IsEndFault, NeverTellsApart, TellsEnds}
use Rattle.plan_trace.specs.declared.trace.Trace.{Trace}
use Rattle.plan_printing.specs.declared.fault.PlanFault.{PlanFault}
use Rattle.plan_printing.specs.Faults.{no_memory, output_fault}
use Rattle.plan_commands.specs.Faults.{printed_refusal, traces_differ}
use Rattle.plan_commands.specs.Images.{IsImageAt, SinkState}
use Rattle.plan_commands.specs.Replaying.{IsTraceAt, LacksTrace}
use Rattle.plan_commands.specs.Verdicts.{IsRejected}

-- ---- two traces

abbrev pub same_options : Limits → Limits → Bool
same_options a b = (a.jobs == b.jobs) && (a.keep == b.keep)

abbrev pub has_none : List ℕ → Bool
has_none [] = true
has_none (t ∷ ts) = false

-- Both traces begin with the same line, and neither has a line `target`.
abbrev pub are_comparable : Trace → Trace → Bool
are_comparable first second = same_options first.options second.options && (has_none first.targets && has_none second.targets)

-- Two traces can be compared. `same` is whether their runs have both ended with the same outcomes and the same slots.
pub record AreCompared (p : Parts) (first second : Trace) (same : Bool) : Type 0 where
  pub comparable : are_comparable first second ≡ true
  pub tells : TellsEnds p first.options first.events second.events same
  pub never_apart : NeverTellsApart p first.options first.events second.events same

-- The reasons why two traces aren't compared: their first lines differ or one has targets, one of their events isn't
-- enabled, or memory ran out.
abbrev pub AreNotCompared : Parts → Trace → Trace → PlanFault → Type 0
AreNotCompared p first second fault =
    ((are_comparable first second ≡ false) × (fault ≡ traces_differ))
    ⊎ (((are_comparable first second ≡ true) × (n : ℕ) × (refused : Refused) × IsEndFault p first.options first.events second.events n refused × (fault ≡ printed_refusal n refused))
    ⊎ (fault ≡ no_memory))

-- ---- what is printed

abbrev pub answer_line : Bool → List ℕ
answer_line true = codes "same" ++ line_feed ∷ []
answer_line false = codes "different" ++ line_feed ∷ []

abbrev pub answer_status : Bool → ℕ
answer_status true = 0
answer_status false = 1

-- ---- with a given image

-- The traces that the sources may give for two paths were compared.
pub record IsAnswer (p : Parts) (firsts : FileContents) (first : Text) (seconds : FileContents) (second : Text) (same : Bool) : Type 0 where
  pub one : Trace
  pub other : Trace
  pub one_given : IsTraceAt firsts first one
  pub other_given : IsTraceAt seconds second other
  pub compared : AreCompared p one other same

-- The reasons why there is no answer. Faults of the first trace come before faults of the second trace.
abbrev pub LacksAnswer : Parts → FileContents → PathSet → Text → FileContents → PathSet → Text → PlanFault → Type 0
LacksAnswer p firsts no_first first seconds no_second second fault =
    LacksTrace firsts no_first first fault
    ⊎ ((one : Trace) × IsTraceAt firsts first one × (LacksTrace seconds no_second second fault ⊎ ((other : Trace) × IsTraceAt seconds second other × AreNotCompared p one other fault)))

-- ---- the command

-- The first source may give a well-shaped image, and the other sources may give two traces. No write failed, and the
-- sink took the answer.
pub record Compares (images : FileContents) (image : Text) (firsts : FileContents) (first : Text) (seconds : FileContents) (second : Text) (old new : SinkState) (status : ℕ) : Type 0 where
  pub parts : Parts
  pub image_given : IsImageAt images image parts
  pub shaped : IsWellShaped parts
  pub same : Bool
  pub answer : IsAnswer parts firsts first seconds second same
  pub written : Writes true old new (answer_line same)
  pub status_is : status ≡ answer_status same

-- The reasons why nothing is printed. Faults of the image come before all others.
abbrev pub IsNotAnswered : FileContents → PathSet → Text → FileContents → PathSet → Text → FileContents → PathSet → Text → PlanFault → Type 0
IsNotAnswered images no_image image firsts no_first first seconds no_second second fault =
    IsRejected images no_image image fault
    ⊎ ((p : Parts) × IsImageAt images image p × IsWellShaped p × (LacksAnswer p firsts no_first first seconds no_second second fault ⊎ (fault ≡ no_memory)))

-- There is an answer, but a write of it failed.
pub record FailsToAnswer (images : FileContents) (image : Text) (firsts : FileContents) (first : Text) (seconds : FileContents) (second : Text) (old new : SinkState) (fault : PlanFault) : Type 0 where
  pub parts : Parts
  pub image_given : IsImageAt images image parts
  pub shaped : IsWellShaped parts
  pub same : Bool
  pub answer : IsAnswer parts firsts first seconds second same
  pub written : Writes false old new (answer_line same)
  pub fault_is : fault ≡ output_fault
