-- Lemmas about two traces that were compared, and about the reasons why others weren't.
use Rattle.std.proofs.Common.{◌≡◌, ◌⊎◌, ℕ, Bool, true, List, Result, Ok, Err, subst, inl, inr}
use Rattle.std.specs.Prelude.{IfErr}
use Rattle.plan_scope.specs.Scopes.{Text}
use Rattle.plan_scope.specs.Loading.{FileContents, PathSet}
use Rattle.plan_image.specs.declared.image.Parts.{Parts}
use Rattle.plan_machine.specs.declared.event.Event.{Event}
use Rattle.plan_machine.specs.declared.run.refused.Refused.{Refused}
use Rattle.plan_machine.specs.Ends.{IsEndFault, NeverTellsApart, TellsEnds}
use Rattle.plan_trace.specs.declared.trace.Trace.{Trace}
use Rattle.plan_printing.specs.declared.fault.PlanFault.{PlanFault}
use Rattle.plan_commands.specs.Comparing.{AreCompared, AreNotCompared, LacksAnswer, are_comparable}
use Rattle.plan_printing.specs.Faults.{no_memory}
use Rattle.plan_commands.specs.Faults.{printed_refusal}
use Rattle.plan_commands.specs.Replaying.{IsTraceAt}

pub compared : (p : Parts) (first second : Trace) (events others : List Event) (same : Bool) → are_comparable first second ≡ true → events ≡ first.events → others ≡ second.events
    → TellsEnds p first.options events others same → NeverTellsApart p first.options events others same → AreCompared p first second same
compared p first second events others same can one two tells never =
    record {
      comparable = can;
      tells = subst (λ (l : List Event). TellsEnds p first.options l second.events same) one (subst (λ (l : List Event). TellsEnds p first.options events l same) two tells);
      never_apart = subst (λ (l : List Event). NeverTellsApart p first.options l second.events same) one (subst (λ (l : List Event). NeverTellsApart p first.options events l same) two never);
    }

pub not_replayed : (p : Parts) (first second : Trace) (events others : List Event) (n : ℕ) (refused : Refused) (fault : PlanFault) → are_comparable first second ≡ true → events ≡ first.events → others ≡ second.events
    → IsEndFault p first.options events others n refused → (fault ≡ printed_refusal n refused) ⊎ (fault ≡ no_memory) → AreNotCompared p first second fault
not_replayed p first second events others n refused fault can one two ends (inl printed) =
    inr (inl (
      can,
      n,
      refused,
      subst (λ (l : List Event). IsEndFault p first.options l second.events n refused) one (subst (λ (l : List Event). IsEndFault p first.options events l n refused) two ends),
      printed,
    ))
not_replayed p first second events others n refused fault can one two ends (inr memory) = inr (inr memory)

pub not_compared : (p : Parts) (firsts : FileContents) (no_first : PathSet) (first : Text) (seconds : FileContents) (no_second : PathSet) (second : Text) (one other : Trace) (r : Result Bool PlanFault)
    → IsTraceAt firsts first one → IsTraceAt seconds second other → IfErr r (AreNotCompared p one other) → IfErr r (LacksAnswer p firsts no_first first seconds no_second second)
not_compared p firsts no_first first seconds no_second second one other (Ok same) one_at other_at h = tt
not_compared p firsts no_first first seconds no_second second one other (Err fault) one_at other_at h = inr (one, one_at, inr (other, other_at, h))
