-- Lemmas about the results of dry builds. Serves src/dry.rt.
use Rattle.std.proofs.Common.{◌≡◌, Result, Ok, Err, IfOk, IfErr, inl, inr}
use Rattle.plan_scope.specs.Loading.{FileContents, PathSet}
use Rattle.plan_image.specs.declared.image.Parts.{Parts}
use Rattle.plan_lanes.specs.Journals.{Rule}
use Rattle.plan_printing.specs.declared.fault.PlanFault.{PlanFault}
use Rattle.plan_commands.specs.declared.building.Round.TheVariants as round
use Rattle.plan_commands.specs.declared.building.Done.{Done}
use Rattle.plan_commands.specs.declared.building.Done.TheVariants as done
use Rattle.plan_commands.specs.Images.{SinkState}
use Rattle.plan_commands.specs.Showing.{Shown}
use Rattle.plan_commands.specs.Building.{Asked, EndsRound, RunsTargets, TargetsStop}
use Rattle.plan_commands.specs.Dry.{DryStops, Previews, PreviewsTargets}

module _ (gives : FileContents) (shown : Shown) (rule : Rule) (a : Asked) (p : Parts) (old middle new : SinkState) (ended : EndsRound gives shown rule a old middle (round.UpToDate p)) where
  previews_targets : (d : Done) → RunsTargets shown rule a p middle new d → PreviewsTargets gives shown rule a old new d
  previews_targets d run = record { parts = p; read = ended.0; middle = middle; settled = ended.1; run = run }

  previews : (d : Done) → RunsTargets shown rule a p middle new d → Previews gives shown rule a old new d
  previews done.Built run = inr (previews_targets done.Built run)
  previews done.UpToDate run = inl (previews_targets done.UpToDate run)
  previews done.Failed run = previews_targets done.Failed run
  previews done.ManifestFails run = absurd run.ends
  previews done.NeverSettles run = absurd run.ends

  -- The run for the targets of a manifest that is up to date.
  pub previewed : (result : Result Done PlanFault) → IfOk result (λ d. RunsTargets shown rule a p middle new d) → IfOk result (λ d. Previews gives shown rule a old new d)
  previewed (Ok d) run = previews d run
  previewed (Err fault) run = tt

  pub stopped : (missing : PathSet) (result : Result Done PlanFault) → IfErr result (λ fault. TargetsStop shown rule a p middle new fault) → IfErr result (λ fault. DryStops gives missing shown rule a old new fault)
  stopped missing (Ok d) stops = tt
  stopped missing (Err fault) stops = inr (record { parts = p; read = ended.0; later = middle; settled = ended.1; stops = stops })
