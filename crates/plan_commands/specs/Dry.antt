-- How a dry build goes: files and the record are asked, but no command runs.
use Rattle.std.specs.Prelude.{◌≡◌, ◌⊎◌}
use Rattle.plan_scope.specs.Loading.{FileContents, PathSet}
use Rattle.plan_image.specs.declared.image.Parts.{Parts}
use Rattle.plan_machine.specs.declared.event.reply.Reply.TheVariants as reply
use Rattle.plan_verify.specs.Turn.{Stat, Recall, Run, Deps, Keep}
use Rattle.plan_lanes.specs.Journals.{Rule}
use Rattle.plan_printing.specs.declared.fault.PlanFault.{PlanFault}
use Rattle.plan_commands.specs.declared.building.Done.{Done}
use Rattle.plan_commands.specs.declared.building.Done.TheVariants as done
use Rattle.plan_commands.specs.Images.{SinkState}
use Rattle.plan_commands.specs.Showing.{Shown}
use Rattle.plan_commands.specs.Building.{Asked, FindsNothingToDo, IsRead, IsUpToDate, Remakes, MakerFails, RunsTargets, RoundStops, LastRunStops}

-- The rule of a world in which no command runs. Replies about files and the record are allowed by another rule. Each
-- command ends with status 0 and leaves no depfile, and each entry is kept. Depfiles are read only before the run, under
-- the number 0.
abbrev pub dry_rule : Rule → Rule
dry_rule rule number (Stat path) r = rule number (Stat path) r
dry_rule rule number (Recall output) r = rule number (Recall output) r
dry_rule rule number (Run command outputs) r = r ≡ reply.Exit 0
dry_rule rule number (Deps path) r = (r ≡ reply.Nothing) ⊎ ((number ≡ 0) × rule number (Deps path) r)
dry_rule rule number (Keep output command basis paths) r = r ≡ reply.Kept

-- The manifest is up to date, and its image was run for the targets.
pub record PreviewsTargets (gives : FileContents) (shown : Shown) (rule : Rule) (a : Asked) (old new : SinkState) (d : Done) : Type 0 where
  pub parts : Parts
  pub read : IsRead gives rule a.path parts
  pub middle : SinkState
  pub settled : IsUpToDate shown rule a parts old middle
  pub run : RunsTargets shown rule a parts middle new d

-- How a dry build goes that ends in this way. It ends as `Built` if a command would run, even if only the command of
-- the manifest's maker.
abbrev pub Previews : FileContents → Shown → Rule → Asked → (old new : SinkState) → Done → Type 0
Previews gives shown rule a old new done.Built = Remakes gives shown rule a old new ⊎ PreviewsTargets gives shown rule a old new done.Built
Previews gives shown rule a old new done.UpToDate = PreviewsTargets gives shown rule a old new done.UpToDate ⊎ (FindsNothingToDo gives rule a × (new ≡ old))
Previews gives shown rule a old new done.Failed = PreviewsTargets gives shown rule a old new done.Failed
Previews gives shown rule a old new done.ManifestFails = MakerFails gives shown rule a old new
Previews gives shown rule a old new done.NeverSettles = ⊥

-- The reasons why a dry build stops: the round stops, or the run for the targets stops.
abbrev pub DryStops : FileContents → PathSet → Shown → Rule → Asked → (old new : SinkState) → PlanFault → Type 0
DryStops gives missing shown rule a old new fault = RoundStops gives missing shown rule a old new fault ⊎ LastRunStops gives shown rule a old new fault
