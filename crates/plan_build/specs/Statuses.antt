-- The meaning of the exit status 0 of a build.
use Rattle.std.specs.Prelude.{◌≡◌, ◌≢◌, ◌⊎◌, ◌^◌, ◌-◌, ℕ, Bool, List, [], ◌∷◌, Option, Some}
use Rattle.std.specs.Option.{unwrap_or}
use Rattle.plan_scope.specs.Scopes.{Text}
use Rattle.plan_scope.specs.Loading.{FileContents, IsMissing, PathSet}
use Rattle.plan_scope.specs.Sources.{SameFiles}
use Rattle.plan_machine.specs.Limits.{Limits}
use Rattle.plan_lanes.specs.Journals.{Rule}
use Rattle.plan_options.specs.Saying.{failures, jobs, last_value, targets, tool_words, verbosity}
use Rattle.plan_options.specs.Commands.{Asks}
use Rattle.plan_options.specs.Commands as asks
use Rattle.plan_options.specs.declared.command.Build.{Build}
use Rattle.plan_options.specs.declared.command.Build.TheVariants as build
use Rattle.plan_options.specs.declared.command.Mode.{Mode}
use Rattle.plan_options.specs.declared.command.Mode.TheVariants as mode
use Rattle.plan_options.specs.declared.argument.Argument.{Argument}
use Rattle.plan_options.specs.declared.argument.Flag.{Flag}
use Rattle.plan_options.specs.declared.argument.Flag.TheVariants as flag
use Rattle.plan_options.specs.declared.argument.Setting.TheVariants as setting
use Rattle.plan_progress.specs.BuildLines.{Look, TellsBuild, look_of}
use Rattle.plan_progress.specs.declared.build_lines.BuildLines.{BuildLines}
use Rattle.plan_progress.specs.declared.style.Style.{Style}
use Rattle.plan_progress.specs.declared.style.Style.TheVariants as style
use Rattle.plan_commands.specs.Showing.{Shown, by_format}
use Rattle.plan_commands.specs.Building.{Asked, Builds, Stops, asked, exit_status}
use Rattle.plan_commands.specs.Dry.{DryStops, Previews, dry_rule}
use Rattle.plan_commands.specs.Images.{SinkState}
use Rattle.plan_commands.specs.declared.building.Done.{Done}
use Rattle.plan_printing.specs.declared.fault.PlanFault.{PlanFault}
use Rattle.plan_build_tools.specs.Naming.{NamesTargets}

-- `build.ninja`
abbrev pub default_manifest : Text
default_manifest = 98 ∷ 117 ∷ 105 ∷ 108 ∷ 100 ∷ 46 ∷ 110 ∷ 105 ∷ 110 ∷ 106 ∷ 97 ∷ []

-- The path of the manifest that a command line names.
abbrev pub manifest_in : List Argument → Text
manifest_in line = unwrap_or (last_value setting.Manifest line) default_manifest

-- The options of a build. If `-j` isn't given, it has this many jobs.
abbrev pub limits_of : List Argument → ℕ → Limits
limits_of line default = record { jobs = unwrap_or (jobs line) default; keep = failures (2 ^ 32 - 1) line }

-- The build that a command line asks for.
abbrev pub asked_by : List Argument → (default : ℕ) → Asked
asked_by line default = asked (manifest_in line) (limits_of line default) (targets line)

-- How commands are shown: by their labels, or as the last option for verbosity says.
abbrev pub style_of : Option Flag → Style
style_of (Some flag.Verbose) = style.Commands
style_of (Some flag.Quiet) = style.Failures
style_of other = style.Labels

abbrev pub style_in : List Argument → Style
style_in line = style_of (verbosity line)

-- How the text of a build is shown: commands in this style, perhaps on a terminal of this width and in colours, and
-- after the text of this template.
abbrev pub display_in : List Argument → Bool → (colours : Bool) → (template : List ℕ) → (width : ℕ) → Look
display_in line on_terminal colours template width = record { style = style_in line; on_terminal = on_terminal; colours = colours; template = template; width = width }

-- Runs are shown as the text of a build, in this way. An H returns the outputs of commands, and the time. `taken` is
-- the relation of these outputs, and `showed` of the time in milliseconds.
abbrev pub as_build : (H : Type 0) → (H → List ℕ → Option (List ℕ) → Type 0) → (H → ℕ → Type 0) → Look → Shown
as_build H taken showed look =
    by_format (λ (f : BuildLines H). look_of f.display) (λ (f : BuildLines H). TellsBuild (taken f.outputs.now) (showed f.outputs.now) (look_of f.display) f.counts f.line_open f.running.items f.times.items) look

-- How a build goes in a mode. In a dry build no command runs.
abbrev pub Goes : Mode → FileContents → Shown → Rule → Asked → (old new : SinkState) → Done → Type 0
Goes mode.Real gives shown rule a old new done = Builds gives shown rule a old new done
Goes mode.Dry gives shown rule a old new done = Previews gives shown (dry_rule rule) a old new done

-- The reasons why a build stops in a mode.
abbrev pub StopsIn : Mode → FileContents → PathSet → Shown → Rule → Asked → (old new : SinkState) → PlanFault → Type 0
StopsIn mode.Real gives missing shown rule a old new fault = Stops gives missing shown rule a old new fault
StopsIn mode.Dry gives missing shown rule a old new fault = DryStops gives missing shown (dry_rule rule) a old new fault

-- A build of these files ended in this way.
pub record Ended (m : Mode) (gives : FileContents) (shown : Shown) (rule : Rule) (a : Asked) (done : Done) : Type 0 where
  pub before : SinkState
  pub after : SinkState
  pub built : Goes m gives shown rule a before after done

-- A build of these files was refused because one of its targets is unknown.
pub record HasUnknownTarget (m : Mode) (gives : FileContents) (fails : PathSet) (shown : Shown) (rule : Rule) (a : Asked) : Type 0 where
  pub before : SinkState
  pub after : SinkState
  pub fault : PlanFault
  pub reads : ℕ
  pub failed : ℕ
  pub number : fault.number ≡ 132
  pub stopped : StopsIn m gives (IsMissing gives fails reads failed) shown rule a before after fault

-- A build of these files ended with exit status 0.
pub record EndedWell (m : Mode) (gives : FileContents) (shown : Shown) (rule : Rule) (a : Asked) : Type 0 where
  pub done : Done
  pub ended : Ended m gives shown rule a done
  pub well : exit_status done ≡ 0

-- The state of a source in which it may return the same as in another one.
abbrev pub IsSameSource : {S : Type 0} → (gives : S → FileContents) → (fails : S → PathSet) → (now before : S) → Type 0
IsSameSource gives fails now before = SameFiles (gives now) (fails now) (gives before) (fails before)

-- Words name other paths than targets by their names: sources, `PATH^`, or paths that aren't in canonical form. They
-- name these targets, and these were built with exit status 0. If they name no target, nothing was built.
pub record BuiltNamed {S : Type 0} (m : Mode) (gives : S → FileContents) (fails : S → PathSet) (source : S) (shown : Shown) (rule : Rule) (path : Text) (limits : Limits) (words : List Text) : Type 0 where
  pub read : S
  pub same : IsSameSource gives fails read source
  pub names : List Text
  pub named : NamesTargets (gives read) (fails read) path words names
  pub later : S
  pub stays : IsSameSource gives fails later source
  pub built : (names ≡ []) ⊎ EndedWell m (gives later) shown rule (asked path limits names)

-- The meaning of status 0 for a build of the targets of a command line, if the manifest is read from this source. The
-- build succeeded, and its runs were shown in this way. Or one of the targets isn't a target of the manifest, and the
-- words name other paths.
abbrev pub SaysBuilt : {S : Type 0} → Mode → (gives : S → FileContents) → (fails : S → PathSet) → (source : S) → Shown → Rule → List Argument → (default : ℕ) → (status : ℕ) → Type 0
SaysBuilt m gives fails source shown rule line default status =
    status ≡ 0 → EndedWell m (gives source) shown rule (asked_by line default)
    ⊎ (HasUnknownTarget m (gives source) (fails source) shown rule (asked_by line default) × BuiltNamed m gives fails source shown rule (manifest_in line) (limits_of line default) (targets line))

-- The meaning of status 0 for the tool `explain`: a dry build succeeded, whose targets are the words of the tool.
abbrev pub SaysExplained : FileContents → Shown → Rule → List Argument → (default : ℕ) → (status : ℕ) → Type 0
SaysExplained gives shown rule line default status = status ≡ 0 → EndedWell mode.Dry gives shown rule (asked (manifest_in line) (limits_of line default) (tool_words line))

-- The meaning of status 0 for a build.
abbrev pub SaysDone : {S : Type 0} → Build → (gives : S → FileContents) → (fails : S → PathSet) → (source : S) → Shown → Rule → List Argument → (default : ℕ) → (status : ℕ) → Type 0
SaysDone (build.Targets m reasons) gives fails source shown rule line default status = SaysBuilt m gives fails source shown rule line default status
SaysDone build.Explain gives fails source shown rule line default status = SaysExplained (gives source) shown rule line default status

-- The meaning of status 0 by what a command line asks for. Only builds have it.
abbrev pub Executes : {S : Type 0} → Asks → (gives : S → FileContents) → (fails : S → PathSet) → (source : S) → Shown → Rule → List Argument → (default : ℕ) → (status : ℕ) → Type 0
Executes (asks.Builds b) gives fails source shown rule line default status = SaysDone b gives fails source shown rule line default status
Executes (asks.Stops argument) gives fails source shown rule line default status = status ≢ 0
Executes (asks.UsesTool name) gives fails source shown rule line default status = status ≢ 0
