-- What a command line asks for: the meaning of its arguments as one command.
use Rattle.std.specs.Prelude.{List, Option, Some, None, bytes_eq, codes, if◌then◌else◌}
use Rattle.plan_options.specs.declared.argument.Argument.{Argument}
use Rattle.plan_options.specs.declared.argument.Setting.TheVariants as setting
use Rattle.plan_options.specs.declared.command.Build.{Build}
use Rattle.plan_options.specs.declared.command.Build.TheVariants as build
use Rattle.plan_options.specs.declared.command.Command.{Command}
use Rattle.plan_options.specs.declared.command.Command.TheVariants as command
use Rattle.plan_options.specs.declared.command.Mode.{Mode}
use Rattle.plan_options.specs.declared.command.Mode.TheVariants as mode
use Rattle.plan_options.specs.declared.command.Reasons.{Reasons}
use Rattle.plan_options.specs.declared.command.Reasons.TheVariants as reasons
use Rattle.plan_options.specs.Saying.{Text, first_stop, is_dry_run, is_explained, last_value}

-- What is asked for: to end at an argument, to run a tool with a name, or to build targets.
pub data Asks : Type 0 where
  Stops : Argument → Asks
  UsesTool : Text → Asks
  Builds : Build → Asks

-- What a command asks for.
abbrev pub asks_of : Command → Asks
asks_of (command.Stop argument) = Stops argument.now
asks_of (command.Tool name) = UsesTool name.now
asks_of (command.Build b) = Builds b

-- `-n` asks for a dry build.
abbrev pub mode_in : List Argument → Mode
mode_in line = if is_dry_run line then mode.Dry else mode.Real

-- `-d explain` asks for reasons.
abbrev pub reasons_in : List Argument → Reasons
reasons_in line = if is_explained line then reasons.Shown else reasons.Hidden

-- `-t explain` asks for a build, and every other tool for itself.
abbrev pub of_tool : Text → Asks
of_tool name = if bytes_eq name (codes "explain") then Builds build.Explain else UsesTool name

-- The last tool counts. Without a tool, the targets are built.
abbrev pub without_stop : List Argument → (tool : Option Text) → Asks
without_stop line (Some name) = of_tool name
without_stop line None = Builds (build.Targets (mode_in line) (reasons_in line))

-- An argument at which ninja ends counts before all others.
abbrev pub with_stop : List Argument → (stop : Option Argument) → Asks
with_stop line (Some argument) = Stops argument
with_stop line None = without_stop line (last_value setting.Tool line)

-- What a command line asks for.
abbrev pub asks_in : List Argument → Asks
asks_in line = with_stop line (first_stop line)
