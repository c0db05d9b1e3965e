-- How a command is passed to a shell, and what its exit status means.
use Rattle.std.specs.Prelude.{◌≡◌, ◌≢◌, ℕ, ◌<◌, nat_lt, List, [], ◌∷◌, length, get_or, Option, Some, None, false, if◌then◌else◌, IsUtf8, ℤ, pos}
use Rattle.std.specs.declared.alloc.Global.{Global}
use Rattle.std.specs.declared.process.command.Command.{Command}
use Rattle.std.specs.Process.{command_program, command_args, command_dir, command_var, clears_env}
use Rattle.plan_machine.specs.declared.event.reply.Reply.{Reply}
use Rattle.plan_machine.specs.declared.event.reply.Reply.TheVariants as reply

-- `/bin/sh`
abbrev pub shell : List ℕ
shell = 47 ∷ 98 ∷ 105 ∷ 110 ∷ 47 ∷ 115 ∷ 104 ∷ []

-- `-c`, `--` and the text of the command
abbrev pub shell_words : List ℕ → List (List ℕ)
shell_words text = (45 ∷ 99 ∷ []) ∷ (45 ∷ 45 ∷ []) ∷ text ∷ []

-- `PLAN_NINJA_RECORDS`
abbrev pub record_variable : List ℕ
record_variable = 80 ∷ 76 ∷ 65 ∷ 78 ∷ 95 ∷ 78 ∷ 73 ∷ 78 ∷ 74 ∷ 65 ∷ 95 ∷ 82 ∷ 69 ∷ 67 ∷ 79 ∷ 82 ∷ 68 ∷ 83 ∷ []

-- The command runs the shell on this text, in this program's own folder and environment. Only the variable that names
-- the builders above is set.
pub record IsShellOf (command : Command Global) (text records : List ℕ) : Type 0 where
  pub program : command_program command ≡ shell
  pub words : command_args command ≡ shell_words text
  pub folder : command_dir command ≡ None
  pub locked : command_var command record_variable ≡ Some (Some records)
  pub variables : (name : List ℕ) → name ≢ record_variable → command_var command name ≡ None
  pub environment : clears_env command ≡ false

-- a shell that runs exactly this text was started, and ended with this code
abbrev pub HasRun : (ended : Command Global → Option ℤ → Type 0) → (text : List ℕ) → Option ℤ → Type 0
HasRun ended text code = (shell : Command Global) × (records : List ℕ) × IsShellOf shell text records × ended shell code

-- the reply for an exit code; None if a signal ended the command
abbrev pub ending : Option ℤ → Reply
ending (Some (pos status)) = if nat_lt status 256 then reply.Exit status else reply.Signal
ending _ = reply.Signal

-- each of these paths is UTF-8
abbrev pub AreTexts : List (List ℕ) → Type 0
AreTexts paths = (number : ℕ) → number < length paths → IsUtf8 (get_or paths number [])
