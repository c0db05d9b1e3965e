-- The meaning of all arguments of a command line together. If an option comes more than once, the last one counts.
use Rattle.std.specs.Prelude.{ℕ, zero, suc, ◌==◌, nat_lt, Bool, true, false, ◌||◌, List, [], ◌∷◌, Option, Some, None, bytes_eq, codes, filter_map, find, is_some, option_and_then, if◌then◌else◌}
use Rattle.std.specs.List.{list_any}
use Rattle.plan_options.specs.declared.argument.Flag.{Flag}
use Rattle.plan_options.specs.declared.argument.Flag.TheVariants as flag
use Rattle.plan_options.specs.declared.argument.Setting.{Setting}
use Rattle.plan_options.specs.declared.argument.Setting.TheVariants as setting
use Rattle.plan_options.specs.declared.argument.Argument.{Argument}
use Rattle.plan_options.specs.declared.argument.Argument.TheVariants as argument
use Rattle.plan_options.specs.declared.integer.Integer.{Integer}
use Rattle.plan_options.specs.declared.integer.Integer.TheVariants.{Negative, AtLeastZero}
use Rattle.plan_options.specs.Integers.{integer_in}
use Rattle.plan_options.specs.Letters.{letter_for}
use Rattle.plan_options.specs.Stops.{stop_of}

abbrev pub Text : Type 0
Text = List ℕ

-- The first argument at which ninja ends.
abbrev pub first_stop : List Argument → Option Argument
first_stop arguments = find (λ a. is_some (stop_of a)) arguments

abbrev pub or_else : {V : Type 0} → Option V → Option V → Option V
or_else (Some v) other = Some v
or_else None other = other

-- The last result in a list.
abbrev pub last_found : {X V : Type 0} → (X → Option V) → List X → Option V
last_found f [] = None
last_found f (x ∷ xs) = or_else (last_found f xs) (f x)

-- The value that an argument gives to an option.
abbrev pub value_of : Setting → Argument → Option Text
value_of s (argument.Setting own value) = if letter_for own == letter_for s then Some value else None
value_of s other = None

-- The last value of an option.
abbrev pub last_value : Setting → List Argument → Option Text
last_value s arguments = last_found (value_of s) arguments

-- The flag of an argument that is `-v` or `--quiet`.
abbrev pub verbosity_of : Argument → Option Flag
verbosity_of (argument.Flag flag.Verbose) = Some flag.Verbose
verbosity_of (argument.Flag flag.Quiet) = Some flag.Quiet
verbosity_of other = None

-- The last of `-v` and `--quiet`.
abbrev pub verbosity : List Argument → Option Flag
verbosity arguments = last_found verbosity_of arguments

-- Whether an argument is `-d explain`.
abbrev pub is_explain : Argument → Bool
is_explain (argument.Setting setting.Mode value) = bytes_eq value (codes "explain")
is_explain other = false

-- Whether one of the arguments is `-d explain`.
abbrev pub is_explained : List Argument → Bool
is_explained arguments = list_any is_explain arguments

-- Whether an argument is `-d keepdepfile`.
abbrev pub is_keepdepfile : Argument → Bool
is_keepdepfile (argument.Setting setting.Mode value) = bytes_eq value (codes "keepdepfile")
is_keepdepfile other = false

-- Whether one of the arguments is `-d keepdepfile`.
abbrev pub keeps_depfiles : List Argument → Bool
keeps_depfiles arguments = list_any is_keepdepfile arguments

-- Whether an argument is `-n`.
abbrev pub is_dry : Argument → Bool
is_dry (argument.Flag flag.DryRun) = true
is_dry other = false

-- Whether one of the arguments is `-n`.
abbrev pub is_dry_run : List Argument → Bool
is_dry_run arguments = list_any is_dry arguments

abbrev pub target_of : Argument → Option Text
target_of (argument.Target name) = Some name
target_of other = None

-- The targets, in their order.
abbrev pub targets : List Argument → List Text
targets arguments = filter_map target_of arguments

abbrev pub tool_word_of : Argument → Option Text
tool_word_of (argument.ToolWord word) = Some word
tool_word_of other = None

-- The words of the tool, in their order.
abbrev pub tool_words : List Argument → List Text
tool_words arguments = filter_map tool_word_of arguments

-- The number of commands that a number of `-j` allows at once. 0 allows 1,024.
abbrev pub jobs_of : Option Integer → Option ℕ
jobs_of (Some (AtLeastZero zero)) = Some 1024
jobs_of (Some (AtLeastZero (suc n))) = Some (suc n)
jobs_of other = None

-- The number of commands that may run at once, at most 1,024, if `-j` gives it.
abbrev pub jobs : List Argument → Option ℕ
jobs arguments = option_and_then (λ value. jobs_of (integer_in 1024 value)) (last_value setting.Jobs arguments)

-- A number of `-j` allows more than 1,024 commands at once. 0 allows any number.
abbrev pub exceeds : Option Integer → Bool
exceeds (Some (AtLeastZero n)) = n == 0 || nat_lt 1024 n
exceeds other = false

abbrev pub exceeds_if_any : Option Text → Bool
exceeds_if_any (Some value) = exceeds (integer_in 1025 value)
exceeds_if_any None = false

-- `-j` allows more commands at once than can run.
abbrev pub exceeds_jobs : List Argument → Bool
exceeds_jobs arguments = exceeds_if_any (last_value setting.Jobs arguments)

-- The number of failures that a number of `-k` allows. 0 and negative numbers mean any number, written as 0.
abbrev pub failures_of : Option Integer → ℕ
failures_of (Some (AtLeastZero n)) = n
failures_of (Some Negative) = 0
failures_of None = 1

abbrev pub failures_if_any : ℕ → Option Text → ℕ
failures_if_any most (Some value) = failures_of (integer_in most value)
failures_if_any most None = 1

-- The number of failures after which no more commands start, at most `most`. 0 means any number. It is 1 without `-k`.
abbrev pub failures : ℕ → List Argument → ℕ
failures most arguments = failures_if_any most (last_value setting.Failures arguments)
