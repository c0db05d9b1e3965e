-- The arguments at which ninja ends before it does anything else.
use Rattle.std.specs.Prelude.{ℕ, ◌==◌, Bool, false, ◌||◌, List, [], ◌∷◌, Option, Some, None, bytes_eq, codes, if◌then◌else◌}
use Rattle.std.specs.List.{list_any}
use Rattle.plan_text.specs.Bytes.{dot, hyphen}
use Rattle.plan_text.specs.Numerals.{is_digit}
use Rattle.plan_options.specs.declared.argument.Flag.{Flag}
use Rattle.plan_options.specs.declared.argument.Flag.TheVariants as flag
use Rattle.plan_options.specs.declared.argument.Setting.{Setting}
use Rattle.plan_options.specs.declared.argument.Setting.TheVariants as setting
use Rattle.plan_options.specs.declared.argument.Argument.{Argument}
use Rattle.plan_options.specs.declared.argument.Argument.TheVariants as argument
use Rattle.plan_options.specs.declared.stop.Stop.{Stop}
use Rattle.plan_options.specs.declared.stop.Stop.TheVariants as stop
use Rattle.plan_options.specs.declared.integer.Integer.{Integer}
use Rattle.plan_options.specs.declared.integer.Integer.TheVariants.{AtLeastZero}
use Rattle.plan_options.specs.Integers.{integer_in, past_white, plus}

-- `-h`, `--version` and `--about` end ninja.
abbrev pub stop_of_flag : Flag → Option Stop
stop_of_flag flag.Help = Some stop.Help
stop_of_flag flag.Version = Some stop.Version
stop_of_flag flag.About = Some stop.About
stop_of_flag flag.DryRun = None
stop_of_flag flag.Verbose = None
stop_of_flag flag.Quiet = None

-- `-j` takes a number from 0 on.
abbrev pub stop_of_jobs : Option Integer → Option Stop
stop_of_jobs (Some (AtLeastZero n)) = None
stop_of_jobs other = Some stop.InvalidJobs

-- `-k` takes any number.
abbrev pub stop_of_failures : Option Integer → Option Stop
stop_of_failures (Some n) = None
stop_of_failures None = Some stop.InvalidFailures

-- A text after a sign, if it begins with one.
abbrev pub past_sign : List ℕ → List ℕ
past_sign [] = []
past_sign (b ∷ more) = if b == hyphen || b == plus then more else b ∷ more

abbrev pub begins_with_digit : List ℕ → Bool
begins_with_digit [] = false
begins_with_digit (b ∷ more) = is_digit b

-- A text begins with a digit, or with a point and a digit.
abbrev pub begins_with_decimal : List ℕ → Bool
begins_with_decimal [] = false
begins_with_decimal (b ∷ more) = if b == dot then begins_with_digit more else is_digit b

-- `-l` takes a text that begins with a number.
abbrev pub stop_of_load : List ℕ → Option Stop
stop_of_load text = if begins_with_decimal (past_sign (past_white text)) then None else Some stop.InvalidLoad

-- The debugging modes of ninja 1.11.
abbrev pub modes : List (List ℕ)
modes = codes "stats" ∷ codes "explain" ∷ codes "keepdepfile" ∷ codes "keeprsp" ∷ codes "nostatcache" ∷ []

-- The warnings of ninja 1.11, each with its treatment.
abbrev pub warnings : List (List ℕ)
warnings = codes "dupbuild=err" ∷ codes "dupbuild=warn" ∷ codes "phonycycle=err" ∷ codes "phonycycle=warn" ∷ codes "depfilemulti=err" ∷ codes "depfilemulti=warn" ∷ []

abbrev pub is_one_of : List ℕ → List (List ℕ) → Bool
is_one_of text names = list_any (bytes_eq text) names

abbrev pub stop_of_mode : List ℕ → Option Stop
stop_of_mode text = if bytes_eq text (codes "list") then Some stop.ModeList else if is_one_of text modes then None else Some stop.UnknownMode

abbrev pub stop_of_warning : List ℕ → Option Stop
stop_of_warning text = if bytes_eq text (codes "list") then Some stop.WarningList else if is_one_of text warnings then None else Some stop.UnknownWarning

-- The reason why ninja ends at an option and its value.
abbrev pub stop_of_setting : Setting → List ℕ → Option Stop
stop_of_setting setting.Jobs value = stop_of_jobs (integer_in 64 value)
stop_of_setting setting.Failures value = stop_of_failures (integer_in 64 value)
stop_of_setting setting.Load value = stop_of_load value
stop_of_setting setting.Mode value = stop_of_mode value
stop_of_setting setting.Warning value = stop_of_warning value
stop_of_setting setting.Folder value = None
stop_of_setting setting.Manifest value = None
stop_of_setting setting.Tool value = None

-- The reason why ninja ends at an argument, or None if it goes on.
abbrev pub stop_of : Argument → Option Stop
stop_of (argument.Flag f) = stop_of_flag f
stop_of (argument.Setting s value) = stop_of_setting s value
stop_of (argument.Target name) = None
stop_of (argument.ToolWord word) = None
stop_of (argument.Misuse m) = Some stop.Misuse
