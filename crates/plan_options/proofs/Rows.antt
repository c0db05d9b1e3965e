-- Worked examples of command lines.
use Rattle.std.proofs.Common.{◌≡◌, List, [], ◌∷◌, refl}
use Rattle.std.specs.Prelude.{codes, Some, None, true, false}
use Rattle.plan_options.specs.declared.argument.Flag.TheVariants as flag
use Rattle.plan_options.specs.declared.argument.Setting.TheVariants as setting
use Rattle.plan_options.specs.declared.argument.Misuse.TheVariants as misuse
use Rattle.plan_options.specs.declared.argument.Argument.{Argument}
use Rattle.plan_options.specs.declared.argument.Argument.TheVariants as argument
use Rattle.plan_options.specs.declared.stop.Stop.TheVariants as stop
use Rattle.plan_options.specs.declared.integer.Integer.TheVariants.{Negative, AtLeastZero}
use Rattle.plan_options.specs.Integers.{integer_in}
use Rattle.plan_options.specs.Reading.{reading}
use Rattle.plan_options.specs.Stops.{stop_of_load, stop_of_mode}
use Rattle.plan_options.specs.declared.command.Build.TheVariants as build
use Rattle.plan_options.specs.declared.command.Mode.TheVariants as mode
use Rattle.plan_options.specs.declared.command.Reasons.TheVariants as reasons
use Rattle.plan_options.specs.Commands.{Builds, Stops, UsesTool, asks_in}
use Rattle.plan_options.specs.Saying.{exceeds_jobs, failures, first_stop, is_dry_run, jobs, targets, verbosity}
use Rattle.plan_options.specs.ToolWords.{operands, option_letters}

-- `-vj3 a -f x b`
letters_share_a_word : reading (codes "-vj3" ∷ codes "a" ∷ codes "-f" ∷ codes "x" ∷ codes "b" ∷ [])
    ≡ argument.Flag flag.Verbose ∷ argument.Setting setting.Jobs (codes "3") ∷ argument.Target (codes "a") ∷ argument.Setting setting.Manifest (codes "x") ∷ argument.Target (codes "b") ∷ []
letters_share_a_word = refl

-- `-j -1`: A value may begin with a hyphen.
value_with_a_hyphen : reading (codes "-j" ∷ codes "-1" ∷ []) ≡ argument.Setting setting.Jobs (codes "-1") ∷ []
value_with_a_hyphen = refl

-- `-C -- -- -v -`
targets_after_dashes : reading (codes "-C" ∷ codes "--" ∷ codes "--" ∷ codes "-v" ∷ codes "-" ∷ [])
    ≡ argument.Setting setting.Folder (codes "--") ∷ argument.Target (codes "-v") ∷ argument.Target (codes "-") ∷ []
targets_after_dashes = refl

-- `-t clean -g x --version`
words_of_a_tool : reading (codes "-t" ∷ codes "clean" ∷ codes "-g" ∷ codes "x" ∷ codes "--version" ∷ [])
    ≡ argument.Setting setting.Tool (codes "clean") ∷ argument.ToolWord (codes "-g") ∷ argument.ToolWord (codes "x") ∷ argument.ToolWord (codes "--version") ∷ []
words_of_a_tool = refl

-- `-vtclean -g`
joined_tool : reading (codes "-vtclean" ∷ codes "-g" ∷ []) ≡ argument.Flag flag.Verbose ∷ argument.Setting setting.Tool (codes "clean") ∷ argument.ToolWord (codes "-g") ∷ []
joined_tool = refl

-- `--verb --q --vers`
shortened_names : reading (codes "--verb" ∷ codes "--q" ∷ codes "--vers" ∷ []) ≡ argument.Flag flag.Verbose ∷ argument.Flag flag.Quiet ∷ argument.Flag flag.Version ∷ []
shortened_names = refl

-- `a --ver b`
ambiguous_name : reading (codes "a" ∷ codes "--ver" ∷ codes "b" ∷ []) ≡ argument.Target (codes "a") ∷ argument.Misuse (misuse.Ambiguous (codes "--ver")) ∷ []
ambiguous_name = refl

-- `--nosuch=1`
unknown_name : reading (codes "--nosuch=1" ∷ []) ≡ argument.Misuse (misuse.UnknownName (codes "--nosuch=1")) ∷ []
unknown_name = refl

-- `--quiet=`
no_value_taken : reading (codes "--quiet=" ∷ []) ≡ argument.Misuse (misuse.TakesNoValue flag.Quiet) ∷ []
no_value_taken = refl

-- `-vxj3`
unknown_letter : reading (codes "-vxj3" ∷ []) ≡ argument.Flag flag.Verbose ∷ argument.Misuse (misuse.UnknownLetter 120) ∷ []
unknown_letter = refl

-- `a -k`
missing_value : reading (codes "a" ∷ codes "-k" ∷ []) ≡ argument.Target (codes "a") ∷ argument.Misuse (misuse.NeedsValue setting.Failures) ∷ []
missing_value = refl

numbers_with_signs : integer_in 64 (codes " +07") ≡ Some (AtLeastZero 7)
numbers_with_signs = refl

number_below_zero : integer_in 64 (codes "-1") ≡ Some Negative
number_below_zero = refl

minus_zero : integer_in 64 (codes "-0") ≡ Some (AtLeastZero 0)
minus_zero = refl

greatest_number : integer_in 64 (codes "100") ≡ Some (AtLeastZero 64)
greatest_number = refl

no_number : integer_in 64 (codes "3x") ≡ None
no_number = refl

only_a_sign : integer_in 64 (codes "-") ≡ None
only_a_sign = refl

load_of_a_half : stop_of_load (codes "-.5") ≡ None
load_of_a_half = refl

no_load : stop_of_load (codes "x1") ≡ Some stop.InvalidLoad
no_load = refl

known_mode : stop_of_mode (codes "stats") ≡ None
known_mode = refl

unknown_mode : stop_of_mode (codes "stat") ≡ Some stop.UnknownMode
unknown_mode = refl

-- `-j 0 -k -1 --quiet -v x -j7`
abbrev said : List Argument
said = reading (codes "-j" ∷ codes "0" ∷ codes "-k" ∷ codes "-1" ∷ codes "--quiet" ∷ codes "-v" ∷ codes "x" ∷ codes "-j7" ∷ [])

last_jobs_count : jobs said ≡ Some 7
last_jobs_count = refl

no_limit_on_failures : failures 100 said ≡ 0
no_limit_on_failures = refl

last_verbosity_counts : verbosity said ≡ Some flag.Verbose
last_verbosity_counts = refl

named_targets : targets said ≡ codes "x" ∷ []
named_targets = refl

nothing_stops : first_stop said ≡ None
nothing_stops = refl

-- `-j x --version`: The first argument at which ninja ends counts.
first_stop_counts : first_stop (reading (codes "-j" ∷ codes "x" ∷ codes "--version" ∷ [])) ≡ Some (argument.Setting setting.Jobs (codes "x"))
first_stop_counts = refl

-- `-j 0`
as_many_as_can_be : jobs (reading (codes "-j" ∷ codes "0" ∷ [])) ≡ Some 1024
as_many_as_can_be = refl

-- `-j 0`: as many as can be are fewer than any number.
any_number_exceeds : exceeds_jobs (reading (codes "-j" ∷ codes "0" ∷ [])) ≡ true
any_number_exceeds = refl

-- `-j 1024`
greatest_jobs_allowed : exceeds_jobs (reading (codes "-j" ∷ codes "1024" ∷ [])) ≡ false
greatest_jobs_allowed = refl

-- `-j1025`
one_job_too_many : exceeds_jobs (reading (codes "-j1025" ∷ [])) ≡ true
one_job_too_many = refl

dry_run_among_letters : is_dry_run (reading (codes "a" ∷ codes "-vn" ∷ [])) ≡ true
dry_run_among_letters = refl

-- `-t clean -n`: `-n` is a word of the tool.
no_dry_run_of_a_tool : is_dry_run (reading (codes "-t" ∷ codes "clean" ∷ codes "-n" ∷ [])) ≡ false
no_dry_run_of_a_tool = refl

-- `-gr a -x -- -g`
letters_of_a_tool : option_letters (codes "-gr" ∷ codes "a" ∷ codes "-x" ∷ codes "--" ∷ codes "-g" ∷ []) ≡ codes "grx"
letters_of_a_tool = refl

operands_of_a_tool : operands (codes "-gr" ∷ codes "a" ∷ codes "-x" ∷ codes "--" ∷ codes "-g" ∷ []) ≡ codes "a" ∷ codes "-g" ∷ []
operands_of_a_tool = refl

-- `a -k 3`
targets_are_built : asks_in (reading (codes "a" ∷ codes "-k" ∷ codes "3" ∷ [])) ≡ Builds (build.Targets mode.Real reasons.Hidden)
targets_are_built = refl

-- `-n a`
dry_run_runs_no_command : asks_in (reading (codes "-n" ∷ codes "a" ∷ [])) ≡ Builds (build.Targets mode.Dry reasons.Hidden)
dry_run_runs_no_command = refl

-- `-d explain a -n`
reasons_of_a_dry_run : asks_in (reading (codes "-d" ∷ codes "explain" ∷ codes "a" ∷ codes "-n" ∷ [])) ≡ Builds (build.Targets mode.Dry reasons.Shown)
reasons_of_a_dry_run = refl

-- `-d stats a`
statistics_give_no_reasons : asks_in (reading (codes "-d" ∷ codes "stats" ∷ codes "a" ∷ [])) ≡ Builds (build.Targets mode.Real reasons.Hidden)
statistics_give_no_reasons = refl

-- `-t explain a`: It is a dry build, also without `-n`.
tool_that_builds : asks_in (reading (codes "-t" ∷ codes "explain" ∷ codes "a" ∷ [])) ≡ Builds build.Explain
tool_that_builds = refl

-- `-n -t clean x`
tool_of_a_dry_run : asks_in (reading (codes "-n" ∷ codes "-t" ∷ codes "clean" ∷ codes "x" ∷ [])) ≡ UsesTool (codes "clean")
tool_of_a_dry_run = refl

-- `--version -t clean`
version_before_a_tool : asks_in (reading (codes "--version" ∷ codes "-t" ∷ codes "clean" ∷ [])) ≡ Stops (argument.Flag flag.Version)
version_before_a_tool = refl

-- `-t clean --version`: All words after a tool are the tool's.
version_after_a_tool : asks_in (reading (codes "-t" ∷ codes "clean" ∷ codes "--version" ∷ [])) ≡ UsesTool (codes "clean")
version_after_a_tool = refl

-- `a -j x`
fault_before_targets : asks_in (reading (codes "a" ∷ codes "-j" ∷ codes "x" ∷ [])) ≡ Stops (argument.Setting setting.Jobs (codes "x"))
fault_before_targets = refl
