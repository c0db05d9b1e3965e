-- The options of one letter (`ninja -h`).
use Rattle.std.specs.Prelude.{ℕ, ◌==◌, if◌then◌else◌}
use Rattle.plan_options.specs.declared.argument.Flag.TheVariants as flag
use Rattle.plan_options.specs.declared.argument.Setting.{Setting}
use Rattle.plan_options.specs.declared.argument.Setting.TheVariants as setting
use Rattle.plan_options.specs.declared.letters.Letter.{Letter}
use Rattle.plan_options.specs.declared.letters.Letter.TheVariants as letter

-- The option with a letter: `h`, `n`, `v`, and with a value `C`, `d`, `f`, `j`, `k`, `l`, `t`, `w`.
abbrev pub letter_of : ℕ → Letter
letter_of b =
    if b == 104 then letter.Flag flag.Help
    else if b == 110 then letter.Flag flag.DryRun
    else if b == 118 then letter.Flag flag.Verbose
    else if b == 67 then letter.Setting setting.Folder
    else if b == 100 then letter.Setting setting.Mode
    else if b == 102 then letter.Setting setting.Manifest
    else if b == 106 then letter.Setting setting.Jobs
    else if b == 107 then letter.Setting setting.Failures
    else if b == 108 then letter.Setting setting.Load
    else if b == 116 then letter.Setting setting.Tool
    else if b == 119 then letter.Setting setting.Warning
    else letter.Unknown

-- The letter of an option with a value.
abbrev pub letter_for : Setting → ℕ
letter_for setting.Folder = 67
letter_for setting.Mode = 100
letter_for setting.Manifest = 102
letter_for setting.Jobs = 106
letter_for setting.Failures = 107
letter_for setting.Load = 108
letter_for setting.Tool = 116
letter_for setting.Warning = 119
