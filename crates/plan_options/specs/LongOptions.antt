-- The options that begin with `--`, and the abbreviations of their names.
use Rattle.std.specs.Prelude.{ℕ, ◌==◌, Bool, not, List, [], ◌∷◌, codes, drop, filter, nat_eq, take}
use Rattle.std.specs.List.{prefix_len, starts_with}
use Rattle.plan_text.specs.Bytes.{equals_sign}
use Rattle.plan_options.specs.declared.argument.Flag.{Flag}
use Rattle.plan_options.specs.declared.argument.Flag.TheVariants as flag

-- The long name of an option, which is empty if it has none.
abbrev pub name_of : Flag → List ℕ
name_of flag.Help = codes "help"
name_of flag.Version = codes "version"
name_of flag.Verbose = codes "verbose"
name_of flag.Quiet = codes "quiet"
name_of flag.About = codes "about"
name_of flag.DryRun = []

-- The options that have a long name.
abbrev pub named : List Flag
named = flag.Help ∷ flag.Version ∷ flag.Verbose ∷ flag.Quiet ∷ flag.About ∷ []

-- The options whose long names begin with this text.
abbrev pub flags_named : List ℕ → List Flag
flags_named front = filter (λ f. starts_with nat_eq (name_of f) front) named

abbrev pub is_in_name : ℕ → Bool
is_in_name b = not (b == equals_sign)

-- The part of a long option before a `=`.
abbrev pub name_in : List ℕ → List ℕ
name_in option = take (prefix_len is_in_name option) option

-- The rest of a long option: `=` and a value, or an empty text if it gives none.
abbrev pub value_in : List ℕ → List ℕ
value_in option = drop (prefix_len is_in_name option) option
