-- The words of a tool, as getopt reads them: a hyphen and letters are options, and every other word is an operand. Options
-- may come after operands. After `--` all words are operands.
use Rattle.std.specs.Prelude.{List, [], ◌∷◌, ◌++◌, drop}
use Rattle.plan_options.specs.Reading.{Text, form_of}
use Rattle.plan_options.specs.declared.form.Form.TheVariants as form

-- The letters of the options, in their order.
abbrev pub option_letters : List Text → Text
option_letters [] = []
option_letters (word ∷ words) = elim (form_of word) [
  | form.Name ↦ option_letters words
  | form.Dashes ↦ []
  | form.Long ↦ drop 1 word ++ option_letters words
  | form.Letters ↦ drop 1 word ++ option_letters words
]

-- The operands, in their order.
abbrev pub operands : List Text → List Text
operands [] = []
operands (word ∷ words) = elim (form_of word) [
  | form.Name ↦ word ∷ operands words
  | form.Dashes ↦ words
  | form.Long ↦ operands words
  | form.Letters ↦ operands words
]
