-- The arguments in the words of a command line, as ninja's getopt_long reads them.
--
-- A word is an option, a target, the value of an option before it, or a word of a tool. Options may come after targets.
-- After `--` all words are targets, and after `-t TOOL` all words are the tool's. The first word that isn't understood is
-- the last argument.
use Rattle.std.specs.Prelude.{ℕ, ◌==◌, List, [], ◌∷◌, ◌++◌, drop, if◌then◌else◌}
use Rattle.plan_text.specs.Bytes.{hyphen}
use Rattle.plan_options.specs.declared.argument.Flag.{Flag}
use Rattle.plan_options.specs.declared.argument.Setting.{Setting}
use Rattle.plan_options.specs.declared.argument.Setting.TheVariants as setting
use Rattle.plan_options.specs.declared.argument.Misuse.TheVariants as misuse
use Rattle.plan_options.specs.declared.argument.Argument.{Argument}
use Rattle.plan_options.specs.declared.argument.Argument.TheVariants as argument
use Rattle.plan_options.specs.declared.letters.Letter.TheVariants as letter
use Rattle.plan_options.specs.declared.form.Form.{Form}
use Rattle.plan_options.specs.declared.form.Form.TheVariants as form
use Rattle.plan_options.specs.declared.expected.Expected.{Expected}
use Rattle.plan_options.specs.declared.expected.Expected.TheVariants as expected
use Rattle.plan_options.specs.Letters.{letter_of}
use Rattle.plan_options.specs.LongOptions.{flags_named, name_in, value_in}

abbrev pub Text : Type 0
Text = List ℕ

-- ---- Forms of a word

-- The form of a word that begins with two hyphens, followed by this text.
abbrev pub form_past : Text → Form
form_past [] = form.Dashes
form_past (b ∷ more) = form.Long

-- The form of a word: `--` itself, `--name`, letters after a hyphen, or anything else, including `-` itself.
abbrev pub form_of : Text → Form
form_of [] = form.Name
form_of (b ∷ []) = form.Name
form_of (b ∷ c ∷ more) = if b == hyphen then (if c == hyphen then form_past more else form.Letters) else form.Name

-- ---- Letters

-- The argument of an option with a value, if these letters after it are its value. If there are no letters, the next
-- word is its value.
abbrev pub joined : Setting → Text → List Argument
joined s [] = []
joined s (b ∷ more) = argument.Setting s (b ∷ more) ∷ []

-- The kind of the word after the value of an option.
abbrev pub after_value : Setting → Expected
after_value setting.Tool = expected.ToolWord
after_value other = expected.Any

-- The kind of the word after an option and its letters.
abbrev pub after_joined : Setting → Text → Expected
after_joined s [] = expected.Value s
after_joined s (b ∷ more) = after_value s

-- The arguments of letters. Each letter is an option, up to the first option with a value, which takes the letters
-- after it.
abbrev pub letters : Text → List Argument
letters [] = []
letters (b ∷ more) = elim (letter_of b) [
  | letter.Flag f ↦ argument.Flag f ∷ letters more
  | letter.Setting s ↦ joined s more
  | letter.Unknown ↦ argument.Misuse (misuse.UnknownLetter b) ∷ []
]

-- The kind of the word after letters.
abbrev pub after_letters : Text → Expected
after_letters [] = expected.Any
after_letters (b ∷ more) = elim (letter_of b) [
  | letter.Flag f ↦ after_letters more
  | letter.Setting s ↦ after_joined s more
  | letter.Unknown ↦ expected.Nothing
]

-- ---- Long options

-- The argument of a word that names an option without a value, followed by this text.
abbrev pub without_value : Flag → Text → Argument
without_value f [] = argument.Flag f
without_value f (b ∷ more) = argument.Misuse (misuse.TakesNoValue f)

-- The argument of a word whose name may mean these options, followed by this text.
abbrev pub only : List Flag → Text → Text → Argument
only [] word value = argument.Misuse (misuse.UnknownName word)
only (f ∷ []) word value = without_value f value
only (f ∷ g ∷ more) word value = argument.Misuse (misuse.Ambiguous word)

-- The argument of a word that begins with two hyphens.
abbrev pub long_argument : Text → Argument
long_argument word = only (flags_named (name_in (drop 2 word))) word (value_in (drop 2 word))

-- The kind of the word after an argument. No word is read after one that isn't understood.
abbrev pub after : Argument → Expected
after (argument.Misuse m) = expected.Nothing
after other = expected.Any

-- ---- Words

-- The arguments of a word with this form.
abbrev pub of_form : Form → Text → List Argument
of_form form.Name word = argument.Target word ∷ []
of_form form.Dashes word = []
of_form form.Long word = long_argument word ∷ []
of_form form.Letters word = letters (drop 1 word)

-- The kind of the word after one with this form.
abbrev pub after_form : Form → Text → Expected
after_form form.Name word = expected.Any
after_form form.Dashes word = expected.Target
after_form form.Long word = after (long_argument word)
after_form form.Letters word = after_letters (drop 1 word)

-- The arguments of a word of this kind.
abbrev pub given : Expected → Text → List Argument
given expected.Any word = of_form (form_of word) word
given (expected.Value s) word = argument.Setting s word ∷ []
given expected.Target word = argument.Target word ∷ []
given expected.ToolWord word = argument.ToolWord word ∷ []
given expected.Nothing word = []

-- The kind of the word after one of this kind.
abbrev pub next : Expected → Text → Expected
next expected.Any word = after_form (form_of word) word
next (expected.Value s) word = after_value s
next expected.Target word = expected.Target
next expected.ToolWord word = expected.ToolWord
next expected.Nothing word = expected.Nothing

-- The argument at the end of the words, if a value is still expected.
abbrev pub at_end : Expected → List Argument
at_end (expected.Value s) = argument.Misuse (misuse.NeedsValue s) ∷ []
at_end other = []

-- The arguments in words, the first of which has this kind.
abbrev pub reading_from : Expected → List Text → List Argument
reading_from e [] = at_end e
reading_from e (word ∷ words) = given e word ++ reading_from (next e word) words

-- The arguments in the words after a program's name.
abbrev pub reading : List Text → List Argument
reading words = reading_from expected.Any words
