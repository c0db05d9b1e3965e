-- The variables of a rule, expanded for an edge that uses the rule. (Ninja manual, "Rule variables" and "Variable
-- expansion".)
use Rattle.std.specs.Prelude.{ℕ, zero, suc, Bool, true, false, ◌||◌, ◌&&◌, ◌==◌, nat_le, List, [], ◌∷◌, ◌++◌, length, map, Option, Some, None, bytes_eq, if◌then◌else◌, flat_map, codes}
use Rattle.std.specs.List.{list_any, list_all, join_with_byte}
use Rattle.plan_text.specs.Bytes.{space, line_feed}
use Rattle.plan_text.specs.declared.piece_reader.Piece.{Piece}
use Rattle.plan_text.specs.declared.piece_reader.Piece.TheVariants.{Literal, Reference}
use Rattle.plan_scope.specs.Scopes.{Text, Name, Bindings, last_of}

-- A-Z a-z 0-9 _ + - . /
abbrev pub is_plain : ℕ → Bool
is_plain b =
    (nat_le 65 b && nat_le b 90) || (nat_le 97 b && nat_le b 122) || (nat_le 48 b && nat_le b 57)
    || b == 95 || b == 43 || b == 45 || b == 46 || b == 47

-- '
abbrev pub single_quote : ℕ
single_quote = 39

-- A byte between single quotes.
abbrev pub escaped : ℕ → Text
escaped b = if b == single_quote then codes "'\\''" else b ∷ []

-- A path for a shell: unchanged if each byte is plain, or else between single quotes.
abbrev pub quoted : Text → Text
quoted path = if list_all is_plain path then path else single_quote ∷ flat_map escaped path ++ single_quote ∷ []

-- A path, unchanged.
abbrev pub plain : Text → Text
plain path = path

-- The environment in which the variables of an edge are looked up, the nearest binding first: its explicit paths, its
-- build block, its rule, and the meaning of names in its file after the whole tree was read.
pub record EdgeEnvironment : Type 0 where
  pub inputs : List Text
  pub outputs : List Text
  pub block : Bindings Text
  pub rule : Bindings (List Piece)
  pub file : Name → Text

-- The text of `in`, `out` or `in_newline`. `show` quotes each path.
abbrev pub listed : (Text → Text) → EdgeEnvironment → Name → Option Text
listed show edge name =
    if bytes_eq name (codes "in") then Some (join_with_byte space (map show edge.inputs))
    else if bytes_eq name (codes "out") then Some (join_with_byte space (map show edge.outputs))
    else if bytes_eq name (codes "in_newline") then Some (join_with_byte line_feed (map show edge.inputs))
    else None

-- The meaning of a name: a text that is known, or pieces that the rule leaves to be expanded.
pub data Meaning : Type 0 where
  Known : Text → Meaning
  Late : List Piece → Meaning

abbrev pub or_known : Option Text → Meaning → Meaning
or_known (Some text) other = Known text
or_known None other = other

abbrev pub or_late : Option (List Piece) → Meaning → Meaning
or_late (Some pieces) other = Late pieces
or_late None other = other

-- The meaning in the nearest place that binds the name.
abbrev pub meaning_of : (Text → Text) → EdgeEnvironment → Name → Meaning
meaning_of show edge name =
    or_known (listed show edge name) (or_known (last_of name edge.block) (or_late (last_of name edge.rule) (Known (edge.file name))))

-- Both texts joined, or None if one has a cycle.
abbrev pub both : Option Text → Option Text → Option Text
both (Some a) (Some b) = Some (a ++ b)
both (Some a) None = None
both None b = None

abbrev pub text_of_piece : (Name → Option Text) → Piece → Option Text
text_of_piece value (Literal text) = Some text
text_of_piece value (Reference name) = value name

-- The joined values of the pieces.
abbrev pub joined : (Name → Option Text) → List Piece → Option Text
joined value [] = Some []
joined value (piece ∷ more) = both (text_of_piece value piece) (joined value more)

-- The text of a meaning. A variable of the rule that is in use already has none.
abbrev pub text_of : Meaning → Bool → (List Piece → Option Text) → Option Text
text_of (Known text) in_use inner = Some text
text_of (Late pieces) true inner = None
text_of (Late pieces) false inner = inner pieces

-- The text of a name, or None if variables of the rule refer to one another in a cycle. At most n names of the rule are
-- not in use yet. If n is 0, all are in use.
abbrev pub text_within : ℕ → (Name → Meaning) → List Name → Name → Option Text
text_within zero meaning in_use name = text_of (meaning name) true (λ pieces. None)
text_within (suc n) meaning in_use name =
    text_of (meaning name) (list_any (bytes_eq name) in_use) (joined (text_within n meaning (name ∷ in_use)))

-- A variable of an edge, expanded from the outermost level. `show` quotes its paths, including those inside other
-- variables.
abbrev pub variable : (Text → Text) → EdgeEnvironment → Name → Option Text
variable show edge name = text_within (length edge.rule) (meaning_of show edge) [] name
