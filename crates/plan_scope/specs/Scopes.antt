-- Bindings of names. (Ninja manual, "Variable expansion" and "Evaluation and scoping".)
use Rattle.std.specs.Prelude.{ℕ, Bool, List, [], ◌∷◌, ◌++◌, Option, Some, None, ◌==◌, bytes_eq, nat_lt, length, if◌then◌else◌, unwrap_or, flat_map}
use Rattle.plan_text.specs.declared.piece_reader.Piece.{Piece}
use Rattle.plan_text.specs.declared.piece_reader.Piece.TheVariants.{Literal, Reference}
use Rattle.plan_parse.specs.Kinds.{StatementKind}
use Rattle.plan_parse.specs.Kinds as kind
use Rattle.plan_scope.specs.Trees.{TreeStatement}
use Rattle.plan_text.specs.Limits.{max_path, max_text}

abbrev pub Text : Type 0
Text = List ℕ

abbrev pub Name : Type 0
Name = List ℕ

-- Names with their values, in the order of their bindings.
abbrev pub Bindings : Type 0 → Type 0
Bindings V = List (Name × V)

abbrev pub or_else : {V : Type 0} → Option V → Option V → Option V
or_else (Some v) other = Some v
or_else None other = other

-- The value of the last binding of a name.
abbrev pub last_of : {V : Type 0} → Name → Bindings V → Option V
last_of name [] = None
last_of name (b ∷ bs) = or_else (last_of name bs) (if bytes_eq b.0 name then Some b.1 else None)

-- Names with their values, each in a scope, in the order of the tree.
abbrev pub ScopedBindings : Type 0 → Type 0
ScopedBindings V = List (ℕ × (Name × V))

-- The bindings of one scope.
abbrev pub frame : {V : Type 0} → ℕ → ScopedBindings V → Bindings V
frame scope [] = []
frame scope (b ∷ bs) = if b.0 == scope then b.1 ∷ frame scope bs else frame scope bs

-- The value of the last binding in the nearest scope that has one.
abbrev pub nearest : {V : Type 0} → ScopedBindings V → List ℕ → Name → Option V
nearest bound [] name = None
nearest bound (scope ∷ outer) name = or_else (last_of name (frame scope bound)) (nearest bound outer name)

-- The text of a name, empty if no scope binds it.
abbrev pub lookup : ScopedBindings Text → List ℕ → Name → Text
lookup bound scopes name = unwrap_or (nearest bound scopes name) []

abbrev pub value_of : (Name → Text) → Piece → Text
value_of value (Literal text) = text
value_of value (Reference name) = value name

-- The joined values of the pieces.
abbrev pub expand : (Name → Text) → List Piece → Text
expand value pieces = flat_map (value_of value) pieces

-- A binding in the own scope of a statement, which is the first that it sees.
abbrev pub in_own : {V : Type 0} → List ℕ → Name → V → ScopedBindings V
in_own [] name value = []
in_own (own ∷ outer) name value = (own, (name, value)) ∷ []

-- The binding of a statement. Its value is expanded at once by the bindings above it.
abbrev pub bound_in : ScopedBindings Text → List ℕ → StatementKind → ScopedBindings Text
bound_in above scopes (kind.Binding b) = in_own scopes b.name (expand (lookup above scopes) b.value)
bound_in above scopes other = []

-- These bindings, followed by those of the statements.
abbrev pub bound_past : ScopedBindings Text → List TreeStatement → ScopedBindings Text
bound_past above [] = above
bound_past above (l ∷ more) = bound_past (above ++ bound_in above l.scopes l.kind) more

-- The bindings of statements.
abbrev pub bound_by : List TreeStatement → ScopedBindings Text
bound_by statements = bound_past [] statements

abbrev pub is_too_long : Text → Bool
is_too_long text = nat_lt max_text (length text)

abbrev pub is_long_path : Text → Bool
is_long_path path = nat_lt max_path (length path)

abbrev pub is_empty : Text → Bool
is_empty text = length text == 0
