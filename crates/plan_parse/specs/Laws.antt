-- Laws about all manifests.
use Rattle.std.specs.Prelude.{◌≡◌, ◌+◌, ◌<◌, ◌≤◌, ℕ, Bool, true, false, List, [], ◌∷◌, ◌++◌, length, map, is_some, Ok, Err, codes}
use Rattle.std.specs.List.{AllByRecursion, count_by}
use Rattle.std.specs.Str.{bytes_eq}
use Rattle.plan_text.specs.Limits.{max_source}
use Rattle.plan_text.specs.Lines.{has_ended_lines, raw_lines}
use Rattle.plan_parse.specs.declared.fault.ParseFault.{ParseFault}
use Rattle.plan_parse.specs.Kinds.{Statement}
use Rattle.plan_parse.specs.Kinds.{StatementKind}
use Rattle.plan_parse.specs.Kinds as kind
use Rattle.plan_parse.specs.Blocks.{LineRole, Head, Below, roles_of_lines}
use Rattle.plan_parse.specs.Faults.{offset_of}
use Rattle.plan_parse.specs.Statements.{statements_of}

-- A rule binds its command once, a build line has an explicit or implicit output, and a default has a target.
abbrev pub IsWholeKind : StatementKind → Type 0
IsWholeKind (kind.Rule r) = count_by (λ b. bytes_eq b.name (codes "command")) r.bindings ≡ 1
IsWholeKind (kind.Build b) = 0 < length b.paths.outputs + length b.paths.implicit_outputs
IsWholeKind (kind.Pool p) = Unit {0}
IsWholeKind (kind.Default targets) = 0 < length targets
IsWholeKind (kind.Include path) = Unit {0}
IsWholeKind (kind.Subninja path) = Unit {0}
IsWholeKind (kind.Binding b) = Unit {0}

abbrev pub IsWhole : Statement → Type 0
IsWhole s = IsWholeKind s.kind

-- each statement of a text is whole
abbrev pub StatementsAreWhole : Type 0
StatementsAreWhole = (text : List ℕ) (statements : List Statement) → statements_of text ≡ Ok statements → AllByRecursion IsWhole statements

-- a statement, n bytes later
abbrev pub moved : ℕ → Statement → Statement
moved n s = record { offset = n + s.offset; kind = s.kind }

-- whether the first of these lines begins a block
abbrev pub leads : List LineRole → Bool
leads [] = false
leads (Head p ∷ more) = true
leads (Below line ∷ more) = false

-- whether the first line of a text that is neither blank nor a comment begins a block, that is, is not indented
abbrev pub begins_block : List ℕ → Bool
begins_block text = leads (roles_of_lines (raw_lines text))

-- after a text whose lines are ended, the statements of a text that begins a block follow unchanged, later by
-- the first text's length
abbrev pub StatementsJoin : Type 0
StatementsJoin =
    (front back : List ℕ) (xs ys : List Statement) → has_ended_lines front ≡ true → begins_block back ≡ true → length front + length back ≤ max_source
    → statements_of front ≡ Ok xs → statements_of back ≡ Ok ys → statements_of (front ++ back) ≡ Ok (xs ++ map (moved (length front)) ys)

-- each fault of a text has an offset: none is a memory fault, or that of an empty path
abbrev pub FaultsHavePlaces : Type 0
FaultsHavePlaces = (text : List ℕ) (fault : ParseFault) → statements_of text ≡ Err fault → is_some (offset_of fault) ≡ true
