-- Statements that are stored by their places in the text.
use Rattle.std.specs.Prelude.{◌≡◌, ℕ, List, [], get_or, length, map, take, drop, Result, Ok, Err}
use Rattle.plan_text.specs.Pieces.{literal_of, pieces_from}
use Rattle.plan_text.specs.declared.piece_reader.Mode.TheVariants as mode
use Rattle.plan_text.specs.declared.piece_reader.Piece.{Piece}
use Rattle.plan_parse.specs.declared.fault.ParseFault.{ParseFault}
use Rattle.plan_parse.specs.declared.compact.Span.{Span}
use Rattle.plan_parse.specs.declared.statement.Binding.{Binding}
use Rattle.plan_parse.specs.declared.statement.Directive.{Directive}
use Rattle.plan_parse.specs.declared.statement.DirectiveKind.{DirectiveKind}
use Rattle.plan_parse.specs.declared.statement.DirectiveKind.TheVariants as directive
use Rattle.plan_parse.specs.declared.compact.CompactPath.{CompactPath}
use Rattle.plan_parse.specs.declared.compact.CompactPath.TheVariants as path
use Rattle.plan_parse.specs.declared.compact.CompactValue.{CompactValue}
use Rattle.plan_parse.specs.declared.compact.CompactValue.TheVariants as value
use Rattle.plan_parse.specs.declared.compact.CompactBinding.{CompactBinding}
use Rattle.plan_parse.specs.declared.compact.CompactBuild.{CompactBuild}
use Rattle.plan_parse.specs.declared.compact.BuildLists.{BuildLists}
use Rattle.plan_parse.specs.declared.compact.CompactStatement.{CompactStatement}
use Rattle.plan_parse.specs.declared.compact.CompactStatement.TheVariants as kept
use Rattle.plan_parse.specs.PathLists.{between, lists_at, map_lists, Extends}
use Rattle.plan_parse.specs.Build.{Build}
use Rattle.plan_parse.specs.Kinds.{Statement, StatementKind}
use Rattle.plan_parse.specs.Kinds as kind
use Rattle.plan_parse.specs.Reading.{Place, lift_fault, value_at}
use Rattle.plan_parse.specs.Statements.{binding_at}

-- a line of a text
abbrev pub line_in : List ℕ → Span → Place
line_in text span = record { at = span.at; bytes = take span.len (drop span.at text) }

abbrev pub binding_or_empty : Result Binding ParseFault → Binding
binding_or_empty (Ok b) = b
binding_or_empty (Err e) = record { name = []; value = [] }

-- the binding in a line of a text; its name and value are empty if the line is no binding
abbrev pub bound_in : List ℕ → Span → Binding
bound_in text span = binding_or_empty (binding_at (line_in text span))

abbrev pub pieces_or_none : Result (List Piece) ParseFault → List Piece
pieces_or_none (Ok v) = v
pieces_or_none (Err e) = []

-- the pieces of the path that takes the whole place
abbrev pub path_pieces : Place → Result (List Piece) ParseFault
path_pieces p = lift_fault (pieces_from mode.Path p.at p.bytes)

-- the pieces of a path of a text: its bytes if each stands for itself, or else the pieces that are read, or
-- none if it is no path
abbrev pub path_in : List ℕ → CompactPath → List Piece
path_in text (path.Plain span) = literal_of (line_in text span).bytes
path_in text (path.Pieces span) = pieces_or_none (path_pieces (line_in text span))

-- the pieces of a right side of a text, in the same way
abbrev pub value_in : List ℕ → CompactValue → List Piece
value_in text (value.Plain span) = literal_of (line_in text span).bytes
value_in text (value.Pieces span) = pieces_or_none (value_at (line_in text span))

-- a binding of a text, by the places of its name and its right side
abbrev pub variable_in : List ℕ → CompactBinding → Binding
variable_in text b = record { name = (line_in text b.name).bytes; value = value_in text b.value }

-- a build line of a text, by its ranges among the paths and variables of its file
abbrev pub build_in : List ℕ → BuildLists → CompactBuild → Build
build_in text lists b = record {
  paths = map_lists (map (path_in text)) (lists_at b.paths lists.paths.items);
  rule = (line_in text b.rule).bytes;
  bindings = map (variable_in text) (between b.bindings.start b.bindings.end lists.bindings.items);
}

-- the statement of a build line of a text
abbrev pub built_in : List ℕ → BuildLists → CompactBuild → Statement
built_in text lists b = record { offset = b.offset; kind = kind.Build (build_in text lists b) }

-- an empty build line
abbrev pub no_build : CompactBuild
no_build = record {
  offset = 0;
  paths = record {
    start = 0;
    outputs = 0;
    implicit_outputs = 0;
    inputs = 0;
    implicit_inputs = 0;
    order_only_inputs = 0;
  };
  rule = record { at = 0; len = 0 };
  bindings = record { start = 0; end = 0 };
}

-- the build line of a file with this number, or an empty one if there is none
abbrev pub build_at : BuildLists → ℕ → CompactBuild
build_at lists n = get_or lists.builds.items n no_build

-- the statement of a binding of a text
abbrev pub binding_in : List ℕ → Span → Statement
binding_in text span = record { offset = span.at; kind = kind.Binding (bound_in text span) }

-- a directive, among all sorts of statements
abbrev pub kind_of : DirectiveKind → StatementKind
kind_of (directive.Rule r) = kind.Rule r
kind_of (directive.Pool p) = kind.Pool p
kind_of (directive.Default targets) = kind.Default targets
kind_of (directive.Include p) = kind.Include p
kind_of (directive.Subninja p) = kind.Subninja p

-- the statement of a directive
abbrev pub directive_said : Directive → Statement
directive_said d = record { offset = d.offset; kind = kind_of d.kind }

-- a statement that is stored by its places in the text and among the build lines of its file
abbrev pub said_in : List ℕ → BuildLists → CompactStatement → Statement
said_in text lists (kept.Binding span) = binding_in text span
said_in text lists (kept.Build n) = built_in text lists (build_at lists n)
said_in text lists (kept.Directive d) = directive_said d.value

-- the lists of a file begin with all items of older ones
pub record Follows (older later : BuildLists) : Type 0 where
  pub builds : Extends older.builds.items later.builds.items
  pub paths : Extends older.paths.items later.paths.items
  pub bindings : Extends older.bindings.items later.bindings.items

-- a build line has the same meaning, whatever follows it in the lists of its file
abbrev pub BuildLasts : List ℕ → BuildLists → CompactBuild → Type 0
BuildLasts text lists b = (later : BuildLists) → Follows lists later → built_in text later b ≡ built_in text lists b

-- the same for a statement
abbrev pub Lasts : List ℕ → BuildLists → CompactStatement → Type 0
Lasts text lists s = (later : BuildLists) → Follows lists later → said_in text later s ≡ said_in text lists s

-- the same for all statements so far
abbrev pub AllLast : List ℕ → BuildLists → List CompactStatement → Type 0
AllLast text lists statements = (later : BuildLists) → Follows lists later → map (said_in text later) statements ≡ map (said_in text lists) statements

-- the rest of a line is a line of the text
abbrev pub StandsIn : List ℕ → Place → Type 0
StandsIn text p = p.bytes ≡ take (length p.bytes) (drop p.at text)
