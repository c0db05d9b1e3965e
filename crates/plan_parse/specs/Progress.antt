-- The state of reading a text, line by line.
use Rattle.std.specs.Prelude.{◌≡◌, ◌≢◌, ℕ, All, List, map, [], ◌∷◌, ◌++◌, Result, Ok, Err, Option, Some, None}
use Rattle.plan_text.specs.Outcome.{◌>>=◌, each}
use Rattle.plan_text.specs.Lines.{Raw}
use Rattle.plan_parse.specs.declared.fault.ParseFault.{ParseFault}
use Rattle.plan_parse.specs.declared.fault.ParseFault.TheVariants as fault
use Rattle.plan_parse.specs.Kinds.{Statement}
use Rattle.plan_parse.specs.declared.parser.Reader.{Reader}
use Rattle.plan_parse.specs.declared.cursor.Cursor.{Cursor}
use Rattle.plan_parse.specs.Reading.{Place}
use Rattle.plan_parse.specs.Blocks.{BlockLine, Text, Refused, LineRole, Head, Below, roles_of_lines, below, blocks_of}
use Rattle.plan_parse.specs.Statements.{no_block_allowed, statement_of, statement_in}
use Rattle.plan_parse.specs.Views.{place_of}
use Rattle.plan_parse.specs.BlockLines.{block_lines_of}
use Rattle.plan_parse.specs.Compact.{StandsIn, said_in}

-- the statements of whole blocks, and the block that may continue: the line that began it, and the lines below
-- that
pub record State : Type 0 where
  pub done : List Statement
  pub head : Option Place
  pub lines : List BlockLine

abbrev pub head_of : Option Cursor → Option Place
head_of None = None
head_of (Some p) = Some (place_of p)

abbrev pub state_of : Reader → State
state_of r = record { done = map (said_in r.text.now r.lists) r.statements.items; head = head_of r.head; lines = block_lines_of r.lines.items }

-- the statement of a block; none if no line began it
abbrev pub block_statement : Option Place → List BlockLine → Result (List Statement) ParseFault
block_statement None lines = no_block_allowed lines >>= λ _. Ok []
block_statement (Some p) lines = statement_of p lines >>= λ s. Ok (s ∷ [])

-- the statements if the block ends here
abbrev pub statements_at_end : State → Result (List Statement) ParseFault
statements_at_end s = block_statement s.head s.lines >>= λ last. Ok (s.done ++ last)

-- the statements if these lines follow
abbrev pub statements_with : State → List LineRole → Result (List Statement) ParseFault
statements_with s rest = block_statement s.head (s.lines ++ below rest) >>= λ front. each statement_in (blocks_of rest) >>= λ back. Ok (s.done ++ (front ++ back))

-- new is old with one more line, whatever follows; or that line ends a block with a fault
abbrev pub TakesLine : Result (Unit {0}) ParseFault → State → LineRole → State → Type 0
TakesLine (Ok x) old role new = (rest : List LineRole) → statements_with new rest ≡ statements_with old (role ∷ rest)
TakesLine (Err e) old role new = e ≢ fault.Memory → (rest : List LineRole) → statements_with old (role ∷ rest) ≡ Err e

-- the same for a logical line
abbrev pub ReadsLine : Result (Unit {0}) ParseFault → State → Raw → State → Type 0
ReadsLine (Ok x) old raw new = (rest : List Raw) → statements_with new (roles_of_lines rest) ≡ statements_with old (roles_of_lines (raw ∷ rest))
ReadsLine (Err e) old raw new = e ≢ fault.Memory → (rest : List Raw) → statements_with old (roles_of_lines (raw ∷ rest)) ≡ Err e

-- the line that begins a block is a line of the text
abbrev pub HeadStandsIn : List ℕ → Option Place → Type 0
HeadStandsIn text None = Unit {0}
HeadStandsIn text (Some p) = StandsIn text p

-- the same for a line of a block; a comment's fault has no place
abbrev pub LineStandsIn : List ℕ → BlockLine → Type 0
LineStandsIn text (Text p) = StandsIn text p
LineStandsIn text (Refused e) = Unit {0}

abbrev pub LinesStandIn : List ℕ → List BlockLine → Type 0
LinesStandIn text lines = All (LineStandsIn text) lines

-- the same for the block that may continue
pub record BlockStandsIn (text : List ℕ) (s : State) : Type 0 where
  pub head : HeadStandsIn text s.head
  pub lines : LinesStandIn text s.lines

-- the same for a line by its role
abbrev pub RoleStandsIn : List ℕ → Option LineRole → Type 0
RoleStandsIn text None = Unit {0}
RoleStandsIn text (Some (Head p)) = StandsIn text p
RoleStandsIn text (Some (Below line)) = LineStandsIn text line
