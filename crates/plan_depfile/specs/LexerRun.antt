-- Reading the tokens of a depfile one after another, from the state of a lexer.
use Rattle.std.specs.Prelude.{ℕ, nat_lt, List, [], ◌∷◌, ◌++◌, length, if◌then◌else◌, Result, Ok, Err}
use Rattle.plan_depfile.specs.declared.lexer.token.Token.TheVariants.{Byte, Blank, Colon, Hash, Dollar, Newline}
use Rattle.plan_depfile.specs.Tokens.{Mark}
use Rattle.plan_depfile.specs.Depfile.{Met, met_at, path_from}
use Rattle.plan_text.specs.Limits.{max_path}
use Rattle.plan_text.specs.Outcome.{◌>>=◌}
use Rattle.plan_depfile.specs.declared.fault.DepFault.TheVariants.{NoColon, NoTarget, LoneDollar}

-- The state of a lexer in a line: after nothing but blanks; in a comment; after the beginning of the first
-- target; after the colon and in no path; in a path, with the offset where it begins and its bytes so far.
pub data LexState : Type 0 where
  Fresh : LexState
  Comment : LexState
  Targets : ℕ → LexState
  Between : LexState
  Inside : ℕ → List ℕ → LexState

-- The effect of one more token: a new state; the end of a path and a new state; or a fault.
pub data Turn : Type 0 where
  On : LexState → Turn
  Closes : ℕ → List ℕ → ℕ → LexState → Turn
  Stops : Met → Turn

-- adds a byte to a path; a path that is already too long doesn't grow
abbrev pub grown : List ℕ → ℕ → List ℕ
grown bytes b = if nat_lt max_path (length bytes) then bytes else bytes ++ b ∷ []

abbrev pub lone : Mark → Turn
lone m = Stops (met_at m.last (LoneDollar m.start))

abbrev pub turn : LexState → Mark → Turn
turn Fresh m =
    elim m.token [
      | Byte b ↦ On (Targets m.start)
      | Blank ↦ On Fresh
      | Colon ↦ Stops (met_at m.last (NoTarget m.start))
      | Hash ↦ On Comment
      | Dollar ↦ lone m
      | Newline ↦ On Fresh
    ]
turn Comment m =
    elim m.token
    [ Byte b ↦ On Comment | Blank ↦ On Comment | Colon ↦ On Comment | Hash ↦ On Comment | Dollar ↦ On Comment | Newline ↦ On Fresh ]
turn (Targets first) m =
    elim m.token [
      | Byte b ↦ On (Targets first)
      | Blank ↦ On (Targets first)
      | Colon ↦ On Between
      | Hash ↦ On (Targets first)
      | Dollar ↦ lone m
      | Newline ↦ Stops (met_at m.last (NoColon first))
    ]
turn Between m =
    elim m.token [
      | Byte b ↦ On (Inside m.start (b ∷ []))
      | Blank ↦ On Between
      | Colon ↦ On (Inside m.start (58 ∷ []))
      | Hash ↦ On (Inside m.start (35 ∷ []))
      | Dollar ↦ lone m
      | Newline ↦ On Fresh
    ]
turn (Inside start bytes) m =
    elim m.token [
      | Byte b ↦ On (Inside start (grown bytes b))
      | Blank ↦ Closes start bytes m.last Between
      | Colon ↦ On (Inside start (grown bytes 58))
      | Hash ↦ On (Inside start (grown bytes 35))
      | Dollar ↦ lone m
      | Newline ↦ Closes start bytes m.last Fresh
    ]

-- a path before others
abbrev pub path_and_more : ℕ → List ℕ → ℕ → Result (List (List ℕ)) Met → Result (List (List ℕ)) Met
path_and_more start bytes met more = path_from start bytes met >>= λ path. more >>= λ paths. Ok (path ∷ paths)

abbrev pub follow : Turn → (LexState → Result (List (List ℕ)) Met) → Result (List (List ℕ)) Met
follow (On lex_state) next = next lex_state
follow (Closes start bytes met lex_state) next = path_and_more start bytes met (next lex_state)
follow (Stops m) next = Err m

-- the end of a text
abbrev pub ends : ℕ → LexState → Result (List (List ℕ)) Met
ends stop Fresh = Ok []
ends stop Comment = Ok []
ends stop (Targets first) = Err (met_at stop (NoColon first))
ends stop Between = Ok []
ends stop (Inside start bytes) = path_and_more start bytes stop (Ok [])

-- the paths of a text that continues with these tokens and ends at `stop`
abbrev pub go : ℕ → LexState → List Mark → Result (List (List ℕ)) Met
go stop lex_state [] = ends stop lex_state
go stop lex_state (m ∷ more) = follow (turn lex_state m) (λ next. go stop next more)
