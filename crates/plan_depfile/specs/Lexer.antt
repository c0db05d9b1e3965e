-- The result of a lexer in the middle of a depfile, given the bytes that follow.
use Rattle.std.specs.Prelude.{◌≡◌, ◌≢◌, ℕ, ◌+◌, nat_lt, List, [], ◌∷◌, ◌++◌, length, Result, Ok, Err, Option, Some, None}
use Rattle.plan_depfile.specs.declared.fault.DepFault.{DepFault}
use Rattle.plan_depfile.specs.declared.state.Lexer.{Lexer}
use Rattle.plan_depfile.specs.declared.state.Held.{Held}
use Rattle.plan_depfile.specs.declared.state.Held.TheVariants as held
use Rattle.plan_depfile.specs.declared.state.LexState.{LexState as RustStand}
use Rattle.plan_depfile.specs.declared.state.LexState.TheVariants as lex_state
use Rattle.plan_depfile.specs.Tokens.{Mark, marks_past}
use Rattle.plan_depfile.specs.Depfile.{Met, with_paths, most, within}
use Rattle.plan_depfile.specs.PathSets.{all_found}
use Rattle.plan_text.specs.Outcome.{◌>>=◌}
use Rattle.plan_depfile.specs.LexerRun.{LexState, Fresh, Comment, Targets, Between, Inside, go}

-- the pending bytes: they were read, but not yet parsed
abbrev pub bytes_of : Held → List ℕ
bytes_of held.Nothing = []
bytes_of held.Backslash = 92 ∷ []
bytes_of held.BackslashReturn = 92 ∷ 13 ∷ []
bytes_of held.Dollar = 36 ∷ []
bytes_of held.Return = 13 ∷ []

-- the state in a line, with the bytes of the current path
abbrev pub stand_at : RustStand → List ℕ → LexState
stand_at lex_state.Fresh word = Fresh
stand_at lex_state.Comment word = Comment
stand_at (lex_state.Targets start) word = Targets start
stand_at lex_state.Between word = Between
stand_at (lex_state.Inside start) word = Inside start word

-- the paths found so far
abbrev pub paths_found : Lexer → List (List ℕ)
paths_found m = all_found m.paths

abbrev pub within_limit : ℕ → Result (List (List ℕ)) Met → Result (List (List ℕ)) DepFault
within_limit stop r = within (nat_lt most stop) r

-- the result, if these paths were found before, and then more of them, or a fault, up to `stop`
abbrev pub found_after : List (List ℕ) → ℕ → Result (List (List ℕ)) Met → Result (List (List ℕ)) DepFault
found_after paths stop more = within_limit stop (more >>= λ more. Ok (with_paths paths more))

-- the result of a text that continues with these tokens and ends at `stop`, after the paths found so far
abbrev pub found_with : List (List ℕ) → LexState → ℕ → List Mark → Result (List (List ℕ)) DepFault
found_with paths lex_state stop marks = found_after paths stop (go stop lex_state marks)

-- the same, unless there already is a fault
abbrev pub unless : Option DepFault → Result (List (List ℕ)) DepFault → Result (List (List ℕ)) DepFault
unless (Some fault) r = Err fault
unless None r = r

-- the result of a text that continues with these tokens and ends at `stop`
abbrev pub outcome : Lexer → ℕ → List Mark → Result (List (List ℕ)) DepFault
outcome m stop marks = unless m.fault (found_with (paths_found m) (stand_at m.lex_state m.word.items) stop marks)

-- the result if these bytes follow
abbrev pub answer : Lexer → List ℕ → Result (List (List ℕ)) DepFault
answer m rest = outcome m (m.at + length (bytes_of m.held ++ rest)) (marks_past m.at (bytes_of m.held ++ rest) 0)

-- one more token was taken
abbrev pub TakesSign : Lexer → Mark → Lexer → Type 0
TakesSign old m new = (stop : ℕ) (marks : List Mark) → outcome new stop marks ≡ outcome old stop (m ∷ marks)

-- one more byte was taken
abbrev pub TakesByte : Lexer → ℕ → Lexer → Type 0
TakesByte old b new = (rest : List ℕ) → answer new rest ≡ answer old (b ∷ rest)

-- a byte that is a token by itself
abbrev pub IsAlone : ℕ → Type 0
IsAlone b = (b ≢ 92) × (b ≢ 36) × (b ≢ 13)
