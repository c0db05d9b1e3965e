-- Plain bytes of a depfile, which are read as a run.
use Rattle.std.specs.Prelude.{ℕ, nat_lt, ◌==◌, ◌&&◌, not, Bool, List, [], ◌∷◌}
use Rattle.plan_depfile.specs.LexerRun.{LexState, Fresh, Comment, Targets, Between, Inside, grown}

-- bytes above `$` that stand for themselves, whatever follows
abbrev pub is_plain : ℕ → Bool
is_plain b = nat_lt 36 b && not (b == 58) && not (b == 92)

-- states in which plain bytes change only the current path
abbrev pub IsSteady : LexState → Type 0
IsSteady Fresh = ⊥
IsSteady Comment = Unit {0}
IsSteady (Targets first) = Unit {0}
IsSteady Between = ⊥
IsSteady (Inside start word) = Unit {0}

abbrev pub past_plain : LexState → ℕ → LexState
past_plain Fresh b = Fresh
past_plain Comment b = Comment
past_plain (Targets first) b = Targets first
past_plain Between b = Between
past_plain (Inside start word) b = Inside start (grown word b)

-- the state of a lexer after a run of plain bytes
abbrev pub past_run : LexState → List ℕ → LexState
past_run lex_state [] = lex_state
past_run lex_state (b ∷ run) = past_run (past_plain lex_state b) run
