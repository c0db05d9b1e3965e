-- A saved state of a lexer.
use Rattle.std.specs.Prelude.{◌≡◌, [], length}
use Rattle.plan_depfile.specs.declared.state.Lexer.{Lexer}
use Rattle.plan_depfile.specs.declared.state.Saved.{Saved}

-- the saved state is that of the lexer
pub record IsSaved (m : Lexer) (saved : Saved) : Type 0 where
  pub word : saved.word.items ≡ m.word.items
  pub paths : saved.paths ≡ length m.paths.listed
  pub settled : m.paths.waiting ≡ []
  pub at : saved.at ≡ m.at
  pub held : saved.held ≡ m.held
  pub lex_state : saved.lex_state ≡ m.lex_state
  pub fault : saved.fault ≡ m.fault
