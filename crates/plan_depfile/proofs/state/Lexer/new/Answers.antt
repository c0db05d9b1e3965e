use Rattle.std.proofs.Common.{ap}
use Rattle.plan_depfile.specs.PathSets.{all_found}
use Rattle.plan_depfile.proofs.LexerLemmas.{begins}
use Rattle.plan_depfile.proofs.state.Lexer.new.Goals as goal

pub returns-clause-read : goal.returns-clause-read
returns-clause-read c = begins _ (ap all_found c.new-2.ensures)
