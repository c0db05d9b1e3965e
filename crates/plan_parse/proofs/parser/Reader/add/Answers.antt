use Rattle.std.proofs.Common.{◌++◌, ◌∷◌, [], List, Ok, Result, ap, map, sym, ◌∙◌}
use Rattle.plan_text.specs.Outcome.{◌>>=◌}
use Rattle.plan_parse.specs.Kinds.{Statement}
use Rattle.plan_parse.specs.declared.fault.ParseFault.{ParseFault}
use Rattle.plan_parse.specs.declared.block.BlockLine.{BlockLine}
use Rattle.plan_parse.specs.BlockLines.{block_lines_of}
use Rattle.plan_parse.specs.Statements.{statement_of}
use Rattle.plan_parse.specs.Views.{place_of}
use Rattle.plan_parse.specs.Compact.{said_in}
use Rattle.plan_parse.proofs.KeptLemmas.{all_last, said_more}
use Rattle.plan_parse.proofs.parser.Reader.add.Goals as goal

pub returns-clause-statements : goal.returns-clause-statements
returns-clause-statements c =
    let old = c.args.self.now in
    let done : List Statement = map (said_in old.text.now old.lists) old.statements.items in
    ap (λ (v : List BlockLine). (statement_of (place_of c.args.head) (block_lines_of v) >>= λ s. Ok (s ∷ [])) >>= λ last. Ok (done ++ last)) (sym c.deref.ensures.value)
    ∙ ap (λ (r : Result Statement ParseFault). (r >>= λ s. Ok (s ∷ [])) >>= λ last. Ok (done ++ last)) c.in_ok-statement.ensures.read
    ∙ ap (λ (v : List Statement). Ok v) (said_more old.text.now old.lists c.statement_of.new.lists old.statements.items c.push.new.self.items c.in_ok-statement.statement c.in_ok-push.ensures.items c.requires.kept c.in_ok-statement.ensures.follows)

pub returns-clause-kept : goal.returns-clause-kept
returns-clause-kept c =
    let old = c.args.self.now in
    all_last old.text.now old.lists c.statement_of.new.lists old.statements.items c.push.new.self.items c.in_ok-statement.statement c.in_ok-push.ensures.items c.requires.kept c.in_ok-statement.ensures.follows c.in_ok-statement.ensures.lasts
