use Rattle.std.proofs.Common.{[], ap, ◌∙◌, arith}
use Rattle.std.proofs.lemmas.Bool.Decides.{nat_tests}
use Rattle.plan_depfile.specs.Lexer.{unless, found_with, stand_at}
use Rattle.plan_depfile.specs.PathSets.{all_found}
use Rattle.plan_depfile.specs.Depfile.{with_path, canonical_word}
use Rattle.plan_depfile.proofs.LexerLemmas.{closes}
use Rattle.plan_depfile.proofs.state.Lexer.close.Goals as goal

pub returns-in_ok-add_word-clause-takes : goal.returns-in_ok-add_word-clause-takes
returns-in_ok-add_word-clause-takes c stop marks =
    let old = c.args.self.now in
    let new_found = all_found c.add_word.new.paths in
    ap (λ fault. unless fault (found_with new_found (stand_at c.args.next old.word.items) stop marks)) c.requires.fault
    ∙ closes (all_found old.paths) new_found c.args.start old.word.items c.args.last (stand_at c.args.next old.word.items) (stand_at c.args.next [])
    (grind (arith, nat_tests, c.if-len-gt-MAX_PATH.false, c.len.ensures)) (c.in_ok-add_word.ensures.added ∙ ap (λ word. with_path (all_found old.paths) (canonical_word word)) c.deref.ensures.value) (c.requires.outside old.word.items) stop marks
