use Rattle.std.proofs.Common.{◌+◌, [], ap, sym, ◌∙◌, Ok, arith}
use Rattle.std.proofs.lemmas.Bool.Decides.{nat_tests}
use Rattle.plan_depfile.specs.Lexer.{unless, found_with, stand_at}
use Rattle.plan_depfile.specs.PathSets.{all_found}
use Rattle.plan_depfile.specs.Depfile.{with_path, canonical_word}
use Rattle.plan_depfile.proofs.LexerLemmas.{ends_inside}
use Rattle.plan_depfile.proofs.state.Lexer.end.Goals as goal

pub returns-in_ok-add_word-in-Inside-clause-takes : goal.returns-in_ok-add_word-in-Inside-clause-takes
returns-in_ok-add_word-in-Inside-clause-takes c =
    let old = c.args.self.now in
    let new_found = all_found c.add_word.new.paths in
    ap (λ fault. unless fault (Ok new_found)) c.requires.fault
    ∙ ends_inside (all_found old.paths) new_found c.in-Inside.start old.word.items old.at (grind (arith, nat_tests, c.if-len-gt-MAX_PATH.false, c.len.ensures))
    (c.in_ok-add_word-in-Inside.ensures.added ∙ ap (λ word. with_path (all_found old.paths) (canonical_word word)) c.deref.ensures.value) c.requires.within
    ∙ ap (λ s. found_with (all_found old.paths) (stand_at s old.word.items) (old.at + 0) []) (sym c.in-Inside.is)
