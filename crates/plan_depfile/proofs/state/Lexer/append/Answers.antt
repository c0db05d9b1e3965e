use Rattle.std.proofs.Common.{◌≡◌, ◌-◌, ◌++◌, ℕ, List, length, take, min, ap, sym, ◌∙◌, refl, arith}
use Rattle.std.proofs.lemmas.List.{take_min}
use Rattle.plan_depfile.specs.Lexer.{stand_at}
use Rattle.plan_depfile.specs.Runs.{past_run}
use Rattle.plan_depfile.proofs.RunLemmas.{run_of_path, run_elsewhere}
use Rattle.plan_depfile.proofs.state.Lexer.append.Goals as goal

pub returns-in_ok-extend_from_slice-clause-lex_state : goal.returns-in_ok-extend_from_slice-clause-lex_state
returns-in_ok-extend_from_slice-clause-lex_state c =
    let word = c.args.self.now.word.items in
    let run = c.args.run.now in
    let fits : c.min.result ≡ min (4097 - length word) (length run) = grind (arith, c.min.ensures, c.saturating_sub-room.ensures, c.len.ensures) in
    let front : c.split_at.result.0.now ≡ take (4097 - length word) run = c.split_at.ensures.front ∙ ap (λ (k : ℕ). take k run) fits ∙ take_min (4097 - length word) run in
    ap (λ (w : List ℕ). stand_at c.args.self.now.lex_state w) (c.in_ok-extend_from_slice.ensures.items ∙ ap (λ (r : List ℕ). word ++ r) front)
    ∙ ap (λ s. stand_at s (word ++ take (4097 - length word) run)) c.in-Inside.is
    ∙ sym (run_of_path c.in-Inside.field-0 word run)
    ∙ sym (ap (λ s. past_run (stand_at s word) run) c.in-Inside.is)

pub returns-in_default : goal.returns-in_default
returns-in_default c = record {
  lex_state = run_elsewhere c.args.self.now.lex_state c.args.self.now.word.items c.args.run.now c.in_default.not-Inside;
  same = refl;
  keys = refl;
  memory = tt;
}
