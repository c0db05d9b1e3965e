use Rattle.std.proofs.Common.{◌≤◌, ◌<◌, ◌+◌, ap, ◌∙◌, length, arith}
use Rattle.std.specs.List.{prefix_len}
use Rattle.plan_depfile.specs.Runs.{is_plain, past_run}
use Rattle.plan_depfile.specs.Lexer.{stand_at, paths_found}
use Rattle.plan_depfile.proofs.RunLemmas.{run_answered}
use Rattle.plan_depfile.proofs.state.Lexer.run.Goals as goal

pub returns-clause-takes : goal.returns-clause-takes
returns-clause-takes c rest =
    let some : 0 < c.room-room.result = omega (arith, c.if-room-eq0.false) in
    let n = c.min-len.result in
    let same = c.in_ok-append.ensures.same in
    let plain : n ≤ prefix_len is_plain c.args.text.now = omega (arith, c.min-len.ensures, c.plain_len.ensures.len) in
    let within : n ≤ length c.args.text.now = omega (arith, c.min-len.ensures, c.plain_len.ensures.within) in
    run_answered c.args.self.now (record c.append.new.self { at = c.append.new.self.at + n }) n c.args.text.now rest (c.room-room.ensures.held some) (c.room-room.ensures.steady some) plain within
    (ap (λ m. m.held) same) (ap (λ m. m.fault) same) (ap (λ m. m.at + n) same) (ap (λ m. paths_found m) same)
    (c.in_ok-append.ensures.lex_state ∙ ap (λ run. past_run (stand_at c.args.self.now.lex_state c.args.self.now.word.items) run) c.split_at.ensures.front)
