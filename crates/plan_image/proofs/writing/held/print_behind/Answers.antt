use Rattle.std.proofs.Common.{◌++◌, ℕ, List, true, false, ap, ◌∙◌}
use Rattle.std.proofs.lemmas.List.{append-nil}
use Rattle.std.proofs.lemmas.Result.{err_from_is_err_and}
use Rattle.plan_image.proofs.writing.held.print_behind.Goals as goal

pub returns-in_err-write_all : goal.returns-in_err-write_all
returns-in_err-write_all g c =
    let p = err_from_is_err_and c.from_residual-in_err-write_all.result c.from_residual-in_err-write_all.ensures.1 in
    rw p.1 (c.writes_join.ensures.join false
    (g.W.Sink.failures c.args.out.now, g.W.Sink.taken c.args.out.now)
    (g.W.Sink.failures c.hand_on.new.out, g.W.Sink.taken c.hand_on.new.out)
    (g.W.Sink.failures c.write_all.new.sink, g.W.Sink.taken c.write_all.new.sink)
    c.args.held.now.items c.args.bytes.now c.in_ok-hand_on.ensures.written c.in_err-write_all.ensures)

pub returns : goal.returns
returns g c =
    let all : List ℕ = c.args.held.now.items ++ c.args.bytes.now in (
      all,
      ap (λ (v : List ℕ). all ++ v) c.in_ok-hand_on.ensures.emptied ∙ append-nil all,
      c.writes_join.ensures.join true
          (g.W.Sink.failures c.args.out.now, g.W.Sink.taken c.args.out.now)
          (g.W.Sink.failures c.hand_on.new.out, g.W.Sink.taken c.hand_on.new.out)
          (g.W.Sink.failures c.write_all.new.sink, g.W.Sink.taken c.write_all.new.sink)
          c.args.held.now.items c.args.bytes.now c.in_ok-hand_on.ensures.written c.in_ok-write_all.ensures,
    )
