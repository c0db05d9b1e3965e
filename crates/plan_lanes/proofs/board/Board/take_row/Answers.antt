use Rattle.std.proofs.Common.{◌≡◌, ◌<◌, List, ℕ, take, arith, subst}
use Rattle.std.proofs.lemmas.List.{take_all}
use Rattle.plan_lanes.specs.LocalRuns.{SweepsRow}
use Rattle.plan_lanes.proofs.LocalRunLemmas.{goes_none}
use Rattle.plan_lanes.proofs.board.Board.take_row.Goals as goal

pub returns-in_err-count-clause-goes : goal.returns-in_err-count-clause-goes
returns-in_err-count-clause-goes g c = goes_none c.args.self.now c.record_row.new.self c.in_err-count.ensures.err

pub returns-clause-none : goal.returns-clause-none
returns-clause-none g c none =
    let row = c.args.row in
    let count : ℕ = c.in_ok-count.count in
    let some : 0 < count = omega (arith, c.if-count-eq0.false) in
    let all : take count row.stamps ≡ row.stamps = take_all count row.stamps (c.into_reply-2.ensures.none none) in
    (subst (λ (l : List ℕ). SweepsRow c.args.self.now c.record_row.new.self row.edge l) all c.in_ok-count.ensures.ok, c.in_ok-count.ensures.asks some, c.in_ok-count.ensures.awaited some)
