use Rattle.std.proofs.Common.{sym, arith}
use Rattle.plan_verify.proofs.PlaceChecksLemmas.{passes_by, is_out, clashes_here, fits_here}
use Rattle.plan_verify.proofs.place_checks.clashes.Goals as goal
use Rattle.plan_verify.proofs.place_checks.clashes.Goals.{in-Some+in-Some-peek+else-not-is_kind, in_default}

pub returns-then-not-is_kind : goal.returns-then-not-is_kind
returns-then-not-is_kind c =
    clashes_here c.args.wanted.now c.args.kinds.now c.loop-want.want-index c.loop-want.depth _ c.loop-want-test.true c.loop-want.invariant.rest c.in-Some.want c.in-Some-peek.kind c.in-Some.is (sym c.in-Some-peek.ensures) (sym c.if-not-is_kind.ensures)

pub returns-in-None : goal.returns-in-None
returns-in-None c =
    is_out c.args.wanted.now c.args.kinds.now c.loop-want.want-index c.loop-want.depth _ c.loop-want-test.true c.loop-want.invariant.rest c.in-Some.want c.in-Some.is (sym c.in-None.ensures)

pub loop-want-preserved : goal.loop-want-preserved
loop-want-preserved c =
    elim c.match-want.branch [
      | in-Some+in-Some-peek+else-not-is_kind w ↦ record {
        rest = rw w.depth-is (fits_here c.args.wanted.now c.args.kinds.now c.loop-want.want-index c.loop-want.depth _ c.loop-want-test.true c.loop-want.invariant.rest w.in-Some.want w.in-Some-peek.kind w.in-Some.is (sym w.in-Some-peek.ensures) (sym w.if-not-is_kind.ensures));
        few = omega arith;
      }
      | in_default w ↦ record {
        rest = rw w.depth-is (passes_by c.args.wanted.now c.args.kinds.now c.loop-want.want-index c.loop-want.depth _ c.loop-want-test.true c.loop-want.invariant.rest w.in_default.is);
        few = omega arith;
      }
    ]
