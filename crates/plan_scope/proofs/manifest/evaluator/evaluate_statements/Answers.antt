use Rattle.std.proofs.Common.{[]}
use Rattle.plan_scope.specs.Edges.{manifest_past, with_front}
use Rattle.plan_scope.specs.Evaluation.{manifest_in}
use Rattle.plan_scope.proofs.EvaluatorLemmas.{next_given, fault_given}
use Rattle.plan_scope.proofs.manifest.evaluator.evaluate_statements.Goals as goal

pub loop-statement-preserved : goal.loop-statement-preserved
loop-statement-preserved c =
    let all = c.args.tree.now in
    let at = c.loop-statement in
    let inv = at.invariant in
    let meant = with_front (manifest_in c.args.so_far) (manifest_past all [] all) in (
      c.in-Ok.ensures.fits at.yielded inv.0,
      next_given all at.yielded c.in-Some.statement at.statement-iterator c.next.new.self (manifest_in at.so_far) (manifest_in c.add_statement.new.so_far) meant c.in-Some.ensures.steps
          (c.in-Ok.ensures.given all at.yielded inv.0 c.requires.1) inv.1,
      c.in-Ok.ensures.found,
    )

pub returns-in-Err-clause-given : goal.returns-in-Err-clause-given
returns-in-Err-clause-given c =
    let all = c.args.tree.now in
    let at = c.loop-statement in
    let inv = at.invariant in
    let meant = with_front (manifest_in c.args.so_far) (manifest_past all [] all) in
    fault_given all at.yielded c.in-Some.statement at.statement-iterator c.next.new.self (manifest_in at.so_far) (manifest_in c.add_statement.new.so_far) meant c.in-Err.fault c.fault_at.result c.in-Some.ensures.steps
    (c.in-Err.ensures.given all at.yielded inv.0 c.requires.1) inv.1 c.fault_at.ensures
