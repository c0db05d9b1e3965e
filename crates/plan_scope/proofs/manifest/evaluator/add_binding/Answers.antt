use Rattle.std.proofs.Common.{◌++◌, ap, arith, length, subst}
use Rattle.plan_parse.specs.Kinds.{StatementKind}
use Rattle.plan_scope.specs.Scopes.{bound_by, bound_in}
use Rattle.plan_scope.specs.Edges.{manifest_of_kind, empty_manifest}
use Rattle.plan_scope.specs.Evaluation.{manifest_in}
use Rattle.plan_scope.specs.Kept.{KeptEqScoped}
use Rattle.plan_scope.proofs.EvaluatorLemmas.{known_more, names_end, nothing_behind, same_end}
use Rattle.plan_scope.proofs.manifest.evaluator.add_binding.Goals as goal

pub returns-clause-given : goal.returns-clause-given
returns-clause-given c = λ all above. (
  empty_manifest,
  ap (λ (k : StatementKind). manifest_of_kind all above c.args.statement.now.scopes k) c.requires.1,
  nothing_behind (manifest_in c.args.so_far.now),
)

pub returns-clause-fits : goal.returns-clause-fits
returns-clause-fits c = λ above fits.
    let e = c.args.so_far.now in
    let l = c.args.statement.now in
    let k = known_more c.bind_statement.new.bound e.rules e.rules e.pool_names e.pool_names (length e.edges.marks.items) (length e.edges.marks.items) above l _ c.requires.1
    (subst (λ (k : StatementKind). KeptEqScoped c.bind_statement.new.bound (bound_by above ++ bound_in (bound_by above) l.scopes k)) c.requires.1 (c.in_ok-bind_statement.ensures.bound (bound_by above) fits.bound))
    fits.rules (same_end e.rules) fits.names (names_end e.pool_names) fits.count (omega arith) in
    record { bound = k.0; rules = k.1; names = k.2; count = k.3; within = fits.within }
