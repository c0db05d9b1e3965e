use Rattle.std.proofs.Common.{◌∙◌, true, [], Result, Err, ap, subst, sym}
use Rattle.std.proofs.lemmas.Result.{err_from_is_err_and}
use Rattle.plan_scope.specs.declared.edge.paths.PathTexts.{PathTexts}
use Rattle.plan_scope.specs.declared.fault.Cause.{Cause}
use Rattle.plan_scope.specs.declared.edge.edge_list.EdgeRows.{EdgeRows}
use Rattle.plan_scope.specs.Edge.{Edge}
use Rattle.plan_scope.specs.Edges.{edge_or_refusal, phony_variables, environment_of}
use Rattle.plan_scope.specs.EdgeAnswers.{GivesEdge}
use Rattle.plan_scope.specs.Parts.{IsRead, parts_with}
use Rattle.plan_scope.specs.ScopeNames.{names_in}
use Rattle.plan_scope.proofs.EdgeRowLemmas.{edge_given, marks_refused}
use Rattle.plan_scope.proofs.VariableLemmas.{alike_read, edge_held, found_alike_phony}
use Rattle.plan_scope.proofs.edge.build_line.push_edge_without_lines.Goals as goal

pub returns-clause-edge : goal.returns-clause-edge
returns-clause-edge c = λ names h f s k l within.
    let b = c.args.build.now in
    let block = c.in_ok-block.block in
    let places = c.in_ok-block.places in
    let parts = parts_with block c.new-read.result in
    let read = subst (λ (r : PathTexts). IsRead h b (parts_with block r)) (sym c.new-read.ensures) (c.in_ok-block.ensures.parts h k) in
    let alike = alike_read h f b parts c.args.rule.now [] (names_in c.args.file) _ read c.requires l c.environment_with-environment.ensures in
    let same = found_alike_phony _ _ _ c.in_ok-variables.ensures alike in
    let held = edge_held c.args.pools.now names h b parts c.in_ok-variables.variables (phony_variables (environment_of h f b [])) true s read same in
    let meant : Result Edge Cause = edge_or_refusal names h b (phony_variables (environment_of h f b [])) true in
    let now : EdgeRows = record { paths = c.read_parts.new.read; texts = c.marks_or_refusal-marks.new.texts; marks = c.push.new.self; spare = c.keep_room.new.spare } in
    edge_given c.args.edges.now now c.new-read.result places c.in_ok-marks.field-0 _ meant c.in_ok-block.ensures.more c.in_ok-block.ensures.placed c.new-read.ensures (c.in_ok-marks.ensures within.empty) held c.in_ok-push.ensures.items within

pub returns-in_err-marks-clause-edge : goal.returns-in_err-marks-clause-edge
returns-in_err-marks-clause-edge c = λ names h f s k l within.
    let b = c.args.build.now in
    let block = c.in_ok-block.block in
    let places = c.in_ok-block.places in
    let parts = parts_with block c.new-read.result in
    let read = subst (λ (r : PathTexts). IsRead h b (parts_with block r)) (sym c.new-read.ensures) (c.in_ok-block.ensures.parts h k) in
    let alike = alike_read h f b parts c.args.rule.now [] (names_in c.args.file) _ read c.requires l c.environment_with-environment.ensures in
    let same = found_alike_phony _ _ _ c.in_ok-variables.ensures alike in
    let held = edge_held c.args.pools.now names h b parts c.in_ok-variables.variables (phony_variables (environment_of h f b [])) true s read same in
    let meant : Result Edge Cause = edge_or_refusal names h b (phony_variables (environment_of h f b [])) true in
    let p = err_from_is_err_and c.from_residual-in_err-marks.result c.from_residual-in_err-marks.ensures.1 in
    let now : EdgeRows = record { paths = c.read_parts.new.read; texts = c.marks_or_refusal-marks.new.texts; marks = c.args.edges.now.marks; spare = c.keep_room.new.spare } in
    subst (λ r. GivesEdge c.args.edges.now now r meant) (sym (p.1 ∙ ap (λ e. Err e) p.2)) (marks_refused c.new-read.result.paths places c.args.edges.now.texts c.marks_or_refusal-marks.new.texts c.args.edges.now now _ _ meant held (c.in_err-marks.ensures within.empty))

pub returns-in_err-push-clause-edge : goal.returns-in_err-push-clause-edge
returns-in_err-push-clause-edge c = λ names h f s k l within.
    let b = c.args.build.now in
    let meant : Result Edge Cause = edge_or_refusal names h b (phony_variables (environment_of h f b [])) true in
    let p = err_from_is_err_and c.from_residual-in_err-push.result c.from_residual-in_err-push.ensures.1 in
    let now : EdgeRows = record { paths = c.read_parts.new.read; texts = c.marks_or_refusal-marks.new.texts; marks = c.push.new.self; spare = c.keep_room.new.spare } in
    subst (λ r. GivesEdge c.args.edges.now now r meant) (sym (p.1 ∙ ap (λ e. Err e) p.2)) (tt {0})
