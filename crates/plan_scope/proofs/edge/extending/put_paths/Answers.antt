use Rattle.plan_scope.specs.declared.edge.edge_list.PathPlaces.{PathPlaces}
use Rattle.plan_scope.proofs.ExtendingLemmas.{AreCounts, ArePut, paths_put}
use Rattle.plan_scope.proofs.edge.extending.put_paths.Goals as goal

pub returns-clause-paths : goal.returns-clause-paths
returns-clause-paths c =
    let q : PathPlaces = record { outputs = c.in_ok-first.first; implicit_outputs = c.in_ok-second.second; inputs = c.in_ok-third.third; implicit_inputs = c.in_ok-fourth.fourth; order_only_inputs = c.in_ok-fifth.fifth; end = c.in_ok-end.end } in
    let put : ArePut c.args.rows.now c.args.old c.args.addition.now c.copy_list.new.rows c.put_list.new.rows c.copy_list-2.new.rows c.put_list-2.new.rows c.put_list-3.new.rows =
    record { outputs = c.in_ok-second.ensures.rows; implicit_outputs = c.in_ok-third.ensures.rows; inputs = c.in_ok-fourth.ensures.rows; implicit_inputs = c.in_ok-fifth.ensures.rows; order_only_inputs = c.in_ok-end.ensures.rows } in
    let count : AreCounts c.args.rows.now c.copy_list.new.rows c.put_list.new.rows c.copy_list-2.new.rows c.put_list-2.new.rows c.put_list-3.new.rows q =
    record { outputs = c.in_ok-first.ensures; implicit_outputs = c.in_ok-second.ensures.count; inputs = c.in_ok-third.ensures.count; implicit_inputs = c.in_ok-fourth.ensures.count; order_only_inputs = c.in_ok-fifth.ensures.count; end = c.in_ok-end.ensures.count } in
    (paths_put _ _ _ _ _ _ c.args.old q c.args.addition.now c.requires put count).0

pub returns-clause-more : goal.returns-clause-more
returns-clause-more c =
    let q : PathPlaces = record { outputs = c.in_ok-first.first; implicit_outputs = c.in_ok-second.second; inputs = c.in_ok-third.third; implicit_inputs = c.in_ok-fourth.fourth; order_only_inputs = c.in_ok-fifth.fifth; end = c.in_ok-end.end } in
    let put : ArePut c.args.rows.now c.args.old c.args.addition.now c.copy_list.new.rows c.put_list.new.rows c.copy_list-2.new.rows c.put_list-2.new.rows c.put_list-3.new.rows =
    record { outputs = c.in_ok-second.ensures.rows; implicit_outputs = c.in_ok-third.ensures.rows; inputs = c.in_ok-fourth.ensures.rows; implicit_inputs = c.in_ok-fifth.ensures.rows; order_only_inputs = c.in_ok-end.ensures.rows } in
    let count : AreCounts c.args.rows.now c.copy_list.new.rows c.put_list.new.rows c.copy_list-2.new.rows c.put_list-2.new.rows c.put_list-3.new.rows q =
    record { outputs = c.in_ok-first.ensures; implicit_outputs = c.in_ok-second.ensures.count; inputs = c.in_ok-third.ensures.count; implicit_inputs = c.in_ok-fourth.ensures.count; order_only_inputs = c.in_ok-fifth.ensures.count; end = c.in_ok-end.ensures.count } in
    (paths_put _ _ _ _ _ _ c.args.old q c.args.addition.now c.requires put count).2
