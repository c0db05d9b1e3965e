use Rattle.std.proofs.Common.{◌+◌, drop, subst, take}
use Rattle.plan_image.specs.declared.image.Parts.{Parts}
use Rattle.plan_machine.specs.Sweeping.{SweepsRow}
use Rattle.plan_machine.proofs.SweptRowLemmas.{next_so, row_runs, row_so, state_row, to_asked}
use Rattle.plan_machine.proofs.run.state.State.sweep_row.Goals as goal

pub returns-clause-row : goal.returns-clause-row
returns-clause-row c =
    let old = c.args.self.now.run_state in
    let new = c.merge_row.new.self.run_state in
    let paths = drop c.args.from c.args.paths.now in
    let stamps = take c.merge_row.result c.args.stamps.now in
    row_so c.args.image.now old new c.args.edge paths stamps (subst (λ (p : Parts). SweepsRow p old c.args.edge paths stamps new) c.image-tables.ensures.same c.merge_row.ensures.row)

pub returns-clause-runs : goal.returns-clause-runs
returns-clause-runs c =
    let old = c.args.self.now.run_state in
    let new = c.merge_row.new.self.run_state in
    let paths = drop c.args.from c.args.paths.now in
    let stamps = take c.merge_row.result c.args.stamps.now in
    row_runs c.args.image.now c.args.edge paths stamps old new
    (row_so c.args.image.now old new c.args.edge paths stamps (subst (λ (p : Parts). SweepsRow p old c.args.edge paths stamps new) c.image-tables.ensures.same c.merge_row.ensures.row))

pub returns-clause-next : goal.returns-clause-next
returns-clause-next c to =
    let old = c.args.self.now.run_state in
    let new = c.merge_row.new.self.run_state in
    let row = subst (λ (p : Parts). SweepsRow p old c.args.edge (drop c.args.from c.args.paths.now) (take c.merge_row.result c.args.stamps.now) new) c.image-tables.ensures.same c.merge_row.ensures.row in
    next_so c.args.image.now old new c.args.edge c.args.from c.merge_row.result c.args.paths.now c.args.stamps.now c.merge_row.ensures.most row to

pub returns-clause-asked : goal.returns-clause-asked
returns-clause-asked c to path at =
    let old = c.args.self.now.run_state in
    let new = c.merge_row.new.self.run_state in
    let row = subst (λ (p : Parts). SweepsRow p old c.args.edge (drop c.args.from c.args.paths.now) (take c.merge_row.result c.args.stamps.now) new) c.image-tables.ensures.same c.merge_row.ensures.row in
    to_asked c.args.image.now new.now c.args.edge c.args.paths.now (c.args.from + c.merge_row.result)
    (next_so c.args.image.now old new c.args.edge c.args.from c.merge_row.result c.args.paths.now c.args.stamps.now c.merge_row.ensures.most row to) path at

pub returns-clause-state : goal.returns-clause-state
returns-clause-state c =
    let old = c.args.self.now in
    let new = c.merge_row.new.self in
    let paths = drop c.args.from c.args.paths.now in
    let stamps = take c.merge_row.result c.args.stamps.now in
    state_row c.args.image.now old new c.args.edge paths stamps (subst (λ (p : Parts). SweepsRow p old.run_state c.args.edge paths stamps new.run_state) c.image-tables.ensures.same c.merge_row.ensures.row)
    c.requires c.merge_row.ensures.plan c.merge_row.ensures.schedule c.merge_row.ensures.total
