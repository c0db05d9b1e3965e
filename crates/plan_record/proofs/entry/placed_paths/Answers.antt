use Rattle.std.proofs.Common.{◌+◌, ◌-◌, ℕ, List, length, ◌∙◌, ap, drop, arith}
use Rattle.plan_record.specs.Heads.{head_data}
use Rattle.plan_record.specs.Paths.{paths_in}
use Rattle.plan_record.specs.Reading.{Head}
use Rattle.plan_record.proofs.PlacedLemmas.{paths_there, paths_behind}
use Rattle.plan_record.proofs.entry.placed_paths.Goals as goal

pub overflow_add-front-2 : goal.overflow_add-front-2
overflow_add-front-2 c =
    let there = paths_there c.args.bytes.now c.args.start (λ i. omega (arith, c.type_inv.bytes i)) c.requires in
    let output = ap (λ (h : Head). length h.output) c.placed_head-head.ensures in
    let command = ap (λ (h : Head). length h.command) c.placed_head-head.ensures in
    omega (arith, there.few_output, there.few_command, output, command)

pub returns-clause-there : goal.returns-clause-there
returns-clause-there c =
    let place = ap (λ (b : List ℕ). length c.args.bytes.now - length b) (c.bytes_from-paths.ensures ∙ ap (λ (b : List ℕ). drop (22 + length c.placed_head-head.result.output.now + length c.placed_head-head.result.command.now) b) c.bytes_from.ensures) in
    let behind = paths_behind c.args.bytes.now c.args.start (head_data c.placed_head-head.result) _ (λ i. omega (arith, c.type_inv.bytes i)) c.requires c.placed_head-head.ensures place in
    ((_, behind.rest), behind.read)

pub returns-clause-paths : goal.returns-clause-paths
returns-clause-paths c =
    let place = ap (λ (b : List ℕ). length c.args.bytes.now - length b) (c.bytes_from-paths.ensures ∙ ap (λ (b : List ℕ). drop (22 + length c.placed_head-head.result.output.now + length c.placed_head-head.result.command.now) b) c.bytes_from.ensures) in
    let behind = paths_behind c.args.bytes.now c.args.start (head_data c.placed_head-head.result) _ (λ i. omega (arith, c.type_inv.bytes i)) c.requires c.placed_head-head.ensures place in
    ap paths_in behind.read
