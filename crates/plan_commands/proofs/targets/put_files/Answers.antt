use Rattle.std.proofs.Common.{◌≡◌, ℕ, List, ◌+◌, Option, Some, ap, drop, ◌∙◌}
use Rattle.std.specs.Prelude.{if◌then◌else◌}
use Rattle.std.specs.List.{list_any}
use Rattle.plan_image.specs.Makers.{is_named}
use Rattle.plan_commands.specs.MakerMaps.{maker_in}
use Rattle.plan_commands.proofs.MakerLemmas.{named_file, nameless_file}
use Rattle.plan_commands.proofs.targets.put_files.Goals as goal
use Rattle.plan_commands.proofs.targets.put_files.Goals.{in-Some+in_ok-insert-in-Some, in-None}

pub loop-file-preserved : goal.loop-file-preserved
loop-file-preserved c = λ path.
    let p = c.args.parts.now in
    let files : List ℕ = c.args.files.now in
    let all : Option ℕ = if list_any (λ f. is_named p path f) files then Some c.args.edge else maker_in c.args.makers.now path in
    (elim c.match-get.branch as (λ _. (if list_any (λ f. is_named p path f) (drop (c.loop-file.file-index + 1) files) then Some c.args.edge else maker_in c.match-get.makers path) ≡ all) [
      | in-Some+in_ok-insert-in-Some w ↦
          named_file p path w.in-Some.path.now files c.loop-file.file-index c.args.edge (maker_in c.loop-file.makers path) (maker_in c.match-get.makers path) all c.loop-file-test.true w.in-Some.ensures
          (ap (λ m. maker_in m path) w.makers-is ∙ w.in_ok-insert-in-Some.ensures.updates.0 (record w.in-Some.path { now = path })) (c.loop-file.invariant path)
      | in-None w ↦
          nameless_file p path files c.loop-file.file-index c.args.edge (maker_in c.loop-file.makers path) (maker_in c.match-get.makers path) all c.loop-file-test.true w.in-None.ensures
          (ap (λ m. maker_in m path) w.makers-is) (c.loop-file.invariant path)
    ])
