use Rattle.std.proofs.Common.{◌≡◌, ℕ, List, Some, drop}
use Rattle.std.specs.Prelude.{if◌then◌else◌}
use Rattle.std.specs.List.{list_any}
use Rattle.plan_image.specs.Makers.{is_named}
use Rattle.plan_commands.specs.MakerMaps.{maker_in}
use Rattle.plan_commands.proofs.targets.put_files.Given as goal

abbrev pub invariant-loop-file : goal.invariant-loop-file
invariant-loop-file l =
    (path : List ℕ)
    → (if list_any (λ f. is_named l.parts path f) (drop l.file-index l.files) then Some l.edge else maker_in l.makers path)
    ≡ (if list_any (λ f. is_named l.parts path f) l.files then Some l.edge else maker_in l.fn.makers path)
