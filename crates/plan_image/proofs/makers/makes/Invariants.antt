use Rattle.std.proofs.Common.{◌≡◌, drop}
use Rattle.std.specs.List.{list_any}
use Rattle.plan_image.specs.Makers.{is_named}
use Rattle.plan_image.proofs.makers.makes.Given as goal

abbrev pub invariant-loop-file : goal.invariant-loop-file
invariant-loop-file l = list_any (λ f. is_named l.parts l.path f) (drop l.file-index l.edge.outputs.now) ≡ list_any (λ f. is_named l.parts l.path f) l.edge.outputs.now
