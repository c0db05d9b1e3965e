use Rattle.std.proofs.Common.{◌≡◌, drop}
use Rattle.std.specs.List.{list_any}
use Rattle.plan_verify.specs.Members.{is_member}
use Rattle.plan_scan.proofs.phonies.names_own.Given as goal

abbrev pub invariant-loop-file : goal.invariant-loop-file
invariant-loop-file l = list_any (λ f. is_member f l.outputs) (drop l.file-index l.inputs) ≡ list_any (λ f. is_member f l.outputs) l.inputs
