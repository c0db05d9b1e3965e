use Rattle.std.proofs.Common.{◌≡◌, ◌++◌, drop, map}
use Rattle.plan_reasons.specs.Facts.{named_input}
use Rattle.plan_scan.specs.Scans.{given}
use Rattle.plan_scan.proofs.inputs.named_inputs.Given as goal

abbrev pub invariant-loop-file : goal.invariant-loop-file
invariant-loop-file l = l.inputs.items ++ map (λ f. named_input (given l.graph l.found f)) (drop l.file-index l.files) ≡ map (λ f. named_input (given l.graph l.found f)) l.files
