use Rattle.std.proofs.Common.{◌≡◌, drop, false}
use Rattle.plan_progress.specs.Template.{unknown_from}
use Rattle.plan_progress.proofs.template.unknown_placeholder.Given as goal

abbrev pub invariant-loop-byte : goal.invariant-loop-byte
invariant-loop-byte l = unknown_from l.escaped (drop l.byte-index l.template) ≡ unknown_from false l.template
