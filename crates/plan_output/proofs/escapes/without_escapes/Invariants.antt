use Rattle.std.proofs.Common.{◌≡◌, ◌++◌, drop}
use Rattle.plan_output.specs.Escapes as defined
use Rattle.plan_output.proofs.escapes.without_escapes.Given as goal

abbrev pub invariant-loop-at : goal.invariant-loop-at
invariant-loop-at l = l.plain.items ++ defined.text_from l.reading (drop l.at l.text) ≡ defined.without_escapes l.text
