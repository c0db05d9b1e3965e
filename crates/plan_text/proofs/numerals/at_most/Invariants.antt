use Rattle.std.proofs.Common.{◌≡◌, ◌≤◌, drop}
use Rattle.plan_text.specs.Numerals.{number_past}
use Rattle.plan_text.proofs.numerals.at_most.Given as goal

abbrev pub invariant-loop-digit : goal.invariant-loop-digit
invariant-loop-digit l = (l.number ≤ l.most) × (number_past l.number (drop l.digit-index l.digits) ≡ number_past 0 l.digits)
