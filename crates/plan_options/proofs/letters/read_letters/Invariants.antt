use Rattle.std.proofs.Common.{◌≡◌, ◌++◌, drop}
use Rattle.plan_options.specs.Reading as reading
use Rattle.plan_options.proofs.letters.read_letters.Given as goal

abbrev pub invariant-loop-at : goal.invariant-loop-at
invariant-loop-at l =
    (l.read.items ++ reading.letters (drop l.at l.letters) ≡ l.initial.read.items ++ reading.letters l.letters)
    × (reading.after_letters (drop l.at l.letters) ≡ reading.after_letters l.letters)
