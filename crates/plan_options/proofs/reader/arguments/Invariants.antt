use Rattle.std.proofs.Common.{◌≡◌, ◌++◌, drop, map}
use Rattle.plan_options.specs.Reading as defined
use Rattle.plan_options.proofs.reader.arguments.Given as goal

abbrev pub invariant-loop-at : goal.invariant-loop-at
invariant-loop-at l =
    l.read.items ++ defined.reading_from l.expected (map (λ w. w.now) (drop l.at l.words)) ≡ defined.reading (map (λ w. w.now) l.words)
