use Rattle.std.proofs.Common.{◌≡◌, ◌++◌, drop, map}
use Rattle.plan_options.specs.ToolWords as defined
use Rattle.plan_options.proofs.tool_words.operands.Given as goal

abbrev pub invariant-loop-at : goal.invariant-loop-at
invariant-loop-at l =
    map (λ n. n.now) l.names.items ++ defined.operands (map (λ w. w.now) (drop l.at l.words)) ≡ defined.operands (map (λ w. w.now) l.words)
