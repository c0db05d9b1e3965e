use Rattle.std.proofs.Common.{◌≡◌, ◌++◌, drop, map}
use Rattle.plan_options.specs.ToolWords as defined
use Rattle.plan_options.proofs.tool_words.option_letters.Given as goal

abbrev pub invariant-loop-at : goal.invariant-loop-at
invariant-loop-at l =
    l.letters.items ++ defined.option_letters (map (λ w. w.now) (drop l.at l.words)) ≡ defined.option_letters (map (λ w. w.now) l.words)
