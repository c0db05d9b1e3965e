use Rattle.std.proofs.Common.{◌≡◌, ◌++◌, drop, map}
use Rattle.plan_options.specs.Saying as defined
use Rattle.plan_options.proofs.command_line.tool_words_in.Given as goal

abbrev pub invariant-loop-at : goal.invariant-loop-at
invariant-loop-at l = map (λ w. w.now) l.words.items ++ defined.tool_words (drop l.at l.arguments) ≡ defined.tool_words l.arguments
