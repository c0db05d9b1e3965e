use Rattle.std.proofs.Common.{◌≡◌, ◌++◌, ℕ, true, List, drop, map}
use Rattle.plan_text.specs.Sinks.{Writes}
use Rattle.plan_tools.specs.RuleTargets.{lines_of}
use Rattle.plan_tools.proofs.rule_listing.write_lines.Given as goal

-- what was written, and what is still written behind it
abbrev pub invariant-loop-text : goal.invariant-loop-text
invariant-loop-text g l =
    (done : List ℕ) × (done ++ lines_of (map (λ t. t.now) (drop l.text-index l.texts)) ≡ lines_of (map (λ t. t.now) l.texts))
    × Writes true (g.W.Sink.failures l.fn.out, g.W.Sink.taken l.fn.out) (g.W.Sink.failures l.out, g.W.Sink.taken l.out) done
