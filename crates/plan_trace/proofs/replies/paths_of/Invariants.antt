use Rattle.std.proofs.Common.{◌≡◌, drop, map}
use Rattle.plan_trace.specs.Reading.{paths_of}
use Rattle.plan_trace.proofs.RepliesLemmas.{behind}
use Rattle.plan_trace.proofs.replies.paths_of.Given as goal

abbrev pub invariant-loop-word : goal.invariant-loop-word
invariant-loop-word l = behind l.paths (paths_of (map (λ w. w.now) (drop l.word-index l.words))) ≡ paths_of (map (λ w. w.now) l.words)
