use Rattle.std.proofs.Common.{◌≡◌, ◌++◌, Some, drop, map}
use Rattle.plan_build_tools.specs.Naming.{named}
use Rattle.plan_build_tools.proofs.paths.paths_named.Given as goal

-- the paths so far, and those that follow
abbrev pub invariant-loop-word : goal.invariant-loop-word
invariant-loop-word l = map Some l.paths.items ++ map (named l.graph) (map (λ w. w.now) (drop l.word-index l.words)) ≡ map (named l.graph) (map (λ w. w.now) l.words)
