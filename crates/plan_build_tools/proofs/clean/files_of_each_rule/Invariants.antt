use Rattle.std.proofs.Common.{◌≡◌, ◌++◌, ◌∷◌, [], drop, map}
use Rattle.plan_tools.specs.Cleaning.{files_of_rules}
use Rattle.plan_build_tools.proofs.clean.files_of_each_rule.Given as goal

-- the files of the rules so far, and those of the others
abbrev pub invariant-loop-name : goal.invariant-loop-name
invariant-loop-name l =
    map (λ b. b.files) l.batches.items ++ map (λ name. files_of_rules l.loaded.manifest l.graph l.loaded.rules (name ∷ [])) (map (λ n. n.now) (drop l.name-index l.names))
    ≡ map (λ name. files_of_rules l.loaded.manifest l.graph l.loaded.rules (name ∷ [])) (map (λ n. n.now) l.names)
