use Rattle.std.proofs.Common.{◌≡◌, ◌++◌, drop, map}
use Rattle.std.specs.List.{concat}
use Rattle.plan_reasons.proofs.sentences.joined.Given as goal

abbrev pub invariant-loop-part : goal.invariant-loop-part
invariant-loop-part l = l.text.items ++ concat (map (λ t. t.now) (drop l.part-index l.texts)) ≡ concat (map (λ t. t.now) l.texts)
