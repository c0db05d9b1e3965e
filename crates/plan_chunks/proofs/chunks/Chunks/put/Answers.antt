use Rattle.std.proofs.Common.{ℕ, List, subst}
use Rattle.plan_chunks.specs.Joining.{HasMore}
use Rattle.plan_chunks.proofs.JoiningLemmas.{more_keeps}
use Rattle.plan_chunks.proofs.chunks.Chunks.put.Goals as goal

pub returns-clause-keeps : goal.returns-clause-keeps
returns-clause-keeps c =
    let now : List (List ℕ) = c.find_or_push.new.rows in
    more_keeps c.args.self.now now (subst (λ (before : List (List ℕ)). HasMore before now) c.self.view_is c.find_or_push.ensures.more)
