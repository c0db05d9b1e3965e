use Rattle.std.proofs.Common.{◌≡◌, ◌≢◌, ◌<◌, ◌∙◌, [], List, Some, ℕ, ap, length, subst, sym}
use Rattle.std.specs.Prelude.{All, slice_get}
use Rattle.plan_graph.specs.Cycles.{AreRanks}
use Rattle.plan_graph.specs.Walking.{IsWalk, State}
use Rattle.plan_graph.specs.declared.walk.Mark.TheVariants.{New}
use Rattle.plan_graph.proofs.WalkLemmas.{ranks_are, ranks_low}
use Rattle.plan_graph.proofs.walk.Walk.into_ranks.Goals as goal

pub returns-clause-ranks : goal.returns-clause-ranks
returns-clause-ranks c =
    let w = c.self.inside in
    let path : w.path.items ≡ [] = ap (λ (s : State). s.path) c.self.view_is ∙ c.requires.empty in
    let met = subst (λ (s : State). (e : ℕ) → e < length s.waits → slice_get s.marks e ≢ Some New) (sym c.self.view_is) c.requires.met in
    let walk = subst (λ (p : List ℕ). IsWalk w.waits.now w.marks.items w.passed.items w.ranks.items p) path c.self.invariant.walk in
    subst (λ (s : State). AreRanks s.waits c.new.result) c.self.view_is (subst (AreRanks w.waits.now) (sym c.new.ensures) (ranks_are w.waits.now w.marks.items w.passed.items w.ranks.items walk met))

pub returns-clause-low : goal.returns-clause-low
returns-clause-low c =
    let w = c.self.inside in
    let path : w.path.items ≡ [] = ap (λ (s : State). s.path) c.self.view_is ∙ c.requires.empty in
    let met = subst (λ (s : State). (e : ℕ) → e < length s.waits → slice_get s.marks e ≢ Some New) (sym c.self.view_is) c.requires.met in
    let walk = subst (λ (p : List ℕ). IsWalk w.waits.now w.marks.items w.passed.items w.ranks.items p) path c.self.invariant.walk in
    subst (λ (s : State). All (λ rank. rank < length s.waits) c.new.result) c.self.view_is
    (subst (λ (ranks : List ℕ). All (λ rank. rank < length w.waits.now) ranks) (sym c.new.ensures) (ranks_low w.waits.now w.marks.items w.passed.items w.ranks.items walk met))
