use Rattle.std.proofs.Common.{◌≡◌, ◌++◌, ◌∷◌, ◌<◌, [], List, Some, ℕ, ap, set, subst, sym}
use Rattle.std.specs.Prelude.{slice_get}
use Rattle.std.proofs.lemmas.Option.{slice_get_within}
use Rattle.plan_graph.specs.Cycles.{Chain}
use Rattle.plan_graph.specs.Walking.{IsWalk, KeepsMarks, State, left}
use Rattle.plan_graph.specs.declared.walk.Mark.TheVariants.{New, Open}
use Rattle.plan_graph.proofs.WalkLemmas.{left_open, marks_kept, open_not_new, opened_not_new, opens}
use Rattle.plan_graph.proofs.walk.Walk.open.Goals as goal

pub invariant_of-self-2 : goal.invariant_of-self-2
invariant_of-self-2 c =
    let w = c.self.inside in
    let next = c.args.next in
    let fresh : slice_get w.marks.items next ≡ Some New = subst (λ (s : State). slice_get s.marks next ≡ Some New) (sym c.self.view_is) c.requires.fresh in
    let waited : Chain w.waits.now (w.path.items ++ next ∷ []) = subst (λ (s : State). Chain s.waits (s.path ++ next ∷ [])) (sym c.self.view_is) c.requires.waited in
    record {
      range = c.self.invariant.range;
      few = c.self.invariant.few;
      walk = subst (λ (p : List ℕ). IsWalk w.waits.now (set w.marks.items next Open) w.passed.items w.ranks.items p) (sym c.in_ok-push.ensures.items)
          (opens w.waits.now w.marks.items w.passed.items w.ranks.items w.path.items next c.self.invariant.walk fresh waited);
    }

pub returns-clause-goes_on : goal.returns-clause-goes_on
returns-clause-goes_on c =
    let marks = c.self.inside.marks.items in
    let next = c.args.next in
    let fresh : slice_get marks next ≡ Some New = subst (λ (s : State). slice_get s.marks next ≡ Some New) (sym c.self.view_is) c.requires.fresh in
    let within = slice_get_within marks next New fresh in
    record {
      same = ap (λ (s : State). s.waits) c.self.view_is;
      less = subst (λ (s : State). left (set marks next Open) < left s.marks) c.self.view_is (left_open marks next within fresh);
      kept = subst (λ (s : State). KeepsMarks s.marks (set marks next Open)) c.self.view_is (marks_kept marks next Open open_not_new);
    }

pub returns-clause-met : goal.returns-clause-met
returns-clause-met c =
    let marks = c.self.inside.marks.items in
    let next = c.args.next in
    let fresh : slice_get marks next ≡ Some New = subst (λ (s : State). slice_get s.marks next ≡ Some New) (sym c.self.view_is) c.requires.fresh in
    opened_not_new marks next (slice_get_within marks next New fresh)
