use Rattle.std.proofs.Common.{◌≡◌, ◌∙◌, [], List, ℕ, ap, length, rules, subst, sym}
use Rattle.std.specs.Prelude.{replicate}
use Rattle.plan_graph.specs.Walking.{IsWalk}
use Rattle.plan_graph.specs.declared.walk.Mark.{Mark}
use Rattle.plan_graph.specs.declared.walk.Mark.TheVariants.{New}
use Rattle.plan_graph.proofs.WalkLemmas.{starts}
use Rattle.plan_graph.proofs.walk.Walk.new.Goals as goal

pub invariant_of-result : goal.invariant_of-result
invariant_of-result c =
    let waits = c.args.waits.now in
    let n = c.len-edges.result in
    let same : n ≡ length waits = c.len-edges.ensures in
    let new : c.in_ok-vec.field-0.items ≡ replicate n New = search rules in
    let none : c.in_ok-vec-2.field-0.items ≡ replicate n 0 = search rules in
    let zeros : c.in_ok-vec-3.field-0.items ≡ replicate n 0 = search rules in
    let marks : c.in_ok-vec.field-0.items ≡ replicate (length waits) New = new ∙ ap (λ k. replicate k New) same in
    let passed : c.in_ok-vec-2.field-0.items ≡ replicate (length waits) 0 = none ∙ ap (λ k. replicate k 0) same in
    let ranks : c.in_ok-vec-3.field-0.items ≡ replicate (length waits) 0 = zeros ∙ ap (λ k. replicate k 0) same in
    record {
      range = c.requires.range;
      few = c.requires.few;
      walk = subst (λ (p : List ℕ). IsWalk waits c.in_ok-vec.field-0.items c.in_ok-vec-2.field-0.items c.in_ok-vec-3.field-0.items p) (sym c.new.ensures.items)
          (subst (λ (m : List Mark). IsWalk waits m c.in_ok-vec-2.field-0.items c.in_ok-vec-3.field-0.items []) (sym marks)
          (subst (λ (p : List ℕ). IsWalk waits (replicate (length waits) New) p c.in_ok-vec-3.field-0.items []) (sym passed)
          (subst (λ (r : List ℕ). IsWalk waits (replicate (length waits) New) (replicate (length waits) 0) r []) (sym ranks) (starts waits))));
    }
