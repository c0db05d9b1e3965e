use Rattle.std.proofs.Common.{◌≡◌, ◌⊎◌, ◌≤◌, [], List, ℕ, arith, refl, subst}
use Rattle.std.specs.Prelude.{flat_map}
use Rattle.plan_scope.specs.Scopes.{Text}
use Rattle.plan_scope.specs.declared.edge.addition.Addition.{Addition}
use Rattle.plan_graph.specs.Graph.{outputs_of}
use Rattle.plan_commands.specs.Recorded.{AreRecalledBetween, NamesAmong}
use Rattle.plan_commands.proofs.RecordedLemmas.{adds, recalled_more}
use Rattle.plan_commands.proofs.recorded.recalled_between.Goals as goal

pub loop-number-preserved : goal.loop-number-preserved
loop-number-preserved g c =
    let edges = c.args.edges.now in
    let n = c.loop-number.number in
    let edge = c.edge-edge.result in
    let paths = c.in_ok-paths.paths in
    let a : Addition = adds n [] [] paths in
    let recalled : ((edge.depfile ≡ []) × (paths ≡ [])) ⊎ NamesAmong g.W.World.allows (flat_map outputs_of edges) edge paths =
    subst (λ (f : List Text). ((edge.depfile ≡ []) × (paths ≡ [])) ⊎ NamesAmong g.W.World.allows f edge paths) c.requires.filter c.in_ok-paths.ensures in
    let least : c.args.from ≤ n = c.loop-number.invariant.0 in (
      omega (arith, least),
      recalled_more g.W.World.allows edges c.args.from n edge a c.loop-number.additions.items c.push_order_only.new.additions.items least c.edge-edge.ensures refl refl refl recalled
          c.in_ok-push_order_only.ensures.paths c.in_ok-push_order_only.ensures.added c.loop-number.invariant.1,
    )

pub returns : goal.returns
returns g c =
    let is : c.loop-number.number ≡ c.args.to = omega (arith, c.loop-number-test.false, c.loop-number.auto.number-end) in
    subst (λ (n : ℕ). AreRecalledBetween g.W.World.allows c.args.edges.now c.args.from n c.loop-number.additions.items) is c.loop-number.invariant.1
