use Rattle.std.proofs.Common.{◌≡◌, Some, arith}
use Rattle.std.specs.Prelude.{slice_get}
use Rattle.plan_scope.specs.Edge.{Edge as ManifestEdge}
use Rattle.plan_compile.specs.Names.{edge_pool, edge_texts, pools_of_edges, texts_of_edges}
use Rattle.plan_compile.proofs.NameLemmas.{names_step, numbers_step}
use Rattle.plan_compile.proofs.collecting.collect_names.Goals as goal

pub loop-number-preserved : goal.loop-number-preserved
loop-number-preserved c =
    let es = c.args.manifest.now.edges in
    let n = c.loop-number.number in
    let e : ManifestEdge = c.edge-edge.result in
    let at : slice_get es n ≡ Some e = c.edge-edge.ensures in
    let put = c.in_ok-put_names.ensures in
    let texts = names_step edge_texts es n e c.loop-number.texts c.put_names.new.texts (texts_of_edges es) at put.texts c.loop-number.invariant.0 in
    let pools = names_step edge_pool es n e c.loop-number.pools c.put_names.new.pools (pools_of_edges es) at put.pools c.loop-number.invariant.1 in (
      texts,
      pools,
      numbers_step es n e _ c.loop-number.texts c.put_names.new.texts c.loop-number.pools c.put_names.new.pools (texts_of_edges es) (pools_of_edges es) c.loop-number.numbers.items c.push.new.self.items _ at put.texts
          put.pools put.numbers c.in_ok-push.ensures.items texts pools c.loop-number.invariant.2,
      omega (arith, put.few, c.loop-number.invariant.3),
      omega (arith, put.few_pools, c.loop-number.invariant.4),
    )
