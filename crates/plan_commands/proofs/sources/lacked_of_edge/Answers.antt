use Rattle.std.proofs.Common.{◌≡◌, ◌≤◌, ◌∙◌, arith, length, sym}
use Rattle.plan_image.specs.Code.{code}
use Rattle.plan_commands.proofs.SourcesLemmas.{at_place, has_all, has_front, has_one_more, none_here, same_length}
use Rattle.plan_commands.proofs.sources.lacked_of_edge.Goals as goal

pub loop-place-preserved : goal.loop-place-preserved
loop-place-preserved g c =
    has_one_more g.W.World.allows c.args.image.now c.args.edge c.loop-place.place c.loop-place.invariant
    (none_here g.W.World.allows c.args.image.now c.image-tables.result.now c.parts-parts.result.now c.args.edge c.loop-place.place _ c.instr-instr.result _ c.image-tables.ensures.same c.parts-parts.ensures.tables c.edge_code-code.ensures c.instr-instr.ensures c.in_ok-file.ensures c.in-None.is)

pub returns : goal.returns
returns g c =
    let long : length c.edge_code-code.result ≡ length (code c.args.image.now c.args.edge) = same_length c.args.image.now c.image-tables.result.now c.args.edge c.edge_code-code.result c.image-tables.ensures.same c.edge_code-code.ensures in
    let done : length (code c.args.image.now c.args.edge) ≤ c.loop-place.place = omega (arith, c.loop-place-test.false, c.len-place-end.ensures, long) in
    has_all g.W.World.allows c.args.image.now c.args.edge c.loop-place.place done c.loop-place.invariant

pub returns-then-is_store : goal.returns-then-is_store
returns-then-is_store g c =
    let stores = c.is_store.ensures c.if-is_store.true in
    has_front g.W.World.allows c.args.image.now c.args.edge c.loop-place.place stores.0
    (sym (at_place c.args.image.now c.image-tables.result.now c.args.edge c.loop-place.place c.edge_code-code.result c.instr-instr.result c.image-tables.ensures.same c.edge_code-code.ensures c.instr-instr.ensures) ∙ stores.1)
    c.loop-place.invariant
