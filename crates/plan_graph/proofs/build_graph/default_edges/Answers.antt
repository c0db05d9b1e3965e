use Rattle.std.proofs.Common.{◌∙◌, None, List, ℕ, ap, map, subst, sym}
use Rattle.plan_graph.specs.Fitting.{IsAscending, producers}
use Rattle.plan_graph.proofs.EdgeReaderLemmas.{row_is, row_okay}
use Rattle.plan_graph.proofs.WaitsLemmas.{named_defaults}
use Rattle.plan_graph.proofs.build_graph.default_edges.Goals as goal

pub returns : goal.returns
returns c =
    let targets = map (λ t. t.path) c.args.defaults.now in
    let row = c.ascend.new.numbers.items in
    let numbers = row_is (producers c.args.files.now None targets) c.in_ok-numbers.numbers.items c.in_ok-numbers.ensures in
    ap row_okay (named_defaults c.args.files.now c.args.edges.now c.args.defaults.now row c.requires.fits (sym c.is_empty.ensures ∙ c.if-is_empty.false)
    (subst (λ (x : List ℕ). IsAscending x row) (sym numbers) c.ascend.ensures) ∙ sym c.new.ensures)
