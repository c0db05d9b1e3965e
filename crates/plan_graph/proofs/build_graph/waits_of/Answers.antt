use Rattle.std.proofs.Common.{◌++◌, ◌∙◌, List, ℕ, ap, subst, sym}
use Rattle.plan_graph.specs.Fitting.{IsAscending, producers, producers_at}
use Rattle.plan_graph.specs.Graph.{inputs_named}
use Rattle.plan_graph.proofs.EdgeReaderLemmas.{row_is, row_okay}
use Rattle.plan_graph.proofs.WaitsLemmas.{producers_numbered, waits_are}
use Rattle.plan_graph.proofs.build_graph.waits_of.Goals as goal

pub returns : goal.returns
returns c edges fits here =
    let files = c.args.files.now in
    let named = inputs_named c.args.edge.now in
    let inputs = c.args.inputs.now in
    let row = c.add_producers.new.row.items in
    let numbers = row_is (c.clear.new.self.items ++ producers_at files c.own_of.result inputs) row c.in_ok-add_producers.ensures in
    let is = sym numbers
    ∙ (ap (λ (r : List ℕ). r ++ producers_at files c.own_of.result inputs) c.clear.ensures.items
    ∙ (ap (producers_at files c.own_of.result) c.requires ∙ (producers_numbered files c.own_of.result named ∙ ap (λ own. producers files own named) c.own_of.ensures))) in
    ap row_okay (waits_are files edges c.args.number c.args.edge.now c.ascend.new.numbers.items fits here (subst (λ (x : List ℕ). IsAscending x c.ascend.new.numbers.items) is c.ascend.ensures))
