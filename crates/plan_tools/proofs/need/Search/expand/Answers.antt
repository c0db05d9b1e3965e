use Rattle.std.proofs.Common.{◌≡◌, ◌∙◌, [], List, ℕ, Some, get_or, sym, subst}
use Rattle.std.proofs.lemmas.List.Elements.{Contains-get_or}
use Rattle.plan_graph.specs.Files.{producer_at}
use Rattle.plan_tools.specs.Need.{Reached, input}
use Rattle.plan_tools.proofs.need.Search.expand.Goals as goal

pub read_edge-requires : goal.read_edge-requires
read_edge-requires c k d below =
    let inputs : List ℕ = get_or c.args.self.now.graph.inputs c.in-Some.edge [] in
    let made : producer_at c.args.self.now.graph.files c.args.path ≡ Some c.in-Some.edge =
    subst (λ (r : Reached). producer_at r.graph.files c.args.path ≡ Some c.in-Some.edge) c.self.view_is (sym c.producer_at.ensures ∙ c.in-Some.is) in
    input c.requires made (Contains-get_or inputs k d below)
