use Rattle.std.proofs.Common.{◌≡◌, ◌++◌, drop, option_map}
use Rattle.std.specs.List.{flat_map}
use Rattle.plan_tools.specs.Cleaning.{files_of_edge}
use Rattle.plan_tools.proofs.cleaning.files_of_edges.Given as goal

-- the files so far, and those behind them
abbrev pub invariant-loop-edge : goal.invariant-loop-edge
invariant-loop-edge l =
    l.files ++ flat_map (files_of_edge l.manifest l.graph (option_map (λ c. c.now) l.counted)) (drop l.edge-index l.edges)
    ≡ flat_map (files_of_edge l.manifest l.graph (option_map (λ c. c.now) l.counted)) l.edges
