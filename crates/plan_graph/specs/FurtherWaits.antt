-- Waits in addition to those of a graph, and the cycles that they close.
use Rattle.std.specs.Prelude.{◌≡◌, ◌⊎◌, ◌<◌, ℕ, List, All, Contains, length}
use Rattle.plan_graph.specs.declared.further_waits.Wait.{Wait}
use Rattle.plan_graph.specs.Cycles.{IsCycle, WaitsFor}

-- one of these waits is of edge e for edge w
abbrev pub IsFurther : List Wait → ℕ → ℕ → Type 0
IsFurther more e w = (wait : Wait) × Contains more wait × (wait.edge ≡ e) × (wait.maker ≡ w)

-- each wait of some rows is one of the waits of a graph, or a further one
abbrev pub AreAmong : List (List ℕ) → List Wait → List (List ℕ) → Type 0
AreAmong waits more rows = (e w : ℕ) → WaitsFor rows e w → WaitsFor waits e w ⊎ IsFurther more e w

-- a cycle of the waits of a graph and of further waits
abbrev pub ClosesCycle : List (List ℕ) → List Wait → List ℕ → Type 0
ClosesCycle waits more es = (rows : List (List ℕ)) × AreAmong waits more rows × IsCycle rows es

-- a row of edge e: edges for which it waits by the graph, or by a further wait
abbrev pub IsRow : List (List ℕ) → List Wait → ℕ → List ℕ → Type 0
IsRow waits more e row = All (λ w. (w < length waits) × (WaitsFor waits e w ⊎ IsFurther more e w)) row
