-- The commands of edges, written in order. Used for src/manifest/commands.rt.
use Rattle.std.proofs.Common.{◌≡◌, ◌++◌, ◌∷◌, ℕ, ◌+◌, ◌<◌, List, length, drop, ap, sym, ◌∙◌, append_assoc, get_or}
use Rattle.std.proofs.lemmas.List.{drop_more}
use Rattle.std.specs.List.{flat_map}
use Rattle.plan_scope.specs.Edge.{Edge}
use Rattle.plan_scope.specs.Edges.{command_line}

-- The lines from an edge on are its own line and those after it.
pub one_more : (edges : List Edge) (i : ℕ) (edge : Edge) (done : List ℕ) → i < length edges → edge ≡ get_or edges i edge
    → done ++ flat_map command_line (drop i edges) ≡ flat_map command_line edges
    → (done ++ command_line edge) ++ flat_map command_line (drop (i + 1) edges) ≡ flat_map command_line edges
one_more edges i edge done lt is so_far =
    append_assoc done (command_line edge) (flat_map command_line (drop (i + 1) edges))
    ∙ ap (λ (v : List Edge). done ++ flat_map command_line v) (ap (λ (e : Edge). e ∷ drop (i + 1) edges) is ∙ sym (drop_more edges i edge lt))
    ∙ so_far
