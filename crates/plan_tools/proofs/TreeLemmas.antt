-- How a walk through trees of targets goes on. Serves src/tree.rt.
use Rattle.std.proofs.Common.{◌≡◌, ℕ, ◌+◌, ◌-◌, ◌<◌, ◌≤◌, true, List, Option, [], ◌∷◌, ◌++◌, length, drop, get_or, refl, sym, ◌∙◌, ap, append_assoc, append-nil, arith}
use Rattle.std.specs.List.{flat_map}
use Rattle.std.proofs.KnownBytes.{Appends-nil}
use Rattle.std.proofs.lemmas.List.{drop_more}
use Rattle.std.proofs.lemmas.List.Concat.{flat_map-append}
use Rattle.plan_graph.specs.declared.graph_data.Graph.{Graph}
use Rattle.plan_text.specs.Sinks.{Writes}
use Rattle.plan_tools.specs.Tree.{lines_left, tree_of, trees_of}
use Rattle.plan_tools.specs.declared.tree.Branch.{Branch}

-- the tree of the last branch comes first
pub left_first : (g : Graph) (bs : List Branch) (b : Branch) → lines_left g (bs ++ b ∷ []) ≡ tree_of g b.below b.indent b.path ++ lines_left g bs
left_first g [] b = sym (append-nil (tree_of g b.below b.indent b.path))
left_first g (x ∷ xs) b =
    ap (λ (ls : List Branch). ls ++ tree_of g x.below x.indent x.path) (left_first g xs b)
    ∙ append_assoc (tree_of g b.below b.indent b.path) (lines_left g xs) (tree_of g x.below x.indent x.path)

-- the same of a list of one path
pub left_one : (g : Graph) (bs : List Branch) (b : Branch) → lines_left g (bs ++ b ∷ []) ≡ trees_of g b.below b.indent (b.path ∷ []) ++ lines_left g bs
left_one g bs b = left_first g bs b ∙ ap (λ (ls : List Branch). ls ++ lines_left g bs) (sym (append-nil (tree_of g b.below b.indent b.path)))

-- what is picked of paths from the last one on, one path more
pub one_before : (g : Graph) (below indent : ℕ) (pick : List ℕ → List ℕ) → ((y : ℕ) (ys : List ℕ) → pick (y ∷ ys) ≡ pick (y ∷ []) ++ pick ys)
    → (xs : List ℕ) (n : ℕ) (new old base : List Branch) → 0 < n → n ≤ length xs
    → new ≡ trees_of g below indent (pick (get_or xs (n - 1) 0 ∷ [])) ++ old → old ≡ trees_of g below indent (pick (drop n xs)) ++ base
    → new ≡ trees_of g below indent (pick (drop (n - 1) xs)) ++ base
one_before g below indent pick parts xs n new old base some within is was =
    let x : ℕ = get_or xs (n - 1) 0 in
    let lt : n - 1 < length xs = omega (arith, some, within) in
    let next : n - 1 + 1 ≡ n = omega (arith, some) in
    let trees : List ℕ → List Branch = trees_of g below indent in
    let cut : drop (n - 1) xs ≡ x ∷ drop n xs = drop_more xs (n - 1) 0 lt ∙ ap (λ (k : ℕ). x ∷ drop k xs) next in
    let split : trees (pick (drop (n - 1) xs)) ≡ trees (pick (x ∷ [])) ++ trees (pick (drop n xs)) =
    ap (λ (ys : List ℕ). trees (pick ys)) cut ∙ (ap trees (parts x (drop n xs)) ∙ flat_map-append (tree_of g below indent) (pick (x ∷ [])) (pick (drop n xs))) in
    is ∙ (ap (λ (ls : List Branch). trees (pick (x ∷ [])) ++ ls) was
    ∙ (sym (append_assoc (trees (pick (x ∷ []))) (trees (pick (drop n xs))) base) ∙ ap (λ (ls : List Branch). ls ++ base) (sym split)))

-- the line of the next branch was written too
pub one_line : (each : Branch → List ℕ) (left rest : List Branch) (b : Branch) (done whole : List ℕ) → left ≡ b ∷ rest
    → done ++ flat_map each left ≡ whole → (done ++ each b) ++ flat_map each rest ≡ whole
one_line each left rest b done whole is so_far =
    append_assoc done (each b) (flat_map each rest) ∙ (ap (λ (ls : List Branch). done ++ flat_map each ls) (sym is) ∙ so_far)

-- no byte is written, of any sink
pub nothing_written : (a : ℕ × Option (List ℕ)) → Writes true a a []
nothing_written a = (refl, Appends-nil a.1)
