-- The tree of targets, as `-t targets` lists it.
use Rattle.std.specs.Prelude.{◌≡◌, ℕ, zero, suc, ◌-◌, ◌==◌, List, [], ◌∷◌, ◌++◌, true, false, Option, Some, None, Result, Ok, Err, codes, get_or, length, if◌then◌else◌}
use Rattle.std.specs.List.{flat_map}
use Rattle.plan_text.specs.Sinks.{Writes}
use Rattle.plan_scope.specs.Scopes.{Text}
use Rattle.plan_graph.specs.declared.graph_data.Graph.{Graph}
use Rattle.plan_graph.specs.Files.{producer_at}
use Rattle.plan_tools.specs.Inputs.{inputs_made_from}
use Rattle.plan_tools.specs.Listings.{line, of_first, path_at, rule_line}
use Rattle.plan_tools.specs.declared.tree.Branch.{Branch}
use Rattle.plan_tools.specs.declared.tree_fault.TreeFault.{TreeFault}
use Rattle.plan_tools.specs.declared.tree_fault.TreeFault.TheVariants.{Memory, Sink}

-- a path, under so many others, with so many levels below it
abbrev pub branch : (indent below path : ℕ) → Branch
branch indent below path = record { path = path; indent = indent; below = below }

-- the tree of a path, line by line: the path, and then the trees of the inputs from which it is made, one level deeper
abbrev pub tree_of : Graph → (below indent path : ℕ) → List Branch
tree_of g zero indent p = branch indent 0 p ∷ []
tree_of g (suc below) indent p = branch indent (suc below) p ∷ flat_map (tree_of g below (suc indent)) (inputs_made_from g (producer_at g.files p))

-- the trees of some paths
abbrev pub trees_of : Graph → (below indent : ℕ) → (paths : List ℕ) → List Branch
trees_of g below indent paths = flat_map (tree_of g below indent) paths

-- how many levels are below the roots in a listing of this depth. A depth of 0 is no limit: a chain of inputs passes
-- each edge at most once.
abbrev pub levels_below : Graph → (depth : ℕ) → ℕ
levels_below g depth = if depth == 0 then length g.outputs else depth - 1

-- a path with the rule that makes it; a source without one
abbrev pub target_line : (path : Text) → (rules : List Text) → Option ℕ → Text
target_line path rules (Some e) = rule_line path (get_or rules e [])
target_line path rules None = line path

-- two blanks for each level
abbrev pub blanks : ℕ → Text
blanks n = of_first (λ k. codes "  ") n

-- a line of a listing
abbrev pub branch_line : Graph → (rules : List Text) → Branch → Text
branch_line g rules b = blanks b.indent ++ target_line (path_at g b.path) rules (producer_at g.files b.path)

-- the listing of the trees of these roots
abbrev pub target_tree : Graph → (rules : List Text) → (roots : List ℕ) → (depth : ℕ) → Text
target_tree g rules roots depth = flat_map (branch_line g rules) (trees_of g (levels_below g depth) 0 roots)

-- what was written of a text: all of it, what a failed write takes, or a front of it if memory ran out
abbrev pub Lists : Result (Unit {0}) TreeFault → (old new : ℕ × Option (List ℕ)) → Text → Type 0
Lists (Ok done) old new text = Writes true old new text
Lists (Err Sink) old new text = Writes false old new text
Lists (Err Memory) old new text = (front back : Text) × (front ++ back ≡ text) × Writes true old new front

-- ---- a walk through such trees

-- the lines that are left, of branches that are kept with the next one last
abbrev pub lines_left : Graph → List Branch → List Branch
lines_left g [] = []
lines_left g (b ∷ bs) = lines_left g bs ++ tree_of g b.below b.indent b.path

-- what a step returns: the next line
abbrev pub Steps : (old new : List Branch) → Option Branch → Type 0
Steps old new (Some b) = old ≡ b ∷ new
Steps old new None = (old ≡ []) × (new ≡ [])
