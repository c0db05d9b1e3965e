-- How a search for needed paths goes on. Serves src/need.rt.
use Rattle.std.proofs.Common.{◌≡◌, ℕ, zero, suc, ◌<◌, [], ◌∷◌, length, ◌∙◌, subst, arith, get_or, Some}
use Rattle.std.specs.Prelude.{All}
use Rattle.std.proofs.lemmas.List.Elements.{All-contains}
use Rattle.plan_graph.specs.declared.graph_data.Graph.{Graph}
use Rattle.plan_graph.specs.Files.{Table, producer_at}
use Rattle.plan_tools.specs.Need.{AreNeededFlags, IsExpanded, IsMet, IsPathNeeded, IsSearch, MeetsMore, Reached, input, is_set, target}

-- what was met stays met
pub met_stays : (old new : Reached) → MeetsMore old new → (p : ℕ) → IsMet old p → IsMet new p
met_stays old new more p h below = more.met p (h (subst (λ (g : Graph). p < length g.files) more.graph below))

-- one step after the other
pub more_again : (a b c : Reached) → MeetsMore a b → MeetsMore b c → MeetsMore a c
more_again a b c x y = record {
  graph = y.graph ∙ x.graph;
  targets = y.targets ∙ x.targets;
  met = λ p h. y.met p (x.met p h);
  longer = omega (arith, x.longer, y.longer);
  queue = λ k below. y.queue k (omega (arith, x.longer, below)) ∙ x.queue k below;
}

-- what has a maker is a path of the table
has_number : (files : Table) (p e : ℕ) → producer_at files p ≡ Some e → p < length files
has_number [] p e h = absurd (cc)
has_number (f ∷ fs) zero e h = omega arith
has_number (f ∷ fs) (suc p) e h = let below = has_number fs p e h in omega (arith, below)

-- each path that is needed was met, if the targets were, and what is met is expanded
pub all_met : (r : Reached) → IsSearch r → All (IsMet r) r.targets → All (IsExpanded r) r.queue
    → (p : ℕ) → IsPathNeeded r.graph r.targets p → IsMet r p
all_met r is targets queue p (target here) = All-contains (IsMet r) r.targets p targets here
all_met r is targets queue p (input {p = q} {e} {i} need made here) =
    let within : q < length r.graph.files = has_number r.graph.files q e made in
    let met : is_set r.met q = all_met r is targets queue q need within in
    All-contains (IsMet r) (get_or r.graph.inputs e []) p (All-contains (IsExpanded r) r.queue q queue (is.flagged q met) e made) here

pub all_needed : (r : Reached) → IsSearch r → All (IsMet r) r.targets → All (IsExpanded r) r.queue → AreNeededFlags r.graph r.targets r.met
all_needed r is targets queue = record {
  sized = is.sized;
  sound = λ p h. All-contains (IsPathNeeded r.graph r.targets) r.queue p is.needed (is.flagged p h);
  complete = λ p below need. all_met r is targets queue p need below;
}
