-- Manifests with additions are sound, and run the same commands. Used for src/laws.rt.
use Rattle.std.proofs.Common.{◌≡◌, ℕ, zero, suc, ◌+◌, ◌<◌, ◌≤◌, List, [], ◌∷◌, ◌++◌, ◌⊎◌, inl, inr, length, map, get_or, take, refl, ap, sym, ◌∙◌, arith, length-append}
use Rattle.std.specs.Prelude.{All, Contains}
use Rattle.std.proofs.lemmas.List.{take_more}
use Rattle.std.proofs.lemmas.List.Elements.{All-append, All-cons, All-contains, All-head, All-nil, All-tail, All-weaker, Contains-append_left}
use Rattle.std.proofs.lemmas.List.Sums.{fold-append}
use Rattle.plan_parse.specs.PathLists.{all_in}
use Rattle.plan_scope.specs.declared.edge.addition.Addition.{Addition}
use Rattle.plan_scope.specs.declared.manifest.Manifest.{Manifest}
use Rattle.plan_scope.specs.Scopes.{Name, Text}
use Rattle.plan_scope.specs.Edge.{Edge}
use Rattle.plan_scope.specs.Edges.{Paths}
use Rattle.plan_scope.specs.Sound.{IsPath, IsSound, IsSoundEdge, names_of}
use Rattle.plan_scope.specs.Extended.{AreSoundFor, IsMade, RunTheSame, added, changed_at, extended, paths_in, paths_with, unchanged_part, with_addition}

all_parts : {X : Type 0} (P : X → Type 0) (xs ys : List X) → All P (xs ++ ys) → All P xs × All P ys
all_parts P [] ys h = (All-nil P, h)
all_parts P (x ∷ xs) ys h =
    let rest = all_parts P xs ys (All-tail P x (xs ++ ys) h) in
    (All-cons P x xs (All-head P x (xs ++ ys) h) rest.0, rest.1)

-- An output of a sound manifest is canonical and within its limit.
made_path : (m : Manifest) (path : Text) → IsSound m → IsMade m path → IsPath path
made_path m path s made =
    let e : Edge = made.0 in
    let p : Paths = e.paths in
    let sound : IsSoundEdge (names_of m.pools) e = All-contains (IsSoundEdge (names_of m.pools)) m.edges e s.edges made.1 in
    All-contains IsPath (all_in p) path sound.paths
    (Contains-append_left (p.outputs ++ p.implicit_outputs ++ p.inputs ++ p.implicit_inputs) p.order_only_inputs path
    (Contains-append_left (p.outputs ++ p.implicit_outputs ++ p.inputs) p.implicit_inputs path
    (Contains-append_left (p.outputs ++ p.implicit_outputs) p.inputs path made.2)))

addition_paths : (p : Paths) (a : Addition) → All IsPath (all_in p) → All IsPath (paths_in a) → All IsPath (all_in (paths_with a p))
addition_paths p a h k =
    let four = all_parts IsPath (p.outputs ++ p.implicit_outputs ++ p.inputs ++ p.implicit_inputs) p.order_only_inputs h in
    let three = all_parts IsPath (p.outputs ++ p.implicit_outputs ++ p.inputs) p.implicit_inputs four.0 in
    let two = all_parts IsPath (p.outputs ++ p.implicit_outputs) p.inputs three.0 in
    let one = all_parts IsPath p.outputs p.implicit_outputs two.0 in
    let more = all_parts IsPath (a.outputs ++ a.inputs) a.order_only k in
    let made = all_parts IsPath a.outputs a.inputs more.0 in
    All-append IsPath (p.outputs ++ (p.implicit_outputs ++ a.outputs) ++ p.inputs ++ (p.implicit_inputs ++ a.inputs)) (p.order_only_inputs ++ a.order_only)
    (All-append IsPath (p.outputs ++ (p.implicit_outputs ++ a.outputs) ++ p.inputs) (p.implicit_inputs ++ a.inputs)
    (All-append IsPath (p.outputs ++ (p.implicit_outputs ++ a.outputs)) p.inputs
    (All-append IsPath p.outputs (p.implicit_outputs ++ a.outputs) one.0 (All-append IsPath p.implicit_outputs a.outputs one.1 made.0))
    two.1)
    (All-append IsPath p.implicit_inputs a.inputs three.1 made.1))
    (All-append IsPath p.order_only_inputs a.order_only four.1 more.1)

edge_sound : (pools : List Name) (a : Addition) (e : Edge) → All IsPath (paths_in a) → IsSoundEdge pools e → IsSoundEdge pools (added a e)
edge_sound pools a e k h =
    let some = h.made in
    let long = length-append e.paths.implicit_outputs a.outputs in
    record {
      made = omega (arith, some, long);
      paths = addition_paths e.paths a h.paths k;
      command = h.command;
      description = h.description;
      depfile = h.depfile;
      pool = h.pool;
      phony = λ is. let none = h.phony is in record { command = none.command; description = none.description; depfile = none.depfile; pool = none.pool };
    }

edges_sound : (pools : List Name) (a : Addition) (n : ℕ) (es : List Edge) → All IsPath (paths_in a) → All (IsSoundEdge pools) es → All (IsSoundEdge pools) (changed_at n (added a) es)
edges_sound pools a n [] k h = All-nil (IsSoundEdge pools)
edges_sound pools a zero (e ∷ es) k h =
    All-cons (IsSoundEdge pools) (added a e) es (edge_sound pools a e k (All-head (IsSoundEdge pools) e es h)) (All-tail (IsSoundEdge pools) e es h)
edges_sound pools a (suc n) (e ∷ es) k h =
    All-cons (IsSoundEdge pools) e (changed_at n (added a) es) (All-head (IsSoundEdge pools) e es h) (edges_sound pools a n es k (All-tail (IsSoundEdge pools) e es h))

one_sound : (m : Manifest) (a : Addition) → IsSound m → All IsPath (paths_in a) → IsSound (with_addition m a)
one_sound m a s k = record { edges = edges_sound (names_of m.pools) a a.edge m.edges k s.edges; pools = s.pools; depths = s.depths; defaults = s.defaults }

-- Additions of paths of which each is canonical and within its limit.
all_sound : (additions : List Addition) (m : Manifest) → IsSound m → All (λ a. All IsPath (paths_in a)) additions → IsSound (extended additions m)
all_sound [] m s h = s
all_sound (a ∷ additions) m s h =
    all_sound additions (with_addition m a) (one_sound m a s (All-head (λ b. All IsPath (paths_in b)) a additions h)) (All-tail (λ b. All IsPath (paths_in b)) a additions h)

either_path : (m : Manifest) (path : Text) → IsSound m → IsMade m path ⊎ IsPath path → IsPath path
either_path m path s (inl made) = made_path m path s made
either_path m path s (inr h) = h

-- A manifest with additions is sound.
pub extended_sound : (additions : List Addition) (m : Manifest) → IsSound m → AreSoundFor m additions → IsSound (extended additions m)
extended_sound additions m s h =
    all_sound additions m s
    (All-weaker (λ a. All (λ path. IsMade m path ⊎ IsPath path) (paths_in a)) (λ a. All IsPath (paths_in a))
    (λ a k. All-weaker (λ path. IsMade m path ⊎ IsPath path) IsPath (λ path e. either_path m path s e) (paths_in a) k) additions h)

same_edges : (a : Addition) (n : ℕ) (es : List Edge) → map unchanged_part (changed_at n (added a) es) ≡ map unchanged_part es
same_edges a n [] = refl
same_edges a zero (e ∷ es) = refl
same_edges a (suc n) (e ∷ es) = ap (λ (l : List Edge). unchanged_part e ∷ l) (same_edges a n es)

same_count : (a : Addition) (n : ℕ) (es : List Edge) → length (changed_at n (added a) es) ≡ length es
same_count a n [] = refl
same_count a zero (e ∷ es) = refl
same_count a (suc n) (e ∷ es) = ap suc (same_count a n es)

-- A manifest with additions runs the same commands.
pub extended_same : (additions : List Addition) (m : Manifest) → RunTheSame (extended additions m) m
extended_same [] m = record { edges = refl; count = refl; pools = refl; defaults = refl }
extended_same (a ∷ additions) m =
    let rest = extended_same additions (with_addition m a) in
    record {
      edges = rest.edges ∙ same_edges a a.edge m.edges;
      count = rest.count ∙ same_count a a.edge m.edges;
      pools = rest.pools;
      defaults = rest.defaults;
    }

-- One more addition of several.
pub extended_more : (first now next : Manifest) (additions : List Addition) (n : ℕ) (a : Addition) → n < length additions → get_or additions n a ≡ a → now ≡ extended (take n additions) first → next ≡ with_addition now a
    → next ≡ extended (take (n + 1) additions) first
extended_more first now next additions n a lt at so_far one =
    one
    ∙ ap (λ (m : Manifest). with_addition m a) so_far
    ∙ sym (fold-append with_addition first (take n additions) (a ∷ []))
    ∙ ap (λ (l : List Addition). extended l first) (sym (take_more additions n a lt ∙ ap (λ (x : Addition). take n additions ++ x ∷ []) at))
