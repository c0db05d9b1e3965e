-- How a walk to a build order goes on. Serves src/order.rt.
use Rattle.std.proofs.Common.{◌≡◌, ◌≢◌, ℕ, ◌+◌, ◌<◌, Bool, true, false, List, [], ◌∷◌, ◌++◌, length, refl, sym, ◌∙◌, ap, subst, arith, get_or, set, ◌⊎◌, inl, inr, get_or-set_same, get_or-set_other}
use Rattle.std.specs.Prelude.{All, Contains}
use Rattle.std.specs.List.{AllPairs}
use Rattle.std.proofs.lemmas.Bool.Decides.{eqb_tells}
use Rattle.std.proofs.lemmas.List.Elements.{All-contains, All-nil, All-push, All-weaker, Contains-append_left, Contains-get_or, Contains-push}
use Rattle.std.proofs.lemmas.List.Quantifiers.{all_pairs_push}
use Rattle.plan_graph.specs.Cycles.{IsSimple, WaitsFor}
use Rattle.plan_graph.specs.declared.graph_data.Graph.{Graph}
use Rattle.plan_tools.specs.Order.{IsNeeded, IsBuildOrder, IsWalk, Walked, is_done}

abbrev pub walked : Graph → List ℕ → List Bool → List ℕ → List ℕ → Walked
walked g targets done order path = record { graph = g; targets = targets; done = done; order = order; path = path }

-- a flag that is set is the new one, or was set
flag_cases : (done : List Bool) (i e : ℕ) → is_done (set done i true) e → (e ≡ i) ⊎ is_done done e
flag_cases done i e h = elim (eqb_tells e i) [
  | inl y ↦ inl y.1
  | inr y ↦ inr (sym (get_or-set_other done i e true false y.1) ∙ h)
]

-- flags that are set stay so
flag_kept : (done : List Bool) (i e : ℕ) → i < length done → is_done done e → is_done (set done i true) e
flag_kept done i e lt h = elim (eqb_tells e i) [
  | inl y ↦ ap (λ (k : ℕ). get_or (set done i true) k false) y.1 ∙ get_or-set_same done i true false lt
  | inr y ↦ get_or-set_other done i e true false y.1 ∙ h
]

-- an edge that isn't done is not among those that are
fresh : (w : Walked) → IsWalk w → (e : ℕ) → get_or w.done e false ≡ false → Contains w.order e → ⊥
fresh w is e h c = let set : is_done w.done e = All-contains (is_done w.done) w.order e is.flagged c in absurd (cc)

-- one edge more is done, behind all that it waits for
pub left : (g : Graph) (targets : List ℕ) (done : List Bool) (order path shorter : List ℕ) (e : ℕ)
    → IsWalk (walked g targets done order path) → All (IsNeeded g targets) shorter → IsNeeded g targets e → e < length done → get_or done e false ≡ false
    → All (is_done done) (get_or g.waits e [])
    → IsWalk (walked g targets (set done e true) (order ++ e ∷ []) shorter)
left g targets done order path shorter e is begun need lt new waits =
    let w : Walked = walked g targets done order path in
    let more : (x : ℕ) → Contains order x → Contains (order ++ e ∷ []) x = λ x c. Contains-append_left order (e ∷ []) x c in
    let behind : (x : ℕ) → All (Contains order) (get_or g.waits x []) → WaitsFor g.waits x e → ⊥ =
    λ x all h. fresh w is e new (All-contains (Contains order) (get_or g.waits x []) e all h) in
    record {
      flags = λ x h. elim (flag_cases done e x h) [
        | inl same ↦ subst (Contains (order ++ e ∷ [])) (sym same) (Contains-push order e)
        | inr old ↦ more x (is.flags x old)
      ];
      flagged = All-push (is_done (set done e true)) order e
          (All-weaker (is_done done) (is_done (set done e true)) (λ x h. flag_kept done e x lt h) order is.flagged)
          (get_or-set_same done e true false lt);
      needed = All-push (IsNeeded g targets) order e is.needed need;
      begun = begun;
      once = all_pairs_push (λ x y. x ≢ y) order e is.once (λ k d below same. fresh w is e new (subst (Contains order) same (Contains-get_or order k d below)));
      closed = All-push (λ x. All (Contains (order ++ e ∷ [])) (get_or g.waits x [])) order e
          (All-weaker (λ x. All (Contains order) (get_or g.waits x [])) (λ x. All (Contains (order ++ e ∷ [])) (get_or g.waits x []))
          (λ x all. All-weaker (Contains order) (Contains (order ++ e ∷ [])) more (get_or g.waits x []) all) order is.closed)
          (All-weaker (is_done done) (Contains (order ++ e ∷ [])) (λ x h. more x (is.flags x h)) (get_or g.waits e []) waits);
      behind = all_pairs_push (λ x y. WaitsFor g.waits x y → ⊥) order e is.behind
          (λ k d below. behind (get_or order k d) (All-contains (λ x. All (Contains order) (get_or g.waits x [])) order (get_or order k d) is.closed (Contains-get_or order k d below)));
    }

-- the path alone changes
pub on_path : (g : Graph) (targets : List ℕ) (done : List Bool) (order path other : List ℕ)
    → IsWalk (walked g targets done order path) → All (IsNeeded g targets) other → IsWalk (walked g targets done order other)
on_path g targets done order path other is begun =
    record { flags = is.flags; flagged = is.flagged; needed = is.needed; begun = begun; once = is.once; closed = is.closed; behind = is.behind }

-- a walk whose targets are done has the order
pub order_of : (w : Walked) → IsWalk w → All (is_done w.done) w.targets → IsBuildOrder w.graph w.targets w.order
order_of w is all =
    record { whole = All-weaker (is_done w.done) (Contains w.order) is.flags w.targets all; needed = is.needed; once = is.once; closed = is.closed; behind = is.behind }
