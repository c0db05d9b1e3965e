-- Building an edge with its numbers.
use Rattle.std.proofs.Common.{◌≡◌, ◌++◌, ◌∷◌, [], ℕ, zero, suc, ◌+◌, ◌<◌, List, length, drop, map, Some, refl, sym, ap, ◌∙◌, arith}
use Rattle.std.specs.Prelude.{slice_get}
use Rattle.std.proofs.lemmas.List.{append_assoc}
use Rattle.plan_scope.specs.Edge.{Edge as ManifestEdge}
use Rattle.plan_graph.specs.declared.graph_data.Graph.{Graph}
use Rattle.plan_compile.specs.declared.baseline.Baseline.{Baseline}
use Rattle.plan_compile.specs.declared.baseline.OutOfDateRule.{OutOfDateRule}
use Rattle.plan_compile.specs.Builds.{Build, build_at, builds_from}
use Rattle.plan_compile.proofs.ListLemmas.{some_is}

pub same_build : (e f : ManifestEdge) (a b c d v w x y : List ℕ) (r s : ℕ) (k l : Baseline) → e ≡ f → a ≡ b → c ≡ d → v ≡ w → x ≡ y → r ≡ s → k ≡ l
    → ◌≡◌ {A = Build} (record { edge = e; outputs = a; named = c; order_only = v; waits = x; rank = r; baseline = k }) (record { edge = f; outputs = b; named = d; order_only = w; waits = y; rank = s; baseline = l })
same_build e f a b c d v w x y r s k l he ha hc hv hx hr hk = cc

pub drop_here : {A : Type 0} (xs : List A) (i : ℕ) (x : A) → slice_get xs i ≡ Some x → drop i xs ≡ x ∷ drop (i + 1) xs
drop_here [] i x h = absurd cc
drop_here {A = A} (y ∷ xs) zero x h = ap (λ (z : A). z ∷ xs) (some_is y x h)
drop_here (y ∷ xs) (suc i) x h = let same : suc (i + 1) ≡ suc i + 1 = omega arith in drop_here xs i x h ∙ ap (λ (n : ℕ). x ∷ drop n (y ∷ xs)) same

pub get_at : {A : Type 0} (xs : List A) (k : ℕ) → k < length xs → (x : A) × (slice_get xs k ≡ Some x)
get_at [] k lt = absurd (omega arith)
get_at (x ∷ xs) zero lt = (x, refl)
get_at (x ∷ xs) (suc k) lt = get_at xs k (omega (arith, lt))

pub builds_step : (rule : OutOfDateRule) (g : Graph) (es : List ManifestEdge) (n : ℕ) (e : ManifestEdge) (old new whole : List Build) → slice_get es n ≡ Some e → new ≡ old ++ build_at rule g n e ∷ []
    → old ++ builds_from rule g n (drop n es) ≡ whole → new ++ builds_from rule g (n + 1) (drop (n + 1) es) ≡ whole
builds_step rule g es n e old new whole at pushed h =
    let next : n + 1 ≡ suc n = omega arith in
    ap (λ (k : ℕ). new ++ builds_from rule g k (drop (n + 1) es)) next
    ∙ ap (λ (bs : List Build). bs ++ builds_from rule g (suc n) (drop (n + 1) es)) pushed
    ∙ append_assoc old (build_at rule g n e ∷ []) (builds_from rule g (suc n) (drop (n + 1) es))
    ∙ ap (λ (xs : List ManifestEdge). old ++ builds_from rule g n xs) (sym (drop_here es n e at))
    ∙ h

-- one more item of a list that is copied
pub copied_step : {A : Type 0} (xs : List A) (n : ℕ) (x : A) (old new whole : List A) → slice_get xs n ≡ Some x → new ≡ old ++ x ∷ [] → old ++ drop n xs ≡ whole
    → new ++ drop (n + 1) xs ≡ whole
copied_step {A = A} xs n x old new whole at pushed h =
    ap (λ (ys : List A). ys ++ drop (n + 1) xs) pushed ∙ append_assoc old (x ∷ []) (drop (n + 1) xs) ∙ ap (λ (ys : List A). old ++ ys) (sym (drop_here xs n x at)) ∙ h

-- one more item of a list to which a function is applied
pub mapped_step : {A B : Type 0} (f : A → B) (xs : List A) (n : ℕ) (x : A) (old new whole : List B) → slice_get xs n ≡ Some x → new ≡ old ++ f x ∷ [] → old ++ map f (drop n xs) ≡ whole
    → new ++ map f (drop (n + 1) xs) ≡ whole
mapped_step {A = A} {B = B} f xs n x old new whole at pushed h =
    ap (λ (ys : List B). ys ++ map f (drop (n + 1) xs)) pushed ∙ append_assoc old (f x ∷ []) (map f (drop (n + 1) xs)) ∙ ap (λ (ys : List A). old ++ map f ys) (sym (drop_here xs n x at)) ∙ h

pub map_long : {A B : Type 0} (f : A → B) (xs : List A) → length (map f xs) ≡ length xs
map_long f [] = refl
map_long f (x ∷ xs) = ap suc (map_long f xs)
