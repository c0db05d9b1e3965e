-- Lemmas about the edges that targets need. Serves src/wanted.rt and src/scan.rt.
use Rattle.std.proofs.Common.{◌≡◌, ◌⊎◌, ◌<◌, ◌≤◌, ◌+◌, ◌∙◌, ℕ, zero, suc, Bool, true, false, List, [], ◌∷◌, Option, Some, None, inl, inr, refl, sym, ap, subst, arith, length}
use Rattle.std.specs.Prelude.{◌||◌, ◌==◌, get_or, slice_get}
use Rattle.std.specs.List.{list_all, list_any}
use Rattle.std.proofs.lemmas.Bool.{and_parts, cases_order, eqb-true}
use Rattle.std.proofs.lemmas.Option.{get_or_from_slice_get, slice_get_within}
use Rattle.plan_scope.specs.Edge.{Edge as ManifestEdge}
use Rattle.plan_scope.specs.declared.manifest.Manifest.{Manifest}
use Rattle.plan_graph.specs.declared.graph_data.Graph.{Graph}
use Rattle.plan_verify.specs.Members.{is_member}
use Rattle.plan_compile.specs.Builds.{build_at}
use Rattle.plan_compile.specs.declared.baseline.OutOfDateRule.TheVariants.{Stricter}
use Rattle.plan_lanes.specs.Journals.{Rule}
use Rattle.plan_scan.specs.declared.found.Found.{Found}
use Rattle.plan_scan.specs.Scans.{HasNothingToDo, IsUpToDate, IsWanted, is_target, is_waited}
use Rattle.plan_scan.specs.Steps.{AreUpToDate, IsClosedBelow, IsUpToDateAt, is_marked}

-- ---- marks

or_true : (a b : Bool) → (a || b) ≡ true → (a ≡ true) ⊎ (b ≡ true)
or_true true b is = inl refl
or_true false b is = inr is

one_of : (test : ℕ → Bool) (n x : ℕ) (Q : Type 0) → test x ≡ true → (Q → test n ≡ true) → ((x == n) ≡ true) ⊎ Q → test n ≡ true
one_of test n x Q here more (inl same) = subst (λ (k : ℕ). test k ≡ true) (eqb-true x n same) here
one_of test n x Q here more (inr there) = more there

member_passes : (test : ℕ → Bool) (n : ℕ) (xs : List ℕ) → list_all test xs ≡ true → is_member n xs ≡ true → test n ≡ true
member_passes test n [] all is = absurd cc
member_passes test n (x ∷ xs) all is =
    one_of test n x (list_any (λ m. m == n) xs ≡ true) (and_parts (test x) _ all).0 (member_passes test n xs (and_parts (test x) _ all).1) (or_true (x == n) (list_any (λ m. m == n) xs) is)

marked_within : (wanted : List Bool) (e : ℕ) → is_marked wanted e ≡ true → e < length wanted
marked_within [] e is = absurd cc
marked_within (b ∷ wanted) zero is = omega arith
marked_within (b ∷ wanted) (suc e) is = let less : e < length wanted = marked_within wanted e is in omega (arith, less)

pub all_marked : (g : Graph) (targets : List ℕ) (wanted : List Bool) → list_all (is_marked wanted) targets ≡ true → IsClosedBelow g.waits wanted (length wanted) → (e : ℕ) → IsWanted g targets e → is_marked wanted e ≡ true
all_marked g targets wanted all closed e (is_target is) = member_passes (is_marked wanted) e targets all is
all_marked g targets wanted all closed w (is_waited {e} wants waits) =
    let marked : is_marked wanted e ≡ true = all_marked g targets wanted all closed e wants in
    member_passes (is_marked wanted) w (get_or g.waits e []) (closed e (marked_within wanted e marked) marked) waits

-- ---- closed sets

pub closed_none : (waits : List (List ℕ)) (wanted : List Bool) → IsClosedBelow waits wanted 0
closed_none waits wanted e below is = absurd (omega (arith, below))

pub closed_more : (waits : List (List ℕ)) (wanted : List Bool) (n : ℕ) → IsClosedBelow waits wanted n → (is_marked wanted n ≡ true → list_all (is_marked wanted) (get_or waits n []) ≡ true) → IsClosedBelow waits wanted (n + 1)
closed_more waits wanted n before here e below is = by (cases_order e n)
  where
    by : (e ≡ n) ⊎ ((e < n) ⊎ (n < e)) → list_all (is_marked wanted) (get_or waits e []) ≡ true
    by (inl same) = subst (λ (k : ℕ). list_all (is_marked wanted) (get_or waits k []) ≡ true) (sym same) (here (subst (λ (k : ℕ). is_marked wanted k ≡ true) same is))
    by (inr (inl less)) = before e less is
    by (inr (inr more)) = absurd (omega (arith, below, more))

-- ---- edges

pub not_wanted : (rule : Rule) (m : Manifest) (g : Graph) (found : List Found) (wanted : List Bool) (n : ℕ) → is_marked wanted n ≡ false → IsUpToDateAt rule m g found wanted n
not_wanted rule m g found wanted n unmarked x marked is = absurd (let clash : true ≡ false = sym (get_or_from_slice_get wanted n true false marked) ∙ unmarked in cc)

same_some : (o : Option ManifestEdge) (x y : ManifestEdge) → o ≡ Some x → o ≡ Some y → x ≡ y
same_some (Some z) x y one two = let first : z ≡ x = cc in let second : z ≡ y = cc in sym first ∙ second
same_some None x y one two = absurd cc

pub wanted_edge : (rule : Rule) (m : Manifest) (g : Graph) (found : List Found) (wanted : List Bool) (n : ℕ) (x : ManifestEdge) → slice_get m.edges n ≡ Some x → IsUpToDate rule g found (build_at Stricter g n x) → IsUpToDateAt rule m g found wanted n
wanted_edge rule m g found wanted n x there is y marked at = subst (λ (z : ManifestEdge). IsUpToDate rule g found (build_at Stricter g n z)) (same_some (slice_get m.edges n) x y there at) is

pub fewer_checked : (rule : Rule) (m : Manifest) (g : Graph) (found : List Found) (wanted : List Bool) (from n to : ℕ) → to ≤ n → AreUpToDate rule m g found wanted from n → AreUpToDate rule m g found wanted from to
fewer_checked rule m g found wanted from n to fewer are e x least most = are e x least (omega (arith, fewer, most))

pub none_checked : (rule : Rule) (m : Manifest) (g : Graph) (found : List Found) (wanted : List Bool) (from to : ℕ) → to ≤ from → AreUpToDate rule m g found wanted from to
none_checked rule m g found wanted from to none e x least most marked is = absurd (omega (arith, none, least, most))

pub one_more_edge : (rule : Rule) (m : Manifest) (g : Graph) (found : List Found) (wanted : List Bool) (from n : ℕ) → AreUpToDate rule m g found wanted from n
    → IsUpToDateAt rule m g found wanted n → AreUpToDate rule m g found wanted from (n + 1)
one_more_edge rule m g found wanted from n before here e x least most marked is = by (cases_order e n)
  where
    by : (e ≡ n) ⊎ ((e < n) ⊎ (n < e)) → IsUpToDate rule g found (build_at Stricter g e x)
    by (inl same) =
        subst (λ (k : ℕ). IsUpToDate rule g found (build_at Stricter g k x)) (sym same)
        (here x (subst (λ (k : ℕ). slice_get wanted k ≡ Some true) same marked) (subst (λ (k : ℕ). slice_get m.edges k ≡ Some x) same is))
    by (inr (inl less)) = before e x least less marked is
    by (inr (inr more)) = absurd (omega (arith, most, more))

pub both_checked : (rule : Rule) (m : Manifest) (g : Graph) (found : List Found) (wanted : List Bool) (from middle to : ℕ) → AreUpToDate rule m g found wanted from middle → AreUpToDate rule m g found wanted middle to
    → AreUpToDate rule m g found wanted from to
both_checked rule m g found wanted from middle to first second e x least most marked is = by (cases_order e middle)
  where
    by : (e ≡ middle) ⊎ ((e < middle) ⊎ (middle < e)) → IsUpToDate rule g found (build_at Stricter g e x)
    by (inl same) = second e x (omega (arith, same)) most marked is
    by (inr (inl less)) = first e x least less marked is
    by (inr (inr more)) = second e x (omega (arith, more)) most marked is

marked_get : (wanted : List Bool) (e : ℕ) → is_marked wanted e ≡ true → slice_get wanted e ≡ Some true
marked_get [] e is = absurd cc
marked_get (b ∷ wanted) zero is = ap (λ (x : Bool). Some x) is
marked_get (b ∷ wanted) (suc e) is = marked_get wanted e is

pub nothing_to_do : (rule : Rule) (m : Manifest) (g : Graph) (targets : List ℕ) (found : List Found) (wanted : List Bool) → list_all (is_marked wanted) targets ≡ true → IsClosedBelow g.waits wanted (length wanted)
    → AreUpToDate rule m g found wanted 0 (length m.edges) → HasNothingToDo rule m g targets
nothing_to_do rule m g targets found wanted all closed are = record {
  found = found;
  clean = λ e x wants is. are e x (omega arith) (slice_get_within m.edges e x is) (marked_get wanted e (all_marked g targets wanted all closed e wants)) is;
}
