-- The canonical form of a path is canonical. Proofs for the law canonical_stays.
use Rattle.std.proofs.Common.{◌≡◌, ℕ, suc, ◌+◌, ◌<◌, ◌≤◌, Bool, true, false, cond, List, [], ◌∷◌, ◌++◌, length, Ok, refl, sym, ap, subst, ◌∙◌, arith, eqb, length-append}
use Rattle.std.specs.List.{join_with_byte, onto_first}
use Rattle.std.proofs.lemmas.List.Splits.{join_with_byte-slice_split, length-slice_split, slice_split-cons_no}
use Rattle.plan_text.specs.Path.{is_current_dir, is_parent_dir, normal_onto, reduced, without_parent_dirs, components_of, relative_path, absolute_path, canonical_of}
use Rattle.plan_text.specs.Reducing.{AllParentDirs, AllNormal}
use Rattle.plan_text.proofs.PathLemmas.{reduced-kept, reduced-normal, normal_onto-up, normal_onto-normal, without_parent_dirs-normal, without_parent_dirs-kept}

abbrev Slashless : List ℕ → Type 0
Slashless [] = Unit {0}
Slashless (b ∷ rest) = (eqb b 47 ≡ false) × Slashless rest

abbrev AllSlashless : List (List ℕ) → Type 0
AllSlashless [] = Unit {0}
AllSlashless (p ∷ ps) = Slashless p × AllSlashless ps

-- each part is not empty, is not `.`, and has no slash
abbrev AllWhole : List (List ℕ) → Type 0
AllWhole [] = Unit {0}
AllWhole (p ∷ ps) = (is_current_dir p ≡ false) × Slashless p × AllWhole ps

-- parts that are split at slashes have none
parts_by : (b : ℕ) (parts : List (List ℕ)) (t : Bool) → eqb b 47 ≡ t → AllSlashless parts → AllSlashless (cond t ([] ∷ parts) (onto_first b parts))
parts_by b parts true e h = (tt, h)
parts_by b [] false e h = ((e, tt), tt)
parts_by b (p ∷ parts) false e h = ((e, h.0), h.1)

components_slashless : (path : List ℕ) → AllSlashless (components_of path)
components_slashless [] = (tt, tt)
components_slashless (b ∷ rest) = parts_by b (components_of rest) (eqb b 47) refl (components_slashless rest)

-- if parts without slashes are joined by slashes, splitting returns them
split_alone : (p : List ℕ) → Slashless p → components_of p ≡ p ∷ []
split_alone [] h = refl
split_alone (b ∷ p) h = slice_split-cons_no (λ x. eqb x 47) b p h.0 ∙ ap (onto_first b) (split_alone p h.1)

split_front : (p rest : List ℕ) → Slashless p → components_of (p ++ 47 ∷ rest) ≡ p ∷ components_of rest
split_front [] rest h = refl
split_front (b ∷ p) rest h = slice_split-cons_no (λ x. eqb x 47) b (p ++ 47 ∷ rest) h.0 ∙ ap (onto_first b) (split_front p rest h.1)

split_joined : (p : List ℕ) (ps : List (List ℕ)) → AllWhole (p ∷ ps) → components_of (join_with_byte 47 (p ∷ ps)) ≡ p ∷ ps
split_joined p [] h = split_alone p h.1
split_joined p (q ∷ ps) h = split_front p (join_with_byte 47 (q ∷ ps)) h.1 ∙ ap (λ (v : List (List ℕ)). p ∷ v) (split_joined q ps h.2)

-- the parts that remain are whole
whole_under : (p : List ℕ) (r : List (List ℕ)) (u : Bool) → is_current_dir p ≡ false → Slashless p → AllWhole r → AllWhole (normal_onto p r)
whole_under p [] u n s h = (n, s, tt)
whole_under p (q ∷ r) u n s h = by (is_parent_dir q) where
  by : (v : Bool) → AllWhole (cond v r (p ∷ q ∷ r))
  by true = h.2
  by false = (n, s, h)

whole_before : (p : List ℕ) (r : List (List ℕ)) (t u : Bool) → is_current_dir p ≡ t → Slashless p → AllWhole r → AllWhole (cond t r (cond u (p ∷ r) (normal_onto p r)))
whole_before p r true u n s h = h
whole_before p r false true n s h = (n, s, h)
whole_before p r false false n s h = whole_under p r false n s h

reduced_whole : (ps : List (List ℕ)) → AllSlashless ps → AllWhole (reduced ps)
reduced_whole [] h = tt
reduced_whole (p ∷ ps) h = whole_before p (reduced ps) (is_current_dir p) (is_parent_dir p) refl h.0 (reduced_whole ps h.1)

without_whole : (ps : List (List ℕ)) → AllWhole ps → AllWhole (without_parent_dirs ps)
without_whole [] h = tt
without_whole (p ∷ ps) h = by (is_parent_dir p) (without_whole ps h.2) where
  by : (v : Bool) → AllWhole (without_parent_dirs ps) → AllWhole (cond v (without_parent_dirs ps) (p ∷ ps))
  by true more = more
  by false more = h

-- leading `..` parts, and then normal parts
record Shaped (r : List (List ℕ)) : Type 0 where
  parent_dirs : List (List ℕ)
  names : List (List ℕ)
  same : r ≡ parent_dirs ++ names
  are_ups : AllParentDirs parent_dirs
  are_names : AllNormal names

shaped_under : (p : List ℕ) (us ns : List (List ℕ)) → is_current_dir p ≡ false → is_parent_dir p ≡ false → AllParentDirs us → AllNormal ns → Shaped (normal_onto p (us ++ ns))
shaped_under p [] [] n u h k = record { parent_dirs = []; names = p ∷ []; same = refl; are_ups = tt; are_names = (n, u, tt) }
shaped_under p [] (q ∷ ns) n u h k = record { parent_dirs = []; names = p ∷ q ∷ ns; same = normal_onto-normal p q ns k.1; are_ups = tt; are_names = (n, u, k) }
shaped_under p (q ∷ us) ns n u h k = record { parent_dirs = us; names = ns; same = normal_onto-up p q (us ++ ns) h.1; are_ups = h.2; are_names = k }

shaped_before : (p : List ℕ) (r : List (List ℕ)) (t u : Bool) → is_current_dir p ≡ t → is_parent_dir p ≡ u → Shaped r → Shaped (cond t r (cond u (p ∷ r) (normal_onto p r)))
shaped_before p r true u n e s = s
shaped_before p r false true n e s = record { parent_dirs = p ∷ s.parent_dirs; names = s.names; same = ap (λ (v : List (List ℕ)). p ∷ v) s.same; are_ups = (n, e, s.are_ups); are_names = s.are_names }
shaped_before p r false false n e s = subst (λ (v : List (List ℕ)). Shaped (normal_onto p v)) (sym s.same) (shaped_under p s.parent_dirs s.names n e s.are_ups s.are_names)

shaped : (ps : List (List ℕ)) → Shaped (reduced ps)
shaped [] = record { parent_dirs = []; names = []; same = refl; are_ups = tt; are_names = tt }
shaped (p ∷ ps) = shaped_before p (reduced ps) (is_current_dir p) (is_parent_dir p) refl refl (shaped ps)

reduced_shaped : (r : List (List ℕ)) → Shaped r → reduced r ≡ r
reduced_shaped r s = ap reduced s.same ∙ reduced-kept s.parent_dirs s.names s.are_ups s.are_names ∙ sym s.same

-- the number of bytes of all parts, each with a slash
abbrev weight : List (List ℕ) → ℕ
weight [] = 0
weight (p ∷ ps) = suc (length p + weight ps)

joined_weight : (p : List ℕ) (ps : List (List ℕ)) → suc (length (join_with_byte 47 (p ∷ ps))) ≡ weight (p ∷ ps)
joined_weight p [] = omega arith
joined_weight p (q ∷ ps) =
    let e = joined_weight q ps in
    let l = length-append p (47 ∷ join_with_byte 47 (q ∷ ps)) in
    omega (arith, e, l)

components_weight : (path : List ℕ) → weight (components_of path) ≡ suc (length path)
components_weight path =
    some (components_of path) (omega (arith, length-slice_split (λ b. eqb b 47) path)) ∙ ap (λ (v : List ℕ). suc (length v)) (join_with_byte-slice_split 47 path)
  where
    some : (ps : List (List ℕ)) → 0 < length ps → weight ps ≡ suc (length (join_with_byte 47 ps))
    some [] h = absurd (omega arith)
    some (p ∷ ps) h = sym (joined_weight p ps)

under_lighter : (p : List ℕ) (r : List (List ℕ)) → weight (normal_onto p r) ≤ suc (length p + weight r)
under_lighter p [] = omega arith
under_lighter p (q ∷ r) = by (is_parent_dir q) where
  by : (v : Bool) → weight (cond v r (p ∷ q ∷ r)) ≤ suc (length p + weight (q ∷ r))
  by true = omega arith
  by false = omega arith

before_lighter : (p : List ℕ) (r : List (List ℕ)) (t u : Bool) → weight (cond t r (cond u (p ∷ r) (normal_onto p r))) ≤ suc (length p + weight r)
before_lighter p r true u = omega arith
before_lighter p r false true = omega arith
before_lighter p r false false = under_lighter p r

reduced_lighter : (ps : List (List ℕ)) → weight (reduced ps) ≤ weight ps
reduced_lighter [] = omega arith
reduced_lighter (p ∷ ps) =
    let first : weight (reduced (p ∷ ps)) ≤ suc (length p + weight (reduced ps)) = before_lighter p (reduced ps) (is_current_dir p) (is_parent_dir p) in
    let more = reduced_lighter ps in
    omega (arith, first, more)

without_lighter : (ps : List (List ℕ)) → weight (without_parent_dirs ps) ≤ weight ps
without_lighter [] = omega arith
without_lighter (p ∷ ps) = by (is_parent_dir p) (without_lighter ps) where
  by : (v : Bool) → weight (without_parent_dirs ps) ≤ weight ps → weight (cond v (without_parent_dirs ps) (p ∷ ps)) ≤ weight (p ∷ ps)
  by true more = omega (arith, more)
  by false more = omega arith

-- a form that is canonical, is not empty, and has at most this many bytes
abbrev Stays : ℕ → List ℕ → Type 0
Stays most form = (canonical_of form ≡ Ok form) × (0 < length form) × (length form ≤ most)

canonical_here : (b : ℕ) (rest : List ℕ) → eqb b 47 ≡ false → canonical_of (b ∷ rest) ≡ Ok (relative_path (reduced (components_of (b ∷ rest))))
canonical_here b rest e = rw e refl

-- a path whose first part is not empty and has no slash
first_here : (p : List ℕ) (ps : List (List ℕ)) → is_current_dir p ≡ false → Slashless p
    → canonical_of (join_with_byte 47 (p ∷ ps)) ≡ Ok (relative_path (reduced (components_of (join_with_byte 47 (p ∷ ps)))))
first_here [] ps n s = absurd cc
first_here (b ∷ p) [] n s = canonical_here b p s.0
first_here (b ∷ p) (q ∷ ps) n s = canonical_here b (p ++ 47 ∷ join_with_byte 47 (q ∷ ps)) s.0

some_byte : (p : List ℕ) → is_current_dir p ≡ false → 0 < length p
some_byte [] n = absurd cc
some_byte (b ∷ p) n = omega arith

relative_stays : (r : List (List ℕ)) (most : ℕ) → 0 < most → Shaped r → AllWhole r → weight r ≤ suc most → Stays most (relative_path r)
relative_stays [] most h s w l = (refl, omega arith, omega arith)
relative_stays (p ∷ ps) most h s w l =
    let weighs = joined_weight p ps in
    let some = some_byte p w.0 in
    let again : reduced (components_of (join_with_byte 47 (p ∷ ps))) ≡ p ∷ ps = ap reduced (split_joined p ps w) ∙ reduced_shaped (p ∷ ps) s in
    (first_here p ps w.0 w.1 ∙ ap (λ (v : List (List ℕ)). Ok (relative_path v)) again, omega (arith, weighs, some), omega (arith, weighs, l))

names_stay : (ns : List (List ℕ)) (most : ℕ) → 0 < most → AllNormal ns → AllWhole ns → weight ns ≤ most → Stays most (47 ∷ join_with_byte 47 ns)
names_stay [] most h k w l = (refl, omega arith, omega arith)
names_stay (p ∷ ps) most h k w l =
    let weighs = joined_weight p ps in
    let again : reduced (components_of (join_with_byte 47 (p ∷ ps))) ≡ p ∷ ps = ap reduced (split_joined p ps w) ∙ reduced-normal (p ∷ ps) k in
    let kept : absolute_path (reduced (components_of (join_with_byte 47 (p ∷ ps)))) ≡ 47 ∷ join_with_byte 47 (p ∷ ps) = ap absolute_path again ∙ ap (λ (v : List (List ℕ)). 47 ∷ join_with_byte 47 v) (without_parent_dirs-normal (p ∷ ps) k) in
    (ap (λ (v : List ℕ). Ok v) kept, omega arith, omega (arith, weighs, l))

rooted_stays : (r : List (List ℕ)) (most : ℕ) → 0 < most → Shaped r → AllWhole r → weight r ≤ most → Stays most (absolute_path r)
rooted_stays r most h s w l =
    let names : without_parent_dirs r ≡ s.names = ap without_parent_dirs s.same ∙ without_parent_dirs-kept s.parent_dirs s.names s.are_ups s.are_names in
    let light = without_lighter r in
    let weighs = ap weight names in
    subst (λ (v : List (List ℕ)). Stays most (47 ∷ join_with_byte 47 v)) (sym names)
    (names_stay s.names most h s.are_names (subst AllWhole names (without_whole r w)) (omega (arith, light, weighs, l)))

stays_by : (b : ℕ) (rest : List ℕ) (t : Bool) → Stays (suc (length rest)) (cond t (absolute_path (reduced (components_of rest))) (relative_path (reduced (components_of (b ∷ rest)))))
stays_by b rest true =
    let weighs = components_weight rest in
    let light = reduced_lighter (components_of rest) in
    rooted_stays (reduced (components_of rest)) (suc (length rest)) (omega arith) (shaped (components_of rest)) (reduced_whole (components_of rest) (components_slashless rest)) (omega (arith, weighs, light))
stays_by b rest false =
    let weighs = components_weight (b ∷ rest) in
    let light = reduced_lighter (components_of (b ∷ rest)) in
    relative_stays (reduced (components_of (b ∷ rest))) (suc (length rest)) (omega arith) (shaped (components_of (b ∷ rest))) (reduced_whole (components_of (b ∷ rest)) (components_slashless (b ∷ rest))) (omega (arith, weighs, light))

-- a canonical form is canonical, is not empty, and is no longer than its path
pub stays : (path form : List ℕ) → canonical_of path ≡ Ok form → Stays (length path) form
stays [] form e = cc
stays (b ∷ rest) form e =
    let same : cond (eqb b 47) (absolute_path (reduced (components_of rest))) (relative_path (reduced (components_of (b ∷ rest)))) ≡ form = cc in
    subst (Stays (suc (length rest))) same (stays_by b rest (eqb b 47))
