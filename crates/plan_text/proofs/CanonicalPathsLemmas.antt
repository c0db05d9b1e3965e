-- Paths whose parts are all normal. Lemmas for src/canonical_paths.rt.
use Rattle.std.proofs.Common.{◌≡◌, ℕ, Bool, true, false, not, ◌&&◌, ◌<◌, List, [], ◌∷◌, length, Ok, refl, ap, sym, ◌∙◌, cond, eqb, arith, ◌≤◌, ◌-◌, get_or, take, drop}
use Rattle.std.specs.List.{list_all, join_with_byte}
use Rattle.std.proofs.lemmas.List.{take_rest}
use Rattle.std.proofs.lemmas.List.Splits.{join_with_byte-slice_split, length-slice_split, slice_split-cons_yes}
use Rattle.plan_text.specs.Path.{is_current_dir, is_parent_dir, is_normal, component_onto, reduced, without_parent_dirs, components_of, relative_path, absolute_path, canonical_of}

and_parts : (x y : Bool) → (x && y) ≡ true → (x ≡ true) × (y ≡ true)
and_parts true y e = (refl, e)
and_parts false y e = cc

not_true : (x : Bool) → not x ≡ true → x ≡ false
not_true true e = cc
not_true false e = refl

not_current_dir : (p : List ℕ) → is_normal p ≡ true → is_current_dir p ≡ false
not_current_dir p e = not_true (is_current_dir p) (and_parts (not (is_current_dir p)) (not (is_parent_dir p)) e).0

not_parent_dir : (p : List ℕ) → is_normal p ≡ true → is_parent_dir p ≡ false
not_parent_dir p e = not_true (is_parent_dir p) (and_parts (not (is_current_dir p)) (not (is_parent_dir p)) e).1

front_stays : (p : List ℕ) (ps : List (List ℕ)) → is_current_dir p ≡ false → is_parent_dir p ≡ false → list_all is_normal ps ≡ true → component_onto p ps ≡ p ∷ ps
front_stays p [] n u e = rw (n, u) refl
front_stays p (q ∷ qs) n u e =
    let up : is_parent_dir q ≡ false = not_parent_dir q (and_parts (is_normal q) (list_all is_normal qs) e).0 in
    rw (n, u, up) refl

all_stay : (ps : List (List ℕ)) → list_all is_normal ps ≡ true → reduced ps ≡ ps
all_stay [] e = refl
all_stay (p ∷ ps) e =
    let parts = and_parts (is_normal p) (list_all is_normal ps) e in
    ap (component_onto p) (all_stay ps parts.1) ∙ front_stays p ps (not_current_dir p parts.0) (not_parent_dir p parts.0) parts.1

no_parent_dirs : (ps : List (List ℕ)) → list_all is_normal ps ≡ true → without_parent_dirs ps ≡ ps
no_parent_dirs [] e = refl
no_parent_dirs (p ∷ ps) e =
    let up : is_parent_dir p ≡ false = not_parent_dir p (and_parts (is_normal p) (list_all is_normal ps) e).0 in
    rw up refl

relative_joined : (ps : List (List ℕ)) → 0 < length ps → relative_path ps ≡ join_with_byte 47 ps
relative_joined [] h = absurd (omega arith)
relative_joined (p ∷ ps) h = refl

some_components : (path : List ℕ) → 0 < length (components_of path)
some_components path = let n = length-slice_split (λ b. eqb b 47) path in omega arith

relative_stays : (path : List ℕ) → list_all is_normal (components_of path) ≡ true → relative_path (reduced (components_of path)) ≡ path
relative_stays path e = ap relative_path (all_stay (components_of path) e) ∙ (relative_joined (components_of path) (some_components path) ∙ join_with_byte-slice_split 47 path)

-- an absolute path whose components are all normal is its canonical form
pub rooted_stays : (path rest : List ℕ) → path ≡ 47 ∷ rest → list_all is_normal (components_of rest) ≡ true → canonical_of path ≡ Ok path
rooted_stays path rest p e =
    let forms : absolute_path (reduced (components_of rest)) ≡ 47 ∷ rest = ap absolute_path (all_stay (components_of rest) e) ∙ ap (λ (t : List ℕ). 47 ∷ t) (ap (join_with_byte 47) (no_parent_dirs (components_of rest) e) ∙ join_with_byte-slice_split 47 rest) in
    ap canonical_of p ∙ (ap (λ (t : List ℕ). Ok t) forms ∙ ap (λ (t : List ℕ). Ok t) (sym p))

behind_first : (path : List ℕ) → 1 ≤ length path → get_or path 0 0 ≡ 47 → path ≡ 47 ∷ drop 1 path
behind_first [] h e = absurd (omega arith)
behind_first (b ∷ rest) h e = ap (λ x. x ∷ rest) e

-- a path that begins with a slash is a slash and the rest
pub cut_first : (path : List ℕ) → 1 ≤ length path → get_or path 0 0 ≡ 47 → path ≡ 47 ∷ take (length path - 1) (drop 1 path)
cut_first path h e = behind_first path h e ∙ ap (λ (t : List ℕ). 47 ∷ t) (sym (take_rest path 1))

first_by : (b : ℕ) (rest : List ℕ) (t : Bool) → eqb b 47 ≡ t → list_all is_normal (components_of (b ∷ rest)) ≡ true
    → cond t (absolute_path (reduced (components_of rest))) (relative_path (reduced (components_of (b ∷ rest)))) ≡ b ∷ rest
first_by b rest true f e =
    let parts = slice_split-cons_yes (λ x. eqb x 47) b rest f in
    let no : false ≡ true = ap (list_all is_normal) (sym parts) ∙ e in
    cc
first_by b rest false f e = relative_stays (b ∷ rest) e

-- a relative path whose components are all normal is its canonical form
pub path_stays : (path : List ℕ) → list_all is_normal (components_of path) ≡ true → canonical_of path ≡ Ok path
path_stays [] e = cc
path_stays (b ∷ rest) e = ap (λ (t : List ℕ). Ok t) (first_by b rest (eqb b 47) refl e)
