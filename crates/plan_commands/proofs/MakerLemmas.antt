-- The maker that a map has for a path after one more edge is recorded as the maker of its files. Serves src/makers.rt.
use Rattle.std.proofs.Common.{Bool, true, false, ◌≡◌, ◌<◌, ◌+◌, ℕ, List, ◌∷◌, Option, Some, None, cond, drop, get_or, length, bytes_eq, ap, refl, subst, sym, ◌∙◌}
use Rattle.std.proofs.lemmas.List.{drop_more}
use Rattle.std.specs.List.{list_any}
use Rattle.std.specs.Prelude.{◌||◌, if◌then◌else◌, slice_get}
use Rattle.plan_image.specs.declared.image.Edge.{Edge}
use Rattle.plan_image.specs.declared.image.Parts.{Parts}
use Rattle.plan_image.specs.Makers.{first_maker, is_named, is_path, makes}

either_way : (named more : Bool) (e : ℕ) (old : Option ℕ) → (if more then Some e else cond named (Some e) old) ≡ (if named || more then Some e else old)
either_way true true e old = refl
either_way true false e old = refl
either_way false true e old = refl
either_way false false e old = refl

one_file : (p : Parts) (path files : List ℕ) (i e : ℕ) (old new all : Option ℕ) → i < length files → new ≡ cond (is_named p path (get_or files i 0)) (Some e) old
    → (if list_any (λ f. is_named p path f) (drop i files) then Some e else old) ≡ all → (if list_any (λ f. is_named p path f) (drop (i + 1) files) then Some e else new) ≡ all
one_file p path files i e old new all lt is so_far =
    let more : Bool = list_any (λ f. is_named p path f) (drop (i + 1) files) in
    ap (λ (o : Option ℕ). if more then Some e else o) is
    ∙ either_way (is_named p path (get_or files i 0)) more e old
    ∙ ap (λ (fs : List ℕ). if list_any (λ f. is_named p path f) fs then Some e else old) (sym (drop_more files i 0 lt))
    ∙ so_far

-- A file with a name gets the edge as its maker.
pub named_file : (p : Parts) (path name files : List ℕ) (i e : ℕ) (old new all : Option ℕ) → i < length files → Some name ≡ slice_get p.files (get_or files i 0)
    → new ≡ cond (bytes_eq name path) (Some e) old
    → (if list_any (λ f. is_named p path f) (drop i files) then Some e else old) ≡ all → (if list_any (λ f. is_named p path f) (drop (i + 1) files) then Some e else new) ≡ all
named_file p path name files i e old new all lt there is so_far =
    one_file p path files i e old new all lt (is ∙ ap (λ (b : Bool). cond b (Some e) old) (ap (is_path path) there)) so_far

-- A file without a name changes the maker of no path.
pub nameless_file : (p : Parts) (path files : List ℕ) (i e : ℕ) (old new all : Option ℕ) → i < length files → None ≡ slice_get p.files (get_or files i 0) → new ≡ old
    → (if list_any (λ f. is_named p path f) (drop i files) then Some e else old) ≡ all → (if list_any (λ f. is_named p path f) (drop (i + 1) files) then Some e else new) ≡ all
nameless_file p path files i e old new all lt none is so_far =
    one_file p path files i e old new all lt (is ∙ ap (λ (b : Bool). cond b (Some e) old) (ap (is_path path) none)) so_far

one_edge : (p : Parts) (path : List ℕ) (x : Edge) (m n : ℕ) (old new : Option ℕ) → drop m p.edges ≡ x ∷ drop (m + 1) p.edges → m + 1 ≡ n → new ≡ (if makes p path x then Some m else old)
    → old ≡ first_maker p path n (drop n p.edges) → new ≡ first_maker p path m (drop m p.edges)
one_edge p path x m n old new here next is so_far =
    is
    ∙ ap (λ (o : Option ℕ). if makes p path x then Some m else o) (so_far ∙ ap (λ (k : ℕ). first_maker p path k (drop k p.edges)) (sym next))
    ∙ ap (first_maker p path m) (sym here)

-- One more edge is added before the edges whose files have their makers.
pub edge_in_front : (p q : Parts) (path : List ℕ) (x : Edge) (m n : ℕ) (old new : Option ℕ) → p ≡ q → drop m p.edges ≡ x ∷ drop (m + 1) p.edges → m + 1 ≡ n
    → new ≡ (if makes p path x then Some m else old) → old ≡ first_maker q path n (drop n q.edges) → new ≡ first_maker q path m (drop m q.edges)
edge_in_front p q path x m n old new same here next is so_far =
    subst (λ (r : Parts). old ≡ first_maker r path n (drop n r.edges) → new ≡ first_maker r path m (drop m r.edges)) same (one_edge p path x m n old new here next is) so_far
