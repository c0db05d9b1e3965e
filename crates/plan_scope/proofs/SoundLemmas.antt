-- Each manifest is sound. Used for src/laws.rt, `manifests_are_sound`.
use Rattle.std.proofs.Common.{◌≡◌, ℕ, suc, ◌≤◌, ◌⊎◌, inl, inr, Bool, true, false, not, ◌||◌, ◌&&◌, List, [], ◌∷◌, ◌++◌, length, map, Option, Some, None, Result, Ok, Err, refl, ap, sym, subst, ◌∙◌, bytes_eq, cond, leb, lit≤, arith, append-nil, append_assoc, flat_map, unwrap_or}
use Rattle.std.specs.Prelude.{codes, is_none}
use Rattle.std.specs.List.{All, list_any}
use Rattle.std.proofs.lemmas.Bool.{ltb-false, eqb-true, leb-true}
use Rattle.std.proofs.lemmas.List.{length-map, map-append}
use Rattle.std.proofs.lemmas.List.Concat.{flat_map-append}
use Rattle.std.proofs.lemmas.List.Elements.{All-nil, All-cons, All-append}
use Rattle.plan_text.specs.Laws.{CanonicalStays}
use Rattle.plan_text.specs.Path.{canonical_of}
use Rattle.plan_text.specs.declared.piece_reader.Piece.{Piece}
use Rattle.plan_parse.specs.PathLists.{all_in}
use Rattle.plan_parse.specs.Build.{Build}
use Rattle.plan_parse.specs.Kinds.{StatementKind}
use Rattle.plan_parse.specs.Kinds as kind
use Rattle.plan_scope.specs.declared.fault.Cause.{Cause}
use Rattle.plan_scope.specs.declared.fault.Cause.TheVariants.{BadDepth, DuplicatePool, DuplicateRule, EmptyPath, PathTooLong, TextTooLong}
use Rattle.plan_scope.specs.declared.fault.ScopeFault.{ScopeFault}
use Rattle.plan_scope.specs.declared.manifest.DefaultTarget.{DefaultTarget}
use Rattle.plan_scope.specs.Edge.{Edge}
use Rattle.plan_scope.specs.declared.manifest.Manifest.{Manifest}
use Rattle.plan_scope.specs.declared.manifest.Pool.{Pool}
use Rattle.plan_scope.specs.declared.edge.variables.Variables.{Variables}
use Rattle.plan_scope.specs.Trees.{TreeStatement}
use Rattle.plan_scope.specs.Scopes.{Text, Name, Bindings, ScopedBindings, nearest, lookup, expand, bound_by, is_too_long, is_long_path, is_empty}
use Rattle.plan_text.specs.Limits.{max_path, max_text}
use Rattle.plan_text.specs.Numerals.{is_numeral, number_past}
use Rattle.plan_scope.specs.Edges.{texts_of_variables, canonical_paths, has_empty, has_long, texts_of, block_of, builds_in, builds_of, edge_of_build, canonical_or, causes_of, console, defaults_alone, depth_in, edge_alone, edge_of_rule, edge_of, edge_or_refusal, first_of, manifest_of_kind, manifest_past, in_front, is_among, is_taken, manifest_of, map_ok, max_depth, names_no_pool, near, empty_manifest, or_refused, path_of, paths_of, phony_variables, pool_alone, pool_by, pools_in, pools_of, rules_of, target_at, targets_by, environment_of, variables_of, with_front, with_more}
use Rattle.plan_scope.specs.Sound.{AreApart, IsPath, IsSound, IsSoundEdge, MakesSome, names_of}
use Rattle.plan_scope.proofs.PathLemmas.{forms_in, or_parts}

-- None of these causes applies.
abbrev NoneStands : List (Bool × Cause) → Type 0
NoneStands [] = Unit {0}
NoneStands (x ∷ more) = (x.0 ≡ false) × NoneStands more

first_none : (test : Bool) (cause : Cause) (more : List (Bool × Cause)) → first_of ((test, cause) ∷ more) ≡ None → (test ≡ false) × (first_of more ≡ None)
first_none true cause more e = cc
first_none false cause more e = (refl, e)

none_stands : (causes : List (Bool × Cause)) → first_of causes ≡ None → NoneStands causes
none_stands [] e = tt {0}
none_stands (x ∷ more) e = let r = first_none x.0 x.1 more e in (r.0, none_stands more r.1)

not_refused : {A : Type 0} (cause : Option Cause) (x y : A) → or_refused cause x ≡ Ok y → (cause ≡ None) × (x ≡ y)
not_refused None x y e = let k : x ≡ y = cc in (refl, k)
not_refused (Some cause) x y e = cc

-- The canonical form of a path that has bytes and isn't too long.
path_sound : CanonicalStays → (path : Text) → is_empty path ≡ false → is_long_path path ≡ false → IsPath (path_of path)
path_sound s [] n l = cc
path_sound s (b ∷ rest) n l =
    let le : length (b ∷ rest) ≤ max_path = ltb-false max_path (length (b ∷ rest)) l in
    let form : Text = canonical_or (b ∷ rest) (canonical_of (b ∷ rest)) in
    let is = s (b ∷ rest) form refl in
    subst IsPath (ap (λ t. cond t (b ∷ rest) form) (sym l)) (record { canonical = is.0; present = is.1; short = omega (arith, is.2) })

paths_sound : CanonicalStays → (paths : List Text) → list_any is_empty paths ≡ false → list_any is_long_path paths ≡ false → All IsPath (map path_of paths)
paths_sound s [] n l = All-nil IsPath
paths_sound s (p ∷ ps) n l =
    let none = or_parts (is_empty p) (list_any is_empty ps) n in
    let short = or_parts (is_long_path p) (list_any is_long_path ps) l in
    All-cons IsPath (path_of p) (map path_of ps) (path_sound s p none.0 short.0) (paths_sound s ps none.1 short.1)

-- Two tests, the later of which is one of two.
known_by : (e l a : Bool) → (not e && (l || not a)) ≡ false → (e ≡ true) ⊎ (a ≡ true)
known_by true l a h = inl refl
known_by false true a h = cc
known_by false false true h = inr refl
known_by false false false h = cc

no_byte : (text : Text) → is_empty text ≡ true → text ≡ []
no_byte [] e = refl
no_byte (b ∷ rest) e = let f : length (b ∷ rest) ≡ 0 = eqb-true (length (b ∷ rest)) 0 e in let g : ⊥ = omega (arith, f) in absurd g

pool_known : (pools : List Name) (text : Text) → names_no_pool pools text ≡ false → (text ≡ []) ⊎ (is_among pools text ≡ true)
pool_known pools text h = known (known_by (is_empty text) (is_too_long text) (is_among pools text) h)
  where
    known : (is_empty text ≡ true) ⊎ (is_among pools text ≡ true) → (text ≡ []) ⊎ (is_among pools text ≡ true)
    known (inl e) = inl (no_byte text e)
    known (inr e) = inr e

-- Variables of which only one has a text.
record NoTexts (v : Variables) : Type 0 where
  command : v.command ≡ []
  description : v.description ≡ []
  depfile : v.depfile ≡ []
  pool : v.pool ≡ []

edge_sound : CanonicalStays → (pools : List Name) (here : Name → Text) (b : Build) (v : Variables) (is_phony : Bool) (e : Edge) → MakesSome b → (is_phony ≡ true → NoTexts v)
    → edge_or_refusal pools here b v is_phony ≡ Ok e → IsSoundEdge pools e
edge_sound s pools here b v is_phony e some texts h =
    let block : Bindings Text = block_of here b.bindings in
    let at : Name → Text = near here block in
    let paths = texts_of at b in
    let causes = causes_of pools v (has_empty paths) (has_long paths) (list_any (λ (x : Name × Text). is_too_long x.1) block) in
    let r = not_refused (first_of causes) (edge_of (canonical_paths paths) v is_phony) e h in
    let c = none_stands causes r.0 in
    let long = is_too_long in
    let t = or_parts (list_any long (texts_of_variables v)) _ c.1.1.1.1.1.1.1.0 in
    let t1 = or_parts (long v.command) _ t.0 in
    let t2 = or_parts (long v.depfile) _ t1.1 in
    let t3 = or_parts (long v.deps) _ t2.1 in
    let t4 = or_parts (long v.description) _ t3.1 in
    subst (IsSoundEdge pools) r.1 (record {
      made = omega (arith, some, length-map paths.outputs path_of, length-map b.paths.outputs (expand at), length-map paths.implicit_outputs path_of, length-map b.paths.implicit_outputs (expand at));
      paths = subst (All IsPath) (forms_in paths) (paths_sound s (all_in paths) c.1.1.0 c.1.1.1.1.1.1.0);
      command = ltb-false max_text (length v.command) t1.0;
      description = ltb-false max_text (length v.description) t4.0;
      depfile = ltb-false max_text (length v.depfile) t2.0;
      pool = pool_known pools v.pool c.0;
      phony = λ p. let n = texts p in record { command = n.command; description = n.description; depfile = n.depfile; pool = n.pool };
    })

not_phony : (v : Variables) → false ≡ true → NoTexts v
not_phony v e = cc

by_sound : CanonicalStays → (pools : List Name) (here file : Name → Text) (b : Build) (rule : Option (Bindings (List Piece))) (e : Edge) → MakesSome b → edge_of_rule pools here file b rule ≡ Ok e → IsSoundEdge pools e
by_sound s pools here file b None e some h = cc
by_sound s pools here file b (Some rule) e some h = edge_sound s pools here b (variables_of (environment_of here file b rule)) false e some (not_phony (variables_of (environment_of here file b rule))) h

built_sound : CanonicalStays → (pools : List Name) (rules : ScopedBindings (Bindings (List Piece))) (scopes : List ℕ) (here file : Name → Text) (b : Build) (e : Edge) → MakesSome b
    → edge_of_build pools rules scopes here file b ≡ Ok e → IsSoundEdge pools e
built_sound s pools rules scopes here file b e some h = either (bytes_eq b.rule (codes "phony")) h
  where
    either : (t : Bool) → cond t (edge_or_refusal pools here b (phony_variables (environment_of here file b [])) true) (edge_of_rule pools here file b (nearest rules scopes b.rule)) ≡ Ok e → IsSoundEdge pools e
    either true h = edge_sound s pools here b (phony_variables (environment_of here file b [])) true e some (λ p. record { command = refl; description = refl; depfile = refl; pool = refl }) h
    either false h = by_sound s pools here file b (nearest rules scopes b.rule) e some h

-- The additions of statements, given the names of all pools and of those above, and the names of their own pools.
record Adds (pools before names : List Name) (m : Manifest) : Type 0 where
  edges : All (IsSoundEdge pools) m.edges
  apart : AreApart before (names_of m.pools)
  named : names_of m.pools ≡ names
  depths : All (λ p. p.depth ≤ max_depth) m.pools
  defaults : All (λ d. IsPath d.path) m.defaults

apart_append : (before xs ys : List Name) → AreApart before xs → AreApart (before ++ xs) ys → AreApart before (xs ++ ys)
apart_append before [] ys a b = subst (λ (l : List Name). AreApart l ys) (append-nil before) b
apart_append before (x ∷ xs) ys a b = (a.0, apart_append (before ++ x ∷ []) xs ys a.1 (subst (λ (l : List Name). AreApart l ys) (sym (append_assoc before (x ∷ []) xs)) b))

adds_more : (pools before ns ks : List Name) (x y : Manifest) → Adds pools before ns x → Adds pools (before ++ ns) ks y → Adds pools before (ns ++ ks) (with_more x y)
adds_more pools before ns ks x y a b =
    let names : names_of (x.pools ++ y.pools) ≡ names_of x.pools ++ names_of y.pools = map-append (λ (p : Pool). p.name) x.pools y.pools in
    record {
      edges = All-append (IsSoundEdge pools) x.edges y.edges a.edges b.edges;
      apart = subst (AreApart before) (sym names) (apart_append before (names_of x.pools) (names_of y.pools) a.apart (subst (λ (l : List Name). AreApart (before ++ l) (names_of y.pools)) (sym a.named) b.apart));
      named = names ∙ (ap (λ (l : List Name). l ++ names_of y.pools) a.named ∙ ap (λ (l : List Name). ns ++ l) b.named);
      depths = All-append (λ p. p.depth ≤ max_depth) x.pools y.pools a.depths b.depths;
      defaults = All-append (λ d. IsPath d.path) x.defaults y.defaults a.defaults b.defaults;
    }

adds_nothing : (pools before : List Name) → Adds pools before [] empty_manifest
adds_nothing pools before = record { edges = All-nil (IsSoundEdge pools); apart = tt {0}; named = refl; depths = All-nil (λ p. p.depth ≤ max_depth); defaults = All-nil (λ d. IsPath d.path) }

nothing_given : (pools before : List Name) (t : Bool) (cause : Cause) (m : Manifest) → cond t (Err cause) (Ok empty_manifest) ≡ Ok m → Adds pools before [] m
nothing_given pools before true cause m e = cc
nothing_given pools before false cause m e = let k : empty_manifest ≡ m = cc in subst (Adds pools before []) k (adds_nothing pools before)

mapped_parts : {A B : Type 0} (f : A → B) (r : Result A Cause) (y : B) → map_ok f r ≡ Ok y → (x : A) × (r ≡ Ok x) × (f x ≡ y)
mapped_parts f (Ok x) y e = let k : f x ≡ y = cc in (x, refl, k)
mapped_parts f (Err cause) y e = cc

depth_small : (short digits t : Bool) (n : ℕ) → (t ≡ true → n ≤ max_depth) → unwrap_or (cond short (cond digits (cond t (Some n) None) None) None) 0 ≤ max_depth
depth_small true true true n h = h refl
depth_small true true false n h = lit≤ tt
depth_small true false t n h = lit≤ tt
depth_small false digits t n h = lit≤ tt

both_true : (a b : Bool) → (a && b) ≡ true → (a ≡ true) × (b ≡ true)
both_true true b h = (refl, h)
both_true false b h = cc

pool_given : (pools before : List Name) (name : Name) (text : Text) (p : Pool) → pool_by before name text ≡ Ok p → Adds pools before (name ∷ []) (pool_alone p)
pool_given pools before name text p h =
    let made : Pool = record { name = name; depth = unwrap_or (depth_in text) 0 } in
    let causes : List (Bool × Cause) = (is_among before name, DuplicatePool) ∷ (is_too_long text, TextTooLong) ∷ (is_none (depth_in text), BadDepth) ∷ [] in
    let r = not_refused (first_of causes) made p h in
    let c = none_stands causes r.0 in
    let n = number_past 0 text in
    let small : made.depth ≤ max_depth = depth_small (leb (length text) 7) (is_numeral text) (leb n max_depth) n (λ e. leb-true n max_depth e) in
    subst (λ (q : Pool). Adds pools before (name ∷ []) (pool_alone q)) r.1 (record {
      edges = All-nil (IsSoundEdge pools);
      apart = (c.0, tt {0});
      named = refl;
      depths = All-cons (λ p. p.depth ≤ max_depth) made [] small (All-nil (λ p. p.depth ≤ max_depth));
      defaults = All-nil (λ d. IsPath d.path);
    })

targets_sound : CanonicalStays → (n : ℕ) (paths : List Text) → list_any is_empty paths ≡ false → list_any is_long_path paths ≡ false → All (λ d. IsPath d.path) (map (target_at n) paths)
targets_sound s n [] e l = All-nil (λ d. IsPath d.path)
targets_sound s n (p ∷ ps) e l =
    let none = or_parts (is_empty p) (list_any is_empty ps) e in
    let short = or_parts (is_long_path p) (list_any is_long_path ps) l in
    All-cons (λ d. IsPath d.path) (target_at n p) (map (target_at n) ps) (path_sound s p none.0 short.0) (targets_sound s n ps none.1 short.1)

defaults_given : CanonicalStays → (pools before : List Name) (n : ℕ) (paths : List Text) (targets : List DefaultTarget) → targets_by n paths ≡ Ok targets → Adds pools before [] (defaults_alone targets)
defaults_given s pools before n paths targets h =
    let causes : List (Bool × Cause) = (list_any is_empty paths, EmptyPath) ∷ (list_any is_long_path paths, PathTooLong) ∷ [] in
    let r = not_refused (first_of causes) (map (target_at n) paths) targets h in
    let c = none_stands causes r.0 in
    subst (λ (ts : List DefaultTarget). Adds pools before [] (defaults_alone ts)) r.1
    (record { edges = All-nil (IsSoundEdge pools); apart = tt {0}; named = refl; depths = All-nil (λ p. p.depth ≤ max_depth); defaults = targets_sound s n paths c.0 c.1.0 })

-- Each item of a list has a property.
abbrev Every : {X : Type 0} → (X → Type 0) → List X → Type 0
Every P [] = Unit {0}
Every P (x ∷ xs) = P x × Every P xs

every_of : {X : Type 0} (P : X → Type 0) (xs : List X) → All P xs → Every P xs
every_of P [] a = tt {0}
every_of P (x ∷ xs) a = (a 0 x (omega arith), every_of P xs (λ k d lt. a (suc k) d (omega arith)))

every_parts : {X : Type 0} (P : X → Type 0) (xs ys : List X) → Every P (xs ++ ys) → Every P xs × Every P ys
every_parts P [] ys a = (tt {0}, a)
every_parts P (x ∷ xs) ys a = let more = every_parts P xs ys a.1 in ((a.0, more.0), more.1)

-- The addition of a statement.
given_sound : CanonicalStays → (all above : List TreeStatement) (scopes : List ℕ) (k : StatementKind) (m : Manifest) → Every MakesSome (builds_in k) → manifest_of_kind all above scopes k ≡ Ok m → Adds (pools_of all) (pools_of above) (pools_in k) m
given_sound s all above scopes (kind.Rule r) m some h = nothing_given (pools_of all) (pools_of above) (is_taken (rules_of above) scopes r.name) DuplicateRule m h
given_sound s all above scopes (kind.Build b) m some h =
    let r = mapped_parts edge_alone (edge_of_build (pools_of all) (rules_of above) scopes (lookup (bound_by above) scopes) (lookup (bound_by all) scopes) b) m h in
    let e = built_sound s (pools_of all) (rules_of above) scopes (lookup (bound_by above) scopes) (lookup (bound_by all) scopes) b r.0 some.0 r.1 in
    subst (Adds (pools_of all) (pools_of above) []) r.2 (record {
      edges = All-cons (IsSoundEdge (pools_of all)) r.0 [] e (All-nil (IsSoundEdge (pools_of all)));
      apart = tt {0};
      named = refl;
      depths = All-nil (λ p. p.depth ≤ max_depth);
      defaults = All-nil (λ d. IsPath d.path);
    })
given_sound s all above scopes (kind.Pool p) m some h =
    let text = expand (lookup (bound_by above) scopes) p.depth in
    let r = mapped_parts pool_alone (pool_by (pools_of above) p.name text) m h in
    subst (Adds (pools_of all) (pools_of above) (p.name ∷ [])) r.2 (pool_given (pools_of all) (pools_of above) p.name text r.0 r.1)
given_sound s all above scopes (kind.Default targets) m some h =
    let paths = paths_of (lookup (bound_by above) scopes) targets in
    let r = mapped_parts defaults_alone (targets_by (length (builds_of above)) paths) m h in
    subst (Adds (pools_of all) (pools_of above) []) r.2 (defaults_given s (pools_of all) (pools_of above) (length (builds_of above)) paths r.0 r.1)
given_sound s all above scopes (kind.Include path) m some h = nothing_given (pools_of all) (pools_of above) false DuplicateRule m h
given_sound s all above scopes (kind.Subninja path) m some h = nothing_given (pools_of all) (pools_of above) false DuplicateRule m h
given_sound s all above scopes (kind.Binding b) m some h = nothing_given (pools_of all) (pools_of above) false DuplicateRule m h

front_parts : (l : TreeStatement) (g : Result Manifest Cause) (r : Result Manifest ScopeFault) (m : Manifest) → in_front l g r ≡ Ok m → (x : Manifest) × (g ≡ Ok x) × (y : Manifest) × (r ≡ Ok y) × (with_more x y ≡ m)
front_parts l (Ok x) (Ok y) m e = let k : with_more x y ≡ m = cc in (x, refl, y, refl, k)
front_parts l (Ok x) (Err fault) m e = cc
front_parts l (Err cause) r m e = cc

abbrev declared_in : TreeStatement → List Name
declared_in l = pools_in l.kind

pools_more : (above : List TreeStatement) (l : TreeStatement) → pools_of (above ++ l ∷ []) ≡ pools_of above ++ pools_in l.kind
pools_more above l =
    ap (λ (ns : List Name). codes "console" ∷ ns) (flat_map-append declared_in above (l ∷ []) ∙ ap (λ (ns : List Name). flat_map declared_in above ++ ns) (append-nil (pools_in l.kind)))

-- The additions of statements.
past_sound : CanonicalStays → (all above statements : List TreeStatement) (m : Manifest) → Every MakesSome (builds_of statements) → manifest_past all above statements ≡ Ok m
    → Adds (pools_of all) (pools_of above) (flat_map declared_in statements) m
past_sound s all above [] m some h = let k : empty_manifest ≡ m = cc in subst (Adds (pools_of all) (pools_of above) []) k (adds_nothing (pools_of all) (pools_of above))
past_sound s all above (l ∷ more) m some h =
    let parts = every_parts MakesSome (builds_in l.kind) (builds_of more) some in
    let r = front_parts l (manifest_of_kind all above l.scopes l.kind) (manifest_past all (above ++ l ∷ []) more) m h in
    let one = given_sound s all above l.scopes l.kind r.0 parts.0 r.1 in
    let others = past_sound s all (above ++ l ∷ []) more r.2 parts.1 r.3 in
    subst (Adds (pools_of all) (pools_of above) (flat_map declared_in (l ∷ more))) r.4
    (adds_more (pools_of all) (pools_of above) (pools_in l.kind) (flat_map declared_in more) r.0 r.2 one
    (subst (λ (ns : List Name). Adds (pools_of all) ns (flat_map declared_in more) r.2) (pools_more above l) others))

begun : (pools : List Name) → Adds pools [] (codes "console" ∷ []) (pool_alone console)
begun pools = record {
  edges = All-nil (IsSoundEdge pools);
  apart = (refl, tt {0});
  named = refl;
  depths = All-cons (λ p. p.depth ≤ max_depth) console [] (lit≤ tt) (All-nil (λ p. p.depth ≤ max_depth));
  defaults = All-nil (λ d. IsPath d.path);
}

whole_parts : (front : Manifest) (r : Result Manifest ScopeFault) (m : Manifest) → with_front front r ≡ Ok m → (y : Manifest) × (r ≡ Ok y) × (with_more front y ≡ m)
whole_parts front (Ok y) m e = let k : with_more front y ≡ m = cc in (y, refl, k)
whole_parts front (Err fault) m e = cc

-- Each manifest.
pub manifest_sound : CanonicalStays → (statements : List TreeStatement) (m : Manifest) → All MakesSome (builds_of statements) → manifest_of statements ≡ Ok m → IsSound m
manifest_sound s statements m some h =
    let r = whole_parts (pool_alone console) (manifest_past statements [] statements) m h in
    let rest = past_sound s statements [] statements r.0 (every_of MakesSome (builds_of statements) some) r.1 in
    let all = subst (Adds (pools_of statements) [] (pools_of statements)) r.2 (adds_more (pools_of statements) [] (codes "console" ∷ []) (flat_map declared_in statements) (pool_alone console) r.0 (begun (pools_of statements)) rest) in
    record { edges = subst (λ (ns : List Name). All (IsSoundEdge ns) m.edges) (sym all.named) all.edges; pools = all.apart; depths = all.depths; defaults = all.defaults }
