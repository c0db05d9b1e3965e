-- Variables with equal kept texts, and the edges that they give. Used for src/edge/variables.rt and
-- src/edge/build_line.rt.
use Rattle.std.proofs.Common.{◌≡◌, ℕ, zero, suc, Bool, true, false, not, ◌||◌, ◌&&◌, ◌<◌, List, [], ◌∷◌, length, map, Option, Some, None, Result, Ok, Err, refl, ap, sym, ◌∙◌, bytes_eq, option_map, cond, inl, inr, arith, subst, IfOk}
use Rattle.std.specs.Prelude.{codes, is_none}
use Rattle.std.specs.List.{list_any, join_with_byte}
use Rattle.std.proofs.lemmas.Bool.{lt-ltb, ltb-false}
use Rattle.std.proofs.lemmas.Result.{IfOk-weaker}
use Rattle.std.proofs.lemmas.Slice.Eq.{bytes_eq-Decides}
use Rattle.plan_text.specs.declared.piece_reader.Piece.{Piece}
use Rattle.plan_text.specs.declared.piece_reader.Piece.TheVariants.{Literal, Reference}
use Rattle.plan_parse.specs.Build.{Build}
use Rattle.plan_scope.specs.declared.edge.build_line.Parts.{Parts}
use Rattle.plan_scope.specs.declared.fault.Cause.{Cause}
use Rattle.plan_scope.specs.declared.fault.Cause.TheVariants.{UnknownPool, RuleCycle, EmptyPath, Dyndep, Rspfile, DepsKind, PathTooLong, TextTooLong}
use Rattle.plan_scope.specs.declared.edge.variables.Variables.{Variables}
use Rattle.plan_scope.specs.Scopes.{Text, Name, Bindings, last_of, is_too_long, is_empty}
use Rattle.plan_text.specs.Limits.{max_text}
use Rattle.plan_scope.specs.Expansion.{EdgeEnvironment, plain, quoted, listed, Meaning, Known, Late, or_known, or_late, meaning_of, both, text_of_piece, joined, text_of, text_within, variable}
use Rattle.plan_scope.specs.Edges.{canonical_paths, causes_of, edge_of, edge_or_refusal, first_of, is_among, is_other_deps, is_present, meets_cycle, names_no_pool, or_refused, phony_variables, plain_names, quoted_names, text_of_variable, texts_of_variables, environment_of, variables_of}
use Rattle.plan_scope.specs.Kept.{kept, KeptEqBindings, KeptEqVariables, EqNames, KeptEqLookup}
use Rattle.plan_scope.specs.Parts.{IsRead, texts_in, environment_from}
use Rattle.plan_scope.proofs.TextLemmas.{Same, same_from_kept, kept_append, kept_or, kept_paths, kept_quoted, long_kept}
use Rattle.plan_scope.proofs.PathLemmas.{empty_kept, exact_kept, kept_lists, or_parts}

-- Equal items make equal lists.
infixr 10 ◌∷≡◌
pub ◌∷≡◌ : {X : Type 0} {x y : X} {xs ys : List X} → x ≡ y → xs ≡ ys → x ∷ xs ≡ y ∷ ys
e ∷≡ f = cc

-- A test of one more item.
pub also : (t u w c : Bool) → t ≡ (u || c) → u ≡ w → t ≡ (w || c)
also t u w c e f = e ∙ ap (λ x. x || c) f

-- Variables that were checked for memory mean what they mean if memory was sufficient.
pub checked_are : {E : Type 0} (r : Result Variables E) (variables meant : Variables) (has_memory : Bool) → IfOk r (λ v. (v ≡ variables) × (has_memory ≡ true))
    → (has_memory ≡ true → KeptEqVariables variables meant) → IfOk r (λ v. KeptEqVariables v meant)
checked_are r variables meant has_memory checked means =
    IfOk-weaker r _ _ (λ v is. subst (λ (w : Variables). KeptEqVariables w meant) (sym is.0) (means is.1)) checked

-- Two tests with the same result.
pub or_both : (a b c d : Bool) → a ≡ c → b ≡ d → (a || b) ≡ (c || d)
or_both a b c d e f = cc

-- Whether an item of a list passes, item by item.
abbrev any_past : {A : Type 0} → (A → Bool) → Bool → List A → Bool
any_past test t [] = t
any_past test t (x ∷ xs) = any_past test (t || test x) xs

or_assoc : (a b c : Bool) → ((a || b) || c) ≡ (a || (b || c))
or_assoc true b c = refl
or_assoc false b c = refl

-- The result is whether one of the items passes.
pub any_past_is : {A : Type 0} (test : A → Bool) (t : Bool) (xs : List A) → any_past test t xs ≡ (t || list_any test xs)
any_past_is test true [] = refl
any_past_is test false [] = refl
any_past_is test t (x ∷ xs) = any_past_is test (t || test x) xs ∙ or_assoc t (test x) (list_any test xs)

-- A quoting that gives equal kept texts for equal kept texts.
abbrev Shows : (Text → Text) → Type 0
Shows show = (a b : Text) → kept a ≡ kept b → kept (show a) ≡ kept (show b)

shows_plain : Shows plain
shows_plain a b e = e

shows_quoted : Shows quoted
shows_quoted a b e = kept_quoted a b e

-- The kept part of a meaning.
abbrev seen : Meaning → Result (Option Text) (List Piece)
seen (Known text) = Ok (kept text)
seen (Late pieces) = Err pieces

seen_listed : (a b : Option Text) (m n : Meaning) → option_map kept a ≡ option_map kept b → seen m ≡ seen n → seen (or_known a m) ≡ seen (or_known b n)
seen_listed None None m n e f = f
seen_listed None (Some y) m n e f = cc
seen_listed (Some x) None m n e f = cc
seen_listed (Some x) (Some y) m n e f = let k : kept x ≡ kept y = cc in ap (λ o. Ok o) k

seen_late : (o : Option (List Piece)) (m n : Meaning) → seen m ≡ seen n → seen (or_late o m) ≡ seen (or_late o n)
seen_late None m n f = f
seen_late (Some ps) m n f = refl

-- Two edges with environments that are kept equally.
pub record Alike (u v : EdgeEnvironment) : Type 0 where
  pub inputs : map kept u.inputs ≡ map kept v.inputs
  pub outputs : map kept u.outputs ≡ map kept v.outputs
  pub block : KeptEqBindings u.block v.block
  pub rule : u.rule ≡ v.rule
  pub file : KeptEqLookup u.file v.file

cond_kept : (t : Bool) (a b : Text) (o p : Option Text) → kept a ≡ kept b → option_map kept o ≡ option_map kept p → option_map kept (cond t (Some a) o) ≡ option_map kept (cond t (Some b) p)
cond_kept true a b o p e f = ap (λ (o : Option Text). Some o) e
cond_kept false a b o p e f = f

listed_alike : (show : Text → Text) → Shows show → (u v : EdgeEnvironment) → Alike u v → (name : Name) → option_map kept (listed show u name) ≡ option_map kept (listed show v name)
listed_alike show t u v h name =
    let ins = λ (s : ℕ) (e : EdgeEnvironment). join_with_byte s (map show e.inputs) in
    let outs = λ (s : ℕ) (e : EdgeEnvironment). join_with_byte s (map show e.outputs) in
    let newline = λ (e : EdgeEnvironment). cond (bytes_eq name (codes "in_newline")) (Some (ins 10 e)) None in
    let out = λ (e : EdgeEnvironment). cond (bytes_eq name (codes "out")) (Some (outs 32 e)) (newline e) in
    cond_kept (bytes_eq name (codes "in")) (ins 32 u) (ins 32 v) (out u) (out v) (kept_paths show t 32 u.inputs v.inputs h.inputs)
    (cond_kept (bytes_eq name (codes "out")) (outs 32 u) (outs 32 v) (newline u) (newline v) (kept_paths show t 32 u.outputs v.outputs h.outputs)
    (cond_kept (bytes_eq name (codes "in_newline")) (ins 10 u) (ins 10 v) None None (kept_paths show t 10 u.inputs v.inputs h.inputs) refl))

meaning_alike : (show : Text → Text) → Shows show → (u v : EdgeEnvironment) → Alike u v → (name : Name) → seen (meaning_of show u name) ≡ seen (meaning_of show v name)
meaning_alike show t u v h name =
    seen_listed (listed show u name) (listed show v name) _ _ (listed_alike show t u v h name)
    (seen_listed (last_of name u.block) (last_of name v.block) _ _ (h.block name)
    (seen_late (last_of name u.rule) (Known (u.file name)) (Known (v.file name)) (ap (λ o. Ok o) (h.file name))
    ∙ ap (λ r. seen (or_late (last_of name r) (Known (v.file name)))) h.rule))

both_kept : (a b c d : Option Text) → option_map kept a ≡ option_map kept b → option_map kept c ≡ option_map kept d → option_map kept (both a c) ≡ option_map kept (both b d)
both_kept None None c d e f = refl
both_kept None (Some y) c d e f = cc
both_kept (Some x) None c d e f = cc
both_kept (Some x) (Some y) None None e f = refl
both_kept (Some x) (Some y) None (Some w) e f = cc
both_kept (Some x) (Some y) (Some z) None e f = cc
both_kept (Some x) (Some y) (Some z) (Some w) e f =
    let k : kept x ≡ kept y = cc in
    let l : kept z ≡ kept w = cc in
    ap (λ (o : Option Text). Some o) (kept_append x y z w k l)

piece_kept : (f g : Name → Option Text) → ((n : Name) → option_map kept (f n) ≡ option_map kept (g n)) → (p : Piece) → option_map kept (text_of_piece f p) ≡ option_map kept (text_of_piece g p)
piece_kept f g h (Literal t) = refl
piece_kept f g h (Reference n) = h n

joined_kept : (f g : Name → Option Text) → ((n : Name) → option_map kept (f n) ≡ option_map kept (g n)) → (ps : List Piece) → option_map kept (joined f ps) ≡ option_map kept (joined g ps)
joined_kept f g h [] = refl
joined_kept f g h (p ∷ ps) = both_kept (text_of_piece f p) (text_of_piece g p) (joined f ps) (joined g ps) (piece_kept f g h p) (joined_kept f g h ps)

text_kept : (a b : Meaning) (t : Bool) (f g : List Piece → Option Text) → seen a ≡ seen b → ((ps : List Piece) → option_map kept (f ps) ≡ option_map kept (g ps))
    → option_map kept (text_of a t f) ≡ option_map kept (text_of b t g)
text_kept (Known x) (Known y) t f g e h = let k : kept x ≡ kept y = cc in ap (λ (o : Option Text). Some o) k
text_kept (Known x) (Late q) t f g e h = cc
text_kept (Late p) (Known y) t f g e h = cc
text_kept (Late p) (Late q) true f g e h = refl
text_kept (Late p) (Late q) false f g e h = let k : p ≡ q = cc in h p ∙ ap (λ ps. option_map kept (g ps)) k

within_kept : (n : ℕ) (m k : Name → Meaning) → ((x : Name) → seen (m x) ≡ seen (k x)) → (used : List Name) (name : Name) → option_map kept (text_within n m used name) ≡ option_map kept (text_within n k used name)
within_kept zero m k h used name = text_kept (m name) (k name) true (λ _. None) (λ _. None) (h name) (λ _. refl)
within_kept (suc n) m k h used name =
    text_kept (m name) (k name) (list_any (bytes_eq name) used) (joined (text_within n m (name ∷ used))) (joined (text_within n k (name ∷ used))) (h name)
    (joined_kept (text_within n m (name ∷ used)) (text_within n k (name ∷ used)) (within_kept n m k h (name ∷ used)))

variable_alike : (show : Text → Text) → Shows show → (u v : EdgeEnvironment) → Alike u v → (name : Name) → option_map kept (variable show u name) ≡ option_map kept (variable show v name)
variable_alike show t u v h name =
    within_kept (length u.rule) (meaning_of show u) (meaning_of show v) (meaning_alike show t u v h) [] name
    ∙ ap (λ (r : Bindings (List Piece)). option_map kept (text_within (length r) (meaning_of show v) [] name)) h.rule

cycle_kept : (a b : Option Text) → option_map kept a ≡ option_map kept b → is_none a ≡ is_none b
cycle_kept None None e = refl
cycle_kept None (Some y) e = cc
cycle_kept (Some x) None e = cc
cycle_kept (Some x) (Some y) e = refl

meets_alike : (show : Text → Text) → Shows show → (u v : EdgeEnvironment) → Alike u v → (names : List Name) → meets_cycle show u names ≡ meets_cycle show v names
meets_alike show t u v h [] = refl
meets_alike show t u v h (n ∷ ns) =
    ap (λ x. x || meets_cycle show u ns) (cycle_kept (variable show u n) (variable show v n) (variable_alike show t u v h n))
    ∙ ap (λ x. is_none (variable show v n) || x) (meets_alike show t u v h ns)

texts_alike : (show : Text → Text) → Shows show → (u v : EdgeEnvironment) → Alike u v → (name : Name) → kept (text_of_variable show u name) ≡ kept (text_of_variable show v name)
texts_alike show t u v h name = kept_or (variable show u name) (variable show v name) [] [] (variable_alike show t u v h name) refl

-- The variables of two such edges.
variables_alike : (u v : EdgeEnvironment) → Alike u v → KeptEqVariables (variables_of u) (variables_of v)
variables_alike u v h =
    let p = texts_alike plain shows_plain u v h in
    let q = texts_alike quoted shows_quoted u v h in
    record {
      texts = q (codes "command") ∷≡ p (codes "depfile") ∷≡ p (codes "deps") ∷≡ q (codes "description") ∷≡ p (codes "dyndep") ∷≡ p (codes "generator") ∷≡ p (codes "pool") ∷≡ p (codes "restat") ∷≡ p (codes "rspfile") ∷≡ refl;
      cycle = or_both _ _ _ _ (meets_alike quoted shows_quoted u v h quoted_names) (meets_alike plain shows_plain u v h plain_names);
    }

-- The variables of two such phony edges.
phony_alike : (u v : EdgeEnvironment) → Alike u v → KeptEqVariables (phony_variables u) (phony_variables v)
phony_alike u v h = record {
  texts = refl ∷≡ refl ∷≡ refl ∷≡ refl ∷≡ texts_alike plain shows_plain u v h (codes "dyndep") ∷≡ refl;
  cycle = cycle_kept (variable plain u (codes "dyndep")) (variable plain v (codes "dyndep")) (variable_alike plain shows_plain u v h (codes "dyndep"));
}

variables_through : (u v w : Variables) → KeptEqVariables u v → KeptEqVariables v w → KeptEqVariables u w
variables_through u v w e f = record { texts = e.texts ∙ f.texts; cycle = e.cycle ∙ f.cycle }

-- Variables of an edge whose environment is kept like another's.
pub found_alike : (held : Variables) (u v : EdgeEnvironment) → KeptEqVariables held (variables_of u) → Alike u v → KeptEqVariables held (variables_of v)
found_alike held u v e h = variables_through held (variables_of u) (variables_of v) e (variables_alike u v h)

-- The same for a phony edge.
pub found_alike_phony : (held : Variables) (u v : EdgeEnvironment) → KeptEqVariables held (phony_variables u) → Alike u v → KeptEqVariables held (phony_variables v)
found_alike_phony held u v e h = variables_through held (phony_variables u) (phony_variables v) e (phony_alike u v h)

-- The environment that the code holds for a build line is kept like the line's own.
pub alike_read : (h f : Name → Text) (b : Build) (p : Parts) (rule other : Bindings (List Piece)) (file : Name → Text) (held : EdgeEnvironment)
    → IsRead h b p → rule ≡ other → KeptEqLookup file f → held ≡ environment_from p rule file → Alike held (environment_of h f b other)
alike_read h f b p rule other file held r e s u =
    let lists = kept_lists p.read.paths (canonical_paths (texts_in h b)) r.paths in
    subst (λ x. Alike x (environment_of h f b other)) (sym u) (record { inputs = lists.inputs; outputs = lists.outputs; block = r.values; rule = e; file = s })

any_alike : (test : Text → Bool) → ((a b : Text) → kept a ≡ kept b → test a ≡ test b) → (us vs : List Text) → map kept us ≡ map kept vs → list_any test us ≡ list_any test vs
any_alike test h [] [] e = refl
any_alike test h [] (v ∷ vs) e = cc
any_alike test h (u ∷ us) [] e = cc
any_alike test h (u ∷ us) (v ∷ vs) e =
    let k : kept u ≡ kept v = cc in
    let l : map kept us ≡ map kept vs = cc in
    ap (λ t. t || list_any test us) (h u v k) ∙ ap (λ t. test v || t) (any_alike test h us vs l)

present_alike : (a b : Text) → kept a ≡ kept b → is_present a ≡ is_present b
present_alike a b e = ap not (empty_kept a b e)

differs : (t : Bool) → (t ≡ true → ⊥) → t ≡ false
differs true h = absurd (h refl)
differs false h = refl

no_gcc : (a : Text) → max_text < length a → bytes_eq a (codes "gcc") ≡ false
no_gcc a h = differs (bytes_eq a (codes "gcc")) (λ e. let same : length a ≡ 3 = ap length ((bytes_eq-Decides a (codes "gcc")).0 e) in omega arith)

deps_same : (a b : Text) → kept a ≡ kept b → Same a b → is_other_deps a ≡ is_other_deps b
deps_same a b k (inl e) = ap is_other_deps e
deps_same a b k (inr h) =
    ap (λ t. not (is_empty a) && not t) (no_gcc a h.0)
    ∙ (ap (λ t. not t && not false) (empty_kept a b k)
    ∙ ap (λ t. not (is_empty b) && not t) (sym (no_gcc b h.1)))

deps_kept : (a b : Text) → kept a ≡ kept b → is_other_deps a ≡ is_other_deps b
deps_kept a b e = deps_same a b e (same_from_kept a b e)

pool_same : (pools names : List Name) → EqNames pools names → (a b : Text) → kept a ≡ kept b → Same a b → names_no_pool pools a ≡ names_no_pool names b
pool_same pools names s a b k (inl e) =
    ap (λ t. not (is_empty a) && (is_too_long a || not t)) (s a) ∙ ap (names_no_pool names) e
pool_same pools names s a b k (inr h) =
    ap (λ t. not (is_empty a) && (t || not (is_among pools a))) (lt-ltb max_text (length a) h.0)
    ∙ (ap (λ t. not t && true) (empty_kept a b k)
    ∙ ap (λ t. not (is_empty b) && (t || not (is_among names b))) (sym (lt-ltb max_text (length b) h.1)))

pool_kept : (pools names : List Name) → EqNames pools names → (a b : Text) → kept a ≡ kept b → names_no_pool pools a ≡ names_no_pool names b
pool_kept pools names s a b e = pool_same pools names s a b e (same_from_kept a b e)

exact_texts : (us vs : List Text) → map kept us ≡ map kept vs → list_any is_too_long us ≡ false → us ≡ vs
exact_texts [] [] e f = refl
exact_texts [] (v ∷ vs) e f = cc
exact_texts (u ∷ us) [] e f = cc
exact_texts (u ∷ us) (v ∷ vs) e f =
    let k : kept u ≡ kept v = cc in
    let l : map kept us ≡ map kept vs = cc in
    let parts = or_parts (is_too_long u) (list_any is_too_long us) f in
    exact_kept u v k (ltb-false max_text (length u) parts.0) ∷≡ exact_texts us vs l parts.1

abbrev eight : (a b c d e f g h : Bool) → List (Bool × Cause)
eight a b c d e f g h =
    (a, UnknownPool) ∷ (b, RuleCycle) ∷ (c, EmptyPath) ∷ (d, Dyndep) ∷ (e, Rspfile) ∷ (f, DepsKind) ∷ (g, PathTooLong) ∷ (h, TextTooLong) ∷ []

no_cause : (a b c d e f g h : Bool) → first_of (eight a b c d e f g h) ≡ None → (g ≡ false) × (h ≡ false)
no_cause true b c d e f g h n = cc
no_cause false true c d e f g h n = cc
no_cause false false true d e f g h n = cc
no_cause false false false true e f g h n = cc
no_cause false false false false true f g h n = cc
no_cause false false false false false true g h n = cc
no_cause false false false false false false true h n = cc
no_cause false false false false false false false true n = cc
no_cause false false false false false false false false n = (refl, refl)

or_refused_same : {A : Type 0} (o : Option Cause) (x y : A) → (o ≡ None → x ≡ y) → or_refused o x ≡ or_refused o y
or_refused_same None x y h = ap (λ e. Ok e) (h refl)
or_refused_same (Some cause) x y h = refl

-- The edge, if no path and no text is too long.
edge_same : (h : Name → Text) (b : Build) (p : Parts) (u v : Variables) (t : Bool) → IsRead h b p → KeptEqVariables u v → p.read.has_long ≡ false → list_any is_too_long (texts_of_variables u) ≡ false
    → edge_of p.read.paths u t ≡ edge_of (canonical_paths (texts_in h b)) v t
edge_same h b p u v t r e far long =
    let paths : p.read.paths ≡ canonical_paths (texts_in h b) = r.exact far in
    let texts : texts_of_variables u ≡ texts_of_variables v = exact_texts (texts_of_variables u) (texts_of_variables v) e.texts long in
    let command : u.command ≡ v.command = cc in
    let description : u.description ≡ v.description = cc in
    let depfile : u.depfile ≡ v.depfile = cc in
    let deps : is_present u.deps ≡ is_present v.deps = cc in
    let restat : is_present u.restat ≡ is_present v.restat = cc in
    let generator : is_present u.generator ≡ is_present v.generator = cc in
    let pool : u.pool ≡ v.pool = cc in
    cc

-- The parts that the code holds give the edge of the build line.
pub edge_held : (pools names : List Name) (h : Name → Text) (b : Build) (p : Parts) (u v : Variables) (t : Bool) → EqNames pools names → IsRead h b p → KeptEqVariables u v
    → or_refused (first_of (causes_of pools u p.read.has_empty p.read.has_long p.block.has_long)) (edge_of p.read.paths u t) ≡ edge_or_refusal names h b v t
edge_held pools names h b p u v t s r e =
    let long = any_alike is_too_long long_kept (texts_of_variables u) (texts_of_variables v) e.texts in
    let texts : map kept (texts_of_variables u) ≡ map kept (texts_of_variables v) = e.texts in
    let dyndep : kept u.dyndep ≡ kept v.dyndep = cc in
    let rspfile : kept u.rspfile ≡ kept v.rspfile = cc in
    let deps : kept u.deps ≡ kept v.deps = cc in
    let pool : kept u.pool ≡ kept v.pool = cc in
    let t1 = pool_kept pools names s u.pool v.pool pool in
    let t2 = e.cycle in
    let t3 = r.empty_path in
    let t4 = present_alike u.dyndep v.dyndep dyndep in
    let t5 = present_alike u.rspfile v.rspfile rspfile in
    let t6 = deps_kept u.deps v.deps deps in
    let t7 = r.long_path in
    let t8 = r.long_value in
    or_refused_same (first_of (causes_of pools u p.read.has_empty p.read.has_long p.block.has_long)) (edge_of p.read.paths u t) (edge_of (canonical_paths (texts_in h b)) v t)
    (λ none.
    let parts = no_cause _ _ _ _ _ _ p.read.has_long (list_any is_too_long (texts_of_variables u) || p.block.has_long) none in
    edge_same h b p u v t r e parts.0 (or_parts (list_any is_too_long (texts_of_variables u)) p.block.has_long parts.1).0)
    ∙ cc
