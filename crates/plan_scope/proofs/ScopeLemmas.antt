-- The meaning of names, as far as texts are kept. Used for src/scope.rt.
use Rattle.std.proofs.Common.{◌≡◌, ℕ, ◌+◌, ◌<◌, true, false, List, [], ◌∷◌, ◌++◌, length, Option, Some, None, refl, ap, sym, ◌∙◌, cond, option_map, take, get_or, append-nil}
use Rattle.std.proofs.lemmas.List.{take_more}
use Rattle.plan_parse.specs.declared.statement.DirectiveKind.{DirectiveKind}
use Rattle.plan_parse.specs.declared.statement.DirectiveKind.TheVariants as directive
use Rattle.plan_parse.specs.Compact.{kind_of}
use Rattle.plan_parse.specs.Kinds.{StatementKind}
use Rattle.plan_scope.specs.Trees.{TreeStatement}
use Rattle.plan_scope.specs.Scopes.{Text, Name, ScopedBindings, or_else, last_of, frame, nearest, lookup, bound_in, bound_past, bound_by}
use Rattle.plan_scope.specs.Kept.{kept, KeptEqScoped, KeptEqLookup}
use Rattle.plan_scope.specs.Keys.{same_key}
use Rattle.plan_scope.proofs.TextLemmas.{kept_or}
use Rattle.plan_scope.proofs.ScopedMapLemmas.{last_in_push}

-- The first text counts on both sides or the second does, so the texts that count have equal kept texts.
kept_else : (o p : Option Text) (a b : Option Text) → option_map kept o ≡ option_map kept p → option_map kept a ≡ option_map kept b → option_map kept (or_else o a) ≡ option_map kept (or_else p b)
kept_else None None a b e f = f
kept_else None (Some y) a b e f = cc
kept_else (Some x) None a b e f = cc
kept_else (Some x) (Some y) a b e f = e

kept_nearest : (stored meant : ScopedBindings Text) → KeptEqScoped stored meant → (scopes : List ℕ) (n : Name) → option_map kept (nearest stored scopes n) ≡ option_map kept (nearest meant scopes n)
kept_nearest stored meant h [] n = refl
kept_nearest stored meant h (s ∷ outer) n =
    kept_else (last_of n (frame s stored)) (last_of n (frame s meant)) (nearest stored outer n) (nearest meant outer n) (h s n) (kept_nearest stored meant h outer n)

-- Names have equal kept texts in all scopes.
pub stands : (stored meant : ScopedBindings Text) → KeptEqScoped stored meant → (scopes : List ℕ) → KeptEqLookup (lookup stored scopes) (lookup meant scopes)
stands stored meant h scopes n = kept_or (nearest stored scopes n) (nearest meant scopes n) [] [] (kept_nearest stored meant h scopes n) refl

-- A name that is bound again on both sides.
pub pushed_in : (stored now meant : ScopedBindings Text) (scope : ℕ) (name other : Name) (v w : Text) → KeptEqScoped stored meant
    → ((s : ℕ) (n : Name) → last_of n (frame s now) ≡ last_of n (frame s (stored ++ (scope, (name, v)) ∷ [])))
    → name ≡ other → kept v ≡ kept w → KeptEqScoped now (meant ++ (scope, (other, w)) ∷ [])
pushed_in stored now meant scope name other v w h set e k s n =
    ap (option_map kept) (set s n ∙ last_in_push s n stored (scope, (name, v)))
    ∙ (elim (same_key (scope, name) (s, n)) as (λ t. option_map kept (cond t (Some v) (last_of n (frame s stored))) ≡ option_map kept (cond t (Some w) (last_of n (frame s meant))))
    [ true ↦ ap (λ (o : Option Text). Some o) k | false ↦ h s n ]
    ∙ (ap (λ (x : Name). option_map kept (cond (same_key (scope, x) (s, n)) (Some w) (last_of n (frame s meant)))) e
    ∙ ap (option_map kept) (sym (last_in_push s n meant (scope, (other, w))))))

-- No name is bound again.
pub same_bound : (stored meant : ScopedBindings Text) → KeptEqScoped stored meant → KeptEqScoped stored (meant ++ [])
same_bound stored meant h s n = h s n ∙ ap (λ (bs : ScopedBindings Text). option_map kept (last_of n (frame s bs))) (sym (append-nil meant))

bound_push : (above : ScopedBindings Text) (xs : List TreeStatement) (l : TreeStatement) → bound_past above (xs ++ l ∷ []) ≡ bound_past above xs ++ bound_in (bound_past above xs) l.scopes l.kind
bound_push above [] l = refl
bound_push above (x ∷ xs) l = bound_push (above ++ bound_in above x.scopes x.kind) xs l

-- One more statement.
bound_more : (above : List TreeStatement) (l : TreeStatement) → bound_by (above ++ l ∷ []) ≡ bound_by above ++ bound_in (bound_by above) l.scopes l.kind
bound_more above l = bound_push [] above l

-- The bindings after one more statement.
pub agrees_more : (now : ScopedBindings Text) (above : List TreeStatement) (l : TreeStatement) (scopes : List ℕ) (kind : StatementKind) → scopes ≡ l.scopes → kind ≡ l.kind
    → KeptEqScoped now (bound_by above ++ bound_in (bound_by above) scopes kind) → KeptEqScoped now (bound_by (above ++ l ∷ []))
agrees_more now above l scopes kind e f h s n =
    h s n
    ∙ ap (λ (bs : ScopedBindings Text). option_map kept (last_of n (frame s bs)))
    (ap (λ (x : List ℕ). bound_by above ++ bound_in (bound_by above) x kind) e
    ∙ (ap (λ (x : StatementKind). bound_by above ++ bound_in (bound_by above) l.scopes x) f
    ∙ sym (bound_more above l)))

agrees_taken : (now : ScopedBindings Text) (all : List TreeStatement) (i : ℕ) (l : TreeStatement) (scopes : List ℕ) (kind : StatementKind) → i < length all → l ≡ get_or all i l → scopes ≡ l.scopes → kind ≡ l.kind
    → KeptEqScoped now (bound_by (take i all) ++ bound_in (bound_by (take i all)) scopes kind) → KeptEqScoped now (bound_by (take (i + 1) all))
agrees_taken now all i l scopes kind lt g e f h s n =
    agrees_more now (take i all) l scopes kind e f h s n
    ∙ ap (λ (ls : List TreeStatement). option_map kept (last_of n (frame s (bound_by ls)))) (sym (take_more all i l lt ∙ ap (λ (x : TreeStatement). take i all ++ x ∷ []) (sym g)))

-- A directive binds nothing.
pub directive_binds_nothing : (above : ScopedBindings Text) (scopes : List ℕ) (k : DirectiveKind) → bound_in above scopes (kind_of k) ≡ []
directive_binds_nothing above scopes (directive.Rule r) = refl
directive_binds_nothing above scopes (directive.Pool p) = refl
directive_binds_nothing above scopes (directive.Default targets) = refl
directive_binds_nothing above scopes (directive.Include p) = refl
directive_binds_nothing above scopes (directive.Subninja p) = refl
