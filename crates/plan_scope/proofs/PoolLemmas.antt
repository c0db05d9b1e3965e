-- Numbers grow with their digits. Used for src/manifest/pools.rt.
use Rattle.std.proofs.Common.{◌≡◌, ◌<◌, ℕ, Bool, true, false, List, [], ◌∷◌, refl, ap, sym, ◌∙◌}
use Rattle.std.proofs.Common.{inl, inr, Result, Err, length}
use Rattle.std.proofs.lemmas.Bool.{lt-ltb}
use Rattle.std.specs.Prelude.{is_none, unwrap_or}
use Rattle.plan_scope.specs.declared.fault.Cause.{Cause}
use Rattle.plan_scope.specs.declared.fault.Cause.TheVariants.{DuplicatePool, TextTooLong, BadDepth}
use Rattle.plan_scope.specs.declared.manifest.Pool.{Pool}
use Rattle.plan_scope.specs.Scopes.{Name, Text, is_too_long}
use Rattle.plan_text.specs.Limits.{max_text}
use Rattle.plan_scope.specs.Edges.{depth_in, first_of, is_among, map_ok, or_refused, pool_by}
use Rattle.plan_scope.specs.Kept.{kept}
use Rattle.plan_scope.specs.Evaluation.{depth_by}
use Rattle.plan_scope.proofs.TextLemmas.{Same, same_from_kept}

long_depth : (text : Text) → max_text < length text → depth_by text ≡ Err TextTooLong
long_depth text h =
    ap (λ t. or_refused (first_of ((t, TextTooLong) ∷ (is_none (depth_in text), BadDepth) ∷ [])) (unwrap_or (depth_in text) 0)) (lt-ltb max_text (length text) h)

same_depth : (a b : Text) → Same a b → depth_by a ≡ depth_by b
same_depth a b (inl e) = ap depth_by e
same_depth a b (inr h) = long_depth a h.0 ∙ sym (long_depth b h.1)

-- Texts with equal kept texts have the same depth.
kept_depth : (a b : Text) → kept a ≡ kept b → depth_by a ≡ depth_by b
kept_depth a b e = same_depth a b (same_from_kept a b e)

-- The pool with a name and the depth in a text.
abbrev pub pool_from : Name → Bool → Result ℕ Cause → Result Pool Cause
pool_from name true depth = Err DuplicatePool
pool_from name false depth = map_ok (λ d. record { name = name; depth = d }) depth

pool_at : (name : Name) (taken long none : Bool) (depth : ℕ)
    → or_refused (first_of ((taken, DuplicatePool) ∷ (long, TextTooLong) ∷ (none, BadDepth) ∷ [])) (record { name = name; depth = depth })
    ≡ pool_from name taken (or_refused (first_of ((long, TextTooLong) ∷ (none, BadDepth) ∷ [])) depth)
pool_at name true long none depth = refl
pool_at name false true none depth = refl
pool_at name false false true depth = refl
pool_at name false false false depth = refl

-- A pool, depending on whether its name is among those above and on its depth.
pub pool_is : (above : List Name) (name : Name) (text : Text) → pool_by above name text ≡ pool_from name (is_among above name) (depth_by text)
pool_is above name text = pool_at name (is_among above name) (is_too_long text) (is_none (depth_in text)) (unwrap_or (depth_in text) 0)

-- The held names of pools, the pool's own name and its depth determine the pool.
pub pool_held : (held names : List Name) (word name : Name) (t text : Text) (b taken : Bool) (r : Result ℕ Cause) → ((n : Name) → is_among held n ≡ is_among names n) → word ≡ name → b ≡ is_among held word → b ≡ taken
    → kept t ≡ kept text → r ≡ depth_by t → pool_by names name text ≡ pool_from name taken r
pool_held held names word name t text b taken r same e f g k l =
    let known : is_among names name ≡ taken = sym (same name) ∙ (ap (is_among held) (sym e) ∙ (sym f ∙ g)) in
    let depth : depth_by text ≡ r = sym (kept_depth t text k) ∙ sym l in
    pool_is names name text ∙ (ap (λ x. pool_from name x (depth_by text)) known ∙ ap (pool_from name taken) depth)
