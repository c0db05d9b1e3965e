-- Texts with equal kept texts. Used for src/scope/text.rt, and for all code that keeps texts.
use Rattle.std.proofs.Common.{◌≡◌, ℕ, zero, suc, ◌+◌, ◌<◌, ◌≤◌, Bool, true, false, List, [], ◌∷◌, ◌++◌, length, map, Option, Some, None, refl, ap, sym, ◌∙◌, cond, eqb, option_map, unwrap_or, flat_map, ◌⊎◌, inl, inr, arith, length-append, append_assoc, append-nil, take, get_or}
use Rattle.std.proofs.lemmas.List.{take_more, map_more, map-append}
use Rattle.std.proofs.lemmas.List.Concat.{flat_map-append}
use Rattle.std.proofs.lemmas.Grind.{common_steps}
use Rattle.std.specs.List.{list_all, join_with_byte}
use Rattle.std.specs.Prelude.{codes}
use Rattle.std.proofs.lemmas.Bool.{lt-ltb, le-ltb, cases_lt, ne_eqb}
use Rattle.plan_text.specs.declared.piece_reader.Piece.{Piece}
use Rattle.plan_text.specs.declared.piece_reader.Piece.TheVariants.{Literal, Reference}
use Rattle.plan_scope.specs.Scopes.{Text, Name, value_of, expand, is_too_long}
use Rattle.plan_text.specs.Limits.{max_text}
use Rattle.plan_scope.specs.Expansion.{is_plain, escaped, quoted}
use Rattle.plan_scope.specs.Kept.{kept}

kept_long : (a : Text) → max_text < length a → kept a ≡ None
unfolding kept
kept_long a h = ap (λ (t : Bool). cond {A = Option Text} t None (Some a)) (lt-ltb max_text (length a) h)

kept_short : (a : Text) → length a ≤ max_text → kept a ≡ Some a
unfolding kept
kept_short a h = ap (λ (t : Bool). cond {A = Option Text} t None (Some a)) (le-ltb max_text (length a) h)

-- Two texts that are too long have equal kept texts.
pub both_long : (a b : Text) → max_text < length a → max_text < length b → kept a ≡ kept b
both_long a b h i = kept_long a h ∙ sym (kept_long b i)

-- The texts are equal, or both are too long.
abbrev pub Same : Text → Text → Type 0
Same a b = (a ≡ b) ⊎ ((max_text < length a) × (max_text < length b))

same_at : (a b : Text) → (max_text < length a) ⊎ (length a ≤ max_text) → (max_text < length b) ⊎ (length b ≤ max_text) → kept a ≡ kept b → Same a b
same_at a b (inl p) (inl q) e = inr (p, q)
same_at a b (inl p) (inr q) e = let k = kept_long a p in let l = kept_short b q in cc
same_at a b (inr p) (inl q) e = let k = kept_short a p in let l = kept_long b q in cc
same_at a b (inr p) (inr q) e = let k = kept_short a p in let l = kept_short b q in let s : a ≡ b = cc in inl s

-- Texts with equal kept texts are the same, or both are too long.
pub same_from_kept : (a b : Text) → kept a ≡ kept b → Same a b
same_from_kept a b e = same_at a b (cases_lt max_text (length a)) (cases_lt max_text (length b)) e

appended_by : (a b c d : Text) → Same a b → Same c d → kept (a ++ c) ≡ kept (b ++ d)
appended_by a b c d (inl e) (inl f) = cc
appended_by a b c d (inr h) s = both_long (a ++ c) (b ++ d) (omega (arith, length-append a c)) (omega (arith, length-append b d))
appended_by a b c d (inl e) (inr h) = both_long (a ++ c) (b ++ d) (omega (arith, length-append a c)) (omega (arith, length-append b d))

-- Joined texts have equal kept texts.
pub kept_append : (a b c d : Text) → kept a ≡ kept b → kept c ≡ kept d → kept (a ++ c) ≡ kept (b ++ d)
kept_append a b c d e f = appended_by a b c d (same_from_kept a b e) (same_from_kept c d f)

length_escaped_one : (b : ℕ) → 1 ≤ length (escaped b)
length_escaped_one b = elim (eqb b 39) as (λ t. 1 ≤ length (cond t (codes "'\\''") (b ∷ []))) [ true ↦ omega arith | false ↦ omega arith ]

length_escaped : (p : Text) → length p ≤ length (flat_map escaped p)
length_escaped [] = omega arith
length_escaped (b ∷ p) = omega (arith, length_escaped p, length_escaped_one b, length-append (escaped b) (flat_map escaped p))

length_quoted : (p : Text) → length p ≤ length (quoted p)
length_quoted p =
    let longer : length p ≤ length (39 ∷ flat_map escaped p ++ 39 ∷ []) = omega (arith, length_escaped p, length-append (flat_map escaped p) (39 ∷ [])) in
    elim (list_all is_plain p) as (λ t. length p ≤ length (cond t p (39 ∷ flat_map escaped p ++ 39 ∷ []))) [ true ↦ omega arith | false ↦ longer ]

quoted_by : (a b : Text) → Same a b → kept (quoted a) ≡ kept (quoted b)
quoted_by a b (inl e) = cc
quoted_by a b (inr h) = both_long (quoted a) (quoted b) (omega (arith, length_quoted a)) (omega (arith, length_quoted b))

-- Quoted texts have equal kept texts.
pub kept_quoted : (a b : Text) → kept a ≡ kept b → kept (quoted a) ≡ kept (quoted b)
kept_quoted a b e = quoted_by a b (same_from_kept a b e)

-- Joined paths have equal kept texts.
pub kept_paths : (f : Text → Text) → ((a b : Text) → kept a ≡ kept b → kept (f a) ≡ kept (f b))
    → (s : ℕ) (ps qs : List Text) → map kept ps ≡ map kept qs → kept (join_with_byte s (map f ps)) ≡ kept (join_with_byte s (map f qs))
kept_paths f h s [] [] e = refl
kept_paths f h s [] (q ∷ qs) e = cc
kept_paths f h s (p ∷ ps) [] e = cc
kept_paths f h s (p ∷ []) (q ∷ []) e = let k : kept p ≡ kept q = cc in h p q k
kept_paths f h s (p ∷ []) (q ∷ r ∷ qs) e = cc
kept_paths f h s (p ∷ o ∷ ps) (q ∷ []) e = cc
kept_paths f h s (p ∷ o ∷ ps) (q ∷ r ∷ qs) e =
    let k : kept p ≡ kept q = cc in
    let m : map kept (o ∷ ps) ≡ map kept (r ∷ qs) = cc in
    kept_append (f p) (f q) (s ∷ join_with_byte s (map f (o ∷ ps))) (s ∷ join_with_byte s (map f (r ∷ qs))) (h p q k)
    (kept_append (s ∷ []) (s ∷ []) (join_with_byte s (map f (o ∷ ps))) (join_with_byte s (map f (r ∷ qs))) refl (kept_paths f h s (o ∷ ps) (r ∷ qs) m))

kept_value : (f g : Name → Text) → ((n : Name) → kept (f n) ≡ kept (g n)) → (p : Piece) → kept (value_of f p) ≡ kept (value_of g p)
kept_value f g h (Literal t) = refl
kept_value f g h (Reference n) = h n

-- Pieces have equal kept texts if the names in them have.
pub kept_expand : (f g : Name → Text) → ((n : Name) → kept (f n) ≡ kept (g n)) → (ps : List Piece) → kept (expand f ps) ≡ kept (expand g ps)
kept_expand f g h [] = refl
kept_expand f g h (p ∷ ps) = kept_append (value_of f p) (value_of g p) (expand f ps) (expand g ps) (kept_value f g h p) (kept_expand f g h ps)

-- If two options and their defaults have equal kept texts, their values have too.
pub kept_or : (o p : Option Text) (a b : Text) → option_map kept o ≡ option_map kept p → kept a ≡ kept b → kept (unwrap_or o a) ≡ kept (unwrap_or p b)
kept_or None None a b e f = f
kept_or None (Some y) a b e f = cc
kept_or (Some x) None a b e f = cc
kept_or (Some x) (Some y) a b e f = cc

-- One text is appended to another.
pub kept_then : (before middle now x y : Text) → kept middle ≡ kept (before ++ x) → kept now ≡ kept (middle ++ y) → kept now ≡ kept (before ++ (x ++ y))
kept_then before middle now x y e f =
    f ∙ (kept_append middle (before ++ x) y y e refl ∙ ap kept (append_assoc before x y))

abbrev begins : List Text → Bool
begins [] = true
begins (p ∷ ps) = false

begins_at : (ps : List Text) → begins ps ≡ eqb (length ps) 0
begins_at [] = refl
begins_at (p ∷ ps) = sym (ne_eqb (length (p ∷ ps)) 0 (λ e. omega arith))

join_push : (f : Text → Text) (s : ℕ) (ps : List Text) (p : Text) → join_with_byte s (map f (ps ++ p ∷ [])) ≡ join_with_byte s (map f ps) ++ (cond (begins ps) [] (s ∷ []) ++ f p)
join_push f s [] p = refl
join_push f s (q ∷ []) p = refl
join_push f s (q ∷ r ∷ ps) p =
    ap (λ (t : Text). f q ++ (s ∷ t)) (join_push f s (r ∷ ps) p)
    ∙ sym (append_assoc (f q) (s ∷ join_with_byte s (map f (r ∷ ps))) (s ∷ f p))

-- One more path of a list.
pub join_taken : (f : Text → Text) (s : ℕ) (ps : List Text) (i : ℕ) (p : Text) (b : Bool) → i < length ps → p ≡ get_or ps i p → b ≡ eqb i 0
    → (join_with_byte s (map f (take i ps)) ++ cond b [] (s ∷ [])) ++ f p ≡ join_with_byte s (map f (take (i + 1) ps))
join_taken f s ps i p b h e z =
    let n : length (take i ps) ≡ i = grind (arith, common_steps) in
    let first : b ≡ begins (take i ps) = z ∙ (ap (λ k. eqb k 0) (sym n) ∙ sym (begins_at (take i ps))) in
    append_assoc (join_with_byte s (map f (take i ps))) (cond b [] (s ∷ [])) (f p)
    ∙ (ap (λ (t : Bool). join_with_byte s (map f (take i ps)) ++ (cond t [] (s ∷ []) ++ f p)) first
    ∙ (sym (join_push f s (take i ps) p)
    ∙ ap (λ (l : List Text). join_with_byte s (map f l)) (ap (λ (x : Text). take i ps ++ x ∷ []) e ∙ sym (take_more ps i p h))))

-- One more item, each with a text.
pub flat_map_taken : {X : Type 0} (f : X → Text) (xs : List X) (i : ℕ) (d : X) → i < length xs → flat_map f (take (i + 1) xs) ≡ flat_map f (take i xs) ++ f (get_or xs i d)
flat_map_taken f xs i d h =
    ap (flat_map f) (take_more xs i d h)
    ∙ (flat_map-append f (take i xs) (get_or xs i d ∷ []) ∙ ap (λ (t : Text). flat_map f (take i xs) ++ t) (append-nil (f (get_or xs i d))))

-- One more piece.
pub kept_taken : (f : Name → Text) (pieces : List Piece) (i : ℕ) (p : Piece) (out now t : Text) → i < length pieces → p ≡ get_or pieces i p
    → kept out ≡ kept (expand f (take i pieces)) → t ≡ value_of f p → kept now ≡ kept (out ++ t)
    → kept now ≡ kept (expand f (take (i + 1) pieces))
kept_taken f pieces i p out now t lt e h v k =
    k ∙ (kept_append out (expand f (take i pieces)) t (value_of f (get_or pieces i p)) h (ap kept v ∙ ap (λ q. kept (value_of f q)) e)
    ∙ ap kept (sym (flat_map_taken (value_of f) pieces i p lt)))

-- One more path.
pub paths_taken : {X : Type 0} (f : X → Text) (paths : List X) (i : ℕ) (p : X) (texts now : List Text) (t : Text) → i < length paths → p ≡ get_or paths i p
    → map kept texts ≡ map kept (map f (take i paths)) → kept t ≡ kept (f p) → now ≡ texts ++ t ∷ []
    → map kept now ≡ map kept (map f (take (i + 1) paths))
paths_taken f paths i p texts now t lt e h k n =
    ap (map kept) n
    ∙ (map-append kept texts (t ∷ [])
    ∙ (ap (λ (l : List (Option Text)). l ++ kept t ∷ []) h
    ∙ (ap (λ (o : Option Text). map kept (map f (take i paths)) ++ o ∷ []) (k ∙ ap (λ q. kept (f q)) e)
    ∙ (sym (map-append kept (map f (take i paths)) (f (get_or paths i p) ∷ []))
    ∙ ap (map kept) (sym (map_more f paths i p lt))))))

long_same : (a b : Text) → Same a b → is_too_long a ≡ is_too_long b
long_same a b (inl e) = ap is_too_long e
long_same a b (inr h) = lt-ltb max_text (length a) h.0 ∙ sym (lt-ltb max_text (length b) h.1)

-- Of two texts with equal kept texts, both are too long or neither is.
pub long_kept : (a b : Text) → kept a ≡ kept b → is_too_long a ≡ is_too_long b
long_kept a b e = long_same a b (same_from_kept a b e)

-- The default doesn't matter for an item that is within a list.
pub any_item : {X : Type 0} (xs : List X) (i : ℕ) (d e : X) → i < length xs → get_or xs i d ≡ get_or xs i e
any_item [] i d e h = absurd (omega arith)
any_item (x ∷ xs) zero d e h = refl
any_item (x ∷ xs) (suc i) d e h = any_item xs i d e (omega arith)
