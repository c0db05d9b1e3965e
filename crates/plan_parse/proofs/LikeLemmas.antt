-- Results of reading don't depend on the offset. Proofs for the law statements_join.
use Rattle.std.proofs.Common.{◌≡◌, ℕ, zero, suc, ◌+◌, ◌-◌, ◌==◌, Bool, ◌&&◌, true, false, cond, List, [], ◌∷◌, length, take, Result, Ok, Err, Option, Some, None, refl, ap, subst, ◌∙◌}
use Rattle.std.specs.Prelude.{nat_lt}
use Rattle.std.specs.List.{prefix_len}
use Rattle.plan_text.specs.Bytes.{nul, tab, dollar, is_name_byte, begins_with}
use Rattle.plan_text.specs.Lines.{gap_len}
use Rattle.plan_text.specs.Outcome.{◌>>=◌}
use Rattle.plan_text.specs.Pieces.{Sign, escape, or_bad, is_path, sign_at, in_front, all_onto, pieces_past}
use Rattle.plan_text.specs.declared.fault.TextFault.{TextFault}
use Rattle.plan_text.specs.declared.fault.TextFault.TheVariants as text
use Rattle.plan_text.specs.declared.piece_reader.Mode.{Mode}
use Rattle.plan_text.specs.declared.piece_reader.Mode.TheVariants as mode
use Rattle.plan_text.specs.declared.piece_reader.Piece.{Piece}
use Rattle.plan_parse.specs.declared.fault.ParseFault.{ParseFault}
use Rattle.plan_parse.specs.Reading.{Place, name_at, byte_at, line_end_at, value_at, lift_fault, path_len, path_at, path_onto, paths_past, paths_at}

-- both have related results, or both have faults
abbrev pub Like : {A B E F : Type 0} → (A → B → Type 0) → Result A E → Result B F → Type 0
Like R (Ok x) (Ok y) = R x y
Like R (Err e) (Err f) = Unit {0}
Like R (Ok x) (Err f) = ⊥
Like R (Err e) (Ok y) = ⊥

-- equality, as a relation
abbrev pub Same : {A : Type 0} → A → A → Type 0
Same x y = x ≡ y

-- the same text, at any offset
abbrev pub SameText : Place → Place → Type 0
SameText p q = p.bytes ≡ q.bytes

-- the same result, and the same rest of the text
abbrev pub SameFound : {A : Type 0} → A × Place → A × Place → Type 0
SameFound x y = (x.0 ≡ y.0) × (x.1.bytes ≡ y.1.bytes)

-- two steps are related if the first ones are, and then the second ones
pub bind_like : {A B C D : Type 0} (R : A → B → Type 0) (S : C → D → Type 0) (r : Result A ParseFault) (s : Result B ParseFault) (f : A → Result C ParseFault) (g : B → Result D ParseFault)
    → Like R r s → ((x : A) (y : B) → R x y → Like S (f x) (g y)) → Like S (r >>= f) (s >>= g)
bind_like R S (Ok x) (Ok y) f g h k = k x y h
bind_like R S (Err e) (Err d) f g h k = tt
bind_like R S (Ok x) (Err d) f g h k = absurd h
bind_like R S (Err e) (Ok y) f g h k = absurd h

-- places of one text
abbrev pub here : ℕ → List ℕ → Place
here at bytes = record { at = at; bytes = bytes }

-- a property of places that differ only in their offsets
pub by_text : (P : Place → Place → Type 0) → ((a b : ℕ) (v : List ℕ) → P (here a v) (here b v)) → (p q : Place) → SameText p q → P p q
by_text P h p q e = subst (λ (v : List ℕ). P p (here q.at v)) e (h p.at q.at p.bytes)

-- a fault if a test passes, and otherwise related results
pub by_test : {A B : Type 0} (R : A → B → Type 0) (t : Bool) (x : A) (y : B) (e f : ParseFault) → R x y → Like R (cond t (Err e) (Ok x)) (cond t (Err f) (Ok y))
by_test R true x y e f h = tt
by_test R false x y e f h = h

-- related results if a test passes, and otherwise a fault
pub unless_test : {A B : Type 0} (R : A → B → Type 0) (t : Bool) (x : A) (y : B) (e f : ParseFault) → R x y → Like R (cond t (Ok x) (Err e)) (cond t (Ok y) (Err f))
unless_test R true x y e f h = h
unless_test R false x y e f h = tt

-- names
pub name_like : (p q : Place) → SameText p q → Like SameFound (name_at p) (name_at q)
name_like = by_text (λ p q. Like SameFound (name_at p) (name_at q))
    (λ a b v. by_test SameFound (prefix_len is_name_byte v == 0) _ _ _ _ (refl, refl))

-- single bytes
pub byte_like : (c : ℕ) (expected : ℕ → ParseFault) (p q : Place) → SameText p q → Like SameText (byte_at c expected p) (byte_at c expected q)
byte_like c expected = by_text (λ p q. Like SameText (byte_at c expected p) (byte_at c expected q))
    (λ a b v. unless_test SameText (begins_with c v) _ _ _ _ refl)

-- ends of lines
pub end_like : {A : Type 0} (x y : A) → x ≡ y → (p q : Place) → SameText p q → Like Same (line_end_at x p) (line_end_at y q)
end_like x y e = by_text (λ p q. Like Same (line_end_at x p) (line_end_at y q))
    (λ a b v. unless_test Same (length v == 0) _ _ _ _ e)

-- pieces
sign_like : (m : Mode) (a b c : ℕ) (rest : List ℕ) (t u v : Bool) (o : Option (Sign × ℕ))
    → Like Same (cond t (or_bad a o) (cond u (Err (text.NulByte a)) (cond v (Err (text.TabBlank a)) (Ok (Rattle.plan_text.specs.Pieces.Byte c, 0)))))
    (cond t (or_bad b o) (cond u (Err (text.NulByte b)) (cond v (Err (text.TabBlank b)) (Ok (Rattle.plan_text.specs.Pieces.Byte c, 0)))))
sign_like m a b c rest true u v None = tt
sign_like m a b c rest true u v (Some x) = refl
sign_like m a b c rest false true v o = tt
sign_like m a b c rest false false true o = tt
sign_like m a b c rest false false false o = refl

onto_like : (s : Sign) (r q : Result (List Piece) TextFault) → Like Same r q → Like Same (all_onto s r) (all_onto s q)
onto_like s (Ok x) (Ok y) h = ap (Rattle.plan_text.specs.Pieces.onto s) h
onto_like s (Err e) (Err f) h = tt
onto_like s (Ok x) (Err f) h = absurd h
onto_like s (Err e) (Ok y) h = absurd h

front_like : (r q : Result (Sign × ℕ) TextFault) (f g : ℕ → Result (List Piece) TextFault) → Like Same r q → ((n : ℕ) → Like Same (f n) (g n)) → Like Same (in_front r f) (in_front q g)
front_like (Ok x) (Ok y) f g h k = subst (λ (z : Sign × ℕ). Like Same (all_onto x.0 (f x.1)) (all_onto z.0 (g z.1))) h (onto_like x.0 (f x.1) (g x.1) (k x.1))
front_like (Err e) (Err d) f g h k = tt
front_like (Ok x) (Err d) f g h k = absurd h
front_like (Err e) (Ok y) f g h k = absurd h

pieces_like : (m : Mode) (a b : ℕ) (v : List ℕ) (n : ℕ) → Like Same (pieces_past m a v n) (pieces_past m b v n)
pieces_like m a b [] n = refl
pieces_like m a b (c ∷ rest) (suc n) = pieces_like m (a + 1) (b + 1) rest n
pieces_like m a b (c ∷ rest) zero =
    front_like (sign_at m a c rest) (sign_at m b c rest) (λ n. pieces_past m (a + 1) rest n) (λ n. pieces_past m (b + 1) rest n)
    (sign_like m a b c rest (c == dollar) (c == nul) (c == tab && is_path m) (escape rest)) (λ n. pieces_like m (a + 1) (b + 1) rest n)

lifted_like : {A : Type 0} (r q : Result A TextFault) → Like Same r q → Like Same (lift_fault r) (lift_fault q)
lifted_like (Ok x) (Ok y) h = h
lifted_like (Err e) (Err f) h = tt
lifted_like (Ok x) (Err f) h = absurd h
lifted_like (Err e) (Ok y) h = absurd h

-- values
pub value_like : (p q : Place) → SameText p q → Like Same (value_at p) (value_at q)
value_like = by_text (λ p q. Like Same (value_at p) (value_at q))
    (λ a b v. lifted_like (pieces_past mode.Value a v 0) (pieces_past mode.Value b v 0) (pieces_like mode.Value a b v 0))

path_like : (a b : ℕ) (v : List ℕ) (n : ℕ) → Like Same (path_at (here a v) n) (path_at (here b v) n)
path_like a b v n = lifted_like (pieces_past mode.Path a (take n v) 0) (pieces_past mode.Path b (take n v) 0) (pieces_like mode.Path a b (take n v) 0)

onto_paths_like : (x y : List Piece) → x ≡ y → (r q : Result (List (List Piece) × Place) ParseFault) → Like SameFound r q → Like SameFound (path_onto x r) (path_onto y q)
onto_paths_like x y e (Ok r) (Ok q) h = (let first : x ∷ r.0 ≡ y ∷ q.0 = ap (λ (v : List Piece). v ∷ r.0) e ∙ ap (λ (v : List (List Piece)). y ∷ v) h.0 in first, h.1)
onto_paths_like x y e (Err r) (Err q) h = tt
onto_paths_like x y e (Ok r) (Err q) h = absurd h
onto_paths_like x y e (Err r) (Ok q) h = absurd h

paths_like_past : (a b : ℕ) (v : List ℕ) (n : ℕ) → Like SameFound (paths_past a v n) (paths_past b v n)
paths_like_past a b [] n = (refl, refl)
paths_like_past a b (c ∷ rest) (suc n) = paths_like_past (a + 1) (b + 1) rest n
paths_like_past a b (c ∷ rest) zero =
    by (nat_lt 0 (gap_len (c ∷ rest))) (path_len (c ∷ rest) == 0) (λ n. paths_like_past (a + 1) (b + 1) rest n)
  where
    by : (t u : Bool) → ((n : ℕ) → Like SameFound (paths_past (a + 1) rest n) (paths_past (b + 1) rest n))
        → Like SameFound
        (cond t (paths_past (a + 1) rest (gap_len (c ∷ rest) - 1)) (cond u (Ok ([], here a (c ∷ rest))) (path_at (here a (c ∷ rest)) (path_len (c ∷ rest)) >>= λ path. path_onto path (paths_past (a + 1) rest (path_len (c ∷ rest) - 1)))))
        (cond t (paths_past (b + 1) rest (gap_len (c ∷ rest) - 1)) (cond u (Ok ([], here b (c ∷ rest))) (path_at (here b (c ∷ rest)) (path_len (c ∷ rest)) >>= λ path. path_onto path (paths_past (b + 1) rest (path_len (c ∷ rest) - 1)))))
    by true u more = more (gap_len (c ∷ rest) - 1)
    by false true more = (refl, refl)
    by false false more =
        bind_like Same SameFound (path_at (here a (c ∷ rest)) (path_len (c ∷ rest))) (path_at (here b (c ∷ rest)) (path_len (c ∷ rest)))
        (λ path. path_onto path (paths_past (a + 1) rest (path_len (c ∷ rest) - 1))) (λ path. path_onto path (paths_past (b + 1) rest (path_len (c ∷ rest) - 1)))
        (path_like a b (c ∷ rest) (path_len (c ∷ rest))) (λ x y e. onto_paths_like x y e _ _ (more (path_len (c ∷ rest) - 1)))

-- lists of paths
pub paths_like : (p q : Place) → SameText p q → Like SameFound (paths_at p) (paths_at q)
paths_like = by_text (λ p q. Like SameFound (paths_at p) (paths_at q)) (λ a b v. paths_like_past a b v 0)

-- single paths
pub one_path_like : (p q : Place) → SameText p q → Like Same (path_at p (path_len p.bytes)) (path_at q (path_len q.bytes))
one_path_like = by_text (λ p q. Like Same (path_at p (path_len p.bytes)) (path_at q (path_len q.bytes))) (λ a b v. path_like a b v (path_len v))
