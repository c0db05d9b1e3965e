-- Words and digits, one after another. Lemmas for src/words.rt and src/hex.rt.
use Rattle.std.proofs.Common.{◌≡◌, ◌≤◌, ℕ, ◌+◌, ◌<◌, Bool, true, false, List, [], ◌∷◌, ◌++◌, Option, Some, None, length, arith, refl, sym, ap, ◌∙◌, append_assoc, map, option_map}
use Rattle.std.proofs.lemmas.List.{map_push}
use Rattle.std.specs.List.{onto_first, position_or_len, slice_split}
use Rattle.plan_trace.specs.Words.{byte_of, onto, pairs_of}

-- a list grows by the first of the remaining items
pub goes_on : {X Y : Type 0} (f : X → Y) (done : List X) (x : X) (left rest whole : List Y) → left ≡ f x ∷ rest → map f done ++ left ≡ whole → map f (done ++ x ∷ []) ++ rest ≡ whole
goes_on f done x left rest whole is so_far =
    ap (λ ys. ys ++ rest) (map_push f done x) ∙ append_assoc (map f done) (f x ∷ []) rest ∙ (ap (λ ys. map f done ++ ys) (sym is) ∙ so_far)

-- the bytes that were read, before those that remain to be read
abbrev pub behind : List ℕ → Option (List ℕ) → Option (List ℕ)
behind done rest = option_map (λ more. done ++ more) rest

onto_behind : (done : List ℕ) (byte : ℕ) (rest : Option (List ℕ)) → behind (done ++ byte ∷ []) rest ≡ behind done (onto (Some byte) rest)
onto_behind done byte None = refl
onto_behind done byte (Some more) = ap Some (append_assoc done (byte ∷ []) more)

pub byte_more : (done : List ℕ) (high low byte : ℕ) (rest : List ℕ) (whole : Option (List ℕ)) → Some byte ≡ byte_of high low
    → behind done (pairs_of (high ∷ low ∷ rest)) ≡ whole → behind (done ++ byte ∷ []) (pairs_of rest) ≡ whole
byte_more done high low byte rest whole is so_far =
    onto_behind done byte (pairs_of rest) ∙ (ap (λ (b : Option ℕ). behind done (onto b (pairs_of rest))) is ∙ so_far)

pub no_byte : (done : List ℕ) (high low : ℕ) (rest : List ℕ) (whole : Option (List ℕ)) → None ≡ byte_of high low
    → behind done (pairs_of (high ∷ low ∷ rest)) ≡ whole → None ≡ whole
no_byte done high low rest whole is so_far = ap (λ (b : Option ℕ). behind done (onto b (pairs_of rest))) is ∙ so_far

-- a single digit is no byte
pub odd : (b : ℕ) (rest : List ℕ) → length (b ∷ rest) < 2 → pairs_of (b ∷ rest) ≡ None
odd b [] few = refl
odd b (c ∷ rest) few = absurd (omega (arith, few))

-- if no byte passes the test, the text is the only part
pub whole : (p : ℕ → Bool) (xs : List ℕ) → length xs ≤ position_or_len p xs → slice_split p xs ≡ xs ∷ []
whole p [] few = refl
whole p (x ∷ xs) few = by_first p x xs (p x) refl few (λ rest. whole p xs rest)
  where
    by_first : (p : ℕ → Bool) (x : ℕ) (xs : List ℕ) (b : Bool) → p x ≡ b → length (x ∷ xs) ≤ position_or_len p (x ∷ xs) → (length xs ≤ position_or_len p xs → slice_split p xs ≡ xs ∷ []) → slice_split p (x ∷ xs) ≡ (x ∷ xs) ∷ []
    by_first p x xs true is few rest =
        let none : position_or_len p (x ∷ xs) ≡ 0 = rw is refl in
        absurd (omega (arith, few, none))
    by_first p x xs false is few rest =
        let more : position_or_len p (x ∷ xs) ≡ 1 + position_or_len p xs = rw is refl in
        let split : slice_split p (x ∷ xs) ≡ onto_first x (slice_split p xs) = rw is refl in
        split ∙ ap (onto_first x) (rest (omega (arith, few, more)))
