-- Bits of paths. Lemmas for src/path_filter.rt.
use Rattle.std.proofs.Common.{◌≡◌, ◌≢◌, ◌⊎◌, inl, inr, ℕ, ◌<◌, ◌/◌, ◌%◌, ◌^◌, List, take, drop, subst, append-nil, arith, [], ◌∷◌, ◌++◌, length, get_or, ap, sym, ◌∙◌, length-set, get_or-set_same, get_or-set_other}
use Rattle.std.specs.Prelude.{bit_and, bit_or}
use Rattle.std.proofs.lemmas.Bool.{cases_eq}
use Rattle.std.proofs.lemmas.List.{drop_all, take_all}
use Rattle.std.proofs.lemmas.List.Elements.{All-push, All-weaker}
use Rattle.std.proofs.lemmas.Nat.{and_or_apart, and_or_self, pow_apart}
use Rattle.plan_text.specs.PathFilters.{HasBit, HaveBits, bit_of, place_of, with_bit, word_of}

-- a bit of a word stays set if a bit is set in the word
bit_stays : (word hash other : ℕ) → bit_and word (bit_of other) ≡ bit_of other → bit_and (bit_or word (bit_of hash)) (bit_of other) ≡ bit_of other
unfolding bit_of
bit_stays word hash other h = by (cases_eq (hash / 2 ^ 32 % 64) (other / 2 ^ 32 % 64))
  where
    by : (hash / 2 ^ 32 % 64 ≡ other / 2 ^ 32 % 64) ⊎ (hash / 2 ^ 32 % 64 ≢ other / 2 ^ 32 % 64) → bit_and (bit_or word (2 ^ (hash / 2 ^ 32 % 64))) (2 ^ (other / 2 ^ 32 % 64)) ≡ 2 ^ (other / 2 ^ 32 % 64)
    by (inl e) = ap (λ (n : ℕ). bit_and (bit_or word (2 ^ n)) (2 ^ (other / 2 ^ 32 % 64))) e ∙ and_or_self (2 ^ (other / 2 ^ 32 % 64)) word
    by (inr ne) = and_or_apart (2 ^ (other / 2 ^ 32 % 64)) word (2 ^ (hash / 2 ^ 32 % 64)) (pow_apart (hash / 2 ^ 32 % 64) (other / 2 ^ 32 % 64) ne) ∙ h

-- the word of a hash, after the bit of a hash was set
word_after : (words : List ℕ) (hash other : ℕ) → word_of (with_bit words hash) other ≡ get_or (with_bit words hash) (place_of (length words) other) 0
word_after words hash other =
    ap (λ (n : ℕ). get_or (with_bit words hash) (place_of n other) 0) (length-set words (place_of (length words) hash) (bit_or (word_of words hash) (bit_of hash)))

-- the bit of a hash is set after it was set
bit_set : (words : List ℕ) (hash : ℕ) → place_of (length words) hash < length words → HasBit (with_bit words hash) hash
bit_set words hash within =
    let word : word_of (with_bit words hash) hash ≡ bit_or (word_of words hash) (bit_of hash) =
    word_after words hash hash ∙ get_or-set_same words (place_of (length words) hash) (bit_or (word_of words hash) (bit_of hash)) 0 within in
    ap (λ (n : ℕ). bit_and n (bit_of hash)) word ∙ and_or_self (bit_of hash) (word_of words hash)

-- a bit that was set before is still set
still_set : (words : List ℕ) (hash other : ℕ) → place_of (length words) hash < length words → HasBit words other → HasBit (with_bit words hash) other
still_set words hash other within h = by (cases_eq (place_of (length words) other) (place_of (length words) hash))
  where
    by : (place_of (length words) other ≡ place_of (length words) hash) ⊎ (place_of (length words) other ≢ place_of (length words) hash) → HasBit (with_bit words hash) other
    by (inl e) =
        let same : word_of words other ≡ word_of words hash = ap (λ (n : ℕ). get_or words n 0) e in
        let word : word_of (with_bit words hash) other ≡ bit_or (word_of words other) (bit_of hash) =
        word_after words hash other
        ∙ ap (λ (n : ℕ). get_or (with_bit words hash) n 0) e
        ∙ get_or-set_same words (place_of (length words) hash) (bit_or (word_of words hash) (bit_of hash)) 0 within
        ∙ ap (λ (n : ℕ). bit_or n (bit_of hash)) (sym same) in
        ap (λ (n : ℕ). bit_and n (bit_of other)) word ∙ bit_stays (word_of words other) hash other h
    by (inr ne) =
        let word : word_of (with_bit words hash) other ≡ word_of words other =
        word_after words hash other ∙ get_or-set_other words (place_of (length words) hash) (place_of (length words) other) (bit_or (word_of words hash) (bit_of hash)) 0 ne in
        ap (λ (n : ℕ). bit_and n (bit_of other)) word ∙ h

-- each path has its bit after the bit of one more path was set
pub path_added : (hash : List ℕ → ℕ) (words : List ℕ) (paths : List (List ℕ)) (path : List ℕ) → place_of (length words) (hash path) < length words → HaveBits hash words paths
    → HaveBits hash (with_bit words (hash path)) (paths ++ path ∷ [])
path_added hash words paths path within have =
    let now : List ℕ = with_bit words (hash path) in
    All-push (λ p. HasBit now (hash p)) paths path
    (All-weaker (λ p. HasBit words (hash p)) (λ p. HasBit now (hash p)) (λ p h. still_set words (hash path) (hash p) within h) paths have)
    (bit_set words (hash path) within)

-- a vector of which all items were replaced
all_replaced : (items new : List ℕ) (len : ℕ) → len ≡ length items → length new ≡ length items → take len (new ++ drop (length new) items) ≡ new
all_replaced items new len a b =
    ap (λ (rest : List ℕ). take len (new ++ rest)) (drop_all (length new) items (omega (arith, b)))
    ∙ ap (take len) (append-nil new)
    ∙ take_all len new (omega (arith, a, b))

-- words that have the bits of some paths by a hash, to which a path was added
pub filter_added : (hash : List ℕ → ℕ) (items lent new : List ℕ) (len : ℕ) (paths more : List (List ℕ)) (path : List ℕ) → len ≡ length items → lent ≡ items → new ≡ with_bit lent (hash path) → more ≡ paths ++ path ∷ []
    → place_of (length lent) (hash path) < length lent → (0 < length items) × HaveBits hash items paths
    → (0 < length (take len (new ++ drop (length new) items))) × HaveBits hash (take len (new ++ drop (length new) items)) more
filter_added hash items lent new len paths more path long same set put within have =
    let now : List ℕ = with_bit items (hash path) in
    let is : new ≡ now = set ∙ ap (λ (ws : List ℕ). with_bit ws (hash path)) same in
    let as_long : length now ≡ length items = length-set items (place_of (length items) (hash path)) (bit_or (word_of items (hash path)) (bit_of (hash path))) in
    let new_long : length new ≡ length items = ap length is ∙ as_long in
    let all : take len (new ++ drop (length new) items) ≡ now = all_replaced items new len long new_long ∙ is in
    let here : place_of (length items) (hash path) < length items = subst (λ (ws : List ℕ). place_of (length ws) (hash path) < length ws) same within in
    let bits : HaveBits hash now more = subst (HaveBits hash now) (sym put) (path_added hash items paths path here have.1) in
    let some = have.0 in
    (subst (λ (ws : List ℕ). 0 < length ws) (sym all) (omega (arith, as_long, some)), subst (λ (ws : List ℕ). HaveBits hash ws more) (sym all) bits)
