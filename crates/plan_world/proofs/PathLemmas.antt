-- Paths gone through one by one, and the names in a path. Serves src/askable.rt, src/recorded.rt and src/shell.rt.
use Rattle.std.proofs.Common.{◌≡◌, ◌+◌, ◌<◌, ◌≤◌, ◌⊎◌, ℕ, Bool, true, false, List, [], ◌∷◌, ◌++◌, length, None, inl, inr, refl, sym, ap, subst, ◌∙◌, arith, cond, slice_get, suc, zero, not, ◌||◌, ◌-◌, take, drop}
use Rattle.std.specs.Prelude.{◌==◌, ◌&&◌, All, get_or, nat_lt}
use Rattle.std.specs.List.{list_all, list_any, onto_first, position_or_len}
use Rattle.plan_text.specs.Path.{components_of}
use Rattle.plan_world.specs.Askable.{IsAskable, is_name, is_plain_byte}
use Rattle.std.proofs.Math.Dec.{eqb-suc-zero}
use Rattle.std.proofs.lemmas.Bool.{cases_order, le-leb, ltb-true}
use Rattle.std.proofs.Math.Seq.{take-add}
use Rattle.std.proofs.lemmas.List.{append-nil, take-append-drop}
use Rattle.std.proofs.lemmas.List.Elements.{All-cons, All-nil}
use Rattle.std.proofs.lemmas.List.Folds.{list_all-append}
use Rattle.std.proofs.lemmas.Str.{IsUtf8-from_ascii}
use Rattle.std.proofs.lemmas.Str.Ascii.{IsAscii-from_all}

-- if none is to come, all were pushed
pub nothing_more : (rows paths all : List (List ℕ)) → None ≡ slice_get paths 0 → rows ++ paths ≡ all → rows ≡ all
nothing_more rows [] all none h = sym (append-nil rows) ∙ h
nothing_more rows (p ∷ ps) all none h = absurd cc

-- if something holds of each path before a number, and of that one too, it holds of each before the next
pub one_more : (P : List ℕ → Type 0) (n : ℕ) (paths : List (List ℕ)) (path : List ℕ) → path ≡ get_or paths n []
    → ((k : ℕ) → k < n → P (get_or paths k [])) → P path → (k : ℕ) → k < n + 1 → P (get_or paths k [])
one_more P n paths path same before here k lt = by k lt (cases_order k n)
  where
    by : (k : ℕ) → k < n + 1 → (k ≡ n) ⊎ ((k < n) ⊎ (n < k)) → P (get_or paths k [])
    by k lt (inl is) = rw is (subst P same here)
    by k lt (inr (inl below)) = before k below
    by k lt (inr (inr above)) = absurd (omega (arith, lt, above))

-- ---- the names in a short path

-- the parts of a path between slashes: the first is no longer than the path, and files can have the names of the others
record HasNames (path : List ℕ) : Type 0 where
  pub first : List ℕ
  pub rest : List (List ℕ)
  pub is : components_of path ≡ first ∷ rest
  pub short : length first ≤ length path
  pub names : list_all is_name rest ≡ true

short_is_name : (name : List ℕ) → length name ≤ 255 → is_name name ≡ true
short_is_name name le = le-leb (length name) 255 le

all_names : (first : List ℕ) (rest : List (List ℕ)) → length first ≤ 255 → list_all is_name rest ≡ true → list_all is_name (first ∷ rest) ≡ true
all_names first rest le names = rw (short_is_name first le) names

one_more_byte : (b : ℕ) (bs : List ℕ) → length bs < 255 → HasNames bs → (at : Bool) → (b == 47) ≡ at → HasNames (b ∷ bs)
one_more_byte b bs lt inner true e =
    let short = inner.short in
    record {
      first = [];
      rest = components_of bs;
      is = ap (λ x. cond x ([] ∷ components_of bs) (onto_first b (components_of bs))) e;
      short = omega arith;
      names = subst (λ (parts : List (List ℕ)). list_all is_name parts ≡ true) (sym inner.is) (all_names inner.first inner.rest (omega (arith, short, lt)) inner.names);
    }
one_more_byte b bs lt inner false e =
    let short = inner.short in
    record {
      first = b ∷ inner.first;
      rest = inner.rest;
      is = ap (λ x. cond x ([] ∷ components_of bs) (onto_first b (components_of bs))) e ∙ ap (onto_first b) inner.is;
      short = omega (arith, short);
      names = inner.names;
    }

has_names : (path : List ℕ) → length path ≤ 255 → HasNames path
has_names [] le = record { first = []; rest = []; is = refl; short = omega arith; names = refl }
has_names (b ∷ bs) le = one_more_byte b bs (omega (arith, le)) (has_names bs (omega (arith, le))) (b == 47) refl

-- Files can have each name of a path of 255 bytes or less.
pub short_names : (path : List ℕ) → length path ≤ 255 → list_all is_name (components_of path) ≡ true
short_names path le =
    let has = has_names path le in
    let short = has.short in
    subst (λ (parts : List (List ℕ)). list_all is_name parts ≡ true) (sym has.is) (all_names has.first has.rest (omega (arith, short, le)) has.names)

-- ---- the first NUL byte

pub from_not : (any : Bool) → not any ≡ true → any ≡ false
from_not true e = absurd cc
from_not false e = refl

pub not_from : (any : Bool) → any ≡ false → not any ≡ true
not_from true e = absurd cc
not_from false e = refl

-- If no byte is NUL, the first NUL byte is at the end.
pub whole_if_none : (path : List ℕ) → list_any (λ b. b == 0) path ≡ false → position_or_len (λ b. b == 0) path ≡ length path
whole_if_none [] e = refl
whole_if_none (b ∷ bs) e = by (b == 0) e (whole_if_none bs)
  where
    by : (nul : Bool) → (nul || list_any (λ b. b == 0) bs) ≡ false → (list_any (λ b. b == 0) bs ≡ false → position_or_len (λ b. b == 0) bs ≡ length bs)
        → cond (not nul) (1 + position_or_len (λ b. b == 0) bs) 0 ≡ suc (length bs)
    by true e rest = absurd cc
    by false e rest = let same = rest e in omega (arith, same)

-- If the first NUL byte is at the end, no byte is NUL.
pub none_if_whole : (path : List ℕ) → position_or_len (λ b. b == 0) path ≡ length path → list_any (λ b. b == 0) path ≡ false
none_if_whole [] e = refl
none_if_whole (b ∷ bs) e = by (b == 0) e (none_if_whole bs)
  where
    by : (nul : Bool) → cond (not nul) (1 + position_or_len (λ b. b == 0) bs) 0 ≡ suc (length bs)
        → (position_or_len (λ b. b == 0) bs ≡ length bs → list_any (λ b. b == 0) bs ≡ false) → (nul || list_any (λ b. b == 0) bs) ≡ false
    by true e rest = absurd (omega (arith, e))
    by false e rest = rest (omega (arith, e))

-- ---- short paths of plain bytes

plain_below : (b : ℕ) → is_plain_byte b ≡ true → b < 128
plain_below b h = ltb-true b 128 (both b (nat_lt 0 b) (nat_lt b 128) h)
  where
    both : ℕ → (s t : Bool) → (s && t) ≡ true → t ≡ true
    both b true t h = h
    both b false t h = absurd cc

plain_not_nul : (b : ℕ) → is_plain_byte b ≡ true → (b == 0) ≡ false
plain_not_nul zero h = absurd cc
plain_not_nul (suc b) h = eqb-suc-zero b

-- each byte is below 128
all_below : (path : List ℕ) → list_all is_plain_byte path ≡ true → All (λ b. b < 128) path
all_below [] h = All-nil (λ b. b < 128)
all_below (b ∷ bs) h = by (is_plain_byte b) refl h (all_below bs)
  where
    by : (plain : Bool) → is_plain_byte b ≡ plain → (plain && list_all is_plain_byte bs) ≡ true
        → (list_all is_plain_byte bs ≡ true → All (λ b. b < 128) bs) → All (λ b. b < 128) (b ∷ bs)
    by true e h rest = All-cons (λ b. b < 128) b bs (plain_below b e) (rest h)
    by false e h rest = absurd cc

-- no byte is NUL
all_whole : (path : List ℕ) → list_all is_plain_byte path ≡ true → position_or_len (λ b. b == 0) path ≡ length path
all_whole [] h = refl
all_whole (b ∷ bs) h = by (is_plain_byte b) refl h (all_whole bs)
  where
    by : (plain : Bool) → is_plain_byte b ≡ plain → (plain && list_all is_plain_byte bs) ≡ true
        → (list_all is_plain_byte bs ≡ true → position_or_len (λ b. b == 0) bs ≡ length bs) → position_or_len (λ b. b == 0) (b ∷ bs) ≡ suc (length bs)
    by true e h rest =
        let same = rest h in
        rw (plain_not_nul b e) (omega (arith, same))
    by false e h rest = absurd cc

-- The system can be asked about a path of at most 255 plain bytes.
pub plain_is_askable : (path : List ℕ) → length path ≤ 255 → list_all is_plain_byte path ≡ true → IsAskable path
plain_is_askable path le h = record {
  text = IsUtf8-from_ascii path (IsAscii-from_all path (all_below path h));
  whole = all_whole path h;
  short = omega (arith, le);
  names = short_names path le;
}

-- ---- the ends of a short path

-- what is in both parts counts once
once : (front middle back : Bool) → ((front && middle) && (middle && back)) ≡ (front && (middle && back))
once true true back = refl
once true false back = refl
once false middle back = refl

-- the first and the last eight bytes are all bytes of a path of 8 to 16 bytes
pub all_of_ends : (path : List ℕ) → 8 ≤ length path → length path ≤ 16
    → (list_all is_plain_byte (take 8 path) && list_all is_plain_byte (drop (length path - 8) path)) ≡ list_all is_plain_byte path
all_of_ends path least most =
    let count : ℕ = length path - 8 in
    let front : List ℕ = take count path in
    let middle : List ℕ = take (8 - count) (drop count path) in
    let back : List ℕ = drop (8 - count) (drop count path) in
    let some : 8 ≡ count + (8 - count) = omega (arith, least, most) in
    let first : take 8 path ≡ front ++ middle = ap (λ (n : ℕ). take n path) some ∙ take-add count (8 - count) path in
    let last : drop count path ≡ middle ++ back = sym (take-append-drop (8 - count) (drop count path)) in
    let whole : path ≡ front ++ drop count path = sym (take-append-drop count path) in
    let of_first : list_all is_plain_byte (take 8 path) ≡ (list_all is_plain_byte front && list_all is_plain_byte middle) =
    ap (list_all is_plain_byte) first ∙ list_all-append is_plain_byte front middle in
    let of_last : list_all is_plain_byte (drop count path) ≡ (list_all is_plain_byte middle && list_all is_plain_byte back) =
    ap (list_all is_plain_byte) last ∙ list_all-append is_plain_byte middle back in
    let of_whole : list_all is_plain_byte path ≡ (list_all is_plain_byte front && list_all is_plain_byte (drop count path)) =
    ap (list_all is_plain_byte) whole ∙ list_all-append is_plain_byte front (drop count path) in
    ap (λ (b : Bool). b && list_all is_plain_byte (drop count path)) of_first
    ∙ ap (λ (b : Bool). (list_all is_plain_byte front && list_all is_plain_byte middle) && b) of_last
    ∙ once (list_all is_plain_byte front) (list_all is_plain_byte middle) (list_all is_plain_byte back)
    ∙ ap (λ (b : Bool). list_all is_plain_byte front && b) (sym of_last)
    ∙ sym of_whole
