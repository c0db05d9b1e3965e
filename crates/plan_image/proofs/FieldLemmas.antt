-- Fields are read as they were written, and everything that is written can be read.
use Rattle.std.proofs.Common.{◌≡◌, ℕ, zero, suc, ◌+◌, ◌^◌, ◌<◌, ◌≤◌, Bool, true, false, cond, ltb, eqb, List, [], ◌∷◌, ◌++◌, length, take, drop, Result, Ok, Err, refl, sym, ap, subst, ◌∙◌, append_assoc, arith, inl, inr}
use Rattle.std.specs.Int.{Width, w16, w32, byte_len, from_be_bytes, to_be_bytes}
use Rattle.std.specs.List.{flat_map, AllByRecursion}
use Rattle.std.proofs.lemmas.Bool.{cases_lt, ltb-false, le-ltb, ne_eqb}
use Rattle.std.proofs.lemmas.List.{take_at, drop_at, take-append-drop, length-append, length-take, get_or-drop, get_or-take, get_or_past}
use Rattle.std.proofs.lemmas.Nat.{be_bytes_2, be_bytes_4, from_be_bytes-to_be_bytes_2, from_be_bytes-to_be_bytes_4}
use Rattle.plan_image.specs.declared.fault.Cause.{Cause}
use Rattle.plan_image.specs.declared.reading.stop.Stop.{Stop}
use Rattle.plan_image.specs.Spelling.{long_text, short_text, counted, number, IsWord, AreWords, IsText, IsFileName, AscendsFrom}
use Rattle.plan_image.specs.Reading.{◌>>=◌, Read, refuse, number_at, number_up_to, bytes_at, text_at, file_at, items_at, table_at, numbers_at, next_at, ascending_at}
use Rattle.plan_image.proofs.ItemLemmas.{IsBytes, Takes, Takes-then, bind_ok, ok_is, AllFrom, items_take, items_again}

pub IsBytes-drop : (n : ℕ) (bytes : List ℕ) → IsBytes bytes → IsBytes (drop n bytes)
IsBytes-drop n bytes h i = rw get_or-drop (h (n + i))

IsBytes-take : (n : ℕ) (bytes : List ℕ) → IsBytes bytes → IsBytes (take n bytes)
IsBytes-take n bytes h i =
    elim (cases_lt i n) [
      | inl lt ↦ rw (get_or-take n bytes i 0 lt) (h i)
      | inr le ↦ rw (get_or_past (take n bytes) i 0 (omega (arith, length-take n bytes))) (omega arith)
    ]

-- a reader and a speller of the same items
pub record IsReader {X : Type 0} (item : List ℕ → Read X) (spell : X → List ℕ) (Fits : X → Type 0) : Type 0 where
  pub takes : (bytes : List ℕ) (x : X × List ℕ) → IsBytes bytes → item bytes ≡ Ok x → Takes bytes (spell x.0) x.1 × Fits x.0
  pub again : (x : X) (rest : List ℕ) → Fits x → item (spell x ++ rest) ≡ Ok (x, rest)

-- the bytes that a first step took, if the whole didn't fail
pub opens : {X Y : Type 0} {item : List ℕ → Read X} {spell : X → List ℕ} {Fits : X → Type 0} → IsReader item spell Fits
    → (f : X × List ℕ → Result Y Stop) (bytes : List ℕ) (y : Y) → IsBytes bytes → (item bytes >>= f) ≡ Ok y
    → (x : X × List ℕ) × Takes bytes (spell x.0) x.1 × Fits x.0 × (f x ≡ Ok y)
opens {item = item} r f bytes y fits e =
    let a = bind_ok (item bytes) f y e in
    let t = r.takes bytes a.0 fits a.1 in
    (a.0, t.0, t.1, a.2)

pub passes : {Y : Type 0} (b : Bool) (cause : Cause) (bytes : List ℕ) (f : Unit {0} → Result Y Stop) (y : Y) → (refuse b cause bytes >>= f) ≡ Ok y → (b ≡ false) × (f tt ≡ Ok y)
passes true cause bytes f y e = absurd cc
passes false cause bytes f y e = (refl, e)

pub guard_ok : {A : Type 0} (b : Bool) (d : Stop) (x y : A) → cond b (Err d) (Ok x) ≡ Ok y → (b ≡ false) × (x ≡ y)
guard_ok true d x y e = absurd cc
guard_ok false d x y e = (refl, cc)

-- ---- numbers

pub record IsWide (w : Width) (limit : ℕ) : Type 0 where
  pub len : (n : ℕ) → length (to_be_bytes w n) ≡ byte_len w
  pub back : (bytes : List ℕ) → length bytes ≡ byte_len w → IsBytes bytes → to_be_bytes w (from_be_bytes w bytes) ≡ bytes
  pub again : (n : ℕ) → n < limit → from_be_bytes w (to_be_bytes w n) ≡ n
  pub below : (bytes : List ℕ) → IsBytes bytes → from_be_bytes w bytes < limit

pub wide16 : IsWide w16 (2 ^ 16)
wide16 = record {
  len = λ n. refl;
  back = λ bytes len fits. be_bytes_2 bytes _ len fits refl;
  again = λ n lt. from_be_bytes-to_be_bytes_2 n lt;
  below = λ bytes fits. omega (arith, fits 0, fits 1);
}

pub wide32 : IsWide w32 (2 ^ 32)
wide32 = record {
  len = λ n. refl;
  back = λ bytes len fits. be_bytes_4 bytes _ len fits refl;
  again = λ n lt. from_be_bytes-to_be_bytes_4 n lt;
  below = λ bytes fits. omega (arith, fits 0, fits 1, fits 2, fits 3);
}

number_takes : (w : Width) (limit : ℕ) (wide : IsWide w limit) (bytes : List ℕ) (x : ℕ × List ℕ) → IsBytes bytes → number_at w bytes ≡ Ok x → Takes bytes (to_be_bytes w x.0) x.1 × (x.0 < limit)
unfolding number_at
number_takes w limit wide bytes x fits e =
    let g = guard_ok (ltb (length bytes) (byte_len w)) (record { cause = _; left = 0 }) (from_be_bytes w (take (byte_len w) bytes), drop (byte_len w) bytes) x e in
    let long : byte_len w ≤ length bytes = ltb-false _ _ g.0 in
    let front : to_be_bytes w (from_be_bytes w (take (byte_len w) bytes)) ≡ take (byte_len w) bytes = wide.back (take (byte_len w) bytes) (omega (arith, length-take (byte_len w) bytes)) (IsBytes-take (byte_len w) bytes fits) in
    subst (λ (p : ℕ × List ℕ). Takes bytes (to_be_bytes w p.0) p.1 × (p.0 < limit)) g.1
    (record { parts = rw front (sym (take-append-drop (byte_len w) bytes)); rest_fits = IsBytes-drop (byte_len w) bytes fits }, wide.below (take (byte_len w) bytes) (IsBytes-take (byte_len w) bytes fits))

number_again : (w : Width) (limit : ℕ) (wide : IsWide w limit) (n : ℕ) (rest : List ℕ) → n < limit → number_at w (to_be_bytes w n ++ rest) ≡ Ok (n, rest)
unfolding number_at
number_again w limit wide n rest lt =
    let len = wide.len n in
    let long : ltb (length (to_be_bytes w n ++ rest)) (byte_len w) ≡ false = le-ltb _ _ (omega (arith, length-append (to_be_bytes w n) rest)) in
    rw (long, take_at (to_be_bytes w n) rest (byte_len w) len, drop_at (to_be_bytes w n) rest (byte_len w) len, wide.again n lt) refl

pub number_law : (w : Width) (limit : ℕ) → IsWide w limit → IsReader (number_at w) (to_be_bytes w) (λ n. n < limit)
number_law w limit wide = record { takes = number_takes w limit wide; again = number_again w limit wide }

pub word_law : IsReader (number_at w32) number IsWord
word_law = number_law w32 (2 ^ 32) wide32

pub up_to_law : (w : Width) (limit most : ℕ) → IsWide w limit → IsReader (number_up_to w most) (to_be_bytes w) (λ n. (n ≤ most) × (n < limit))
unfolding number_up_to
up_to_law w limit most wide = record {
  takes = λ bytes x fits e.
      let a = opens (number_law w limit wide) (λ n. refuse (ltb most n.0) _ bytes >>= λ _. Ok n) bytes x fits e in
      let b = passes (ltb most a.0.0) _ bytes (λ _. Ok a.0) x a.3 in
      subst (λ (p : ℕ × List ℕ). Takes bytes (to_be_bytes w p.0) p.1 × ((p.0 ≤ most) × (p.0 < limit))) (ok_is a.0 x b.1) (a.1, (ltb-false _ _ b.0, a.2));
  again = λ n rest fits. rw (number_again w limit wide n rest fits.1, le-ltb most n fits.0) refl;
}

-- ---- texts

bytes_takes : (n : ℕ) (bytes : List ℕ) (x : List ℕ × List ℕ) → IsBytes bytes → bytes_at n bytes ≡ Ok x → Takes bytes x.0 x.1 × (length x.0 ≡ n)
unfolding bytes_at
bytes_takes n bytes x fits e =
    let g = guard_ok (ltb (length bytes) n) (record { cause = _; left = 0 }) (take n bytes, drop n bytes) x e in
    let long : n ≤ length bytes = ltb-false _ _ g.0 in
    subst (λ (p : List ℕ × List ℕ). Takes bytes p.0 p.1 × (length p.0 ≡ n)) g.1
    (record { parts = sym (take-append-drop n bytes); rest_fits = IsBytes-drop n bytes fits }, omega (arith, length-take n bytes))

pub bytes_again : (text rest : List ℕ) → bytes_at (length text) (text ++ rest) ≡ Ok (text, rest)
unfolding bytes_at
bytes_again text rest =
    let long : ltb (length (text ++ rest)) (length text) ≡ false = le-ltb _ _ (omega (arith, length-append text rest)) in
    rw (long, take_at text rest (length text) refl, drop_at text rest (length text) refl) refl

-- a length, and that many bytes
pub text_takes : (w : Width) (bytes : List ℕ) (n : ℕ × List ℕ) (x : List ℕ × List ℕ) → Takes bytes (to_be_bytes w n.0) n.1 → bytes_at n.0 n.1 ≡ Ok x → Takes bytes (to_be_bytes w (length x.0) ++ x.0) x.1 × (length x.0 ≡ n.0)
text_takes w bytes n x t e =
    let b = bytes_takes n.0 n.1 x t.rest_fits e in
    (subst (λ (k : ℕ). Takes bytes (to_be_bytes w k ++ x.0) x.1) (sym b.1) (Takes-then bytes (to_be_bytes w n.0) n.1 x.0 x.1 t b.0), b.1)

pub text_law : IsReader text_at long_text IsText
unfolding text_at
text_law = record {
  takes = λ bytes x fits e.
      let a = opens (up_to_law w32 (2 ^ 32) 1048576 wide32) (λ n. bytes_at n.0 n.1) bytes x fits e in
      let b = text_takes w32 bytes a.0 x a.1 a.3 in
      let most = a.2.0 in
      (b.0, rw b.1 most);
  again = λ text rest fits.
      ap text_at (append_assoc (to_be_bytes w32 (length text)) text rest) ∙ rw ((up_to_law w32 (2 ^ 32) 1048576 wide32).again (length text) (text ++ rest) (fits, omega (arith, fits)), bytes_again text rest) refl;
}

pub file_law : IsReader file_at short_text IsFileName
unfolding file_at
file_law = record {
  takes = λ bytes x fits e.
      let a = opens (up_to_law w16 (2 ^ 16) 4096 wide16) (λ n. refuse (eqb n.0 0) _ bytes >>= λ _. bytes_at n.0 n.1) bytes x fits e in
      let c = passes (eqb a.0.0 0) _ bytes (λ _. bytes_at a.0.0 a.0.1) x a.3 in
      let b = text_takes w16 bytes a.0 x a.1 c.1 in
      let some : 0 < a.0.0 = above_zero a.0.0 c.0 in
      (b.0, (rw b.1 some, rw b.1 a.2.0));
  again = λ text rest fits.
      ap file_at (append_assoc (to_be_bytes w16 (length text)) text rest) ∙ rw ((up_to_law w16 (2 ^ 16) 4096 wide16).again (length text) (text ++ rest) (fits.1, omega (arith, fits.1)), not_zero (length text) fits.0, bytes_again text rest) refl;
} where
  above_zero : (n : ℕ) → eqb n 0 ≡ false → 0 < n
  above_zero zero e = absurd cc
  above_zero (suc n) e = omega arith

  not_zero : (n : ℕ) → 0 < n → eqb n 0 ≡ false
  not_zero n lt = ne_eqb n 0 (λ e. omega (arith, lt, e))

-- ---- lists

module _ {X : Type 0} (item : List ℕ → Read X) (spell : X → List ℕ) (Fits : X → Type 0) where
  pub each_fits : (xs : List X) → AllFrom (λ (s : Unit {0}). item) (λ s x. s) spell (λ s x. Fits x) tt xs → AllByRecursion Fits xs
  each_fits [] fits = tt
  each_fits (x ∷ xs) fits = (fits.0, each_fits xs fits.1)

  pub each_from : (xs : List X) → AllByRecursion Fits xs → AllFrom (λ (s : Unit {0}). item) (λ s x. s) spell (λ s x. Fits x) tt xs
  each_from [] fits = tt
  each_from (x ∷ xs) fits = (fits.0, each_from xs fits.1)

module _ {X : Type 0} {item : List ℕ → Read X} {spell : X → List ℕ} {Fits : X → Type 0} where
  -- a count, and that many items
  pub counted_takes : IsReader item spell Fits → (bytes : List ℕ) (n : ℕ × List ℕ) (x : List X × List ℕ) → Takes bytes (number n.0) n.1
      → items_at (λ (s : Unit {0}). item) (λ s x. s) tt n.0 n.1 ≡ Ok x → Takes bytes (counted spell x.0) x.1 × (length x.0 ≡ n.0) × AllByRecursion Fits x.0
  counted_takes r bytes n x t e =
      let b = items_take (λ (s : Unit {0}). item) (λ s x. s) spell (λ s x. Fits x) (λ s bytes x fits e. r.takes bytes x fits e) n.0 tt n.1 x t.rest_fits e in
      (subst (λ (k : ℕ). Takes bytes (number k ++ flat_map spell x.0) x.1) (sym b.1) (Takes-then bytes (number n.0) n.1 (flat_map spell x.0) x.1 t b.0), b.1, each_fits item spell Fits x.0 b.2)

  pub counted_again : IsReader item spell Fits → (xs : List X) (rest : List ℕ) → AllByRecursion Fits xs → items_at (λ (s : Unit {0}). item) (λ s x. s) tt (length xs) (flat_map spell xs ++ rest) ≡ Ok (xs, rest)
  counted_again r xs rest fits = items_again (λ (s : Unit {0}). item) (λ s x. s) spell (λ s x. Fits x) (λ s x rest fits. r.again x rest fits) xs tt rest (each_from item spell Fits xs fits)

  pub table_law : IsReader item spell Fits → (most : ℕ) → most < 2 ^ 32 → IsReader (table_at item most) (counted spell) (λ xs. (length xs ≤ most) × AllByRecursion Fits xs)
  unfolding table_at
  table_law r most small = record {
    takes = λ bytes x fits e.
        let a = opens (up_to_law w32 (2 ^ 32) most wide32) (λ n. items_at (λ (s : Unit {0}). item) (λ s x. s) tt n.0 n.1) bytes x fits e in
        let b = counted_takes r bytes a.0 x a.1 a.3 in
        (b.0, (rw b.1 a.2.0, b.2));
    again = λ xs rest fits.
        ap (table_at item most) (append_assoc (number (length xs)) (flat_map spell xs) rest) ∙ rw ((up_to_law w32 (2 ^ 32) most wide32).again (length xs) (flat_map spell xs ++ rest) (fits.0, omega (arith, fits.0, small)), counted_again r xs rest fits.1) refl;
  }

pub numbers_law : IsReader numbers_at (counted number) AreWords
unfolding numbers_at
numbers_law = record {
  takes = λ bytes x fits e.
      let a = opens word_law (λ n. items_at (λ (s : Unit {0}). number_at w32) (λ s x. s) tt n.0 n.1) bytes x fits e in
      let b = counted_takes word_law bytes a.0 x a.1 a.3 in
      (b.0, (rw b.1 a.2, b.2));
  again = λ xs rest fits.
      ap numbers_at (append_assoc (number (length xs)) (flat_map number xs) rest) ∙ rw (word_law.again (length xs) (flat_map number xs ++ rest) fits.0, counted_again word_law xs rest fits.1) refl;
}

-- ---- numbers that ascend

abbrev IsNext : ℕ → ℕ → Type 0
IsNext least n = (least ≤ n) × IsWord n

next_takes : (least : ℕ) (bytes : List ℕ) (x : ℕ × List ℕ) → IsBytes bytes → next_at least bytes ≡ Ok x → Takes bytes (number x.0) x.1 × IsNext least x.0
unfolding next_at
next_takes least bytes x fits e =
    let a = opens word_law (λ n. refuse (ltb n.0 least) _ bytes >>= λ _. Ok n) bytes x fits e in
    let b = passes (ltb a.0.0 least) _ bytes (λ _. Ok a.0) x a.3 in
    subst (λ (p : ℕ × List ℕ). Takes bytes (number p.0) p.1 × IsNext least p.0) (ok_is a.0 x b.1) (a.1, (ltb-false _ _ b.0, a.2))

next_again : (least n : ℕ) (rest : List ℕ) → IsNext least n → next_at least (number n ++ rest) ≡ Ok (n, rest)
unfolding next_at
next_again least n rest fits = rw (word_law.again n rest fits.1, le-ltb n least fits.0) refl

abbrev AllNext : ℕ → List ℕ → Type 0
AllNext = AllFrom next_at (λ least n. n + 1) number IsNext

ascends : (least : ℕ) (ns : List ℕ) → AllNext least ns → AscendsFrom least ns × AllByRecursion IsWord ns
ascends least [] h = (tt, tt)
ascends least (n ∷ ns) h =
    let more = ascends (n + 1) ns h.1 in
    ((h.0.0, more.0), (h.0.1, more.1))

all_next : (least : ℕ) (ns : List ℕ) → AscendsFrom least ns → AllByRecursion IsWord ns → AllNext least ns
all_next least [] h k = tt
all_next least (n ∷ ns) h k = ((h.0, k.0), all_next (n + 1) ns h.1 k.1)

pub ascending_law : IsReader ascending_at (counted number) (λ ns. AreWords ns × AscendsFrom 0 ns)
unfolding ascending_at
ascending_law = record {
  takes = λ bytes x fits e.
      let a = opens word_law (λ n. items_at next_at (λ least n. n + 1) 0 n.0 n.1) bytes x fits e in
      let b = items_take next_at (λ least n. n + 1) number IsNext next_takes a.0.0 0 a.0.1 x a.1.rest_fits a.3 in
      let both = Takes-then bytes (number a.0.0) a.0.1 (flat_map number x.0) x.1 a.1 b.0 in
      let up = ascends 0 x.0 b.2 in
      (subst (λ (k : ℕ). Takes bytes (number k ++ flat_map number x.0) x.1) (sym b.1) both, ((rw b.1 a.2, up.1), up.0));
  again = λ xs rest fits.
      ap ascending_at (append_assoc (number (length xs)) (flat_map number xs) rest)
      ∙ rw (word_law.again (length xs) (flat_map number xs ++ rest) fits.0.0, items_again next_at (λ least n. n + 1) number IsNext next_again xs 0 rest (all_next 0 xs fits.1 fits.0.1)) refl;
}
