-- A front of whole entries is the longest one if no entry follows it.
use Rattle.std.proofs.Common.{◌≡◌, ℕ, ◌+◌, ◌-◌, ◌≤◌, ◌<◌, List, [], ◌∷◌, ◌++◌, length, take, drop, Some, None, refl, sym, ap, ◌∙◌, append_assoc, arith}
use Rattle.std.specs.List.{flat_map, AllByRecursion}
use Rattle.std.proofs.lemmas.List.{append-nil, take_at, take-append-drop, length-append, length-take, length-drop}
use Rattle.std.proofs.lemmas.List.Concat.{flat_map-cons, flat_map-append}
use Rattle.std.specs.Int.{w32, to_be_bytes}
use Rattle.plan_record.specs.Entries.{EntryData, body, spelling, HasSpelling, IsWholeFront, IsGoodFront}
use Rattle.plan_record.specs.Reading.{entry_at}
use Rattle.plan_record.proofs.EntryLemmas.{IsBytes, entry_law, some_is}

-- some entries and the bytes after them, with the first entry separate
apart : (x : EntryData) (xs : List EntryData) (rest : List ℕ) → flat_map spelling (x ∷ xs) ++ rest ≡ spelling x ++ (flat_map spelling xs ++ rest)
apart x xs rest = ap (λ (t : List ℕ). t ++ rest) (flat_map-cons spelling x xs) ∙ append_assoc (spelling x) (flat_map spelling xs) rest

longest_from : (entries others : List EntryData) (rest more : List ℕ) → AllByRecursion HasSpelling entries → AllByRecursion HasSpelling others
    → flat_map spelling entries ++ rest ≡ flat_map spelling others ++ more → entry_at rest ≡ None → length (flat_map spelling others) ≤ length (flat_map spelling entries)
longest_from entries [] rest more fe fo same none = omega arith
longest_from [] (y ∷ ys) rest more fe fo same none =
    let read : entry_at rest ≡ Some (y, flat_map spelling ys ++ more) = ap entry_at (same ∙ apart y ys more) ∙ entry_law.again y (flat_map spelling ys ++ more) fo.0 in
    let no : None ≡ Some (y, flat_map spelling ys ++ more) = sym none ∙ read in
    absurd cc
longest_from (x ∷ xs) (y ∷ ys) rest more fe fo same none =
    let one = entry_law.again x (flat_map spelling xs ++ rest) fe.0 in
    let other = entry_law.again y (flat_map spelling ys ++ more) fo.0 in
    let joined : spelling x ++ (flat_map spelling xs ++ rest) ≡ spelling y ++ (flat_map spelling ys ++ more) = sym (apart x xs rest) ∙ same ∙ apart y ys more in
    let both : (x, flat_map spelling xs ++ rest) ≡ (y, flat_map spelling ys ++ more) = some_is _ _ (sym one ∙ ap entry_at joined ∙ other) in
    let behind = longest_from xs ys rest more fe.1 fo.1 (ap (λ (p : EntryData × List ℕ). p.1) both) none in
    let first : length (spelling x) ≡ length (spelling y) = ap (λ (p : EntryData × List ℕ). length (spelling p.0)) both in
    let long_x : length (flat_map spelling (x ∷ xs)) ≡ length (spelling x) + length (flat_map spelling xs) = ap length (flat_map-cons spelling x xs) ∙ length-append (spelling x) (flat_map spelling xs) in
    let long_y : length (flat_map spelling (y ∷ ys)) ≡ length (spelling y) + length (flat_map spelling ys) = ap length (flat_map-cons spelling y ys) ∙ length-append (spelling y) (flat_map spelling ys) in
    omega (arith, behind, first, long_x, long_y)

-- a file that begins with whole entries
split : (file : List ℕ) (entries : List EntryData) (len : ℕ) → IsWholeFront file entries len → (file ≡ flat_map spelling entries ++ drop len file) × (len ≡ length (flat_map spelling entries))
split file entries len whole =
    (sym (take-append-drop len file) ∙ ap (λ (t : List ℕ). t ++ drop len file) whole.spelled, omega (arith, whole.within, length-take len file, ap length whole.spelled))

-- If no entry follows them, whole entries are the longest front.
pub good_front : (file : List ℕ) (entries : List EntryData) (len : ℕ) → IsWholeFront file entries len → entry_at (drop len file) ≡ None → IsGoodFront file entries len
good_front file entries len whole none = record {
  whole = whole;
  longest = λ others more other.
      let a = split file entries len whole in
      let b = split file others more other in
      omega (arith, a.1, b.1, longest_from entries others (drop len file) (drop more file) whole.fit other.fit (sym a.0 ∙ b.0) none);
}

fit_append : (xs : List EntryData) (x : EntryData) → AllByRecursion HasSpelling xs → HasSpelling x → AllByRecursion HasSpelling (xs ++ x ∷ [])
fit_append [] x fits one = (one, tt)
fit_append (y ∷ ys) x fits one = (fits.0, fit_append ys x fits.1 one)

-- No entries are a whole front.
pub no_front : (file : List ℕ) → IsWholeFront file [] 0
no_front file = record { within = omega arith; spelled = refl; fit = tt }

-- A front with the entry that follows it is a front.
pub front_grows : (file : List ℕ) (entries : List EntryData) (len : ℕ) (x : EntryData × List ℕ) → IsBytes (drop len file) → IsWholeFront file entries len → entry_at (drop len file) ≡ Some x
    → IsWholeFront file (entries ++ x.0 ∷ []) (length file - length x.1)
front_grows file entries len x fits whole read =
    let t = entry_law.takes (drop len file) x fits read in
    let a = split file entries len whole in
    let all : flat_map spelling (entries ++ x.0 ∷ []) ≡ flat_map spelling entries ++ spelling x.0 =
    flat_map-append spelling entries (x.0 ∷ []) ∙ ap (λ (s : List ℕ). flat_map spelling entries ++ s) (flat_map-cons spelling x.0 [] ∙ append-nil (spelling x.0)) in
    let joined : file ≡ (flat_map spelling entries ++ spelling x.0) ++ x.1 = a.0 ∙ ap (λ (s : List ℕ). flat_map spelling entries ++ s) t.0.parts ∙ sym (append_assoc (flat_map spelling entries) (spelling x.0) x.1) in
    let long : length file ≡ length (flat_map spelling entries ++ spelling x.0) + length x.1 = ap length joined ∙ length-append (flat_map spelling entries ++ spelling x.0) x.1 in
    let end : length file - length x.1 ≡ length (flat_map spelling entries ++ spelling x.0) = omega (arith, long) in
    record {
      within = omega (arith, long);
      spelled = ap (take (length file - length x.1)) joined ∙ ap (λ k. take k ((flat_map spelling entries ++ spelling x.0) ++ x.1)) end ∙ take_at (flat_map spelling entries ++ spelling x.0) x.1 _ refl ∙ sym all;
      fit = fit_append entries x.0 whole.fit t.1;
    }

some_bytes : (x : EntryData) → 0 < length (spelling x)
unfolding spelling
some_bytes x =
    let long : length (to_be_bytes w32 (length (body x)) ++ body x) ≡ length (to_be_bytes w32 (length (body x))) + length (body x) = length-append (to_be_bytes w32 (length (body x))) (body x) in
    let four : length (to_be_bytes w32 (length (body x))) ≡ 4 = refl in
    omega (arith, long, four)

-- An entry takes at least one byte.
pub entry_takes : (file : List ℕ) (len : ℕ) (x : EntryData × List ℕ) → IsBytes (drop len file) → entry_at (drop len file) ≡ Some x → length x.1 + len < length file
entry_takes file len x fits read =
    let t = entry_law.takes (drop len file) x fits read in
    let long : length (drop len file) ≡ length (spelling x.0) + length x.1 = ap length t.0.parts ∙ length-append (spelling x.0) x.1 in
    omega (arith, long, length-drop len file, some_bytes x.0)
