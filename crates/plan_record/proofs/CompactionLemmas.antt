-- The last entries of a record. Lemmas for src/record.rt and src/laws.rt.
use Rattle.std.proofs.Common.{◌≡◌, ℕ, zero, suc, ◌+◌, ◌<◌, Bool, true, false, not, List, [], ◌∷◌, ◌++◌, length, map, drop, Option, Some, None, refl, ap, sym, ◌∙◌, bytes_eq, cond, if◌then◌else◌, option_map, is_some, append_assoc, arith, append-nil, eqb, slice_get}
use Rattle.std.specs.Prelude.{option_to_list}
use Rattle.std.specs.List.{IsDistinct, AllByRecursion}
use Rattle.std.specs.Map.{lookup}
use Rattle.std.specs.declared.vec.Vec.{Vec}
use Rattle.std.specs.declared.alloc.Global.{Global}
use Rattle.std.specs.Cmp.Lexicographic.{nat_list_eq_equiv}
use Rattle.std.proofs.Math.Dec.{eqb-suc-suc}
use Rattle.std.proofs.lemmas.Bool.{ne_eqb}
use Rattle.plan_record.specs.Entries.{EntryData, last_of, or_later}
use Rattle.plan_record.specs.Outputs.{HasOneEach, IsIndexOf, later, last_number}
use Rattle.plan_record.specs.Compaction.{has_entry, last_entries, StandFor}

-- ---- the last entry of a concatenated list

or_later_assoc : (a b c : Option EntryData) → or_later a (or_later b c) ≡ or_later (or_later a b) c
or_later_assoc a b None = refl
or_later_assoc a b (Some x) = refl

pub last_of_append : (output : List ℕ) (xs ys : List EntryData) → last_of output (xs ++ ys) ≡ or_later (last_of output xs) (last_of output ys)
last_of_append output [] ys = none_before (last_of output ys) where
  none_before : (o : Option EntryData) → o ≡ or_later None o
  none_before None = refl
  none_before (Some x) = refl
last_of_append output (x ∷ xs) ys =
    let front : Option EntryData = if bytes_eq x.output output then Some x else None in
    ap (or_later front) (last_of_append output xs ys) ∙ or_later_assoc front (last_of output xs) (last_of output ys)

-- ---- the last entries have the same last ones

-- equal outputs have the same last entries
last_of_equal : (p q : List ℕ) (xs : List EntryData) → bytes_eq p q ≡ true → last_of p xs ≡ last_of q xs
last_of_equal p q [] e = refl
last_of_equal p q (x ∷ xs) e =
    let same : bytes_eq x.output p ≡ bytes_eq x.output q = nat_list_eq_equiv.symm x.output p ∙ nat_list_eq_equiv.congr p q x.output e ∙ nat_list_eq_equiv.symm q x.output in
    ap (λ (t : Bool). or_later (if t then Some x else None) (last_of p xs)) same ∙ ap (or_later (if bytes_eq x.output q then Some x else None)) (last_of_equal p q xs e)

some_hides : (before : Option EntryData) (last : Option EntryData) → is_some last ≡ true → last ≡ or_later before last
some_hides before None e = absurd cc
some_hides before (Some x) e = refl

-- an entry before a later one of its output is never the last one
hidden : (output : List ℕ) (x : EntryData) (xs : List EntryData) → has_entry x.output xs ≡ true → (t : Bool) → bytes_eq x.output output ≡ t
    → last_of output xs ≡ or_later (if t then Some x else None) (last_of output xs)
hidden output x xs has false e = none_before (last_of output xs) where
  none_before : (o : Option EntryData) → o ≡ or_later None o
  none_before None = refl
  none_before (Some x) = refl
hidden output x xs has true e = some_hides (Some x) (last_of output xs) (ap is_some (sym (last_of_equal x.output output xs e)) ∙ has)

pub last_of_last_entries : (output : List ℕ) (xs : List EntryData) → last_of output (last_entries xs) ≡ last_of output xs
last_of_last_entries output [] = refl
last_of_last_entries output (x ∷ xs) = by (last_of_last_entries output xs) (has_entry x.output xs) refl where
  by : last_of output (last_entries xs) ≡ last_of output xs → (t : Bool) → has_entry x.output xs ≡ t
      → last_of output (if t then last_entries xs else x ∷ last_entries xs) ≡ last_of output (x ∷ xs)
  by behind true has = behind ∙ hidden output x xs has (bytes_eq x.output output) refl
  by behind false has = ap (or_later (if bytes_eq x.output output then Some x else None)) behind

has_last_entry : (output : List ℕ) (xs : List EntryData) → has_entry output (last_entries xs) ≡ has_entry output xs
has_last_entry output xs = ap is_some (last_of_last_entries output xs)

last_entries_again : (xs : List EntryData) → last_entries (last_entries xs) ≡ last_entries xs
last_entries_again [] = refl
last_entries_again (x ∷ xs) = by (last_entries_again xs) (has_entry x.output xs) refl where
  by : last_entries (last_entries xs) ≡ last_entries xs → (t : Bool) → has_entry x.output xs ≡ t
      → last_entries (if t then last_entries xs else x ∷ last_entries xs) ≡ (if t then last_entries xs else x ∷ last_entries xs)
  by behind true has = behind
  by behind false has =
      let none : has_entry x.output (last_entries xs) ≡ false = has_last_entry x.output xs ∙ has in
      ap (λ (t : Bool). if t then last_entries (last_entries xs) else x ∷ last_entries (last_entries xs)) none ∙ ap (λ (es : List EntryData). x ∷ es) behind

-- none of these entries has the output
none_of : (output : List ℕ) (xs : List EntryData) → has_entry output xs ≡ false → AllByRecursion (λ (o : List ℕ). bytes_eq output o ≡ false) (map (λ (x : EntryData). x.output) xs)
none_of output [] none = tt
none_of output (x ∷ xs) none = by (none_of output xs) (bytes_eq x.output output) refl (last_of output xs) refl none where
  by : (has_entry output xs ≡ false → AllByRecursion (λ (o : List ℕ). bytes_eq output o ≡ false) (map (λ (x : EntryData). x.output) xs))
      → (t : Bool) → bytes_eq x.output output ≡ t → (o : Option EntryData) → last_of output xs ≡ o → is_some (or_later (if t then Some x else None) o) ≡ false
      → AllByRecursion (λ (o : List ℕ). bytes_eq output o ≡ false) (map (λ (x : EntryData). x.output) (x ∷ xs))
  by behind true e None is never = absurd cc
  by behind true e (Some y) is never = absurd cc
  by behind false e (Some y) is never = absurd cc
  by behind false e None is never = (nat_list_eq_equiv.symm output x.output ∙ e, behind (ap is_some is))

by_test : (x : EntryData) (xs : List EntryData) → IsDistinct bytes_eq (map (λ (x : EntryData). x.output) (last_entries xs)) → (t : Bool) → has_entry x.output xs ≡ t
    → IsDistinct bytes_eq (map (λ (x : EntryData). x.output) (if t then last_entries xs else x ∷ last_entries xs))
unfolding IsDistinct
by_test x xs behind true has = behind
by_test x xs behind false has = (none_of x.output (last_entries xs) (has_last_entry x.output xs ∙ has), behind)

each_once : (xs : List EntryData) → IsDistinct bytes_eq (map (λ (x : EntryData). x.output) (last_entries xs))
unfolding IsDistinct
each_once [] = tt
each_once (x ∷ xs) = by_test x xs (each_once xs) (has_entry x.output xs) refl

pub stand_for : (entries : List EntryData) → StandFor entries
stand_for entries = record {
  same = λ output. last_of_last_entries output entries;
  later = λ output more.
      last_of_append output (last_entries entries) more ∙ ap (λ (o : Option EntryData). or_later o (last_of output more)) (last_of_last_entries output entries) ∙ sym (last_of_append output entries more);
  again = last_entries_again entries;
  once = each_once entries;
}

-- ---- how many outputs there are

is_some_later : (a b : Option EntryData) → is_some (or_later a b) ≡ cond (is_some b) true (is_some a)
is_some_later a None = refl
is_some_later a (Some x) = refl

if_some : (t : Bool) (x : EntryData) → is_some (if t then Some x else None) ≡ t
if_some true x = refl
if_some false x = refl

-- whether one of them, or the one that comes first or last, has the output
has_first : (output : List ℕ) (x : EntryData) (xs : List EntryData) → has_entry output (x ∷ xs) ≡ cond (has_entry output xs) true (bytes_eq x.output output)
has_first output x xs =
    is_some_later (if bytes_eq x.output output then Some x else None) (last_of output xs) ∙ ap (λ (t : Bool). cond (has_entry output xs) true t) (if_some (bytes_eq x.output output) x)

has_last : (output : List ℕ) (xs : List EntryData) (x : EntryData) → has_entry output (xs ++ x ∷ []) ≡ cond (bytes_eq x.output output) true (has_entry output xs)
has_last output xs x =
    ap is_some (last_of_append output xs (x ∷ [])) ∙ is_some_later (last_of output xs) (last_of output (x ∷ []))
    ∙ ap (λ (t : Bool). cond t true (has_entry output xs)) (is_some_later (if bytes_eq x.output output then Some x else None) None ∙ if_some (bytes_eq x.output output) x)

-- one more output, unless it was there
abbrev pub one_unless : Bool → ℕ
one_unless there = if there then 0 else 1

count_first : (x : EntryData) (xs : List EntryData) → length (last_entries (x ∷ xs)) ≡ one_unless (has_entry x.output xs) + length (last_entries xs)
count_first x xs = by (has_entry x.output xs) where
  by : (t : Bool) → length (if t then last_entries xs else x ∷ last_entries xs) ≡ one_unless t + length (last_entries xs)
  by true = let none : length (last_entries xs) ≡ 0 + length (last_entries xs) = omega arith in none
  by false = let one : suc (length (last_entries xs)) ≡ 1 + length (last_entries xs) = omega arith in one

counted : (x y : EntryData) (ys : List EntryData) (n : ℕ) → n ≡ length (last_entries ys) + one_unless (has_entry x.output ys)
    → (t : Bool) → bytes_eq x.output y.output ≡ t
    → one_unless (cond t true (has_entry y.output ys)) + n ≡ one_unless (has_entry y.output ys) + length (last_entries ys) + one_unless (cond (has_entry x.output ys) true t)
counted x y ys n so_far true e =
    let same : has_entry x.output ys ≡ has_entry y.output ys = ap is_some (last_of_equal x.output y.output ys e) in
    let all : one_unless (cond (has_entry x.output ys) true true) ≡ 0 = elim (has_entry x.output ys) as (λ t. one_unless (cond t true true) ≡ 0) [ true ↦ refl | false ↦ refl ] in
    let here : one_unless (has_entry x.output ys) ≡ one_unless (has_entry y.output ys) = ap one_unless same in
    omega (arith, so_far, all, here)
counted x y ys n so_far false e =
    let kept : one_unless (cond (has_entry x.output ys) true false) ≡ one_unless (has_entry x.output ys) = elim (has_entry x.output ys) as (λ t. one_unless (cond t true false) ≡ one_unless t) [ true ↦ refl | false ↦ refl ] in
    omega (arith, so_far, kept)

-- An entry after the others has a new output, or not.
pub count_push : (xs : List EntryData) (x : EntryData) → length (last_entries (xs ++ x ∷ [])) ≡ length (last_entries xs) + one_unless (has_entry x.output xs)
count_push [] x = refl
count_push (y ∷ ys) x =
    let front : length (last_entries (y ∷ (ys ++ x ∷ []))) ≡ one_unless (cond (bytes_eq x.output y.output) true (has_entry y.output ys)) + length (last_entries (ys ++ x ∷ [])) =
    count_first y (ys ++ x ∷ []) ∙ ap (λ (t : Bool). one_unless t + length (last_entries (ys ++ x ∷ []))) (has_last y.output ys x) in
    let all = counted x y ys (length (last_entries (ys ++ x ∷ []))) (count_push ys x) (bytes_eq x.output y.output) refl in
    let first : has_entry x.output (y ∷ ys) ≡ cond (has_entry x.output ys) true (bytes_eq x.output y.output) =
    has_first x.output y ys ∙ ap (λ (t : Bool). cond (has_entry x.output ys) true t) (nat_list_eq_equiv.symm y.output x.output) in
    front ∙ all ∙ sym (ap (λ (t : Bool). length (last_entries (y ∷ ys)) + one_unless t) first ∙ ap (λ (n : ℕ). n + one_unless (cond (has_entry x.output ys) true (bytes_eq x.output y.output))) (count_first y ys))

-- ---- which entries are last ones

-- the number is this one
abbrev pub is_number : Option ℕ → ℕ → Bool
is_number None n = false
is_number (Some m) n = eqb m n

numbered_first : (o : Option ℕ) → is_number (later (Some 0) (option_map suc o)) 0 ≡ not (is_some o)
numbered_first None = refl
numbered_first (Some m) = ne_eqb (suc m) 0 (λ e. omega (arith, e))

numbered_behind : (t : Bool) (o : Option ℕ) (n : ℕ) → is_number (later (if t then Some 0 else None) (option_map suc o)) (suc n) ≡ is_number o n
numbered_behind true None n = ne_eqb 0 (suc n) (λ e. omega (arith, e))
numbered_behind false None n = refl
numbered_behind t (Some m) n = eqb-suc-suc m n

number_there : (output : List ℕ) (xs : List EntryData) → is_some (last_number output xs) ≡ has_entry output xs
number_there output [] = refl
number_there output (x ∷ xs) = by (bytes_eq x.output output) (last_number output xs) (last_of output xs) (number_there output xs) where
  by : (t : Bool) (n : Option ℕ) (o : Option EntryData) → is_some n ≡ is_some o → is_some (later (if t then Some 0 else None) (option_map suc n)) ≡ is_some (or_later (if t then Some x else None) o)
  by true None None e = refl
  by false None None e = refl
  by t None (Some y) e = absurd cc
  by t (Some m) None e = absurd cc
  by t (Some m) (Some y) e = refl

-- The number of an output's last entry is that of this entry if and only if no later entry has its output.
pub is_last_number : (xs : List EntryData) (n : ℕ) (x : EntryData) → slice_get xs n ≡ Some x → is_number (last_number x.output xs) n ≡ not (has_entry x.output (drop (suc n) xs))
is_last_number [] n x there = absurd cc
is_last_number (y ∷ ys) zero x there =
    let same : y ≡ x = cc in
    let own : bytes_eq y.output x.output ≡ true = ap (λ (z : EntryData). bytes_eq y.output z.output) (sym same) ∙ nat_list_eq_equiv.refl y.output in
    ap (λ (t : Bool). is_number (later (if t then Some 0 else None) (option_map suc (last_number x.output ys))) 0) own
    ∙ numbered_first (last_number x.output ys) ∙ ap not (number_there x.output ys)
is_last_number (y ∷ ys) (suc n) x there = numbered_behind (bytes_eq y.output x.output) (last_number x.output ys) n ∙ is_last_number ys n x there

-- An entry whose number was looked up is a last one if and only if the number is its own.
pub looked_up : (numbers : List (Vec ℕ Global × ℕ)) (entries : List EntryData) (n : ℕ) (output : List ℕ) (x : EntryData) (found : Option ℕ) → IsIndexOf numbers entries
    → found ≡ lookup (λ k. bytes_eq output k.items) numbers → output ≡ x.output → slice_get entries n ≡ Some x → is_number found n ≡ not (has_entry x.output (drop (n + 1) entries))
looked_up numbers entries n output x found index is own there =
    let next : suc n ≡ n + 1 = omega arith in
    ap (λ (o : Option ℕ). is_number o n) (is ∙ index output ∙ ap (λ (o : List ℕ). last_number o entries) own) ∙ is_last_number entries n x there
    ∙ ap (λ (k : ℕ). not (has_entry x.output (drop k entries))) next

-- With one more entry there still are as many numbers as outputs.
pub one_each_grows : (numbers more : List (Vec ℕ Global × ℕ)) (entries : List EntryData) (x : EntryData) (key : Vec ℕ Global) (old : Option ℕ) → IsIndexOf numbers entries → HasOneEach numbers entries
    → key.items ≡ x.output → old ≡ lookup (λ k. bytes_eq key.items k.items) numbers → length more ≡ length numbers + one_unless (is_some old) → HasOneEach more (entries ++ x ∷ [])
one_each_grows numbers more entries x key old index each own was grown =
    let there : is_some old ≡ has_entry x.output entries = ap is_some (was ∙ index key.items ∙ ap (λ (o : List ℕ). last_number o entries) own) ∙ number_there x.output entries in
    let pushed : length (last_entries (entries ++ x ∷ [])) ≡ length (last_entries entries) + one_unless (is_some old) =
    count_push entries x ∙ ap (λ (t : Bool). length (last_entries entries) + one_unless t) (sym there) in
    omega (arith, each, grown, pushed)

there_is : (xs : List EntryData) (n : ℕ) → n < length xs → (x : EntryData) × (slice_get xs n ≡ Some x) × (drop n xs ≡ x ∷ drop (n + 1) xs)
there_is [] n within = absurd (omega (arith, within))
there_is (x ∷ xs) zero within = (x, refl, refl)
there_is (x ∷ xs) (suc n) within =
    let found = there_is xs n (omega (arith, within)) in
    let next : suc (n + 1) ≡ suc n + 1 = omega arith in
    (found.0, found.1, found.2 ∙ ap (λ (k : ℕ). found.0 ∷ drop k (x ∷ xs)) next)

goes_on : (done xs all : List EntryData) (x : EntryData) → done ++ last_entries (x ∷ xs) ≡ all → (o : Option EntryData) → o ≡ (if has_entry x.output xs then None else Some x)
    → (done ++ option_to_list o) ++ last_entries xs ≡ all
goes_on done xs all x so_far o is = by (has_entry x.output xs) is so_far where
  by : (h : Bool) → o ≡ (if h then None else Some x) → done ++ (if h then last_entries xs else x ∷ last_entries xs) ≡ all → (done ++ option_to_list o) ++ last_entries xs ≡ all
  by true is so_far = rw is (ap (λ (es : List EntryData). es ++ last_entries xs) (append-nil done) ∙ so_far)
  by false is so_far = rw is (append_assoc done (x ∷ []) (last_entries xs) ∙ so_far)

-- One more entry: it is appended if it is a last one.
pub one_more : (entries done : List EntryData) (n : ℕ) (o : Option EntryData) → n < length entries → done ++ last_entries (drop n entries) ≡ last_entries entries
    → ((x : EntryData) → slice_get entries n ≡ Some x → o ≡ (if has_entry x.output (drop (n + 1) entries) then None else Some x))
    → (done ++ option_to_list o) ++ last_entries (drop (n + 1) entries) ≡ last_entries entries
one_more entries done n o within so_far told =
    let found = there_is entries n within in
    goes_on done (drop (n + 1) entries) (last_entries entries) found.0 (sym (ap (λ (es : List EntryData). done ++ last_entries es) found.2) ∙ so_far) o (told found.0 found.1)
