-- What is kept of the record's file. Serves src/record_file.rt.
use Rattle.std.proofs.Common.{◌≡◌, ◌<◌, ◌≤◌, arith, refl, ◌+◌, ℕ, Bool, true, false, List, [], ◌∷◌, ◌++◌, Option, Some, None, IfSome, length, ap, sym, subst, ◌∙◌, bytes_eq, length-append, length-take-le, if◌then◌else◌, get_or, take}
use Rattle.std.specs.List.{flat_map}
use Rattle.std.proofs.lemmas.List.{flat_map_more, map-append, take_all, take_more}
use Rattle.std.proofs.lemmas.List.Elements.{All-nil, All-push}
use Rattle.std.proofs.lemmas.Slice.Eq.{bytes_eq-Decides}
use Rattle.std.specs.Io.KnownBytes.{Appends}
use Rattle.plan_world.specs.Recording.{Begins, Grows, Recording, may_begin}
use Rattle.plan_record.specs.Among.{AreAmong}
use Rattle.plan_world.specs.StartRecorded.{AreBegun, AreStarted, IsBegun, begun_keeping, kept_after, paths_read}
use Rattle.plan_record.specs.Entries.{EntryData, IsGoodFront, last_of, or_later, spelling}

-- one entry more makes the front longer by its spelling
pub one_more_spelled : (xs : List EntryData) (x : EntryData) → length (flat_map spelling (xs ++ x ∷ [])) ≡ length (flat_map spelling xs) + length (spelling x)
one_more_spelled xs x = ap length (sym (flat_map_more spelling [] xs x)) ∙ length-append (flat_map spelling xs) (spelling x)

-- the good front of a file is as long as the spellings of its entries
pub front_spelled : (file : List ℕ) (entries : List EntryData) (len : ℕ) → IsGoodFront file entries len → len ≡ length (flat_map spelling entries)
front_spelled file entries len h = sym (length-take-le len file h.whole.within) ∙ ap length h.whole.spelled

-- ---- whose entry is recalled

later_of : (output : List ℕ) (x : EntryData) (b : Bool) (later : Option EntryData) → bytes_eq x.output output ≡ b
    → IfSome later (λ e. e.output ≡ output) → IfSome (or_later (if b then Some x else None) later) (λ e. e.output ≡ output)
later_of output x b (Some y) same h = h
later_of output x true None same h = (bytes_eq-Decides x.output output).0 same
later_of output x false None same h = tt

last_is_of : (output : List ℕ) (xs : List EntryData) → IfSome (last_of output xs) (λ e. e.output ≡ output)
last_is_of output [] = tt
last_is_of output (x ∷ xs) = later_of output x (bytes_eq x.output output) (last_of output xs) refl (last_is_of output xs)

pub found_is_of : (output : List ℕ) (xs : List EntryData) (found : Option EntryData) → found ≡ last_of output xs → IfSome found (λ e. e.output ≡ output)
found_is_of output xs found same = subst (λ (e : Option EntryData). IfSome e (λ y. y.output ≡ output)) (sym same) (last_is_of output xs)

-- ---- whether a file is a record

-- a file that was read is a record, if its bytes begin like one or it has an entry
pub is_record : (remaining : Option (List ℕ)) (bytes : List ℕ) (good : ℕ) (begins : Bool) → IfSome remaining (λ all. bytes ≡ all) → begins ≡ may_begin bytes → (good ≡ 0 → begins ≡ true)
    → IfSome remaining (λ all. good ≡ 0 → may_begin all ≡ true)
is_record None bytes good begins same tells holds = tt
is_record (Some all) bytes good begins same tells holds = λ none. subst (λ (b : List ℕ). may_begin b ≡ true) same (sym tells ∙ holds none)

-- ---- the start entries of an edge

-- start entries that were appended to the entries of other builders
pub begins_after : {F : Type 0} (contents : F → Option (List ℕ)) (wanted : List (List ℕ)) (old mid new : Recording F) (outputs : List (List ℕ)) (made : List EntryData) → Grows old.entries mid.entries
    → AreStarted wanted mid.entries outputs made → new.entries ≡ mid.entries ++ made → Appends (contents mid.file) (contents new.file) (flat_map spelling made) → Begins contents wanted old new outputs
begins_after contents wanted old mid new outputs made grows started kept written = record {
  read = mid.entries;
  grows = grows;
  starts = made;
  started = started;
  entries = kept;
  written = (mid.file, written);
}

-- the start entry of an output, which keeps the wanted paths that its last entry has
pub begun_of : (wanted : List (List ℕ)) (entries : List EntryData) (output : List ℕ) (kept : List (List ℕ)) (x : EntryData) → x ≡ begun_keeping output kept → AreAmong wanted (paths_read (last_of output entries)) kept
    → IsBegun wanted entries x × (x.output ≡ output)
begun_of wanted entries output kept x same among =
    subst (λ (y : EntryData). IsBegun wanted entries y × (y.output ≡ output)) (sym same) ((kept, refl, among), refl)

-- no path, or some
pub none_kept : (output : List ℕ) (kept : List (List ℕ)) → length kept ≡ 0 → kept_after output kept ≡ []
none_kept output [] none = refl
none_kept output (path ∷ kept) none = absurd (omega (arith, none))

pub some_kept : (output : List ℕ) (kept : List (List ℕ)) → (length kept ≡ 0 → ⊥) → kept_after output kept ≡ output ∷ kept
some_kept output [] some = absurd (some refl)
some_kept output (path ∷ kept) some = refl

-- no start entry, one more, and all of them
pub none_begun : (wanted outputs : List (List ℕ)) (entries : List EntryData) → AreBegun wanted entries (take 0 outputs) []
none_begun wanted outputs entries = record { named = refl; each = All-nil (IsBegun wanted entries) }

pub next_begun : (wanted outputs : List (List ℕ)) (entries old new : List EntryData) (n : ℕ) (x : EntryData) → n < length outputs → x.output ≡ get_or outputs n [] → IsBegun wanted entries x → new ≡ old ++ x ∷ []
    → AreBegun wanted entries (take n outputs) old → AreBegun wanted entries (take (n + 1) outputs) new
next_begun wanted outputs entries old new n x lt is begun more h = subst (λ (xs : List EntryData). AreBegun wanted entries (take (n + 1) outputs) xs) (sym more) (record {
  named = map-append (λ (y : EntryData). y.output) old (x ∷ []) ∙ ap (λ (names : List (List ℕ)). names ++ x.output ∷ []) h.named ∙ ap (λ (name : List ℕ). take n outputs ++ name ∷ []) is ∙ sym (take_more outputs n [] lt);
  each = All-push (IsBegun wanted entries) old x h.each begun;
})

pub each_begun : (wanted outputs : List (List ℕ)) (entries xs : List EntryData) (n : ℕ) → length outputs ≤ n → AreBegun wanted entries (take n outputs) xs → AreBegun wanted entries outputs xs
each_begun wanted outputs entries xs n le h = subst (λ (names : List (List ℕ)). AreBegun wanted entries names xs) (take_all n outputs le) h
