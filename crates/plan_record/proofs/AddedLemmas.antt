-- Entries that are held as numbers of chunks. Lemmas for src/added.rt.
use Rattle.std.proofs.Common.{◌≡◌, ℕ, zero, suc, ◌<◌, List, [], ◌∷◌, ◌++◌, None, Some, Result, Ok, Err, length, refl, ap, sym, ◌∙◌, append_assoc, append-nil, get_or, option_map, slice_get, subst, take}
use Rattle.std.specs.Prelude.{OnErr}
use Rattle.std.proofs.lemmas.List.{map-append}
use Rattle.std.proofs.lemmas.List.Concat.{flat_map-append}
use Rattle.std.proofs.lemmas.List.Elements.{All-append, All-cons, All-get_or, All-head, All-nil, All-tail, All-take, All-weaker}
use Rattle.std.proofs.lemmas.Option.{get_or_from_slice_get, slice_get-map, slice_get_within}
use Rattle.plan_chunks.specs.Joining.{AreBelow, IsBelow, Keeps, chunk_at, joined}
use Rattle.plan_record.specs.Added.{AreHeld, IsHeld, entries_from, entry_from}
use Rattle.plan_record.specs.Entries.{EntryData}
use Rattle.plan_record.specs.Entry.{IsPlaced, data_of}
use Rattle.plan_record.specs.Reading.{entry_at}

-- Entries stay held when chunks are appended.
pub held_stays : (before now rows : List (List ℕ)) → Keeps before now → AreHeld before rows → AreHeld now rows
held_stays before now rows keeps h =
    All-weaker (IsHeld before) (IsHeld now) (λ ns held. let kept = keeps ns held.0 in (kept.0, subst (λ (bytes : List ℕ). IsPlaced bytes 0) (sym kept.1) held.1)) rows h

-- They stay the same too.
pub entries_stay : (before now rows : List (List ℕ)) → Keeps before now → AreHeld before rows → entries_from now rows ≡ entries_from before rows
entries_stay before now [] keeps h = refl
entries_stay before now (ns ∷ rows) keeps h =
    let held = All-head (IsHeld before) ns rows h in
    ap (λ (bytes : List ℕ). data_of (entry_at bytes) ∷ entries_from now rows) (keeps ns held.0).1
    ∙ ap (λ (es : List EntryData). entry_from before ns ∷ es) (entries_stay before now rows keeps (All-tail (IsHeld before) ns rows h))

-- One more number.
pub number_put : (most : ℕ) (ns : List ℕ) (n : ℕ) → AreBelow most ns → n < most → AreBelow most (ns ++ n ∷ [])
number_put most ns n h lt = All-append (IsBelow most) ns (n ∷ []) h (All-cons (IsBelow most) n [] lt (All-nil (IsBelow most)))

-- One more chunk.
pub joined_put : (before now : List (List ℕ)) (ns : List ℕ) (n : ℕ) (chunk behind rest text : List ℕ) → joined now ns ≡ joined before ns → get_or now n [] ≡ chunk
    → chunk ++ behind ≡ rest → joined before ns ++ rest ≡ text → joined now (ns ++ n ∷ []) ++ behind ≡ text
joined_put before now ns n chunk behind rest text old at cut so_far =
    let one : joined now (n ∷ []) ≡ chunk = append-nil (chunk_at now n) ∙ at in
    ap (λ (t : List ℕ). t ++ behind) (flat_map-append (chunk_at now) ns (n ∷ []) ∙ ap (λ (t : List ℕ). t ++ joined now (n ∷ [])) old ∙ ap (λ (t : List ℕ). joined before ns ++ t) one)
    ∙ append_assoc (joined before ns) chunk behind ∙ ap (λ (t : List ℕ). joined before ns ++ t) cut ∙ so_far

-- One more entry.
pub held_put : (chunks rows : List (List ℕ)) (ns text : List ℕ) → AreHeld chunks rows → AreBelow (length chunks) ns → joined chunks ns ≡ text → IsPlaced text 0 → AreHeld chunks (rows ++ ns ∷ [])
held_put chunks rows ns text h below is placed =
    All-append (IsHeld chunks) rows (ns ∷ []) h (All-cons (IsHeld chunks) ns [] (below, subst (λ (bytes : List ℕ). IsPlaced bytes 0) (sym is) placed) (All-nil (IsHeld chunks)))

pub entries_put : (chunks rows : List (List ℕ)) (ns text : List ℕ) → joined chunks ns ≡ text → entries_from chunks (rows ++ ns ∷ []) ≡ entries_from chunks rows ++ data_of (entry_at text) ∷ []
entries_put chunks rows ns text is =
    map-append (entry_from chunks) rows (ns ∷ []) ∙ ap (λ (bytes : List ℕ). entries_from chunks rows ++ data_of (entry_at bytes) ∷ []) is

-- Numbers that stay valid twice stay valid.
pub keeps_far : (first before now : List (List ℕ)) → Keeps first before → Keeps before now → Keeps first now
keeps_far first before now a b ns h =
    let one = a ns h in
    let two = b ns one.0 in
    (two.0, two.1 ∙ one.1)

pub on_err : {A E : Type 0} {P : Type 0} (r : Result A E) → P → OnErr r P
on_err (Ok x) p = tt
on_err (Err e) p = p

-- The entry of a row.
pub row_held : (chunks rows : List (List ℕ)) (n : ℕ) (ns : List ℕ) → AreHeld chunks rows → slice_get rows n ≡ Some ns → IsPlaced (joined chunks ns) 0
row_held chunks rows n ns h at =
    let held = All-get_or (IsHeld chunks) rows n [] (slice_get_within rows n ns at) h in
    subst (λ (ms : List ℕ). IsPlaced (joined chunks ms) 0) (get_or_from_slice_get rows n ns [] at) held.1

pub row_read : (chunks rows : List (List ℕ)) (n : ℕ) (ns : List ℕ) → slice_get rows n ≡ Some ns → slice_get (entries_from chunks rows) n ≡ Some (entry_from chunks ns)
row_read chunks rows n ns at = slice_get-map (entry_from chunks) rows n ∙ ap (option_map (entry_from chunks)) at

pub no_row : (chunks rows : List (List ℕ)) (n : ℕ) → slice_get rows n ≡ None → slice_get (entries_from chunks rows) n ≡ None
no_row chunks rows n at = slice_get-map (entry_from chunks) rows n ∙ ap (option_map (entry_from chunks)) at

-- The first entries.
pub held_taken : (chunks : List (List ℕ)) (count : ℕ) (rows : List (List ℕ)) → AreHeld chunks rows → AreHeld chunks (take count rows)
held_taken chunks count rows h = All-take (IsHeld chunks) count rows h

pub entries_taken : (chunks : List (List ℕ)) (count : ℕ) (rows : List (List ℕ)) → entries_from chunks (take count rows) ≡ take count (entries_from chunks rows)
entries_taken chunks zero rows = refl
entries_taken chunks (suc count) [] = refl
entries_taken chunks (suc count) (ns ∷ rows) = ap (λ (es : List EntryData). entry_from chunks ns ∷ es) (entries_taken chunks count rows)
