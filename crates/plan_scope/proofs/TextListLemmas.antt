-- Texts, of which the long ones are held as chunks. Used for src/edge/chunks.rt, edge_text.rt and text_list.rt.
use Rattle.std.proofs.Common.{◌≡◌, ℕ, zero, suc, ◌<◌, ◌≤◌, ◌+◌, List, [], ◌∷◌, ◌++◌, length, get_or, refl, ap, sym, ◌∙◌, append_assoc, append-nil, arith, length-append, drop, map}
use Rattle.std.specs.List.{All}
use Rattle.std.proofs.lemmas.List.{get_or_append_left}
use Rattle.std.proofs.lemmas.List.Concat.{flat_map-append}
use Rattle.std.proofs.lemmas.List.Elements.{All-append, All-cons, All-head, All-nil, All-tail, All-weaker}
use Rattle.plan_chunks.specs.Joining.{AreBelow, HasMore, IsBelow, chunk_at, joined}
use Rattle.plan_scope.specs.Scopes.{Text}
use Rattle.plan_scope.specs.TextLists.{AreHeld, parts_of, texts_from, whole}
use Rattle.plan_scope.proofs.ListLemmas.{dropped_at}

-- Numbers of chunks stay valid when chunks are appended.
pub below_more : (a b : ℕ) (ns : List ℕ) → a ≤ b → AreBelow a ns → AreBelow b ns
below_more a b ns wide h = All-weaker (IsBelow a) (IsBelow b) (λ n lt. omega (arith, lt, wide)) ns h

-- The numbers of all texts stay valid too.
pub all_below_more : (a b : ℕ) (long : List (List ℕ)) → a ≤ b → All (AreBelow a) long → All (AreBelow b) long
all_below_more a b long wide h = All-weaker (AreBelow a) (AreBelow b) (λ ns below. below_more a b ns wide below) long h

-- Chunks stay the same when others are appended.
pub joined_more : (chunks more : List Text) (ns : List ℕ) → AreBelow (length chunks) ns → joined (chunks ++ more) ns ≡ joined chunks ns
joined_more chunks more [] h = refl
joined_more chunks more (n ∷ ns) h =
    let first = get_or_append_left chunks more [] n (All-head (IsBelow (length chunks)) n ns h) in
    let rest = joined_more chunks more ns (All-tail (IsBelow (length chunks)) n ns h) in
    ap (λ (t : Text). t ++ joined (chunks ++ more) ns) first ∙ ap (λ (t : Text). chunk_at chunks n ++ t) rest

-- Texts stay the same too.
pub texts_more : (chunks more rows : List Text) (long : List (List ℕ)) → All (AreBelow (length chunks)) long → texts_from (chunks ++ more) rows long ≡ texts_from chunks rows long
texts_more chunks more [] long h = refl
texts_more chunks more (row ∷ rows) [] h = ap (λ (ts : List Text). row ∷ ts) (texts_more chunks more rows [] h)
texts_more chunks more (row ∷ rows) (ns ∷ long) h =
    let first = joined_more chunks more ns (All-head (AreBelow (length chunks)) ns long h) in
    let rest = texts_more chunks more rows long (All-tail (AreBelow (length chunks)) ns long h) in
    ap (λ (t : Text). (row ++ t) ∷ texts_from (chunks ++ more) rows long) first ∙ ap (λ (ts : List Text). (row ++ joined chunks ns) ∷ ts) rest

-- There are as many texts as rows.
pub texts_length : (chunks rows : List Text) (long : List (List ℕ)) → length (texts_from chunks rows long) ≡ length rows
texts_length chunks [] long = refl
texts_length chunks (row ∷ rows) [] = ap suc (texts_length chunks rows [])
texts_length chunks (row ∷ rows) (ns ∷ long) = ap suc (texts_length chunks rows long)

-- A text is a row and the chunks with its numbers.
pub text_at : (chunks rows : List Text) (long : List (List ℕ)) (n : ℕ) → length long ≤ length rows → get_or rows n [] ++ joined chunks (get_or long n []) ≡ get_or (texts_from chunks rows long) n []
text_at chunks [] [] n h = refl
text_at chunks [] (ns ∷ long) n h = absurd (omega (arith, h))
text_at chunks (row ∷ rows) [] zero h = append-nil row
text_at chunks (row ∷ rows) [] (suc n) h = text_at chunks rows [] n (omega arith)
text_at chunks (row ∷ rows) (ns ∷ long) zero h = refl
text_at chunks (row ∷ rows) (ns ∷ long) (suc n) h = text_at chunks rows long n (omega (arith, h))

-- A row without chunks is one more text.
pub row_put : (chunks rows : List Text) (long : List (List ℕ)) (text : Text) → length long ≤ length rows → texts_from chunks (rows ++ text ∷ []) long ≡ texts_from chunks rows long ++ text ∷ []
row_put chunks [] [] text h = refl
row_put chunks [] (ns ∷ long) text h = absurd (omega (arith, h))
row_put chunks (row ∷ rows) [] text h = ap (λ (ts : List Text). row ∷ ts) (row_put chunks rows [] text (omega arith))
row_put chunks (row ∷ rows) (ns ∷ long) text h = ap (λ (ts : List Text). (row ++ joined chunks ns) ∷ ts) (row_put chunks rows long text (omega (arith, h)))

-- An empty row with chunks is one more text.
pub long_put : (chunks rows : List Text) (long : List (List ℕ)) (ns : List ℕ) → length long ≡ length rows → texts_from chunks (rows ++ [] ∷ []) (long ++ ns ∷ []) ≡ texts_from chunks rows long ++ joined chunks ns ∷ []
long_put chunks [] [] ns h = refl
long_put chunks [] (ms ∷ long) ns h = absurd (omega (arith, h))
long_put chunks (row ∷ rows) [] ns h = absurd (omega (arith, h))
long_put chunks (row ∷ rows) (ms ∷ long) ns h = ap (λ (ts : List Text). (row ++ joined chunks ms) ∷ ts) (long_put chunks rows long ns (omega (arith, h)))

-- Empty lists of numbers change no text.
pub none_put : (chunks rows : List Text) (long : List (List ℕ)) → texts_from chunks rows (long ++ [] ∷ []) ≡ texts_from chunks rows long
none_put chunks [] long = refl
none_put chunks (row ∷ rows) [] = ap (λ (t : Text). t ∷ texts_from chunks rows []) (append-nil row)
none_put chunks (row ∷ rows) (ns ∷ long) = ap (λ (ts : List Text). (row ++ joined chunks ns) ∷ ts) (none_put chunks rows long)

-- One more list of numbers.
pub below_put : (most : ℕ) (long : List (List ℕ)) (ns : List ℕ) → All (AreBelow most) long → AreBelow most ns → All (AreBelow most) (long ++ ns ∷ [])
below_put most long ns h k = All-append (AreBelow most) long (ns ∷ []) h (All-cons (AreBelow most) ns [] k (All-nil (AreBelow most)))

-- One more number.
pub number_put : (most : ℕ) (ns : List ℕ) (n : ℕ) → AreBelow most ns → n < most → AreBelow most (ns ++ n ∷ [])
number_put most ns n h lt = All-append (IsBelow most) ns (n ∷ []) h (All-cons (IsBelow most) n [] lt (All-nil (IsBelow most)))

-- Appending chunks changes nothing that is held.
pub held_more : (before now rows : List Text) (long : List (List ℕ)) → HasMore before now → AreHeld before rows long → AreHeld now rows long
held_more before now rows long more h =
    let grown = ap length more.1 ∙ length-append before more.0 in
    (h.0, all_below_more (length before) (length now) long (omega (arith, grown)) h.1)

-- One more chunk.
pub joined_put : (before now : List Text) (ns : List ℕ) (n : ℕ) (chunk rest behind text : Text) → HasMore before now → AreBelow (length before) ns → get_or now n [] ≡ chunk
    → chunk ++ behind ≡ rest → joined before ns ++ rest ≡ text → joined now (ns ++ n ∷ []) ++ behind ≡ text
joined_put before now ns n chunk rest behind text more below at cut so_far =
    let old : joined now ns ≡ joined before ns = ap (λ (cs : List Text). joined cs ns) more.1 ∙ joined_more before more.0 ns below in
    let one : joined now (n ∷ []) ≡ chunk = append-nil (chunk_at now n) ∙ at in
    ap (λ (t : Text). t ++ behind) (flat_map-append (chunk_at now) ns (n ∷ []) ∙ ap (λ (t : Text). t ++ joined now (n ∷ [])) old ∙ ap (λ (t : Text). joined before ns ++ t) one)
    ∙ append_assoc (joined before ns) chunk behind ∙ ap (λ (t : Text). joined before ns ++ t) cut ∙ so_far

-- There are no fewer items after others were appended.
pub more_long : (before now : List Text) → HasMore before now → length before ≤ length now
more_long before now more =
    let grown = ap length more.1 ∙ length-append before more.0 in
    omega (arith, grown)

chunks_whole : (chunks : List Text) (ns : List ℕ) → whole (map (chunk_at chunks) ns) ≡ joined chunks ns
chunks_whole chunks [] = refl
chunks_whole chunks (n ∷ ns) = ap (λ (t : Text). chunk_at chunks n ++ t) (chunks_whole chunks ns)

-- A text is its row followed by its chunks.
pub parts_whole : (row : Text) (chunks : List Text) (ns : List ℕ) → whole (parts_of row chunks ns) ≡ row ++ joined chunks ns
parts_whole row chunks ns = ap (λ (t : Text). row ++ t) (chunks_whole chunks ns)

-- One more part.
pub part_put : (parts : List Text) (i : ℕ) (part done : Text) → i < length parts → part ≡ get_or parts i [] → done ++ whole (drop i parts) ≡ whole parts → (done ++ part) ++ whole (drop (i + 1) parts) ≡ whole parts
part_put parts i part done lt is so_far =
    let here : drop i parts ≡ part ∷ drop (i + 1) parts = dropped_at parts i [] lt ∙ ap (λ (t : Text). t ∷ drop (i + 1) parts) (sym is) in
    append_assoc done part (whole (drop (i + 1) parts)) ∙ ap (λ (ps : List Text). done ++ whole ps) (sym here) ∙ so_far
