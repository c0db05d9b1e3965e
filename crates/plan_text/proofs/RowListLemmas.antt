-- Rows of items that are stored consecutively. Lemmas for src/row_list.rt.
use Rattle.std.proofs.Common.{◌≡◌, ℕ, zero, suc, ◌+◌, ◌-◌, ◌<◌, ◌≤◌, List, [], ◌∷◌, ◌++◌, length, refl, sym, ◌∙◌, ap, arith, get_or, length-append, take, drop}
use Rattle.std.specs.Prelude.{Some, None, slice_get, slice_range}
use Rattle.std.proofs.Math.Seq.{drop-append_seam, take-length}
use Rattle.std.proofs.lemmas.List.{drop-append-le, drop-take, get_or_past, length-drop, take-append-le, take-take, take_all}
use Rattle.plan_text.specs.RowLists.{AreEnds, rows_from}

-- there are as many rows as ends
pub length_rows : {X : Type 0} (start : ℕ) (items : List X) (ends : List ℕ) → length (rows_from start items ends) ≡ length ends
length_rows start items [] = refl
length_rows start items (e ∷ es) = ap suc (length_rows e items es)

-- a row reaches from the end of the row before it to its own end
pub row_at : {X : Type 0} (start : ℕ) (items : List X) (ends : List ℕ) (n : ℕ) → n < length ends → get_or (rows_from start items ends) n [] ≡ slice_range items (get_or (start ∷ ends) n 0) (get_or ends n 0)
row_at start items [] n h = absurd (omega (arith, h))
row_at start items (e ∷ es) zero h = refl
row_at start items (e ∷ es) (suc n) h = row_at e items es n (omega (arith, h))

-- there is no row after the last one
pub no_row : {X : Type 0} (start : ℕ) (items : List X) (ends : List ℕ) (n : ℕ) → length ends ≤ n → get_or (rows_from start items ends) n [] ≡ []
no_row start items ends n h = let long = length_rows start items ends in get_or_past (rows_from start items ends) n [] (omega (arith, h, long))

start_within : (start : ℕ) (ends : List ℕ) (len : ℕ) → AreEnds start ends len → start ≤ len
start_within start [] len h = omega (arith, h)
start_within start (e ∷ es) len h = let rest : e ≤ len = start_within e es len h.1 in omega (arith, h.0, rest)

-- a row is within the items
pub row_within : (start : ℕ) (ends : List ℕ) (len n : ℕ) → AreEnds start ends len → n < length ends → (get_or (start ∷ ends) n 0 ≤ get_or ends n 0) × (get_or ends n 0 ≤ len)
row_within start [] len n a h = absurd (omega (arith, h))
row_within start (e ∷ es) len zero a h = (a.0, start_within e es len a.1)
row_within start (e ∷ es) len (suc n) a h = row_within e es len n a.1 (omega (arith, h))

-- appends an end
pub ends_push : (start : ℕ) (ends : List ℕ) (len more : ℕ) → len ≤ more → AreEnds start ends len → AreEnds start (ends ++ more ∷ []) more
ends_push start [] len more le h = (omega (arith, le, h), refl)
ends_push start (e ∷ es) len more le h = (h.0, ends_push e es len more le h.1)

last_row : {X : Type 0} (items row : List X) → slice_range (items ++ row) (length items) (length (items ++ row)) ≡ row
last_row items row =
    let long : length (items ++ row) ≡ length items + length row = length-append items row in
    let rest : length (items ++ row) - length items ≡ length row = omega (arith, long) in
    ap (take (length (items ++ row) - length items)) (drop-append_seam items row) ∙ (ap (λ n. take n row) rest ∙ take-length row)

row_stays : {X : Type 0} (items row : List X) (start end : ℕ) → start ≤ end → end ≤ length items → slice_range (items ++ row) start end ≡ slice_range items start end
row_stays items row start end h g =
    let long : length (drop start items) ≡ length items - start = length-drop start items in
    ap (take (end - start)) (drop-append-le start items row (omega (arith, h, g))) ∙ take-append-le (end - start) (drop start items) row (omega (arith, h, g, long))

-- appends a row
pub rows_push : {X : Type 0} (start : ℕ) (items row : List X) (ends : List ℕ) → AreEnds start ends (length items)
    → rows_from start (items ++ row) (ends ++ length (items ++ row) ∷ []) ≡ rows_from start items ends ++ row ∷ []
rows_push {X = X} start items row [] h = ap (λ (r : List X). r ∷ []) (ap (λ n. slice_range (items ++ row) n (length (items ++ row))) h ∙ last_row items row)
rows_push {X = X} start items row (e ∷ es) h =
    ap (λ (r : List X). r ∷ rows_from e (items ++ row) (es ++ length (items ++ row) ∷ [])) (row_stays items row start e h.0 (start_within e es (length items) h.1))
    ∙ ap (λ (rs : List (List X)). slice_range items start e ∷ rs) (rows_push e items row es h.1)

-- an index within a list finds an item
pub item_there : {X : Type 0} (xs : List X) (n : ℕ) (x : X) → n < length xs → Some (get_or xs n x) ≡ slice_get xs n
item_there [] n x h = absurd (omega (arith, h))
item_there (y ∷ xs) zero x h = refl
item_there (y ∷ xs) (suc n) x h = item_there xs n x (omega (arith, h))

-- an index after the end of a list finds none
pub item_missing : {X : Type 0} (xs : List X) (n : ℕ) → length xs ≤ n → None ≡ slice_get xs n
item_missing [] n h = refl
item_missing (y ∷ xs) zero h = absurd (omega (arith, h))
item_missing (y ∷ xs) (suc n) h = item_missing xs n (omega (arith, h))

-- no row begins before the first one
rises : (start : ℕ) (ends : List ℕ) (len n : ℕ) → AreEnds start ends len → n ≤ length ends → start ≤ get_or (start ∷ ends) n 0
rises start ends len zero a h = omega arith
rises start [] len (suc n) a h = absurd (omega (arith, h))
rises start (e ∷ es) len (suc n) a h = let rest : e ≤ get_or (e ∷ es) n 0 = rises e es len n a.1 (omega (arith, h)) in omega (arith, a.0, rest)

-- a row begins within the items
pub begins_within : (start : ℕ) (ends : List ℕ) (len n : ℕ) → AreEnds start ends len → n ≤ length ends → get_or (start ∷ ends) n 0 ≤ len
begins_within start ends len zero a h = start_within start ends len a
begins_within start [] len (suc n) a h = absurd (omega (arith, h))
begins_within start (e ∷ es) len (suc n) a h = begins_within e es len n a.1 (omega (arith, h))

-- the ends of the first rows
pub ends_take : (start : ℕ) (ends : List ℕ) (len n : ℕ) → AreEnds start ends len → n ≤ length ends → AreEnds start (take n ends) (get_or (start ∷ ends) n 0)
ends_take start ends len zero a h = refl
ends_take start [] len (suc n) a h = absurd (omega (arith, h))
ends_take start (e ∷ es) len (suc n) a h = (a.0, ends_take e es len n a.1 (omega (arith, h)))

range_take : {X : Type 0} (items : List X) (start end len : ℕ) → start ≤ end → end ≤ len → slice_range (take len items) start end ≡ slice_range items start end
range_take items start end len h g =
    let rest : len ≡ start + (len - start) = omega (arith, h, g) in
    ap (λ n. take (end - start) (drop start (take n items))) rest
    ∙ (ap (take (end - start)) (drop-take start (len - start) items) ∙ take-take (end - start) (len - start) (drop start items) (omega (arith, g)))

-- the first rows
pub rows_take : {X : Type 0} (start : ℕ) (items : List X) (ends : List ℕ) (n : ℕ) → AreEnds start ends (length items) → n ≤ length ends
    → rows_from start (take (get_or (start ∷ ends) n 0) items) (take n ends) ≡ take n (rows_from start items ends)
rows_take start items ends zero a h = refl
rows_take start items [] (suc n) a h = absurd (omega (arith, h))
rows_take {X = X} start items (e ∷ es) (suc n) a h =
    let less : n ≤ length es = omega (arith, h) in
    ap (λ (r : List X). r ∷ rows_from e (take (get_or (e ∷ es) n 0) items) (take n es)) (range_take items start e (get_or (e ∷ es) n 0) a.0 (rises e es (length items) n a.1 less))
    ∙ ap (λ (rs : List (List X)). slice_range items start e ∷ rs) (rows_take e items es n a.1 less)

-- all rows, if at least as many are asked for
pub rows_all : {X : Type 0} (start : ℕ) (items : List X) (ends : List ℕ) (n : ℕ) → length ends ≤ n → rows_from start items ends ≡ take n (rows_from start items ends)
rows_all start items ends n h = let long = length_rows start items ends in sym (take_all n (rows_from start items ends) (omega (arith, h, long)))
