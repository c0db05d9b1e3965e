-- Lines of marks, one mark after another. Serves src/printing.rt.
use Rattle.std.proofs.Common.{◌≡◌, ℕ, ◌+◌, ◌<◌, ◌≤◌, List, [], ◌∷◌, ◌++◌, Bool, true, false, length, refl, sym, ap, ◌∙◌, append_assoc, get_or, drop, take, arith, if◌then◌else◌}
use Rattle.std.proofs.lemmas.List.{append-nil, drop_more, take-append-drop, take_more}
use Rattle.plan_image.specs.declared.image.Parts.{Parts}
use Rattle.plan_machine.specs.declared.event.Mark.{Mark}
use Rattle.plan_status.specs.Lines.{ends, tells_end, line_of, lines_behind, lines_of}

-- one mark more is counted
pub ends_on : (p : Parts) (xs : List Mark) (x : Mark) → ends p (xs ++ x ∷ []) ≡ (if tells_end p x then 1 else 0) + ends p xs
ends_on p [] x = refl
ends_on p (y ∷ ys) x =
    let more = ends_on p ys x in
    omega (arith, more)

-- counts are met as the loop goes on
pub counted_next : (p : Parts) (xs : List Mark) (i : ℕ) (d : Mark) → i < length xs
    → (if tells_end p (get_or xs i d) then 1 else 0) + ends p (take i xs) ≡ ends p (take (i + 1) xs)
counted_next p xs i d lt = sym (ap (ends p) (take_more xs i d lt) ∙ ends_on p (take i xs) (get_or xs i d))

-- one line more
pub one_more : (p : Parts) (total : ℕ) (xs : List Mark) (i : ℕ) (d : Mark) (n : ℕ) (done whole : List ℕ) → i < length xs → n ≡ ends p (take (i + 1) xs)
    → done ++ lines_behind p total (take i xs) (drop i xs) ≡ whole
    → (done ++ line_of p total n (get_or xs i d)) ++ lines_behind p total (take (i + 1) xs) (drop (i + 1) xs) ≡ whole
one_more p total xs i d n done whole lt count so_far =
    let x : Mark = get_or xs i d in
    let one : take (i + 1) xs ≡ take i xs ++ x ∷ [] = take_more xs i d lt in
    let there : done ++ lines_behind p total (take i xs) (x ∷ drop (i + 1) xs) ≡ whole
    = ap (λ ys. done ++ lines_behind p total (take i xs) ys) (sym (drop_more xs i d lt)) ∙ so_far in
    let counted : n ≡ ends p (take i xs ++ x ∷ []) = count ∙ ap (ends p) one in
    let behind : List ℕ = lines_behind p total (take i xs ++ x ∷ []) (drop (i + 1) xs) in
    let named : done ++ (line_of p total n x ++ behind) ≡ done ++ (line_of p total (ends p (take i xs ++ x ∷ [])) x ++ behind)
    = ap (λ (k : ℕ). done ++ (line_of p total k x ++ behind)) counted in
    let shifted : (done ++ line_of p total n x) ++ behind ≡ whole
    = append_assoc done (line_of p total n x) behind ∙ (named ∙ there) in
    rw one shifted

-- the lines of some marks, and of those after them
pub join : (p : Parts) (total : ℕ) (before xs ys : List Mark) → lines_behind p total before (xs ++ ys) ≡ lines_behind p total before xs ++ lines_behind p total (before ++ xs) ys
join p total before [] ys = ap (λ (zs : List Mark). lines_behind p total zs ys) (sym (append-nil before))
join p total before (x ∷ xs) ys =
    let line : List ℕ = line_of p total (ends p (before ++ x ∷ [])) x in
    let on : lines_behind p total (before ++ x ∷ []) (xs ++ ys) ≡ lines_behind p total (before ++ x ∷ []) xs ++ lines_behind p total ((before ++ x ∷ []) ++ xs) ys
    = join p total (before ++ x ∷ []) xs ys in
    let front : List ℕ = lines_behind p total (before ++ x ∷ []) xs in
    let behind : front ++ lines_behind p total ((before ++ x ∷ []) ++ xs) ys ≡ front ++ lines_behind p total (before ++ x ∷ xs) ys
    = ap (λ (zs : List Mark). front ++ lines_behind p total zs ys) (append_assoc before (x ∷ []) xs) in
    ap (λ rest. line ++ rest) (on ∙ behind) ∙ sym (append_assoc line front (lines_behind p total (before ++ x ∷ xs) ys))

-- a count goes up by at most one
pub counted_few : (b : Bool) (n i : ℕ) → n ≤ i → (if b then 1 else 0) + n ≤ i + 1
counted_few true n i few = omega (arith, few)
counted_few false n i few = omega (arith, few)

-- the lines of one mark more
pub line_next : (p : Parts) (total : ℕ) (xs : List Mark) (i : ℕ) (d : Mark) (n : ℕ) → i < length xs → n ≡ ends p (take (i + 1) xs)
    → lines_of p total (take (i + 1) xs) ≡ lines_of p total (take i xs) ++ line_of p total n (get_or xs i d)
line_next p total xs i d n lt count =
    let x : Mark = get_or xs i d in
    let one : take (i + 1) xs ≡ take i xs ++ x ∷ [] = take_more xs i d lt in
    let counted : ends p (take i xs ++ x ∷ []) ≡ n = ap (ends p) (sym one) ∙ sym count in
    let behind : line_of p total (ends p (take i xs ++ x ∷ [])) x ++ [] ≡ line_of p total n x
    = append-nil (line_of p total (ends p (take i xs ++ x ∷ [])) x) ∙ ap (λ (k : ℕ). line_of p total k x) counted in
    ap (lines_of p total) one ∙ (join p total [] (take i xs) (x ∷ []) ∙ ap (λ (rest : List ℕ). lines_of p total (take i xs) ++ rest) behind)

-- no more marks are counted than there are
pub ends_few : (p : Parts) (xs : List Mark) → ends p xs ≤ length xs
ends_few p [] = omega arith
ends_few p (x ∷ xs) =
    let few : (if tells_end p x then 1 else 0) + ends p xs ≤ length xs + 1 = counted_few (tells_end p x) (ends p xs) (length xs) (ends_few p xs) in
    omega (arith, few)

-- the lines of all marks are those of the first so many, and then of the others
pub lines_split : (p : Parts) (total n : ℕ) (xs : List Mark) → lines_of p total (take n xs) ++ lines_behind p total (take n xs) (drop n xs) ≡ lines_of p total xs
lines_split p total n xs = sym (join p total [] (take n xs) (drop n xs)) ∙ ap (lines_of p total) (take-append-drop n xs)
