-- Texts written one behind another. Serves src/json.rt, src/parts.rt and src/targets.rt.
use Rattle.std.proofs.Common.{◌≡◌, ℕ, zero, suc, ◌+◌, ◌-◌, ◌<◌, true, false, List, [], ◌∷◌, ◌++◌, Option, length, get_or, drop, Bor, sym, ap, subst, ◌∙◌, append_assoc, append-nil, arith}
use Rattle.std.proofs.lemmas.List.{drop_more}
use Rattle.std.proofs.lemmas.List.Concat.{flat_map-append}
use Rattle.plan_text.specs.Laws.{FailedWriteStays, WritesJoin}
use Rattle.plan_text.specs.Sinks.{Writes}
use Rattle.plan_scope.specs.Scopes.{Text}
use Rattle.plan_scope.specs.TextLists.{whole}
use Rattle.plan_tools.specs.Json.{json_byte, json_text}
use Rattle.plan_tools.specs.Listings.{of_first}

-- the bytes that are borrowed
abbrev pub bytes_of : Bor (List ℕ) → List ℕ
bytes_of part = part.now

-- a text isn't written to its end, nor what is behind it
pub failed : FailedWriteStays → (a b : ℕ × Option (List ℕ)) (xs ys whole : List ℕ) → xs ++ ys ≡ whole → Writes false a b xs → Writes false a b whole
failed stays a b xs ys whole all h = subst (λ (zs : List ℕ). Writes false a b zs) all (stays a b xs ys h)

-- a text isn't written to its end, behind what was taken and before what is left
pub stops : WritesJoin → FailedWriteStays → (a b c : ℕ × Option (List ℕ)) (done text rest whole : List ℕ) → (done ++ text) ++ rest ≡ whole
    → Writes true a b done → Writes false b c text → Writes false a c whole
stops joins stays a b c done text rest whole all h k = failed stays a c (done ++ text) rest whole all (joins false a b c done text h k)

-- one item more, of a text that is made item by item, behind any other
pub one_more_of : {X : Type 0} (each : X → List ℕ) (text : List X → List ℕ) → ((y : X) (ys : List X) → text (y ∷ ys) ≡ each y ++ text ys)
    → (xs : List X) (i : ℕ) (x d : X) (done whole : List ℕ) → i < length xs → x ≡ get_or xs i d
    → done ++ text (drop i xs) ≡ whole → (done ++ each x) ++ text (drop (i + 1) xs) ≡ whole
one_more_of each text parts xs i x d done whole lt is so_far =
    let left : drop i xs ≡ x ∷ drop (i + 1) xs = drop_more xs i d lt ∙ ap (λ y. y ∷ drop (i + 1) xs) (sym is) in
    append_assoc done (each x) (text (drop (i + 1) xs))
    ∙ (ap (λ (ys : List ℕ). done ++ ys) (sym (parts x (drop (i + 1) xs))) ∙ (ap (λ ys. done ++ text ys) (sym left) ∙ so_far))

-- the same of the text of all items
pub one_more : {X : Type 0} (each : X → List ℕ) (text : List X → List ℕ) → ((y : X) (ys : List X) → text (y ∷ ys) ≡ each y ++ text ys)
    → (xs : List X) (i : ℕ) (x d : X) (done : List ℕ) → i < length xs → x ≡ get_or xs i d
    → done ++ text (drop i xs) ≡ text xs → (done ++ each x) ++ text (drop (i + 1) xs) ≡ text xs
one_more each text parts xs i x d done lt is so_far = one_more_of each text parts xs i x d done (text xs) lt is so_far

-- what comes of the first numbers begins with what comes of fewer
pub more_first : (each : ℕ → List ℕ) (i k : ℕ) → (rest : List ℕ) × (of_first each i ++ rest ≡ of_first each (k + i))
more_first each i zero =
    let none : i ≡ 0 + i = omega arith in
    ([], append-nil (of_first each i) ∙ ap (of_first each) none)
more_first each i (suc k) =
    let h = more_first each i k in
    let next : suc (k + i) ≡ suc k + i = omega arith in
    (h.0 ++ each (k + i), sym (append_assoc (of_first each i) h.0 (each (k + i))) ∙ (ap (λ (xs : List ℕ). xs ++ each (k + i)) h.1 ∙ ap (of_first each) next))

-- one more, and what is behind it
pub behind_first : (each : ℕ → List ℕ) (i n : ℕ) → i < n → (rest : List ℕ) × ((of_first each i ++ each i) ++ rest ≡ of_first each n)
behind_first each i n lt =
    let sum : (n - suc i) + suc i ≡ n = omega (arith, lt) in
    let h = more_first each (suc i) (n - suc i) in
    (h.0, h.1 ∙ ap (of_first each) sum)

-- a text in JSON, part by part
pub json_joined : (part : Text) (parts : List Text) → json_text (whole (part ∷ parts)) ≡ json_text part ++ json_text (whole parts)
json_joined part parts = flat_map-append json_byte part (whole parts)
