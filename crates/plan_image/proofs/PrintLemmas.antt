-- Printing through a buffer. Lemmas for src/writing.
use Rattle.std.proofs.Common.{◌≡◌, ℕ, ◌+◌, ◌<◌, true, false, List, ◌∷◌, ◌++◌, length, get_or, drop, sym, ap, subst, ◌∙◌, append_assoc}
use Rattle.std.specs.List.{flat_map}
use Rattle.std.proofs.lemmas.List.{drop_more}
use Rattle.std.proofs.lemmas.List.Concat.{flat_map-cons}
use Rattle.plan_text.specs.Laws.{WritesJoin, FailedWriteStays}
use Rattle.plan_text.specs.Sinks.{Writes}
use Rattle.plan_image.specs.Printing.{HeldState, Prints, PrintsJoin, FailedPrintStays}

-- the bytes that two prints write and buffer
both : (d e h i k xs ys : List ℕ) → d ++ i ≡ h ++ xs → e ++ k ≡ i ++ ys → (d ++ e) ++ k ≡ h ++ (xs ++ ys)
both d e h i k xs ys first second =
    append_assoc d e k ∙ (ap (λ (v : List ℕ). d ++ v) second ∙ (sym (append_assoc d i ys) ∙ (ap (λ (v : List ℕ). v ++ ys) first ∙ append_assoc h xs ys)))

pub join : WritesJoin → PrintsJoin
join writes true a b c xs ys p q =
    (p.0 ++ q.0, both p.0 q.0 a.0 b.0 c.0 xs ys p.1 q.1, writes true a.1 b.1 c.1 p.0 q.0 p.2 q.2)
join writes false a b c xs ys p q =
    let same : p.0 ++ (b.0 ++ ys) ≡ a.0 ++ (xs ++ ys) = sym (append_assoc p.0 b.0 ys) ∙ (ap (λ (v : List ℕ). v ++ ys) p.1 ∙ append_assoc a.0 xs ys) in
    subst (Writes false a.1 c.1) same (writes false a.1 b.1 c.1 p.0 (b.0 ++ ys) p.2 q)

pub failed : FailedWriteStays → FailedPrintStays
failed writes a b xs ys p = subst (Writes false a.1 b.1) (append_assoc a.0 xs ys) (writes a.1 b.1 (a.0 ++ xs) ys p)

-- a failed print after a complete one counts as one failed print of all bytes, of which more may be left
pub stops : PrintsJoin → FailedPrintStays → (a b c : HeldState) (done text rest whole : List ℕ) → (done ++ text) ++ rest ≡ whole → Prints true a b done → Prints false b c text → Prints false a c whole
stops joins stays a b c done text rest whole all p q = subst (Prints false a c) all (stays a c (done ++ text) rest (joins false a b c done text p q))

-- one more item, if it is the first of those that are left
pub one_on : {X : Type 0} (spell : X → List ℕ) (x : X) (left rest : List X) (done whole : List ℕ) → left ≡ x ∷ rest → done ++ flat_map spell left ≡ whole → (done ++ spell x) ++ flat_map spell rest ≡ whole
one_on spell x left rest done whole is so_far =
    append_assoc done (spell x) (flat_map spell rest)
    ∙ (ap (λ (bytes : List ℕ). done ++ bytes) (sym (flat_map-cons spell x rest)) ∙ (ap (λ xs. done ++ flat_map spell xs) (sym is) ∙ so_far))

-- one more item, by its index
pub one_more : {X : Type 0} (spell : X → List ℕ) (xs : List X) (i : ℕ) (d x : X) (done whole : List ℕ) → x ≡ get_or xs i d → i < length xs → done ++ flat_map spell (drop i xs) ≡ whole → (done ++ spell x) ++ flat_map spell (drop (i + 1) xs) ≡ whole
one_more {X = X} spell xs i d x done whole is lt so_far =
    subst (λ (y : X). (done ++ spell y) ++ flat_map spell (drop (i + 1) xs) ≡ whole) (sym is)
    (one_on spell (get_or xs i d) (drop i xs) (drop (i + 1) xs) done whole (drop_more xs i d lt) so_far)
