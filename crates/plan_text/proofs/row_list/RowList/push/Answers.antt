use Rattle.std.proofs.Common.{◌≡◌, [], ◌∷◌, ◌++◌, ◌+◌, ◌∙◌, List, ℕ, ap, arith, length, length-append, subst, sym}
use Rattle.plan_text.specs.RowLists.{AreEnds, rows_from}
use Rattle.plan_text.proofs.RowListLemmas.{ends_push, rows_push}
use Rattle.plan_text.proofs.row_list.RowList.push.Goals as goal

pub invariant_of-self-2 : goal.invariant_of-self-2
invariant_of-self-2 g c =
    let items = c.self.inside.items.items in
    let ends = c.self.inside.ends.items in
    let row = c.args.row.now in
    let more : c.extend_from_slice.new.self.items ≡ items ++ row = c.in_ok-extend_from_slice.ensures.items in
    let grown : length (items ++ row) ≡ length items + length row = length-append items row in
    let long : c.in_ok-end.end ≡ length (items ++ row) = omega (arith, c.in_ok-end.ensures, c.len.ensures, c.self.inside.items.ok.0, grown) in
    let added : c.push.new.self.items ≡ ends ++ length (items ++ row) ∷ []
    = c.in_ok-push.ensures.items ∙ (ap (λ (es : List ℕ). es ++ c.in_ok-end.end ∷ []) c.in_ok-reserve.ensures.items ∙ ap (λ n. ends ++ n ∷ []) long) in
    subst (λ ns. AreEnds 0 c.push.new.self.items (length ns)) (sym more)
    (subst (λ (es : List ℕ). AreEnds 0 es (length (items ++ row))) (sym added) (ends_push 0 ends (length items) (length (items ++ row)) (omega (arith, grown)) c.self.invariant))

pub returns-clause-more : goal.returns-clause-more
returns-clause-more g c =
    let items = c.self.inside.items.items in
    let ends = c.self.inside.ends.items in
    let row = c.args.row.now in
    let more : c.extend_from_slice.new.self.items ≡ items ++ row = c.in_ok-extend_from_slice.ensures.items in
    let grown : length (items ++ row) ≡ length items + length row = length-append items row in
    let long : c.in_ok-end.end ≡ length (items ++ row) = omega (arith, c.in_ok-end.ensures, c.len.ensures, c.self.inside.items.ok.0, grown) in
    let added : c.push.new.self.items ≡ ends ++ length (items ++ row) ∷ []
    = c.in_ok-push.ensures.items ∙ (ap (λ (es : List ℕ). es ++ c.in_ok-end.end ∷ []) c.in_ok-reserve.ensures.items ∙ ap (λ n. ends ++ n ∷ []) long) in
    ap (λ ns. rows_from 0 ns c.push.new.self.items) more
    ∙ (ap (rows_from 0 (items ++ row)) added ∙ (rows_push 0 items row ends c.self.invariant ∙ ap (λ rs. rs ++ row ∷ []) c.self.view_is))
