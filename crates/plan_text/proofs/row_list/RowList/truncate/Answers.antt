use Rattle.std.proofs.Common.{◌≡◌, ◌≤◌, ◌∷◌, ◌∙◌, List, ℕ, ap, arith, get_or, length, sym, take, length-take-le}
use Rattle.plan_text.specs.RowLists.{rows_from}
use Rattle.plan_text.proofs.RowListLemmas.{begins_within, ends_take, length_rows, rows_take}
use Rattle.plan_text.proofs.row_list.RowList.truncate.Goals as goal

pub start_of-end-requires : goal.start_of-end-requires
start_of-end-requires g c =
    let long : length c.args.self.now ≡ length c.self.inside.ends.items = ap (λ rs. length rs) (sym c.self.view_is) ∙ length_rows 0 c.self.inside.items.items c.self.inside.ends.items in
    let same : length c.deref.result.now ≡ length c.self.inside.ends.items = ap length c.deref.ensures.value in
    omega (arith, c.if-rows-len.false, c.len.ensures, long, same)

pub invariant_of-self : goal.invariant_of-self
invariant_of-self g c =
    let items = c.self.inside.items.items in
    let ends = c.self.inside.ends.items in
    let n = c.args.rows in
    let long : length c.args.self.now ≡ length ends = ap (λ rs. length rs) (sym c.self.view_is) ∙ length_rows 0 items ends in
    let within : n ≤ length ends = omega (arith, c.if-rows-len.false, c.len.ensures, long) in
    let start : c.start_of-end.result ≡ get_or (0 ∷ ends) n 0 = c.start_of-end.ensures ∙ ap (λ (es : List ℕ). get_or (0 ∷ es) n 0) c.deref.ensures.value in
    let kept : length c.truncate-2.new.self.items ≡ get_or (0 ∷ ends) n 0
    = ap (λ xs. length xs) c.truncate-2.ensures.items ∙ (ap (λ k. length (take k items)) start ∙ length-take-le (get_or (0 ∷ ends) n 0) items (begins_within 0 ends (length items) n c.self.invariant within)) in
    rw (c.truncate.ensures.items, kept) (ends_take 0 ends (length items) n c.self.invariant within)

pub returns : goal.returns
returns g c =
    let items = c.self.inside.items.items in
    let ends = c.self.inside.ends.items in
    let n = c.args.rows in
    let long : length c.args.self.now ≡ length ends = ap (λ rs. length rs) (sym c.self.view_is) ∙ length_rows 0 items ends in
    let within : n ≤ length ends = omega (arith, c.if-rows-len.false, c.len.ensures, long) in
    let start : c.start_of-end.result ≡ get_or (0 ∷ ends) n 0 = c.start_of-end.ensures ∙ ap (λ (es : List ℕ). get_or (0 ∷ es) n 0) c.deref.ensures.value in
    ap (λ ns. rows_from 0 ns c.truncate.new.self.items) (c.truncate-2.ensures.items ∙ ap (λ k. take k items) start)
    ∙ (ap (rows_from 0 (take (get_or (0 ∷ ends) n 0) items)) c.truncate.ensures.items
    ∙ (rows_take 0 items ends n c.self.invariant within ∙ ap (λ rs. take n rs) c.self.view_is))
