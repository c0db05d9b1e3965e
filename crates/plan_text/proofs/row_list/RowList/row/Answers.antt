use Rattle.std.proofs.Common.{◌≡◌, ◌≤◌, ◌<◌, [], ◌∷◌, ◌∙◌, List, ℕ, ap, arith, get_or, length, sym}
use Rattle.std.specs.Prelude.{slice_range}
use Rattle.std.proofs.lemmas.List.{get_or_default}
use Rattle.plan_text.proofs.RowListLemmas.{no_row, row_at, row_within}
use Rattle.plan_text.proofs.row_list.RowList.row.Goals as goal

pub returns-then-number-len : goal.returns-then-number-len
returns-then-number-len g c =
    let items = c.self.inside.items.items in
    let ends = c.self.inside.ends.items in
    let past : length ends ≤ c.args.number = omega (arith, c.if-number-len.true, c.len.ensures, c.self.inside.ends.ok.0) in
    sym (ap (λ rs. get_or rs c.args.number []) (sym c.self.view_is) ∙ no_row 0 items ends c.args.number past)

pub cut-requires : goal.cut-requires
cut-requires g c =
    let items = c.self.inside.items.items in
    let ends = c.self.inside.ends.items in
    let n = c.args.number in
    let here : n < length ends = omega (arith, c.if-number-len.false, c.len.ensures, c.self.inside.ends.ok.0) in
    let within = row_within 0 ends (length items) n c.self.invariant here in
    let start : c.start_of-start.result ≡ get_or (0 ∷ ends) n 0 = c.start_of-start.ensures ∙ ap (λ (es : List ℕ). get_or (0 ∷ es) n 0) c.deref.ensures.value in
    let end : c.index.result.now ≡ get_or ends n 0 = c.index.ensures ∙ get_or_default ends n c.index.result.now 0 here in
    let long : length c.deref-2.result.now ≡ length items = ap length c.deref-2.ensures.value in (
      omega (arith, start, end, within.0),
      omega (arith, end, long, within.1),
    )

pub returns : goal.returns
returns g c =
    let items = c.self.inside.items.items in
    let ends = c.self.inside.ends.items in
    let n = c.args.number in
    let here : n < length ends = omega (arith, c.if-number-len.false, c.len.ensures, c.self.inside.ends.ok.0) in
    let start : c.start_of-start.result ≡ get_or (0 ∷ ends) n 0 = c.start_of-start.ensures ∙ ap (λ (es : List ℕ). get_or (0 ∷ es) n 0) c.deref.ensures.value in
    let end : c.index.result.now ≡ get_or ends n 0 = c.index.ensures ∙ get_or_default ends n c.index.result.now 0 here in
    c.cut.ensures
    ∙ (ap (λ ns. slice_range ns c.start_of-start.result c.index.result.now) c.deref-2.ensures.value
    ∙ (ap (λ s. slice_range items s c.index.result.now) start
    ∙ (ap (slice_range items (get_or (0 ∷ ends) n 0)) end
    ∙ (sym (row_at 0 items ends n here) ∙ ap (λ rs. get_or rs n []) c.self.view_is))))
