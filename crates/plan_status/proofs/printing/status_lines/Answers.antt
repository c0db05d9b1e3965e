use Rattle.std.proofs.Common.{◌≡◌, ◌≤◌, ◌+◌, ◌++◌, List, ℕ, ap, sym, subst, ◌∙◌, get_or, if◌then◌else◌, take, drop}
use Rattle.plan_image.specs.declared.image.Parts.{Parts}
use Rattle.plan_machine.specs.declared.event.Mark.{Mark}
use Rattle.plan_machine.specs.declared.event.Mark.TheVariants.{Started}
use Rattle.plan_status.specs.Lines.{ends, line_of, lines_behind, lines_of, tells_end}
use Rattle.plan_status.proofs.LinesLemmas.{counted_few, counted_next, one_more}
use Rattle.plan_status.proofs.printing.status_lines.Goals as goal

pub loop-mark-preserved : goal.loop-mark-preserved
loop-mark-preserved c =
    let so_far = c.loop-mark.invariant in
    let p = c.args.image.now in
    let marks = c.args.marks.now in
    let i = c.loop-mark.mark-index in
    let x : Mark = get_or marks i (Started 0) in
    let same : c.parts-parts.result.now ≡ p = c.parts-parts.ensures.tables ∙ c.image.ensures.same in
    let next : c.counted_on-n.result ≡ (if tells_end p x then 1 else 0) + c.loop-mark.n
    = c.counted_on-n.ensures ∙ ap (λ (q : Parts). (if tells_end q x then 1 else 0) + c.loop-mark.n) same in
    let count : c.counted_on-n.result ≡ ends p (take (i + 1) marks)
    = next ∙ (ap (λ (n : ℕ). (if tells_end p x then 1 else 0) + n) so_far.0 ∙ counted_next p marks i (Started 0) c.loop-mark-test.true) in
    let few : c.counted_on-n.result ≤ i + 1 = subst (λ (n : ℕ). n ≤ i + 1) (sym next) (counted_few (tells_end p x) c.loop-mark.n i so_far.1) in
    let line : c.in_ok-line.line.items ≡ line_of p c.args.total c.counted_on-n.result x
    = c.in_ok-line.ensures ∙ ap (λ (q : Parts). line_of q c.args.total c.counted_on-n.result x) same in
    let grown : c.extend_from_slice.new.self.items ≡ c.loop-mark.text.items ++ line_of p c.args.total c.counted_on-n.result x
    = c.in_ok-extend_from_slice.ensures.items ∙ ap (λ ys. c.loop-mark.text.items ++ ys) (c.deref.ensures.value ∙ line) in
    let whole = one_more p c.args.total marks i (Started 0) c.counted_on-n.result c.loop-mark.text.items (lines_of p c.args.total marks) c.loop-mark-test.true count so_far.2 in
    (count, few, subst (λ (text : List ℕ). text ++ lines_behind p c.args.total (take (i + 1) marks) (drop (i + 1) marks) ≡ lines_of p c.args.total marks) (sym grown) whole)
