use Rattle.std.proofs.Common.{rules, ◌≡◌, ◌≤◌, ◌+◌, ◌++◌, List, Option, ℕ, Some, None, true, ap, subst, ◌∙◌, get_or, arith, if◌then◌else◌, take, drop}
use Rattle.plan_image.specs.declared.image.Parts.{Parts}
use Rattle.plan_machine.specs.declared.event.Mark.{Mark}
use Rattle.plan_machine.specs.declared.event.Mark.TheVariants.{Started}
use Rattle.plan_status.specs.Lines.{ends, line_of, lines_behind, tells_end}
use Rattle.plan_status.specs.Printing.{Prints}
use Rattle.std.proofs.lemmas.List.{length-take-le}
use Rattle.plan_status.proofs.LinesLemmas.{counted_next, ends_few, one_more}
use Rattle.plan_status.proofs.PrintingLemmas.{stops}
use Rattle.plan_status.proofs.printing.print_behind.Goals as goal

pub counted_on-n-requires : goal.counted_on-n-requires
counted_on-n-requires g c =
    let marks = c.args.marks.now in
    let i = c.loop-at.at in
    let counted = c.loop-at.invariant.1 in
    let lt = c.loop-at-test.true in
    let most = ends_few c.args.image.now (take i marks) in
    let long = length-take-le i marks (omega (arith, lt)) in
    let few : c.loop-at.n ≤ i = omega (arith, counted, most, long) in
    search (rules, few)

pub returns-in-Err : goal.returns-in-Err
returns-in-Err g c =
    let so_far = c.loop-at.invariant in
    let p = c.args.image.now in
    let marks = c.args.marks.now in
    let i = c.loop-at.at in
    let n = c.counted_on-n.result in
    let x : Mark = get_or marks i (Started 0) in
    let same : c.parts-parts.result.now ≡ p = c.parts-parts.ensures.tables ∙ c.image.ensures.same in
    let next : n ≡ (if tells_end p x then 1 else 0) + c.loop-at.n
    = c.counted_on-n.ensures ∙ ap (λ (q : Parts). (if tells_end q x then 1 else 0) + c.loop-at.n) same in
    let count : n ≡ ends p (take (i + 1) marks)
    = next ∙ (ap (λ (n : ℕ). (if tells_end p x then 1 else 0) + n) so_far.1 ∙ counted_next p marks i (Started 0) c.loop-at-test.true) in
    let whole : List ℕ = lines_behind p c.args.total (take c.args.from marks) (drop c.args.from marks) in
    let on = one_more p c.args.total marks i (Started 0) n so_far.0 whole c.loop-at-test.true count so_far.3 in
    let old : ℕ × Option (List ℕ) = (g.W.Sink.failures c.args.out.now, g.W.Sink.taken c.args.out.now) in
    let mid : ℕ × Option (List ℕ) = (g.W.Sink.failures c.loop-at.out, g.W.Sink.taken c.loop-at.out) in
    let new : ℕ × Option (List ℕ) = (g.W.Sink.failures c.print_line.new.out, g.W.Sink.taken c.print_line.new.out) in
    let printed : Prints (line_of p c.args.total n x) (Some c.in-Err.fault) mid new
    = subst (λ (q : Parts). Prints (line_of q c.args.total n x) (Some c.in-Err.fault) mid new) same c.in-Err.ensures in
    stops c.join_laws.ensures.join c.join_laws.ensures.stopped old mid new so_far.0 (line_of p c.args.total n x)
    (lines_behind p c.args.total (take (i + 1) marks) (drop (i + 1) marks)) whole c.in-Err.fault on so_far.4 printed

pub loop-at-preserved : goal.loop-at-preserved
loop-at-preserved g c =
    let so_far = c.loop-at.invariant in
    let p = c.args.image.now in
    let marks = c.args.marks.now in
    let i = c.loop-at.at in
    let n = c.counted_on-n.result in
    let x : Mark = get_or marks i (Started 0) in
    let same : c.parts-parts.result.now ≡ p = c.parts-parts.ensures.tables ∙ c.image.ensures.same in
    let next : n ≡ (if tells_end p x then 1 else 0) + c.loop-at.n
    = c.counted_on-n.ensures ∙ ap (λ (q : Parts). (if tells_end q x then 1 else 0) + c.loop-at.n) same in
    let count : n ≡ ends p (take (i + 1) marks)
    = next ∙ (ap (λ (n : ℕ). (if tells_end p x then 1 else 0) + n) so_far.1 ∙ counted_next p marks i (Started 0) c.loop-at-test.true) in
    let from : c.args.from ≤ i + 1 = let low = so_far.2 in omega (arith, low) in
    let old : ℕ × Option (List ℕ) = (g.W.Sink.failures c.args.out.now, g.W.Sink.taken c.args.out.now) in
    let mid : ℕ × Option (List ℕ) = (g.W.Sink.failures c.loop-at.out, g.W.Sink.taken c.loop-at.out) in
    let new : ℕ × Option (List ℕ) = (g.W.Sink.failures c.print_line.new.out, g.W.Sink.taken c.print_line.new.out) in
    let line : List ℕ = line_of p c.args.total n x in
    let printed : Prints line None mid new = subst (λ (q : Parts). Prints (line_of q c.args.total n x) None mid new) same c.in-Ok.ensures in (
      so_far.0 ++ line,
      count,
      from,
      one_more p c.args.total marks i (Started 0) n so_far.0 (lines_behind p c.args.total (take c.args.from marks) (drop c.args.from marks)) c.loop-at-test.true count so_far.3,
      c.join_laws.ensures.writes true old mid new so_far.0 line so_far.4 printed,
    )
