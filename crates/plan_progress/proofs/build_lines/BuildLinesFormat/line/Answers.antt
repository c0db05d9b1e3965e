use Rattle.std.proofs.Common.{◌≡◌, ℕ, Bool, List, Option, ap, subst, ◌∙◌}
use Rattle.std.specs.Prelude.{option_map}
use Rattle.plan_image.specs.declared.image.Parts.{Parts}
use Rattle.plan_status.specs.Outcomes.{or_empty}
use Rattle.plan_progress.specs.declared.counts.Counts.{Counts}
use Rattle.plan_progress.specs.declared.pace.Pace.{Pace}
use Rattle.plan_progress.specs.BuildLines.{IsTaken, Look, look_of, open_with, text_with}
use Rattle.plan_progress.specs.Counting.{counted}
use Rattle.plan_progress.specs.Pace.{recent_rate, times_then}
use Rattle.plan_progress.specs.Running.{running_then}
use Rattle.plan_progress.proofs.BuildLinesLemmas.{tells_next}
use Rattle.plan_progress.proofs.build_lines.BuildLinesFormat.line.Goals as goal

pub returns-clause-tells : goal.returns-clause-tells
returns-clause-tells g c = λ before text told.
    let p : Parts = c.args.image.now in
    let look : Look = look_of c.args.self.now.display in
    let counts : Counts = c.args.self.now.counts in
    let was_open : Bool = c.args.self.now.line_open in
    let running : List ℕ = c.args.self.now.running.items in
    let runs : List ℕ = c.in_ok-running.running.items in
    let times : List ℕ = c.args.self.now.times.items in
    let now_times : List ℕ = c.in_ok-times.times.items in
    let taken : List ℕ → Option (List ℕ) → Type 0 = g.O.Outputs.taken c.args.self.now.outputs.now in
    let showed : ℕ → Type 0 = g.O.Stopwatch.showed c.args.self.now.outputs.now in
    let elapsed : ℕ = c.elapsed_with-elapsed.result in
    let pace : Pace = record { elapsed = elapsed; rate = c.in_ok-rate.rate } in
    let output : Option (List ℕ) = option_map (λ text. text.items) c.output_with-output.result in
    let bytes : List ℕ = c.output_or_empty-output.result.items in
    let same : c.image-image.result.now ≡ p = c.image-image.ensures.same in
    let count : c.in-Some.counts ≡ counted p counts c.args.mark
    = c.in-Some.ensures ∙ ap (λ (q : Parts). counted q counts c.args.mark) same in
    let run : runs ≡ running_then running c.args.mark = c.in_ok-running.ensures ∙ ap (λ (rs : List ℕ). running_then rs c.args.mark) c.deref.ensures.value in
    let pass : now_times ≡ times_then p times c.args.mark elapsed
    = c.in_ok-times.ensures
    ∙ (ap (λ (ts : List ℕ). times_then c.image-image.result.now ts c.args.mark elapsed) c.deref-2.ensures.value
    ∙ ap (λ (q : Parts). times_then q times c.args.mark elapsed) same) in
    let rate : c.in_ok-rate.rate ≡ recent_rate now_times = c.in_ok-rate.ensures ∙ ap recent_rate c.deref-3.ensures.value in
    let one : IsTaken taken p c.args.mark output = subst (λ (q : Parts). IsTaken taken q c.args.mark output) same c.output_with-output.ensures in
    let said : c.in_ok-shown.shown.text.items ≡ text_with look p c.args.total pace was_open c.in-Some.counts runs c.args.mark (or_empty output)
    = c.in_ok-shown.ensures.text
    ∙ (ap (λ (rs : List ℕ). text_with look c.image-image.result.now c.args.total pace was_open c.in-Some.counts rs c.args.mark bytes) c.deref-4.ensures.value
    ∙ (ap (λ (q : Parts). text_with look q c.args.total pace was_open c.in-Some.counts runs c.args.mark bytes) same
    ∙ ap (λ (ys : List ℕ). text_with look p c.args.total pace was_open c.in-Some.counts runs c.args.mark ys) c.output_or_empty-output.ensures)) in
    let left : c.in_ok-shown.shown.line_open ≡ open_with look p c.args.total pace was_open c.in-Some.counts runs c.args.mark (or_empty output)
    = c.in_ok-shown.ensures.left
    ∙ (ap (λ (rs : List ℕ). open_with look c.image-image.result.now c.args.total pace was_open c.in-Some.counts rs c.args.mark bytes) c.deref-4.ensures.value
    ∙ (ap (λ (q : Parts). open_with look q c.args.total pace was_open c.in-Some.counts runs c.args.mark bytes) same
    ∙ ap (λ (ys : List ℕ). open_with look p c.args.total pace was_open c.in-Some.counts runs c.args.mark ys) c.output_or_empty-output.ensures)) in
    tells_next taken showed look p c.args.total counts was_open running times before text c.args.mark output pace c.in-Some.counts c.in_ok-shown.shown.line_open runs now_times c.in_ok-shown.shown.text.items count run pass rate said left one c.elapsed_with-elapsed.ensures told
