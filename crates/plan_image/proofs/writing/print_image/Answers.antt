use Rattle.std.proofs.Common.{◌≡◌, ◌++◌, ℕ, List, Option, is_ok, ap, subst, ◌∙◌}
use Rattle.plan_text.specs.Sinks.{Writes}
use Rattle.plan_image.specs.Spelling.{spelling}
use Rattle.plan_image.proofs.writing.print_image.Goals as goal

pub returns : goal.returns
returns g c =
    let printed = c.in_ok-print_parts.ensures in
    let old : ℕ × Option (List ℕ) = (g.W.Sink.failures c.args.out.now, g.W.Sink.taken c.args.out.now) in
    let mid : ℕ × Option (List ℕ) = (g.W.Sink.failures c.print_parts.new.out, g.W.Sink.taken c.print_parts.new.out) in
    let new : ℕ × Option (List ℕ) = (g.W.Sink.failures c.hand_on.new.out, g.W.Sink.taken c.hand_on.new.out) in
    let held : List ℕ = c.print_parts.new.held.items in
    let whole : printed.0 ++ held ≡ spelling c.args.image.now
    = printed.1 ∙ (ap (λ (front : List ℕ). front ++ spelling c.parts.result.now) c.clear.ensures.items ∙ ap spelling c.parts.ensures.tables) in
    subst (Writes (is_ok c.hand_on.result) old new) whole (c.writes_join.ensures.join (is_ok c.hand_on.result) old mid new printed.0 held printed.2 c.hand_on.ensures.written)
