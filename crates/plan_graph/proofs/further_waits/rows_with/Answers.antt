use Rattle.std.proofs.Common.{◌≡◌, ◌+◌, ◌<◌, ◌++◌, ◌∷◌, [], ◌∙◌, List, ℕ, ap, get_or, length, subst, sym}
use Rattle.std.specs.Prelude.{All}
use Rattle.std.proofs.lemmas.List.{length_push}
use Rattle.plan_graph.specs.FurtherWaits.{IsFurther, IsRow}
use Rattle.plan_graph.proofs.FurtherWaitLemmas.{row_of, rows_more}
use Rattle.plan_graph.proofs.further_waits.rows_with.Goals as goal

pub loop-edge-preserved : goal.loop-edge-preserved
loop-edge-preserved c =
    let waits = c.args.waits.now in
    let more = c.args.more.now in
    let edge = c.loop-edge.edge in
    let rows = c.loop-edge.rows in
    let own = c.in_ok-row.row.items in
    let row = c.push_makers.new.row.items in
    let added = c.push_makers.ensures.0 in
    let further : All (λ w. (w < length waits) × IsFurther more edge w) added = subst (λ (n : ℕ). All (λ w. (w < n) × IsFurther more edge w) added) c.len.ensures c.push_makers.ensures.2 in
    let here : IsRow waits more edge row = subst (IsRow waits more edge) (sym c.push_makers.ensures.1) (row_of waits more edge own added c.in_ok-row.ensures further) in
    let pushed : c.push.new.self ≡ rows ++ row ∷ [] = c.in_ok-push.ensures.more ∙ ap (λ (r : List ℕ). rows ++ r ∷ []) c.deref.ensures.value in (
      ap (λ (l : List (List ℕ)). length l) pushed ∙ length_push rows row ∙ ap (λ (n : ℕ). n + 1) c.loop-edge.invariant.0,
      λ e. subst (λ (l : List (List ℕ)). IsRow waits more e (get_or l e [])) (sym pushed) (rows_more waits more rows row edge c.loop-edge.invariant.0 c.loop-edge.invariant.1 here e),
    )
