use Rattle.std.proofs.Common.{◌≡◌, ◌⊎◌, ◌<◌, ◌∙◌, ℕ, [], List, arith, get_or, length, subst, sym, true}
use Rattle.std.specs.Prelude.{◌==◌, All, Contains}
use Rattle.std.specs.List.{list_any}
use Rattle.std.proofs.lemmas.List.Elements.{All-get_or}
use Rattle.plan_commands.specs.Recorded.{DependsOn}
use Rattle.plan_commands.proofs.RecordedLemmas.{contains_any, found, met_more}
use Rattle.plan_commands.proofs.recorded.depends_on.Goals as goal

pub returns-then-contains : goal.returns-then-contains
returns-then-contains c = λ is.
    let waits = c.args.waits.now in
    let v = c.index.result.now in
    let row = c.row-row.result.now in
    let lt : c.loop-place.place < length c.loop-place.met.items = omega (arith, c.if-place-len.false, c.len.ensures, c.loop-place.met.ok) in
    let from : (v ≡ c.args.edge) ⊎ DependsOn waits c.args.edge v =
    subst (λ (x : ℕ). (x ≡ c.args.edge) ⊎ DependsOn waits c.args.edge x) (sym c.index.ensures) (All-get_or (λ x. (x ≡ c.args.edge) ⊎ DependsOn waits c.args.edge x) c.loop-place.met.items c.loop-place.place v lt c.loop-place.invariant) in
    let any : list_any (λ y. y == c.args.maker) row ≡ true = sym c.contains.ensures.value ∙ c.if-contains.true in
    found waits c.args.edge v c.args.maker from (subst (λ (r : List ℕ). Contains r c.args.maker) c.row-row.ensures (contains_any row c.args.maker any))

pub loop-place-preserved : goal.loop-place-preserved
loop-place-preserved c =
    let waits = c.args.waits.now in
    let v = c.index.result.now in
    let row = c.row-row.result.now in
    let met = c.loop-place.met.items in
    let lt : c.loop-place.place < length met = omega (arith, c.if-place-len.false, c.len.ensures, c.loop-place.met.ok) in
    let from : (v ≡ c.args.edge) ⊎ DependsOn waits c.args.edge v =
    subst (λ (x : ℕ). (x ≡ c.args.edge) ⊎ DependsOn waits c.args.edge x) (sym c.index.ensures) (All-get_or (λ x. (x ≡ c.args.edge) ⊎ DependsOn waits c.args.edge x) met c.loop-place.place v lt c.loop-place.invariant) in
    subst (All (λ x. (x ≡ c.args.edge) ⊎ DependsOn waits c.args.edge x)) (sym c.in_ok-push_met.ensures.1) (met_more waits c.args.edge v row met c.in_ok-push_met.ensures.0 c.row-row.ensures from c.loop-place.invariant)
