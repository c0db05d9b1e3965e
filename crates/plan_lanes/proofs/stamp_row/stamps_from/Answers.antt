use Rattle.std.proofs.Common.{rules, ◌≡◌, ◌+◌, ◌-◌, ◌<◌, ℕ, List, [], ◌∷◌, ◌++◌, drop, get_or, length, length-append, inr, ap, arith, sym, subst, ◌∙◌}
use Rattle.std.proofs.lemmas.List.{get_or-drop, length-drop}
use Rattle.plan_verify.specs.Turn.{Stat}
use Rattle.plan_machine.specs.declared.event.reply.Reply.TheVariants.{Stamp}
use Rattle.plan_lanes.specs.StampRows.{HaveStamps}
use Rattle.plan_lanes.proofs.StampRowLemmas.{have_more}
use Rattle.plan_lanes.proofs.stamp_row.stamps_from.Goals as goal

pub loop-place-preserved : goal.loop-place-preserved
loop-place-preserved g c =
    let rule = g.W.World.allows in
    let from : ℕ = c.args.from in
    let paths : List (List ℕ) = c.args.paths.now in
    let stamps : List ℕ = c.loop-place.stamps.items in
    let stamp : ℕ = c.in-Some.stamp in
    let pushed : c.push.new.self.items ≡ stamps ++ stamp ∷ [] = search rules in
    let here : from + length stamps ≡ c.loop-place.place = c.loop-place.invariant.0 in
    let inside : c.loop-place.place < length paths = omega (arith, c.loop-place-test.true, c.row_end-end.ensures) in
    let left : length (drop from paths) ≡ length paths - from = length-drop from paths in
    let long : length stamps < length (drop from paths) = omega (arith, here, inside, left) in
    let path : get_or (drop from paths) (length stamps) [] ≡ c.path.result.now = get_or-drop from paths (length stamps) [] ∙ ap (λ (n : ℕ). get_or paths n []) here ∙ sym c.path.ensures in
    let suits : (number : ℕ) → rule number (Stat (get_or (drop from paths) (length stamps) [])) (Stamp stamp) = subst (λ (p : List ℕ). (number : ℕ) → rule number (Stat p) (Stamp stamp)) (sym path) c.in-Some.ensures in
    let longer : length c.push.new.self.items ≡ length (stamps ++ stamp ∷ []) = ap (λ (l : List ℕ). length l) pushed in
    let one : from + length c.push.new.self.items ≡ c.loop-place.place + 1 = omega (arith, here, longer, length-append stamps (stamp ∷ [])) in (
      one,
      inr (omega (arith, one, inside)),
      subst (λ (l : List ℕ). HaveStamps rule (drop from paths) l) (sym pushed) (have_more rule (drop from paths) stamps stamp c.loop-place.invariant.2 long suits),
    )
