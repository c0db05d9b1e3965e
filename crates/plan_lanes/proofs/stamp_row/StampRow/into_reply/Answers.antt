use Rattle.std.proofs.Common.{◌≡◌, ◌∙◌, ℕ, List, [], Some, drop, length, refl, ap, sym, subst}
use Rattle.std.specs.Prelude.{slice_get}
use Rattle.std.proofs.lemmas.List.{get_or-drop}
use Rattle.std.proofs.lemmas.Option.{slice_get_read}
use Rattle.plan_verify.specs.Turn.{Stat}
use Rattle.plan_machine.specs.declared.event.reply.Reply.TheVariants.{Stamp}
use Rattle.plan_lanes.proofs.StampRowLemmas.{have_at}
use Rattle.plan_lanes.proofs.stamp_row.StampRow.into_reply.Goals as goal

pub returns-clause-allowed : goal.returns-clause-allowed
returns-clause-allowed g c =
    let r = c.self.inside in
    let there : slice_get c.deref.result.now c.args.place ≡ Some c.in-Some.stamp.now =
    slice_get_read c.deref.result.now (length c.deref.result.now) c.args.place c.in-Some.stamp.now refl c.in-Some.ensures.lookup.3.0 c.in-Some.ensures.lookup.1 in
    let at : slice_get r.stamps.items c.args.place ≡ Some c.in-Some.stamp.now = ap (λ (l : List ℕ). slice_get l c.args.place) (sym c.deref.ensures.value) ∙ there in
    let suits = have_at g.W.World.allows (drop r.from r.paths) r.stamps.items c.args.place c.in-Some.stamp.now c.self.invariant.allowed at c.args.number in
    subst (λ (path : List ℕ). g.W.World.allows c.args.number (Stat path) (Stamp c.in-Some.stamp.now)) (get_or-drop r.from r.paths c.args.place []) suits
