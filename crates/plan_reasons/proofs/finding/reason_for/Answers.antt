use Rattle.std.proofs.Common.{◌≡◌, ◌∙◌, List, map, ap, sym}
use Rattle.plan_compile.specs.declared.layout.EdgeLayout.{EdgeLayout}
use Rattle.plan_compile.specs.declared.layout.EdgeLayout.TheVariants as layout
use Rattle.plan_compile.specs.Builds.{Builds, builds}
use Rattle.plan_compile.specs.Images.{compiled}
use Rattle.plan_compile.specs.Means.{text_at, command_of}
use Rattle.plan_compile.specs.Rule.{Given, Command}
use Rattle.plan_compile.specs.Told.{told}
use Rattle.plan_compile.specs.Told.{facts as facts_told}
use Rattle.plan_reasons.specs.declared.facts.Facts.{Facts}
use Rattle.plan_reasons.specs.Facts.{facts_of}
use Rattle.plan_reasons.specs.Observing.{Observations}
use Rattle.plan_reasons.specs.Reasons.{reason_by, reason_in}
use Rattle.plan_reasons.specs.Replies.{observed, seen}
use Rattle.plan_reasons.proofs.LentLemmas.{left_by_lent}
use Rattle.plan_reasons.proofs.finding.reason_for.Goals as goal

pub returns : goal.returns
returns g c = λ rule m graph sound is_graph e x there here same slots lent.
    let t : Builds = builds rule m graph in
    let p = compiled rule m graph in
    let w = c.args.layout.now in
    let stamp = g.L.LentSlots.stamp_left c.args.lent.now in
    let flag = g.L.LentSlots.flag_left c.args.lent.now in
    let sure = c.manifests_are_sound.ensures rule m graph sound is_graph in
    let means = c.layouts_are_facts.ensures t e x there w here slots in
    let left = left_by_lent stamp flag p slots e w.named lent (c.inputs_are_loaded.ensures t sure e x there w here) in
    let order_only : List Given = map (told t slots) x.order_only in
    let text : text_at p w.command ≡ c.args.command.now = ap (λ (k : Command). k.command) means.1 ∙ sym same in
    let made : Facts = c.in_ok-facts.facts in
    let are : made ≡ facts_of (facts_told t slots x) = c.in_ok-facts.ensures p slots order_only left means.2 text ∙ ap facts_of means.1 in
    let saw : seen c.in_ok-observed.observed ≡ observed (facts_of (facts_told t slots x)) c.args.replies.now =
    c.in_ok-observed.ensures ∙ ap (λ (f : Facts). observed f c.args.replies.now) are in (
      c.first_reason-reason.ensures
          ∙ ap (λ (o : Observations). reason_by made o.named o.outputs o.entry o.recorded) c.in_ok-observed.ensures
          ∙ ap (λ (f : Facts). reason_in f c.args.replies.now) are,
      saw,
    )
