use Rattle.std.proofs.Common.{◌≡◌, ◌∙◌, ℕ, Global, List, Some, Vec, ap, sym}
use Rattle.std.specs.Prelude.{slice_get, option_map}
use Rattle.plan_scope.specs.Edge.{Edge as ManifestEdge}
use Rattle.plan_image.specs.Code.{code}
use Rattle.plan_compile.specs.declared.baseline.OutOfDateRule.TheVariants.{Stricter}
use Rattle.plan_compile.specs.declared.layout.CommandLayout.{CommandLayout}
use Rattle.plan_compile.specs.declared.layout.EdgeLayout.{EdgeLayout}
use Rattle.plan_compile.specs.declared.layout.EdgeLayout.TheVariants as layout_of
use Rattle.plan_compile.specs.Builds.{Builds, builds}
use Rattle.plan_compile.specs.Images.{compiled, layouts}
use Rattle.plan_compile.specs.Told.{facts}
use Rattle.plan_machine.specs.declared.event.reply.Reply.{Reply}
use Rattle.plan_reasons.specs.declared.facts.Facts.{Facts}
use Rattle.plan_reasons.specs.Facts.{facts_of}
use Rattle.plan_reasons.specs.Reasons.{reason_in}
use Rattle.plan_reasons.specs.Replies.{observed, seen}
use Rattle.plan_commands.proofs.ExplainingLemmas.{edge_is, into, lent_loaded, out_of, says_so, some_same}
use Rattle.plan_commands.proofs.explaining.sentence_for.Goals as goal

pub returns-in_default : goal.returns-in_default
returns-in_default c = λ g is_graph laid x w there here same slots loaded.
    absurd (c.in_default.ensures.none x.edge w (edge_is Stricter g 0 c.args.manifest.now.edges c.args.edge x there) (ap (λ (ls : List EdgeLayout). slice_get ls c.args.edge) laid ∙ here))

pub returns : goal.returns
returns c = λ g is_graph laid. into c.sentence_on.result (λ text ok x w there here same slots loaded.
    let m = c.args.manifest.now in
    let t : Builds = builds Stricter m g in
    let edge : x.edge ≡ c.in-Some.edge = some_same x.edge c.in-Some.edge (sym (edge_is Stricter g 0 m.edges c.args.edge x there) ∙ c.in-Some.ensures.edge) in
    let found = c.in_ok-found.ensures Stricter m g c.requires is_graph c.args.edge x there (ap (λ (ls : List EdgeLayout). slice_get ls c.args.edge) (sym laid) ∙ c.in-Some.ensures.layout) same slots
    (λ k h. lent_loaded slots (code (compiled Stricter m g) c.args.edge) c.as_slice.result.now (c.as_slice.ensures ∙ loaded) k h) in
    let about : Facts = facts_of (facts t slots x) in
    let says = out_of _ c.sentence_on.result text ok (c.sentence_on.ensures x edge) in
    says_so x c.args.outputs.now (seen c.in_ok-found.found.observed) _ c.in_ok-found.found.reason _ (option_map (λ (t : Vec ℕ Global). t.items) text) (found.1 ∙ ap (λ (rs : List Reply). observed about rs) c.as_slice-2.ensures) (found.0 ∙ ap (λ (rs : List Reply). reason_in about rs) c.as_slice-2.ensures) says)
