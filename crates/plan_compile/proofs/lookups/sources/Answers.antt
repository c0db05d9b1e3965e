use Rattle.std.proofs.Common.{◌≡◌, ◌∙◌, List, ℕ, [], ap, sym, subst}
use Rattle.plan_image.specs.Spelling.{AscendsFrom}
use Rattle.std.specs.Prelude.{IfOk}
use Rattle.plan_compile.specs.OutputTable.{sources_in}
use Rattle.plan_compile.specs.Slots.{members_from}
use Rattle.plan_compile.proofs.AscendLemmas.{members_ascend, members_are}
use Rattle.plan_compile.proofs.LookupLemmas.{sources_same}
use Rattle.plan_compile.proofs.lookups.sources.Goals as goal

pub other_sources-requires : goal.other_sources-requires
other_sources-requires c =
    let is : c.deref.result.now ≡ members_from [] c.args.named.now =
    c.deref.ensures.value ∙ c.ascending-named.ensures ∙ ap (λ (ns : List ℕ). members_from [] ns) c.in_ok-from_slice.ensures.items in
    subst (λ (ns : List ℕ). AscendsFrom 0 ns) (sym is) (members_ascend [] c.args.named.now tt)

pub returns : goal.returns
returns c =
    let is : c.deref.result.now ≡ members_from [] c.args.named.now =
    c.deref.ensures.value ∙ c.ascending-named.ensures ∙ ap (λ (ns : List ℕ). members_from [] ns) c.in_ok-from_slice.ensures.items in
    let same : sources_in c.args.table.now c.deref.result.now c.args.order_only.now ≡ sources_in c.args.table.now c.args.named.now c.args.order_only.now =
    ap (λ (ns : List ℕ). sources_in c.args.table.now ns c.args.order_only.now) is
    ∙ sources_same c.args.table.now (members_from [] c.args.named.now) c.args.named.now c.args.order_only.now (λ s. members_are s [] c.args.named.now) in
    subst (λ (fs : List ℕ). IfOk c.other_sources.result (λ files. files ≡ fs)) same c.other_sources.ensures
