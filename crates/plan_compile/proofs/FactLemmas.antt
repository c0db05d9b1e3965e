-- The layout of an edge with a command means the facts of the manifest's edge.
use Rattle.std.proofs.Common.{◌≡◌, ℕ, zero, suc, ◌+◌, false, List, [], ◌∷◌, map, Some, refl, sym, ap, subst, ◌∙◌, arith}
use Rattle.std.specs.Prelude.{◌&&◌, slice_get}
use Rattle.plan_verify.specs.Turn.{Slots}
use Rattle.plan_compile.specs.declared.layout.Output.{Output}
use Rattle.plan_compile.specs.declared.layout.CommandLayout.{CommandLayout}
use Rattle.plan_compile.specs.declared.layout.EdgeLayout.{EdgeLayout}
use Rattle.plan_compile.specs.declared.layout.EdgeLayout.TheVariants as layout
use Rattle.plan_compile.specs.declared.slot_pattern.SlotPattern.{SlotPattern}
use Rattle.plan_compile.specs.declared.slot_pattern.SlotPattern.TheVariants.{OneFlag, OwnFlags, Gathers, Alone}
use Rattle.plan_compile.specs.Builds.{Build, Builds}
use Rattle.plan_compile.specs.Faithful.{IsEdge}
use Rattle.plan_compile.specs.Images.{command_layout, layout_by, layout_of, layouts_from, image_of}
use Rattle.plan_compile.specs.Means.{command_of, AreGiven}
use Rattle.plan_compile.specs.Names.{Text, all_texts}
use Rattle.plan_compile.specs.Rule.{Given}
use Rattle.plan_compile.specs.Slots.{form_of, has_none, own_len, base, all_made}
use Rattle.plan_compile.specs.Told.{told, facts, LayoutsAreFacts}
use Rattle.plan_compile.proofs.LayoutLemmas.{one_flag_is, own_flags_is}
use Rattle.plan_compile.proofs.ListLemmas.{some_is}
use Rattle.plan_compile.proofs.ToldLemmas.{command_told, given_by}

-- the layout of each edge has its place
layout_at : (texts : List Text) (outputs : List Output) (b : ℕ) (xs : List Build) (e : ℕ) (x : Build) → slice_get xs e ≡ Some x → slice_get (layouts_from texts outputs b xs) e ≡ Some (layout_of texts outputs (b + base xs e) x)
layout_at texts outputs b [] e x at = absurd cc
layout_at texts outputs b (y ∷ xs) zero x at =
    let same : b ≡ b + zero = omega arith in
    ap (λ (z : Build). Some (layout_of texts outputs b z)) (some_is y x at) ∙ ap (λ (k : ℕ). Some (layout_of texts outputs k x)) same
layout_at texts outputs b (y ∷ xs) (suc e) x at =
    let place : b + own_len y + base xs e ≡ b + (own_len y + base xs e) = omega arith in
    layout_at texts outputs (b + own_len y) xs e x at ∙ ap (λ (k : ℕ). Some (layout_of texts outputs k x)) place

command_is : (w v : CommandLayout) → layout.Command w ≡ layout.Command v → w ≡ v
command_is w v h = cc

module _ (t : Builds) (e : ℕ) (x : Build) (at : IsEdge t e x) (w : CommandLayout) (slots : Slots) where
  abbrev order_only : List Given
  order_only = map (told t slots) x.order_only

  abbrev whole : EdgeLayout
  whole = layout_of (all_texts t.edges) (all_made zero t.edges) (base t.edges e) x

  abbrev Means : Type 0
  Means = (x.edge.phony ≡ false) × (command_of (image_of t) slots w order_only ≡ facts t slots x) × AreGiven (image_of t) slots order_only (layout.Command w) × (layout.Command w ≡ whole)

  by_command : (form : SlotPattern) → form_of x ≡ form → x.edge.phony ≡ false
      → AreGiven (image_of t) slots order_only (layout.Command (command_layout (all_texts t.edges) (all_made zero t.edges) form (base t.edges e) x))
      → layout.Command w ≡ layout.Command (command_layout (all_texts t.edges) (all_made zero t.edges) form (base t.edges e) x) → layout.Command w ≡ whole → Means
  by_command form is plain given same all =
      let v : w ≡ command_layout (all_texts t.edges) (all_made zero t.edges) form (base t.edges e) x = command_is w _ same in (
        plain,
        ap (λ (u : CommandLayout). command_of (image_of t) slots u order_only) v ∙ command_told t slots e x at form plain,
        subst (λ (u : CommandLayout). AreGiven (image_of t) slots order_only (layout.Command u)) (sym v) given,
        all,
      )

  by_form : (form : SlotPattern) → form_of x ≡ form → layout.Command w ≡ layout_by form (all_texts t.edges) (all_made zero t.edges) (base t.edges e) x → layout.Command w ≡ whole → Means
  by_form OneFlag is same all =
      let forms = one_flag_is x.edge.phony x.edge.restat (has_none x.named && has_none x.order_only) is in
      by_command OneFlag is forms.0 (given_by t slots e x at OneFlag is) same all
  by_form OwnFlags is same all =
      let forms = own_flags_is x.edge.phony x.edge.restat (has_none x.named && has_none x.order_only) is in
      by_command OwnFlags is forms.0 (given_by t slots e x at OwnFlags is) same all
  by_form Gathers is same all = absurd cc
  by_form Alone is same all = absurd cc

pub layouts_are_facts : LayoutsAreFacts
layouts_are_facts t e x at w here slots =
    let texts = all_texts t.edges in
    let outputs = all_made zero t.edges in
    let same : zero + base t.edges e ≡ base t.edges e = omega arith in
    let there = layout_at texts outputs zero t.edges e x at ∙ ap (λ (k : ℕ). Some (layout_of texts outputs k x)) same in
    let is : layout.Command w ≡ layout_of texts outputs (base t.edges e) x = some_is (layout.Command w) (layout_of texts outputs (base t.edges e) x) (sym here ∙ there) in
    by_form t e x at w slots (form_of x) refl is is
