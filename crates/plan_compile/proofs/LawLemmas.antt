-- The image means the rule and is well shaped, because the code of each edge does and is.
use Rattle.std.proofs.Common.{◌≡◌, ℕ, zero, suc, ◌<◌, List, [], ◌∷◌, length, map, Some, refl, ap, subst, ◌∙◌, arith}
use Rattle.std.specs.Prelude.{slice_get}
use Rattle.plan_image.specs.Bodies.{IsSplit}
use Rattle.plan_image.specs.Code.{code}
use Rattle.plan_verify.specs.Turn.{Slots, Meaning}
use Rattle.plan_verify.specs.Alone.{at_begin}
use Rattle.plan_verify.specs.Sound.{AreTyped, AreLentSet}
use Rattle.plan_verify.specs.WellShaped.{IsShapedEdge}
use Rattle.plan_compile.specs.declared.slot_pattern.SlotPattern.{SlotPattern}
use Rattle.plan_compile.specs.declared.slot_pattern.SlotPattern.TheVariants.{OneFlag, OwnFlags, Gathers, Alone}
use Rattle.plan_compile.specs.InteractionTree.{InteractionTree, Obeys}
use Rattle.plan_compile.specs.Means.{Leaves, IsLaidOut}
use Rattle.plan_compile.specs.Laws.{CommandMeans, PhonyMeans, CommandShaped, PhonyShaped}
use Rattle.plan_compile.specs.Builds.{Build, Builds}
use Rattle.plan_compile.specs.Emit.{code_of}
use Rattle.plan_compile.specs.Slots.{form_of, base, outputs_by, all_made}
use Rattle.plan_compile.specs.Names.{all_texts}
use Rattle.plan_compile.specs.Images.{layout_by, image_of}
use Rattle.plan_compile.specs.Faithful.{IsEdge, IsSound}
use Rattle.plan_compile.specs.Told.{told, facts, edge_does, ImageMeans, ImageIsShaped}
use Rattle.plan_compile.proofs.EdgeLemmas.{image_code, image_count}
use Rattle.plan_compile.proofs.LayoutLemmas.{laid_out}
use Rattle.plan_compile.proofs.TableLemmas.{tables_right, image_right}
use Rattle.plan_compile.proofs.ToldLemmas.{given_by, rule_told}

get_inside : {A : Type 0} (xs : List A) (k : ℕ) → k < length xs → (x : A) × (slice_get xs k ≡ Some x)
get_inside [] k lt = absurd (omega arith)
get_inside (x ∷ xs) zero lt = (x, refl)
get_inside (x ∷ xs) (suc k) lt = get_inside xs k (omega (arith, lt))

module _ (split : IsSplit) (t : Builds) (sound : IsSound t) (e : ℕ) (x : Build) (at : IsEdge t e x) where
  laid_out_as : (form : SlotPattern) → form_of x ≡ form → IsLaidOut (image_of t) e (layout_by form (all_texts t.edges) (all_made zero t.edges) (base t.edges e) x)
  laid_out_as form is = subst (λ (f : SlotPattern). IsLaidOut (image_of t) e (layout_by f (all_texts t.edges) (all_made zero t.edges) (base t.edges e) x)) is (laid_out t sound e x at)

  code_as : (form : SlotPattern) → form_of x ≡ form → code (image_of t) e ≡ code_of (layout_by form (all_texts t.edges) (all_made zero t.edges) (base t.edges e) x)
  code_as form is = image_code split t e x at ∙ ap (λ (f : SlotPattern). code_of (layout_by f (all_texts t.edges) (all_made zero t.edges) (base t.edges e) x)) is

  means_by : CommandMeans → PhonyMeans → (form : SlotPattern) → form_of x ≡ form → (meaning : Meaning) (slots : Slots) → AreTyped (image_of t) slots → AreLentSet (image_of t) e slots
      → Obeys meaning (image_of t) e (Leaves (outputs_by form (base t.edges e) x.outputs)) (at_begin slots) (edge_does x.edge.phony meaning (facts t slots x))
  means_by commands phonies OneFlag is meaning slots typed lent =
      subst (λ (interaction : InteractionTree). Obeys meaning (image_of t) e (Leaves (outputs_by OneFlag (base t.edges e) x.outputs)) (at_begin slots) interaction) (rule_told t slots e x at meaning OneFlag is)
      (commands (image_of t) e _ (code_as OneFlag is) (laid_out_as OneFlag is) meaning slots (map (told t slots) x.order_only) typed lent (given_by t slots e x at OneFlag is))
  means_by commands phonies OwnFlags is meaning slots typed lent =
      subst (λ (interaction : InteractionTree). Obeys meaning (image_of t) e (Leaves (outputs_by OwnFlags (base t.edges e) x.outputs)) (at_begin slots) interaction) (rule_told t slots e x at meaning OwnFlags is)
      (commands (image_of t) e _ (code_as OwnFlags is) (laid_out_as OwnFlags is) meaning slots (map (told t slots) x.order_only) typed lent (given_by t slots e x at OwnFlags is))
  means_by commands phonies Gathers is meaning slots typed lent =
      subst (λ (interaction : InteractionTree). Obeys meaning (image_of t) e (Leaves (outputs_by Gathers (base t.edges e) x.outputs)) (at_begin slots) interaction) (rule_told t slots e x at meaning Gathers is)
      (phonies.gather (image_of t) e _ (code_as Gathers is) (laid_out_as Gathers is) meaning slots (map (told t slots) x.order_only) typed lent (given_by t slots e x at Gathers is))
  means_by commands phonies Alone is meaning slots typed lent =
      subst (λ (interaction : InteractionTree). Obeys meaning (image_of t) e (Leaves (outputs_by Alone (base t.edges e) x.outputs)) (at_begin slots) interaction) (rule_told t slots e x at meaning Alone is)
      (phonies.alone (image_of t) e _ (code_as Alone is) (laid_out_as Alone is) meaning slots (map (told t slots) x.order_only) typed lent (given_by t slots e x at Alone is))

  shaped_by : CommandShaped → PhonyShaped → (form : SlotPattern) → form_of x ≡ form → IsShapedEdge (image_of t) e
  shaped_by commands phonies OneFlag is = commands (image_of t) e _ (code_as OneFlag is) (laid_out_as OneFlag is) (tables_right t sound e x at)
  shaped_by commands phonies OwnFlags is = commands (image_of t) e _ (code_as OwnFlags is) (laid_out_as OwnFlags is) (tables_right t sound e x at)
  shaped_by commands phonies Gathers is = phonies.gather (image_of t) e _ (code_as Gathers is) (laid_out_as Gathers is) (tables_right t sound e x at)
  shaped_by commands phonies Alone is = phonies.alone (image_of t) e _ (code_as Alone is) (laid_out_as Alone is) (tables_right t sound e x at)

pub image_means : IsSplit → CommandMeans → PhonyMeans → ImageMeans
image_means split commands phonies t sound e x at = means_by split t sound e x at commands phonies (form_of x) refl

pub image_is_shaped : IsSplit → CommandShaped → PhonyShaped → ImageIsShaped
image_is_shaped split commands phonies t sound = record {
  edges = λ e within.
      let long : length (image_of t).edges ≡ length t.edges = image_count t in
      let here = get_inside t.edges e (omega (arith, within, long)) in
      shaped_by split t sound e here.0 here.1 commands phonies (form_of here.0) refl;
  tables = image_right t sound;
}
