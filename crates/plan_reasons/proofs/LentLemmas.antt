-- The facts of an edge, by its layout and by what other edges left for it.
use Rattle.std.proofs.Common.{◌≡◌, ℕ, suc, Bool, true, false, List, [], ◌∷◌, length, map, Some, refl, sym, ap, ◌∙◌, subst}
use Rattle.std.specs.Prelude.{slice_get}
use Rattle.plan_image.specs.declared.image.Parts.{Parts}
use Rattle.plan_image.specs.Code.{code}
use Rattle.plan_verify.specs.Turn.{Slots}
use Rattle.plan_compile.specs.declared.baseline.Baseline.{Baseline}
use Rattle.plan_compile.specs.declared.layout.Input.{Input}
use Rattle.plan_compile.specs.declared.layout.Input.TheVariants.{File, Made}
use Rattle.plan_compile.specs.declared.layout.CommandLayout.{CommandLayout}
use Rattle.plan_compile.specs.Loaded.{AreLoaded}
use Rattle.plan_compile.specs.Means.{stamp_at, flag_at, given, source_file, output_path, text_at, command_of}
use Rattle.plan_compile.specs.Rule.{Given, Command, asked}
use Rattle.plan_reasons.specs.declared.facts.NamedInput.{NamedInput}
use Rattle.plan_reasons.specs.declared.facts.NamedInput.TheVariants as input
use Rattle.plan_reasons.specs.declared.facts.Facts.{Facts}
use Rattle.plan_reasons.specs.Facts.{named_input, facts_of}
use Rattle.plan_reasons.specs.Lent.{input_left, AreLeft, AreLent}

module _ (stamp : ℕ → ℕ) (flag : ℕ → Bool) (p : Parts) (slots : Slots) where
  named_left : (is : List Input) → AreLeft stamp flag slots is → map (input_left stamp flag) is ≡ map named_input (map (given p slots) is)
  named_left [] h = refl
  named_left (File f ∷ is) h = ap (λ (js : List NamedInput). input.SourceFile ∷ js) (named_left is h)
  named_left (Made s c ∷ is) h =
      ap (λ (n : ℕ). input.Made n (flag c) ∷ map (input_left stamp flag) is) h.0
      ∙ ap (λ (b : Bool). input.Made (stamp_at slots s) b ∷ map (input_left stamp flag) is) h.1
      ∙ ap (λ (js : List NamedInput). input.Made (stamp_at slots s) (flag_at slots c) ∷ js) (named_left is h.2)

  -- the slots that the code of the edge loads have those of its inputs
  pub left_by_lent : (e : ℕ) (is : List Input) → AreLent stamp flag p e slots → AreLoaded (code p e) is → AreLeft stamp flag slots is
  left_by_lent e [] lent are = tt
  left_by_lent e (File f ∷ is) lent are = left_by_lent e is lent are
  left_by_lent e (Made s c ∷ is) lent are = ((lent s are.0).0, (lent c are.1).1, left_by_lent e is lent are.2)

long_map : {A B : Type 0} (f : A → B) (xs : List A) → length (map f xs) ≡ length xs
long_map f [] = refl
long_map f (x ∷ xs) = ap suc (long_map f xs)

abbrev made : List NamedInput → ℕ → ℕ → List ℕ → Bool → Baseline → Facts
made named order_only outputs command generator baseline = record { named = named; order_only = order_only; outputs = outputs; command = command; generator = generator; baseline = baseline }

pub facts_are : (stamp : ℕ → ℕ) (flag : ℕ → Bool) (p : Parts) (slots : Slots) (order_only : List Given) (w : CommandLayout) (named : List NamedInput) (asks outputs : ℕ) (command text : List ℕ)
    → AreLeft stamp flag slots w.named → asked (map (given p slots) w.named) order_only ≡ map (source_file p) w.order_only → text_at p w.command ≡ text
    → named ≡ map (input_left stamp flag) w.named → asks ≡ length w.order_only → outputs ≡ length w.outputs → command ≡ text
    → made named asks outputs command w.generator w.baseline ≡ facts_of (command_of p slots w order_only)
facts_are stamp flag p slots order_only w named asks outputs command text left given_are text_is named_is asks_is outputs_is command_is =
    let names : named ≡ map named_input (map (given p slots) w.named) = named_is ∙ named_left stamp flag p slots w.named left in
    let many : asks ≡ length (asked (map (given p slots) w.named) order_only) =
    asks_is ∙ sym (long_map (source_file p) w.order_only) ∙ ap (λ (gs : List Given). length gs) (sym given_are) in
    let makes : outputs ≡ length (map (output_path p) w.outputs) = outputs_is ∙ sym (long_map (output_path p) w.outputs) in
    let runs : command ≡ text_at p w.command = command_is ∙ sym text_is in
    let c : Command = command_of p slots w order_only in
    ap (λ (x : List NamedInput). made x asks outputs command w.generator w.baseline) names
    ∙ ap (λ (x : ℕ). made (map named_input c.named) x outputs command w.generator w.baseline) many
    ∙ ap (λ (x : ℕ). made (map named_input c.named) (length (asked c.named c.order_only)) x command w.generator w.baseline) makes
    ∙ ap (λ (x : List ℕ). made (map named_input c.named) (length (asked c.named c.order_only)) (length c.outputs) x w.generator w.baseline) runs
