-- The meaning of an edge's numbers is the facts that the rule is applied to.
use Rattle.std.proofs.Common.{◌≡◌, ℕ, zero, Bool, true, false, List, [], ◌∷◌, map, Option, Some, None, refl, sym, ap, ◌∙◌, inl, inr}
use Rattle.std.specs.Prelude.{◌||◌, ◌&&◌, ◌==◌, slice_get, if◌then◌else◌, is_some}
use Rattle.std.proofs.lemmas.Bool.{eqb-true, eq-eqb}
use Rattle.plan_image.specs.declared.image.Parts.{Parts}
use Rattle.plan_verify.specs.Members.{is_member}
use Rattle.plan_verify.specs.Turn.{Slots, Meaning}
use Rattle.plan_compile.specs.declared.baseline.Baseline.{Baseline}
use Rattle.plan_compile.specs.declared.baseline.Baseline.TheVariants as baseline
use Rattle.plan_compile.specs.declared.layout.Output.{Output}
use Rattle.plan_compile.specs.declared.slot_pattern.SlotPattern.{SlotPattern}
use Rattle.plan_compile.specs.declared.slot_pattern.SlotPattern.TheVariants.{OneFlag, OwnFlags, Gathers, Alone}
use Rattle.plan_compile.specs.Rule.{Path, Given, SourceFile, Command, is_among, asked, alone, gathers, does, does_phony}
use Rattle.plan_compile.specs.Rule.{has_none as has_none_given}
use Rattle.plan_compile.specs.Means.{text_in, text_at, given, source_file, output_path, depfile_text, files_of, command_of, rule_of, AreGiven}
use Rattle.plan_compile.specs.Builds.{Build, Builds}
use Rattle.plan_compile.specs.Slots.{has_none, form_of, base, outputs_by, all_made, find, input_by, inputs_by, sources}
use Rattle.plan_compile.specs.Names.{Text, text_number, unless_empty, all_texts, depfile_number}
use Rattle.plan_compile.specs.Images.{command_layout, layout_by, image_of}
use Rattle.plan_compile.specs.Faithful.{IsEdge}
use Rattle.plan_compile.specs.Told.{path_in, told_by, told, facts, edge_does}
use Rattle.plan_compile.proofs.ListLemmas.{bool_cases}
use Rattle.plan_compile.proofs.OutputLemmas.{files_made}
use Rattle.plan_compile.proofs.LayoutLemmas.{command_found, depfile_found, one_flag_is, own_flags_is, gathers_is, alone_is}

module _ (t : Builds) (slots : Slots) where
  -- ---- inputs

  given_is : (f : ℕ) (o : Option Output) → given (image_of t) slots (input_by f o) ≡ told_by t slots f o
  given_is f (Some o) = refl
  given_is f None = refl

  pub inputs_told : (fs : List ℕ) → map (given (image_of t) slots) (inputs_by (all_made zero t.edges) fs) ≡ map (told t slots) fs
  inputs_told [] = refl
  inputs_told (f ∷ fs) =
      ap (λ (g : Given). g ∷ map (given (image_of t) slots) (inputs_by (all_made zero t.edges) fs)) (given_is f (find f (all_made zero t.edges)))
      ∙ ap (λ (gs : List Given). told t slots f ∷ gs) (inputs_told fs)

  -- ---- order-only inputs

  -- a file that no edge produces is among the named source files if and only if it is named
  among_by : (f g : ℕ) (o : Option Output) (rest : List Given) (more : Bool) → find f (all_made zero t.edges) ≡ None → find g (all_made zero t.edges) ≡ o → is_among f rest ≡ more
      → is_among f (told_by t slots g o ∷ rest) ≡ ((g == f) || more)
  among_by f g None rest more none is same = ap (λ (b : Bool). b || is_among f rest) (swap_eq f g) ∙ ap (λ (b : Bool). (g == f) || b) same
    where
      both : (a b : Bool) → (a ≡ true → b ≡ true) → (b ≡ true → a ≡ true) → a ≡ b
      both true b h k = sym (h refl)
      both false true h k = k refl
      both false false h k = refl

      swap_eq : (a b : ℕ) → (a == b) ≡ (b == a)
      swap_eq a b = both (a == b) (b == a) (λ h. eq-eqb b a (sym (eqb-true a b h))) (λ h. eq-eqb a b (sym (eqb-true b a h)))
  among_by f g (Some o) rest more none is same =
      elim (bool_cases (g == f)) as (λ c. is_among f rest ≡ ((g == f) || more)) [
        | inl eq ↦ absurd (let clash : None ≡ Some o = sym none ∙ (ap (λ (n : ℕ). find n (all_made zero t.edges)) (sym (eqb-true g f eq)) ∙ is) in cc)
        | inr ne ↦ same ∙ ap (λ (b : Bool). b || more) (sym ne)
      ]

  among_named : (f : ℕ) (fs : List ℕ) → find f (all_made zero t.edges) ≡ None → is_among f (map (told t slots) fs) ≡ is_member f fs
  among_named f [] none = refl
  among_named f (g ∷ fs) none = among_by f g (find g (all_made zero t.edges)) (map (told t slots) fs) (is_member f fs) none refl (among_named f fs none)

  asked_by : (f : ℕ) (named fs : List ℕ) (o : Option Output) → find f (all_made zero t.edges) ≡ o
      → asked (map (told t slots) named) (map (told t slots) fs) ≡ map (source_file (image_of t)) (sources (all_made zero t.edges) named fs)
      → asked (map (told t slots) named) (told_by t slots f o ∷ map (told t slots) fs)
      ≡ map (source_file (image_of t)) (if is_some o || is_member f named then sources (all_made zero t.edges) named fs else f ∷ sources (all_made zero t.edges) named fs)
  asked_by f named fs (Some o) is rest = rest
  asked_by f named fs None is rest =
      let among : is_among f (map (told t slots) named) ≡ is_member f named = among_named f named is in
      let others : List ℕ = sources (all_made zero t.edges) named fs in
      ap (λ (b : Bool). if b then asked (map (told t slots) named) (map (told t slots) fs) else SourceFile f (path_in t f) ∷ asked (map (told t slots) named) (map (told t slots) fs)) among
      ∙ (elim (is_member f named)
      as (λ b. (if b then asked (map (told t slots) named) (map (told t slots) fs) else SourceFile f (path_in t f) ∷ asked (map (told t slots) named) (map (told t slots) fs))
      ≡ map (source_file (image_of t)) (if b then others else f ∷ others))
      [ true ↦ rest | false ↦ ap (λ (gs : List Given). SourceFile f (path_in t f) ∷ gs) rest ])

  pub asked_are : (named fs : List ℕ) → asked (map (told t slots) named) (map (told t slots) fs) ≡ map (source_file (image_of t)) (sources (all_made zero t.edges) named fs)
  asked_are named [] = refl
  asked_are named (f ∷ fs) = asked_by f named fs (find f (all_made zero t.edges)) refl (asked_are named fs)

  none_told : (fs : List ℕ) → has_none_given (map (told t slots) fs) ≡ has_none fs
  none_told [] = refl
  none_told (f ∷ fs) = refl

  -- ---- outputs and texts

  map_files : (os : List Output) → map (output_path (image_of t)) os ≡ map (path_in t) (files_of os)
  map_files [] = refl
  map_files (o ∷ os) = ap (λ (ps : List Path). path_in t o.file ∷ ps) (map_files os)

  pub outputs_told : (form : SlotPattern) (b : ℕ) (fs : List ℕ) → map (output_path (image_of t)) (outputs_by form b fs) ≡ map (path_in t) fs
  outputs_told form b fs = map_files (outputs_by form b fs) ∙ ap (λ (gs : List ℕ). map (path_in t) gs) (files_made form b fs)

  depfile_told : (p : Parts) (d : Text) → ((k : ℕ) (c : Text) → slice_get (unless_empty d) k ≡ Some c → slice_get p.texts (text_number p.texts c) ≡ Some c)
      → depfile_text p (depfile_number p.texts d) ≡ d
  depfile_told p [] h = refl
  depfile_told p (c ∷ cs) h = ap text_in (h zero (c ∷ cs) refl)

  -- ---- each edge

  module _ (e : ℕ) (x : Build) (at : IsEdge t e x) where
    abbrev order_only : List Given
    order_only = map (told t slots) x.order_only

    -- a phony with the given inputs
    abbrev phony_like : Baseline → List Given → List Path → Command
    phony_like own_baseline named outputs = record { named = named; order_only = order_only; outputs = outputs; command = []; depfile = []; restat = false; generator = false; baseline = own_baseline }

    pub command_told : (form : SlotPattern) → x.edge.phony ≡ false
        → command_of (image_of t) slots (command_layout (all_texts t.edges) (all_made zero t.edges) form (base t.edges e) x) order_only ≡ facts t slots x
    command_told form command =
        let named = inputs_told x.named in
        let outputs = outputs_told form (base t.edges e) x.outputs in
        let text : text_at (image_of t) (text_number (all_texts t.edges) x.edge.command) ≡ x.edge.command = ap text_in (command_found t e x at command) in
        let depfile = depfile_told (image_of t) x.edge.depfile (depfile_found t e x at command) in
        cc

    phony_told : (form : SlotPattern) → map (output_path (image_of t)) (outputs_by form (base t.edges e) x.outputs) ≡ map (path_in t) x.outputs
    phony_told form = outputs_told form (base t.edges e) x.outputs

    none_given : (has_none x.named && has_none x.order_only) ≡ false → (has_none_given (map (told t slots) x.named) && has_none_given order_only) ≡ false
    none_given h = ap (λ (b : Bool). b && has_none_given order_only) (none_told x.named) ∙ ap (λ (b : Bool). has_none x.named && b) (none_told x.order_only) ∙ h

    pub given_by : (form : SlotPattern) → form_of x ≡ form → AreGiven (image_of t) slots order_only (layout_by form (all_texts t.edges) (all_made zero t.edges) (base t.edges e) x)
    given_by OneFlag is = ap (λ (gs : List Given). asked gs order_only) (inputs_told x.named) ∙ asked_are x.named x.order_only
    given_by OwnFlags is = ap (λ (gs : List Given). asked gs order_only) (inputs_told x.named) ∙ asked_are x.named x.order_only
    given_by Gathers is =
        let phony = gathers_is x.edge.phony x.edge.restat (has_none x.named && has_none x.order_only) is in (
          ap (λ (gs : List Given). asked gs order_only) (inputs_told x.named) ∙ asked_are x.named x.order_only,
          ap (λ (gs : List Given). has_none_given gs && has_none_given order_only) (inputs_told x.named) ∙ none_given phony.1,
        )
    given_by Alone is =
        let phony = alone_is x.edge.phony x.edge.restat (has_none x.named && has_none x.order_only) is in
        ap (λ (fs : List ℕ). map (told t slots) fs) (no_second x.named x.order_only phony.1)
      where
        no_second : (fs gs : List ℕ) → (has_none fs && has_none gs) ≡ true → gs ≡ []
        no_second [] [] h = refl
        no_second [] (g ∷ gs) h = absurd cc
        no_second (f ∷ fs) gs h = absurd cc

    pub rule_told : (meaning : Meaning) (form : SlotPattern) → form_of x ≡ form
        → rule_of meaning (image_of t) slots order_only (layout_by form (all_texts t.edges) (all_made zero t.edges) (base t.edges e) x) ≡ edge_does x.edge.phony meaning (facts t slots x)
    rule_told meaning OneFlag is =
        let forms = one_flag_is x.edge.phony x.edge.restat (has_none x.named && has_none x.order_only) is in
        ap (does meaning) (command_told OneFlag forms.0) ∙ ap (λ (b : Bool). edge_does b meaning (facts t slots x)) (sym forms.0)
    rule_told meaning OwnFlags is =
        let forms = own_flags_is x.edge.phony x.edge.restat (has_none x.named && has_none x.order_only) is in
        ap (does meaning) (command_told OwnFlags forms.0) ∙ ap (λ (b : Bool). edge_does b meaning (facts t slots x)) (sym forms.0)
    rule_told meaning Gathers is =
        let forms = gathers_is x.edge.phony x.edge.restat (has_none x.named && has_none x.order_only) is in
        ap (λ (gs : List Given). does_phony (phony_like x.baseline gs (map (output_path (image_of t)) (outputs_by Gathers (base t.edges e) x.outputs)))) (inputs_told x.named)
        ∙ ap (λ (ps : List Path). does_phony (phony_like x.baseline (map (told t slots) x.named) ps)) (phony_told Gathers)
        ∙ ap (λ (b : Bool). edge_does b meaning (facts t slots x)) (sym forms.0)
    rule_told meaning Alone is =
        let forms = alone_is x.edge.phony x.edge.restat (has_none x.named && has_none x.order_only) is in
        let outputs : List Path = map (path_in t) x.outputs in
        let lone : has_none_given order_only ≡ true = none_told x.order_only ∙ none_second x.named x.order_only forms.1 in
        ap (λ (ps : List Path). does_phony (phony_like baseline.Outputs [] ps)) (phony_told Alone)
        ∙ ap (λ (b : Bool). if b then alone outputs else gathers (phony_like baseline.Outputs [] outputs)) lone
        ∙ sym (ap (λ (b : Bool). if b then alone outputs else gathers (phony_like x.baseline [] outputs)) lone)
        ∙ ap (λ (fs : List ℕ). does_phony (phony_like x.baseline (map (told t slots) fs) outputs)) (sym (no_first x.named x.order_only forms.1))
        ∙ ap (λ (b : Bool). edge_does b meaning (facts t slots x)) (sym forms.0)
      where
        no_first : (fs gs : List ℕ) → (has_none fs && has_none gs) ≡ true → fs ≡ []
        no_first [] gs h = refl
        no_first (f ∷ fs) gs h = absurd cc

        none_second : (fs gs : List ℕ) → (has_none fs && has_none gs) ≡ true → has_none gs ≡ true
        none_second [] gs h = h
        none_second (f ∷ fs) gs h = absurd cc
