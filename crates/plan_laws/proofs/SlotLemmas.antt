-- The rule of an edge reads of the slots only what its waits left, and what the edge leaves is in slots of its own. So both
-- can be read in the slots of the run.
use Rattle.std.proofs.Common.{◌≡◌, ℕ, zero, suc, Bool, true, false, List, [], ◌∷◌, ◌++◌, map, Option, Some, None, refl, sym, ap, ◌∙◌, subst}
use Rattle.std.specs.Prelude.{◌&&◌, if◌then◌else◌, slice_get}
use Rattle.plan_image.specs.declared.image.Parts.{Parts}
use Rattle.plan_image.specs.declared.body.Kind.TheVariants as kind
use Rattle.plan_verify.specs.Tables.{owns, is_lent}
use Rattle.plan_verify.specs.Turn.{Slots, Meaning}
use Rattle.plan_compile.specs.declared.layout.Input.{Input}
use Rattle.plan_compile.specs.declared.layout.Output.{Output}
use Rattle.plan_compile.specs.declared.slot_pattern.SlotPattern.{SlotPattern}
use Rattle.plan_compile.specs.declared.slot_pattern.SlotPattern.TheVariants.{OneFlag, OwnFlags, Gathers, Alone}
use Rattle.plan_compile.specs.InteractionTree.{Left, InteractionTree, Over}
use Rattle.plan_compile.specs.Rule.{Path, Given, SourceFile, Made, Command, is_among, inputs, asked, alone, own_files, greatest, some_changed}
use Rattle.plan_compile.specs.Rule.{has_none as has_none_given}
use Rattle.plan_compile.specs.Means.{stamp_in, flag_in, Leaves, IsOwnOf, AreInputs, AreOutputs, Share, IsLaidOut}
use Rattle.plan_compile.specs.Builds.{Build, Builds}
use Rattle.plan_compile.specs.Slots.{has_none, form_by, form_of, outputs_by, all_made, find, input_by, inputs_by}
use Rattle.plan_compile.specs.Names.{Text}
use Rattle.plan_compile.specs.Images.{layout_by}
use Rattle.plan_compile.specs.Told.{path_in, told_by, told, facts, edge_does}
use Rattle.plan_laws.proofs.EndLemmas.{stamping}

-- ---- what an edge leaves

module _ (p : Parts) (e : ℕ) (a b : Slots) (own : (k : ℕ) → owns p e k ≡ true → slice_get a k ≡ slice_get b k) where
  leaves_own : (os : List Output) (left : Left) → AreOutputs p e os → Leaves os a left → Leaves os b left
  leaves_own [] [] are h = h
  leaves_own [] (x ∷ left) are h = absurd h
  leaves_own (o ∷ os) [] are h = absurd h
  leaves_own (o ∷ os) (x ∷ left) are h = (sym (own o.stamp are.0.1.0) ∙ h.0, sym (own o.changed are.0.2.0) ∙ h.1, leaves_own os left are.1 h.2)

  leaves_shared : (stamp changed : ℕ) (os : List Output) (left : Left) → IsOwnOf p e kind.Stamp stamp → IsOwnOf p e kind.Flag changed → Share stamp changed os → Leaves os a left → Leaves os b left
  leaves_shared stamp changed [] [] s c share h = h
  leaves_shared stamp changed [] (x ∷ left) s c share h = absurd h
  leaves_shared stamp changed (o ∷ os) [] s c share h = absurd h
  leaves_shared stamp changed (o ∷ os) (x ∷ left) s c share h = (
    sym (own o.stamp (subst (λ (k : ℕ). owns p e k ≡ true) (sym share.0) s.0)) ∙ h.0,
    sym (own o.changed (subst (λ (k : ℕ). owns p e k ≡ true) (sym share.1) c.0)) ∙ h.1,
    leaves_shared stamp changed os left s c share.2 h.2,
  )

  pub leaves_by : (form : SlotPattern) (texts : List Text) (all : List Output) (n : ℕ) (x : Build) (left : Left) → IsLaidOut p e (layout_by form texts all n x) → Leaves (outputs_by form n x.outputs) a left → Leaves (outputs_by form n x.outputs) b left
  leaves_by OneFlag texts all n x left w h = leaves_own (outputs_by OneFlag n x.outputs) left w.outputs h
  leaves_by OwnFlags texts all n x left w h = leaves_own (outputs_by OwnFlags n x.outputs) left w.outputs h
  leaves_by Gathers texts all n x left w h = leaves_shared n (suc n) (outputs_by Gathers n x.outputs) left w.stamp w.changed w.share h
  leaves_by Alone texts all n x left w h = leaves_own (outputs_by Alone n x.outputs) left w.outputs h

-- ---- the facts that the rule is applied to

module _ (t : Builds) (p : Parts) (e : ℕ) (a b : Slots) (lent : (k : ℕ) → is_lent p e k ≡ true → slice_get a k ≡ slice_get b k) where
  abbrev all : List Output
  all = all_made zero t.edges

  one_same : (f : ℕ) (o : Option Output) (more : List Input) → AreInputs p e (input_by f o ∷ more) → (told_by t a f o ≡ told_by t b f o) × AreInputs p e more
  one_same f None more h = (refl, h.1)
  one_same f (Some o) more h =
      let stamps = lent o.stamp h.0.0.1 in
      let flags = lent o.changed h.0.1.1 in
      (ap (λ (n : ℕ). Made n (flag_in (slice_get a o.changed))) (ap stamp_in stamps) ∙ ap (λ (c : Bool). Made (stamp_in (slice_get b o.stamp)) c) (ap flag_in flags), h.1)

  named_same : (fs : List ℕ) → AreInputs p e (inputs_by all fs) → map (told t a) fs ≡ map (told t b) fs
  named_same [] h = refl
  named_same (f ∷ fs) h =
      let one = one_same f (find f all) (inputs_by all fs) h in
      ap (λ (g : Given). g ∷ map (told t a) fs) one.0 ∙ ap (λ (gs : List Given). told t b f ∷ gs) (named_same fs one.1)

  no_named : (phony restat : Bool) (fs gs : List ℕ) → form_by phony restat (has_none fs && has_none gs) ≡ Alone → map (told t a) fs ≡ map (told t b) fs
  no_named phony restat [] gs is = refl
  no_named true restat (f ∷ fs) gs is = absurd cc
  no_named false true (f ∷ fs) gs is = absurd cc
  no_named false false (f ∷ fs) gs is = absurd cc

  named_by : (form : SlotPattern) (texts : List Text) (n : ℕ) (x : Build) → form_of x ≡ form → IsLaidOut p e (layout_by form texts all n x) → map (told t a) x.named ≡ map (told t b) x.named
  named_by OneFlag texts n x is w = named_same x.named w.named
  named_by OwnFlags texts n x is w = named_same x.named w.named
  named_by Gathers texts n x is w = named_same x.named w.named
  named_by Alone texts n x is w = no_named x.edge.phony x.edge.restat x.named x.order_only is

  -- of order-only inputs only the source files count
  asked_one : (named : List Given) (f : ℕ) (o : Option Output) (xs ys : List Given) → asked named xs ≡ asked named ys → asked named (told_by t a f o ∷ xs) ≡ asked named (told_by t b f o ∷ ys)
  asked_one named f (Some o) xs ys same = same
  asked_one named f None xs ys same = ap (λ (gs : List Given). if is_among f named then gs else SourceFile f (path_in t f) ∷ gs) same

  asked_same : (named : List Given) (fs : List ℕ) → asked named (map (told t a) fs) ≡ asked named (map (told t b) fs)
  asked_same named [] = refl
  asked_same named (f ∷ fs) = asked_one named f (find f all) (map (told t a) fs) (map (told t b) fs) (asked_same named fs)

  none_same : (fs : List ℕ) → has_none_given (map (told t a) fs) ≡ has_none_given (map (told t b) fs)
  none_same [] = refl
  none_same (f ∷ fs) = refl

  module _ (x : Build) (meaning : Meaning) where
    abbrev like : List Given → List Given → Command
    like named order_only = record {
      named = named;
      order_only = order_only;
      outputs = map (path_in t) x.outputs;
      command = x.edge.command;
      depfile = x.edge.depfile;
      restat = x.edge.restat;
      generator = x.edge.generator;
      baseline = x.baseline;
    }

    abbrev named : List Given
    named = map (told t b) x.named

    abbrev before : List Given
    before = map (told t a) x.order_only

    abbrev after : List Given
    after = map (told t b) x.order_only

    abbrev gathered : List ℕ → InteractionTree
    gathered ts = own_files x.baseline (map (path_in t) x.outputs) (λ own. Over false (map (λ (path : Path). (greatest (ts ++ own), some_changed named)) (map (path_in t) x.outputs)))

    by_phony : (phony : Bool) → edge_does phony meaning (like named before) ≡ edge_does phony meaning (like named after)
    by_phony false = ap (λ (gs : List Given). inputs gs (λ ts. inputs named (stamping meaning (like named after)))) (asked_same named x.order_only)
    by_phony true =
        ap (λ (none : Bool). if has_none_given named && none then alone (map (path_in t) x.outputs) else inputs (asked named before) (λ ts. inputs named gathered)) (none_same x.order_only)
        ∙ ap (λ (gs : List Given). if has_none_given named && has_none_given after then alone (map (path_in t) x.outputs) else inputs gs (λ ts. inputs named gathered)) (asked_same named x.order_only)

    pub rule_same : (form : SlotPattern) (texts : List Text) (n : ℕ) → form_of x ≡ form → IsLaidOut p e (layout_by form texts all n x) → edge_does x.edge.phony meaning (facts t a x) ≡ edge_does x.edge.phony meaning (facts t b x)
    rule_same form texts n is w =
        ap (λ (gs : List Given). edge_does x.edge.phony meaning (like gs before)) (named_by form texts n x is w) ∙ by_phony x.edge.phony
