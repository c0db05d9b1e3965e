-- The reason of a command, by what its edge has observed. Serves src/explaining.rt.
use Rattle.std.proofs.Common.{◌≡◌, ◌⊎◌, inl, inr, ℕ, zero, suc, ◌==◌, if◌then◌else◌, Bool, true, false, List, [], ◌∷◌, ◌++◌, Option, Some, None, Result, Ok, Err, IfOk, refl, sym, ap, subst, ◌∙◌}
use Rattle.std.specs.Prelude.{◌||◌, option_map, slice_get}
use Rattle.std.proofs.lemmas.Bool.{eqb-true}
use Rattle.plan_scope.specs.Edge.{Edge as ManifestEdge}
use Rattle.plan_graph.specs.declared.graph_data.Graph.{Graph}
use Rattle.plan_image.specs.declared.body.Instr.{Instr}
use Rattle.plan_image.specs.declared.body.Instr.TheVariants as op
use Rattle.plan_verify.specs.Turn.{Slots}
use Rattle.plan_verify.specs.declared.value.Value.{Value}
use Rattle.plan_verify.specs.declared.value.Value.TheVariants as value
use Rattle.plan_compile.specs.declared.baseline.OutOfDateRule.{OutOfDateRule}
use Rattle.plan_compile.specs.declared.layout.CommandLayout.{CommandLayout}
use Rattle.plan_compile.specs.declared.layout.EdgeLayout.{EdgeLayout}
use Rattle.plan_compile.specs.declared.layout.EdgeLayout.TheVariants as layout
use Rattle.plan_compile.specs.Builds.{Build, build_at, builds_from}
use Rattle.plan_compile.specs.Loaded.{is_load, loads}
use Rattle.plan_compile.specs.Means as means
use Rattle.plan_machine.specs.Loads.{load_of, loads_in}
use Rattle.plan_machine.specs.Working.{filling}
use Rattle.plan_machine.specs.declared.run.loads.LoadedSlot.{LoadedSlot}
use Rattle.plan_reasons.specs.declared.reason.Reason.{Reason}
use Rattle.plan_reasons.specs.Observing.{Observations}
use Rattle.plan_commands.specs.Explaining.{value_in, stamp_in, flag_in, Says}

-- ---- results

pub into : {A E : Type 0} {P : A → Type 0} (r : Result A E) → ((a : A) → r ≡ Ok a → P a) → IfOk r P
into (Ok a) each = each a refl
into (Err e) each = tt

pub out_of : {A E : Type 0} (P : A → Type 0) (r : Result A E) (a : A) → r ≡ Ok a → IfOk r P → P a
out_of P r a is h = subst (λ v. IfOk v P) is h

pub some_same : {A : Type 0} (x y : A) → Some x ≡ Some y → x ≡ y
some_same x y h = cc

pub says_so : (x : Build) (outputs : List (List ℕ)) (o p : Observations) (r s : Option Reason) (text : Option (List ℕ)) → o ≡ p → r ≡ s → Says x outputs o r text → Says x outputs p s text
says_so x outputs o p r s text seen reasons says =
    subst (λ (v : Observations). Says x outputs v s text) seen (subst (λ (v : Option Reason). Says x outputs o v text) reasons says)

-- ---- edges of a manifest

-- each edge of the image is that of the manifest
pub edge_is : (rule : OutOfDateRule) (g : Graph) (n : ℕ) (es : List ManifestEdge) (k : ℕ) (x : Build) → slice_get (builds_from rule g n es) k ≡ Some x → slice_get es k ≡ Some x.edge
edge_is rule g n [] k x h = absurd cc
edge_is rule g n (e ∷ es) zero x h = ap (λ (o : Option Build). option_map (λ (b : Build). b.edge) o) h
edge_is rule g n (e ∷ es) (suc k) x h = edge_is rule g (suc n) es k x h

pub layout_same : (w v : CommandLayout) → Some (layout.Command w) ≡ Some (layout.Command v) → w ≡ v
layout_same w v h = cc

-- ---- the slots that a code loads

module _ (slots : Slots) where
  -- an instruction loads no slot, or one
  kind_of : (i : Instr) → ((load_of slots i ≡ []) × ((k : ℕ) → is_load k i ≡ false)) ⊎ ((j : ℕ) × (load_of slots i ≡ record { number = j; value = filling (slice_get slots j) } ∷ []) × ((k : ℕ) → is_load k i ≡ (j == k)))
  kind_of op.End = inl (refl, λ k. refl)
  kind_of op.Older = inl (refl, λ k. refl)
  kind_of op.Newer = inl (refl, λ k. refl)
  kind_of op.Before = inl (refl, λ k. refl)
  kind_of op.Same = inl (refl, λ k. refl)
  kind_of op.IsMissing = inl (refl, λ k. refl)
  kind_of op.Or = inl (refl, λ k. refl)
  kind_of op.Not = inl (refl, λ k. refl)
  kind_of op.Zero = inl (refl, λ k. refl)
  kind_of op.NoPaths = inl (refl, λ k. refl)
  kind_of op.Join = inl (refl, λ k. refl)
  kind_of op.Equal = inl (refl, λ k. refl)
  kind_of op.Recall = inl (refl, λ k. refl)
  kind_of op.Sweep = inl (refl, λ k. refl)
  kind_of op.Take = inl (refl, λ k. refl)
  kind_of op.Release = inl (refl, λ k. refl)
  kind_of op.Run = inl (refl, λ k. refl)
  kind_of op.Deps = inl (refl, λ k. refl)
  kind_of op.Keep = inl (refl, λ k. refl)
  kind_of op.Drop = inl (refl, λ k. refl)
  kind_of op.Swap = inl (refl, λ k. refl)
  kind_of (op.Stat n) = inl (refl, λ k. refl)
  kind_of (op.Need n) = inl (refl, λ k. refl)
  kind_of (op.Store n) = inl (refl, λ k. refl)
  kind_of (op.Flag n) = inl (refl, λ k. refl)
  kind_of (op.Text n) = inl (refl, λ k. refl)
  kind_of (op.Jump n) = inl (refl, λ k. refl)
  kind_of (op.JumpIf n) = inl (refl, λ k. refl)
  kind_of (op.Load j) = inr (j, refl, λ k. refl)

  value_at : (k j : ℕ) (b : Bool) → (j == k) ≡ b → (others : List LoadedSlot) → (b ≡ false → value_in others k ≡ filling (slice_get slots k))
      → (if b then filling (slice_get slots j) else value_in others k) ≡ filling (slice_get slots k)
  value_at k j true same others more = ap (λ (n : ℕ). filling (slice_get slots n)) (eqb-true j k same)
  value_at k j false same others more = more refl

  -- a slot that is loaded has its value among the loaded ones
  value_loaded : (is : List Instr) (k : ℕ) → loads k is ≡ true → value_in (loads_in slots is) k ≡ filling (slice_get slots k)
  value_loaded [] k h = absurd cc
  value_loaded (i ∷ is) k h = elim (kind_of i) [
    | inl none ↦
        ap (λ (l : List LoadedSlot). value_in (l ++ loads_in slots is) k) none.0
        ∙ value_loaded is k (sym (ap (λ (b : Bool). b || loads k is) (none.1 k)) ∙ h)
    | inr one ↦
        ap (λ (l : List LoadedSlot). value_in (l ++ loads_in slots is) k) one.1
        ∙ value_at k one.0 (one.0 == k) refl (loads_in slots is)
        (λ other. value_loaded is k (sym (ap (λ (b : Bool). b || loads k is) (one.2 k ∙ other)) ∙ h))
  ]

stamp_same : (o : Option (Option Value)) → stamp_in (filling o) ≡ means.stamp_in o
stamp_same None = refl
stamp_same (Some None) = refl
stamp_same (Some (Some (value.Stamp n))) = refl
stamp_same (Some (Some (value.Flag b))) = refl
stamp_same (Some (Some (value.Text t))) = refl
stamp_same (Some (Some (value.Paths n ps))) = refl
stamp_same (Some (Some (value.Swept ps))) = refl

flag_same : (o : Option (Option Value)) → flag_in (filling o) ≡ means.flag_in o
flag_same None = refl
flag_same (Some None) = refl
flag_same (Some (Some (value.Stamp n))) = refl
flag_same (Some (Some (value.Flag b))) = refl
flag_same (Some (Some (value.Text t))) = refl
flag_same (Some (Some (value.Paths n ps))) = refl
flag_same (Some (Some (value.Swept ps))) = refl

pub lent_loaded : (slots : Slots) (is : List Instr) (held : List LoadedSlot) → held ≡ loads_in slots is → (k : ℕ) → loads k is ≡ true
    → (stamp_in (value_in held k) ≡ means.stamp_at slots k) × (flag_in (value_in held k) ≡ means.flag_at slots k)
lent_loaded slots is held all k h =
    let found : value_in held k ≡ filling (slice_get slots k) = ap (λ (l : List LoadedSlot). value_in l k) all ∙ value_loaded slots is k h in (
      ap stamp_in found ∙ stamp_same (slice_get slots k),
      ap flag_in found ∙ flag_same (slice_get slots k),
    )
