-- Outputs with a flag each: those of a restat edge after its command, and those of a phony.
use Rattle.std.proofs.Common.{◌≡◌, ℕ, Bool, true, false, List, [], ◌∷◌, ◌++◌, length, map, Some, refl, sym, ap, subst, ◌∙◌, inl, inr}
use Rattle.std.specs.Prelude.{◌||◌, not, slice_get, slice_set, ◌==◌}
use Rattle.std.specs.List.{list_all}
use Rattle.plan_image.specs.declared.body.Instr.{Instr}
use Rattle.plan_image.specs.declared.body.Instr.TheVariants as op
use Rattle.plan_image.specs.declared.image.Parts.{Parts}
use Rattle.plan_image.specs.Code.{code}
use Rattle.plan_verify.specs.declared.value.Value.TheVariants.{Stamp, Flag}
use Rattle.plan_verify.specs.Members.{is_member}
use Rattle.plan_verify.specs.Tables.{owned_by, own_slots}
use Rattle.plan_verify.specs.Turn.{Slots, Meaning}
use Rattle.plan_verify.specs.Alone.{at_begin}
use Rattle.plan_compile.specs.declared.layout.Output.{Output}
use Rattle.plan_compile.specs.InteractionTree.{Left, InteractionTree, Over, Obeys}
use Rattle.plan_compile.specs.Rule.{inputs, stamps, greatest_from, greatest, some_changed, changed, own_files, alone}
use Rattle.plan_compile.specs.declared.layout.GatherLayout.{GatherLayout}
use Rattle.plan_compile.specs.Emit.{restat_code, alone_code, gather_code}
use Rattle.plan_compile.specs.Means.{given, source_file, output_path, Leaves, IsNoStamp, IsNoFlag, AreApart, HaveOwnFlags, Share, slots_of}
use Rattle.plan_compile.proofs.LaidOut.{IsOwn, AreReadable, AreFlags, AreFiles, HavePaths, AreWritable, AreOfTwoKinds, some_flag, or_cases}
use Rattle.plan_compile.proofs.Machine.{From, plain, load, stat, store, finish}
use Rattle.plan_compile.proofs.Folds.{Hold, own_slot, order_all, newest_all, own_files_all, any_all}
use Rattle.plan_compile.proofs.Judging.{greatest_app}
use Rattle.plan_compile.proofs.SlotFacts.{get_same, get_other, set_length, own_within, hold_set, left_set, all_set, filled}

-- each output's stamp and flag, stored one after another
abbrev pub placed : Slots → List Output → Left → Slots
placed slots (o ∷ os) (x ∷ xs) = placed (slice_set (slice_set slots o.stamp (Some (Stamp x.0))) o.changed (Some (Flag x.1))) os xs
placed slots _ _ = slots

abbrev pub AreAsMany : List Output → Left → Type 0
AreAsMany [] [] = Unit {0}
AreAsMany (o ∷ os) (x ∷ xs) = AreAsMany os xs
AreAsMany _ _ = ⊥

pub placed_other : (slots : Slots) (os : List Output) (left : Left) (s : ℕ) → IsNoStamp s os → IsNoFlag s os → slice_get (placed slots os left) s ≡ slice_get slots s
placed_other slots [] left s a b = refl
placed_other slots (o ∷ os) [] s a b = refl
placed_other slots (o ∷ os) (x ∷ xs) s a b =
    placed_other (slice_set (slice_set slots o.stamp (Some (Stamp x.0))) o.changed (Some (Flag x.1))) os xs s a.1 b.1
    ∙ (get_other (slice_set slots o.stamp (Some (Stamp x.0))) o.changed s (Some (Flag x.1)) b.0 ∙ get_other slots o.stamp s (Some (Stamp x.0)) a.0)

module _ (p : Parts) (e : ℕ) where
  pub placed_leaves : (slots : Slots) (os : List Output) (left : Left) → length slots ≡ length p.slots → AreWritable p e os → AreApart os → AreOfTwoKinds os → HaveOwnFlags os → AreAsMany os left
      → Leaves os (placed slots os left) left
  placed_leaves slots [] [] table writable apart kinds flags many = tt
  placed_leaves slots [] (x ∷ xs) table writable apart kinds flags many = absurd many
  placed_leaves slots (o ∷ os) [] table writable apart kinds flags many = absurd many
  placed_leaves slots (o ∷ os) (x ∷ xs) table writable apart kinds flags many =
      let one : Slots = slice_set slots o.stamp (Some (Stamp x.0)) in
      let two : Slots = slice_set one o.changed (Some (Flag x.1)) in
      let long1 : length one ≡ length p.slots = set_length slots o.stamp (Some (Stamp x.0)) ∙ table in
      let long2 : length two ≡ length p.slots = set_length one o.changed (Some (Flag x.1)) ∙ long1 in (
        placed_other two os xs o.stamp apart.0 kinds.1 ∙ (get_other one o.changed o.stamp (Some (Flag x.1)) (λ same. kinds.0 (sym same)) ∙ get_same slots o.stamp (Some (Stamp x.0)) (own_within p e slots o.stamp table writable.0.1)),
        placed_other two os xs o.changed kinds.2 flags.0 ∙ get_same one o.changed (Some (Flag x.1)) (own_within p e one o.changed long1 writable.0.2),
        placed_leaves two os xs long2 writable.1 apart.1 kinds.3 flags.1 many,
      )

module _ (meaning : Meaning) (p : Parts) (e : ℕ) (L : Slots → Left → Type 0) where
  -- a restat edge's outputs after its command
  pub restat_all : {rest : List Instr} {ran : Bool} (os : List Output) (slots : Slots) (old : List ℕ) (k : List ℕ → InteractionTree) → length slots ≡ length p.slots → AreWritable p e os → AreApart os → AreOfTwoKinds os → Hold slots os old
      → ((new : List ℕ) → AreAsMany os (changed true old new) → From meaning p e L rest [] (placed slots os (changed true old new)) false ran (k new))
      → From meaning p e L (restat_code os ++ rest) [] slots false ran (stamps (map (output_path p) os) k)
  restat_all [] slots [] k table writable apart kinds hold h = h [] tt
  restat_all [] slots (t ∷ old) k table writable apart kinds hold h = absurd hold
  restat_all (o ∷ os) slots [] k table writable apart kinds hold h = absurd hold
  restat_all (o ∷ os) slots (t ∷ old) k table writable apart kinds hold h =
      let own = own_slot e (slice_get p.slots o.stamp) writable.0.1 in
      let flag = own_slot e (slice_get p.slots o.changed) writable.0.2 in
      load meaning p e L o.stamp (Stamp t) hold.0 refl
      (stat meaning p e L o.file (output_path p o) writable.0.0 (λ n. refl) λ n.
      let one : Slots = slice_set slots o.stamp (Some (Stamp n)) in
      let two : Slots = slice_set one o.changed (Some (Flag (not (t == n)))) in
      store meaning p e L o.stamp (Stamp n) own.0 own.1 own.2
      (load meaning p e L o.stamp (Stamp n) (get_same slots o.stamp (Some (Stamp n)) (own_within p e slots o.stamp table writable.0.1)) refl
      (plain meaning p e L op.Same (Stamp n ∷ Stamp t ∷ []) (Flag (t == n) ∷ []) (λ l. refl) refl refl
      (plain meaning p e L op.Not (Flag (t == n) ∷ []) (Flag (not (t == n)) ∷ []) (λ l. refl) refl refl
      (store meaning p e L o.changed (Flag (not (t == n))) flag.0 flag.1 flag.2
      (restat_all os two old (λ ts. k (n ∷ ts)) (set_length one o.changed (Some (Flag (not (t == n)))) ∙ (set_length slots o.stamp (Some (Stamp n)) ∙ table)) writable.1 apart.1 kinds.3
      (hold_set p e one os old o.changed (Some (Flag (not (t == n)))) kinds.2 (hold_set p e slots os old o.stamp (Some (Stamp n)) apart.0 hold.1)) (λ new m. h (n ∷ new) m)))))))

-- ---- phonies

abbrev pub as_files : List ℕ → Left
as_files ts = map (λ t. (t, t == 0)) ts

module _ (meaning : Meaning) (p : Parts) (e : ℕ) (all : List Output) (own : list_all (λ s. is_member s (slots_of all)) (own_slots p e) ≡ true) where
  -- the end, with all slots set
  pub done : (slots : Slots) (left : Left) → Leaves all slots left → From meaning p e (Leaves all) (op.End ∷ []) [] slots false false (Over false left)
  done slots left leaves = finish meaning p e (Leaves all) (all_set slots (λ s. is_member s (slots_of all)) (own_slots p e) (λ s h. left_set all slots left s leaves h) own) leaves

  pub alone_all : (os : List Output) (slots : Slots) (k : List ℕ → Left) → length slots ≡ length p.slots → AreWritable p e os
      → ((ts : List ℕ) → AreAsMany os (as_files ts) → Leaves all (placed slots os (as_files ts)) (k ts))
      → From meaning p e (Leaves all) (alone_code os) [] slots false false (stamps (map (output_path p) os) (λ ts. Over false (k ts)))
  alone_all [] slots k table writable h = done slots (k []) (h [] tt)
  alone_all (o ∷ os) slots k table writable h =
      let mine = own_slot e (slice_get p.slots o.stamp) writable.0.1 in
      let flag = own_slot e (slice_get p.slots o.changed) writable.0.2 in
      stat meaning p e (Leaves all) o.file (output_path p o) writable.0.0 (λ n. refl) λ n.
      let one : Slots = slice_set slots o.stamp (Some (Stamp n)) in
      store meaning p e (Leaves all) o.stamp (Stamp n) mine.0 mine.1 mine.2
      (load meaning p e (Leaves all) o.stamp (Stamp n) (get_same slots o.stamp (Some (Stamp n)) (own_within p e slots o.stamp table writable.0.1)) refl
      (plain meaning p e (Leaves all) op.IsMissing (Stamp n ∷ []) (Flag (n == 0) ∷ []) (λ l. refl) refl refl
      (store meaning p e (Leaves all) o.changed (Flag (n == 0)) flag.0 flag.1 flag.2
      (alone_all os (slice_set one o.changed (Some (Flag (n == 0)))) (λ ts. k (n ∷ ts)) (set_length one o.changed (Some (Flag (n == 0))) ∙ (set_length slots o.stamp (Some (Stamp n)) ∙ table)) writable.1 (λ ts m. h (n ∷ ts) m)))))

  -- a phony without any input
  pub alone_means : (slots : Slots) → code p e ≡ alone_code all → length slots ≡ length p.slots → AreWritable p e all → AreApart all → AreOfTwoKinds all → HaveOwnFlags all
      → Obeys meaning p e (Leaves all) (at_begin slots) (alone (map (output_path p) all))
  alone_means slots is table writable apart kinds flags =
      (alone_all all slots as_files table writable (λ ts m. placed_leaves p e slots all (as_files ts) table writable apart kinds flags m)).go 0 is

module _ (meaning : Meaning) (p : Parts) (e : ℕ) (g : GatherLayout) where
  pub shared_left : (os : List Output) (slots : Slots) (stamp flag n : ℕ) (b : Bool) → Share stamp flag os → slice_get slots stamp ≡ Some (Some (Stamp n)) → slice_get slots flag ≡ Some (Some (Flag b))
      → Leaves os slots (map (λ path. (n, b)) (map (output_path p) os))
  shared_left [] slots stamp flag n b share s f = tt
  shared_left (o ∷ os) slots stamp flag n b share s f =
      (ap (λ (i : ℕ). slice_get slots i) share.0 ∙ s, ap (λ (i : ℕ). slice_get slots i) share.1 ∙ f, shared_left os slots stamp flag n b share.2 s f)

  -- the end, if these are the stamps of the named inputs and of the outputs' files
  abbrev pub gathered : Slots → (named own : List ℕ) → InteractionTree
  gathered start named own = Over false (map (λ path. (greatest (named ++ own), some_changed (map (given p start) g.named))) (map (output_path p) g.outputs))

  -- a phony with inputs
  pub gather_means : (start : Slots) → code p e ≡ gather_code g → length start ≡ length p.slots → list_all (λ s. is_member s (g.stamp ∷ g.changed ∷ [])) (own_slots p e) ≡ true
      → AreReadable p e start g.named → AreFlags p e start g.flags → some_flag start g.flags ≡ some_changed (map (given p start) g.named) → AreFiles p g.order_only
      → HavePaths p g.outputs → Share g.stamp g.changed g.outputs → IsOwn p e g.stamp → IsOwn p e g.changed → (g.stamp ≡ g.changed → ⊥)
      → Obeys meaning p e (Leaves g.outputs) (at_begin start)
      (inputs (map (source_file p) g.order_only) (λ ignored. inputs (map (given p start) g.named) (λ ts. own_files g.baseline (map (output_path p) g.outputs) (gathered start ts))))
  gather_means start is table own readable flags flags_are files paths share own_st own_ch apart =
      (order_all meaning p e (Leaves g.outputs) g.order_only _ files λ ignored.
      newest_all meaning p e (Leaves g.outputs) g.named _ readable λ ts positive.
      own_files_all meaning p e (Leaves g.outputs) g.baseline g.outputs (greatest ts) (gathered start ts) paths λ us.
      let newest : ℕ = greatest_from (greatest ts) us in
      let a = own_slot e (slice_get p.slots g.stamp) own_st in
      let b = own_slot e (slice_get p.slots g.changed) own_ch in
      let flag : Bool = some_flag start g.flags in
      let changed_one : Bool = some_changed (map (given p start) g.named) in
      let one : Slots = slice_set start g.stamp (Some (Stamp newest)) in
      let two : Slots = slice_set one g.changed (Some (Flag flag)) in
      let long : length one ≡ length p.slots = set_length start g.stamp (Some (Stamp newest)) ∙ table in
      let stamp_lies : slice_get two g.stamp ≡ Some (Some (Stamp newest)) = get_other one g.changed g.stamp (Some (Flag flag)) apart ∙ get_same start g.stamp (Some (Stamp newest)) (own_within p e start g.stamp table own_st) in
      let stamp_is : slice_get two g.stamp ≡ Some (Some (Stamp (greatest (ts ++ us)))) = stamp_lies ∙ ap (λ (n : ℕ). Some (Some (Stamp n))) (sym (greatest_app 0 ts us)) in
      let flag_lies : slice_get two g.changed ≡ Some (Some (Flag flag)) = get_same one g.changed (Some (Flag flag)) (own_within p e one g.changed long own_ch) in
      let flag_is : slice_get two g.changed ≡ Some (Some (Flag changed_one)) = flag_lies ∙ ap (λ (x : Bool). Some (Some (Flag x))) flags_are in
      store meaning p e (Leaves g.outputs) g.stamp (Stamp newest) a.0 a.1 a.2
      (any_all meaning p e (Leaves g.outputs) g.flags start [] refl flags
      (λ s foreign. get_other start g.stamp s (Some (Stamp newest)) (λ same. let mine : owned_by e (slice_get p.slots s) ≡ true = subst (λ (i : ℕ). IsOwn p e i) (sym same) own_st in absurd (cc)))
      (store meaning p e (Leaves g.outputs) g.changed (Flag flag) b.0 b.1 b.2
      (finish meaning p e (Leaves g.outputs) (all_set two (λ s. is_member s (g.stamp ∷ g.changed ∷ [])) (own_slots p e) (λ s h. elim (or_cases (g.stamp == s) ((g.changed == s) || false) h) [
        | inl at ↦ filled two g.stamp s (Stamp newest) stamp_lies at
        | inr more ↦ elim (or_cases (g.changed == s) false more) [
          | inl at ↦ filled two g.changed s (Flag flag) flag_lies at
          | inr none ↦ absurd cc
        ]
      ]) own)
      (shared_left g.outputs two g.stamp g.changed (greatest (ts ++ us)) changed_one share stamp_is flag_is))))).go 0 is
