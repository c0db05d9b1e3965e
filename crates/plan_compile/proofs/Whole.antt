-- A command edge from its recorded entry on.
use Rattle.std.proofs.Common.{◌≡◌, ℕ, suc, ◌+◌, ◌<◌, ◌≤◌, Bool, true, false, List, [], ◌∷◌, ◌++◌, length, drop, map, Option, Some, None, refl, sym, ap, subst, ◌∙◌, arith, inl, inr, append-nil}
use Rattle.std.specs.Prelude.{◌||◌, ◌&&◌, not, nat_lt, if◌then◌else◌, slice_get, ◌==◌}
use Rattle.std.specs.List.{list_all}
use Rattle.std.proofs.lemmas.Bool.{le-ltb, ltb-false}
use Rattle.plan_image.specs.declared.body.Instr.{Instr}
use Rattle.plan_image.specs.declared.body.Instr.TheVariants as op
use Rattle.plan_image.specs.declared.image.Parts.{Parts}
use Rattle.plan_image.specs.Code.{code}
use Rattle.plan_verify.specs.declared.value.Value.{Value}
use Rattle.plan_verify.specs.declared.value.Value.TheVariants.{Stamp, Flag, Text, Paths, Swept}
use Rattle.plan_verify.specs.Members.{is_member}
use Rattle.plan_verify.specs.Tables.{own_slots, owned_by}
use Rattle.plan_verify.specs.Turn.{Slots, is_set, Meaning, same_text, earlier}
use Rattle.plan_compile.specs.declared.baseline.Baseline.{Baseline}
use Rattle.plan_compile.specs.declared.baseline.Baseline.TheVariants.{Outputs, Basis, OutputsAndBasis}
use Rattle.plan_compile.specs.declared.layout.Output.{Output}
use Rattle.plan_compile.specs.declared.layout.CommandLayout.{CommandLayout}
use Rattle.plan_compile.specs.InteractionTree.{Left, InteractionTree, Over}
use Rattle.plan_compile.specs.Rule.{Path, Given, Command, Recorded, greatest_from, greatest, least, some_missing, some_changed, is_new, baseline, paths_in, is_dirty, name, unchanged, changed, depfile, stamps, runs}
use Rattle.plan_compile.specs.Emit.{compares_basis, has_source_file, holders, oldest_code, rerun_flag_code, deps_code, after_code, under_code, ready_code, skip_code, clean_code, clean_len, run_code, dirty_code, age_test_code, other_code, same_code}
use Rattle.plan_compile.specs.Means.{text_at, output_path, depfile_text, command_of, Leaves, slots_of, HaveFlagSlots}
use Rattle.plan_compile.proofs.LaidOut.{HasText, Wired, some_flag, or_cases}
use Rattle.plan_compile.proofs.Machine.{From, plain, load, text, run, deps, keep, sweep_all, take_place, release_place, jump, jump_if, finish, missing_from, entry_values}
use Rattle.plan_compile.proofs.Folds.{Hold, AreMatched, IsPositive, stored, flagged, stat_all, flag_all, oldest_all, rerun_flag_of, rerun_flag_all}
use Rattle.plan_compile.proofs.SlotFacts.{stored_length, stored_other, stored_hold, flagged_other, holders_leave, holders_writable, holders_no_flag, filled, left_set, all_set}
use Rattle.plan_compile.proofs.Judging.{greatest_app, changed_plain, depfile_asks, basis_in, missing_least, dirty_is, dirty_new, dirty_unlooked}
use Rattle.plan_compile.proofs.Placed.{placed, placed_other, placed_leaves, restat_all}

-- a stack with room for six more values
abbrev pub IsRoomy : List Value → Type 0
IsRoomy stack = nat_lt 64 (suc (suc (suc (suc (suc (suc (length stack))))))) ≡ false

pub less : {k n : ℕ} → k ≤ n → nat_lt 64 n ≡ false → nat_lt 64 k ≡ false
less {k = k} {n = n} le low = le-ltb 64 k (let h : n ≤ 64 = ltb-false 64 n low in omega (arith, h, le))

pub app_long : (xs ys : List Instr) → length ys ≤ length (xs ++ ys)
app_long [] ys = omega arith
app_long (x ∷ xs) ys = let h : length ys ≤ length (xs ++ ys) = app_long xs ys in omega (arith, h)

pub under_long : (looks : Bool) (w : CommandLayout) (rest : List Instr) → length rest ≤ length (under_code looks w rest)
under_long looks w rest =
    let h : suc (length rest) ≤ length (rerun_flag_code looks w.outputs w.flags ++ (op.Swap ∷ rest)) = app_long (rerun_flag_code looks w.outputs w.flags) (op.Swap ∷ rest) in
    omega (arith, h)

pub ready_long : (b : Baseline) (w : CommandLayout) (rest : List Instr) → length rest ≤ length (ready_code b w rest)
ready_long Outputs w rest = omega arith
ready_long Basis w rest = under_long true w rest
ready_long OutputsAndBasis w rest =
    let looks : Bool = not (has_source_file w.named) in
    let h : length (op.Older ∷ under_code looks w rest) ≤ length (oldest_code w.outputs ++ (op.Older ∷ under_code looks w rest)) = app_long (oldest_code w.outputs) (op.Older ∷ under_code looks w rest) in
    let l : length rest ≤ length (under_code looks w rest) = under_long looks w rest in
    omega (arith, h, l)

pub hold_some : (slots : Slots) (os : List Output) (ts : List ℕ) → Hold slots os ts → (os ≡ [] → ⊥) → ts ≡ [] → ⊥
hold_some slots [] ts hold some none = some refl
hold_some slots (o ∷ os) [] hold some none = hold
hold_some slots (o ∷ os) (t ∷ ts) hold some none = absurd cc

module _ (meaning : Meaning) (p : Parts) (e : ℕ) (w : CommandLayout) (start : Slots) (order_only : List Given) (laid_out : Wired p e w start) where
  abbrev pub L : Slots → Left → Type 0
  L = Leaves w.outputs

  abbrev pub c : Command
  c = command_of p start w order_only

  -- the slots after the questions before the command
  pub record Ready (slots : Slots) (named : List ℕ) : Type 0 where
    pub newest : slice_get slots w.newest ≡ Some (Some (Stamp (greatest named)))
    pub table : length slots ≡ length p.slots
    pub foreign : (s : ℕ) → owned_by e (slice_get p.slots s) ≡ false → slice_get slots s ≡ slice_get start s

  pub all_own : (slots : Slots) (n : ℕ) (left : Left) → slice_get slots w.newest ≡ Some (Some (Stamp n)) → Leaves w.outputs slots left → list_all (is_set slots) (own_slots p e) ≡ true
  all_own slots n left newest leaves =
      all_set slots (λ s. is_member s (w.newest ∷ slots_of w.outputs)) (own_slots p e) (λ s h. elim (or_cases (w.newest == s) (is_member s (slots_of w.outputs)) h) [
        | inl at ↦ filled slots w.newest s (Stamp n) newest at
        | inr rest ↦ left_set w.outputs slots left s leaves rest
      ]) laid_out.own

  pub matched_of : (slots : Slots) (os : List Output) (ts : List ℕ) → Hold slots os ts → AreMatched os ts
  matched_of slots [] [] h = tt
  matched_of slots [] (t ∷ ts) h = h
  matched_of slots (o ∷ os) [] h = h
  matched_of slots (o ∷ os) (t ∷ ts) h = matched_of slots os ts h.1

  -- ---- the command, and what follows it

  pub deps_all : {rest : List Instr} {slots : Slots} (d : Option ℕ) (named : List ℕ) (k : List Path → List ℕ → InteractionTree)
      → ((t : ℕ) → d ≡ Some t → HasText p t × (text_at p t ≡ [] → ⊥))
      → ((paths : List Path) (swept : List ℕ) → From meaning p e L rest (Swept paths ∷ Stamp (greatest (named ++ swept)) ∷ Text c.command ∷ []) slots false true (k paths swept))
      → From meaning p e L (deps_code d ++ rest) (Stamp (greatest named) ∷ Text c.command ∷ []) slots false true (depfile meaning (depfile_text p d) (λ paths. stamps paths (λ swept. k paths swept)))
  deps_all {rest = rest} {slots = slots} None named k has h =
      plain meaning p e L op.NoPaths (Stamp (greatest named) ∷ Text c.command ∷ []) (Swept [] ∷ Stamp (greatest named) ∷ Text c.command ∷ []) (λ l. refl) refl refl
      (subst (λ (ns : List ℕ). From meaning p e L rest (Swept [] ∷ Stamp (greatest ns) ∷ Text c.command ∷ []) slots false true (k [] [])) (append-nil named) (h [] []))
  deps_all {rest = rest} {slots = slots} (Some t) named k has h =
      let has_t = has t refl in
      subst (λ (interaction : InteractionTree). From meaning p e L (deps_code (Some t) ++ rest) (Stamp (greatest named) ∷ Text c.command ∷ []) slots false true interaction) (sym (depfile_asks meaning (text_at p t) (λ paths. stamps paths (λ swept. k paths swept)) has_t.1))
      (plain meaning p e L (op.Flag false) (Stamp (greatest named) ∷ Text c.command ∷ []) (Flag false ∷ Stamp (greatest named) ∷ Text c.command ∷ []) (λ l. refl) refl refl
      (text meaning p e L t (text_at p t) has_t.0 refl
      (deps meaning p e L (text_at p t) refl λ ps.
      sweep_all meaning p e L ps (λ swept. k ps swept) ps 0 false (greatest named) refl refl λ ts.
      plain meaning p e L op.Swap (Swept ps ∷ Flag (missing_from false ts) ∷ Stamp (greatest_from (greatest named) ts) ∷ Text c.command ∷ []) (Flag (missing_from false ts) ∷ Swept ps ∷ Stamp (greatest_from (greatest named) ts) ∷ Text c.command ∷ []) (λ l. refl) refl refl
      (plain meaning p e L op.Drop (Flag (missing_from false ts) ∷ Swept ps ∷ Stamp (greatest_from (greatest named) ts) ∷ Text c.command ∷ []) (Swept ps ∷ Stamp (greatest_from (greatest named) ts) ∷ Text c.command ∷ []) (λ l. refl) refl refl
      (subst (λ (n : ℕ). From meaning p e L rest (Swept ps ∷ Stamp n ∷ Text c.command ∷ []) slots false true (k ps ts)) (greatest_app 0 named ts) (h ps ts))))))

  -- the outputs after the command
  pub outs_all : (r : Bool) → w.restat ≡ r → (slots : Slots) (named old : List ℕ) → Ready slots named → Hold slots w.outputs old
      → From meaning p e L (after_code r w.outputs (op.End ∷ [])) [] slots false true (stamps (map (output_path p) w.outputs) (λ new. Over true (changed r old new)))
  outs_all false is slots named old ready hold =
      let have : HaveFlagSlots false w.outputs = subst (λ (r : Bool). HaveFlagSlots r w.outputs) is laid_out.changed in
      stat_all meaning p e L w.outputs slots _ laid_out.outputs λ new m.
      let left : Left = map (λ t. (t, true)) new in
      let after : Slots = stored slots w.outputs new in
      let last : Slots = flagged after true (holders false w.outputs) in
      let table : length after ≡ length p.slots = stored_length slots w.outputs new ∙ ready.table in
      let leaves : Leaves w.outputs last left = holders_leave p e false after true w.outputs new table laid_out.outputs laid_out.kinds have (stored_hold p e slots w.outputs new ready.table laid_out.outputs laid_out.apart m) in
      let newest : slice_get last w.newest ≡ Some (Some (Stamp (greatest named))) =
      flagged_other after true (holders false w.outputs) w.newest (holders_no_flag false w.newest w.outputs laid_out.newest_flag) ∙ (stored_other slots w.outputs new w.newest laid_out.newest_stamp ∙ ready.newest) in
      flag_all meaning p e L true (holders false w.outputs) after (holders_writable p e false w.outputs laid_out.outputs)
      (finish meaning p e L (all_own last (greatest named) left newest leaves)
      (subst (λ (xs : Left). Leaves w.outputs last xs) (sym (changed_plain false w.outputs old new refl (matched_of slots w.outputs old hold) m)) leaves))
  outs_all true is slots named old ready hold =
      let have : HaveFlagSlots true w.outputs = subst (λ (r : Bool). HaveFlagSlots r w.outputs) is laid_out.changed in
      restat_all meaning p e L w.outputs slots old _ ready.table laid_out.outputs laid_out.apart laid_out.kinds hold λ new m.
      let after : Slots = placed slots w.outputs (changed true old new) in
      let leaves : Leaves w.outputs after (changed true old new) = placed_leaves p e slots w.outputs (changed true old new) ready.table laid_out.outputs laid_out.apart laid_out.kinds have m in
      finish meaning p e L (all_own after (greatest named) (changed true old new)
      (placed_other slots w.outputs (changed true old new) w.newest laid_out.newest_stamp laid_out.newest_flag ∙ ready.newest) leaves) leaves

  -- from the request for a job token on
  pub runs_all : (slots : Slots) (named old : List ℕ) → Ready slots named → Hold slots w.outputs old → From meaning p e L (run_code w) [] slots false false (runs meaning c named old)
  runs_all slots named old ready hold =
      take_place meaning p e L laid_out.pool
      (text meaning p e L w.command (text_at p w.command) laid_out.command refl
      (run meaning p e L (text_at p w.command) (map (output_path p) w.outputs) laid_out.paths refl
      (release_place meaning p e L
      (text meaning p e L w.command (text_at p w.command) laid_out.command refl
      (load meaning p e L w.newest (Stamp (greatest named)) ready.newest refl
      (deps_all w.depfile named _ laid_out.depfile λ paths swept.
      keep meaning p e L (name c) (text_at p w.command) (greatest (named ++ swept)) paths laid_out.name refl
      (outs_all w.restat refl slots named old ready hold)))))))

  abbrev pub ends_as : List ℕ → List ℕ → Bool → InteractionTree
  ends_as named old b = if b then runs meaning c named old else Over false (unchanged old)

  pub dirty_all : (slots : Slots) (named old : List ℕ) (a b : ℕ) (dirty : Bool) → Ready slots named → Hold slots w.outputs old → dirty ≡ true
      → From meaning p e L (dirty_code w) (Stamp a ∷ Stamp b ∷ []) slots false false (ends_as named old dirty)
  dirty_all slots named old a b dirty ready hold is =
      subst (λ (d : Bool). From meaning p e L (dirty_code w) (Stamp a ∷ Stamp b ∷ []) slots false false (ends_as named old d)) (sym is)
      (plain meaning p e L op.Drop (Stamp a ∷ Stamp b ∷ []) (Stamp b ∷ []) (λ l. refl) refl refl
      (plain meaning p e L op.Drop (Stamp b ∷ []) [] (λ l. refl) refl refl (runs_all slots named old ready hold)))

  pub clean_all : (slots : Slots) (named old : List ℕ) (dirty : Bool) (rest : List Instr) → Ready slots named → Hold slots w.outputs old → dirty ≡ false
      → From meaning p e L (clean_code w ++ (op.End ∷ rest)) [] slots false false (ends_as named old dirty)
  clean_all slots named old dirty rest ready hold is =
      let last : Slots = flagged slots false (holders w.restat w.outputs) in
      let leaves : Leaves w.outputs last (unchanged old) = holders_leave p e w.restat slots false w.outputs old ready.table laid_out.outputs laid_out.kinds laid_out.changed hold in
      subst (λ (d : Bool). From meaning p e L (clean_code w ++ (op.End ∷ rest)) [] slots false false (ends_as named old d)) (sym is)
      (flag_all meaning p e L false (holders w.restat w.outputs) slots (holders_writable p e w.restat w.outputs laid_out.outputs)
      (finish meaning p e L (all_own last (greatest named) (unchanged old)
      (flagged_other slots false (holders w.restat w.outputs) w.newest (holders_no_flag w.restat w.newest w.outputs laid_out.newest_flag) ∙ ready.newest) leaves) leaves))

  pub cons_long : (x : Instr) (xs : List Instr) → 0 < length (x ∷ xs)
  cons_long x xs = omega arith

  pub run_long : 0 < length (run_code w)
  run_long = omega arith

  -- ---- the sweep and the comparison

  -- if its entry is known, the edge is dirty by the rerun flag a or the baseline m
  abbrev pub Weighs : List ℕ → List ℕ → Option Recorded → Bool → ℕ → Type 0
  Weighs named old entry a m = (ts : List ℕ) → is_dirty c named old entry ts ≡ (missing_from a ts || nat_lt m (greatest_from (greatest named) ts))

  pub age_test_all : (at : ℕ) (slots : Slots) (named old : List ℕ) (entry : Option Recorded) (a : Bool) (m : ℕ) → Ready slots named → Hold slots w.outputs old → Weighs named old entry a m
      → drop (at + 6 + clean_len w) (code p e) ≡ dirty_code w → drop (at + 8 + clean_len w) (code p e) ≡ run_code w
      → From meaning p e L (age_test_code w at) (Paths 0 (paths_in entry) ∷ Flag a ∷ Stamp (greatest named) ∷ Stamp m ∷ []) slots false false
      (stamps (paths_in entry) (λ swept. ends_as named old (is_dirty c named old entry swept)))
  age_test_all at slots named old entry a m ready hold weighs dirty_at run_at =
      let tail : List Instr = clean_code w ++ (op.End ∷ dirty_code w) in
      let long : suc (length (dirty_code w)) ≤ length tail = app_long (clean_code w) (op.End ∷ dirty_code w) in
      sweep_all meaning p e L (paths_in entry) _ (paths_in entry) 0 a (greatest named) refl refl λ ts.
      let b : Bool = missing_from a ts in
      let g : ℕ = greatest_from (greatest named) ts in
      let x : Bool = nat_lt m g in
      let is : is_dirty c named old entry ts ≡ (b || x) = weighs ts in
      plain meaning p e L op.Drop (Swept (paths_in entry) ∷ Flag b ∷ Stamp g ∷ Stamp m ∷ []) (Flag b ∷ Stamp g ∷ Stamp m ∷ []) (λ l. refl) refl refl
      (jump_if meaning p e L (at + 6 + clean_len w) (dirty_code w) b dirty_at (omega (arith, long)) (cons_long op.Drop (op.Drop ∷ run_code w)) refl
      (λ on. dirty_all slots named old g m (is_dirty c named old entry ts) ready hold (is ∙ ap (λ (y : Bool). y || x) on))
      (λ off. plain meaning p e L op.Before (Stamp g ∷ Stamp m ∷ []) (Flag x ∷ []) (λ l. refl) refl refl
      (jump_if meaning p e L (at + 8 + clean_len w) (run_code w) x run_at (omega (arith, long)) run_long refl
      (λ late. subst (λ (d : Bool). From meaning p e L (run_code w) [] slots false false (ends_as named old d)) (sym (is ∙ (ap (λ (y : Bool). y || x) off ∙ late))) (runs_all slots named old ready hold))
      (λ early. clean_all slots named old (is_dirty c named old entry ts) (dirty_code w) ready hold (is ∙ (ap (λ (y : Bool). y || x) off ∙ early))))))

  -- the rerun flag of the edge: the outputs are tested if the baseline may be later than the oldest one, or if no
  -- source file is named
  abbrev pub looks : Baseline → (has : Bool) → Bool
  looks Outputs has = not has
  looks Basis has = true
  looks OutputsAndBasis has = not has

  abbrev pub rerun_flag_by : Bool → List ℕ → Bool
  rerun_flag_by l old = rerun_flag_of meaning p e L l old (some_flag start w.flags)

  abbrev pub rerun_flag : Baseline → List ℕ → Bool
  rerun_flag b old = rerun_flag_by (looks b (has_source_file w.named)) old

  -- with a test of the outputs
  pub weighs_looked : (named old : List ℕ) (entry : Option Recorded) (a : Bool) (m : ℕ) → (old ≡ [] → ⊥) → (not c.generator && is_new c.command entry) ≡ false
      → a ≡ ((least old == 0) || some_flag start w.flags) → m ≡ baseline c.baseline old entry → Weighs named old entry a m
  weighs_looked named old entry a m some same rerun_flag_is baseline_is ts =
      let g : ℕ = greatest_from (greatest named) ts in
      let full : a ≡ (some_missing old || some_changed c.named) = rerun_flag_is ∙ (ap (λ (b : Bool). b || some_flag start w.flags) (missing_least old some) ∙ ap (λ (b : Bool). some_missing old || b) laid_out.flags_are) in
      dirty_is c named old entry ts same
      ∙ (ap (λ (b : Bool). missing_from b ts || nat_lt (baseline c.baseline old entry) g) (sym full) ∙ ap (λ (n : ℕ). missing_from a ts || nat_lt n g) (sym baseline_is))

  -- without a test of the outputs
  pub weighs_unlooked : (named old : List ℕ) (entry : Option Recorded) (a : Bool) (m : ℕ) → (old ≡ [] → ⊥) → (not c.generator && is_new c.command entry) ≡ false
      → (w.baseline ≡ Basis → ⊥) → 0 < greatest named → a ≡ some_flag start w.flags → m ≡ baseline c.baseline old entry → Weighs named old entry a m
  weighs_unlooked named old entry a m some same plain positive rerun_flag_is baseline_is ts =
      let g : ℕ = greatest_from (greatest named) ts in
      dirty_unlooked c named old entry ts same plain some positive
      ∙ (ap (λ (b : Bool). missing_from b ts || nat_lt (baseline c.baseline old entry) g) (sym (rerun_flag_is ∙ laid_out.flags_are)) ∙ ap (λ (n : ℕ). missing_from a ts || nat_lt n g) (sym baseline_is))

  pub weighs : (b : Baseline) (h : Bool) → w.baseline ≡ b → has_source_file w.named ≡ h → (named old : List ℕ) (entry : Option Recorded) (m : ℕ) → (old ≡ [] → ⊥) → (not c.generator && is_new c.command entry) ≡ false
      → IsPositive w.named (greatest named) → m ≡ baseline c.baseline old entry → Weighs named old entry (rerun_flag_by (looks b h) old) m
  weighs Basis h is has named old entry m some same positive baseline_is = weighs_looked named old entry _ m some same refl baseline_is
  weighs Outputs true is has named old entry m some same positive baseline_is = weighs_unlooked named old entry _ m some same (λ other. absurd cc) (positive has) refl baseline_is
  weighs Outputs false is has named old entry m some same positive baseline_is = weighs_looked named old entry _ m some same refl baseline_is
  weighs OutputsAndBasis true is has named old entry m some same positive baseline_is = weighs_unlooked named old entry _ m some same (λ other. absurd cc) (positive has) refl baseline_is
  weighs OutputsAndBasis false is has named old entry m some same positive baseline_is = weighs_looked named old entry _ m some same refl baseline_is

  -- the values below the recorded paths
  abbrev pub below : Bool → List ℕ → ℕ → List Value
  below true old n = []
  below false old n = Flag (rerun_flag Outputs old) ∷ Stamp n ∷ Stamp (least old) ∷ []

  pub below_roomy : (r : Bool) (old : List ℕ) (n : ℕ) → IsRoomy (below r old n)
  below_roomy true old n = refl
  below_roomy false old n = refl

  -- the condition on the stamp above the paths: the baseline is that stamp, or the earlier of it and the oldest
  -- output
  abbrev pub Gives : Baseline → (over : ℕ) → List ℕ → Option Recorded → Type 0
  Gives Outputs over old entry = Unit {0}
  Gives Basis over old entry = over ≡ baseline Basis old entry
  Gives OutputsAndBasis over old entry = earlier over (least old) ≡ baseline OutputsAndBasis old entry

  -- from a baseline above the paths
  pub under_all : (l : Bool) (rest : List Instr) (interaction : InteractionTree) (slots : Slots) (named old : List ℕ) (ps : List Path) (m : ℕ) → Ready slots named → Hold slots w.outputs old
      → From meaning p e L rest (Paths 0 ps ∷ Flag (rerun_flag_by l old) ∷ Stamp (greatest named) ∷ Stamp m ∷ []) slots false false interaction
      → From meaning p e L (under_code l w rest) (Stamp m ∷ Paths 0 ps ∷ []) slots false false interaction
  under_all l rest interaction slots named old ps m ready hold h =
      let n : ℕ = greatest named in
      let a : Bool = rerun_flag_by l old in
      plain meaning p e L op.Swap (Stamp m ∷ Paths 0 ps ∷ []) (Paths 0 ps ∷ Stamp m ∷ []) (λ l. refl) refl refl
      (load meaning p e L w.newest (Stamp n) ready.newest refl
      (plain meaning p e L op.Swap (Stamp n ∷ Paths 0 ps ∷ Stamp m ∷ []) (Paths 0 ps ∷ Stamp n ∷ Stamp m ∷ []) (λ l. refl) refl refl
      (rerun_flag_all meaning p e L l w.outputs old w.flags start (Paths 0 ps ∷ Stamp n ∷ Stamp m ∷ []) refl hold laid_out.flags ready.foreign
      (plain meaning p e L op.Swap (Flag a ∷ Paths 0 ps ∷ Stamp n ∷ Stamp m ∷ []) (Paths 0 ps ∷ Flag a ∷ Stamp n ∷ Stamp m ∷ []) (λ l. refl) refl refl h))))

  -- when the stamp above the paths is known and the command doesn't differ
  pub same_command_by : (b : Baseline) → w.baseline ≡ b → (rest : List Instr) (interaction : InteractionTree) (slots : Slots) (named old : List ℕ) (entry : Option Recorded) (over : ℕ) → Ready slots named → Hold slots w.outputs old
      → Gives b over old entry
      → ((m : ℕ) → m ≡ baseline c.baseline old entry → From meaning p e L rest (Paths 0 (paths_in entry) ∷ Flag (rerun_flag b old) ∷ Stamp (greatest named) ∷ Stamp m ∷ []) slots false false interaction)
      → From meaning p e L (ready_code b w rest) (Stamp over ∷ Paths 0 (paths_in entry) ∷ below (compares_basis b) old (greatest named)) slots false false interaction
  same_command_by Outputs is rest interaction slots named old entry over ready hold known h =
      plain meaning p e L op.Drop (Stamp over ∷ Paths 0 (paths_in entry) ∷ below false old (greatest named)) (Paths 0 (paths_in entry) ∷ below false old (greatest named)) (λ l. refl) refl refl
      (h (least old) (sym (ap (λ (b : Baseline). baseline b old entry) is)))
  same_command_by Basis is rest interaction slots named old entry over ready hold known h =
      under_all true rest interaction slots named old (paths_in entry) over ready hold (h over (known ∙ sym (ap (λ (b : Baseline). baseline b old entry) is)))
  same_command_by OutputsAndBasis is rest interaction slots named old entry over ready hold known h =
      let ps : List Path = paths_in entry in
      let m : ℕ = earlier over (least old) in
      oldest_all meaning p e L w.outputs old (Stamp over ∷ Paths 0 ps ∷ []) refl hold
      (plain meaning p e L op.Older (Stamp (least old) ∷ Stamp over ∷ Paths 0 ps ∷ []) (Stamp m ∷ Paths 0 ps ∷ []) (λ l. refl) refl refl
      (under_all (not (has_source_file w.named)) rest interaction slots named old ps m ready hold (h m (known ∙ sym (ap (λ (b : Baseline). baseline b old entry) is)))))

  -- if the recorded command differs, the paths are swept nevertheless
  pub skip_all : (r : Bool) (rest : List Instr) (interaction : InteractionTree) (slots : Slots) (old : List ℕ) (ps : List Path) (b n : ℕ)
      → ((a : Bool) (x y : ℕ) → From meaning p e L rest (Paths 0 ps ∷ Flag a ∷ Stamp x ∷ Stamp y ∷ []) slots false false interaction)
      → From meaning p e L (skip_code r rest) (Stamp b ∷ Paths 0 ps ∷ below r old n) slots false false interaction
  skip_all true rest interaction slots old ps b n h =
      plain meaning p e L op.Swap (Stamp b ∷ Paths 0 ps ∷ []) (Paths 0 ps ∷ Stamp b ∷ []) (λ l. refl) refl refl
      (plain meaning p e L op.Zero (Paths 0 ps ∷ Stamp b ∷ []) (Stamp 0 ∷ Paths 0 ps ∷ Stamp b ∷ []) (λ l. refl) refl refl
      (plain meaning p e L op.Swap (Stamp 0 ∷ Paths 0 ps ∷ Stamp b ∷ []) (Paths 0 ps ∷ Stamp 0 ∷ Stamp b ∷ []) (λ l. refl) refl refl
      (plain meaning p e L (op.Flag false) (Paths 0 ps ∷ Stamp 0 ∷ Stamp b ∷ []) (Flag false ∷ Paths 0 ps ∷ Stamp 0 ∷ Stamp b ∷ []) (λ l. refl) refl refl
      (plain meaning p e L op.Swap (Flag false ∷ Paths 0 ps ∷ Stamp 0 ∷ Stamp b ∷ []) (Paths 0 ps ∷ Flag false ∷ Stamp 0 ∷ Stamp b ∷ []) (λ l. refl) refl refl (h false 0 b)))))
  skip_all false rest interaction slots old ps b n h =
      plain meaning p e L op.Drop (Stamp b ∷ Paths 0 ps ∷ below false old n) (Paths 0 ps ∷ below false old n) (λ l. refl) refl refl (h (rerun_flag Outputs old) n (least old))

  pub other_all : (rest : List Instr) (d : ℕ) (slots : Slots) (named old : List ℕ) (entry : Option Recorded) (b n : ℕ) → Ready slots named → Hold slots w.outputs old
      → (not c.generator && is_new c.command entry) ≡ true → drop d (code p e) ≡ dirty_code w → length (dirty_code w) ≤ length rest
      → From meaning p e L (other_code w d rest) (Stamp b ∷ Paths 0 (paths_in entry) ∷ below (compares_basis w.baseline) old n) slots false false
      (stamps (paths_in entry) (λ swept. ends_as named old (is_dirty c named old entry swept)))
  other_all rest d slots named old entry b n ready hold fresh dirty_at le =
      skip_all (compares_basis w.baseline) (op.Sweep ∷ op.Drop ∷ op.Drop ∷ op.Jump d ∷ rest) _ slots old (paths_in entry) b n λ a x y.
      sweep_all meaning p e L (paths_in entry) _ (paths_in entry) 0 a x refl refl λ ts.
      plain meaning p e L op.Drop (Swept (paths_in entry) ∷ Flag (missing_from a ts) ∷ Stamp (greatest_from x ts) ∷ Stamp y ∷ []) (Flag (missing_from a ts) ∷ Stamp (greatest_from x ts) ∷ Stamp y ∷ []) (λ l. refl) refl refl
      (plain meaning p e L op.Drop (Flag (missing_from a ts) ∷ Stamp (greatest_from x ts) ∷ Stamp y ∷ []) (Stamp (greatest_from x ts) ∷ Stamp y ∷ []) (λ l. refl) refl refl
      (jump meaning p e L d (dirty_code w) dirty_at le (cons_long op.Drop (op.Drop ∷ run_code w)) refl
      (dirty_all slots named old (greatest_from x ts) y (is_dirty c named old entry ts) ready hold (dirty_new c named old entry ts fresh))))

  -- ---- the comparison of the command, over any stack with room

  pub same_by : {rest : List Instr} {slots : Slots} {interaction : InteractionTree} (deep : List Value) → IsRoomy deep → (b : Bool) (t : List ℕ) (basis : ℕ) (ps : List Path)
      → From meaning p e L rest (Flag (not (not b || not (same_text t (text_at p w.command)))) ∷ Stamp basis ∷ Paths 0 ps ∷ deep) slots false false interaction
      → From meaning p e L (same_code true w.command ++ rest) (Flag b ∷ Text t ∷ Stamp basis ∷ Paths 0 ps ∷ deep) slots false false interaction
  same_by deep low b t basis ps h =
      let under : List Value = Stamp basis ∷ Paths 0 ps ∷ deep in
      let d : List ℕ = text_at p w.command in
      plain meaning p e L op.Not (Flag b ∷ Text t ∷ under) (Flag (not b) ∷ Text t ∷ under) (λ l. refl) refl (less (omega arith) low)
      (plain meaning p e L op.Swap (Flag (not b) ∷ Text t ∷ under) (Text t ∷ Flag (not b) ∷ under) (λ l. refl) refl (less (omega arith) low)
      (text meaning p e L w.command d laid_out.command (less (omega arith) low)
      (plain meaning p e L op.Equal (Text d ∷ Text t ∷ Flag (not b) ∷ under) (Flag (same_text t d) ∷ Flag (not b) ∷ under) (λ l. refl) refl (less (omega arith) low)
      (plain meaning p e L op.Not (Flag (same_text t d) ∷ Flag (not b) ∷ under) (Flag (not (same_text t d)) ∷ Flag (not b) ∷ under) (λ l. refl) refl (less (omega arith) low)
      (plain meaning p e L op.Or (Flag (not (same_text t d)) ∷ Flag (not b) ∷ under) (Flag (not b || not (same_text t d)) ∷ under) (λ l. refl) refl (less (omega arith) low)
      (plain meaning p e L op.Not (Flag (not b || not (same_text t d)) ∷ under) (Flag (not (not b || not (same_text t d))) ∷ under) (λ l. refl) refl (less (omega arith) low) h))))))

  pub no_text : (t : List ℕ) → (t ≡ [] → ⊥) → same_text [] t ≡ false
  no_text [] some = absurd (some refl)
  no_text (x ∷ xs) some = refl

  pub not_not : (b : Bool) → not (not b) ≡ b
  not_not true = refl
  not_not false = refl

  -- the shorter comparison
  pub short_by : {rest : List Instr} {slots : Slots} {interaction : InteractionTree} (deep : List Value) → IsRoomy deep → (b : Bool) (t : List ℕ) (basis : ℕ) (ps : List Path)
      → From meaning p e L rest (Flag (same_text t (text_at p w.command)) ∷ Stamp basis ∷ Paths 0 ps ∷ deep) slots false false interaction
      → From meaning p e L (same_code false w.command ++ rest) (Flag b ∷ Text t ∷ Stamp basis ∷ Paths 0 ps ∷ deep) slots false false interaction
  short_by deep low b t basis ps h =
      let under : List Value = Stamp basis ∷ Paths 0 ps ∷ deep in
      plain meaning p e L op.Drop (Flag b ∷ Text t ∷ under) (Text t ∷ under) (λ l. refl) refl (less (omega arith) low)
      (text meaning p e L w.command (text_at p w.command) laid_out.command (less (omega arith) low)
      (plain meaning p e L op.Equal (Text (text_at p w.command) ∷ Text t ∷ under) (Flag (same_text t (text_at p w.command)) ∷ under) (λ l. refl) refl (less (omega arith) low) h))

  pub same_all : {rest : List Instr} {slots : Slots} {interaction : InteractionTree} (blank : Bool) → w.blank ≡ blank → (deep : List Value) → IsRoomy deep → (o : Option Recorded)
      → From meaning p e L rest (Flag (not (is_new c.command o)) ∷ Stamp (basis_in o) ∷ Paths 0 (paths_in o) ∷ deep) slots false false interaction
      → From meaning p e L (same_code blank w.command ++ rest) (entry_values o deep) slots false false interaction
  same_all true is deep low (Some y) h = same_by deep low true y.command y.basis y.paths h
  same_all true is deep low None h = same_by deep low false [] 0 [] h
  same_all {rest = rest} {slots = slots} {interaction = interaction} false is deep low (Some y) h =
      short_by deep low true y.command y.basis y.paths (subst (λ (b : Bool). From meaning p e L rest (Flag b ∷ Stamp y.basis ∷ Paths 0 y.paths ∷ deep) slots false false interaction) (not_not (same_text y.command (text_at p w.command))) h)
  same_all {rest = rest} {slots = slots} {interaction = interaction} false is deep low None h =
      short_by deep low false [] 0 [] (subst (λ (b : Bool). From meaning p e L rest (Flag b ∷ Stamp 0 ∷ Paths 0 [] ∷ deep) slots false false interaction) (sym (no_text (text_at p w.command) (laid_out.unblank is))) h)

  -- ---- a generator looks at no command

  pub drop_two : {rest : List Instr} {slots : Slots} {interaction : InteractionTree} (deep : List Value) → IsRoomy deep → (o : Option Recorded)
      → From meaning p e L rest (Stamp (basis_in o) ∷ Paths 0 (paths_in o) ∷ deep) slots false false interaction → From meaning p e L (op.Drop ∷ op.Drop ∷ rest) (entry_values o deep) slots false false interaction
  drop_two deep low (Some y) h =
      plain meaning p e L op.Drop (entry_values (Some y) deep) (Text y.command ∷ Stamp y.basis ∷ Paths 0 y.paths ∷ deep) (λ l. refl) refl (less (omega arith) low)
      (plain meaning p e L op.Drop (Text y.command ∷ Stamp y.basis ∷ Paths 0 y.paths ∷ deep) (Stamp y.basis ∷ Paths 0 y.paths ∷ deep) (λ l. refl) refl (less (omega arith) low) h)
  drop_two deep low None h =
      plain meaning p e L op.Drop (entry_values None deep) (Text [] ∷ Stamp 0 ∷ Paths 0 [] ∷ deep) (λ l. refl) refl (less (omega arith) low)
      (plain meaning p e L op.Drop (Text [] ∷ Stamp 0 ∷ Paths 0 [] ∷ deep) (Stamp 0 ∷ Paths 0 [] ∷ deep) (λ l. refl) refl (less (omega arith) low) h)
