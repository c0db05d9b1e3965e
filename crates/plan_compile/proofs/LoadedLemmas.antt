-- The code of a command edge loads the slots of its named inputs. Serves src/image_laws.rt.
use Rattle.std.proofs.Common.{◌≡◌, ℕ, Bool, true, false, List, [], ◌∷◌, ◌++◌, length, refl, sym, ap, subst, ◌∙◌, ◌+◌, zero}
use Rattle.std.specs.Prelude.{◌||◌, ◌==◌, not}
use Rattle.std.proofs.lemmas.Bool.{eq-eqb}
use Rattle.plan_image.specs.declared.body.Instr.{Instr}
use Rattle.plan_image.specs.declared.body.Instr.TheVariants as op
use Rattle.plan_image.specs.Code.{code}
use Rattle.plan_verify.specs.Members.{is_member}
use Rattle.plan_compile.specs.declared.baseline.Baseline.{Baseline}
use Rattle.plan_compile.specs.declared.baseline.Baseline.TheVariants.{Outputs, Basis, OutputsAndBasis}
use Rattle.plan_compile.specs.declared.layout.CommandLayout.{CommandLayout}
use Rattle.plan_compile.specs.declared.layout.EdgeLayout.{EdgeLayout}
use Rattle.plan_compile.specs.declared.layout.EdgeLayout.TheVariants as layout
use Rattle.plan_compile.specs.declared.layout.Input.{Input}
use Rattle.plan_compile.specs.declared.layout.Input.TheVariants.{File, Made}
use Rattle.plan_compile.specs.declared.layout.Output.{Output}
use Rattle.plan_compile.specs.Emit.{code_of, or_code, any_code, newer_code, newest_code, order_code, stat_code, oldest_code, rerun_flag_code, has_source_file, compares_basis, before_sweep_code, front, same_code, under_code, ready_code, ready_len, skip_code, age_test_code, same_command_code, dirty_place, other_code, same_place, known_place, pass_code, from_entry_code, command_code}
use Rattle.plan_compile.specs.Images.{image_of, layout_of}
use Rattle.plan_compile.specs.Means.{flags_of, HaveFlags, IsLaidOut}
use Rattle.plan_compile.specs.Names.{all_texts}
use Rattle.plan_compile.specs.Slots.{all_made, base}
use Rattle.plan_compile.specs.Loaded.{is_load, loads, AreLoaded, InputsAreLoaded}
use Rattle.plan_image.specs.Bodies.{IsSplit}
use Rattle.plan_compile.proofs.EdgeLemmas.{image_code}
use Rattle.plan_compile.proofs.FactLemmas.{layouts_are_facts}
use Rattle.plan_compile.proofs.Folds.{or_assoc}
use Rattle.plan_compile.proofs.Judging.{or_true}
use Rattle.plan_compile.proofs.LayoutLemmas.{laid_out}

-- ---- parts of a code

loads_append : (k : ℕ) (xs ys : List Instr) → loads k (xs ++ ys) ≡ (loads k xs || loads k ys)
loads_append k [] ys = refl
loads_append k (x ∷ xs) ys = ap (λ (b : Bool). is_load k x || b) (loads_append k xs ys) ∙ sym (or_assoc (is_load k x) (loads k xs) (loads k ys))

first : (k : ℕ) (xs ys : List Instr) → loads k xs ≡ true → loads k (xs ++ ys) ≡ true
first k xs ys h = loads_append k xs ys ∙ ap (λ (b : Bool). b || loads k ys) h

second : (k : ℕ) (xs ys : List Instr) → loads k ys ≡ true → loads k (xs ++ ys) ≡ true
second k xs ys h = loads_append k xs ys ∙ (ap (λ (b : Bool). loads k xs || b) h ∙ or_true (loads k xs))

-- an instruction that loads nothing is skipped by computation
either : {c : Bool} (b : Bool) → c ≡ true → (b || c) ≡ true
either b is = ap (λ (c : Bool). b || c) is ∙ or_true b

here : (k : ℕ) (ys : List Instr) → loads k (op.Load k ∷ ys) ≡ true
here k ys = ap (λ (b : Bool). b || loads k ys) (eq-eqb k k refl)

-- ---- flags

or_loads : (k : ℕ) (flags : List ℕ) → is_member k flags ≡ true → loads k (or_code flags) ≡ true
or_loads k [] h = h
or_loads k (s ∷ ss) h = by (s == k) (or_loads k ss) h
  where
    by : (b : Bool) → (is_member k ss ≡ true → loads k (or_code ss) ≡ true) → (b || is_member k ss) ≡ true → (b || loads k (or_code ss)) ≡ true
    by true more is = refl
    by false more is = more is

any_loads : (k : ℕ) (flags : List ℕ) → is_member k flags ≡ true → loads k (any_code flags) ≡ true
any_loads k [] h = h
any_loads k (s ∷ ss) h = by (s == k) (or_loads k ss) h
  where
    by : (b : Bool) → (is_member k ss ≡ true → loads k (or_code ss) ≡ true) → (b || is_member k ss) ≡ true → (b || loads k (or_code ss)) ≡ true
    by true more is = refl
    by false more is = more is

rerun_loads : (looks : Bool) (k : ℕ) (os : List Output) (flags : List ℕ) → is_member k flags ≡ true → loads k (rerun_flag_code looks os flags) ≡ true
rerun_loads true k os flags h = second k (oldest_code os) (op.IsMissing ∷ or_code flags) (or_loads k flags h)
rerun_loads false k os flags h = any_loads k flags h

under_loads : (looks : Bool) (k : ℕ) (w : CommandLayout) (more : List Instr) → is_member k w.flags ≡ true → loads k (under_code looks w more) ≡ true
under_loads looks k w more h = either (w.newest == k) (first k (rerun_flag_code looks w.outputs w.flags) (op.Swap ∷ more) (rerun_loads looks k w.outputs w.flags h))

-- the flags are loaded before the sweep of a baseline that compares the basis
ready_loads : (b : Baseline) (k : ℕ) (w : CommandLayout) (more : List Instr) → compares_basis b ≡ true → is_member k w.flags ≡ true → loads k (ready_code b w more) ≡ true
ready_loads Outputs k w more is h = absurd cc
ready_loads Basis k w more is h = under_loads true k w more h
ready_loads OutputsAndBasis k w more is h =
    second k (oldest_code w.outputs) (op.Older ∷ under_code (not (has_source_file w.named)) w more) (under_loads (not (has_source_file w.named)) k w more h)

skip_loads : (basis : Bool) (k : ℕ) (more : List Instr) → loads k more ≡ true → loads k (skip_code basis more) ≡ true
skip_loads true k more h = h
skip_loads false k more h = h

module _ (k : ℕ) (w : CommandLayout) (same : (at : ℕ) → loads k (same_command_code w at) ≡ true) where
  other_loads : (dirty : ℕ) (more : List Instr) → loads k more ≡ true → loads k (other_code w dirty more) ≡ true
  other_loads dirty more h = skip_loads (compares_basis w.baseline) k (op.Sweep ∷ op.Drop ∷ op.Drop ∷ op.Jump dirty ∷ more) h

  pass_loads : (basis : Bool) (at : ℕ) → loads k (pass_code basis w at) ≡ true
  pass_loads true at = second k (oldest_code w.outputs) (op.Jump (known_place w at + 1) ∷ op.Drop ∷ same_command_code w (known_place w at + 1)) (same (known_place w at + 1))
  pass_loads false at = same (at + 2)

  entry_loads : (generator : Bool) (at : ℕ) → loads k (from_entry_code generator w at) ≡ true
  entry_loads true at = pass_loads (compares_basis w.baseline) at
  entry_loads false at =
      second k (same_code w.blank w.command) (op.JumpIf (same_place w at) ∷ other_code w (dirty_place w (same_place w at)) (same_command_code w (same_place w at)))
      (other_loads (dirty_place w (same_place w at)) (same_command_code w (same_place w at)) (same (same_place w at)))

-- the code before the entry, and after it
module _ (k : ℕ) (w : CommandLayout) where
  abbrev entry : List Instr
  entry = from_entry_code w.generator w (length (front w []))

  abbrev before : Bool → List Instr
  before basis = before_sweep_code basis w (op.Recall ∷ entry)

  front_flags : (basis : Bool) → basis ≡ compares_basis w.baseline → is_member k w.flags ≡ true → loads k (before basis) ≡ true
  front_flags false is h =
      let rerun : List Instr = rerun_flag_code (not (has_source_file w.named)) w.outputs w.flags in
      second k (oldest_code w.outputs) (op.Load w.newest ∷ (rerun ++ op.Recall ∷ entry))
      (either (w.newest == k) (first k rerun (op.Recall ∷ entry) (rerun_loads (not (has_source_file w.named)) k w.outputs w.flags h)))
  front_flags true is h = entry_loads k w (λ at. ready_loads w.baseline k w (age_test_code w (at + ready_len w)) (sym is) h) w.generator (length (front w []))

  abbrev after_inputs : List Instr
  after_inputs = op.Store w.newest ∷ (stat_code w.outputs ++ before (compares_basis w.baseline))

  flag_loaded : is_member k w.flags ≡ true → loads k (command_code w) ≡ true
  flag_loaded h =
      second k (order_code w.order_only) (newest_code w.named ++ after_inputs)
      (second k (newest_code w.named) after_inputs (second k (stat_code w.outputs) (before (compares_basis w.baseline)) (front_flags (compares_basis w.baseline) refl h)))

  stamp_loaded : loads k (newest_code w.named) ≡ true → loads k (command_code w) ≡ true
  stamp_loaded h = second k (order_code w.order_only) (newest_code w.named ++ after_inputs) (first k (newest_code w.named) after_inputs h)

-- ---- inputs

module _ (code : List Instr) where
  newer_loaded : (is : List Input) → ((k : ℕ) → loads k (newer_code is) ≡ true → loads k code ≡ true) → ((k : ℕ) → is_member k (flags_of is) ≡ true → loads k code ≡ true) → AreLoaded code is
  newer_loaded [] stamps flags = tt
  newer_loaded (File f ∷ is) stamps flags = newer_loaded is stamps flags
  newer_loaded (Made s c ∷ is) stamps flags = (
    stamps s (here s (op.Newer ∷ newer_code is)),
    flags c (ap (λ (b : Bool). b || is_member c (flags_of is)) (eq-eqb c c refl)),
    newer_loaded is (λ k h. stamps k (either (s == k) h)) (λ k h. flags k (either (c == k) h)),
  )

  newest_loaded : (is : List Input) → ((k : ℕ) → loads k (newest_code is) ≡ true → loads k code ≡ true) → ((k : ℕ) → is_member k (flags_of is) ≡ true → loads k code ≡ true) → AreLoaded code is
  newest_loaded [] stamps flags = tt
  newest_loaded (File f ∷ is) stamps flags = newer_loaded is stamps flags
  newest_loaded (Made s c ∷ is) stamps flags = (
    stamps s (here s (newer_code is)),
    flags c (ap (λ (b : Bool). b || is_member c (flags_of is)) (eq-eqb c c refl)),
    newer_loaded is (λ k h. stamps k (either (s == k) h)) (λ k h. flags k (either (c == k) h)),
  )

pub command_loads : (w : CommandLayout) → HaveFlags w.named w.flags → AreLoaded (command_code w) w.named
command_loads w have = newest_loaded (command_code w) w.named (λ k h. stamp_loaded k w h) (λ k h. flag_loaded k w (have k ∙ h))

pub inputs_are_loaded : IsSplit → InputsAreLoaded
inputs_are_loaded split t sound e x at w is =
    let whole : EdgeLayout = layout_of (all_texts t.edges) (all_made zero t.edges) (base t.edges e) x in
    let same : layout.Command w ≡ whole = (layouts_are_facts t e x at w is []).3 in
    let laid : IsLaidOut (image_of t) e (layout.Command w) = subst (λ (v : EdgeLayout). IsLaidOut (image_of t) e v) (sym same) (laid_out t sound e x at) in
    let codes : code (image_of t) e ≡ command_code w = image_code split t e x at ∙ ap code_of (sym same) in
    subst (λ (c : List Instr). AreLoaded c w.named) (sym codes) (command_loads w laid.flags)
