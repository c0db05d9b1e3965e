-- The lengths of parts of the code.
use Rattle.std.proofs.Common.{◌≡◌, ℕ, suc, ◌+◌, ◌*◌, ◌-◌, ◌<◌, ◌≤◌, Bool, true, false, List, [], ◌∷◌, ◌++◌, length, refl, sym, ap, subst, ◌∙◌, arith, length-append}
use Rattle.std.specs.Prelude.{not, if◌then◌else◌, Ok, Err}
use Rattle.std.proofs.lemmas.Bool.{lt-ltb}
use Rattle.plan_compile.specs.declared.fault.CompileFault.TheVariants.{Limit}
use Rattle.plan_image.specs.declared.body.Instr.{Instr}
use Rattle.plan_image.specs.declared.body.Instr.TheVariants as op
use Rattle.plan_compile.specs.declared.baseline.Baseline.{Baseline}
use Rattle.plan_compile.specs.declared.baseline.Baseline.TheVariants.{Outputs, Basis, OutputsAndBasis}
use Rattle.plan_compile.specs.declared.layout.Output.{Output}
use Rattle.plan_compile.specs.declared.layout.CommandLayout.{CommandLayout}
use Rattle.plan_compile.specs.Emit.{compares_basis, has_source_file, order_code, newest_code, or_code, any_code, stat_code, older_code, oldest_code, flag_code, holders, rerun_flag_code, before_sweep_code, front, same_code, under_code, ready_code, ready_len, clean_len, age_test_code, same_command_code, dirty_place, other_code, same_place, known_place, pass_code, from_entry_code, command_code, emitted}
use Rattle.plan_compile.proofs.Placing.{front_app}
use Rattle.plan_compile.proofs.Edge.{skip_long}

pub older_length : (os : List Output) → length (older_code os) ≡ 2 * length os
older_length [] = refl
older_length (o ∷ os) = let h : length (older_code os) ≡ 2 * length os = older_length os in omega (arith, h)

pub oldest_length : (os : List Output) → 0 < length os → length (oldest_code os) ≡ 2 * length os - 1
oldest_length [] some = absurd (omega (arith, some))
oldest_length (o ∷ os) some = let h : length (older_code os) ≡ 2 * length os = older_length os in omega (arith, h)

pub oldest_none : (os : List Output) → length os ≡ 0 → length (oldest_code os) ≡ 1
oldest_none [] none = refl
oldest_none (o ∷ os) none = absurd (omega (arith, none))

pub or_length : (flags : List ℕ) → length (or_code flags) ≡ 2 * length flags
or_length [] = refl
or_length (s ∷ ss) = let h : length (or_code ss) ≡ 2 * length ss = or_length ss in omega (arith, h)

pub flag_length : (b : Bool) (os : List Output) → length (flag_code b os) ≡ 2 * length os
flag_length b [] = refl
flag_length b (o ∷ os) = let h : length (flag_code b os) ≡ 2 * length os = flag_length b os in omega (arith, h)

pub shared_length : (b : Bool) (os : List Output) → 0 < length os → length (flag_code b (holders false os)) ≡ 2
shared_length b [] some = absurd (omega (arith, some))
shared_length b (o ∷ os) some = refl

pub shared_none : (b : Bool) (os : List Output) → length os ≡ 0 → length (flag_code b (holders false os)) ≡ 0
shared_none b [] none = refl
shared_none b (o ∷ os) none = absurd (omega (arith, none))

-- the flags of a clean edge, restat or not
pub clean_restat : (w : CommandLayout) → w.restat ≡ true → clean_len w ≡ 2 * length w.outputs
clean_restat w is = ap (λ (r : Bool). length (flag_code false (holders r w.outputs))) is ∙ flag_length false w.outputs

pub clean_shared : (w : CommandLayout) → w.restat ≡ false → 0 < length w.outputs → clean_len w ≡ 2
clean_shared w is some = ap (λ (r : Bool). length (flag_code false (holders r w.outputs))) is ∙ shared_length false w.outputs some

pub clean_none : (w : CommandLayout) → w.restat ≡ false → length w.outputs ≡ 0 → clean_len w ≡ 0
clean_none w is none = ap (λ (r : Bool). length (flag_code false (holders r w.outputs))) is ∙ shared_none false w.outputs none

-- the code of the rerun flag
pub rerun_flag_looks : (os : List Output) (flags : List ℕ) → length (rerun_flag_code true os flags) ≡ length (oldest_code os) + 1 + 2 * length flags
rerun_flag_looks os flags =
    let a : length (oldest_code os ++ (op.IsMissing ∷ or_code flags)) ≡ length (oldest_code os) + suc (length (or_code flags)) = length-append (oldest_code os) (op.IsMissing ∷ or_code flags) in
    let c : length (or_code flags) ≡ 2 * length flags = or_length flags in
    omega (arith, a, c)

pub any_none : (flags : List ℕ) → 2 * length flags ≡ 0 → length (any_code flags) ≡ 1
any_none [] none = refl
any_none (s ∷ ss) none = absurd (omega (arith, none))

pub any_some : (flags : List ℕ) → (2 * length flags ≡ 0 → ⊥) → length (any_code flags) ≡ 2 * length flags - 1
any_some [] some = absurd (some refl)
any_some (s ∷ ss) some = let h : length (or_code ss) ≡ 2 * length ss = or_length ss in omega (arith, h)

-- the code that prepares the sweep
pub under_length : (looks : Bool) (w : CommandLayout) → length (under_code looks w []) ≡ length (rerun_flag_code looks w.outputs w.flags) + 4
under_length looks w =
    let rerun_flag : List Instr = rerun_flag_code looks w.outputs w.flags in
    let a : length (rerun_flag ++ (op.Swap ∷ [])) ≡ length rerun_flag + 1 = length-append rerun_flag (op.Swap ∷ []) in
    omega (arith, a)

pub ready_both : (w : CommandLayout) → w.baseline ≡ OutputsAndBasis → ready_len w ≡ length (oldest_code w.outputs) + 1 + length (under_code (not (has_source_file w.named)) w [])
ready_both w is =
    let tail : List Instr = under_code (not (has_source_file w.named)) w [] in
    let a : length (oldest_code w.outputs ++ (op.Older ∷ tail)) ≡ length (oldest_code w.outputs) + suc (length tail) = length-append (oldest_code w.outputs) (op.Older ∷ tail) in
    let whole : length (ready_code OutputsAndBasis w []) ≡ length (oldest_code w.outputs) + 1 + length tail = omega (arith, a) in
    ap (λ (b : Baseline). length (ready_code b w [])) is ∙ whole

-- ---- lower bounds on the length of the code

pub longer_front : (xs ys : List Instr) → length xs ≤ length (xs ++ ys)
longer_front xs ys = let a : length (xs ++ ys) ≡ length xs + length ys = length-append xs ys in omega (arith, a)

pub longer_back : (xs ys : List Instr) → length ys ≤ length (xs ++ ys)
longer_back xs ys = let a : length (xs ++ ys) ≡ length xs + length ys = length-append xs ys in omega (arith, a)

pub stat_length : (os : List Output) → length (stat_code os) ≡ 2 * length os
stat_length [] = refl
stat_length (o ∷ os) = let h : length (stat_code os) ≡ 2 * length os = stat_length os in omega (arith, h)

pub any_longer : (flags : List ℕ) → length flags ≤ length (any_code flags)
any_longer [] = omega arith
any_longer (s ∷ ss) = let h : length (or_code ss) ≡ 2 * length ss = or_length ss in omega (arith, h)

pub rerun_flag_longer : (looks : Bool) (os : List Output) (flags : List ℕ) → length flags ≤ length (rerun_flag_code looks os flags)
rerun_flag_longer true os flags =
    let h : length (or_code flags) ≡ 2 * length flags = or_length flags in
    let l : length (op.IsMissing ∷ or_code flags) ≤ length (oldest_code os ++ (op.IsMissing ∷ or_code flags)) = longer_back (oldest_code os) (op.IsMissing ∷ or_code flags) in
    omega (arith, h, l)
rerun_flag_longer false os flags = any_longer flags

module _ (w : CommandLayout) where
  abbrev pub behind_front : List Instr
  behind_front = from_entry_code w.generator w (length (front w []))

  -- the front begins the code
  pub front_begins : length (front w []) ≤ length (command_code w)
  front_begins = let l : length (front w []) ≤ length (front w [] ++ behind_front) = longer_front (front w []) behind_front in omega (arith, l, ap (λ (xs : List Instr). length xs) (front_app w behind_front))

  pub from_entry_within : length behind_front ≤ length (command_code w)
  from_entry_within = let l : length behind_front ≤ length (front w [] ++ behind_front) = longer_back (front w []) behind_front in omega (arith, l, ap (λ (xs : List Instr). length xs) (front_app w behind_front))

  pub asked_within : (rest : List Instr) → length (stat_code w.outputs ++ before_sweep_code (compares_basis w.baseline) w (op.Recall ∷ rest)) ≤ length (front w rest)
  asked_within rest =
      let asked : List Instr = stat_code w.outputs ++ before_sweep_code (compares_basis w.baseline) w (op.Recall ∷ rest) in
      let a : length (op.Store w.newest ∷ asked) ≤ length (newest_code w.named ++ (op.Store w.newest ∷ asked)) = longer_back (newest_code w.named) (op.Store w.newest ∷ asked) in
      let b : length (newest_code w.named ++ (op.Store w.newest ∷ asked)) ≤ length (front w rest) = longer_back (order_code w.order_only) (newest_code w.named ++ (op.Store w.newest ∷ asked)) in
      omega (arith, a, b)

  pub outputs_within : length w.outputs ≤ length (command_code w)
  outputs_within =
      let a : length (stat_code w.outputs) ≡ 2 * length w.outputs = stat_length w.outputs in
      let b : length (stat_code w.outputs) ≤ length (stat_code w.outputs ++ before_sweep_code (compares_basis w.baseline) w (op.Recall ∷ behind_front)) = longer_front (stat_code w.outputs) (before_sweep_code (compares_basis w.baseline) w (op.Recall ∷ behind_front)) in
      let c : length (stat_code w.outputs ++ before_sweep_code (compares_basis w.baseline) w (op.Recall ∷ behind_front)) ≤ length (command_code w) = asked_within behind_front in
      omega (arith, a, b, c)

  -- the flags are in the code before the entry
  pub before_sweep_flags : (rest : List Instr) → length w.flags ≤ length (before_sweep_code false w rest)
  before_sweep_flags rest =
      let rerun_flag : List Instr = rerun_flag_code (not (has_source_file w.named)) w.outputs w.flags in
      let a : length w.flags ≤ length rerun_flag = rerun_flag_longer (not (has_source_file w.named)) w.outputs w.flags in
      let b : length rerun_flag ≤ length (rerun_flag ++ rest) = longer_front rerun_flag rest in
      let c : length (op.Load w.newest ∷ (rerun_flag ++ rest)) ≤ length (oldest_code w.outputs ++ (op.Load w.newest ∷ (rerun_flag ++ rest))) = longer_back (oldest_code w.outputs) (op.Load w.newest ∷ (rerun_flag ++ rest)) in
      omega (arith, a, b, c)

  -- or they are in the code that prepares the sweep
  pub under_flags : (looks : Bool) (rest : List Instr) → length w.flags ≤ length (under_code looks w rest)
  under_flags looks rest =
      let rerun_flag : List Instr = rerun_flag_code looks w.outputs w.flags in
      let a : length w.flags ≤ length rerun_flag = rerun_flag_longer looks w.outputs w.flags in
      let b : length rerun_flag ≤ length (rerun_flag ++ (op.Swap ∷ rest)) = longer_front rerun_flag (op.Swap ∷ rest) in
      omega (arith, a, b)

  pub ready_flags : (b : Baseline) → compares_basis b ≡ true → (rest : List Instr) → length w.flags ≤ length (ready_code b w rest)
  ready_flags Outputs is rest = absurd cc
  ready_flags Basis is rest = under_flags true rest
  ready_flags OutputsAndBasis is rest =
      let tail : List Instr = op.Older ∷ under_code (not (has_source_file w.named)) w rest in
      let a : length w.flags ≤ length (under_code (not (has_source_file w.named)) w rest) = under_flags (not (has_source_file w.named)) rest in
      let b : length tail ≤ length (oldest_code w.outputs ++ tail) = longer_back (oldest_code w.outputs) tail in
      omega (arith, a, b)

  pub same_command_within : (g : Bool) (at : ℕ) → (place : ℕ) × (length (same_command_code w place) ≤ length (from_entry_code g w at))
  same_command_within true at = by_basis (compares_basis w.baseline) where
    by_basis : (r : Bool) → (place : ℕ) × (length (same_command_code w place) ≤ length (pass_code r w at))
    by_basis true =
        let tail : List Instr = op.Jump (known_place w at + 1) ∷ op.Drop ∷ same_command_code w (known_place w at + 1) in
        let l : length tail ≤ length (oldest_code w.outputs ++ tail) = longer_back (oldest_code w.outputs) tail in (known_place w at + 1, omega (arith, l))
    by_basis false = (at + 2, omega arith)
  same_command_within false at =
      let place : ℕ = same_place w at in
      let other : List Instr = other_code w (dirty_place w place) (same_command_code w place) in
      let l : length (op.JumpIf place ∷ other) ≤ length (same_code w.blank w.command ++ (op.JumpIf place ∷ other)) = longer_back (same_code w.blank w.command) (op.JumpIf place ∷ other) in
      let s : suc (suc (suc (suc (length (same_command_code w place))))) < length other = skip_long (compares_basis w.baseline) (op.Sweep ∷ op.Drop ∷ op.Drop ∷ op.Jump (dirty_place w place) ∷ same_command_code w place) in
      (place, omega (arith, l, s))

  pub flags_within : length w.flags ≤ length (command_code w)
  flags_within = by_basis (compares_basis w.baseline) refl where
    by_basis : (r : Bool) → compares_basis w.baseline ≡ r → length w.flags ≤ length (command_code w)
    by_basis true is =
        let j = same_command_within w.generator (length (front w [])) in
        let a : length w.flags ≤ length (same_command_code w j.0) = ready_flags w.baseline is (age_test_code w (j.0 + ready_len w)) in
        let b : length (same_command_code w j.0) ≤ length behind_front = j.1 in
        let c : length behind_front ≤ length (command_code w) = from_entry_within in
        omega (arith, a, b, c)
    by_basis false is =
        let rest : List Instr = op.Recall ∷ behind_front in
        let a : length w.flags ≤ length (before_sweep_code (compares_basis w.baseline) w rest) = subst (λ (r : Bool). length w.flags ≤ length (before_sweep_code r w rest)) (sym is) (before_sweep_flags rest) in
        let b : length (before_sweep_code (compares_basis w.baseline) w rest) ≤ length (stat_code w.outputs ++ before_sweep_code (compares_basis w.baseline) w rest) = longer_back (stat_code w.outputs) (before_sweep_code (compares_basis w.baseline) w rest) in
        let c : length (stat_code w.outputs ++ before_sweep_code (compares_basis w.baseline) w rest) ≤ length (command_code w) = asked_within behind_front in
        omega (arith, a, b, c)

-- code that is longer than a body may be
pub emitted_over : (is : List Instr) (n : ℕ) → 65536 < n → n ≤ length is → emitted is ≡ Err Limit
emitted_over is n over within = ap (λ (b : Bool). if b then Err Limit else Ok is) (lt-ltb 65536 (length is) (omega (arith, over, within)))
