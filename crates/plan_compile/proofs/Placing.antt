-- The places of the parts of an edge's code.
use Rattle.std.proofs.Common.{◌≡◌, ℕ, zero, suc, ◌+◌, Bool, true, false, List, [], ◌∷◌, ◌++◌, length, drop, refl, sym, ap, ◌∙◌, arith, append_assoc}
use Rattle.std.specs.Prelude.{not}
use Rattle.plan_image.specs.declared.body.Instr.{Instr}
use Rattle.plan_image.specs.declared.body.Instr.TheVariants as op
use Rattle.plan_compile.specs.declared.baseline.Baseline.{Baseline}
use Rattle.plan_compile.specs.declared.baseline.Baseline.TheVariants.{Outputs, Basis, OutputsAndBasis}
use Rattle.plan_compile.specs.declared.layout.CommandLayout.{CommandLayout}
use Rattle.plan_compile.specs.Emit.{compares_basis, has_source_file, order_code, newest_code, stat_code, oldest_code, rerun_flag_code, before_sweep_code, front, same_code, under_code, ready_code, ready_len, skip_code, clean_code, clean_len, run_code, dirty_code, age_test_code, same_command_code, dirty_place, other_code, same_place, compare_code, known_place, pass_code, from_entry_code, command_code}

pub drop_twice : {I : Type 0} (code : List I) (a b : ℕ) → drop a (drop b code) ≡ drop (b + a) code
drop_twice code a zero = let e : 0 + a ≡ a = omega arith in ap (λ n. drop n code) (sym e)
drop_twice [] zero (suc b) = let e : suc b + 0 ≡ suc b = omega arith in ap (λ n. drop n []) (sym e)
drop_twice [] (suc a) (suc b) = let e : suc b + suc a ≡ suc (b + suc a) = omega arith in ap (λ n. drop n []) (sym e)
drop_twice (i ∷ code) a (suc b) = let e : suc b + a ≡ suc (b + a) = omega arith in drop_twice code a b ∙ ap (λ n. drop n (i ∷ code)) (sym e)

pub drop_all : {I : Type 0} (xs ys : List I) → drop (length xs) (xs ++ ys) ≡ ys
drop_all [] ys = refl
drop_all (x ∷ xs) ys = drop_all xs ys

-- the code after a part
pub behind : (code : List Instr) (at : ℕ) (xs ys : List Instr) → drop at code ≡ xs ++ ys → drop (at + length xs) code ≡ ys
behind code at xs ys h = sym (drop_twice code (length xs) at) ∙ (ap (λ (zs : List Instr). drop (length xs) zs) h ∙ drop_all xs ys)

-- ---- fragments that take what follows as an argument

pub before_sweep_app : (basis : Bool) (w : CommandLayout) (xs rest : List Instr) → before_sweep_code basis w (xs ++ rest) ≡ before_sweep_code basis w xs ++ rest
before_sweep_app true w xs rest = refl
before_sweep_app false w xs rest =
    let rerun_flag : List Instr = rerun_flag_code (not (has_source_file w.named)) w.outputs w.flags in
    ap (λ (ys : List Instr). oldest_code w.outputs ++ (op.Load w.newest ∷ ys)) (sym (append_assoc rerun_flag xs rest))
    ∙ sym (append_assoc (oldest_code w.outputs) (op.Load w.newest ∷ (rerun_flag ++ xs)) rest)

pub front_app : (w : CommandLayout) (rest : List Instr) → front w rest ≡ front w [] ++ rest
front_app w rest =
    let inner : List Instr → List Instr = λ xs. before_sweep_code (compares_basis w.baseline) w (op.Recall ∷ xs) in
    let e1 : inner rest ≡ inner [] ++ rest = before_sweep_app (compares_basis w.baseline) w (op.Recall ∷ []) rest in
    let e2 : stat_code w.outputs ++ inner rest ≡ (stat_code w.outputs ++ inner []) ++ rest =
    ap (λ (xs : List Instr). stat_code w.outputs ++ xs) e1 ∙ sym (append_assoc (stat_code w.outputs) (inner []) rest) in
    let e3 : newest_code w.named ++ (op.Store w.newest ∷ (stat_code w.outputs ++ inner rest)) ≡ (newest_code w.named ++ (op.Store w.newest ∷ (stat_code w.outputs ++ inner []))) ++ rest =
    ap (λ (xs : List Instr). newest_code w.named ++ (op.Store w.newest ∷ xs)) e2
    ∙ sym (append_assoc (newest_code w.named) (op.Store w.newest ∷ (stat_code w.outputs ++ inner [])) rest) in
    ap (λ (xs : List Instr). order_code w.order_only ++ xs) e3
    ∙ sym (append_assoc (order_code w.order_only) (newest_code w.named ++ (op.Store w.newest ∷ (stat_code w.outputs ++ inner []))) rest)

pub under_app : (looks : Bool) (w : CommandLayout) (rest : List Instr) → under_code looks w rest ≡ under_code looks w [] ++ rest
under_app looks w rest =
    ap (λ (xs : List Instr). op.Swap ∷ op.Load w.newest ∷ op.Swap ∷ xs) (sym (append_assoc (rerun_flag_code looks w.outputs w.flags) (op.Swap ∷ []) rest))

pub ready_app : (b : Baseline) (w : CommandLayout) (rest : List Instr) → ready_code b w rest ≡ ready_code b w [] ++ rest
ready_app Outputs w rest = refl
ready_app Basis w rest = under_app true w rest
ready_app OutputsAndBasis w rest =
    let looks : Bool = not (has_source_file w.named) in
    ap (λ (xs : List Instr). oldest_code w.outputs ++ (op.Older ∷ xs)) (under_app looks w rest)
    ∙ sym (append_assoc (oldest_code w.outputs) (op.Older ∷ under_code looks w []) rest)

pub skip_app : (basis : Bool) (xs rest : List Instr) → skip_code basis (xs ++ rest) ≡ skip_code basis xs ++ rest
skip_app true xs rest = refl
skip_app false xs rest = refl

-- the length of a skip doesn't depend on its target
pub skip_length : (basis : Bool) (a b : ℕ) → length (skip_code basis (op.Sweep ∷ op.Drop ∷ op.Drop ∷ op.Jump a ∷ [])) ≡ length (skip_code basis (op.Sweep ∷ op.Drop ∷ op.Drop ∷ op.Jump b ∷ []))
skip_length true a b = refl
skip_length false a b = refl

-- ---- places

module _ (code : List Instr) (w : CommandLayout) where
  -- after the flags of a clean edge
  pub past_clean : (at : ℕ) → drop at code ≡ age_test_code w at → drop (at + 5 + clean_len w) code ≡ op.End ∷ dirty_code w
  past_clean at h =
      behind code (at + 5) (clean_code w) (op.End ∷ dirty_code w)
      (behind code at (op.Sweep ∷ op.Drop ∷ op.JumpIf (at + 6 + clean_len w) ∷ op.Before ∷ op.JumpIf (at + 8 + clean_len w) ∷ []) (clean_code w ++ (op.End ∷ dirty_code w)) h)

  pub dirty_stands : (at : ℕ) → drop at code ≡ age_test_code w at → drop (at + 6 + clean_len w) code ≡ dirty_code w
  dirty_stands at h =
      let e : at + 6 + clean_len w ≡ (at + 5 + clean_len w) + 1 = omega arith in
      ap (λ (n : ℕ). drop n code) e ∙ behind code (at + 5 + clean_len w) (op.End ∷ []) (dirty_code w) (past_clean at h)

  pub run_stands : (at : ℕ) → drop at code ≡ age_test_code w at → drop (at + 8 + clean_len w) code ≡ run_code w
  run_stands at h =
      let e : at + 8 + clean_len w ≡ (at + 5 + clean_len w) + 3 = omega arith in
      ap (λ (n : ℕ). drop n code) e ∙ behind code (at + 5 + clean_len w) (op.End ∷ op.Drop ∷ op.Drop ∷ []) (run_code w) (past_clean at h)

  pub age_test_stands : (at : ℕ) → drop at code ≡ same_command_code w at → drop (at + ready_len w) code ≡ age_test_code w (at + ready_len w)
  age_test_stands at h = behind code at (ready_code w.baseline w []) (age_test_code w (at + ready_len w)) (h ∙ ready_app w.baseline w (age_test_code w (at + ready_len w)))

  -- after the comparison
  pub same_stands : (at : ℕ) → drop at code ≡ compare_code w at → drop (same_place w at) code ≡ same_command_code w (same_place w at)
  same_stands at h =
      let place : ℕ = same_place w at in
      let dirty : ℕ = dirty_place w place in
      let same : List Instr = same_code w.blank w.command in
      let jump : drop (at + length same) code ≡ op.JumpIf place ∷ other_code w dirty (same_command_code w place) =
      behind code at same (op.JumpIf place ∷ other_code w dirty (same_command_code w place)) h in
      let other : drop (at + length same + 1) code ≡ other_code w dirty (same_command_code w place) =
      behind code (at + length same) (op.JumpIf place ∷ []) (other_code w dirty (same_command_code w place)) jump in
      ap (λ (n : ℕ). drop (at + length same + 1 + n) code) (skip_length (compares_basis w.baseline) 0 dirty)
      ∙ behind code (at + length same + 1) (other_code w dirty []) (same_command_code w place)
      (other ∙ skip_app (compares_basis w.baseline) (op.Sweep ∷ op.Drop ∷ op.Drop ∷ op.Jump dirty ∷ []) (same_command_code w place))

  -- the place at which the baseline of a generator that compares the basis is known
  pub known_stands : (at : ℕ) → drop at code ≡ pass_code true w at → drop (known_place w at) code ≡ op.Drop ∷ same_command_code w (known_place w at + 1)
  known_stands at h =
      let oldest : List Instr = oldest_code w.outputs in
      let tail : List Instr = op.Drop ∷ same_command_code w (known_place w at + 1) in
      let jump : drop (at + 3 + length oldest) code ≡ op.Jump (known_place w at + 1) ∷ tail =
      behind code (at + 3) oldest (op.Jump (known_place w at + 1) ∷ tail)
      (behind code at (op.JumpIf (known_place w at) ∷ op.Drop ∷ op.Drop ∷ []) (oldest ++ (op.Jump (known_place w at + 1) ∷ tail)) h) in
      let e : known_place w at ≡ at + 3 + length oldest + 1 = omega arith in
      ap (λ (n : ℕ). drop n code) e ∙ behind code (at + 3 + length oldest) (op.Jump (known_place w at + 1) ∷ []) tail jump

  pub baseline_stands : (at : ℕ) → drop at code ≡ pass_code true w at → drop (known_place w at + 1) code ≡ same_command_code w (known_place w at + 1)
  baseline_stands at h = behind code (known_place w at) (op.Drop ∷ []) (same_command_code w (known_place w at + 1)) (known_stands at h)

  pub passed_stands : (at : ℕ) → drop at code ≡ pass_code false w at → drop (at + 2) code ≡ same_command_code w (at + 2)
  passed_stands at h = behind code at (op.Drop ∷ op.Drop ∷ []) (same_command_code w (at + 2)) h

  -- the code after the front
  pub from_entry_stands : code ≡ command_code w → drop (length (front w [])) code ≡ from_entry_code w.generator w (length (front w []))
  from_entry_stands is =
      ap (λ (xs : List Instr). drop (length (front w [])) xs) (is ∙ front_app w (from_entry_code w.generator w (length (front w []))))
      ∙ drop_all (front w []) (from_entry_code w.generator w (length (front w [])))
