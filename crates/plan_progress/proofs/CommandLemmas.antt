-- The text that is pushed right before `Run`, one instruction after another. Serves src/edge_command.rt.
use Rattle.std.proofs.Common.{◌≡◌, ℕ, zero, suc, ◌+◌, Bool, true, false, List, [], ◌∷◌, Option, Some, None, refl, sym, ap, ◌∙◌, arith, drop, if◌then◌else◌}
use Rattle.std.specs.Prelude.{slice_get}
use Rattle.std.proofs.lemmas.Option.{same_Some}
use Rattle.plan_image.specs.declared.body.Instr.{Instr}
use Rattle.plan_progress.specs.Command.{is_run, text_before_run, text_pushed}

drop_here : {A : Type 0} (xs : List A) (i : ℕ) (x : A) → slice_get xs i ≡ Some x → drop i xs ≡ x ∷ drop (i + 1) xs
drop_here [] i x h = absurd cc
drop_here {A = A} (y ∷ xs) zero x h = ap (λ (z : A). z ∷ xs) (same_Some y x h)
drop_here (y ∷ xs) (suc i) x h = let same : suc (i + 1) ≡ suc i + 1 = omega arith in drop_here xs i x h ∙ ap (λ (n : ℕ). x ∷ drop n (y ∷ xs)) same

drop_none : {A : Type 0} (xs : List A) (i : ℕ) → slice_get xs i ≡ None → drop i xs ≡ []
drop_none [] zero h = refl
drop_none [] (suc i) h = refl
drop_none (y ∷ xs) zero h = absurd cc
drop_none (y ∷ xs) (suc i) h = drop_none xs i h

-- there is no instruction more
pub ends : (last whole : Option ℕ) (xs : List Instr) (i : ℕ) → slice_get xs i ≡ None → text_before_run last (drop i xs) ≡ whole → None ≡ whole
ends last whole xs i none so_far = ap (text_before_run last) (sym (drop_none xs i none)) ∙ so_far

-- the instruction is `Run`
pub runs : (last whole : Option ℕ) (xs : List Instr) (i : ℕ) (x : Instr) → slice_get xs i ≡ Some x → is_run x ≡ true → text_before_run last (drop i xs) ≡ whole
    → last ≡ whole
runs last whole xs i x here run so_far =
    let test : last ≡ (if is_run x then last else text_before_run (text_pushed x) (drop (i + 1) xs))
    = ap (λ (b : Bool). if b then last else text_before_run (text_pushed x) (drop (i + 1) xs)) (sym run) in
    test ∙ (ap (text_before_run last) (sym (drop_here xs i x here)) ∙ so_far)

-- it is another one
pub goes_on : (last whole : Option ℕ) (xs : List Instr) (i : ℕ) (x : Instr) → slice_get xs i ≡ Some x → is_run x ≡ false → text_before_run last (drop i xs) ≡ whole
    → text_before_run (text_pushed x) (drop (i + 1) xs) ≡ whole
goes_on last whole xs i x here other so_far =
    let test : text_before_run (text_pushed x) (drop (i + 1) xs) ≡ (if is_run x then last else text_before_run (text_pushed x) (drop (i + 1) xs))
    = ap (λ (b : Bool). if b then last else text_before_run (text_pushed x) (drop (i + 1) xs)) (sym other) in
    test ∙ (ap (text_before_run last) (sym (drop_here xs i x here)) ∙ so_far)
