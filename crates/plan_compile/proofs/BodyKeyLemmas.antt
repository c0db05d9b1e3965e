-- Bodies with the same numbers are equal.
use Rattle.std.proofs.Common.{◌≡◌, ℕ, ◌+◌, ◌*◌, ◌/◌, ◌<◌, true, false, [], ◌∷◌, refl, sym, ap, ◌∙◌, arith}
use Rattle.std.proofs.lemmas.Nat.{div-mul-add, mod-mul-add}
use Rattle.std.proofs.lemmas.Slice.Eq.{bytes_eq-Decides}
use Rattle.plan_image.specs.declared.body.Instr.TheVariants as op
use Rattle.plan_image.specs.declared.body.Opening.TheVariants as opening
use Rattle.plan_image.specs.declared.body.BodyInstr.{BodyInstr}
use Rattle.plan_image.specs.declared.body.BodyInstr.TheVariants as member
use Rattle.plan_compile.specs.BodyKeys.{Body, numbers_of, member_by, member_number, member_at, body_at, key_of, same_body}
use Rattle.plan_compile.proofs.NumberingLemmas.{Decides}

small : (m : BodyInstr) → (numbers_of m).0 < 64
small (member.Fixed op.End) = omega arith
small (member.Fixed (op.Stat n)) = omega arith
small (member.Fixed (op.Need n)) = omega arith
small (member.Fixed (op.Load n)) = omega arith
small (member.Fixed (op.Store n)) = omega arith
small (member.Fixed op.Older) = omega arith
small (member.Fixed op.Newer) = omega arith
small (member.Fixed op.Before) = omega arith
small (member.Fixed op.Same) = omega arith
small (member.Fixed op.IsMissing) = omega arith
small (member.Fixed op.Or) = omega arith
small (member.Fixed op.Not) = omega arith
small (member.Fixed (op.Flag false)) = omega arith
small (member.Fixed (op.Flag true)) = omega arith
small (member.Fixed op.Zero) = omega arith
small (member.Fixed op.NoPaths) = omega arith
small (member.Fixed (op.Text n)) = omega arith
small (member.Fixed op.Join) = omega arith
small (member.Fixed op.Equal) = omega arith
small (member.Fixed op.Recall) = omega arith
small (member.Fixed op.Sweep) = omega arith
small (member.Fixed (op.Jump n)) = omega arith
small (member.Fixed (op.JumpIf n)) = omega arith
small (member.Fixed op.Take) = omega arith
small (member.Fixed op.Release) = omega arith
small (member.Fixed op.Run) = omega arith
small (member.Fixed op.Deps) = omega arith
small (member.Fixed op.Keep) = omega arith
small (member.Fixed op.Drop) = omega arith
small (member.Fixed op.Swap) = omega arith
small (member.Open opening.Stat) = omega arith
small (member.Open opening.Need) = omega arith
small (member.Open opening.Load) = omega arith
small (member.Open opening.Store) = omega arith
small (member.Open opening.Text) = omega arith

back : (m : BodyInstr) → member_by (numbers_of m).0 (numbers_of m).1 ≡ m
back (member.Fixed op.End) = refl
back (member.Fixed (op.Stat n)) = refl
back (member.Fixed (op.Need n)) = refl
back (member.Fixed (op.Load n)) = refl
back (member.Fixed (op.Store n)) = refl
back (member.Fixed op.Older) = refl
back (member.Fixed op.Newer) = refl
back (member.Fixed op.Before) = refl
back (member.Fixed op.Same) = refl
back (member.Fixed op.IsMissing) = refl
back (member.Fixed op.Or) = refl
back (member.Fixed op.Not) = refl
back (member.Fixed (op.Flag false)) = refl
back (member.Fixed (op.Flag true)) = refl
back (member.Fixed op.Zero) = refl
back (member.Fixed op.NoPaths) = refl
back (member.Fixed (op.Text n)) = refl
back (member.Fixed op.Join) = refl
back (member.Fixed op.Equal) = refl
back (member.Fixed op.Recall) = refl
back (member.Fixed op.Sweep) = refl
back (member.Fixed (op.Jump n)) = refl
back (member.Fixed (op.JumpIf n)) = refl
back (member.Fixed op.Take) = refl
back (member.Fixed op.Release) = refl
back (member.Fixed op.Run) = refl
back (member.Fixed op.Deps) = refl
back (member.Fixed op.Keep) = refl
back (member.Fixed op.Drop) = refl
back (member.Fixed op.Swap) = refl
back (member.Open opening.Stat) = refl
back (member.Open opening.Need) = refl
back (member.Open opening.Load) = refl
back (member.Open opening.Store) = refl
back (member.Open opening.Text) = refl

member_back : (m : BodyInstr) → member_at (member_number m) ≡ m
member_back m =
    let k : ℕ = (numbers_of m).0 in
    let n : ℕ = (numbers_of m).1 in
    ap (λ (j : ℕ). member_by j ((n * 64 + k) / 64)) (mod-mul-add n 64 k (small m)) ∙ ap (λ (j : ℕ). member_by k j) (div-mul-add n 64 k (small m)) ∙ back m

pub body_back : (b : Body) → body_at (key_of b) ≡ b
body_back [] = refl
body_back (m ∷ ms) = ap (λ (x : BodyInstr). x ∷ body_at (key_of ms)) (member_back m) ∙ ap (λ (xs : Body). m ∷ xs) (body_back ms)

pub bodies_decide : Decides same_body
bodies_decide = record {
  tells = λ a b e. sym (body_back a) ∙ ap body_at ((bytes_eq-Decides (key_of a) (key_of b)).0 e) ∙ body_back b;
  self = λ a. (bytes_eq-Decides (key_of a) (key_of a)).1 refl;
}
