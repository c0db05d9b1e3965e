-- A code as the key of its body and the operands that the body leaves open.
use Rattle.std.proofs.Common.{◌≡◌, ℕ, suc, List, [], ◌∷◌, ◌++◌, length, refl, sym, ap, subst, ◌∙◌}
use Rattle.std.specs.Prelude.{All}
use Rattle.std.proofs.lemmas.List.{append_assoc, append-nil}
use Rattle.std.proofs.lemmas.List.Elements.{All-push}
use Rattle.plan_image.specs.declared.body.Instr.{Instr}
use Rattle.plan_image.specs.Bodies.{body_of, leave_open, open_operand, operands_of, with_operands, IsSplit}
use Rattle.plan_compile.specs.BodyKeys.{AreOf, Body, code_at, IsSmall, key_of, member_number}
use Rattle.plan_compile.proofs.BodyKeyLemmas.{body_back}

pub key_long : (code : List Instr) → length (key_of (body_of code)) ≡ length code
key_long [] = refl
key_long (i ∷ is) = ap suc (key_long is)

key_more : (code : List Instr) (i : Instr) → key_of (body_of (code ++ i ∷ [])) ≡ key_of (body_of code) ++ member_number (leave_open i) ∷ []
key_more [] i = refl
key_more (j ∷ is) i = ap (λ (xs : List ℕ). member_number (leave_open j) ∷ xs) (key_more is i)

operands_more : (code : List Instr) (i : Instr) → operands_of (code ++ i ∷ []) ≡ operands_of code ++ open_operand i
operands_more [] i = append-nil (open_operand i)
operands_more (j ∷ is) i = ap (λ (ns : List ℕ). open_operand j ++ ns) (operands_more is i) ∙ sym (append_assoc (open_operand j) (operands_of is) (open_operand i))

module _ (split : IsSplit) where
  pub is_code : (key operands : List ℕ) (code : List Instr) → key ≡ key_of (body_of code) → operands ≡ operands_of code → code_at key operands ≡ code
  is_code key operands code k o =
      ap (λ (xs : List ℕ). code_at xs operands) k ∙ ap (λ (ns : List ℕ). code_at (key_of (body_of code)) ns) o
      ∙ ap (λ (b : Body). with_operands b (operands_of code)) (body_back (body_of code)) ∙ (split code).0

  -- one more instruction
  module _ (key operands new_key new_operands : List ℕ) (i : Instr) (are : AreOf key operands (code_at key operands))
      (k : new_key ≡ key ++ member_number (leave_open i) ∷ []) (o : new_operands ≡ operands ++ open_operand i) where
    abbrev code : List Instr
    code = code_at key operands

    keyed : new_key ≡ key_of (body_of (code ++ i ∷ []))
    keyed = k ∙ ap (λ (xs : List ℕ). xs ++ member_number (leave_open i) ∷ []) are.0 ∙ sym (key_more code i)

    operated : new_operands ≡ operands_of (code ++ i ∷ [])
    operated = o ∙ ap (λ (ns : List ℕ). ns ++ open_operand i) are.1 ∙ sym (operands_more code i)

    pub more : code_at new_key new_operands ≡ code ++ i ∷ []
    more = is_code new_key new_operands (code ++ i ∷ []) keyed operated

    pub still : IsSmall (member_number (leave_open i)) → AreOf new_key new_operands (code_at new_key new_operands)
    still small = (
      keyed ∙ ap (λ (is : List Instr). key_of (body_of is)) (sym more),
      operated ∙ ap (λ (is : List Instr). operands_of is) (sym more),
      subst (λ (xs : List ℕ). All IsSmall xs) (sym k) (All-push IsSmall key (member_number (leave_open i)) are.2 small),
    )
