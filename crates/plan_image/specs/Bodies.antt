-- Bodies that edges share, and the operands that an edge fills in.
use Rattle.std.specs.Prelude.{◌≡◌, ℕ, suc, ◌+◌, List, [], ◌∷◌, ◌++◌, length, get_or, drop, Option, Some, None}
use Rattle.plan_image.specs.declared.body.Instr.{Instr}
use Rattle.plan_image.specs.declared.body.Instr.TheVariants as op
use Rattle.plan_image.specs.declared.body.Opening.{Opening}
use Rattle.plan_image.specs.declared.body.Opening.TheVariants as opening
use Rattle.plan_image.specs.declared.body.BodyInstr.{BodyInstr}
use Rattle.plan_image.specs.declared.body.BodyInstr.TheVariants as member

-- the number of open instructions
abbrev pub opens : List BodyInstr → ℕ
opens [] = 0
opens (member.Fixed i ∷ is) = opens is
opens (member.Open o ∷ is) = suc (opens is)

-- an open instruction with its number
abbrev pub put : Opening → ℕ → Instr
put opening.Stat n = op.Stat n
put opening.Need n = op.Need n
put opening.Load n = op.Load n
put opening.Store n = op.Store n
put opening.Text n = op.Text n

-- the body with these numbers filled in, in order; a missing number counts as 0
abbrev pub with_operands : List BodyInstr → List ℕ → List Instr
with_operands [] ns = []
with_operands (member.Fixed i ∷ is) ns = i ∷ with_operands is ns
with_operands (member.Open o ∷ is) ns = put o (get_or ns 0 0) ∷ with_operands is (drop 1 ns)

-- the number of open instructions before each instruction, plus n
abbrev pub ranks_from : ℕ → List BodyInstr → List ℕ
ranks_from n [] = []
ranks_from n (member.Fixed i ∷ is) = n ∷ ranks_from n is
ranks_from n (member.Open o ∷ is) = n ∷ ranks_from (n + 1) is

-- an instruction of a body, with the number of this rank filled in
abbrev pub instr_with_rank : List ℕ → Option BodyInstr → ℕ → Option Instr
instr_with_rank ns None rank = None
instr_with_rank ns (Some (member.Fixed i)) rank = Some i
instr_with_rank ns (Some (member.Open o)) rank = Some (put o (get_or ns rank 0))

-- the kind of an instruction if its number is left open
abbrev pub opening_of : Instr → Option Opening
opening_of (op.Stat n) = Some opening.Stat
opening_of (op.Need n) = Some opening.Need
opening_of (op.Load n) = Some opening.Load
opening_of (op.Store n) = Some opening.Store
opening_of (op.Text n) = Some opening.Text
opening_of i = None

abbrev pub leave_open : Instr → BodyInstr
leave_open (op.Stat n) = member.Open opening.Stat
leave_open (op.Need n) = member.Open opening.Need
leave_open (op.Load n) = member.Open opening.Load
leave_open (op.Store n) = member.Open opening.Store
leave_open (op.Text n) = member.Open opening.Text
leave_open i = member.Fixed i

-- the number that is left open
abbrev pub open_operand : Instr → List ℕ
open_operand (op.Stat n) = n ∷ []
open_operand (op.Need n) = n ∷ []
open_operand (op.Load n) = n ∷ []
open_operand (op.Store n) = n ∷ []
open_operand (op.Text n) = n ∷ []
open_operand i = []

-- the body of a code
abbrev pub body_of : List Instr → List BodyInstr
body_of [] = []
body_of (i ∷ is) = leave_open i ∷ body_of is

abbrev pub operands_of : List Instr → List ℕ
operands_of [] = []
operands_of (i ∷ is) = open_operand i ++ operands_of is

-- each code is its body with its numbers filled in, one for each open instruction
abbrev pub IsSplit : Type 0
IsSplit = (is : List Instr) → (with_operands (body_of is) (operands_of is) ≡ is) × (length (operands_of is) ≡ opens (body_of is))
