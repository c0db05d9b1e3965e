-- Equality of bodies, instruction by instruction, each as one number of its sort and its operand. A code is
-- given by the key of its body and the operands that are left open.
use Rattle.std.specs.Prelude.{◌≡◌, ◌<◌, ◌^◌, ◌+◌, ◌-◌, ◌*◌, ◌/◌, ◌%◌, nat_lt, ℕ, Bool, List, [], ◌∷◌, bytes_eq, All, if◌then◌else◌}
use Rattle.plan_image.specs.Bodies.{body_of, leave_open, operands_of, put, with_operands}
use Rattle.plan_image.specs.Opcodes.{instr_by, opcode, operand_or_zero}
use Rattle.plan_image.specs.declared.body.Instr.{Instr}
use Rattle.plan_image.specs.declared.body.BodyInstr.{BodyInstr}
use Rattle.plan_image.specs.declared.body.BodyInstr.TheVariants as member

abbrev pub Body : Type 0
Body = List BodyInstr

-- the sort of an instruction is its opcode, and 32 more if it is left open; and its operand
abbrev pub numbers_of : BodyInstr → ℕ × ℕ
numbers_of (member.Fixed i) = (opcode i, operand_or_zero i)
numbers_of (member.Open o) = (opcode (put o 0) + 32, 0)

-- an instruction of a body as one number: its operand, and its sort in the last six bits
abbrev pub member_number : BodyInstr → ℕ
member_number m = (numbers_of m).1 * 64 + (numbers_of m).0

abbrev pub key_of : Body → List ℕ
key_of [] = []
key_of (m ∷ ms) = member_number m ∷ key_of ms

abbrev pub same_body : Body → Body → Bool
same_body a b = bytes_eq (key_of a) (key_of b)

-- ---- back again

-- the instruction of a sort with this operand
abbrev pub member_by : ℕ → ℕ → BodyInstr
member_by k n = if nat_lt k 32 then member.Fixed (instr_by k n) else leave_open (instr_by (k - 32) n)

-- the instruction of such a number
abbrev pub member_at : ℕ → BodyInstr
member_at x = member_by (x % 64) (x / 64)

-- the body of a key
abbrev pub body_at : List ℕ → Body
body_at [] = []
body_at (x ∷ xs) = member_at x ∷ body_at xs

-- the code of a key and the operands that are left open
abbrev pub code_at : List ℕ → List ℕ → List Instr
code_at key operands = with_operands (body_at key) operands

-- the operand fits into 32 bits
abbrev pub IsSmall : ℕ → Type 0
IsSmall x = x < 2 ^ 38

-- the key and the operands are those of a code
abbrev pub AreOf : (key operands : List ℕ) → List Instr → Type 0
AreOf key operands code = (key ≡ key_of (body_of code)) × (operands ≡ operands_of code) × All IsSmall key
