-- The opcodes of instructions. The spelling of an image, the columns and the keys of bodies use this one table.
use Rattle.std.specs.Prelude.{ℕ, Bool, true, false, ◌==◌, if◌then◌else◌}
use Rattle.plan_image.specs.declared.body.Instr.{Instr}
use Rattle.plan_image.specs.declared.body.Instr.TheVariants as op

abbrev pub opcode : Instr → ℕ
opcode op.End = 0
opcode (op.Stat n) = 1
opcode (op.Need n) = 2
opcode (op.Load n) = 3
opcode (op.Store n) = 4
opcode op.Older = 5
opcode op.Newer = 6
opcode op.Before = 7
opcode op.Same = 8
opcode op.IsMissing = 9
opcode op.Or = 10
opcode op.Not = 11
opcode (op.Flag b) = 12
opcode op.Zero = 13
opcode op.NoPaths = 14
opcode (op.Text n) = 15
opcode op.Join = 16
opcode op.Equal = 17
opcode op.Recall = 18
opcode op.Sweep = 19
opcode (op.Jump n) = 20
opcode (op.JumpIf n) = 21
opcode op.Take = 22
opcode op.Release = 23
opcode op.Run = 24
opcode op.Deps = 25
opcode op.Keep = 26
opcode op.Drop = 27
opcode op.Swap = 28

abbrev pub flag_byte : Bool → ℕ
flag_byte false = 0
flag_byte true = 1

-- the operand as a number: 1 for the flag true, and 0 if there is none
abbrev pub operand_or_zero : Instr → ℕ
operand_or_zero (op.Stat n) = n
operand_or_zero (op.Need n) = n
operand_or_zero (op.Load n) = n
operand_or_zero (op.Store n) = n
operand_or_zero (op.Flag b) = flag_byte b
operand_or_zero (op.Text n) = n
operand_or_zero (op.Jump n) = n
operand_or_zero (op.JumpIf n) = n
operand_or_zero i = 0

-- the instruction of an opcode with this operand
abbrev pub instr_by : ℕ → ℕ → Instr
instr_by o n =
    if o == 1 then op.Stat n
    else if o == 2 then op.Need n
    else if o == 3 then op.Load n
    else if o == 4 then op.Store n
    else if o == 5 then op.Older
    else if o == 6 then op.Newer
    else if o == 7 then op.Before
    else if o == 8 then op.Same
    else if o == 9 then op.IsMissing
    else if o == 10 then op.Or
    else if o == 11 then op.Not
    else if o == 12 then op.Flag (n == 1)
    else if o == 13 then op.Zero
    else if o == 14 then op.NoPaths
    else if o == 15 then op.Text n
    else if o == 16 then op.Join
    else if o == 17 then op.Equal
    else if o == 18 then op.Recall
    else if o == 19 then op.Sweep
    else if o == 20 then op.Jump n
    else if o == 21 then op.JumpIf n
    else if o == 22 then op.Take
    else if o == 23 then op.Release
    else if o == 24 then op.Run
    else if o == 25 then op.Deps
    else if o == 26 then op.Keep
    else if o == 27 then op.Drop
    else if o == 28 then op.Swap
    else op.End
