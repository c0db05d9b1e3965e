use Rattle.std.proofs.Common.{◌≡◌, ◌+◌, length, drop}
use Rattle.std.specs.List.{flat_map}
use Rattle.plan_image.specs.Columns.{lent_instrs}
use Rattle.plan_image.specs.Spelling.{instr}
use Rattle.plan_image.proofs.sizes.instrs_room.Given as goal

abbrev pub invariant-loop-place : goal.invariant-loop-place
invariant-loop-place l = l.room + length (flat_map instr (drop l.place (lent_instrs l.instrs))) ≡ l.left + length (flat_map instr (lent_instrs l.instrs))
