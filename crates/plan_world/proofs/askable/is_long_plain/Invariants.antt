use Rattle.std.proofs.Common.{◌≡◌, ◌&&◌, drop}
use Rattle.std.specs.List.{list_all}
use Rattle.plan_world.specs.Askable.{is_plain_byte}
use Rattle.plan_world.proofs.askable.is_long_plain.Given as goal

-- the bytes so far and those that are left decide
abbrev pub invariant-loop-byte : goal.invariant-loop-byte
invariant-loop-byte l = (l.plain && list_all is_plain_byte (drop l.byte-index l.path)) ≡ list_all is_plain_byte l.path
