use Rattle.std.proofs.Common.{◌≡◌, drop}
use Rattle.plan_verify.specs.Members.{is_member}
use Rattle.plan_scan.proofs.phonies.has_number.Given as goal

abbrev pub invariant-loop-other : goal.invariant-loop-other
invariant-loop-other l = is_member l.number (drop l.other-index l.numbers) ≡ is_member l.number l.numbers
