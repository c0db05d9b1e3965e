use Rattle.std.proofs.Common.{length, ap, arith}
use Rattle.plan_compile.specs.declared.slot_pattern.SlotPattern.{SlotPattern}
use Rattle.plan_compile.specs.Slots.{kinds_by}
use Rattle.plan_compile.proofs.PlanLemmas.{pairs_length, stamps_length}
use Rattle.plan_compile.proofs.slots.own_len.Goals as goal

pub returns-in-OneFlag : goal.returns-in-OneFlag
returns-in-OneFlag c = omega (arith, stamps_length c.args.files.now, ap (λ (f : SlotPattern). length (kinds_by f c.args.files.now)) c.in-OneFlag.is)

pub returns-in-OwnFlags : goal.returns-in-OwnFlags
returns-in-OwnFlags c = omega (arith, pairs_length c.args.files.now, ap (λ (f : SlotPattern). length (kinds_by f c.args.files.now)) c.in-OwnFlags.is)

pub returns-in-Alone : goal.returns-in-Alone
returns-in-Alone c = omega (arith, pairs_length c.args.files.now, ap (λ (f : SlotPattern). length (kinds_by f c.args.files.now)) c.in-Alone.is)
