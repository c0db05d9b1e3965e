use Rattle.std.proofs.Common.{drop, arith}
use Rattle.plan_compile.specs.Slots.{stamps}
use Rattle.plan_compile.proofs.PlanLemmas.{room_left}
use Rattle.plan_compile.proofs.slots.add_sharing_slots.Goals as goal

pub slot-requires : goal.slot-requires
slot-requires c =
    let room = room_left c.args.slots.now.items c.loop-file.slots.items c.args.owner (stamps (drop c.loop-file.file-index c.args.files.now)) (stamps c.args.files.now) c.loop-file.invariant.0 in
    omega (arith, room, c.requires)
