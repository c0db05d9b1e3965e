use Rattle.std.proofs.Common.{arith}
use Rattle.plan_verify.proofs.OwnSetLemmas.{with_ascends}
use Rattle.plan_verify.proofs.slot_tree.list_into_with.Goals as goal

pub returns-in_ok-insert_number-clause-parted : goal.returns-in_ok-insert_number-clause-parted
returns-in_ok-insert_number-clause-parted c = rw c.in_ok-insert_number.ensures (with_ascends 0 c.args.number c.args.held.items (omega arith) c.requires)
