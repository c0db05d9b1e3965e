use Rattle.std.proofs.Common.{arith}
use Rattle.plan_verify.proofs.OwnSetLemmas.{with_ascends}
use Rattle.plan_verify.proofs.slot_tree.list_with.Goals as goal

pub split_at_number-requires : goal.split_at_number-requires
split_at_number-requires c = rw (c.as_slice.ensures.value, c.in_ok-insert_number.ensures, c.in_ok-more.ensures.items) (with_ascends 0 c.args.number c.args.held.now (omega arith) c.requires)

pub returns-then-len-le-FEW-clause-parted : goal.returns-then-len-le-FEW-clause-parted
returns-then-len-le-FEW-clause-parted c = rw (c.in_ok-insert_number.ensures, c.in_ok-more.ensures.items) (with_ascends 0 c.args.number c.args.held.now (omega arith) c.requires)
