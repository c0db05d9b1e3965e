use Rattle.std.proofs.Common.{sym}
use Rattle.std.specs.Prelude.{Err}
use Rattle.std.proofs.lemmas.List.Sorted.{searched}
use Rattle.plan_verify.proofs.SlotSetLemmas.{rises, not_member_at}
use Rattle.plan_verify.proofs.slot_tree.has_number.Goals as goal

pub returns-in-Err : goal.returns-in-Err
returns-in-Err c =
    let place = searched c.args.numbers.now c.args.number (Err c.in-Err.field-0) c.in-Err.ensures.position (rises 0 c.args.numbers.now c.requires) in
    sym (not_member_at c.args.number c.args.numbers.now c.in-Err.field-0 place.1 place.2)
