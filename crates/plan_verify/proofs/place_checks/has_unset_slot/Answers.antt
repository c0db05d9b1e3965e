use Rattle.std.proofs.Common.{refl}
use Rattle.plan_verify.proofs.OwnSetLemmas.{all_set}
use Rattle.plan_verify.proofs.place_checks.has_unset_slot.Goals as goal

pub returns-in-End : goal.returns-in-End
returns-in-End c = rw (c.in-End.is, c.len.ensures, c.requires.own, all_set c.args.parts.now c.args.edge c.args.set.now c.requires.set) refl
