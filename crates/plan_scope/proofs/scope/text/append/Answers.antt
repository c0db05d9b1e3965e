use Rattle.std.proofs.Common.{◌++◌, ◌<◌, length, arith, length-append}
use Rattle.std.proofs.lemmas.Grind.{common_steps}
use Rattle.plan_text.specs.Limits.{max_text}
use Rattle.plan_scope.proofs.TextLemmas.{both_long}
use Rattle.plan_scope.proofs.scope.text.append.Goals as goal

pub returns-in_ok-extend_from_slice-2-clause-appended : goal.returns-in_ok-extend_from_slice-2-clause-appended
returns-in_ok-extend_from_slice-2-clause-appended c =
    let long : max_text < length c.extend_from_slice-else-text-room.new.self.items = grind (arith, common_steps) in
    both_long c.extend_from_slice-else-text-room.new.self.items (c.args.out.now.items ++ c.args.text.now)
    long
    (omega (arith, length-append c.args.out.now.items c.args.text.now))
