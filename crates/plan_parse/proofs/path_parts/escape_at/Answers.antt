use Rattle.std.proofs.Common.{arith}
use Rattle.plan_parse.proofs.PartLemmas.{escape_part}
use Rattle.plan_parse.proofs.path_parts.escape_at.Goals as goal

pub returns-in-Some : goal.returns-in-Some
returns-in-Some c =
    let within = c.in-Some.ensures.within in (
      omega arith,
      omega (arith, within),
      escape_part c.args.at c.args.text.now c.part_of_escape.result c.in-Some.len within c.part_of_escape.ensures.sign c.part_of_escape.ensures.short,
    )
