use Rattle.std.proofs.Common.{arith}
use Rattle.plan_parse.proofs.PartLemmas.{plain_part, plain_bytes, byte_part}
use Rattle.plan_parse.proofs.path_parts.part_at.Goals as goal

pub returns-then-plain-gt0 : goal.returns-then-plain-gt0
returns-then-plain-gt0 c =
    let n = c.plain_len-plain.result in (
      c.if-plain-gt0.true,
      c.plain_len-plain.ensures.within,
      plain_part n c.args.at c.args.text.now c.plain_len-plain.ensures.within (plain_bytes n c.args.text.now c.plain_len-plain.ensures.len),
    )

pub returns-else-first-eq9 : goal.returns-else-first-eq9
returns-else-first-eq9 c =
    let some = c.requires in (
      omega arith,
      omega (arith, some),
      byte_part c.args.at c.args.text.now c.requires c.if-first-eq36.false c.if-first-eq0.false c.if-first-eq9.false,
    )
