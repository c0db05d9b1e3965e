use Rattle.std.proofs.Common.{sym}
use Rattle.plan_parse.proofs.PartLemmas.{braced_escape, bare_escape, sized}
use Rattle.plan_parse.proofs.path_parts.part_of_escape.Goals as goal

pub returns-then-first-eq123-clause-sign : goal.returns-then-first-eq123-clause-sign
returns-then-first-eq123-clause-sign c = braced_escape c.args.text.now c.args.len (sized c.args.text.now c.args.len c.requires.size) c.if-first-eq123.true c.requires.size

pub returns-else-first-eq123-clause-sign : goal.returns-else-first-eq123-clause-sign
returns-else-first-eq123-clause-sign c = bare_escape c.args.text.now c.args.len (sym c.if-is_escaped.ensures) (sym c.if-begins_line_end.ensures) c.if-first-eq123.false c.requires.size
