use Rattle.std.proofs.Common.{◌≤◌, ◌∙◌, length, arith}
use Rattle.memchr.specs.Find.{is_byte3}
use Rattle.plan_text.specs.Bytes.{line_feed, carriage_return, dollar}
use Rattle.plan_text.specs.Lines.{line_unit}
use Rattle.plan_text.proofs.RunReaderLemmas.{first_or_len, first_within, run_plain}
use Rattle.plan_text.proofs.LineReaderLemmas.{line_plain}
use Rattle.plan_text.proofs.line_reader.LineUnitUnit.plain_len.Goals as goal

pub returns-clause-run : goal.returns-clause-run
returns-clause-run c =
    let within : c.unwrap_or.result ≤ length c.args.text.now = omega (arith, c.unwrap_or.ensures, first_within (is_byte3 line_feed carriage_return dollar) c.args.text.now c.memchr3.result c.memchr3.ensures) in
    run_plain line_unit (is_byte3 line_feed carriage_return dollar) line_plain c.args.text.now c.unwrap_or.result within
    (c.unwrap_or.ensures ∙ first_or_len (is_byte3 line_feed carriage_return dollar) c.args.text.now c.memchr3.result c.memchr3.ensures)
