use Rattle.plan_text.proofs.LineReaderLemmas.{first_goes, first_line}
use Rattle.plan_text.proofs.line_reader.split_line.Goals as goal

pub returns-clause-line : goal.returns-clause-line
returns-clause-line c =
    first_line c.args.text.now c.split_at.result.0.now c.split_at.result.1.now c.logical_len.result c.newline_len.result c.requires c.logical_len.ensures.len c.split_at.ensures.front c.split_at.ensures.back c.newline_len.ensures.len c.split_at.ensures.front_len

pub returns-clause-goes : goal.returns-clause-goes
returns-clause-goes c =
    first_goes c.args.text.now c.split_at.result.0.now c.split_at.result.1.now c.logical_len.result c.newline_len.result c.requires c.logical_len.ensures.len c.split_at.ensures.back c.newline_len.ensures.len c.split_at.ensures.front_len
