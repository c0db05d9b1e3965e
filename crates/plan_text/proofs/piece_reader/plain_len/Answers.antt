use Rattle.std.proofs.Common.{◌∙◌, ap, sym}
use Rattle.std.specs.List.{position_or_len}
use Rattle.plan_text.specs.Gathering.{is_special}
use Rattle.plan_text.specs.declared.piece_reader.Mode.{Mode}
use Rattle.plan_text.specs.declared.piece_reader.Mode.TheVariants.{Value}
use Rattle.plan_text.proofs.RunReaderLemmas.{first_or_len}
use Rattle.plan_text.proofs.piece_reader.plain_len.Goals as goal

pub returns-in-Path-clause-len : goal.returns-in-Path-clause-len
returns-in-Path-clause-len c =
    c.plain_path_len.ensures.len
    ∙ sym (ap (λ (m : Mode). position_or_len (is_special m) c.args.text.now) c.in-Path.is)

pub returns-in-Value-clause-len : goal.returns-in-Value-clause-len
returns-in-Value-clause-len c =
    c.unwrap_or.ensures ∙ first_or_len (is_special Value) c.args.text.now c.memchr2.result c.memchr2.ensures
    ∙ sym (ap (λ (m : Mode). position_or_len (is_special m) c.args.text.now) c.in-Value.is)
