use Rattle.std.proofs.Common.{sym, subst}
use Rattle.plan_text.specs.Bytes.{equals_sign}
use Rattle.plan_parse.specs.declared.fault.ParseFault.TheVariants as fault
use Rattle.plan_parse.specs.Compact.{StandsIn}
use Rattle.plan_parse.specs.Views.{place_of}
use Rattle.plan_parse.proofs.CompactLemmas.{gap_stands, name_stands, byte_stands, variable_again}
use Rattle.plan_parse.proofs.reading.compact_binding_at.Goals as goal

pub compact_value_at-requires : goal.compact_value_at-requires
compact_value_at-requires c =
    let text = c.args.text.now in
    let start = subst (StandsIn text) (sym c.past_gap-start.ensures) (gap_stands text (place_of c.args.p) c.requires) in
    let behind = name_stands text (place_of c.past_gap-start.result) (c.in_ok-name.name.now, place_of c.in_ok-name.behind) start (sym c.in_ok-name.ensures) in
    byte_stands text equals_sign fault.ExpectedEquals (place_of c.in_ok-name.behind) (place_of c.in_ok-right.right) behind (sym c.in_ok-right.ensures)

pub returns : goal.returns
returns c =
    variable_again c.args.text.now (place_of c.args.p) (place_of c.past_gap-start.result) (place_of c.in_ok-name.behind) (place_of c.in_ok-right.right) c.in_ok-name.name.now c.in_ok-name-2.name c.in_ok-value.value
    c.requires c.past_gap-start.ensures (sym c.in_ok-name.ensures) (sym c.in_ok-right.ensures) c.in_ok-value.ensures c.in_ok-name-2.ensures.0 c.in_ok-name-2.ensures.1
