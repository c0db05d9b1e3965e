use Rattle.std.proofs.Common.{sym}
use Rattle.plan_text.specs.Bytes.{colon}
use Rattle.plan_parse.specs.declared.fault.ParseFault.TheVariants as fault
use Rattle.plan_parse.specs.Views.{place_of}
use Rattle.plan_parse.proofs.CompactLemmas.{byte_stands}
use Rattle.plan_parse.proofs.reading.outputs_at.Goals as goal

pub returns-clause-stands : goal.returns-clause-stands
returns-clause-stands c =
    let left = c.in_ok-left-2.left in
    byte_stands c.args.text.now colon (λ n. fault.ExpectedColon left.at) (place_of left) (place_of c.in_ok-behind.behind) c.in_ok-left-2.ensures.stands (sym c.in_ok-behind.ensures)
