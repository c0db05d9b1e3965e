use Rattle.std.proofs.Common.{◌∙◌, sym}
use Rattle.std.proofs.lemmas.Slice.Eq.{bytes_eq-Decides}
use Rattle.plan_text.proofs.SharedRowsLemmas.{rows_of_both}
use Rattle.plan_text.proofs.shared_rows.are_same_parts.Goals as goal

pub returns-in-Some : goal.returns-in-Some
returns-in-Some c on =
    let equal = (bytes_eq-Decides c.front.result.now c.front-in-Some.result.now).0 (sym c.eq.ensures ∙ on) in
    rows_of_both c.args.bytes.now c.args.others.now c.in-Some.end c.args.places.now c.args.other_places.now (sym c.front.ensures ∙ equal ∙ c.front-in-Some.ensures) c.in-Some.ensures.0 c.in-Some.ensures.1
