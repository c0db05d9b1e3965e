use Rattle.std.proofs.Common.{◌≡◌, ◌∙◌, List, ℕ, ap, subst, sym}
use Rattle.std.specs.Prelude.{Some}
use Rattle.plan_chunks.specs.Joining.{joined}
use Rattle.plan_record.specs.Entry.{IsPlaced, data_of}
use Rattle.plan_record.specs.Reading.{entry_at}
use Rattle.plan_record.proofs.AddedLemmas.{no_row, row_held, row_read}
use Rattle.plan_record.proofs.added.entry_at_row.Goals as goal

pub at_place-requires : goal.at_place-requires
at_place-requires c =
    let file : c.in_ok-file-in-Some.file.value.items ≡ joined c.args.chunks.now c.in-Some.numbers.now = ap (λ v. v.items) c.in_ok-file-in-Some.ensures.ok ∙ c.in_ok-join-in-Some.ensures in
    subst (λ (bytes : List ℕ). IsPlaced bytes 0) (sym file) (row_held c.args.chunks.now c.args.rows.now c.args.number c.in-Some.numbers.now c.requires (sym c.in-Some.ensures))

pub returns-in_ok-file-in-Some : goal.returns-in_ok-file-in-Some
returns-in_ok-file-in-Some c =
    let file : c.in_ok-file-in-Some.file.value.items ≡ joined c.args.chunks.now c.in-Some.numbers.now = ap (λ v. v.items) c.in_ok-file-in-Some.ensures.ok ∙ c.in_ok-join-in-Some.ensures in
    ap Some (c.at_place.ensures ∙ ap (λ (bytes : List ℕ). data_of (entry_at bytes)) file) ∙ sym (row_read c.args.chunks.now c.args.rows.now c.args.number c.in-Some.numbers.now (sym c.in-Some.ensures))

pub returns-in-None : goal.returns-in-None
returns-in-None c = sym (no_row c.args.chunks.now c.args.rows.now c.args.number (sym c.in-None.ensures))
