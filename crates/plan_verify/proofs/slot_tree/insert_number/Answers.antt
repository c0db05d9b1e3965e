use Rattle.std.proofs.Common.{◌≡◌, List, ℕ, sym, ap, subst, ◌∙◌}
use Rattle.std.specs.Prelude.{Ok, Err}
use Rattle.std.specs.List.{insert}
use Rattle.std.proofs.lemmas.List.Sorted.{searched}
use Rattle.plan_image.specs.Spelling.{AscendsFrom}
use Rattle.plan_verify.specs.Members.{with_member}
use Rattle.plan_verify.proofs.SlotSetLemmas.{rises, with_member_at, inserted}
use Rattle.plan_verify.proofs.slot_tree.insert_number.Goals as goal

pub returns-in-Ok : goal.returns-in-Ok
returns-in-Ok c =
    let same : c.deref.result.now ≡ c.args.held.now.items = c.deref.ensures.value in
    let up = subst (λ (xs : List ℕ). AscendsFrom 0 xs) (sym same) c.requires in
    let place = searched c.deref.result.now c.args.number (Ok c.in-Ok.field-0) c.in-Ok.ensures.position (rises 0 c.deref.result.now up) in
    sym same ∙ sym (with_member_at 0 c.args.number c.deref.result.now c.in-Ok.field-0 up place.0 place.1) ∙ ap (λ (xs : List ℕ). with_member c.args.number xs) same

pub returns-in_ok-insert-in-Err : goal.returns-in_ok-insert-in-Err
returns-in_ok-insert-in-Err c =
    let same : c.deref.result.now ≡ c.args.held.now.items = c.deref.ensures.value in
    let up = subst (λ (xs : List ℕ). AscendsFrom 0 xs) (sym same) c.requires in
    let place = searched c.deref.result.now c.args.number (Err c.in-Err.at) c.in-Err.ensures.position (rises 0 c.deref.result.now up) in
    c.in_ok-insert-in-Err.ensures.items ∙ ap (λ (xs : List ℕ). insert xs c.in-Err.at c.args.number) (sym c.deref.ensures.value)
    ∙ inserted c.args.number c.deref.result.now c.in-Err.at place.0 place.1 place.2 ∙ ap (λ (xs : List ℕ). with_member c.args.number xs) same
