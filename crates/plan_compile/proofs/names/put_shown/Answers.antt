use Rattle.std.proofs.Common.{◌∙◌, List, ℕ, ap, bytes_eq, sym}
use Rattle.plan_scope.specs.TextLists.{whole}
use Rattle.plan_compile.specs.Names.{text_number}
use Rattle.plan_compile.specs.Numbering.{with_item}
use Rattle.plan_compile.proofs.NameLemmas.{label_stays, shown_once}
use Rattle.plan_compile.proofs.names.put_shown.Goals as goal

pub returns-then-is_empty-clause-texts : goal.returns-then-is_empty-clause-texts
returns-then-is_empty-clause-texts c =
    c.in_ok-number.ensures.texts ∙ ap (λ (t : List ℕ). with_item bytes_eq c.args.texts.now t) c.in_ok-join.ensures
    ∙ shown_once c.args.texts.now (whole c.args.description.now) (whole c.args.command.now) (sym c.is_empty.ensures ∙ c.if-is_empty.true)

pub returns-clause-label : goal.returns-clause-label
returns-clause-label c =
    label_stays c.args.texts.now c.put-2.new.self c.put-3.new.self (whole c.args.description.now) (whole c.args.command.now) c.in_ok-label.label (sym c.is_empty.ensures ∙ c.if-is_empty.false)
    (c.in_ok-label.ensures.texts ∙ ap (λ (t : List ℕ). with_item bytes_eq c.args.texts.now t) c.in_ok-join-2.ensures)
    (c.in_ok-label.ensures.number ∙ ap (λ (t : List ℕ). text_number c.put-2.new.self t) c.in_ok-join-2.ensures)
    (c.in_ok-command.ensures.texts ∙ ap (λ (t : List ℕ). with_item bytes_eq c.put-2.new.self t) c.in_ok-join-3.ensures)
