use Rattle.std.proofs.Common.{◌≡◌, ◌∙◌, ◌≤◌, ◌+◌, List, ap, sym, subst, arith, length, bytes_eq}
use Rattle.plan_compile.specs.declared.text_key.HeldKey.{HeldKey}
use Rattle.plan_compile.specs.Names.{Text, text_number}
use Rattle.plan_compile.specs.Numbering.{with_item}
use Rattle.plan_compile.proofs.TextLemmas.{shown, shown_insert, number_shown, number_put_shown, number_most, item_more}
use Rattle.plan_compile.proofs.names.Texts.put.Goals as goal

pub word-requires : goal.word-requires
word-requires c =
    let keys = c.self.inside.texts.keys in
    let key : HeldKey = record { text = c.args.text } in
    let is : c.in_ok-number.number ≡ text_number (shown keys) c.args.text = c.in_ok-number.ensures.index ∙ number_shown key keys in
    let most : text_number (shown keys) c.args.text ≤ length (shown keys) = number_most (shown keys) c.args.text in
    omega (arith, is, most, ap (λ (us : List Text). length us) c.self.view_is, c.requires)

pub returns-clause-texts : goal.returns-clause-texts
returns-clause-texts c =
    let key : HeldKey = record { text = c.args.text } in
    subst (λ (us : List Text). shown c.insert_full.new.self.keys ≡ with_item bytes_eq us c.args.text) c.self.view_is
    (ap shown c.in_ok-number.ensures.keys ∙ shown_insert c.self.inside.texts.keys key)

pub returns-clause-number : goal.returns-clause-number
returns-clause-number c =
    let key : HeldKey = record { text = c.args.text } in
    c.word.ensures ∙ c.in_ok-number.ensures.index ∙ number_put_shown key c.self.inside.texts.keys
    ∙ ap (λ (us : List Text). text_number (with_item bytes_eq us c.args.text) c.args.text) c.self.view_is
    ∙ ap (λ (us : List Text). text_number us c.args.text) (sym (returns-clause-texts c))

pub returns-clause-few : goal.returns-clause-few
returns-clause-few c =
    let more : length (with_item bytes_eq c.args.self.now c.args.text) ≤ length c.args.self.now + 1 = item_more bytes_eq c.args.self.now c.args.text in
    omega (arith, more, ap (λ (us : List Text). length us) (returns-clause-texts c))
