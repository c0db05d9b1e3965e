use Rattle.std.proofs.Common.{◌≡◌, ◌∙◌, ◌++◌, ◌∷◌, [], List, ℕ, ap, length}
use Rattle.plan_scope.specs.Scopes.{Text}
use Rattle.plan_scope.specs.TextLists.{texts_from}
use Rattle.plan_scope.proofs.TextListLemmas.{long_put, texts_more}
use Rattle.plan_scope.proofs.edge.text_list.push_long.Goals as goal

pub returns-clause-more : goal.returns-clause-more
returns-clause-more c =
    let before : List Text = c.args.chunks.now in
    let now : List Text = c.cut_text.new.chunks in
    let rows : List Text = c.args.rows.now in
    let long : List (List ℕ) = c.args.long.now in
    let filled : List (List ℕ) = c.fill.new.rows in
    let numbers : List ℕ = c.cut_text.new.numbers.items in
    let row : c.push.new.self ≡ rows ++ [] ∷ [] = c.in_ok-push.ensures.more in
    let last : c.push-2.new.self ≡ filled ++ numbers ∷ [] = c.in_ok-push-2.ensures.more ∙ ap (λ (ns : List ℕ). filled ++ ns ∷ []) c.deref.ensures.value in
    let full : length filled ≡ length rows = c.in_ok-fill.ensures.len ∙ c.len.ensures in
    let more = c.in_ok-cut_text.ensures.more in
    let same : texts_from now rows long ≡ texts_from before rows long = ap (λ (cs : List Text). texts_from cs rows long) more.1 ∙ texts_more before more.0 rows long c.requires.1 in
    ap (λ (r : List Text). texts_from now r c.push-2.new.self) row ∙ ap (texts_from now (rows ++ [] ∷ [])) last ∙ long_put now rows filled numbers full
    ∙ ap (λ (t : Text). texts_from now rows filled ++ t ∷ []) c.in_ok-cut_text.ensures.text
    ∙ ap (λ (ts : List Text). ts ++ c.args.text.now ∷ []) (c.in_ok-fill.ensures.texts now rows ∙ same)
