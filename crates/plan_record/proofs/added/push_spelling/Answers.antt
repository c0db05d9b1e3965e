use Rattle.std.proofs.Common.{◌≡◌, ◌∙◌, ◌++◌, ◌∷◌, [], List, ℕ, ap, subst, sym}
use Rattle.plan_record.specs.Added.{AreHeld, entries_from}
use Rattle.plan_record.specs.Entries.{EntryData}
use Rattle.plan_record.specs.Entry.{data_of}
use Rattle.plan_record.specs.Reading.{entry_at}
use Rattle.plan_record.proofs.AddedLemmas.{entries_put, entries_stay, held_put, held_stays, on_err}
use Rattle.plan_record.proofs.added.push_spelling.Goals as goal

pub returns-in_err-cut_spelling-clause-held : goal.returns-in_err-cut_spelling-clause-held
returns-in_err-cut_spelling-clause-held c = held_stays c.args.chunks.now c.cut_spelling.new.chunks c.args.rows.now c.in_err-cut_spelling.ensures.keeps c.requires.held

pub returns-in_err-cut_spelling-clause-unchanged : goal.returns-in_err-cut_spelling-clause-unchanged
returns-in_err-cut_spelling-clause-unchanged c =
    on_err c.from_residual.result (entries_stay c.args.chunks.now c.cut_spelling.new.chunks c.args.rows.now c.in_err-cut_spelling.ensures.keeps c.requires.held)

pub returns-in_err-push-clause-held : goal.returns-in_err-push-clause-held
returns-in_err-push-clause-held c =
    subst (AreHeld c.cut_spelling.new.chunks) (sym c.in_err-push.ensures.refused)
    (held_stays c.args.chunks.now c.cut_spelling.new.chunks c.args.rows.now c.in_ok-cut_spelling.ensures.keeps c.requires.held)

pub returns-in_err-push-clause-unchanged : goal.returns-in_err-push-clause-unchanged
returns-in_err-push-clause-unchanged c =
    on_err c.from_residual-in_err-push.result
    (ap (entries_from c.cut_spelling.new.chunks) c.in_err-push.ensures.refused
    ∙ entries_stay c.args.chunks.now c.cut_spelling.new.chunks c.args.rows.now c.in_ok-cut_spelling.ensures.keeps c.requires.held)

pub returns-clause-held : goal.returns-clause-held
returns-clause-held c =
    let now : List (List ℕ) = c.cut_spelling.new.chunks in
    let rows : List (List ℕ) = c.args.rows.now in
    let ns : List ℕ = c.cut_spelling.new.numbers.items in
    let more : c.push.new.self ≡ rows ++ ns ∷ [] = c.in_ok-push.ensures.more ∙ ap (λ (ms : List ℕ). rows ++ ms ∷ []) c.deref.ensures.value in
    let cut = c.in_ok-cut_spelling.ensures in
    subst (AreHeld now) (sym more) (held_put now rows ns c.args.spelling.now (held_stays c.args.chunks.now now rows cut.keeps c.requires.held) cut.below cut.spelled c.requires.placed)

pub returns-clause-added : goal.returns-clause-added
returns-clause-added c =
    let now : List (List ℕ) = c.cut_spelling.new.chunks in
    let rows : List (List ℕ) = c.args.rows.now in
    let ns : List ℕ = c.cut_spelling.new.numbers.items in
    let more : c.push.new.self ≡ rows ++ ns ∷ [] = c.in_ok-push.ensures.more ∙ ap (λ (ms : List ℕ). rows ++ ms ∷ []) c.deref.ensures.value in
    let cut = c.in_ok-cut_spelling.ensures in
    ap (entries_from now) more ∙ entries_put now rows ns c.args.spelling.now cut.spelled
    ∙ ap (λ (es : List EntryData). es ++ data_of (entry_at c.args.spelling.now) ∷ []) (entries_stay c.args.chunks.now now rows cut.keeps c.requires.held)
