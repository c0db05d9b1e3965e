use Rattle.std.proofs.Common.{◌≡◌, ◌≤◌, ◌<◌, ◌+◌, ◌==◌, ◌∷◌, List, ℕ, length, take, drop, ap, sym, subst, ◌∙◌}
use Rattle.std.specs.List.{position_or_len}
use Rattle.std.proofs.lemmas.List.{take_rest}
use Rattle.std.proofs.lemmas.List.Splits.{slice_split_first}
use Rattle.plan_trace.specs.Words.{parts_at}
use Rattle.plan_trace.proofs.WordsLemmas.{whole}
use Rattle.plan_trace.proofs.words.cut_at.Goals as goal

pub returns-then-len-text-clause-whole : goal.returns-then-len-text-clause-whole
returns-then-len-text-clause-whole c =
    let is : c.position_of-len.result ≡ position_or_len (λ b. b == c.args.at) c.args.text.now = c.position_of-len.ensures in
    whole (λ b. b == c.args.at) c.args.text.now (subst (λ (n : ℕ). length c.args.text.now ≤ n) is c.if-len-text.true)

pub returns-clause-cut : goal.returns-clause-cut
returns-clause-cut c =
    let text = c.args.text.now in
    let n = c.position_of-len.result in
    let is : n ≡ position_or_len (λ b. b == c.args.at) text = c.position_of-len.ensures in
    let cut : parts_at c.args.at text ≡ take (position_or_len (λ b. b == c.args.at) text) text ∷ parts_at c.args.at (drop (position_or_len (λ b. b == c.args.at) text + 1) text)
    = slice_split_first (λ b. b == c.args.at) text 0 (subst (λ (k : ℕ). k < length text) is c.if-len-text.false) in
    let placed : parts_at c.args.at text ≡ take n text ∷ parts_at c.args.at (drop (n + 1) text)
    = cut ∙ ap (λ (k : ℕ). take k text ∷ parts_at c.args.at (drop (k + 1) text)) (sym is) in
    placed ∙ ap (λ (rest : List ℕ). take n text ∷ parts_at c.args.at rest) (sym (take_rest text (n + 1)))
