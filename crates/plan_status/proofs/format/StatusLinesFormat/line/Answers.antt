use Rattle.std.proofs.Common.{◌≡◌, ◌+◌, ◌++◌, ◌∷◌, [], ℕ, List, ap, if◌then◌else◌, ◌∙◌, subst, sym}
use Rattle.plan_image.specs.declared.image.Parts.{Parts}
use Rattle.plan_status.specs.Lines.{line_of, tells_end}
use Rattle.plan_status.specs.Formats.{TellsLines}
use Rattle.plan_status.proofs.FormatLemmas.{told_more}
use Rattle.plan_status.proofs.format.StatusLinesFormat.line.Goals as goal

pub returns-clause-tells : goal.returns-clause-tells
returns-clause-tells c = λ before text told.
    let p = c.args.image.now in
    let same : c.parts-parts.result.now ≡ p = c.parts-parts.ensures.tables ∙ c.image.ensures.same in
    let n = c.in-Some.n in
    let count : n ≡ (if tells_end p c.args.mark then 1 else 0) + c.args.self.now.ended
    = c.in-Some.ensures ∙ ap (λ (q : Parts). (if tells_end q c.args.mark then 1 else 0) + c.args.self.now.ended) same in
    let line : c.in_ok-line.line.items ≡ line_of p c.args.total n c.args.mark
    = c.in_ok-line.ensures ∙ ap (λ (q : Parts). line_of q c.args.total n c.args.mark) same in
    let more : TellsLines n p c.args.total (before ++ c.args.mark ∷ []) (text ++ line_of p c.args.total n c.args.mark)
    = told_more p c.args.total c.args.self.now.ended n before text c.args.mark count told in
    subst (λ (t : List ℕ). TellsLines n p c.args.total (before ++ c.args.mark ∷ []) (text ++ t)) (sym line) more
