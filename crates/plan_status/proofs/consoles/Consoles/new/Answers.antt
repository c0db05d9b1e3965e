use Rattle.std.proofs.Common.{rules, ◌≡◌, ◌∙◌, ap, Bool, false, List, get_or, length, refl, replicate}
use Rattle.plan_status.proofs.ConsolesLemmas.{looked_none}
use Rattle.plan_status.proofs.TruesLemmas.{none_at_first}
use Rattle.plan_status.specs.declared.consoles.Consoles.{Consoles}
use Rattle.plan_status.proofs.consoles.Consoles.new.Goals as goal

pub returns : goal.returns
returns c = λ marks.
    let none : Consoles = record { holding = c.in_ok-holding.holding; held = 0; looked = 0; free = 0 } in
    let all : length c.in_ok-holding.holding.items ≡ length c.args.parts.now.edges = search rules in
    let filled : c.in_ok-holding.holding.items ≡ replicate (length c.args.parts.now.edges) false = search rules in
    looked_none c.args.parts.now marks none all (λ e. ap (λ (xs : List Bool). get_or xs e false) filled ∙ none_at_first (length c.args.parts.now.edges) e) refl refl refl
