use Rattle.std.proofs.Common.{◌≡◌, ◌∙◌, List, ℕ, subst, sym, true}
use Rattle.std.specs.List.{list_all}
use Rattle.plan_scan.specs.Steps.{stands_alone}
use Rattle.plan_scan.proofs.PhonyLemmas.{alone_is, on_shown}
use Rattle.plan_scan.proofs.phonies.check_alone.Goals as goal

pub returns : goal.returns
returns g c =
    on_shown _ c.if_shown.result c.stand_alone.result c.if_shown.ensures (λ so.
    alone_is g.W.World.allows c.args.graph.now c.args.stamps.now c.args.found.now c.args.number c.args.edge.now c.requires.stamps c.requires.phony c.requires.none
    (subst (λ (fs : List ℕ). list_all (stands_alone c.args.stamps.now c.args.found.now) fs ≡ true) c.row.ensures (sym c.stand_alone.ensures ∙ so)))
