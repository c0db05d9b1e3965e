use Rattle.std.proofs.Common.{◌≡◌, ◌∙◌, [], ap, map, take, get_or, List, ℕ, subst, sym, true}
use Rattle.plan_compile.specs.Builds.{named_count}
use Rattle.std.specs.List.{list_all}
use Rattle.plan_compile.specs.Rule.{greatest_from, some_changed}
use Rattle.plan_scan.specs.Scans.{given}
use Rattle.plan_scan.specs.Steps.{input_stamp, is_gathered, stamp_at}
use Rattle.plan_scan.proofs.PhonyLemmas.{gather_is, on_shown}
use Rattle.plan_scan.proofs.phonies.check_gathered.Goals as goal

pub returns : goal.returns
returns g c =
    let m = c.args.graph.now in
    let table = c.args.stamps.now in
    let found = c.args.found.now in
    let left = c.gathered-left.result in
    on_shown _ c.if_shown.result c.are_gathered.result c.if_shown.ensures (λ so.
    gather_is g.W.World.allows m table found c.args.number c.args.edge.now left.stamp left.changed c.requires.stamps c.requires.phony c.requires.plain c.requires.own c.requires.some c.requires.there
    (c.gathered-left.ensures.stamp ∙ ap (λ (fs : List ℕ). greatest_from (greatest_from 0 (map (input_stamp m table found) fs)) (map (stamp_at table) c.row-outputs.result.now)) c.named_row-named.ensures
    ∙ ap (λ (fs : List ℕ). greatest_from (greatest_from 0 (map (input_stamp m table found) (take (named_count c.args.edge.now (get_or m.inputs c.args.number [])) (get_or m.inputs c.args.number [])))) (map (stamp_at table) fs)) c.row-outputs.ensures)
    (c.gathered-left.ensures.changed ∙ ap (λ (fs : List ℕ). some_changed (map (given m found) fs)) c.named_row-named.ensures)
    (subst (λ (fs : List ℕ). list_all (is_gathered table found left.stamp left.changed) fs ≡ true) c.row-outputs.ensures (sym c.are_gathered.ensures ∙ so)))
