use Rattle.std.proofs.Common.{◌≡◌, ◌∙◌, [], List, ℕ, ap, false, get_or, map, subst, take, true}
use Rattle.std.specs.List.{list_all, list_any}
use Rattle.plan_compile.specs.Builds.{named_count}
use Rattle.plan_compile.specs.Rule.{Path, first}
use Rattle.plan_reasons.specs.Replies.{seen}
use Rattle.plan_scan.specs.Scans.{path_of}
use Rattle.plan_scan.specs.Steps.{AreFactsOf, Sees, is_missing, keeps_stamp}
use Rattle.plan_scan.proofs.CommandLemmas.{command_is, on_so}
use Rattle.plan_scan.proofs.commands.check_command.Goals as goal

pub returns : goal.returns
returns g c =
    let rule = g.W.World.allows in
    let m = c.args.graph.now in
    let table = c.args.stamps.now in
    let found = c.args.found.now in
    let edge = c.args.edge.now in
    let inputs = get_or m.inputs c.args.number [] in
    let outputs = get_or m.outputs c.args.number [] in
    let named = take (named_count edge inputs) inputs in
    let o = seen c.in_ok-observed.observed in
    let name : c.in_ok-name.name.now ≡ first (map (path_of m) outputs) = c.in_ok-name.ensures ∙ ap (λ (fs : List ℕ). first (map (path_of m) fs)) c.row-outputs.ensures in
    let facts : AreFactsOf m found edge named c.in_ok-facts.facts = subst (λ (fs : List ℕ). AreFactsOf m found edge fs c.in_ok-facts.facts) c.named_row-named.ensures c.in_ok-facts.ensures in
    let one : Sees rule m table found named c.row-outputs.result.now c.in_ok-name.name.now o = subst (λ (fs : List ℕ). Sees rule m table found fs c.row-outputs.result.now c.in_ok-name.name.now o) c.named_row-named.ensures c.in_ok-observed.ensures in
    let two : Sees rule m table found named outputs c.in_ok-name.name.now o = subst (λ (fs : List ℕ). Sees rule m table found named fs c.in_ok-name.name.now o) c.row-outputs.ensures one in
    let sees : Sees rule m table found named outputs (first (map (path_of m) outputs)) o = subst (λ (path : Path). Sees rule m table found named outputs path o) name two in
    on_so _ _ c.check_reason.result c.check_reason.ensures (λ none.
    command_is c.reasons_are_causes.ensures rule m table found c.args.number edge c.in_ok-facts.facts o c.requires.stamps c.requires.command
    (subst (λ (fs : List ℕ). list_any (is_missing m table) fs ≡ false) c.row-inputs.ensures (c.lacks_files.ensures.sources c.if-lacks_files.false))
    (subst (λ (fs : List ℕ). list_all (keeps_stamp table found) fs ≡ true) c.row-outputs.ensures (c.lacks_files.ensures.outputs c.if-lacks_files.false))
    facts sees none)
