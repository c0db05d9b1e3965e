use Rattle.std.proofs.Common.{◌≡◌, List, ℕ, subst, map, IfOk, IfErr}
use Rattle.plan_commands.specs.Building.{Asked, asked}
use Rattle.plan_progress.specs.BuildLines.{Look, look_of}
use Rattle.plan_options.specs.declared.command.Mode.TheVariants as mode
use Rattle.plan_build.specs.Statuses as statuses
use Rattle.plan_build.specs.Statuses.{Ended, HasUnknownTarget, as_build}
use Rattle.plan_build.proofs.StatusesLemmas.{ended, unknown}
use Rattle.plan_build.proofs.building.Builder.preview.Goals as goal

pub returns-clause-done : goal.returns-clause-done
returns-clause-done g c =
    let a : List ℕ → Asked = λ path. asked path c.args.options (map (λ n. n.now) c.args.targets.now) in
    let result = c.do_dry_build-done.result.0 in
    subst (λ (path : List ℕ). IfOk result (λ done. Ended mode.Dry (g.S.Source.gives c.args.source.now) (as_build g.row.H.Denot g.H.Outputs.taken g.H.Stopwatch.showed (statuses.display_in c.args.line.now c.args.self.now.on_terminal c.args.self.now.colours c.args.self.now.template.now c.args.self.now.width)) g.W.World.allows (a path) done)) c.manifest_in.ensures
    (subst (λ (d : Look). IfOk result (λ done. Ended mode.Dry (g.S.Source.gives c.args.source.now) (as_build g.row.H.Denot g.H.Outputs.taken g.H.Stopwatch.showed d) g.W.World.allows (a c.manifest_in.result.now) done)) c.printer-printer.ensures
    (ended mode.Dry (g.S.Source.gives c.args.source.now) (as_build g.row.H.Denot g.H.Outputs.taken g.H.Stopwatch.showed (look_of c.printer-printer.result.format.display)) g.W.World.allows (a c.manifest_in.result.now) _ _ result c.do_dry_build-done.ensures.done))

pub returns-clause-unknown : goal.returns-clause-unknown
returns-clause-unknown g c =
    let a : List ℕ → Asked = λ path. asked path c.args.options (map (λ n. n.now) c.args.targets.now) in
    let result = c.do_dry_build-done.result.0 in
    subst
    (λ (path : List ℕ). IfErr result (λ fault. fault.number ≡ 132 → HasUnknownTarget mode.Dry (g.S.Source.gives c.args.source.now) (g.S.Source.fails c.args.source.now) (as_build g.row.H.Denot g.H.Outputs.taken g.H.Stopwatch.showed (statuses.display_in c.args.line.now c.args.self.now.on_terminal c.args.self.now.colours c.args.self.now.template.now c.args.self.now.width)) g.W.World.allows (a path)))
    c.manifest_in.ensures
    (subst (λ (d : Look). IfErr result (λ fault. fault.number ≡ 132 → HasUnknownTarget mode.Dry (g.S.Source.gives c.args.source.now) (g.S.Source.fails c.args.source.now) (as_build g.row.H.Denot g.H.Outputs.taken g.H.Stopwatch.showed d) g.W.World.allows (a c.manifest_in.result.now))) c.printer-printer.ensures
    (unknown mode.Dry (g.S.Source.gives c.args.source.now) (g.S.Source.fails c.args.source.now) (as_build g.row.H.Denot g.H.Outputs.taken g.H.Stopwatch.showed (look_of c.printer-printer.result.format.display)) g.W.World.allows (a c.manifest_in.result.now) _ _ _ _ result c.do_dry_build-done.ensures.refused))
