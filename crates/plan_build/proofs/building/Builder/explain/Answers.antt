use Rattle.std.proofs.Common.{◌≡◌, ◌∙◌, ap, subst}
use Rattle.plan_progress.specs.BuildLines.{Look}
use Rattle.plan_build.specs.Statuses.{SaysExplained, as_build, display_in}
use Rattle.plan_build.proofs.building.Builder.explain.Goals as goal

pub returns : goal.returns
returns g c =
    let line = c.args.line.now in
    let here = c.args.self.now in
    let there = c.in_world.result in
    let same : display_in line there.on_terminal there.colours there.template.now there.width ≡ display_in line here.on_terminal here.colours here.template.now here.width
    = ap (λ on. display_in line on there.colours there.template.now there.width) c.in_world.ensures.on_terminal
    ∙ ap (λ on. display_in line here.on_terminal on there.template.now there.width) c.in_world.ensures.colours
    ∙ ap (λ text. display_in line here.on_terminal here.colours text there.width) c.in_world.ensures.template
    ∙ ap (λ w. display_in line here.on_terminal here.colours here.template.now w) c.in_world.ensures.width in
    subst (λ (look : Look). SaysExplained (g.S.Source.gives c.args.source.now) (as_build g.row.H.Denot g.H.Outputs.taken g.H.Stopwatch.showed look) g.W.World.allows line c.args.jobs c.preview_words.result) same c.preview_words.ensures
