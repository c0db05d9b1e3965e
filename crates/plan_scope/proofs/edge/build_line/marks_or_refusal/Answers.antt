use Rattle.std.proofs.Common.{◌∙◌, Ok, ap, sym}
use Rattle.plan_scope.specs.Edges.{edge_of, or_refused}
use Rattle.plan_scope.proofs.edge.build_line.marks_or_refusal.Goals as goal

pub returns-in_ok-marks_of-in-None : goal.returns-in_ok-marks_of-in-None
returns-in_ok-marks_of-in-None c = λ begins.
    let put = c.in_ok-marks_of-in-None.ensures in
    let paths = c.args.parts.now.read.paths in
    let edge = edge_of paths c.args.variables.now c.args.phony in (
      ap (λ o. or_refused o edge) (sym c.in-None.ensures) ∙ ap (λ e. Ok e) (sym (put.edge begins paths)),
      put.places,
      put.within begins,
      put.more,
    )
