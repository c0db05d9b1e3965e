use Rattle.std.proofs.Common.{◌+◌, ◌-◌, ◌*◌, length}
use Rattle.plan_scope.proofs.LoaderLemmas.{LoadsSoFar}
use Rattle.plan_scope.proofs.tree.loader.+loading.Given as goal

abbrev pub decreases-load_file : goal.decreases-load_file
decreases-load_file g l = 3 * l.left + 2

abbrev pub decreases-load_statements : goal.decreases-load_statements
decreases-load_statements g l = 3 * l.left + 1

abbrev pub decreases-load_included : goal.decreases-load_included
decreases-load_included g l = 3 * l.left

abbrev pub invariant-load_statements-loop-up_to : goal.invariant-load_statements-loop-up_to
invariant-load_statements-loop-up_to g l =
    LoadsSoFar (g.S.Source.gives l.fn.source) (g.S.Source.gives l.source) (g.S.Source.fails l.fn.source) (g.S.Source.fails l.source)
    (g.S.Source.failures l.fn.source) (g.S.Source.failures l.source) l.fn.left l.fn.file.value l.fn.loaded l.so_far l.start

abbrev pub decreases-load_statements-loop-up_to : goal.decreases-load_statements-loop-up_to
decreases-load_statements-loop-up_to g l = length l.fn.file.value.parsed.value.statements - l.start
