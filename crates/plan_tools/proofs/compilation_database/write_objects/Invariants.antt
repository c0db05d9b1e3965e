use Rattle.std.proofs.Common.{true}
use Rattle.plan_text.specs.Sinks.{Writes}
use Rattle.plan_tools.specs.Listings.{of_first}
use Rattle.plan_tools.specs.CompilationDatabase.{listed_object}
use Rattle.plan_tools.proofs.compilation_database.write_objects.Given as goal

-- what comes of the numbers so far was written
abbrev pub invariant-loop-number : goal.invariant-loop-number
invariant-loop-number g l = Writes true (g.W.Sink.failures l.fn.out, g.W.Sink.taken l.fn.out) (g.W.Sink.failures l.out, g.W.Sink.taken l.out) (of_first (listed_object l.folder l.manifest l.graph l.edges) l.number)
