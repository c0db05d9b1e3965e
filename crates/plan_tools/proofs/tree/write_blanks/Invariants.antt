use Rattle.std.proofs.Common.{true}
use Rattle.plan_text.specs.Sinks.{Writes}
use Rattle.plan_tools.specs.Tree.{blanks}
use Rattle.plan_tools.proofs.tree.write_blanks.Given as goal

-- the blanks of the levels so far were written
abbrev pub invariant-loop-level : goal.invariant-loop-level
invariant-loop-level g l = Writes true (g.W.Sink.failures l.fn.out, g.W.Sink.taken l.fn.out) (g.W.Sink.failures l.out, g.W.Sink.taken l.out) (blanks l._level)
