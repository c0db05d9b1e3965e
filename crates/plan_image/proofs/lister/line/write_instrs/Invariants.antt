use Rattle.std.proofs.Common.{◌≡◌, ◌++◌, ℕ, true, List, drop}
use Rattle.plan_text.specs.Sinks.{Writes}
use Rattle.plan_image.specs.Columns.{lent_instrs}
use Rattle.plan_image.specs.Listing.{instr_line, numbered}
use Rattle.plan_image.proofs.lister.line.write_instrs.Given as goal

-- the text that was written, followed by the text that is still to be written
abbrev pub invariant-loop-place : goal.invariant-loop-place
invariant-loop-place g l =
    (done : List ℕ) × (done ++ numbered instr_line l.place (drop l.place (lent_instrs l.instrs)) ≡ numbered instr_line 0 (lent_instrs l.instrs))
    × Writes true (g.W.Sink.failures l.fn.out, g.W.Sink.taken l.fn.out) (g.W.Sink.failures l.out, g.W.Sink.taken l.out) done
