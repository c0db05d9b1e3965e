use Rattle.std.proofs.Common.{◌≡◌, ◌++◌, ℕ, List, length}
use Rattle.std.specs.Io.KnownBytes.{Appends}
use Rattle.plan_text.proofs.sink.write_all.Given as goal

abbrev pub invariant-loop-rest : goal.invariant-loop-rest
invariant-loop-rest g l = record {
  kept : g.W.Sink.failures l.sink ≡ g.W.Sink.failures l.fn.sink;
  taken : (done : List ℕ) × (done ++ l.rest ≡ l.bytes) × Appends (g.W.Sink.taken l.fn.sink) (g.W.Sink.taken l.sink) done;
}

abbrev pub decreases-loop-rest : goal.decreases-loop-rest
decreases-loop-rest g l = length l.rest
