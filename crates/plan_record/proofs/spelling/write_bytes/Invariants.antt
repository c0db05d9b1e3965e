use Rattle.std.proofs.Common.{◌≡◌, ◌≤◌, ◌-◌, length, take}
use Rattle.std.specs.Io.KnownBytes.{Appends}
use Rattle.plan_record.proofs.spelling.write_bytes.Given as goal

abbrev pub invariant-loop-written : goal.invariant-loop-written
invariant-loop-written g l = record {
  within : l.written ≤ length l.bytes;
  kept : g.W.Sink.failures l.sink ≡ g.W.Sink.failures l.fn.sink;
  taken : Appends (g.W.Sink.taken l.fn.sink) (g.W.Sink.taken l.sink) (take l.written l.bytes);
}

abbrev pub decreases-loop-written : goal.decreases-loop-written
decreases-loop-written g l = length l.bytes - l.written
