use Rattle.std.proofs.Common.{◌≡◌, length}
use Rattle.plan_text.specs.Lines.{gap_len}
use Rattle.plan_parse.specs.Reading as syntax
use Rattle.plan_parse.specs.Views.{place_of}
use Rattle.plan_parse.proofs.ReadingLemmas.{with_front}
use Rattle.plan_parse.proofs.reading.paths_at.Given as goal

abbrev pub invariant-loop-paths : goal.invariant-loop-paths
invariant-loop-paths l = record {
  over : gap_len l.rest.bytes.now ≡ 0;
  same : with_front l.paths.items (syntax.paths_at (place_of l.rest)) ≡ syntax.paths_at (place_of l.p);
}

abbrev pub decreases-loop-paths : goal.decreases-loop-paths
decreases-loop-paths l = length l.rest.bytes.now
