use Rattle.std.proofs.Common.{◌≡◌, length, map}
use Rattle.plan_text.specs.Lines.{gap_len}
use Rattle.plan_parse.specs.Reading as syntax
use Rattle.plan_parse.specs.Compact.{StandsIn, path_in}
use Rattle.plan_parse.specs.PathLists.{Extends, added_to}
use Rattle.plan_parse.specs.Views.{place_of}
use Rattle.plan_parse.proofs.ReadingLemmas.{with_front}
use Rattle.plan_parse.proofs.reading.compact_paths_at.Given as goal

abbrev pub invariant-loop-extent : goal.invariant-loop-extent
invariant-loop-extent l = record {
  over : gap_len l.left.bytes.now ≡ 0;
  stands : StandsIn l.text (place_of l.left);
  keeps : Extends l.initial.paths.items l.paths.items;
  same : with_front (map (path_in l.text) (added_to l.initial.paths.items l.paths.items)) (syntax.paths_at (place_of l.left)) ≡ syntax.paths_at (place_of l.p);
}

abbrev pub decreases-loop-extent : goal.decreases-loop-extent
decreases-loop-extent l = length l.left.bytes.now
