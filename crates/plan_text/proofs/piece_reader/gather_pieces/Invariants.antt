use Rattle.std.proofs.Common.{◌≡◌, ◌≤◌, ◌-◌, ◌+◌, length, drop}
use Rattle.plan_text.specs.Pieces.{pieces_past}
use Rattle.plan_text.proofs.PieceReaderLemmas.{with_front}
use Rattle.plan_text.proofs.piece_reader.gather_pieces.Given as goal

abbrev pub invariant-loop-gather : goal.invariant-loop-gather
invariant-loop-gather l = record {
  within : l.at ≤ length l.text;
  same : with_front l.gather (pieces_past l.mode (l.base + l.at) (drop l.at l.text) 0) ≡ pieces_past l.mode l.base l.text 0;
}

abbrev pub decreases-loop-gather : goal.decreases-loop-gather
decreases-loop-gather l = length l.text - l.at
