use Rattle.std.proofs.Common.{◌≡◌, ◌≤◌, ◌+◌, ◌-◌, ◌++◌, ℕ, List, length, take, drop}
use Rattle.plan_depfile.specs.Lexer.{answer, bytes_of}
use Rattle.plan_depfile.specs.Depfile.{most}
use Rattle.plan_depfile.proofs.state.Lexer.feed.Given as goal

abbrev pub invariant-loop-at : goal.invariant-loop-at
invariant-loop-at l = record {
  place : l.at ≤ length l.piece;
  within : l.self.at + length (bytes_of l.self.held) ≤ most;
  keys : take (length l.initial.self.paths.listed) l.self.paths.listed ≡ l.initial.self.paths.listed;
  same : (rest : List ℕ) → answer l.self (drop l.at l.piece ++ rest) ≡ answer l.initial.self (l.piece ++ rest);
}

abbrev pub decreases-loop-at : goal.decreases-loop-at
decreases-loop-at l = length l.piece - l.at
