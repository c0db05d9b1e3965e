use Rattle.std.proofs.Common.{◌≡◌, ◌+◌, ◌*◌, ◌%◌, ◌^◌, fold, drop}
use Rattle.plan_text.proofs.path_filter.short_number.Given as goal

abbrev pub invariant-loop-byte : goal.invariant-loop-byte
invariant-loop-byte l = fold (λ n b. n % 2 ^ 120 * 256 + b) l.number (drop l.byte-index l.path) ≡ fold (λ n b. n % 2 ^ 120 * 256 + b) 0 l.path
