-- How many bytes of a depfile are read.
use Rattle.std.specs.Prelude.{ℕ}

-- one byte more than a depfile may have, so that a depfile that is too long is noticed
unfoldable pub longest : ℕ
longest = 16777217
