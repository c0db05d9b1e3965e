-- Values whose bytes stand for themselves.
use Rattle.std.specs.Prelude.{◌≡◌, ◌<◌, ℕ, false, List, length, get_or}
use Rattle.plan_text.specs.Gathering.{is_special}
use Rattle.plan_text.specs.declared.piece_reader.Mode.TheVariants as mode

-- no byte is a `$` or NUL
abbrev pub IsPlainValue : List ℕ → Type 0
IsPlainValue value = (k : ℕ) → k < length value → is_special mode.Value (get_or value k 0) ≡ false
