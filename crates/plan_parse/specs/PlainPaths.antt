-- The bytes that belong to a path and stand for themselves.
use Rattle.std.specs.Prelude.{ℕ, Bool, ◌||◌, not}
use Rattle.plan_text.specs.Gathering.{is_special}
use Rattle.plan_text.specs.declared.piece_reader.Mode.TheVariants as mode
use Rattle.plan_parse.specs.Reading.{ends_path}

-- the byte ends no path, and is no `$`, NUL or tab
abbrev pub is_plain : ℕ → Bool
is_plain b = not (ends_path b || is_special mode.Path b)
