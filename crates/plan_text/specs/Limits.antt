-- The limits on bytes that are read and kept.
use Rattle.std.specs.Prelude.{ℕ}

-- of a source file: 16 MiB
abbrev pub max_source : ℕ
max_source = 16777216

-- of a kept text: 1 MiB
abbrev pub max_text : ℕ
max_text = 1048576

-- of a path: 4 KiB
abbrev pub max_path : ℕ
max_path = 4096
