-- The effect on a sink of appending an entry.
use Rattle.std.specs.Prelude.{◌≡◌, ℕ, ◌+◌, ◌<◌, List, length, take, Option, Result, Ok, Err}
use Rattle.std.specs.Io.KnownBytes.{Appends}
use Rattle.plan_record.specs.declared.spelling.WriteFault.{WriteFault}

-- An entry with this spelling is appended. The states of the sink before and after are the number of its failed
-- writes, and the bytes that it took. Either all bytes are taken and no failure is counted, or exactly the
-- first `written` bytes, not all, are taken and one more failure is counted.
abbrev pub AppendsSpelling : Result Unit WriteFault → (ℕ × Option (List ℕ)) → (ℕ × Option (List ℕ)) → List ℕ → Type 0
AppendsSpelling (Ok done) old new spelling = (new.0 ≡ old.0) × Appends old.1 new.1 spelling
AppendsSpelling (Err fault) old new spelling = (new.0 ≡ old.0 + 1) × (fault.written < length spelling) × Appends old.1 new.1 (take fault.written spelling)
