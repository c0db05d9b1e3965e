-- The effect of a write on a sink.
use Rattle.std.specs.Prelude.{◌≡◌, ℕ, ◌+◌, ◌≤◌, Bool, true, false, List, length, take, Option}
use Rattle.std.specs.Io.KnownBytes.{Appends}

-- the known bytes grow by some of these bytes, from the front
abbrev pub AppendsFront : Option (List ℕ) → Option (List ℕ) → List ℕ → Type 0
AppendsFront old new bytes = (n : ℕ) × (n ≤ length bytes) × Appends old new (take n bytes)

-- The effect of a write of these bytes on the number of failed writes of a sink, and on the bytes that it took,
-- if they are known. A successful write takes all bytes and counts no failure. A failed write takes some bytes
-- from the front, and counts one more failure.
abbrev pub Writes : Bool → (ℕ × Option (List ℕ)) → (ℕ × Option (List ℕ)) → List ℕ → Type 0
Writes true old new bytes = (new.0 ≡ old.0) × Appends old.1 new.1 bytes
Writes false old new bytes = (new.0 ≡ old.0 + 1) × AppendsFront old.1 new.1 bytes
