-- A sink, and the bytes that a buffer holds for it.
use Rattle.std.specs.Prelude.{ℕ, List, Option}
use Rattle.std.specs.Io.KnownBytes.{append_known}

pub record Buffered (W : Type 0) : Type 0 where
  pub out : W
  pub held : List ℕ

abbrev pub buffered : {W : Type 0} → W → List ℕ → Buffered W
buffered out held = record { out = out; held = held }

-- The bytes that the sink took, if they are known, followed by the held bytes.
abbrev pub seen : {W : Type 0} → (taken : W → Option (List ℕ)) → Buffered W → Option (List ℕ)
seen {W} taken b = append_known (taken b.out) b.held
