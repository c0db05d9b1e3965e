-- Printing to a sink through a buffer.
use Rattle.std.specs.Prelude.{◌≡◌, ℕ, Bool, true, false, List, ◌++◌, Option}
use Rattle.plan_text.specs.Sinks.{Writes}

-- the buffered bytes, and the state of the sink: the number of its failed writes, and the bytes that it took,
-- if they are known
abbrev pub HeldState : Type 0
HeldState = List ℕ × (ℕ × Option (List ℕ))

-- The effect of a print of these bytes on the buffer and the sink. If it succeeds, the bytes that the sink
-- took, followed by the new contents of the buffer, are the old contents followed by the printed bytes, and no
-- failure is counted. Otherwise the sink took some of the old contents and the printed bytes from the front,
-- and one more failure is counted.
abbrev pub Prints : Bool → HeldState → HeldState → List ℕ → Type 0
Prints true old new bytes = (done : List ℕ) × (done ++ new.0 ≡ old.0 ++ bytes) × Writes true old.1 new.1 done
Prints false old new bytes = Writes false old.1 new.1 (old.0 ++ bytes)

-- ---- laws

-- a print after a complete print counts as one print of the bytes of both
abbrev pub PrintsJoin : Type 0
PrintsJoin = (well : Bool) (a b c : HeldState) (xs ys : List ℕ) → Prints true a b xs → Prints well b c ys → Prints well a c (xs ++ ys)

-- a failed print of some bytes also counts as a failed print of more bytes
abbrev pub FailedPrintStays : Type 0
FailedPrintStays = (a b : HeldState) (xs ys : List ℕ) → Prints false a b xs → Prints false a b (xs ++ ys)
