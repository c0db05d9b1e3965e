-- Answers of a source.
use Rattle.std.specs.Prelude.{ℕ, ◌↔◌, Bool, true, false, List, Option, Some, None, Result, Ok, Err, Vec}
use Rattle.std.specs.declared.alloc.Global.{Global}
use Rattle.plan_scope.specs.declared.tree.source.SourceFault.{SourceFault}
use Rattle.plan_scope.specs.declared.tree.source.SourceFault.TheVariants.{Missing, Failed, Memory}

-- The answer of a read, if the source may return this for the path and a read of it may fail. A lack of memory says
-- nothing about the file.
abbrev pub IsAnswer : (gives : Option (List ℕ) → Type 0) → (fails : Type 0) → Result (Vec ℕ Global) SourceFault → Type 0
IsAnswer gives fails (Ok bytes) = gives (Some bytes.items)
IsAnswer gives fails (Err Missing) = gives None
IsAnswer gives fails (Err Failed) = fails
IsAnswer gives fails (Err Memory) = Unit {0}

-- Two sources may return the same bytes, and the same reads may fail.
abbrev pub SameFiles : (gives : List ℕ → Option (List ℕ) → Type 0) → (fails : List ℕ → Type 0) → (other : List ℕ → Option (List ℕ) → Type 0) → (others : List ℕ → Type 0) → Type 0
SameFiles gives fails other others = ((p : List ℕ) (bytes : Option (List ℕ)) → gives p bytes ↔ other p bytes) × ((p : List ℕ) → fails p ↔ others p)

abbrev pub is_failed : {A : Type 0} → Result A SourceFault → Bool
is_failed (Ok bytes) = false
is_failed (Err Missing) = false
is_failed (Err Failed) = true
is_failed (Err Memory) = false
