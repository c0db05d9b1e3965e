-- The behavior of `dump IMG`.
use Rattle.std.specs.Prelude.{◌≡◌, ◌⊎◌, ℕ, true, false, List, Option, Some, Ok, Err}
use Rattle.plan_text.specs.Sinks.{Writes}
use Rattle.plan_scope.specs.Scopes.{Text}
use Rattle.plan_scope.specs.Loading.{FileContents, PathSet}
use Rattle.plan_image.specs.declared.image.Parts.{Parts}
use Rattle.plan_image.specs.declared.fault.ImageFault.{ImageFault}
use Rattle.plan_image.specs.declared.fault.ImageFault.TheVariants as image
use Rattle.plan_image.specs.Reading.{read_of}
use Rattle.plan_image.specs.Listing.{listing_of}
use Rattle.plan_printing.specs.declared.fault.PlanFault.{PlanFault}
use Rattle.plan_printing.specs.Faults.{file_fault, no_memory, output_fault}
use Rattle.plan_commands.specs.Faults.{printed_image_fault}

-- The state of a sink: the number of its failed writes, and the bytes that it took, if they are known.
abbrev pub SinkState : Type 0
SinkState = ℕ × Option (List ℕ)

-- The source may give bytes for the path that spell these tables.
abbrev pub IsImageAt : FileContents → Text → Parts → Type 0
IsImageAt gives path parts = (bytes : List ℕ) × gives path (Some bytes) × (read_of bytes ≡ Ok parts)

-- The source may give bytes for the path that aren't an image. The cause is printed.
abbrev pub IsNoImageAt : FileContents → Text → PlanFault → Type 0
IsNoImageAt gives path fault = (bytes : List ℕ) × (cause : ImageFault) × gives path (Some bytes) × (read_of bytes ≡ Err cause) × (fault ≡ printed_image_fault cause)

-- The file may be missing, or the read failed.
abbrev pub HasNoFile : PathSet → Text → PlanFault → Type 0
HasNoFile missing path fault = missing path × (fault ≡ file_fault path)

-- The reasons why no image is read.
abbrev pub LacksImage : FileContents → PathSet → Text → PlanFault → Type 0
LacksImage gives missing path fault = IsNoImageAt gives path fault ⊎ (HasNoFile missing path fault ⊎ ((fault ≡ printed_image_fault image.Memory) ⊎ (fault ≡ no_memory)))

-- No write failed. The sink took the listing of an image that the source may give for the path.
abbrev pub Dumps : FileContents → Text → (old new : SinkState) → Type 0
Dumps gives path old new = (parts : Parts) × IsImageAt gives path parts × Writes true old new (listing_of parts)

-- A write failed after a prefix of the listing of an image that the source may give for the path.
abbrev pub FailsToDump : FileContents → Text → (old new : SinkState) → PlanFault → Type 0
FailsToDump gives path old new fault = (parts : Parts) × IsImageAt gives path parts × Writes false old new (listing_of parts) × (fault ≡ output_fault)
