-- The reply for a file that can't be read or looked up.
use Rattle.std.specs.Prelude.{◌≡◌, ◌⊎◌}
use Rattle.std.specs.declared.io.ErrorKind.{ErrorKind}
use Rattle.std.specs.declared.io.ErrorKind.TheVariants.{NotFound, NotADirectory}
use Rattle.plan_machine.specs.declared.event.reply.Reply.{Reply}
use Rattle.plan_machine.specs.declared.event.reply.Reply.TheVariants.{Fault}

-- there is no file at that path, or a path above it isn't a folder
abbrev pub IsMissing : ErrorKind → Type 0
IsMissing kind = (kind ≡ NotFound) ⊎ (kind ≡ NotADirectory)

-- this reply if the file is missing, otherwise `Fault`
abbrev pub IsToldOf : ErrorKind → (missing told : Reply) → Type 0
IsToldOf kind missing told = (IsMissing kind × (told ≡ missing)) ⊎ (¬ (IsMissing kind) × (told ≡ Fault))
