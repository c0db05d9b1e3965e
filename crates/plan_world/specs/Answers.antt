-- The replies that the real world may give.
use Rattle.std.specs.Prelude.{◌≡◌, ◌⊎◌, ℕ, ◌≤◌, true, List, [], length, Option, Some, None, IsUtf8, ℤ}
use Rattle.std.specs.declared.alloc.Global.{Global}
use Rattle.std.specs.declared.process.command.Command.{Command}
use Rattle.plan_verify.specs.Turn.{Request, Stat, Recall, Run, Deps, Keep}
use Rattle.plan_verify.specs.Seam.{suits}
use Rattle.plan_machine.specs.Step.{answer_of}
use Rattle.plan_machine.specs.declared.event.reply.Reply.{Reply}
use Rattle.plan_machine.specs.declared.event.reply.Reply.TheVariants as reply
use Rattle.plan_world.specs.Askable.{AreAskable}
use Rattle.plan_world.specs.Depfiles.{longest}
use Rattle.plan_world.specs.Shells.{AreTexts, IsShellOf, ending}
use Rattle.plan_world.specs.Stamps.{stamp_at}
use Rattle.plan_world.specs.declared.disk.ModificationTime.{ModificationTime}

-- A reply that suits the question. The bytes of a depfile are at most one more than a depfile may have.
pub record IsAnswer (question : Request) (r : Reply) : Type 0 where
  pub suits : suits question (answer_of r) ≡ true
  pub short : (bytes : List ℕ) → r ≡ reply.Bytes bytes → length bytes ≤ longest

-- a command isn't started if it has no outputs, or if its text or one of its outputs isn't UTF-8
pub record StartsTexts (command : List ℕ) (outputs : List (List ℕ)) (r : Reply) : Type 0 where
  pub some : outputs ≡ [] → r ≡ reply.NotStarted
  pub paths : ¬ (AreTexts outputs) → r ≡ reply.NotStarted
  pub text : ¬ (IsUtf8 command) → r ≡ reply.NotStarted

-- The command wasn't started. Or a shell that runs exactly this command was started and ended, and the reply is its
-- exit status.
abbrev pub IsByShell : (ended : Command Global → Option ℤ → Type 0) → (command : List ℕ) → Reply → Type 0
IsByShell ended command r =
    (r ≡ reply.NotStarted)
    ⊎ ((shell : Command Global) × (records : List ℕ) × (code : Option ℤ) × IsShellOf shell command records × ended shell code × (r ≡ ending code))

-- an entry that is recalled names only paths that the system can be asked about
abbrev pub NamesAskable : Reply → Type 0
NamesAskable (reply.Entry recorded) = AreAskable recorded.paths
NamesAskable r = Unit {0}

-- files with a path that isn't UTF-8 are not looked up, and commands that aren't UTF-8 are not started
abbrev pub IsOfTexts : Request → Reply → Type 0
IsOfTexts (Stat path) r = ¬ (IsUtf8 path) → r ≡ reply.Fault
IsOfTexts (Recall output) r = NamesAskable r
IsOfTexts (Run command outputs) r = StartsTexts command outputs r
IsOfTexts (Deps path) r = ¬ (IsUtf8 path) → r ≡ reply.Fault
IsOfTexts (Keep output command basis paths) r = Unit {0}

-- the reply to a command comes from a shell that ran it
abbrev pub IsRun : (ended : Command Global → Option ℤ → Type 0) → Request → Reply → Type 0
IsRun ended (Run command outputs) r = IsByShell ended command r
IsRun ended question r = Unit {0}

-- A stamp is that of the time that a look at just this path found, or 0 if it found no file.
abbrev pub IsStampOf : (looked : List ℕ → Option ModificationTime → Type 0) → (path : List ℕ) → Reply → Type 0
IsStampOf looked path (reply.Stamp stamp) = (time : Option ModificationTime) × looked path time × (stamp ≡ stamp_at time)
IsStampOf looked path r = Unit {0}

-- The bytes of a depfile were read of the file at just this path. `Nothing` means that no file was found there.
abbrev pub IsReadOf : (held : List ℕ → Option (List ℕ) → Type 0) → (path : List ℕ) → Reply → Type 0
IsReadOf held path (reply.Bytes bytes) = held path (Some bytes)
IsReadOf held path reply.Nothing = held path None
IsReadOf held path r = Unit {0}

-- the reply to a question about a file comes from the disk
abbrev pub IsOfDisk : (looked : List ℕ → Option ModificationTime → Type 0) → (held : List ℕ → Option (List ℕ) → Type 0) → Request → Reply → Type 0
IsOfDisk looked held (Stat path) r = IsStampOf looked path r
IsOfDisk looked held (Deps path) r = IsReadOf held path r
IsOfDisk looked held question r = Unit {0}

-- The rule of this world. Its disk defines what it means that a look at a path found a time, and that bytes were read
-- of a path. Its shells define what it means that a shell ended with a status.
pub record MayAnswer (looked : List ℕ → Option ModificationTime → Type 0) (held : List ℕ → Option (List ℕ) → Type 0)
    (ended : Command Global → Option ℤ → Type 0) (question : Request) (r : Reply) : Type 0 where
  pub answer : IsAnswer question r
  pub texts : IsOfTexts question r
  pub run : IsRun ended question r
  pub disk : IsOfDisk looked held question r
