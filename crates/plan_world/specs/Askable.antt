-- Which paths the system can be asked about.
use Rattle.std.specs.Prelude.{◌≡◌, ◌<◌, ◌==◌, ◌&&◌, ◌⊎◌, nat_le, nat_lt, ℕ, Bool, true, List, [], length, get_or, Option, Some, None, IsUtf8}
use Rattle.std.specs.List.{list_all, position_or_len}
use Rattle.plan_text.specs.Path.{components_of}
use Rattle.plan_record.specs.Entries.{EntryData}
use Rattle.plan_machine.specs.Recording.{Recording}
use Rattle.plan_machine.specs.declared.event.reply.Reply.{Reply}
use Rattle.plan_machine.specs.declared.event.reply.Reply.TheVariants as reply

-- a file's name has at most 255 bytes
abbrev pub is_name : List ℕ → Bool
is_name name = nat_le (length name) 255

-- an ASCII character other than NUL
abbrev pub is_plain_byte : ℕ → Bool
is_plain_byte b = nat_lt 0 b && nat_lt b 128

-- text without a NUL byte, within the system's limits on paths and names
pub record IsAskable (path : List ℕ) : Type 0 where
  pub text : IsUtf8 path
  pub whole : position_or_len (λ b. b == 0) path ≡ length path
  pub short : length path < 4096
  pub names : list_all is_name (components_of path) ≡ true

-- each of these paths can be asked about
abbrev pub AreAskable : List (List ℕ) → Type 0
AreAskable paths = (number : ℕ) → number < length paths → IsAskable (get_or paths number [])

-- The reply for an entry with these contents: the same, or `Nothing` if the system can't be asked about one of its
-- paths. Such an entry is spoilt.
abbrev pub RecallsAs : Recording → Reply → Type 0
RecallsAs said r = (AreAskable said.paths × (r ≡ reply.Entry said)) ⊎ (¬ (AreAskable said.paths) × (r ≡ reply.Nothing))

-- the reply for the entry that was found, or for no entry
abbrev pub IsRecalled : Option EntryData → Reply → Type 0
IsRecalled None r = r ≡ reply.Nothing
IsRecalled (Some e) r = RecallsAs (record { command = e.command; basis = e.basis; paths = e.paths }) r
