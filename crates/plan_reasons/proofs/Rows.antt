-- Reasons of one edge, worked out: `b` is made from the source file `a`, and from `d` that an edge makes, by the command
-- `c`; the source file `e` is order-only.
use Rattle.std.proofs.Common.{◌≡◌, ℕ, Bool, true, false, List, [], ◌∷◌, Option, Some, None, refl}
use Rattle.plan_compile.specs.declared.baseline.OutOfDateRule.TheVariants.{Specified, Stricter}
use Rattle.plan_compile.specs.Rule.{Path, SourceFile, Made, Command, Recorded, baseline_by}
use Rattle.plan_compile.specs.Stricter.{by_rule}
use Rattle.plan_machine.specs.declared.event.reply.Reply.{Reply}
use Rattle.plan_machine.specs.declared.event.reply.Reply.TheVariants as reply
use Rattle.plan_reasons.specs.declared.reason.Reason.TheVariants.{OutputMissing, InputChanged, NeverBuilt, NotFinished, OtherCommand, PathMissing, Newer}
use Rattle.plan_reasons.specs.Facts.{facts_of}
use Rattle.plan_reasons.specs.Reasons.{first_reason, reason_in}
use Rattle.plan_reasons.specs.Replies.{observed}

abbrev a : Path
a = 97 ∷ []

abbrev b : Path
b = 98 ∷ []

abbrev c : List ℕ
c = 99 ∷ []

abbrev d : Path
d = 100 ∷ []

abbrev e : Path
e = 101 ∷ []

-- the edge, by whether it is a generator, and by whether `d` changed
abbrev edge : (generator changed : Bool) → Command
edge generator changed = record { named = Made 4 changed ∷ SourceFile 0 a ∷ []; order_only = SourceFile 0 a ∷ SourceFile 2 e ∷ []; outputs = b ∷ []; command = c; depfile = []; restat = false; generator = generator; baseline = baseline_by false generator Specified }

abbrev plain : Command
plain = edge false false

abbrev entry : Recorded
entry = record { command = c; basis = 5; paths = [] }

-- ---- the first reason

pub never_built_row : first_reason plain (4 ∷ 5 ∷ []) (7 ∷ []) None [] ≡ Some NeverBuilt
never_built_row = refl

pub missing_row : first_reason plain (4 ∷ 5 ∷ []) (0 ∷ []) None [] ≡ Some (OutputMissing 0)
missing_row = refl

-- the second named input, and its stamp is later than that of the output
pub newer_row : first_reason plain (4 ∷ 9 ∷ []) (7 ∷ []) (Some entry) [] ≡ Some (Newer 1 7)
newer_row = refl

-- a recorded path is counted after the named inputs
pub newer_path_row : first_reason plain (4 ∷ 5 ∷ []) (7 ∷ []) (Some (record { command = c; basis = 5; paths = a ∷ e ∷ [] })) (3 ∷ 8 ∷ []) ≡ Some (Newer 3 7)
newer_path_row = refl

pub changed_row : first_reason (edge false true) (4 ∷ 9 ∷ []) (7 ∷ []) (Some entry) [] ≡ Some (InputChanged 0)
changed_row = refl

-- an input that is later than the basis is a reason by the stricter rule only, if the output is later still
pub touched_row : (first_reason (by_rule Stricter plain) (4 ∷ 8 ∷ []) (9 ∷ []) (Some entry) [] ≡ Some (Newer 1 5)) × (first_reason (by_rule Specified plain) (4 ∷ 8 ∷ []) (9 ∷ []) (Some entry) [] ≡ None)
touched_row = (refl, refl)

pub other_command_row : first_reason plain (4 ∷ 5 ∷ []) (7 ∷ []) (Some (record { command = a; basis = 5; paths = [] })) [] ≡ Some OtherCommand
other_command_row = refl

-- another command is no reason for a generator, but a missing path is
pub path_missing_row : first_reason (edge true false) (4 ∷ 5 ∷ []) (7 ∷ []) (Some (record { command = a; basis = 5; paths = b ∷ a ∷ [] })) (3 ∷ 0 ∷ []) ≡ Some (PathMissing 1)
path_missing_row = refl

-- a start entry says that the command was started, of any edge
pub not_finished_row :
    (first_reason plain (4 ∷ 5 ∷ []) (7 ∷ []) (Some (record { command = 0 ∷ []; basis = 0; paths = e ∷ [] })) (0 ∷ []) ≡ Some NotFinished)
    × (first_reason (edge true false) (4 ∷ 5 ∷ []) (7 ∷ []) (Some (record { command = 0 ∷ []; basis = 0; paths = e ∷ [] })) (0 ∷ []) ≡ Some NotFinished)
not_finished_row = (refl, refl)

pub no_reason_row : first_reason plain (4 ∷ 5 ∷ []) (7 ∷ []) (Some entry) [] ≡ None
no_reason_row = refl

-- ---- by replies

-- `e`, `a`, `b`, the entry, and the recorded path
abbrev replies : List Reply
replies = reply.Stamp 2 ∷ reply.Stamp 5 ∷ reply.Stamp 7 ∷ reply.Entry (record { command = c; basis = 5; paths = e ∷ [] }) ∷ reply.Stamp 0 ∷ []

pub observed_row :
    observed (facts_of plain) replies ≡ record { order_only = 2 ∷ []; named = 4 ∷ 5 ∷ []; outputs = 7 ∷ []; entry = Some (record { command = c; basis = 5; paths = e ∷ [] }); recorded = 0 ∷ [] }
observed_row = refl

pub reason_row : reason_in (facts_of plain) replies ≡ Some (PathMissing 0)
reason_row = refl

-- without an entry there are no recorded paths
pub no_entry_row : reason_in (facts_of plain) (reply.Stamp 2 ∷ reply.Stamp 5 ∷ reply.Stamp 7 ∷ reply.Nothing ∷ []) ≡ Some NeverBuilt
no_entry_row = refl
