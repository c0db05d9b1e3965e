-- Why an edge is out of date: the first of the rule's five causes that holds, and at which input, output or path.
use Rattle.std.specs.Prelude.{◌≡◌, ◌<◌, ℕ, suc, ◌==◌, Bool, true, false, not, ◌&&◌, List, [], ◌∷◌, ◌++◌, Option, Some, None, is_some, option_map, nat_lt, if◌then◌else◌, slice_get}
use Rattle.plan_verify.specs.Turn.{same_text}
use Rattle.plan_compile.specs.Rule.{Made, Command, Recorded, is_dirty, is_new, baseline}
use Rattle.plan_machine.specs.declared.event.reply.Reply.{Reply}
use Rattle.plan_reasons.specs.declared.facts.NamedInput.{NamedInput}
use Rattle.plan_reasons.specs.declared.facts.NamedInput.TheVariants as input
use Rattle.plan_reasons.specs.declared.facts.Facts.{Facts}
use Rattle.plan_reasons.specs.declared.reason.Reason.{Reason}
use Rattle.plan_reasons.specs.declared.reason.Reason.TheVariants.{OutputMissing, InputChanged, NeverBuilt, NotFinished, OtherCommand, PathMissing, Newer}
use Rattle.plan_reasons.specs.Facts.{facts_of}
use Rattle.plan_reasons.specs.Observing.{Observations}
use Rattle.plan_reasons.specs.Replies.{observed}

-- the position, counted from n, of the first stamp at which the test returns true
abbrev pub first_at : (ℕ → Bool) → ℕ → List ℕ → Option ℕ
first_at test n [] = None
first_at test n (t ∷ ts) = if test t then Some n else first_at test (suc n) ts

abbrev pub is_changed : NamedInput → Bool
is_changed input.SourceFile = false
is_changed (input.Made stamp changed) = changed

-- the position, counted from n, of the first input that an edge changed
abbrev pub first_changed : ℕ → List NamedInput → Option ℕ
first_changed n [] = None
first_changed n (i ∷ others) = if is_changed i then Some n else first_changed (suc n) others

abbrev pub or_else : Option Reason → Option Reason → Option Reason
or_else (Some reason) other = Some reason
or_else None other = other

-- A start entry says that the command was started and has not succeeded. Its command is one NUL byte, which no
-- manifest's command has.
abbrev pub is_start : Recorded → Bool
is_start entry = same_text entry.command (0 ∷ [])

abbrev pub entry_reason : Option Recorded → Reason
entry_reason None = NeverBuilt
entry_reason (Some entry) = if is_start entry then NotFinished else OtherCommand

-- a missing path; the path of a start entry is always missing
abbrev pub path_reason : Option Recorded → ℕ → Reason
path_reason None n = PathMissing n
path_reason (Some entry) n = if is_start entry then NotFinished else PathMissing n

abbrev pub is_missing : ℕ → Bool
is_missing t = t == 0

-- the reason by the entry, unless the edge is a generator
abbrev pub command_reason : Facts → Option Recorded → Option Reason
command_reason facts entry = if not facts.generator && is_new facts.command entry then Some (entry_reason entry) else None

-- the first file that is later than the baseline
abbrev pub newer_reason : (baseline : ℕ) (stamps : List ℕ) → Option Reason
newer_reason b stamps = option_map (λ n. Newer n b) (first_at (nat_lt b) 0 stamps)

abbrev pub reason_by : Facts → (named outputs : List ℕ) → Option Recorded → (recorded : List ℕ) → Option Reason
reason_by facts named outputs entry recorded =
    or_else (option_map OutputMissing (first_at is_missing 0 outputs))
    (or_else (option_map InputChanged (first_changed 0 facts.named))
    (or_else (command_reason facts entry)
    (or_else (option_map (path_reason entry) (first_at is_missing 0 recorded))
    (newer_reason (baseline facts.baseline outputs entry) (named ++ recorded)))))

-- The first reason, by the stamps of the named inputs, of the outputs and of the recorded paths, and by the entry.
abbrev pub first_reason : Command → (named outputs : List ℕ) → Option Recorded → (recorded : List ℕ) → Option Reason
first_reason c named outputs entry recorded = reason_by (facts_of c) named outputs entry recorded

-- the first reason by the replies that an edge got
abbrev pub reason_in : Facts → List Reply → Option Reason
reason_in facts replies =
    reason_by facts (observed facts replies).named (observed facts replies).outputs (observed facts replies).entry (observed facts replies).recorded

-- ---- laws

-- There is a reason exactly if the edge is dirty by the rule.
abbrev pub ReasonsAreCauses : Type 0
ReasonsAreCauses = (c : Command) (named outputs : List ℕ) (entry : Option Recorded) (recorded : List ℕ) → is_some (first_reason c named outputs entry recorded) ≡ is_dirty c named outputs entry recorded

-- what a reason says of an edge and of what it observed
abbrev pub Holds : Command → Observations → Reason → Type 0
Holds c o (OutputMissing n) = slice_get o.outputs n ≡ Some 0
Holds c o (InputChanged n) = (stamp : ℕ) × (slice_get c.named n ≡ Some (Made stamp true))
Holds c o NeverBuilt = (c.generator ≡ false) × (o.entry ≡ None)
Holds c o NotFinished = (entry : Recorded) × (o.entry ≡ Some entry) × (is_start entry ≡ true)
Holds c o OtherCommand = (c.generator ≡ false) × (entry : Recorded) × (o.entry ≡ Some entry) × (same_text entry.command c.command ≡ false)
Holds c o (PathMissing n) = slice_get o.recorded n ≡ Some 0
Holds c o (Newer n b) = (b ≡ baseline c.baseline o.outputs o.entry) × (t : ℕ) × (slice_get (o.named ++ o.recorded) n ≡ Some t) × (nat_lt b t ≡ true)

-- The first reason says what holds.
abbrev pub ReasonsHold : Type 0
ReasonsHold = (c : Command) (o : Observations) (reason : Reason) → first_reason c o.named o.outputs o.entry o.recorded ≡ Some reason → Holds c o reason
