-- The meaning of a trace, line by line.
use Rattle.std.specs.Prelude.{ℕ, Bool, ◌+◌, ◌&&◌, nat_le, nat_lt, List, [], ◌∷◌, length, Option, Some, None, Result, Ok, Err, if◌then◌else◌, option_map, codes}
use Rattle.std.specs.Str.{bytes_eq}
use Rattle.plan_text.specs.Bytes.{line_feed, space}
use Rattle.plan_machine.specs.Limits.{Limits}
use Rattle.plan_machine.specs.declared.event.Event.{Event}
use Rattle.plan_machine.specs.declared.event.Event.TheVariants.{Start, Skip, Stop, Step, Reply as Hear}
use Rattle.plan_machine.specs.declared.event.reply.Reply.{Reply}
use Rattle.plan_machine.specs.declared.event.reply.Reply.TheVariants as reply
use Rattle.plan_trace.specs.declared.trace.Trace.{Trace}
use Rattle.plan_trace.specs.declared.fault.TraceFault.{TraceFault}
use Rattle.plan_trace.specs.declared.fault.TraceFault.TheVariants.{BadTrace}
use Rattle.plan_trace.specs.Words.{bytes_of, number_of, parts_at}

abbrev pub words_of : List ℕ → List (List ℕ)
words_of line = parts_at space line

-- ---- replies

abbrev pub plain_reply : List ℕ → Option Reply
plain_reply word =
    if bytes_eq word (codes "none") then Some reply.Nothing
    else if bytes_eq word (codes "signal") then Some reply.Signal
    else if bytes_eq word (codes "notstarted") then Some reply.NotStarted
    else if bytes_eq word (codes "kept") then Some reply.Kept
    else if bytes_eq word (codes "fault") then Some reply.Fault
    else None

abbrev pub reply_with : List ℕ → List ℕ → Option Reply
reply_with word more =
    if bytes_eq word (codes "stamp") then option_map reply.Stamp (number_of 18446744073709551615 more)
    else if bytes_eq word (codes "exit") then option_map reply.Exit (number_of 255 more)
    else if bytes_eq word (codes "bytes") then option_map reply.Bytes (bytes_of more)
    else None

abbrev pub path_onto : Option (List ℕ) → Option (List (List ℕ)) → Option (List (List ℕ))
path_onto (Some path) (Some paths) = Some (path ∷ paths)
path_onto path paths = None

abbrev pub paths_of : List (List ℕ) → Option (List (List ℕ))
paths_of [] = Some []
paths_of (word ∷ words) = path_onto (bytes_of word) (paths_of words)

abbrev pub entry_by : Option ℕ → Option (List ℕ) → Option (List (List ℕ)) → Option Reply
entry_by (Some basis) (Some command) (Some paths) = Some (reply.Entry (record { command = command; basis = basis; paths = paths }))
entry_by basis command paths = None

abbrev pub entry_of : List ℕ → List ℕ → List (List ℕ) → Option Reply
entry_of basis command paths = entry_by (number_of 18446744073709551615 basis) (bytes_of command) (paths_of paths)

abbrev pub worded_entry : List ℕ → List ℕ → List ℕ → List (List ℕ) → Option Reply
worded_entry word basis command paths = if bytes_eq word (codes "entry") then entry_of basis command paths else None

abbrev pub reply_of : List (List ℕ) → Option Reply
reply_of [] = None
reply_of (word ∷ []) = plain_reply word
reply_of (word ∷ more ∷ []) = reply_with word more
reply_of (word ∷ basis ∷ command ∷ paths) = worded_entry word basis command paths

-- ---- events

abbrev pub plain_event : List ℕ → ℕ → Option Event
plain_event kind e =
    if bytes_eq kind (codes "start") then Some (Start e)
    else if bytes_eq kind (codes "step") then Some (Step e)
    else if bytes_eq kind (codes "stop") then Some (Stop e)
    else None

abbrev pub skip_of : ℕ → List (List ℕ) → Option Event
skip_of e (w ∷ []) = option_map (Skip e) (number_of 4294967295 w)
skip_of e words = None

abbrev pub event_with : List ℕ → ℕ → List (List ℕ) → Option Event
event_with kind e words =
    if bytes_eq kind (codes "reply") then option_map (Hear e) (reply_of words)
    else if bytes_eq kind (codes "skip") then skip_of e words
    else None

abbrev pub event_by : List ℕ → Option ℕ → List (List ℕ) → Option Event
event_by kind None words = None
event_by kind (Some e) [] = plain_event kind e
event_by kind (Some e) (word ∷ words) = event_with kind e (word ∷ words)

-- the event in these words, whose first word is its kind and whose second is its edge
abbrev pub event_of : List (List ℕ) → Option Event
event_of (kind ∷ edge ∷ words) = event_by kind (number_of 4294967295 edge) words
event_of words = None

-- ---- options and targets

abbrev pub options_by : Option ℕ → Option ℕ → Option Limits
options_by (Some jobs) (Some keep) = if nat_lt 0 jobs && nat_le jobs 64 then Some (record { jobs = jobs; keep = keep }) else None
options_by jobs keep = None

abbrev pub is_head : List ℕ → List ℕ → List ℕ → List ℕ → Bool
is_head name version j k = bytes_eq name (codes "plan-trace") && bytes_eq version (codes "1") && bytes_eq j (codes "j") && bytes_eq k (codes "k")

-- 1 to 64 jobs
abbrev pub options_of : List (List ℕ) → Option Limits
options_of (name ∷ version ∷ j ∷ jobs ∷ k ∷ keep ∷ []) = if is_head name version j k then options_by (number_of 255 jobs) (number_of 4294967295 keep) else None
options_of words = None

abbrev pub target_of : List (List ℕ) → Option ℕ
target_of (kind ∷ e ∷ []) = if bytes_eq kind (codes "target") then number_of 4294967295 e else None
target_of words = None

-- ---- lines; the last one is empty, because a line feed follows each line

abbrev pub targets_by : Option ℕ → List ℕ → List ℕ
targets_by (Some e) more = e ∷ more
targets_by None more = []

-- the targets, one for each line from the front, as long as lines are targets
abbrev pub targets_of : List (List ℕ) → List ℕ
targets_of [] = []
targets_of (last ∷ []) = []
targets_of (line ∷ next ∷ lines) = targets_by (target_of (words_of line)) (targets_of (next ∷ lines))

abbrev pub behind_by : Option ℕ → List (List ℕ) → List (List ℕ) → List (List ℕ)
behind_by (Some e) rest lines = rest
behind_by None rest lines = lines

-- the lines after the targets
abbrev pub behind_targets : List (List ℕ) → List (List ℕ)
behind_targets [] = []
behind_targets (last ∷ []) = last ∷ []
behind_targets (line ∷ next ∷ lines) = behind_by (target_of (words_of line)) (behind_targets (next ∷ lines)) (line ∷ next ∷ lines)

abbrev pub then_event : ℕ → Option Event → Result (List Event) TraceFault → Result (List Event) TraceFault
then_event n None more = Err (BadTrace n)
then_event n (Some event) (Err fault) = Err fault
then_event n (Some event) (Ok events) = Ok (event ∷ events)

abbrev pub end_of : ℕ → List ℕ → Result (List Event) TraceFault
end_of n [] = Ok []
end_of n (b ∷ rest) = Err (BadTrace n)

-- the events in the lines from line n on, one for each line, or the first line that isn't an event
abbrev pub events_of : ℕ → List (List ℕ) → Result (List Event) TraceFault
events_of n [] = Ok []
events_of n (last ∷ []) = end_of n last
events_of n (line ∷ next ∷ lines) = then_event n (event_of (words_of line)) (events_of (n + 1) (next ∷ lines))

abbrev pub with_events : Limits → List ℕ → Result (List Event) TraceFault → Result Trace TraceFault
with_events options targets (Ok events) = Ok (record { options = options; targets = targets; events = events })
with_events options targets (Err fault) = Err fault

abbrev pub with_head : Option Limits → List (List ℕ) → Result Trace TraceFault
with_head None lines = Err (BadTrace 1)
with_head (Some options) lines = with_events options (targets_of lines) (events_of (length (targets_of lines) + 2) (behind_targets lines))

abbrev pub trace_of : List (List ℕ) → Result Trace TraceFault
trace_of (line ∷ next ∷ lines) = with_head (options_of (words_of line)) (next ∷ lines)
trace_of lines = Err (BadTrace 1)

-- The trace in a text, or its first line that is not allowed at its place, counted from 1. The first line has
-- the options. Then come lines with a target, and then lines with an event. Bytes after the last line feed are
-- a bad line.
abbrev pub read_of : List ℕ → Result Trace TraceFault
read_of text = trace_of (parts_at line_feed text)
