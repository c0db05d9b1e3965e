-- The spelling of a trace. The format is this project's own choice.
use Rattle.std.specs.Prelude.{ℕ, List, [], ◌∷◌, ◌++◌, map, codes}
use Rattle.std.specs.List.{flat_map}
use Rattle.std.specs.Fmt.{decimal}
use Rattle.plan_text.specs.Bytes.{line_feed, space}
use Rattle.plan_image.specs.Listing.{hex}
use Rattle.plan_machine.specs.Limits.{Limits}
use Rattle.plan_machine.specs.Recording.{Recording}
use Rattle.plan_machine.specs.declared.event.Event.{Event}
use Rattle.plan_machine.specs.declared.event.Event.TheVariants.{Start, Skip, Stop, Step, Reply as Hear}
use Rattle.plan_machine.specs.declared.event.reply.Reply.{Reply}
use Rattle.plan_machine.specs.declared.event.reply.Reply.TheVariants as reply
use Rattle.plan_trace.specs.declared.trace.Trace.{Trace}

-- each word after a space
abbrev pub behind : List (List ℕ) → List ℕ
behind [] = []
behind (word ∷ words) = space ∷ word ++ behind words

-- words, separated by spaces, and the end of the line
abbrev pub line : List (List ℕ) → List ℕ
line [] = line_feed ∷ []
line (word ∷ words) = word ++ behind words ++ line_feed ∷ []

-- the first line: the version, the number of jobs, and the failure limit
abbrev pub options_words : Limits → List (List ℕ)
options_words o = codes "plan-trace" ∷ codes "1" ∷ codes "j" ∷ decimal o.jobs ∷ codes "k" ∷ decimal o.keep ∷ []

abbrev pub target_words : ℕ → List (List ℕ)
target_words e = codes "target" ∷ decimal e ∷ []

abbrev pub recorded_words : Recording → List (List ℕ)
recorded_words r = codes "entry" ∷ decimal r.basis ∷ hex r.command ∷ map hex r.paths

abbrev pub plain_word : Reply → List ℕ
plain_word reply.Nothing = codes "none"
plain_word reply.Signal = codes "signal"
plain_word reply.NotStarted = codes "notstarted"
plain_word reply.Kept = codes "kept"
plain_word _ = codes "fault"

abbrev pub reply_words : Reply → List (List ℕ)
reply_words (reply.Stamp n) = codes "stamp" ∷ decimal n ∷ []
reply_words (reply.Entry r) = recorded_words r
reply_words (reply.Exit n) = codes "exit" ∷ decimal n ∷ []
reply_words (reply.Bytes bytes) = codes "bytes" ∷ hex bytes ∷ []
reply_words r = plain_word r ∷ []

abbrev pub event_words : Event → List (List ℕ)
event_words (Start e) = codes "start" ∷ decimal e ∷ []
event_words (Skip e w) = codes "skip" ∷ decimal e ∷ decimal w ∷ []
event_words (Stop e) = codes "stop" ∷ decimal e ∷ []
event_words (Step e) = codes "step" ∷ decimal e ∷ []
event_words (Hear e r) = codes "reply" ∷ decimal e ∷ reply_words r

abbrev pub target_line : ℕ → List ℕ
target_line e = line (target_words e)

abbrev pub event_line : Event → List ℕ
event_line e = line (event_words e)

-- the options, the targets, the events, each on a line of its own
abbrev pub run_text : Limits → List ℕ → List Event → List ℕ
run_text options targets events = line (options_words options) ++ (flat_map target_line targets ++ flat_map event_line events)

abbrev pub text_of : Trace → List ℕ
text_of t = run_text t.options t.targets t.events
