-- Laws about all traces.
use Rattle.std.specs.Prelude.{◌≡◌, ℕ, Bool, true, ◌&&◌, nat_le, nat_lt, List, Ok}
use Rattle.std.specs.List.{list_all}
use Rattle.plan_machine.specs.Limits.{Limits}
use Rattle.plan_machine.specs.declared.event.Event.{Event}
use Rattle.plan_machine.specs.declared.event.Event.TheVariants.{Start, Skip, Stop, Step, Reply as Hear}
use Rattle.plan_machine.specs.declared.event.reply.Reply.{Reply}
use Rattle.plan_machine.specs.declared.event.reply.Reply.TheVariants as reply
use Rattle.plan_trace.specs.declared.trace.Trace.{Trace}
use Rattle.plan_trace.specs.Spelling.{text_of}
use Rattle.plan_trace.specs.Reading.{read_of}

-- a text that is read as a trace is its spelling: no trace has two spellings
abbrev pub AreSpelledOnce : Type 0
AreSpelledOnce = (text : List ℕ) (t : Trace) → read_of text ≡ Ok t → text ≡ text_of t

-- ---- traces of numbers that fit their types

abbrev pub is_edge : ℕ → Bool
is_edge e = nat_le e 4294967295

abbrev pub is_stamp : ℕ → Bool
is_stamp n = nat_le n 18446744073709551615

abbrev pub are_bytes : List ℕ → Bool
are_bytes bytes = list_all (λ b. nat_le b 255) bytes

abbrev pub fits_reply : Reply → Bool
fits_reply (reply.Stamp n) = is_stamp n
fits_reply (reply.Entry r) = is_stamp r.basis && are_bytes r.command && list_all are_bytes r.paths
fits_reply (reply.Exit n) = nat_le n 255
fits_reply (reply.Bytes bytes) = are_bytes bytes
fits_reply r = true

abbrev pub fits_event : Event → Bool
fits_event (Start e) = is_edge e
fits_event (Skip e w) = is_edge e && is_edge w
fits_event (Stop e) = is_edge e
fits_event (Step e) = is_edge e
fits_event (Hear e r) = is_edge e && fits_reply r

-- 1 to 64 jobs, and a failure limit of 32 bits
abbrev pub fits_options : Limits → Bool
fits_options o = nat_lt 0 o.jobs && nat_le o.jobs 64 && nat_le o.keep 4294967295

abbrev pub fits : Trace → Bool
fits t = fits_options t.options && list_all is_edge t.targets && list_all fits_event t.events

-- the spelling of a trace is read as that trace
abbrev pub AreReadAgain : Type 0
AreReadAgain = (t : Trace) → fits t ≡ true → read_of (text_of t) ≡ Ok t
