-- The text before a label, by a template as ninja's NINJA_STATUS.
use Rattle.std.specs.Prelude.{ℕ, ◌-◌, ◌*◌, ◌/◌, ◌%◌, ◌==◌, nat_le, nat_lt, Bool, false, not, ◌&&◌, ◌||◌, List, [], ◌∷◌, ◌++◌, Option, Some, None, is_none, if◌then◌else◌, codes}
use Rattle.std.specs.Fmt.{decimal}
use Rattle.plan_text.specs.Bytes.{nul}
use Rattle.plan_progress.specs.declared.counts.Counts.{Counts}
use Rattle.plan_progress.specs.declared.numbers.Numbers.{Numbers}
use Rattle.plan_progress.specs.declared.pace.Pace.{Pace}
use Rattle.plan_progress.specs.declared.template.Placeholder.{Placeholder}
use Rattle.plan_progress.specs.declared.template.Placeholder.TheVariants.{Percent, Started, Total, Percentage, Running, Remaining, Finished, Elapsed, ElapsedClock, Eta, EtaClock, Rate, Recent}
use Rattle.plan_progress.specs.Pace.{per_ten_seconds}

-- ---- numbers

-- the numbers of a line; `before` commands had finished before its own
abbrev pub line_numbers : ℕ → Pace → Counts → (before : ℕ) → Numbers
line_numbers total pace c before =
    record { started = c.started; total = total - c.clean; running = c.started - before; finished = c.finished; elapsed = pace.elapsed; recent = pace.rate }

-- the numbers when a command starts
abbrev pub at_start : ℕ → Pace → Counts → Numbers
at_start total pace c = line_numbers total pace c c.finished

-- The numbers when a command has ended. It still counts as one that runs, as with ninja.
abbrev pub at_end : ℕ → Pace → Counts → Numbers
at_end total pace c = line_numbers total pace c (c.finished - 1)

abbrev pub percentage : Numbers → ℕ
percentage n = if n.total == 0 then 0 else n.finished * 100 / n.total

-- spaces before a number, so that it has three characters
abbrev pub margin : ℕ → List ℕ
margin n = if nat_lt n 10 then codes "  " else if nat_lt n 100 then codes " " else []

abbrev pub percentage_text : ℕ → List ℕ
percentage_text n = margin n ++ decimal n ++ codes "%"

-- zeros before a number, so that it has three digits
abbrev pub zeros : ℕ → List ℕ
zeros n = if nat_lt n 10 then codes "00" else if nat_lt n 100 then codes "0" else []

-- milliseconds, as seconds with three digits after the point
abbrev pub seconds_text : ℕ → List ℕ
seconds_text n = decimal (n / 1000) ++ codes "." ++ zeros (n % 1000) ++ decimal (n % 1000)

-- The milliseconds until the build ends, if each command that is left takes as long as a finished one took.
abbrev pub time_left : Numbers → ℕ
time_left n = n.elapsed * (n.total - n.finished) / n.finished

-- the largest time that is shown, 2^64 - 1 milliseconds
abbrev pub longest_time : ℕ
longest_time = 18446744073709551615

-- the time that is left; it isn't known before a command has finished
abbrev pub eta : Numbers → Option ℕ
eta n = if n.finished == 0 then None else if nat_le (time_left n) longest_time then Some (time_left n) else None

abbrev pub eta_text : Option ℕ → List ℕ
eta_text (Some time) = seconds_text time
eta_text None = codes "?"

-- a zero before a number, so that it has two digits
abbrev pub zero : ℕ → List ℕ
zero n = if nat_lt n 10 then codes "0" else []

abbrev pub two_digits : ℕ → List ℕ
two_digits n = zero n ++ decimal n

-- seconds as `MINUTES:SECONDS`
abbrev pub minutes_text : ℕ → List ℕ
minutes_text n = two_digits (n / 60) ++ codes ":" ++ two_digits (n % 60)

-- seconds as `HOURS:MINUTES:SECONDS`
abbrev pub hours_text : ℕ → List ℕ
hours_text n = decimal (n / 3600) ++ codes ":" ++ minutes_text (n % 3600)

-- milliseconds as a clock shows them
abbrev pub clock_text : (hours : Bool) → ℕ → List ℕ
clock_text hours n = if hours then hours_text (n / 1000) else minutes_text (n / 1000)

-- milliseconds of an hour or more
abbrev pub is_long : ℕ → Bool
is_long n = nat_le 3600000 n

abbrev pub is_long_eta : Option ℕ → Bool
is_long_eta (Some time) = is_long time
is_long_eta None = false

-- Clocks show hours if one of both times is long, as with ninja.
abbrev pub has_hours : Numbers → Bool
has_hours n = is_long n.elapsed || is_long_eta (eta n)

abbrev pub eta_clock_text : (hours : Bool) → Option ℕ → List ℕ
eta_clock_text hours (Some time) = clock_text hours time
eta_clock_text hours None = codes "?"

-- tenths, with one digit after the point
abbrev pub tenths_text : ℕ → List ℕ
tenths_text n = decimal (n / 10) ++ codes "." ++ decimal (n % 10)

-- in the first millisecond the rate isn't known
abbrev pub rate_text : Numbers → List ℕ
rate_text n = if n.elapsed == 0 then codes "?" else tenths_text (per_ten_seconds n.finished n.elapsed)

-- the rate of the last commands
abbrev pub recent_text : Option ℕ → List ℕ
recent_text (Some rate) = tenths_text rate
recent_text None = codes "?"

-- ---- placeholders

abbrev pub percent : ℕ
percent = 37

-- `p`, and `P`: times of earlier builds aren't kept, so the percentage of the predicted time is that of commands
abbrev pub is_percentage : ℕ → Bool
is_percentage b = (b == 112) || (b == 80)

-- the placeholder of the byte after a percent sign
abbrev pub placeholder_of : ℕ → Option Placeholder
placeholder_of b =
    if b == percent then Some Percent
    else if b == 115 then Some Started
    else if b == 116 then Some Total
    else if is_percentage b then Some Percentage
    else if b == 114 then Some Running
    else if b == 117 then Some Remaining
    else if b == 102 then Some Finished
    else if b == 101 then Some Elapsed
    else if b == 119 then Some ElapsedClock
    else if b == 69 then Some Eta
    else if b == 87 then Some EtaClock
    else if b == 111 then Some Rate
    else if b == 99 then Some Recent
    else None

abbrev pub placeholder_text : Placeholder → Numbers → List ℕ
placeholder_text Percent n = codes "%"
placeholder_text Started n = decimal n.started
placeholder_text Total n = decimal n.total
placeholder_text Percentage n = percentage_text (percentage n)
placeholder_text Running n = decimal n.running
placeholder_text Remaining n = decimal (n.total - n.started)
placeholder_text Finished n = decimal n.finished
placeholder_text Elapsed n = seconds_text n.elapsed
placeholder_text ElapsedClock n = clock_text (has_hours n) n.elapsed
placeholder_text Eta n = eta_text (eta n)
placeholder_text EtaClock n = eta_clock_text (has_hours n) (eta n)
placeholder_text Rate n = rate_text n
placeholder_text Recent n = recent_text n.recent

-- an unknown placeholder has no text
abbrev pub text_if_known : Option Placeholder → Numbers → List ℕ
text_if_known (Some placeholder) n = placeholder_text placeholder n
text_if_known None n = []

-- ---- templates

-- A byte is escaped if a percent sign comes before it, which isn't escaped itself.

-- the text of a byte
abbrev pub byte_text : (escaped : Bool) → ℕ → Numbers → List ℕ
byte_text escaped b n = if escaped then text_if_known (placeholder_of b) n else if b == percent then [] else b ∷ []

-- the byte after this one is escaped
abbrev pub escapes : (escaped : Bool) → ℕ → Bool
escapes escaped b = not escaped && (b == percent)

-- the text of the rest of a template
abbrev pub text_from : (escaped : Bool) → List ℕ → Numbers → List ℕ
text_from escaped [] n = []
text_from escaped (b ∷ bs) n = byte_text escaped b n ++ text_from (escapes escaped b) bs n

-- the text that a template gives for numbers
abbrev pub template_text : List ℕ → Numbers → List ℕ
template_text template n = text_from false template n

abbrev pub is_unknown : (escaped : Bool) → ℕ → Bool
is_unknown escaped b = escaped && is_none (placeholder_of b)

-- the first byte that is an unknown placeholder; for a percent sign at the end it is 0
abbrev pub unknown_from : (escaped : Bool) → List ℕ → Option ℕ
unknown_from escaped [] = if escaped then Some nul else None
unknown_from escaped (b ∷ bs) = if is_unknown escaped b then Some b else unknown_from (escapes escaped b) bs

abbrev pub unknown_placeholder : List ℕ → Option ℕ
unknown_placeholder template = unknown_from false template
