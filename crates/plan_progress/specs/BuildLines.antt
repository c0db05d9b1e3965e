-- The text of a build: what is shown of the marks of its run, with the outputs of its commands.
use Rattle.std.specs.Prelude.{◌≡◌, ℕ, ◌==◌, nat_lt, Bool, true, false, not, ◌&&◌, ◌||◌, List, [], ◌∷◌, ◌++◌, Option, None, if◌then◌else◌, map, codes}
use Rattle.std.specs.Fmt.{decimal}
use Rattle.plan_text.specs.Bytes.{line_feed, space}
use Rattle.plan_image.specs.declared.image.Parts.{Parts}
use Rattle.plan_verify.specs.Tables.{first_output, outputs_of, path_of}
use Rattle.plan_verify.specs.declared.value.Cause.{Cause}
use Rattle.plan_verify.specs.declared.value.Cause.TheVariants.{MissingInput, Exit, DepfileMalformed}
use Rattle.plan_machine.specs.declared.event.Mark.{Mark}
use Rattle.plan_machine.specs.declared.event.Mark.TheVariants.{Ended, Failed, Took}
use Rattle.plan_machine.specs.Total.{has_command}
use Rattle.plan_status.specs.Consoles.{is_console}
use Rattle.plan_status.specs.Lines.{label_of, malformed_text, plain_text}
use Rattle.plan_status.specs.Outcomes.{or_empty}
use Rattle.plan_progress.specs.declared.counts.Counts.{Counts}
use Rattle.plan_progress.specs.declared.numbers.Numbers.{Numbers}
use Rattle.plan_progress.specs.declared.pace.Pace.{Pace}
use Rattle.plan_progress.specs.declared.display.Display.{Display}
use Rattle.plan_progress.specs.declared.style.Style.{Style}
use Rattle.plan_progress.specs.declared.style.Style.TheVariants.{Labels, Commands, Failures}
use Rattle.plan_progress.specs.Command.{command_of}
use Rattle.plan_progress.specs.Eliding.{elided}
use Rattle.plan_progress.specs.Counting.{counted, counts_of, ended, is_end, no_counts}
use Rattle.plan_progress.specs.Pace.{recent_rate, times_then}
use Rattle.plan_progress.specs.Running.{running_of, running_then}
use Rattle.plan_progress.specs.Template.{at_end, at_start, template_text}

-- What an edge doesn't have in the image is shown as an empty text. Counts are those after the mark that is shown.

-- How the text is shown: a display, with the text of its template. The width of a terminal is 0 if it isn't known.
pub record Look : Type 0 where
  pub style : Style
  pub on_terminal : Bool
  pub colours : Bool
  pub template : List ℕ
  pub width : ℕ

abbrev pub look_of : Display → Look
look_of d = record { style = d.style; on_terminal = d.on_terminal; colours = d.colours; template = d.template.now; width = d.width }

-- ---- the line of a command

-- a label after the text of the template, such as `[n/m] LABEL`
abbrev pub progress : List ℕ → Numbers → List ℕ → List ℕ
progress template n label = template_text template n ++ label

abbrev pub progress_line : List ℕ → Numbers → List ℕ → List ℕ
progress_line template n label = progress template n label ++ line_feed ∷ []

-- a text up to its first line feed
abbrev pub first_line : List ℕ → List ℕ
first_line [] = []
first_line (b ∷ bs) = if b == line_feed then [] else b ∷ first_line bs

-- go to the start of the line, erase it (`ESC [ K`), and cut what is too long for it (`ESC [ ? 7 l`)
abbrev pub write_over : List ℕ
write_over = 13 ∷ 27 ∷ codes "[K" ++ 27 ∷ codes "[?7l"

-- wrap long lines again
abbrev pub wrap_again : List ℕ
wrap_again = 27 ∷ codes "[?7h"

-- on a terminal the line is written over the one before it, cut to its width, and has no line feed
abbrev pub terminal_line : (width : ℕ) → List ℕ → Numbers → List ℕ → List ℕ
terminal_line width template n label = write_over ++ (elided width (progress template n (first_line label)) ++ wrap_again)

abbrev pub shown_line : Look → Numbers → List ℕ → List ℕ
shown_line d n label = if d.on_terminal then terminal_line d.width d.template n label else progress_line d.template n label

abbrev pub styled_line : Style → Look → Parts → Numbers → ℕ → List ℕ
styled_line Labels d p n e = shown_line d n (or_empty (label_of p e))
styled_line Commands d p n e = shown_line d n (or_empty (command_of p e))
styled_line Failures d p n e = []

-- the line of a command edge
abbrev pub edge_line : Look → Parts → Numbers → ℕ → List ℕ
edge_line d p n e = if has_command p e then styled_line d.style d p n e else []

-- the line of a command that starts to run: on a terminal, and of a console command
abbrev pub start_line : Look → Parts → Numbers → ℕ → List ℕ
start_line d p n e = if d.on_terminal || is_console p e then edge_line d p n e else []

-- the line of a command that has ended; a console command had its line when it started
abbrev pub ended_line : Look → Parts → Numbers → ℕ → List ℕ
ended_line d p n e = if is_console p e then [] else edge_line d p n e

-- a missing input has no line
abbrev pub failure_line : Look → Parts → Numbers → ℕ → Cause → List ℕ
failure_line d p n e (MissingInput f) = []
failure_line d p n e cause = ended_line d p n e

-- the line of a mark, which is shown after so many milliseconds
abbrev pub mark_line : Look → Parts → ℕ → Pace → Counts → Mark → List ℕ
mark_line d p total pace c (Took e) = start_line d p (at_start total pace c) e
mark_line d p total pace c (Ended e true) = ended_line d p (at_end total pace c) e
mark_line d p total pace c (Failed e cause) = failure_line d p (at_end total pace c) e cause
mark_line d p total pace c mark = []

-- On a terminal, the line of the only command that still runs. A console command has none.
abbrev pub only_line : Look → Parts → Numbers → List ℕ → List ℕ
only_line d p n (e ∷ []) = if d.on_terminal then ended_line d p n e else []
only_line d p n running = []

-- the line that is shown after the text of a command that ended, if only one command still runs
abbrev pub still_line : Look → Parts → Numbers → Mark → List ℕ → List ℕ
still_line d p n (Ended e true) running = only_line d p n running
still_line d p n (Failed e cause) running = only_line d p n running
still_line d p n mark running = []

-- ---- the output of a command that succeeded

abbrev pub styled_output : Style → List ℕ → List ℕ
styled_output Labels output = output
styled_output Commands output = output
styled_output Failures output = []

-- the output of a command that succeeded
abbrev pub success_output : Style → Parts → ℕ → List ℕ → List ℕ
success_output style p e output = if has_command p e then styled_output style output else []

-- ---- an edge that failed

abbrev pub cause_text : Cause → List ℕ
cause_text (Exit n) = codes "code=" ++ decimal n
cause_text (DepfileMalformed n offset) = malformed_text n offset
cause_text cause = plain_text cause

-- the paths of files, each with a space after it
abbrev pub paths_text : Parts → List ℕ → List ℕ
paths_text p [] = []
paths_text p (f ∷ fs) = or_empty (path_of p f) ++ space ∷ paths_text p fs

-- `FAILED: `, perhaps in red
abbrev pub failed_word : (colours : Bool) → List ℕ
failed_word colours = if colours then 27 ∷ codes "[31mFAILED: " ++ 27 ∷ codes "[0m" else codes "FAILED: "

-- `FAILED: [CAUSE] OUTPUT OUTPUT `
abbrev pub failed_line : (colours : Bool) → Parts → ℕ → Cause → List ℕ
failed_line colours p e cause =
    failed_word colours ++ (codes "[" ++ (cause_text cause ++ (codes "] " ++ (paths_text p (outputs_of p e) ++ line_feed ∷ []))))

abbrev pub command_line : Parts → ℕ → List ℕ
command_line p e = if has_command p e then or_empty (command_of p e) ++ line_feed ∷ [] else []

-- an edge whose command failed, or which failed before or after it
abbrev pub failed_text : (colours : Bool) → Parts → ℕ → Cause → List ℕ → List ℕ
failed_text colours p e cause output = failed_line colours p e cause ++ command_line p e ++ output

-- an edge that needs a file that is missing
abbrev pub missing_line : List ℕ → List ℕ → List ℕ
missing_line path name = codes "ninja: error: '" ++ (path ++ (codes "', needed by '" ++ (name ++ (codes "', missing and no known rule to make it" ++ line_feed ∷ []))))

abbrev pub failure_text : (colours : Bool) → Parts → ℕ → Cause → List ℕ → List ℕ
failure_text colours p e (MissingInput f) output = missing_line (or_empty (path_of p f)) (or_empty (first_output p e))
failure_text colours p e cause output = failed_text colours p e cause output

-- ---- the end of a build

abbrev pub skipped_line : ℕ → List ℕ
skipped_line n = decimal n ++ codes " skipped" ++ line_feed ∷ []

abbrev pub not_started_line : ℕ → List ℕ
not_started_line m = decimal m ++ (codes " not started" ++ line_feed ∷ [])

abbrev pub both_line : ℕ → ℕ → List ℕ
both_line n m = decimal n ++ codes " skipped, " ++ decimal m ++ codes " not started" ++ line_feed ∷ []

-- `n skipped, m not started`, without a part that is 0
abbrev pub counts_line : ℕ → ℕ → List ℕ
counts_line n m = if n == 0 then (if m == 0 then [] else not_started_line m) else if m == 0 then skipped_line n else both_line n m

-- with this mark all command edges have ended
abbrev pub is_last : Parts → ℕ → Counts → Mark → Bool
is_last p total c mark = is_end p mark && (ended c == total)

-- Nothing is counted if nothing ran, because only inputs are missing.
abbrev pub end_line : Bool → Counts → List ℕ
end_line last c = if last && nat_lt 0 c.tried then counts_line c.skipped c.not_started else []

-- ---- line feeds on a terminal

-- A progress line is open as long as no line feed is after it. In a pipe none is open.

abbrev pub has_text : List ℕ → Bool
has_text [] = false
has_text (b ∷ bs) = true

-- a line is open after this progress line, which may be empty
abbrev pub is_open : Bool → Bool → List ℕ → Bool
is_open on_terminal line_open line = line_open || (on_terminal && has_text line)

-- An open line ends before text below it, and with some marks.
abbrev pub ends_line : Bool → List ℕ → Bool
ends_line ends below = ends || has_text below

abbrev pub feed_if : Bool → List ℕ
feed_if ends = if ends then line_feed ∷ [] else []

-- a progress line and the text below it
abbrev pub joined : Bool → Bool → List ℕ → List ℕ → List ℕ
joined line_open ends line below = line ++ feed_if (line_open && ends_line ends below) ++ below

-- a line is open after both
abbrev pub stays_open : Bool → Bool → List ℕ → Bool
stays_open line_open ends below = line_open && not (ends_line ends below)

-- with this mark a console command begins
abbrev pub begins_console : Parts → Mark → Bool
begins_console p (Took e) = is_console p e
begins_console p mark = false

-- an open line ends with this mark: it is the last one, or what follows is printed by a console command
abbrev pub closes_line : Parts → ℕ → Counts → Mark → Bool
closes_line p total c mark = is_last p total c mark || begins_console p mark

-- ---- the text of a build

abbrev pub mark_text : Look → Parts → Mark → List ℕ → List ℕ
mark_text d p (Ended e true) output = success_output d.style p e output
mark_text d p (Failed e cause) output = failure_text d.colours p e cause output
mark_text d p mark output = []

-- the text below a mark's line: its own, and that of the build's end
abbrev pub text_below : Look → Parts → Counts → Bool → Mark → List ℕ → List ℕ
text_below d p c last mark output = mark_text d p mark output ++ end_line last c

abbrev pub is_open_at : Look → Parts → ℕ → Pace → Bool → Counts → Mark → Bool
is_open_at d p total pace line_open c mark = is_open d.on_terminal line_open (mark_line d p total pace c mark)

-- the text of a mark itself, if a line is open before it or not
abbrev pub own_text : Look → Parts → ℕ → Pace → Bool → Counts → Mark → List ℕ → List ℕ
own_text d p total pace line_open c mark output =
    joined (is_open_at d p total pace line_open c mark) (closes_line p total c mark) (mark_line d p total pace c mark) (text_below d p c (is_last p total c mark) mark output)

-- a line is open after this text
abbrev pub own_open : Look → Parts → ℕ → Pace → Bool → Counts → Mark → List ℕ → Bool
own_open d p total pace line_open c mark output =
    stays_open (is_open_at d p total pace line_open c mark) (closes_line p total c mark) (text_below d p c (is_last p total c mark) mark output)

-- the text of a mark, after which these commands run
abbrev pub text_with : Look → Parts → ℕ → Pace → Bool → Counts → List ℕ → Mark → List ℕ → List ℕ
text_with d p total pace line_open c running mark output =
    own_text d p total pace line_open c mark output ++ still_line d p (at_start total pace c) mark running

-- a line is open after this text
abbrev pub open_with : Look → Parts → ℕ → Pace → Bool → Counts → List ℕ → Mark → List ℕ → Bool
open_with d p total pace line_open c running mark output =
    is_open d.on_terminal (own_open d p total pace line_open c mark output) (still_line d p (at_start total pace c) mark running)

-- a mark, the output that was taken with it, and how its line shows the time
pub record Entry : Type 0 where
  pub mark : Mark
  pub output : Option (List ℕ)
  pub pace : Pace

abbrev pub marks_of : List Entry → List Mark
marks_of entries = map (λ (entry : Entry). entry.mark) entries

-- An edge's output is taken with the mark that says that its command ran or that it failed, and with no other one.
abbrev pub IsTaken : (List ℕ → Option (List ℕ) → Type 0) → Parts → Mark → Option (List ℕ) → Type 0
IsTaken taken p (Ended e true) output = taken (or_empty (first_output p e)) output
IsTaken taken p (Failed e cause) output = taken (or_empty (first_output p e)) output
IsTaken taken p mark output = output ≡ None

-- A stopwatch shows the milliseconds of a mark that may have a line. Those of another mark are 0.
abbrev pub IsTimed : (showed : ℕ → Type 0) → Mark → (elapsed : ℕ) → Type 0
IsTimed showed (Took e) elapsed = showed elapsed
IsTimed showed (Ended e true) elapsed = showed elapsed
IsTimed showed (Failed e cause) elapsed = showed elapsed
IsTimed showed mark elapsed = elapsed ≡ 0

-- the outputs of entries were taken, and a stopwatch showed their milliseconds
abbrev pub AreTaken : (List ℕ → Option (List ℕ) → Type 0) → (showed : ℕ → Type 0) → Parts → List Entry → Type 0
AreTaken taken showed p [] = Unit {0}
AreTaken taken showed p (entry ∷ entries) = IsTaken taken p entry.mark entry.output × IsTimed showed entry.mark entry.pace.elapsed × AreTaken taken showed p entries

-- the times of the last commands that finished, after one more entry
abbrev pub times_with : Parts → List ℕ → Entry → List ℕ
times_with p times entry = times_then p times entry.mark entry.pace.elapsed

-- these times after more entries
abbrev pub times_all : Parts → List ℕ → List Entry → List ℕ
times_all p times [] = times
times_all p times (entry ∷ entries) = times_all p (times_with p times entry) entries

-- The rate of each entry is that of the last commands that finished, the entry's own command included.
abbrev pub ArePaced : Parts → List ℕ → List Entry → Type 0
ArePaced p times [] = Unit {0}
ArePaced p times (entry ∷ entries) = entry.pace.rate ≡ recent_rate (times_with p times entry) × ArePaced p (times_with p times entry) entries

-- the text of an entry that comes after marks with these counts, with or without an open line, while these commands run
abbrev pub entry_text : Look → Parts → ℕ → Bool → Counts → List ℕ → Entry → List ℕ
entry_text d p total line_open c running entry =
    text_with d p total entry.pace line_open (counted p c entry.mark) (running_then running entry.mark) entry.mark (or_empty entry.output)

-- a line is open after it
abbrev pub entry_open : Look → Parts → ℕ → Bool → Counts → List ℕ → Entry → Bool
entry_open d p total line_open c running entry =
    open_with d p total entry.pace line_open (counted p c entry.mark) (running_then running entry.mark) entry.mark (or_empty entry.output)

-- the text of entries
abbrev pub text_after : Look → Parts → ℕ → Bool → Counts → List ℕ → List Entry → List ℕ
text_after d p total line_open c running [] = []
text_after d p total line_open c running (entry ∷ entries) =
    entry_text d p total line_open c running entry
    ++ text_after d p total (entry_open d p total line_open c running entry) (counted p c entry.mark) (running_then running entry.mark) entries

-- a line is open after them
abbrev pub open_after : Look → Parts → ℕ → Bool → Counts → List ℕ → List Entry → Bool
open_after d p total line_open c running [] = line_open
open_after d p total line_open c running (entry ∷ entries) =
    open_after d p total (entry_open d p total line_open c running entry) (counted p c entry.mark) (running_then running entry.mark) entries

abbrev pub text_of : Look → Parts → ℕ → List Entry → List ℕ
text_of d p total entries = text_after d p total false no_counts [] entries

abbrev pub open_of : Look → Parts → ℕ → List Entry → Bool
open_of d p total entries = open_after d p total false no_counts [] entries

-- The text is that of these marks with the outputs that were taken, when they were shown, and the counts are theirs. `line_open` says whether a line is open after it, `running` are the edges whose commands run, and `times` those of the last commands that finished.
pub record TellsBuild (taken : List ℕ → Option (List ℕ) → Type 0) (showed : ℕ → Type 0) (look : Look) (counts : Counts) (line_open : Bool) (running : List ℕ) (times : List ℕ) (p : Parts) (total : ℕ) (marks : List Mark) (text : List ℕ) : Type 0 where
  pub entries : List Entry
  pub all : marks_of entries ≡ marks
  pub given : AreTaken taken showed p entries
  pub paced : ArePaced p [] entries
  pub counted : counts ≡ counts_of p marks
  pub runs : running ≡ running_of marks
  pub timed : times ≡ times_all p [] entries
  pub opened : line_open ≡ open_of look p total entries
  pub shown : text ≡ text_of look p total entries
