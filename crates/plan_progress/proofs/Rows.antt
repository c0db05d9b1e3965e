-- The texts of small builds.
use Rattle.std.proofs.Common.{◌≡◌, ℕ, List, [], ◌∷◌, ◌++◌, true, false, Some, None, refl}
use Rattle.std.specs.Fmt.{digits}
use Rattle.std.specs.Prelude.{codes}
use Rattle.plan_image.specs.declared.body.Instr.{Instr}
use Rattle.plan_image.specs.declared.body.Instr.TheVariants as op
use Rattle.plan_image.specs.declared.image.Sort.TheVariants as sort
use Rattle.plan_image.specs.declared.image.EdgeCode.TheVariants.{Own}
use Rattle.plan_image.specs.declared.image.Parts.{Parts}
use Rattle.plan_verify.specs.declared.value.Cause.TheVariants as cause
use Rattle.plan_machine.specs.declared.event.Mark.{Mark}
use Rattle.plan_machine.specs.declared.event.Mark.TheVariants.{Started, Took, Released, Ended, Failed, Skipped, Stopped}
use Rattle.plan_progress.specs.declared.style.Style.{Style}
use Rattle.plan_progress.specs.declared.style.Style.TheVariants.{Labels, Commands, Failures}
use Rattle.plan_progress.specs.Command.{text_before_run}
use Rattle.plan_progress.specs.BuildLines.{Entry, Look, first_line, text_of}
use Rattle.plan_progress.specs.Eliding.{elided}
use Rattle.plan_progress.specs.Pace.{recent_rate, times_then}
use Rattle.plan_progress.specs.Template.{template_text, unknown_placeholder}

-- the code of an edge that runs a text
abbrev running : ℕ → List Instr
running n = op.Take ∷ op.Text n ∷ op.Run ∷ op.Release ∷ op.Text n ∷ op.Drop ∷ op.End ∷ []

-- edge 0 makes a.o of the file a.c, edge 1 makes app and app.map of a.o, and edge 2 is an alias of app
abbrev build : Parts
build = record {
  texts = codes "CC a.o" ∷ codes "cc -c a.c" ∷ codes "LINK app" ∷ codes "ld -o app a.o" ∷ [] ∷ [];
  files = codes "a.o" ∷ codes "app" ∷ codes "app.map" ∷ codes "all" ∷ codes "a.c" ∷ [];
  pools = [];
  slots = [];
  bodies = None;
  edges = record { sort = sort.Command; pool = None; rank = 0; label = 0; outputs = 0 ∷ []; waits = []; code = Own (running 1) }
      ∷ record { sort = sort.Command; pool = None; rank = 1; label = 2; outputs = 1 ∷ 2 ∷ []; waits = 0 ∷ []; code = Own (running 3) }
      ∷ record { sort = sort.Phony; pool = None; rank = 2; label = 4; outputs = 3 ∷ []; waits = 1 ∷ []; code = Own (op.End ∷ []) }
      ∷ [];
  defaults = 2 ∷ [];
}

abbrev line : List ℕ → List ℕ
line text = text ++ 10 ∷ []

abbrev in_pipe : Style → Look
in_pipe style = record { style = style; on_terminal = false; colours = false; template = codes "[%f/%t] "; width = 0 }

abbrev on_terminal : Style → Look
on_terminal style = record { style = style; on_terminal = true; colours = true; template = codes "[%f/%t] "; width = 0 }

-- carriage return, erase the line, don't wrap; the text; wrap again
abbrev over : List ℕ → List ℕ
over text = 13 ∷ 27 ∷ 91 ∷ 75 ∷ 27 ∷ 91 ∷ 63 ∷ 55 ∷ 108 ∷ text ++ 27 ∷ 91 ∷ 63 ∷ 55 ∷ 104 ∷ []

-- in red
abbrev in_red : List ℕ → List ℕ
in_red text = 27 ∷ 91 ∷ 51 ∷ 49 ∷ 109 ∷ text ++ 27 ∷ 91 ∷ 48 ∷ 109 ∷ []

abbrev with_output : Mark → List ℕ → Entry
with_output mark output = record { mark = mark; output = Some output; pace = record { elapsed = 1500; rate = None } }

abbrev silent : Mark → Entry
silent mark = record { mark = mark; output = None; pace = record { elapsed = 1500; rate = None } }

last_text_counts : text_before_run None (op.Text 1 ∷ op.Text 2 ∷ op.Run ∷ op.Text 3 ∷ op.Run ∷ []) ≡ Some 2
last_text_counts = refl

-- two commands run, the first one prints a warning, and the alias ends without a line
all_run : text_of (in_pipe Labels) build 2 (silent (Started 0) ∷ with_output (Ended 0 true) (line (codes "warning")) ∷ silent (Ended 1 true) ∷ silent (Ended 2 false) ∷ [])
    ≡ line (codes "[1/2] CC a.o") ++ line (codes "warning") ++ line (codes "[2/2] LINK app")
unfolding digits
all_run = refl

-- one edge is clean, and the command of the other fails
one_fails : text_of (in_pipe Commands) build 2 (silent (Ended 0 false) ∷ with_output (Failed 1 (cause.Exit 2)) (line (codes "no main")) ∷ [])
    ≡ line (codes "[1/1] ld -o app a.o") ++ line (codes "FAILED: [code=2] app app.map ") ++ line (codes "ld -o app a.o") ++ line (codes "no main")
unfolding digits
one_fails = refl

-- an input is missing, and the other edge is skipped: nothing ran, so nothing is counted
input_is_missing : text_of (in_pipe Labels) build 2 (silent (Failed 0 (cause.MissingInput 4)) ∷ silent (Skipped 1 0) ∷ silent (Skipped 2 1) ∷ [])
    ≡ line (codes "ninja: error: 'a.c', needed by 'a.o', missing and no known rule to make it")
unfolding digits
input_is_missing = refl

-- an input is missing after a command ran, so what was skipped is counted
input_is_missing_late : text_of (in_pipe Labels) build 2 (silent (Took 0) ∷ silent (Ended 0 true) ∷ silent (Failed 2 (cause.MissingInput 4)) ∷ silent (Skipped 1 0) ∷ [])
    ≡ line (codes "[1/2] CC a.o") ++ line (codes "ninja: error: 'a.c', needed by 'all', missing and no known rule to make it") ++ line (codes "1 skipped")
unfolding digits
input_is_missing_late = refl

-- a line of 16 bytes on 12 columns, and on 16; another character isn't cut
long_line : elided 12 (codes "[0/1] abcdefghij") ≡ codes "[0/1...ghij"
long_line = refl

fitting_line : elided 16 (codes "[0/1] abcdefghij") ≡ codes "[0/1] abcdefghij"
fitting_line = refl

other_line : elided 3 (97 ∷ 195 ∷ 164 ∷ 98 ∷ []) ≡ 97 ∷ 195 ∷ 164 ∷ 98 ∷ []
other_line = refl

-- only the failure is shown, and the counts at the end
failures_only : text_of (in_pipe Failures) build 3 (with_output (Ended 0 true) (line (codes "warning")) ∷ silent (Failed 1 cause.Signal) ∷ silent (Stopped 1) ∷ [])
    ≡ line (codes "FAILED: [signal] app app.map ") ++ line (codes "ld -o app a.o") ++ line (codes "1 not started")
unfolding digits
failures_only = refl

-- on a terminal: each line is written over the one before, and only the output and the end are on lines of their own
written_over : text_of (on_terminal Labels) build 2 (silent (Took 0) ∷ with_output (Ended 0 true) (line (codes "warning")) ∷ silent (Took 1) ∷ silent (Ended 1 true) ∷ silent (Ended 2 false) ∷ [])
    ≡ over (codes "[0/2] CC a.o") ++ over (codes "[1/2] CC a.o") ++ line [] ++ line (codes "warning") ++ over (codes "[1/2] LINK app") ++ over (codes "[2/2] LINK app") ++ line []
unfolding digits
written_over = refl

-- on a terminal: the failure is below the line of its command, and the counts of the end are below the failure
fails_on_terminal : text_of (on_terminal Commands) build 2 (silent (Took 0) ∷ with_output (Failed 0 (cause.Exit 1)) (line (codes "no a.c")) ∷ silent (Skipped 1 0) ∷ [])
    ≡ over (codes "[0/2] cc -c a.c") ++ over (codes "[1/2] cc -c a.c") ++ line []
    ++ in_red (codes "FAILED: ") ++ line (codes "[code=1] a.o ") ++ line (codes "cc -c a.c") ++ line (codes "no a.c") ++ line (codes "1 skipped")
unfolding digits
fails_on_terminal = refl

-- on a terminal: after the text of a command that ended comes the line of the only one that still runs
only_command_is_shown : text_of (on_terminal Labels) build 2 (silent (Took 0) ∷ silent (Took 1) ∷ silent (Released 0) ∷ with_output (Ended 0 true) (line (codes "warning")) ∷ silent (Released 1) ∷ silent (Ended 1 true) ∷ [])
    ≡ over (codes "[0/2] CC a.o") ++ over (codes "[0/2] LINK app") ++ over (codes "[1/2] CC a.o") ++ line [] ++ line (codes "warning") ++ over (codes "[1/2] LINK app")
    ++ over (codes "[2/2] LINK app") ++ line []
unfolding digits
only_command_is_shown = refl

-- the same build, but the edges that run commands are console edges
abbrev console_build : Parts
console_build = record {
  texts = build.texts;
  files = build.files;
  pools = record { name = codes "console"; depth = 1 } ∷ [];
  slots = [];
  bodies = None;
  edges = record { sort = sort.Command; pool = Some 0; rank = 0; label = 0; outputs = 0 ∷ []; waits = []; code = Own (running 1) }
      ∷ record { sort = sort.Command; pool = Some 0; rank = 1; label = 2; outputs = 1 ∷ 2 ∷ []; waits = 0 ∷ []; code = Own (running 3) }
      ∷ [];
  defaults = 1 ∷ [];
}

-- a console command has its line when it starts, and none when it has ended
console_in_pipe : text_of (in_pipe Labels) console_build 2 (silent (Took 0) ∷ silent (Ended 0 true) ∷ silent (Took 1) ∷ silent (Failed 1 (cause.Exit 2)) ∷ [])
    ≡ line (codes "[0/2] CC a.o") ++ line (codes "[1/2] LINK app") ++ line (codes "FAILED: [code=2] app app.map ") ++ line (codes "ld -o app a.o")
unfolding digits
console_in_pipe = refl

-- on a terminal its output begins on a new line
console_on_terminal : text_of (on_terminal Labels) console_build 2 (silent (Took 0) ∷ silent (Ended 0 true) ∷ silent (Took 1) ∷ silent (Ended 1 true) ∷ [])
    ≡ over (codes "[0/2] CC a.o") ++ line [] ++ over (codes "[1/2] LINK app") ++ line []
unfolding digits
console_on_terminal = refl

-- a label is cut before its first line feed
first_line_only : first_line (line (codes "cat <<E") ++ line (codes "E")) ≡ codes "cat <<E"
first_line_only = refl

-- each placeholder of numbers
all_numbers : template_text (codes "%s %t %p %r %u %f %%s") (record { started = 3; total = 8; running = 2; finished = 1; elapsed = 0; recent = None }) ≡ codes "3 8  12% 2 5 1 %s"
unfolding digits
all_numbers = refl

-- a rate isn't known at once
times_and_rates : template_text (codes "%e %o %c %E") (record { started = 3; total = 8; running = 0; finished = 3; elapsed = 1041; recent = None }) ≡ codes "1.041 2.9 ? 1.735"
unfolding digits
times_and_rates = refl

-- the rate of the last commands: three of them from one time to another one
last_rate : template_text (codes "%c") (record { started = 8; total = 8; running = 0; finished = 8; elapsed = 3000; recent = recent_rate (1000 ∷ 1000 ∷ 3000 ∷ []) }) ≡ codes "1.5"
unfolding digits
last_rate = refl

-- it isn't known before there are two different times
one_time : recent_rate (1000 ∷ 1000 ∷ []) ≡ None
one_time = refl

-- eight times are kept, and the oldest one goes first
eight_times : times_then build (1 ∷ 2 ∷ 3 ∷ 4 ∷ 5 ∷ 6 ∷ 7 ∷ 8 ∷ []) (Ended 0 true) 9 ≡ 2 ∷ 3 ∷ 4 ∷ 5 ∷ 6 ∷ 7 ∷ 8 ∷ 9 ∷ []
eight_times = refl

-- an alias has no command that finishes
alias_has_no_time : times_then build (1 ∷ []) (Ended 2 true) 9 ≡ 1 ∷ []
alias_has_no_time = refl

-- before a command has finished, the time that is left isn't known
no_eta : template_text (codes "%w %E %W%P") (record { started = 1; total = 8; running = 1; finished = 0; elapsed = 61500; recent = None }) ≡ codes "01:01 ? ?  0%"
unfolding digits
no_eta = refl

-- both clocks show hours, since one of the times is an hour or more
clocks_with_hours : template_text (codes "%w %W%P") (record { started = 8; total = 8; running = 6; finished = 2; elapsed = 1800000; recent = None }) ≡ codes "0:30:00 1:30:00 25%"
unfolding digits
clocks_with_hours = refl

rate_at_once : template_text (codes "%e %o") (record { started = 1; total = 8; running = 1; finished = 0; elapsed = 0; recent = None }) ≡ codes "0.000 ?"
unfolding digits
rate_at_once = refl

all_known : unknown_placeholder (codes "[%f/%t] 100%%") ≡ None
all_known = refl

unknown_is_named : unknown_placeholder (codes "%f %x %y") ≡ Some 120
unknown_is_named = refl

percent_at_the_end : unknown_placeholder (codes "%%%") ≡ Some 0
percent_at_the_end = refl

-- a command that ends while another one runs still counts as running
others_run : text_of (record { style = Labels; on_terminal = false; colours = false; template = codes "%s %r %u %f %e: "; width = 0 }) build 2 (silent (Took 0) ∷ silent (Took 1) ∷ silent (Ended 0 true) ∷ silent (Ended 1 true) ∷ [])
    ≡ line (codes "2 2 0 1 1.500: CC a.o") ++ line (codes "2 1 0 2 1.500: LINK app")
unfolding digits
others_run = refl
