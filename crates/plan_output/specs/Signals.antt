-- The line that says which signal ended a command. The numbers are those of Linux on x86-64.
use Rattle.std.specs.Prelude.{ℕ, List, [], ◌∷◌, ◌++◌, ◌==◌, if◌then◌else◌, codes}

abbrev pub ended_by : List ℕ → List ℕ
ended_by name = codes "ended by " ++ (name ++ 10 ∷ [])

abbrev pub signal_line : ℕ → List ℕ
signal_line s =
    if s == 1 then ended_by (codes "SIGHUP") else
    if s == 2 then ended_by (codes "SIGINT") else
    if s == 3 then ended_by (codes "SIGQUIT") else
    if s == 4 then ended_by (codes "SIGILL") else
    if s == 5 then ended_by (codes "SIGTRAP") else
    if s == 6 then ended_by (codes "SIGABRT") else
    if s == 7 then ended_by (codes "SIGBUS") else
    if s == 8 then ended_by (codes "SIGFPE") else
    if s == 9 then ended_by (codes "SIGKILL") else
    if s == 10 then ended_by (codes "SIGUSR1") else
    if s == 11 then ended_by (codes "SIGSEGV") else
    if s == 12 then ended_by (codes "SIGUSR2") else
    if s == 13 then ended_by (codes "SIGPIPE") else
    if s == 14 then ended_by (codes "SIGALRM") else
    if s == 15 then ended_by (codes "SIGTERM") else
    if s == 16 then ended_by (codes "SIGSTKFLT") else
    if s == 24 then ended_by (codes "SIGXCPU") else
    if s == 25 then ended_by (codes "SIGXFSZ") else
    if s == 26 then ended_by (codes "SIGVTALRM") else
    if s == 27 then ended_by (codes "SIGPROF") else
    if s == 29 then ended_by (codes "SIGIO") else
    if s == 30 then ended_by (codes "SIGPWR") else
    if s == 31 then ended_by (codes "SIGSYS") else
    ended_by (codes "a signal")
