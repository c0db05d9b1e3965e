use Rattle.std.proofs.Common.{◌≡◌, ◌≤◌, ◌++◌, drop, take}
use Rattle.plan_status.specs.Lines.{ends, lines_behind, lines_of}
use Rattle.plan_status.proofs.printing.status_lines.Given as goal

-- the number of ends so far, and the lines so far, followed by those that are left
abbrev pub invariant-loop-mark : goal.invariant-loop-mark
invariant-loop-mark l =
    (l.n ≡ ends l.image (take l.mark-index l.marks)) × (l.n ≤ l.mark-index)
    × (l.text.items ++ lines_behind l.image l.total (take l.mark-index l.marks) (drop l.mark-index l.marks) ≡ lines_of l.image l.total l.marks)
