use Rattle.std.proofs.Common.{ℕ, ◌<◌, [], get_or}
use Rattle.std.specs.Prelude.{IsUtf8}
use Rattle.plan_world.proofs.shell.make_folders.Given as goal

-- the files so far are texts
abbrev pub invariant-loop-number : goal.invariant-loop-number
invariant-loop-number g l = (number : ℕ) → number < l.number → IsUtf8 (get_or l.files number [])
