-- The replies of a world that wraps another one, and the stamps that it keeps.
use Rattle.std.specs.Prelude.{ℕ, List}
use Rattle.plan_verify.specs.Turn.{Request}
use Rattle.plan_machine.specs.declared.event.reply.Reply.{Reply}
use Rattle.plan_lanes.specs.Journals.{Rule}

-- a reply that a rule allows for a question under some number
abbrev pub AllowsOnce : Rule → Request → Reply → Type 0
AllowsOnce rule question reply = (n : ℕ) × rule n question reply

-- a reply that was asked for in a moment: its path, and the number of commands that had begun by that moment
pub record Asked : Type 0 where
  pub path : List ℕ
  pub reply : Reply
  pub begun : ℕ

-- a kept stamp: its path, the stamp, and the number of commands that had begun when it was asked for
pub record Kept : Type 0 where
  pub path : List ℕ
  pub stamp : ℕ
  pub begun : ℕ
