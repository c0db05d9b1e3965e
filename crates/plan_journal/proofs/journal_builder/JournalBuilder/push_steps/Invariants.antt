use Rattle.std.proofs.Common.{◌≡◌, ◌-◌, ◌++◌}
use Rattle.plan_machine.specs.LocalRuns.{steps_of}
use Rattle.plan_journal.specs.Drafts.{HasRoom}
use Rattle.plan_journal.proofs.journal_builder.JournalBuilder.push_steps.Given as goal

abbrev pub invariant-loop-turn : goal.invariant-loop-turn
invariant-loop-turn g l = (l.self.events ≡ l.fn.self.events ++ steps_of l.edge l._turn) × HasRoom (l.count - l._turn) l.self
