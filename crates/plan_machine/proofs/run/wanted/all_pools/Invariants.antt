use Rattle.std.proofs.Common.{◌≡◌}
use Rattle.plan_image.specs.Spelling.{pool_number}
use Rattle.plan_verify.specs.Tables.{pool_of}
use Rattle.plan_machine.specs.Firsts.{first_of}
use Rattle.plan_machine.proofs.run.wanted.all_pools.Given as goal

abbrev pub invariant-loop-edge : goal.invariant-loop-edge
invariant-loop-edge l = l.numbers.items ≡ first_of (λ e. pool_number (pool_of l.parts e)) l.edge
