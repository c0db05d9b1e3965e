-- The definitions, computed on small lists.
use Rattle.std.proofs.Common.{◌≡◌, true, false, List, [], ◌∷◌, None, Some, refl}
use Rattle.plan_schedule.specs.declared.phase.Phase.{Phase}
use Rattle.plan_schedule.specs.declared.phase.Phase.TheVariants.{Unbegun, Runnable, AtTake, Waiting, Succeeded, Failed}
use Rattle.plan_schedule.specs.declared.bucket_rules.EdgeBucket.TheVariants.{Resting, Pending, Startable, Skippable, Steppable, AtTakeOf}
use Rattle.plan_schedule.specs.declared.bucket_rules.PoolBucket.TheVariants.{Free, Full}
use Rattle.plan_schedule.specs.BucketContents.{bucket_len}
use Rattle.plan_schedule.specs.Counts.{holders_of}
use Rattle.plan_schedule.specs.BucketRules.{bucket_for, edge_row, pool_bucket_for}
use Rattle.plan_schedule.specs.Scheduling.{count_unsucceeded}

-- three edges of pool 1: the first holds a job token and has asked, the others are at Take
three : List Phase
three = Waiting true ∷ AtTake false ∷ AtTake false ∷ []

one_holds : holders_of 1 (1 ∷ 1 ∷ 1 ∷ []) three ≡ 1
unfolding three
one_holds = refl

-- a pool of depth 1: two edges are at Take, and the pool is full; when the job token is released, one of them
-- may take it
full : pool_bucket_for 2 1 1 ≡ Full
full = refl

with_room : pool_bucket_for 2 0 1 ≡ Free
with_room = refl

-- buckets of edges that wait, can be started, can be skipped, can make a step, are at Take of pool 1, await a
-- reply
buckets :
    bucket_for Unbegun 2 None 0 ∷ bucket_for Unbegun 0 None 0 ∷ bucket_for Unbegun 1 (Some 7) 0 ∷ bucket_for (Runnable false) 0 None 0 ∷ bucket_for (AtTake false) 0 None 1 ∷ bucket_for (Waiting true) 0 None 1 ∷ []
    ≡ Pending ∷ Startable ∷ Skippable ∷ Steppable ∷ AtTakeOf 1 ∷ Resting ∷ []
buckets = refl

two_stand : bucket_len (edge_row (AtTakeOf 1)) (0 ∷ 6 ∷ 6 ∷ []) ≡ 2
two_stand = refl

-- of edges 0, 1 and 2, where 2 is waited for twice, only the first succeeded
two_unsucceeded : count_unsucceeded (Succeeded ∷ Failed ∷ Unbegun ∷ []) (0 ∷ 2 ∷ 2 ∷ []) ≡ 2
two_unsucceeded = refl
