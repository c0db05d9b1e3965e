-- How many edges have started, how many have ended, and how.
use Rattle.std.specs.Prelude.{ℕ, ◌+◌, Bool, true, false, List, [], ◌∷◌, if◌then◌else◌}
use Rattle.plan_image.specs.declared.image.Parts.{Parts}
use Rattle.plan_machine.specs.declared.event.Mark.{Mark}
use Rattle.plan_machine.specs.declared.event.Mark.TheVariants.{Ended, Failed, Skipped, Stopped, Took}
use Rattle.plan_verify.specs.declared.value.Cause.{Cause}
use Rattle.plan_verify.specs.declared.value.Cause.TheVariants.{MissingInput}
use Rattle.plan_machine.specs.Total.{has_command}
use Rattle.plan_progress.specs.declared.counts.Counts.{Counts}

abbrev pub no_counts : Counts
no_counts = record { started = 0; finished = 0; clean = 0; skipped = 0; not_started = 0; failed = 0; tried = 0 }

-- a mark says how a command edge ended
abbrev pub is_end : Parts → Mark → Bool
is_end p (Ended e ran) = has_command p e
is_end p (Failed e cause) = has_command p e
is_end p (Skipped e w) = has_command p e
is_end p (Stopped e) = has_command p e
is_end p _ = false

abbrev pub one_more_finished : Counts → Counts
one_more_finished c = record { started = c.started; finished = c.finished + 1; clean = c.clean; skipped = c.skipped; not_started = c.not_started; failed = c.failed; tried = c.tried }

abbrev pub one_more_clean : Counts → Counts
one_more_clean c = record { started = c.started; finished = c.finished; clean = c.clean + 1; skipped = c.skipped; not_started = c.not_started; failed = c.failed; tried = c.tried }

abbrev pub one_more_skipped : Counts → Counts
one_more_skipped c = record { started = c.started; finished = c.finished; clean = c.clean; skipped = c.skipped + 1; not_started = c.not_started; failed = c.failed; tried = c.tried }

abbrev pub one_more_not_started : Counts → Counts
one_more_not_started c = record { started = c.started; finished = c.finished; clean = c.clean; skipped = c.skipped; not_started = c.not_started + 1; failed = c.failed; tried = c.tried }

abbrev pub one_more_failed : Counts → Counts
one_more_failed c = record { started = c.started; finished = c.finished; clean = c.clean; skipped = c.skipped; not_started = c.not_started; failed = c.failed + 1; tried = c.tried }

abbrev pub one_more_started : Counts → Counts
one_more_started c = record { started = c.started + 1; finished = c.finished; clean = c.clean; skipped = c.skipped; not_started = c.not_started; failed = c.failed; tried = c.tried }

abbrev pub one_more_tried : Counts → Counts
one_more_tried c = record { started = c.started; finished = c.finished; clean = c.clean; skipped = c.skipped; not_started = c.not_started; failed = c.failed; tried = c.tried + 1 }

-- an edge has finished if its command ran or it failed, and is clean if it succeeded without running one
abbrev pub one_more : Counts → Mark → Counts
one_more c (Ended e true) = one_more_finished c
one_more c (Ended e false) = one_more_clean c
one_more c (Failed e cause) = one_more_finished c
one_more c (Skipped e w) = one_more_skipped c
one_more c (Stopped e) = one_more_not_started c
one_more c _ = c

abbrev pub with_end : Parts → Counts → Mark → Counts
with_end p c mark = if is_end p mark then one_more c mark else c

-- each edge that failed counts, with or without a command
abbrev pub with_failure : Counts → Mark → Counts
with_failure c (Failed e cause) = one_more_failed c
with_failure c _ = c

-- A mark says that a command edge started, or that it never will, because an input of it is missing.
abbrev pub is_start : Parts → Mark → Bool
is_start p (Took e) = has_command p e
is_start p (Failed e (MissingInput f)) = has_command p e
is_start p _ = false

abbrev pub with_start : Parts → Counts → Mark → Counts
with_start p c mark = if is_start p mark then one_more_started c else c

abbrev pub is_other_cause : Cause → Bool
is_other_cause (MissingInput f) = false
is_other_cause cause = true

-- A mark says that a command edge started, or that an edge failed for another reason than a missing input.
abbrev pub is_try : Parts → Mark → Bool
is_try p (Took e) = has_command p e
is_try p (Failed e cause) = is_other_cause cause
is_try p _ = false

abbrev pub with_try : Parts → Counts → Mark → Counts
with_try p c mark = if is_try p mark then one_more_tried c else c

-- the counts after one more mark
abbrev pub counted : Parts → Counts → Mark → Counts
counted p c mark = with_try p (with_start p (with_failure (with_end p c mark) mark) mark) mark

-- the counts after more marks
abbrev pub counted_all : Parts → Counts → List Mark → Counts
counted_all p c [] = c
counted_all p c (mark ∷ marks) = counted_all p (counted p c mark) marks

-- the counts of the marks of a run
abbrev pub counts_of : Parts → List Mark → Counts
counts_of p marks = counted_all p no_counts marks

-- how many command edges have ended
abbrev pub ended : Counts → ℕ
ended c = c.finished + c.clean + c.skipped + c.not_started
