-- Causes that aren't a missing input. Serves src/failures.rt and src/lines.rt.
use Rattle.std.proofs.Common.{◌≡◌, ℕ, Bool, List, refl}
use Rattle.plan_image.specs.declared.image.Parts.{Parts}
use Rattle.plan_verify.specs.declared.value.Cause.{Cause}
use Rattle.plan_verify.specs.declared.value.Cause.TheVariants.{MissingInput, StatFault, Exit, Signal, NotStarted, DepfileFault, DepfileMalformed, RecordFault, TextTooLong}
use Rattle.plan_progress.specs.declared.numbers.Numbers.{Numbers}
use Rattle.plan_progress.specs.BuildLines.{Look, ended_line, failed_text, failure_line, failure_text}

pub other_cause : (colours : Bool) (p : Parts) (e : ℕ) (cause : Cause) (output : List ℕ) → ((f : ℕ) → cause ≡ MissingInput f → ⊥) → failed_text colours p e cause output ≡ failure_text colours p e cause output
other_cause colours p e (MissingInput f) output not_missing = absurd (not_missing f refl)
other_cause colours p e StatFault output not_missing = refl
other_cause colours p e (Exit n) output not_missing = refl
other_cause colours p e Signal output not_missing = refl
other_cause colours p e NotStarted output not_missing = refl
other_cause colours p e DepfileFault output not_missing = refl
other_cause colours p e (DepfileMalformed n offset) output not_missing = refl
other_cause colours p e RecordFault output not_missing = refl
other_cause colours p e TextTooLong output not_missing = refl

pub other_line : (d : Look) (p : Parts) (n : Numbers) (e : ℕ) (cause : Cause) → ((f : ℕ) → cause ≡ MissingInput f → ⊥) → ended_line d p n e ≡ failure_line d p n e cause
other_line d p n e (MissingInput f) not_missing = absurd (not_missing f refl)
other_line d p n e StatFault not_missing = refl
other_line d p n e (Exit m) not_missing = refl
other_line d p n e Signal not_missing = refl
other_line d p n e NotStarted not_missing = refl
other_line d p n e DepfileFault not_missing = refl
other_line d p n e (DepfileMalformed m offset) not_missing = refl
other_line d p n e RecordFault not_missing = refl
other_line d p n e TextTooLong not_missing = refl
