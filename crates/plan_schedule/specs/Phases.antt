-- Phases of edges.
use Rattle.std.specs.Prelude.{◌≡◌, Bool, true, false, ℕ, List, get_or}
use Rattle.plan_schedule.specs.declared.phase.Phase.{Phase}
use Rattle.plan_schedule.specs.declared.phase.Phase.TheVariants.{Unbegun, Runnable, AtTake, Waiting, Succeeded, Failed, Abandoned, NotWanted}

abbrev pub holds : Phase → Bool
holds Unbegun = false
holds (Runnable h) = h
holds (AtTake h) = h
holds (Waiting h) = h
holds Succeeded = false
holds Failed = false
holds Abandoned = false
holds NotWanted = false

abbrev pub has_failed : Phase → Bool
has_failed Failed = true
has_failed phase = false

abbrev pub has_succeeded : Phase → Bool
has_succeeded Succeeded = true
has_succeeded phase = false

abbrev pub is_unsuccessful : Phase → Bool
is_unsuccessful Failed = true
is_unsuccessful Abandoned = true
is_unsuccessful phase = false

abbrev pub is_open : Phase → Bool
is_open Unbegun = true
is_open (Runnable h) = true
is_open (AtTake h) = true
is_open (Waiting h) = true
is_open phase = false

abbrev pub is_at_take : Phase → Bool
is_at_take (AtTake h) = true
is_at_take phase = false

-- two phases are counted in the same way, and neither is at Take
abbrev pub AreAlike : Phase → Phase → Type 0
AreAlike last next = (holds last ≡ holds next) × (has_failed last ≡ has_failed next) × (is_open last ≡ is_open next) × (is_at_take last ≡ false) × (is_at_take next ≡ false)

-- the phase of an edge; an edge outside the list counts as one that hasn't begun
abbrev pub phase_at : List Phase → ℕ → Phase
phase_at phases e = get_or phases e Unbegun
