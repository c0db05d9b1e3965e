-- Phases of edges that have not succeeded.
use Rattle.std.proofs.Common.{◌≡◌, ◌≢◌, ℕ, List, false, get_or, refl, sym, ap, ◌∙◌}
use Rattle.std.specs.Prelude.{slice_set}
use Rattle.std.proofs.lemmas.List.{set-get_or}
use Rattle.plan_schedule.specs.declared.phase.Phase.{Phase}
use Rattle.plan_schedule.specs.declared.phase.Phase.TheVariants.{Unbegun, Runnable, AtTake, Waiting, Succeeded, Failed, Abandoned, NotWanted}
use Rattle.plan_schedule.specs.Phases.{has_succeeded}

pub not_well : (x : Phase) → x ≢ Succeeded → has_succeeded x ≡ false
not_well Unbegun h = refl
not_well (Runnable b) h = refl
not_well (AtTake b) h = refl
not_well (Waiting b) h = refl
not_well Succeeded h = absurd (h refl)
not_well Failed h = refl
not_well Abandoned h = refl
not_well NotWanted h = refl

-- an edge that changes to the phase that it has
pub stays : (phases : List Phase) (e : ℕ) (x next : Phase) → x ≡ get_or phases e x → x ≡ next → phases ≡ slice_set phases e next
stays phases e x next read is = sym (ap (slice_set phases e) (sym is ∙ read) ∙ set-get_or phases e x)
