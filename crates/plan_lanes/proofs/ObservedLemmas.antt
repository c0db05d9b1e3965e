-- What an edge has observed stays while it asks.
use Rattle.std.proofs.Common.{◌≡◌, ℕ, Bool, true, false, not, List, [], ◌∷◌, ◌++◌, ◌==◌, Option, Some, None, refl, sym, ap, ◌∙◌, subst}
use Rattle.std.specs.Prelude.{◌&&◌, ◌||◌, IfSome, if◌then◌else◌, is_some, slice_get}
use Rattle.std.specs.List.{list_all}
use Rattle.plan_image.specs.declared.image.Parts.{Parts}
use Rattle.plan_image.specs.Code.{code}
use Rattle.plan_verify.specs.Members.{is_member}
use Rattle.plan_verify.specs.Tables.{waits_of}
use Rattle.plan_verify.specs.Turn.{Local, Request, Turn, Goes, Sets, Asks, Ends, Fails, Wrong as Errs, turn}
use Rattle.plan_machine.specs.Agreement.{replies_to}
use Rattle.plan_machine.specs.Depfile.{depfile}
use Rattle.plan_machine.specs.Limits.{Limits}
use Rattle.plan_machine.specs.Loads.{loads_in}
use Rattle.plan_machine.specs.NeverStuck.{is_own}
use Rattle.plan_machine.specs.Places.{at_take, is_free, is_spent}
use Rattle.plan_machine.specs.State.{Status, Unbegun, Active, Over, State, has_succeeded, is_unsuccessful, stands}
use Rattle.plan_machine.specs.Step.{Stepped, Next, Wrong, NotEnabled, settles, skips, starts, step, stepped, steps, stops}
use Rattle.plan_machine.specs.declared.event.Event.{Event}
use Rattle.plan_machine.specs.declared.event.Event.TheVariants.{Start, Skip, Stop, Step, Reply as Hear}
use Rattle.plan_machine.specs.declared.event.Mark.{Mark}
use Rattle.plan_machine.specs.declared.event.Mark.TheVariants as mark
use Rattle.plan_machine.specs.declared.event.reply.Reply.{Reply}
use Rattle.plan_machine.specs.declared.run.loads.LoadedSlot.{LoadedSlot}
use Rattle.plan_lanes.specs.declared.board.Permit.{Permit}
use Rattle.plan_lanes.specs.declared.board.PermitParts.{PermitParts}
use Rattle.plan_lanes.specs.declared.observed.Observed.{Observed}
use Rattle.plan_lanes.specs.Boards.{Applies}
use Rattle.plan_lanes.specs.Observations.{observed_by, observed_if}
use Rattle.plan_lanes.specs.Permits.{AreParts, Permits, permit_of}
use Rattle.plan_lanes.specs.Progress.{Opened, Progress}
use Rattle.plan_lanes.proofs.ListLemmas.{when_either}

-- ---- an event that asks changes no slot

abbrev SameSlots : State → Stepped → Type 0
SameSlots s (Next mid told) = (f : ℕ) → told ≡ mark.Asked f → mid.slots ≡ s.slots
SameSlots s (Wrong flaw) = Unit {0}
SameSlots s NotEnabled = Unit {0}

module _ (p : Parts) (limits : Limits) (s : State) where
  settles_same : (e : ℕ) (l : Local) (t : Turn) → SameSlots s (settles s e l (stepped e) t)
  settles_same e l (Goes did m) = λ f is. refl
  settles_same e l (Sets k v m) = λ f is. absurd cc
  settles_same e l (Asks q) = λ f is. refl
  settles_same e l Ends = λ f is. refl
  settles_same e l (Fails cause) = λ f is. refl
  settles_same e l (Errs flaw) = tt

  starts_same : (e : ℕ) (o : Option Status) → SameSlots s (starts p s e o)
  starts_same e (Some Unbegun) = when_either (SameSlots s) (list_all (stands has_succeeded s) (waits_of p e)) _ _ (λ f is. refl) tt
  starts_same e None = tt
  starts_same e (Some (Active l)) = tt
  starts_same e (Some (Over outcome)) = tt

  skips_same : (e w : ℕ) (o : Option Status) → SameSlots s (skips p s e w o)
  skips_same e w (Some Unbegun) = when_either (SameSlots s) (is_member w (waits_of p e) && stands is_unsuccessful s w) _ _ (λ f is. refl) tt
  skips_same e w None = tt
  skips_same e w (Some (Active l)) = tt
  skips_same e w (Some (Over outcome)) = tt

  stops_same : (e : ℕ) (o : Option Status) → SameSlots s (stops p limits s e o)
  stops_same e (Some Unbegun) = when_either (SameSlots s) (is_spent limits s) _ _ (λ f is. refl) tt
  stops_same e (Some (Active l)) = when_either (SameSlots s) (is_spent limits s && at_take p e l) _ _ (λ f is. refl) tt
  stops_same e None = tt
  stops_same e (Some (Over outcome)) = tt

  steps_same : (e : ℕ) (o : Option Status) → SameSlots s (steps p limits s e o)
  steps_same e (Some (Active l)) = when_either (SameSlots s) (l.asked || (at_take p e l && not (is_free p limits s e))) _ _ tt (settles_same e l (turn p e s.slots l))
  steps_same e None = tt
  steps_same e (Some Unbegun) = tt
  steps_same e (Some (Over outcome)) = tt

  step_same : (event : Event) → is_own event ≡ true → SameSlots s (step depfile p limits s event)
  unfolding step
  step_same (Start e) own = starts_same e (slice_get s.edges e)
  step_same (Skip e w) own = skips_same e w (slice_get s.edges e)
  step_same (Stop e) own = stops_same e (slice_get s.edges e)
  step_same (Step e) own = steps_same e (slice_get s.edges e)
  step_same (Hear e r) own = absurd cc

  asked_slots : (event : Event) (mid : State) (told : Mark) (f : ℕ) → is_own event ≡ true → step depfile p limits s event ≡ Next mid told → told ≡ mark.Asked f → mid.slots ≡ s.slots
  asked_slots event mid told f own is asked =
      let it : SameSlots s (Next mid told) = subst (SameSlots s) is (step_same event own) in it f asked

-- ---- and no reply

own_adds_none : (e : ℕ) (xs : List Event) (event : Event) → is_own event ≡ true → replies_to e (xs ++ event ∷ []) ≡ replies_to e xs
own_adds_none e [] (Start f) own = refl
own_adds_none e [] (Skip f w) own = refl
own_adds_none e [] (Stop f) own = refl
own_adds_none e [] (Step f) own = refl
own_adds_none e [] (Hear f r) own = absurd cc
own_adds_none e (Start f ∷ xs) event own = own_adds_none e xs event own
own_adds_none e (Skip f w ∷ xs) event own = own_adds_none e xs event own
own_adds_none e (Stop f ∷ xs) event own = own_adds_none e xs event own
own_adds_none e (Step f ∷ xs) event own = own_adds_none e xs event own
own_adds_none e (Hear f r ∷ xs) event own = ap (λ (l : List Reply). if f == e then r ∷ l else l) (own_adds_none e xs event own)

abbrev seen : List Reply → List LoadedSlot → Observed
seen replies slots = record { replies = replies; slots = slots }

observed_same : (old new : Progress) (event : Event) (told : Mark) (f e : ℕ) → is_own event ≡ true → Applies old new event told → told ≡ mark.Asked f → observed_by new e ≡ observed_by old e
observed_same old new event told f e own applies asked =
    let replies : replies_to e new.journal ≡ replies_to e old.journal = ap (replies_to e) applies.journal ∙ own_adds_none e old.journal event own in
    let slots : new.state.slots ≡ old.state.slots = asked_slots old.opened.parts old.opened.limits old.state event new.state told f own applies.next asked in
    let loads : loads_in new.state.slots (code new.opened.parts e) ≡ loads_in old.state.slots (code old.opened.parts e)
    = ap (λ (o : Opened). loads_in new.state.slots (code o.parts e)) applies.opened ∙ ap (λ xs. loads_in xs (code old.opened.parts e)) slots in
    ap (λ (l : List Reply). seen l (loads_in new.state.slots (code new.opened.parts e))) replies ∙ ap (λ (l : List LoadedSlot). seen (replies_to e old.journal) l) loads

pub stays_observed : (observes : Bool) (old new : Progress) (event : Event) (told : Mark) (f e : ℕ) → is_own event ≡ true → Applies old new event told → told ≡ mark.Asked f → observed_if observes old e ≡ observed_if observes new e
stays_observed true old new event told f e own applies asked = ap (λ (o : Observed). Some o) (sym (observed_same old new event told f e own applies asked))
stays_observed false old new event told f e own applies asked = refl

-- ---- a permit of its parts

pub permits_of : (observes : Bool) (b : Progress) (p : Parts) (e : ℕ) (q : Request) (parts : Option PermitParts) (permit : Option Permit) → AreParts observes b e q parts → permit ≡ permit_of p e parts → Permits p e q permit
permits_of observes b p e q None permit are is = subst (Permits p e q) (sym is) (sym are, tt)
permits_of observes b p e q (Some parts) permit are is = subst (Permits p e q) (sym is) (sym are.0, (refl, are.1, refl))

pub observes_of : (observes : Bool) (b : Progress) (now : Option Observed) (p : Parts) (e : ℕ) (q : Request) (parts : Option PermitParts) (permit : Option Permit) → AreParts observes b e q parts → observed_if observes b e ≡ now → permit ≡ permit_of p e parts
    → IfSome permit (λ x. (x.edge ≡ e) × (x.observed ≡ now))
observes_of observes b now p e q None permit are same is = subst (λ (o : Option Permit). IfSome o (λ x. (x.edge ≡ e) × (x.observed ≡ now))) (sym is) tt
observes_of observes b now p e q (Some parts) permit are same is = subst (λ (o : Option Permit). IfSome o (λ x. (x.edge ≡ e) × (x.observed ≡ now))) (sym is) (refl, are.2 ∙ same)
