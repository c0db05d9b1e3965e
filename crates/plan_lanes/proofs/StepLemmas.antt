-- What an event that needs no reply leaves.
use Rattle.std.proofs.Common.{◌≡◌, ◌≢◌, ℕ, Bool, true, false, Option, Some, None, refl, sym, ap, ◌∙◌, ◌⊎◌, inl, inr, subst}
use Rattle.std.specs.Prelude.{slice_get}
use Rattle.plan_image.specs.declared.image.Parts.{Parts}
use Rattle.plan_verify.specs.Turn.{Local, Request}
use Rattle.plan_machine.specs.declared.event.Event.{Event}
use Rattle.plan_machine.specs.declared.event.Event.TheVariants.{Reply as Hear}
use Rattle.plan_machine.specs.declared.event.Mark.{Mark}
use Rattle.plan_machine.specs.declared.event.Mark.TheVariants as mark
use Rattle.plan_machine.specs.declared.event.reply.Reply.{Reply}
use Rattle.plan_machine.specs.Depfile.{depfile}
use Rattle.plan_machine.specs.Edges.{edge_of}
use Rattle.plan_machine.specs.RunState.{RunState}
use Rattle.plan_machine.specs.NeverStuck.{Awaits, is_own}
use Rattle.plan_machine.specs.Picking.{IsEnabled}
use Rattle.plan_machine.specs.Requests.{Asks, asked_at, asked_by}
use Rattle.plan_machine.specs.State.{Status, Unbegun, Active, Over, State, has_ended}
use Rattle.plan_machine.specs.Step.{Next, NotEnabled, step}
use Rattle.plan_lanes.specs.declared.batch.OwnedRequest.{OwnedRequest}
use Rattle.plan_lanes.specs.Advances.{WouldAsk}
use Rattle.plan_lanes.specs.Boards.{Applies, MayJournal}
use Rattle.plan_lanes.specs.Journals.{Rule}
use Rattle.plan_lanes.specs.Progress.{Opened, Progress, run_state_of}
use Rattle.plan_lanes.specs.Questions.{shown}
use Rattle.plan_lanes.proofs.RunLemmas.{moves_alone, next_same}

-- an event that needs no reply may be journaled
pub own_may_journal : (rule : Rule) (b : Progress) (event : Event) → is_own event ≡ true → MayJournal rule b event
own_may_journal rule b event own e r q n is asked at = absurd (not_own event own e r is)
  where
    not_own : (event : Event) → is_own event ≡ true → (e : ℕ) (r : Reply) → event ≡ Hear e r → ⊥
    not_own event own e r is = let clash : is_own (Hear e r) ≡ true = subst (λ (x : Event). is_own x ≡ true) is own in cc

-- what is enabled isn't refused
pub enabled_goes : (p : Parts) (g : RunState) (event : Event) → IsEnabled p g event → step depfile p g.limits g.now event ≢ NotEnabled
enabled_goes p g event enabled refused = let clash : NotEnabled ≡ Next enabled.after enabled.mark = sym refused ∙ enabled.next in cc

-- an event that asks leaves its own edge with that question
pub asks_here : (p : Parts) (g : RunState) (event : Event) (q : Request) (t : State) (told : Mark) → Asks p g event q → step depfile p g.limits g.now event ≡ Next t told → asked_at p t (edge_of event) ≡ Some q
asks_here p g event q t told asks is =
    let after : asks.after ≡ t = next_same asks.after t (mark.Asked asks.edge) told (step depfile p g.limits g.now event) asks.next is in
    let edge : asks.edge ≡ edge_of event = (moves_alone depfile p g.limits g.now asks.after event (mark.Asked asks.edge) asks.next).asks asks.edge refl in
    subst (λ (e : ℕ). asked_at p t e ≡ Some q) edge (subst (λ (s : State). asked_at p s asks.edge ≡ Some q) after asks.asked)

-- and its mark says so
pub asks_told : (p : Parts) (g : RunState) (event : Event) (q : Request) (t : State) (told : Mark) → Asks p g event q → step depfile p g.limits g.now event ≡ Next t told → told ≡ mark.Asked (edge_of event)
asks_told p g event q t told asks is =
    let edge : asks.edge ≡ edge_of event = (moves_alone depfile p g.limits g.now asks.after event (mark.Asked asks.edge) asks.next).asks asks.edge refl in
    let both : Next t told ≡ Next asks.after (mark.Asked asks.edge) = sym is ∙ asks.next in
    let same : told ≡ mark.Asked asks.edge = cc in
    same ∙ ap (λ (e : ℕ). mark.Asked e) edge

-- an edge that asked is under way
pub asked_active : (p : Parts) (s : State) (e : ℕ) (q : Request) → asked_at p s e ≡ Some q → (l : Local) × (slice_get s.edges e ≡ Some (Active l))
asked_active p s e q h = by (slice_get s.edges e) refl h
  where
    by : (o : Option Status) → slice_get s.edges e ≡ o → asked_by p e s.slots o ≡ Some q → (l : Local) × (slice_get s.edges e ≡ Some (Active l))
    by (Some (Active l)) at h = (l, at)
    by None at h = absurd cc
    by (Some Unbegun) at h = absurd cc
    by (Some (Over outcome)) at h = absurd cc

-- so does an event that was applied
pub asks_job : (old new : Progress) (event : Event) (told : Mark) (asked : Option OwnedRequest) (a : OwnedRequest) (e : ℕ) → asked ≡ Some a → WouldAsk old.opened.parts (run_state_of old) event asked → Applies old new event told
    → e ≡ edge_of event → asked_at new.opened.parts new.state e ≡ Some (shown a)
asks_job old new event told asked a e is would applies here =
    let asks : Asks old.opened.parts (run_state_of old) event (shown a) = subst (WouldAsk old.opened.parts (run_state_of old) event) is would in
    subst (λ (o : Opened). asked_at o.parts new.state e ≡ Some (shown a)) (sym applies.opened)
    (subst (λ (f : ℕ). asked_at old.opened.parts new.state f ≡ Some (shown a)) (sym here) (asks_here old.opened.parts (run_state_of old) event (shown a) new.state told asks applies.next))

-- ---- what holds of a board's fields, of the board as it is seen

pub ended_so : (v b : Progress) (result : Bool) → v ≡ b → result ≡ has_ended v.state → result ≡ true → has_ended b.state ≡ true
ended_so v b result same is yes_it = subst (λ (w : Progress). has_ended w.state ≡ true) same (sym is ∙ yes_it)

pub awaits_so : (v b : Progress) (result : Bool) → v ≡ b → result ≡ has_ended v.state → result ≡ false → (has_ended v.state ≡ true) ⊎ Awaits v.state → Awaits b.state
awaits_so v b result same is not_yet (inl over) = absurd (let clash : false ≡ true = sym not_yet ∙ (is ∙ over) in cc)
awaits_so v b result same is not_yet (inr waits) = subst (λ (w : Progress). Awaits w.state) same waits

pub none_so : (v b : Progress) → v ≡ b → ((event : Event) → is_own event ≡ true → IsEnabled v.opened.parts (run_state_of v) event → ⊥) → (event : Event) → is_own event ≡ true → IsEnabled b.opened.parts (run_state_of b) event → ⊥
none_so v b same none = subst (λ (w : Progress). (event : Event) → is_own event ≡ true → IsEnabled w.opened.parts (run_state_of w) event → ⊥) same none
