-- Lemmas for the code of replies.
use Rattle.std.proofs.Common.{◌≡◌, ℕ, zero, suc, ◌<◌, Bool, true, false, List, [], ◌∷◌, length, Option, Some, None, refl, sym, ap, ◌∙◌, subst}
use Rattle.std.specs.Prelude.{slice_get, slice_set, Result, Ok, Err}
use Rattle.std.proofs.lemmas.Option.{slice_get_within}
use Rattle.plan_image.specs.declared.image.Parts.{Parts}
use Rattle.plan_verify.specs.Turn.{Local, Turn, heard, Reply as Answer}
use Rattle.plan_machine.proofs.ListLemmas.{get_same}
use Rattle.plan_machine.specs.declared.event.reply.Reply.{Reply}
use Rattle.plan_machine.specs.declared.event.Event.TheVariants.{Reply as Hear}
use Rattle.plan_machine.specs.declared.event.Mark.{Mark}
use Rattle.plan_machine.specs.declared.event.Mark.TheVariants as mark
use Rattle.plan_machine.specs.declared.event.Outcome.TheVariants.{Failed}
use Rattle.plan_machine.specs.State.{Status, Unbegun, Active, Over, passes, with_status}
use Rattle.plan_machine.specs.declared.run.refused.Refused.{Refused}
use Rattle.plan_machine.specs.declared.run.refused.Refused.TheVariants as refused
use Rattle.plan_machine.specs.declared.edge.turns.Heard.{Heard}
use Rattle.plan_machine.specs.declared.edge.turns.Heard.TheVariants as hearing
use Rattle.plan_machine.specs.Step.{Stepped, Next, NotEnabled, hears_by, hears, answer_of, step}
use Rattle.plan_machine.specs.RunState.{RunState}
use Rattle.plan_machine.specs.Depfile.{depfile}
use Rattle.plan_machine.specs.Applying.{Applied, is_active}
use Rattle.plan_machine.specs.declared.edge.status.Parked.{Parked}
use Rattle.plan_machine.specs.ParkedLocal.{parked_local}
use Rattle.plan_machine.specs.Hearing.{IsHeard, HasAnswered, HasHeard, SettlesReply}
use Rattle.plan_machine.proofs.AskingLemmas.{heard_unasked}
use Rattle.plan_machine.proofs.Applies.{set_again}

-- no reply matches if none is awaited
pub rests_on : (p : Parts) (e : ℕ) (a : Answer) (r : Parked) → HasAnswered p e a hearing.Unfit (Active (parked_local r)) (Active (parked_local r))
rests_on p e a r = record { before = parked_local r; later = parked_local r; was = refl; is = refl; made = heard_unasked p e (parked_local r) a refl }

set_same : {A : Type 0} (xs : List A) (i : ℕ) (x : A) → slice_get xs i ≡ Some x → slice_set xs i x ≡ xs
set_same [] i x at = refl
set_same {A} (z ∷ xs) zero x at = ap (λ (y : A). y ∷ xs) (let is : z ≡ x = cc in sym is)
set_same {A} (z ∷ xs) (suc i) x at = ap (λ (l : List A). z ∷ l) (set_same xs i x at)

pub hear_not : (p : Parts) (g : RunState) (e : ℕ) (r : Reply) (b : Bool) → b ≡ passes is_active (slice_get g.now.edges e) → b ≡ false → Applied p g (Hear e r) (Err refused.NotEnabled) g
unfolding step
hear_not p g e r b is off = (by (slice_get g.now.edges e) (sym is ∙ off), refl)
  where
    by : (o : Option Status) → passes is_active o ≡ false → hears depfile p g.now e (answer_of r) o ≡ NotEnabled
    by None h = refl
    by (Some Unbegun) h = refl
    by (Some (Over outcome)) h = refl
    by (Some (Active l)) h = absurd cc

pub hear_active : (g : RunState) (e : ℕ) (b : Bool) → b ≡ passes is_active (slice_get g.now.edges e) → b ≡ true → (l : Local) × (slice_get g.now.edges e ≡ Some (Active l))
hear_active g e b is on = by (slice_get g.now.edges e) refl (sym is ∙ on)
  where
    by : (o : Option Status) → slice_get g.now.edges e ≡ o → passes is_active o ≡ true → (l : Local) × (slice_get g.now.edges e ≡ Some (Active l))
    by None at h = absurd cc
    by (Some Unbegun) at h = absurd cc
    by (Some (Over outcome)) at h = absurd cc
    by (Some (Active l)) at h = (l, at)

module _ (p : Parts) (e : ℕ) (a : Answer) (old mid : RunState) (r : Heard) (h : HasHeard p old e a r mid) where
  here : slice_get mid.now.edges e ≡ Some (Active h.after)
  here = ap (λ (g : RunState). slice_get g.now.edges e) h.left ∙ get_same old.now.edges e (Active h.after) (slice_get_within old.now.edges e (Active h.before) h.now)

  pub reply_within : e < length mid.now.edges
  reply_within = slice_get_within mid.now.edges e (Active h.after) here

  abbrev Answers : Result Mark Refused → RunState → Stepped → Type 0
  Answers (Ok told) new x = (x ≡ Next new.now told) × (new.limits ≡ old.limits)
  Answers (Err refused.NotEnabled) new x = (x ≡ NotEnabled) × (new ≡ old)
  Answers (Err refused.Memory) new x = new ≡ old
  Answers (Err refused.BadTarget) new x = ⊥

  by_hearing : (q : Heard) (t : Option Turn) (told : Result Mark Refused) (new : RunState) → IsHeard q h.before h.after t → SettlesReply mid e q told new → Answers told new (hears_by old.now e h.before t)
  by_hearing hearing.On t told new made s =
      let left = s.1 ∙ h.left in
      subst (λ (x : Result Mark Refused). Answers x new (hears_by old.now e h.before t)) (sym s.0)
      (ap (hears_by old.now e h.before) made ∙ ap (λ (g : RunState). Next g.now (mark.Answered e)) (sym left), ap (λ (g : RunState). g.limits) left)
  by_hearing (hearing.Failed cause) t told new made s =
      let left = s.1 ∙ ap (λ (g : RunState). record { limits = g.limits; now = with_status g.now e (Over (Failed cause)) }) h.left
      ∙ ap (λ (l : List Status). record { limits = old.limits; now = record { edges = l; slots = old.now.slots } }) (set_again old.now.edges e (Active h.after) (Over (Failed cause))) in
      subst (λ (x : Result Mark Refused). Answers x new (hears_by old.now e h.before t)) (sym s.0)
      (ap (hears_by old.now e h.before) made ∙ ap (λ (g : RunState). Next g.now (mark.Failed e cause)) (sym left), ap (λ (g : RunState). g.limits) left)
  by_hearing hearing.Unfit t told new made s =
      let left = s.1 ∙ h.left ∙ ap (λ (l : List Status). record { limits = old.limits; now = record { edges = l; slots = old.now.slots } })
      (ap (λ (l : Local). slice_set old.now.edges e (Active l)) made.1 ∙ set_same old.now.edges e (Active h.before) h.now) in
      subst (λ (x : Result Mark Refused). Answers x new (hears_by old.now e h.before t)) (sym s.0)
      (ap (hears_by old.now e h.before) made.0, left)

  pub hear_is : (reply : Reply) (told : Result Mark Refused) (new : RunState) → a ≡ answer_of reply → SettlesReply mid e r told new → Applied p old (Hear e reply) told new
  unfolding step
  hear_is reply told new same s =
      let is : hears depfile p old.now e (answer_of reply) (slice_get old.now.edges e) ≡ hears_by old.now e h.before (heard depfile p e h.before a) =
      ap (λ (x : Answer). hears depfile p old.now e x (slice_get old.now.edges e)) (sym same) ∙ ap (hears depfile p old.now e a) h.now in
      whole told (subst (Answers told new) (sym is) (by_hearing r (heard depfile p e h.before a) told new h.made s))
    where
      whole : (told : Result Mark Refused) → Answers told new (hears depfile p old.now e (answer_of reply) (slice_get old.now.edges e)) → Applied p old (Hear e reply) told new
      whole (Ok m) x = x
      whole (Err refused.NotEnabled) x = x
      whole (Err refused.Memory) x = x
      whole (Err refused.BadTarget) x = x
