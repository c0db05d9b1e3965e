-- An event is refused as not enabled if the table doesn't enable it: only enabled events can run out of memory.
use Rattle.std.proofs.Common.{◌≡◌, ◌≢◌, ℕ, Bool, true, false, not, Option, Some, None, refl, sym, ap, ◌∙◌}
use Rattle.std.specs.Prelude.{◌&&◌, ◌||◌, IsSome, OnErr, Result, Ok, Err, slice_get}
use Rattle.std.specs.List.{list_all}
use Rattle.plan_image.specs.declared.image.Parts.{Parts}
use Rattle.plan_verify.specs.Tables.{waits_of}
use Rattle.plan_verify.specs.Turn.{Local, begun, Did, Turn, Goes, Sets, Asks, Ends, Fails, Wrong as Errs, heard, turn}
use Rattle.plan_machine.specs.declared.event.reply.Reply.{Reply}
use Rattle.plan_machine.specs.declared.event.Event.{Event}
use Rattle.plan_machine.specs.declared.event.Event.TheVariants.{Start, Step, Reply as Hear}
use Rattle.plan_machine.specs.declared.event.Mark.{Mark}
use Rattle.plan_machine.specs.declared.event.Mark.TheVariants as mark
use Rattle.plan_machine.specs.declared.run.refused.Refused.{Refused}
use Rattle.plan_machine.specs.declared.run.refused.Refused.TheVariants as refused
use Rattle.plan_machine.specs.declared.edge.turns.Heard.{Heard}
use Rattle.plan_machine.specs.declared.edge.turns.Heard.TheVariants as hearing
use Rattle.plan_machine.specs.State.{Status, Unbegun, Active, Over, State, has_succeeded, passes, stands, with_status}
use Rattle.plan_machine.specs.Places.{is_free, at_take}
use Rattle.plan_machine.specs.Step.{Stepped, Next, NotEnabled, answer_of, answered, hears, hears_by, settles, stepped, steps, step}
use Rattle.plan_machine.specs.RunState.{RunState}
use Rattle.plan_machine.specs.Depfile.{depfile}
use Rattle.plan_machine.specs.Applying.{Applied, is_unbegun, may_step_by}
use Rattle.plan_machine.specs.Hearing.{SettlesReply}
use Rattle.plan_machine.proofs.Applies.{start_is}
use Rattle.plan_machine.proofs.ListLemmas.{is_some_of, when_false}

-- an event that isn't enabled is refused as such, if only events that the table enables run out of memory
pub refused_so : (p : Parts) (g new : RunState) (event : Event) (told : Result Mark Refused) → Applied p g event told new → (told ≡ Err refused.Memory → step depfile p g.limits g.now event ≢ NotEnabled)
    → step depfile p g.limits g.now event ≡ NotEnabled → told ≡ Err refused.NotEnabled
refused_so p g new event (Ok m) applied spares off = absurd (let clash : Next new.now m ≡ NotEnabled = sym applied.0 ∙ off in cc)
refused_so p g new event (Err refused.NotEnabled) applied spares off = refl
refused_so p g new event (Err refused.Memory) applied spares off = absurd (spares refl off)
refused_so p g new event (Err refused.BadTarget) applied spares off = absurd applied

-- the table enables a start that may be made
pub start_can : (p : Parts) (g : RunState) (e : ℕ) (b : Bool) → b ≡ (passes is_unbegun (slice_get g.now.edges e) && list_all (stands has_succeeded g.now) (waits_of p e)) → b ≡ true
    → step depfile p g.limits g.now (Start e) ≢ NotEnabled
start_can p g e b is on off =
    let applied = start_is p g e b (record { limits = g.limits; now = with_status g.now e (Active begun) }) is on refl in
    let clash : Next (with_status g.now e (Active begun)) (mark.Started e) ≡ NotEnabled = sym applied.0 ∙ off in cc

settles_not : (s : State) (e : ℕ) (l : Local) (told : Did → Mark) (t : Turn) → settles s e l told t ≢ NotEnabled
settles_not s e l told (Goes did m) off = absurd cc
settles_not s e l told (Sets k v m) off = absurd cc
settles_not s e l told (Asks q) off = absurd cc
settles_not s e l told Ends off = absurd cc
settles_not s e l told (Fails cause) off = absurd cc
settles_not s e l told (Errs flaw) off = absurd cc

-- the table enables a step that may be made
pub step_can : (p : Parts) (g : RunState) (e : ℕ) (b : Bool) → b ≡ may_step_by p g.limits g.now e (slice_get g.now.edges e) → b ≡ true → step depfile p g.limits g.now (Step e) ≢ NotEnabled
unfolding step
step_can p g e b is on = by (slice_get g.now.edges e) (sym is ∙ on)
  where
    on_not : (a : Bool) → not a ≡ true → a ≡ false
    on_not true h = absurd cc
    on_not false h = refl

    by : (o : Option Status) → may_step_by p g.limits g.now e o ≡ true → steps p g.limits g.now e o ≢ NotEnabled
    by None h = absurd cc
    by (Some Unbegun) h = absurd cc
    by (Some (Over outcome)) h = absurd cc
    by (Some (Active l)) h =
        when_false (λ (x : Stepped). x ≢ NotEnabled) (l.asked || (at_take p e l && not (is_free p g.limits g.now e))) _ _ (on_not _ h) (settles_not g.now e l (stepped e) (turn p e g.now.slots l))

-- the table enables a reply that matches
pub hear_can : (p : Parts) (g : RunState) (e : ℕ) (r : Reply) (l : Local) → slice_get g.now.edges e ≡ Some (Active l) → IsSome (heard depfile p e l (answer_of r)) → step depfile p g.limits g.now (Hear e r) ≢ NotEnabled
unfolding step
hear_can p g e r l at fits off =
    let t = is_some_of (heard depfile p e l (answer_of r)) fits in
    let is : hears depfile p g.now e (answer_of r) (slice_get g.now.edges e) ≡ settles g.now e l (answered e) t.0 =
    ap (hears depfile p g.now e (answer_of r)) at ∙ ap (hears_by g.now e l) t.1 in
    settles_not g.now e l (answered e) t.0 (sym is ∙ off)

-- updating the status of an edge after a reply takes no memory
pub reply_frugal : (old new : RunState) (e : ℕ) (q : Heard) (told : Result Mark Refused) → SettlesReply old e q told new → told ≢ Err refused.Memory
reply_frugal old new e hearing.On told s is = let clash : Ok (mark.Answered e) ≡ Err refused.Memory = sym s.0 ∙ is in cc
reply_frugal old new e (hearing.Failed cause) told s is = let clash : Ok (mark.Failed e cause) ≡ Err refused.Memory = sym s.0 ∙ is in cc
reply_frugal old new e hearing.Unfit told s is = let clash : Err refused.NotEnabled ≡ Err refused.Memory = sym s.0 ∙ is in cc

-- a proposition that is true is true of an error
pub on_err_any : {A E : Type 0} (r : Result A E) (P : Type 0) → P → OnErr r P
on_err_any (Ok x) P h = tt
on_err_any (Err e) P h = h

-- passes on an error of one kind
pub on_err_more : {A E : Type 0} (r : Result A E) (P Q : Type 0) → OnErr r P → (P → Q) → OnErr r Q
on_err_more (Ok x) P Q h more = tt
on_err_more (Err e) P Q h more = more h
