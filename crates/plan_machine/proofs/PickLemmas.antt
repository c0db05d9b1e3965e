-- Each pick of the schedule is enabled, and an event can be picked if one is enabled.
use Rattle.std.proofs.Common.{◌≡◌, ℕ, zero, suc, ◌+◌, ◌<◌, Bool, true, false, not, eqb, List, [], ◌∷◌, length, map, Option, Some, None, refl, sym, ap, ◌∙◌, subst, arith, inl, inr}
use Rattle.std.specs.Prelude.{◌⊎◌, ◌&&◌, ◌||◌, ◌==◌, slice_get, slice_index, count_by, nat_lt, nat_le, if◌then◌else◌, All, Contains, IsSome}
use Rattle.std.specs.List.{list_all}
use Rattle.std.proofs.lemmas.Bool.{cases_Bool, eq-eqb, and_from, lt-ltb, ltb-true}
use Rattle.std.proofs.lemmas.Option.{slice_get_within}
use Rattle.std.proofs.lemmas.List.Elements.{All-head, All-tail}
use Rattle.plan_image.specs.declared.body.Instr.{Instr}
use Rattle.plan_image.specs.declared.image.Pool.{Pool}
use Rattle.plan_image.specs.declared.image.Parts.{Parts}
use Rattle.plan_image.specs.Code.{code}
use Rattle.plan_image.specs.Spelling.{pool_number}
use Rattle.plan_verify.specs.Members.{is_member}
use Rattle.plan_verify.specs.Tables.{pool_of, waits_of, pool_outside}
use Rattle.plan_verify.specs.Turn.{Local, begun, Request, Took, PlaceHeld, PoolOutside, Ends, Wrong as Errs, act_at, holds as holding_turn, turn, request_of}
use Rattle.plan_verify.specs.WellShaped.{IsWellShaped}
use Rattle.plan_schedule.specs.declared.phase.Phase.{Phase}
use Rattle.plan_schedule.specs.declared.phase.Phase.TheVariants as phase
use Rattle.plan_schedule.specs.declared.plan.Plan.{Plan}
use Rattle.plan_schedule.specs.declared.schedule.Schedule.{Schedule}
use Rattle.plan_schedule.specs.declared.schedule.picking.Pick.{Pick}
use Rattle.plan_schedule.specs.declared.schedule.picking.Pick.TheVariants as pick
use Rattle.plan_schedule.specs.Phases.{holds, has_failed as phase_failed, has_succeeded as phase_well, phase_at}
use Rattle.plan_schedule.specs.Counts.{holders_of}
use Rattle.plan_schedule.specs.Scheduling.{edges_of, waits_of as waits_by}
use Rattle.plan_schedule.specs.Picking.{IsEnabled as CanPick, StepsFirst as FirstSteps, has_room as pool_room, is_spent as spent_by, is_start as picks_start, is_step as picks_step}
use Rattle.plan_machine.specs.declared.event.Event.{Event}
use Rattle.plan_machine.specs.declared.event.Event.TheVariants.{Start, Skip, Stop, Step, Reply as Hear}
use Rattle.plan_machine.specs.declared.event.Mark.TheVariants as mark
use Rattle.plan_machine.specs.declared.event.Outcome.{Outcome}
use Rattle.plan_machine.specs.declared.event.Outcome.TheVariants.{Clean, Ran, Failed, Skipped, Stopped, NotWanted}
use Rattle.plan_machine.specs.State.{Status, Unbegun, Active, Over, State, has_succeeded, is_unsuccessful, is_holder, has_failed, stands, with_status, has_ended}
use Rattle.plan_machine.specs.Places.{allows, at_take, has_room, holders_from, is_free, is_spent}
use Rattle.plan_machine.specs.RunState.{RunState}
use Rattle.plan_machine.specs.Step.{Stepped, Next, Wrong, NotEnabled, stepped, settles, starts, skips, stops, steps, step}
use Rattle.plan_machine.specs.Depfile.{depfile}
use Rattle.plan_machine.specs.Standing.{IsUnderWay, Stands}
use Rattle.plan_machine.specs.NeverStuck.{Awaits, CanGo, is_own}
use Rattle.plan_machine.specs.Kept.{phase_over, phase_going, phase_active, phase_of, AreKept}
use Rattle.plan_machine.specs.Picking.{IsEnabled, StepsFirst, event_of, is_start, is_step}
use Rattle.plan_machine.proofs.ListLemmas.{and_both, get_inside, member_contained, or_right, when_true, when_false}
use Rattle.plan_machine.specs.TurnLaws.{TurnLaws}
use Rattle.plan_machine.proofs.StandingLemmas.{turn_safe}
use Rattle.plan_machine.proofs.NeverStuckLemmas.{is_take_at, settles_next}
use Rattle.plan_machine.proofs.KeptLemmas.{failed_is, holds_is, count_is, holders_of_are, ill_at, phase_there, well_at}

-- ---- lists

contained_member : (w : ℕ) (ws : List ℕ) → Contains ws w → is_member w ws ≡ true
contained_member w [] c = absurd (omega (arith, c.1))
contained_member w (x ∷ ws) (zero, lt, is) = ap (λ (b : Bool). b || is_member w ws) (eq-eqb x w is)
contained_member w (x ∷ ws) (suc k, lt, is) = or_right (eqb x w) (is_member w ws) (contained_member w ws (k, omega (arith, lt), is))

all_listed : (f : ℕ → Bool) (P : ℕ → Type 0) → ((w : ℕ) → P w → f w ≡ true) → (ws : List ℕ) → All P ws → list_all f ws ≡ true
all_listed f P more [] all = refl
all_listed f P more (w ∷ ws) all = and_from _ _ (more w (All-head P w ws all)) (all_listed f P more ws (All-tail P w ws all))

listed_all : (f : ℕ → Bool) (P : ℕ → Type 0) → ((w : ℕ) → f w ≡ true → P w) → (ws : List ℕ) → list_all f ws ≡ true → All P ws
listed_all f P more [] h k d lt = absurd (omega (arith, lt))
listed_all f P more (w ∷ ws) h zero d lt = more w (and_both (f w) (list_all f ws) h).0
listed_all f P more (w ∷ ws) h (suc k) d lt = listed_all f P more ws (and_both (f w) (list_all f ws) h).1 k d (omega (arith, lt))

-- ---- phases of one edge

over_not_unbegun : (outcome : Outcome) → phase_over outcome ≡ phase.Unbegun → ⊥
over_not_unbegun Clean h = absurd cc
over_not_unbegun Ran h = absurd cc
over_not_unbegun (Failed cause) h = absurd cc
over_not_unbegun (Skipped w) h = absurd cc
over_not_unbegun Stopped h = absurd cc
over_not_unbegun NotWanted h = absurd cc

active_not_unbegun : (asked taking holding : Bool) → phase_active asked taking holding ≡ phase.Unbegun → ⊥
active_not_unbegun true taking holding h = absurd cc
active_not_unbegun false true holding h = absurd cc
active_not_unbegun false false holding h = absurd cc

unbegun_is : (p : Parts) (e : ℕ) (st : Status) → phase_of p e st ≡ phase.Unbegun → st ≡ Unbegun
unbegun_is p e Unbegun h = refl
unbegun_is p e (Active l) h = absurd (active_not_unbegun l.asked (at_take p e l) l.holding h)
unbegun_is p e (Over outcome) h = absurd (over_not_unbegun outcome h)

over_not_going : (outcome : Outcome) (h : Bool) → phase_over outcome ≡ phase.Runnable h → ⊥
over_not_going Clean h is = absurd cc
over_not_going Ran h is = absurd cc
over_not_going (Failed cause) h is = absurd cc
over_not_going (Skipped w) h is = absurd cc
over_not_going Stopped h is = absurd cc
over_not_going NotWanted h is = absurd cc

active_going : (asked taking holding h : Bool) → phase_active asked taking holding ≡ phase.Runnable h → (asked ≡ false) × (taking ≡ false)
active_going true taking holding h is = absurd cc
active_going false true holding h is = absurd cc
active_going false false holding h is = (refl, refl)

going_is : (p : Parts) (e : ℕ) (st : Status) (h : Bool) → phase_of p e st ≡ phase.Runnable h → (l : Local) × (st ≡ Active l) × (l.asked ≡ false) × (at_take p e l ≡ false)
going_is p e Unbegun h is = absurd cc
going_is p e (Active l) h is = let both = active_going l.asked (at_take p e l) l.holding h is in (l, refl, both.0, both.1)
going_is p e (Over outcome) h is = absurd (over_not_going outcome h is)

over_not_taking : (outcome : Outcome) (h : Bool) → phase_over outcome ≡ phase.AtTake h → ⊥
over_not_taking Clean h is = absurd cc
over_not_taking Ran h is = absurd cc
over_not_taking (Failed cause) h is = absurd cc
over_not_taking (Skipped w) h is = absurd cc
over_not_taking Stopped h is = absurd cc
over_not_taking NotWanted h is = absurd cc

active_taking : (asked taking holding h : Bool) → phase_active asked taking holding ≡ phase.AtTake h → (asked ≡ false) × (taking ≡ true)
active_taking true taking holding h is = absurd cc
active_taking false true holding h is = (refl, refl)
active_taking false false holding h is = absurd cc

taking_is : (p : Parts) (e : ℕ) (st : Status) (h : Bool) → phase_of p e st ≡ phase.AtTake h → (l : Local) × (st ≡ Active l) × (l.asked ≡ false) × (at_take p e l ≡ true)
taking_is p e Unbegun h is = absurd cc
taking_is p e (Active l) h is = let both = active_taking l.asked (at_take p e l) l.holding h is in (l, refl, both.0, both.1)
taking_is p e (Over outcome) h is = absurd (over_not_taking outcome h is)

phase_taking : (asked taking holding : Bool) → asked ≡ false → taking ≡ true → phase_active asked taking holding ≡ phase.AtTake holding
phase_taking asked taking holding quiet take = ap (λ (a : Bool). phase_active a taking holding) quiet ∙ ap (λ (t : Bool). phase_going t holding) take

phase_is_going : (asked taking holding : Bool) → asked ≡ false → taking ≡ false → phase_active asked taking holding ≡ phase.Runnable holding
phase_is_going asked taking holding quiet off = ap (λ (a : Bool). phase_active a taking holding) quiet ∙ ap (λ (t : Bool). phase_going t holding) off

-- ---- an edge that awaits a reply is not at Take

take_asks : (held outside : Bool) (l : Local) → request_of (if held then Errs PlaceHeld else if outside then Errs PoolOutside else holding_turn Took l true) ≡ None
take_asks true outside l = refl
take_asks false true l = refl
take_asks false false l = refl

pub asked_off : (p : Parts) (s : State) (e : ℕ) (l : Local) → IsUnderWay p s e l → l.asked ≡ true → at_take p e l ≡ false
unfolding turn
asked_off p s e l u loud = elim (cases_Bool (at_take p e l)) [
  | inr off ↦ off
  | inl take ↦
      let is : request_of (turn p e s.slots l) ≡ None =
      ap (λ (o : Option Instr). request_of (act_at p e s.slots l o)) (is_take_at (slice_get (code p e) l.place) take) ∙ take_asks l.holding (pool_outside p e) l in
      absurd (let none : IsSome (request_of Ends) = subst (λ (o : Option Request). IsSome o) is (u.typed.awaits loud) in cc)
]

-- ---- free job tokens

depth_at : (pools : List Pool) (q holders : ℕ) → ((slice_index (map (λ (pool : Pool). pool.depth) pools) q == 0) || nat_lt holders (slice_index (map (λ (pool : Pool). pool.depth) pools) q)) ≡ allows (slice_get pools q) holders
depth_at [] q holders = refl
depth_at (pool ∷ pools) zero holders = refl
depth_at (pool ∷ pools) (suc q) holders = depth_at pools q holders

-- a pick that is a step is a step event
step_of : (x : Pick) → picks_step x ≡ true → is_step (event_of x) ≡ true
step_of (pick.Step e) h = refl
step_of (pick.Start e) h = absurd cc
step_of (pick.Skip e w) h = absurd cc
step_of (pick.Stop e) h = absurd cc

-- a pick that is a start is a start event
pub start_of : (x : Pick) → picks_start x ≡ true → is_start (event_of x) ≡ true
start_of (pick.Start e) h = refl
start_of (pick.Step e) h = absurd cc
start_of (pick.Skip e w) h = absurd cc
start_of (pick.Stop e) h = absurd cc

module _ (p : Parts) (g : RunState) (plan : Plan) (schedule : Schedule) (kept : AreKept p g.now plan schedule) where
  jobs : ℕ
  jobs = g.limits.jobs

  keep : ℕ
  keep = g.limits.keep

  spent_is : spent_by g.limits.keep schedule.phases.items ≡ is_spent g.limits g.now
  spent_is = ap (λ (n : ℕ). nat_lt 0 g.limits.keep && nat_le g.limits.keep n) (count_is p g.now plan schedule kept phase_failed has_failed (failed_is p))

  holds_are : count_by holds schedule.phases.items ≡ count_by is_holder g.now.edges
  holds_are = count_is p g.now plan schedule kept holds is_holder (holds_is p)

  room_by : (o : Option ℕ) → pool_room plan schedule.phases.items (pool_number o) ≡ has_room p g.now o
  room_by None =
      ap (λ (l : List ℕ). (slice_index l 0 == 0) || nat_lt (holders_of 0 plan.pools.items schedule.phases.items) (slice_index l 0)) kept.plan_is.depths
  room_by (Some q) =
      let next : slice_index plan.depths.items (q + 1) ≡ slice_index (map (λ (pool : Pool). pool.depth) p.pools) q =
      ap (λ (l : List ℕ). slice_index l (q + 1)) kept.plan_is.depths ∙ behind_first (map (λ (pool : Pool). pool.depth) p.pools) q in
      ap (λ (d : ℕ). (d == 0) || nat_lt (holders_of (q + 1) plan.pools.items schedule.phases.items) d) next
      ∙ ap (λ (h : ℕ). (slice_index (map (λ (pool : Pool). pool.depth) p.pools) q == 0) || nat_lt h (slice_index (map (λ (pool : Pool). pool.depth) p.pools) q)) (holders_of_are p g.now plan schedule kept q)
      ∙ depth_at p.pools q (holders_from p q 0 g.now.edges)
    where
      behind_first : (l : List ℕ) (q : ℕ) → slice_index (0 ∷ l) (q + 1) ≡ slice_index l q
      behind_first l q = let one : q + 1 ≡ suc q = omega arith in ap (slice_index (0 ∷ l)) one

  room_is : (e : ℕ) → e < length p.edges → pool_room plan schedule.phases.items (slice_index plan.pools.items e) ≡ has_room p g.now (pool_of p e)
  room_is e lt = ap (pool_room plan schedule.phases.items) (kept.plan_is.pools e lt) ∙ room_by (pool_of p e)

  -- the status of an edge of the plan
  status_at : (e : ℕ) → e < edges_of plan → (st : Status) × (slice_get g.now.edges e ≡ Some st) × (phase_at schedule.phases.items e ≡ phase_of p e st)
  status_at e lt =
      let st = get_inside g.now.edges e (omega (arith, lt, kept.plan_is.edges, kept.long)) in
      (st.0, st.1, ap (λ (l : List Phase). phase_at l e) kept.phases ∙ phase_there p e g.now.edges st.0 st.1)

  phase_is : (e : ℕ) (st : Status) → slice_get g.now.edges e ≡ Some st → phase_at schedule.phases.items e ≡ phase_of p e st
  phase_is e st at = ap (λ (l : List Phase). phase_at l e) kept.phases ∙ phase_there p e g.now.edges st at

  in_plan : (e : ℕ) (st : Status) → slice_get g.now.edges e ≡ Some st → e < edges_of plan
  in_plan e st at = omega (arith, slice_get_within g.now.edges e st at, kept.plan_is.edges, kept.long)

  -- ---- a picked event is enabled

  module _ (laws : TurnLaws) (shaped : IsWellShaped p) (some_jobs : 0 < g.limits.jobs) (sound : Stands p g.now) where
    step_next : (e : ℕ) (l : Local) → slice_get g.now.edges e ≡ Some (Active l) → l.asked ≡ false → (at_take p e l && not (is_free p g.limits g.now e)) ≡ false → IsEnabled p g (Step e)
    unfolding step
    step_next e l now quiet free =
        let u = sound.active e l now in
        let n = settles_next laws depfile p shaped g.limits some_jobs g.now sound e l (stepped e) u.shapes (turn p e g.now.slots l) (turn_safe laws depfile p shaped g.limits g.now sound e l u) in
        let is : steps p g.limits g.now e (Some (Active l)) ≡ Next n.0 n.1 =
        when_false (λ (o : Stepped). o ≡ Next n.0 n.1) (l.asked || (at_take p e l && not (is_free p g.limits g.now e))) _ _ (ap (λ (b : Bool). b || (at_take p e l && not (is_free p g.limits g.now e))) quiet ∙ free) n.2 in
        record { after = n.0; mark = n.1; next = ap (λ (o : Option Status). steps p g.limits g.now e o) now ∙ is }

    pub picked : (x : Pick) → CanPick plan schedule.phases.items g.limits.jobs g.limits.keep x → IsEnabled p g (event_of x)
    unfolding step
    picked (pick.Start e) (here, is, all) =
        let st = status_at e here in
        let at : slice_get g.now.edges e ≡ Some Unbegun = st.1 ∙ ap Some (unbegun_is p e st.0 (sym st.2 ∙ is)) in
        let well = all_listed (stands has_succeeded g.now) (λ w. phase_well (phase_at schedule.phases.items w) ≡ true) (λ w h. sym (well_at p g.now plan schedule kept w) ∙ h) (waits_by plan e) all in
        record {
          after = with_status g.now e (Active begun);
          mark = mark.Started e;
          next = ap (λ (o : Option Status). starts p g.now e o) at
              ∙ when_true (λ (o : Stepped). o ≡ Next (with_status g.now e (Active begun)) (mark.Started e)) (list_all (stands has_succeeded g.now) (waits_of p e)) _ _ (ap (list_all (stands has_succeeded g.now)) (sym (kept.plan_is.waits e)) ∙ well) refl;
        }
    picked (pick.Skip e w) (here, is, wait, ill) =
        let st = status_at e here in
        let at : slice_get g.now.edges e ≡ Some Unbegun = st.1 ∙ ap Some (unbegun_is p e st.0 (sym st.2 ∙ is)) in
        let member : is_member w (waits_of p e) ≡ true = ap (is_member w) (sym (kept.plan_is.waits e)) ∙ contained_member w (waits_by plan e) wait in
        record {
          after = with_status g.now e (Over (Skipped w));
          mark = mark.Skipped e w;
          next = ap (λ (o : Option Status). skips p g.now e w o) at
              ∙ when_true (λ (o : Stepped). o ≡ Next (with_status g.now e (Over (Skipped w))) (mark.Skipped e w)) (is_member w (waits_of p e) && stands is_unsuccessful g.now w) _ _
              (and_from _ _ member (sym (ill_at p g.now plan schedule kept w) ∙ ill)) refl;
        }
    picked (pick.Stop e) (here, spent, inl is) =
        let st = status_at e here in
        let at : slice_get g.now.edges e ≡ Some Unbegun = st.1 ∙ ap Some (unbegun_is p e st.0 (sym st.2 ∙ is)) in
        record {
          after = with_status g.now e (Over Stopped);
          mark = mark.Stopped e;
          next = ap (λ (o : Option Status). stops p g.limits g.now e o) at
              ∙ when_true (λ (o : Stepped). o ≡ Next (with_status g.now e (Over Stopped)) (mark.Stopped e)) (is_spent g.limits g.now) _ _ (sym spent_is ∙ spent) refl;
        }
    picked (pick.Stop e) (here, spent, inr is) =
        let st = status_at e here in
        let l = taking_is p e st.0 is.0 (sym st.2 ∙ is.1) in
        let at : slice_get g.now.edges e ≡ Some (Active l.0) = st.1 ∙ ap Some l.1 in
        record {
          after = with_status g.now e (Over Stopped);
          mark = mark.Stopped e;
          next = ap (λ (o : Option Status). stops p g.limits g.now e o) at
              ∙ when_true (λ (o : Stepped). o ≡ Next (with_status g.now e (Over Stopped)) (mark.Stopped e)) (is_spent g.limits g.now && at_take p e l.0) _ _ (and_from _ _ (sym spent_is ∙ spent) l.3) refl;
        }
    picked (pick.Step e) (here, inl is) =
        let st = status_at e here in
        let l = going_is p e st.0 is.0 (sym st.2 ∙ is.1) in
        step_next e l.0 (st.1 ∙ ap Some l.1) l.2 (ap (λ (b : Bool). b && not (is_free p g.limits g.now e)) l.3)
    picked (pick.Step e) (here, inr is) =
        let st = status_at e here in
        let l = taking_is p e st.0 is.0.0 (sym st.2 ∙ is.0.1) in
        let may = is.1 in
        let room : has_room p g.now (pool_of p e) ≡ true = sym (room_is e (omega (arith, here, kept.plan_is.edges))) ∙ may.0 in
        let idle : nat_lt (count_by is_holder g.now.edges) g.limits.jobs ≡ true = lt-ltb (count_by is_holder g.now.edges) g.limits.jobs (omega (arith, may.1, holds_are)) in
        let free : is_free p g.limits g.now e ≡ true = and_from _ _ (and_from _ _ room idle) (ap not (sym spent_is ∙ may.2)) in
        step_next e l.0 (st.1 ∙ ap Some l.1) l.2 (ap (λ (b : Bool). at_take p e l.0 && not b) free ∙ ap (λ (b : Bool). b && false) l.3)

    -- ---- an enabled event can be picked

    abbrev Picks : Event → Stepped → Type 0
    Picks (Start e) (Next s m) = CanPick plan schedule.phases.items g.limits.jobs g.limits.keep (pick.Start e)
    Picks (Skip e w) (Next s m) = CanPick plan schedule.phases.items g.limits.jobs g.limits.keep (pick.Skip e w)
    Picks (Stop e) (Next s m) = CanPick plan schedule.phases.items g.limits.jobs g.limits.keep (pick.Stop e)
    Picks (Step e) (Next s m) = CanPick plan schedule.phases.items g.limits.jobs g.limits.keep (pick.Step e)
    Picks event x = Unit {0}

    either_way : {A : Type 0} (P : A → Type 0) (b : Bool) (x y : A) → (b ≡ true → P x) → P y → P (if b then x else y)
    either_way P true x y h k = h refl
    either_way P false x y h k = k

    start_picks : (e : ℕ) (o : Option Status) → slice_get g.now.edges e ≡ o → Picks (Start e) (starts p g.now e o)
    start_picks e (Some Unbegun) at =
        either_way (Picks (Start e)) (list_all (stands has_succeeded g.now) (waits_of p e)) _ _
        (λ all. (
          in_plan e Unbegun at,
          phase_is e Unbegun at,
          subst (All (λ w. phase_well (phase_at schedule.phases.items w) ≡ true)) (sym (kept.plan_is.waits e))
              (listed_all (stands has_succeeded g.now) (λ w. phase_well (phase_at schedule.phases.items w) ≡ true) (λ w h. well_at p g.now plan schedule kept w ∙ h) (waits_of p e) all),
        )) tt
    start_picks e None at = tt
    start_picks e (Some (Active l)) at = tt
    start_picks e (Some (Over outcome)) at = tt

    skip_picks : (e w : ℕ) (o : Option Status) → slice_get g.now.edges e ≡ o → Picks (Skip e w) (skips p g.now e w o)
    skip_picks e w (Some Unbegun) at =
        either_way (Picks (Skip e w)) (is_member w (waits_of p e) && stands is_unsuccessful g.now w) _ _
        (λ h. let b = and_both (is_member w (waits_of p e)) (stands is_unsuccessful g.now w) h in
        (in_plan e Unbegun at, phase_is e Unbegun at, member_contained w (waits_by plan e) (ap (is_member w) (kept.plan_is.waits e) ∙ b.0), ill_at p g.now plan schedule kept w ∙ b.1)) tt
    skip_picks e w None at = tt
    skip_picks e w (Some (Active l)) at = tt
    skip_picks e w (Some (Over outcome)) at = tt

    stop_picks : (e : ℕ) (o : Option Status) → slice_get g.now.edges e ≡ o → Picks (Stop e) (stops p g.limits g.now e o)
    stop_picks e (Some Unbegun) at = either_way (Picks (Stop e)) (is_spent g.limits g.now) _ _ (λ h. (in_plan e Unbegun at, spent_is ∙ h, inl (phase_is e Unbegun at))) tt
    stop_picks e (Some (Active l)) at =
        either_way (Picks (Stop e)) (is_spent g.limits g.now && at_take p e l) _ _
        (λ h. let b = and_both (is_spent g.limits g.now) (at_take p e l) h in
        (in_plan e (Active l) at, spent_is ∙ b.0, inr (l.holding, phase_is e (Active l) at ∙ phase_taking l.asked (at_take p e l) l.holding (quiet_at b.1) b.1))) tt
      where
        quiet_at : at_take p e l ≡ true → l.asked ≡ false
        quiet_at take = elim (cases_Bool l.asked) [
          | inr off ↦ off
          | inl loud ↦ absurd (let clash : true ≡ false = sym take ∙ asked_off p g.now e l (sound.active e l at) loud in cc)
        ]
    stop_picks e None at = tt
    stop_picks e (Some (Over outcome)) at = tt

    step_picks : (e : ℕ) (o : Option Status) → slice_get g.now.edges e ≡ o → Picks (Step e) (steps p g.limits g.now e o)
    step_picks e None at = tt
    step_picks e (Some Unbegun) at = tt
    step_picks e (Some (Over outcome)) at = tt
    step_picks e (Some (Active l)) at =
        elim (cases_Bool (l.asked || (at_take p e l && not (is_free p g.limits g.now e)))) [
          | inl off ↦ when_true (Picks (Step e)) (l.asked || (at_take p e l && not (is_free p g.limits g.now e))) _ _ off tt
          | inr on ↦ when_false (Picks (Step e)) (l.asked || (at_take p e l && not (is_free p g.limits g.now e))) _ _ on (any (settles g.now e l (stepped e) (turn p e g.now.slots l)) (can on))
        ]
      where
        any : (x : Stepped) → CanPick plan schedule.phases.items g.limits.jobs g.limits.keep (pick.Step e) → Picks (Step e) x
        any (Next s m) h = h
        any (Wrong flaw) h = tt
        any NotEnabled h = tt

        taking : l.asked ≡ false → at_take p e l ≡ true → is_free p g.limits g.now e ≡ true → CanPick plan schedule.phases.items g.limits.jobs g.limits.keep (pick.Step e)
        taking quiet take free =
            let outer = and_both (has_room p g.now (pool_of p e) && nat_lt (count_by is_holder g.now.edges) g.limits.jobs) (not (is_spent g.limits g.now)) free in
            let inner = and_both (has_room p g.now (pool_of p e)) (nat_lt (count_by is_holder g.now.edges) g.limits.jobs) outer.0 in
            let here = in_plan e (Active l) at in (
              here,
              inr (
                (l.holding, phase_is e (Active l) at ∙ phase_taking l.asked (at_take p e l) l.holding quiet take),
                (room_is e (omega (arith, here, kept.plan_is.edges)) ∙ inner.0, (let lt = ltb-true (count_by is_holder g.now.edges) g.limits.jobs inner.1 in omega (arith, lt, holds_are)), spent_is ∙ unspent (is_spent g.limits g.now) outer.1),
              ),
            )
          where
            unspent : (b : Bool) → not b ≡ true → b ≡ false
            unspent true h = absurd cc
            unspent false h = refl

        can : (l.asked || (at_take p e l && not (is_free p g.limits g.now e))) ≡ false → CanPick plan schedule.phases.items g.limits.jobs g.limits.keep (pick.Step e)
        can on = elim (cases_Bool (at_take p e l)) [
          | inr off ↦ (in_plan e (Active l) at, inl (l.holding, phase_is e (Active l) at ∙ phase_is_going l.asked (at_take p e l) l.holding (quiet l.asked (at_take p e l && not (is_free p g.limits g.now e)) on).0 off))
          | inl take ↦
              let both = quiet l.asked (at_take p e l && not (is_free p g.limits g.now e)) on in
              taking both.0 take (is_true (is_free p g.limits g.now e) (ap (λ (b : Bool). b && not (is_free p g.limits g.now e)) (sym take) ∙ both.1))
        ]
          where
            quiet : (a b : Bool) → (a || b) ≡ false → (a ≡ false) × (b ≡ false)
            quiet true b h = absurd cc
            quiet false b h = (refl, h)

            is_true : (b : Bool) → not b ≡ false → b ≡ true
            is_true true h = refl
            is_true false h = absurd cc

    own_picks : (event : Event) → Picks event (step depfile p g.limits g.now event)
    unfolding step
    own_picks (Start e) = start_picks e (slice_get g.now.edges e) refl
    own_picks (Skip e w) = skip_picks e w (slice_get g.now.edges e) refl
    own_picks (Stop e) = stop_picks e (slice_get g.now.edges e) refl
    own_picks (Step e) = step_picks e (slice_get g.now.edges e) refl
    own_picks (Hear e r) = hear_picks (Hear e r) (step depfile p g.limits g.now (Hear e r))
      where
        hear_picks : (event : Event) (x : Stepped) → Picks (Hear e r) x
        hear_picks event (Next s m) = tt
        hear_picks event (Wrong flaw) = tt
        hear_picks event NotEnabled = tt

    pub step_first : (x : Pick) → FirstSteps plan schedule.phases.items g.limits.jobs g.limits.keep x → StepsFirst p g (event_of x)
    step_first x first e on = step_of x (first e (let it : Picks (Step e) (Next on.after on.mark) = subst (Picks (Step e)) on.next (own_picks (Step e)) in it))

    pub none_picked : ((x : Pick) → CanPick plan schedule.phases.items g.limits.jobs g.limits.keep x → ⊥) → (event : Event) → is_own event ≡ true → IsEnabled p g event → ⊥
    none_picked none (Start e) own on = none (pick.Start e) (let it : Picks (Start e) (Next on.after on.mark) = subst (Picks (Start e)) on.next (own_picks (Start e)) in it)
    none_picked none (Skip e w) own on = none (pick.Skip e w) (let it : Picks (Skip e w) (Next on.after on.mark) = subst (Picks (Skip e w)) on.next (own_picks (Skip e w)) in it)
    none_picked none (Stop e) own on = none (pick.Stop e) (let it : Picks (Stop e) (Next on.after on.mark) = subst (Picks (Stop e)) on.next (own_picks (Stop e)) in it)
    none_picked none (Step e) own on = none (pick.Step e) (let it : Picks (Step e) (Next on.after on.mark) = subst (Picks (Step e)) on.next (own_picks (Step e)) in it)
    none_picked none (Hear e r) own on = absurd cc

-- if no event without a reply is enabled, the run has ended or an edge awaits a reply
pub none_stuck : (p : Parts) (g : RunState) → ((event : Event) → is_own event ≡ true → IsEnabled p g event → ⊥) → (has_ended g.now ≡ true) ⊎ (CanGo depfile p g.limits g.now ⊎ Awaits g.now)
    → (has_ended g.now ≡ true) ⊎ Awaits g.now
none_stuck p g none (inl all) = inl all
none_stuck p g none (inr (inl can)) = absurd (none can.event can.own (record { after = can.after; mark = can.mark; next = can.enabled }))
none_stuck p g none (inr (inr waits)) = inr waits
