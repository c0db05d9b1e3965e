-- The facts that the schedule has about a state that it agrees with.
use Rattle.std.proofs.Common.{◌≡◌, ℕ, zero, suc, ◌+◌, ◌<◌, Bool, true, false, not, List, [], ◌∷◌, length, map, Option, Some, None, refl, sym, ap, ◌∙◌, arith, inl, inr, cond}
use Rattle.std.specs.Prelude.{◌&&◌, ◌==◌, option_map, slice_get, slice_set, slice_index, count_by, if◌then◌else◌}
use Rattle.std.specs.List.{list_all}
use Rattle.std.proofs.lemmas.Bool.{cases_eq, cases_Bool, eq-eqb, ne_eqb}
use Rattle.std.proofs.lemmas.Option.{slice_get_within}
use Rattle.std.proofs.lemmas.List.Sums.{sum_by-cons}
use Rattle.plan_image.specs.declared.image.Parts.{Parts}
use Rattle.plan_image.specs.Spelling.{pool_number}
use Rattle.plan_verify.specs.Tables.{pool_of, waits_of}
use Rattle.plan_schedule.specs.declared.phase.Phase.{Phase}
use Rattle.plan_schedule.specs.declared.phase.Phase.TheVariants as phase
use Rattle.plan_schedule.specs.declared.plan.Plan.{Plan}
use Rattle.plan_schedule.specs.declared.schedule.Schedule.{Schedule}
use Rattle.plan_schedule.specs.Phases.{holds, has_failed as phase_failed, is_open, has_succeeded as phase_well, is_unsuccessful as phase_ill, phase_at}
use Rattle.plan_schedule.specs.Counts.{one, holders_of}
use Rattle.plan_schedule.specs.Scheduling.{IsSchedule, edges_of, count_unsucceeded}
use Rattle.plan_machine.specs.declared.event.Outcome.{Outcome}
use Rattle.plan_machine.specs.declared.event.Outcome.TheVariants.{Clean, Ran, Failed, Skipped, Stopped, NotWanted}
use Rattle.plan_machine.specs.State.{Status, Unbegun, Active, Over, State, has_succeeded, is_unsuccessful, is_over, has_failed, is_holder, passes, stands, has_ended}
use Rattle.plan_machine.specs.Places.{is_pool, holders_from, at_take}
use Rattle.plan_schedule.specs.Opening.{opening_phase}
use Rattle.plan_machine.specs.Runs.{at_first}
use Rattle.plan_machine.specs.Kept.{Running, phase_over, phase_active, phase_of, phase_in, phases_from, IsPlanOf, AreKept, IsBehind}
use Rattle.plan_machine.proofs.ListLemmas.{get_same, map_length, set_length}

-- ---- tests of phases

holds_over : (outcome : Outcome) → holds (phase_over outcome) ≡ false
holds_over Clean = refl
holds_over Ran = refl
holds_over (Failed cause) = refl
holds_over (Skipped w) = refl
holds_over Stopped = refl
holds_over NotWanted = refl

holds_active : (asked taking holding : Bool) → holds (phase_active asked taking holding) ≡ holding
holds_active true taking holding = refl
holds_active false true holding = refl
holds_active false false holding = refl

pub holds_is : (p : Parts) (e : ℕ) (status : Status) → holds (phase_of p e status) ≡ is_holder status
holds_is p e Unbegun = refl
holds_is p e (Active l) = holds_active l.asked (at_take p e l) l.holding
holds_is p e (Over outcome) = holds_over outcome

-- a test that is false for each phase of a running edge
never_active : (f : Phase → Bool) → ((h : Bool) → f (phase.Waiting h) ≡ false) → ((h : Bool) → f (phase.AtTake h) ≡ false) → ((h : Bool) → f (phase.Runnable h) ≡ false)
    → (asked taking holding : Bool) → f (phase_active asked taking holding) ≡ false
never_active f a t g true taking holding = a holding
never_active f a t g false true holding = t holding
never_active f a t g false false holding = g holding

failed_over : (outcome : Outcome) → phase_failed (phase_over outcome) ≡ has_failed (Over outcome)
failed_over Clean = refl
failed_over Ran = refl
failed_over (Failed cause) = refl
failed_over (Skipped w) = refl
failed_over Stopped = refl
failed_over NotWanted = refl

pub failed_is : (p : Parts) (e : ℕ) (status : Status) → phase_failed (phase_of p e status) ≡ has_failed status
failed_is p e Unbegun = refl
failed_is p e (Active l) = never_active phase_failed (λ h. refl) (λ h. refl) (λ h. refl) l.asked (at_take p e l) l.holding
failed_is p e (Over outcome) = failed_over outcome

well_over : (outcome : Outcome) → phase_well (phase_over outcome) ≡ has_succeeded (Over outcome)
well_over Clean = refl
well_over Ran = refl
well_over (Failed cause) = refl
well_over (Skipped w) = refl
well_over Stopped = refl
well_over NotWanted = refl

pub well_is : (p : Parts) (e : ℕ) (status : Status) → phase_well (phase_of p e status) ≡ has_succeeded status
well_is p e Unbegun = refl
well_is p e (Active l) = never_active phase_well (λ h. refl) (λ h. refl) (λ h. refl) l.asked (at_take p e l) l.holding
well_is p e (Over outcome) = well_over outcome

ill_over : (outcome : Outcome) → phase_ill (phase_over outcome) ≡ is_unsuccessful (Over outcome)
ill_over Clean = refl
ill_over Ran = refl
ill_over (Failed cause) = refl
ill_over (Skipped w) = refl
ill_over Stopped = refl
ill_over NotWanted = refl

pub ill_is : (p : Parts) (e : ℕ) (status : Status) → phase_ill (phase_of p e status) ≡ is_unsuccessful status
ill_is p e Unbegun = refl
ill_is p e (Active l) = never_active phase_ill (λ h. refl) (λ h. refl) (λ h. refl) l.asked (at_take p e l) l.holding
ill_is p e (Over outcome) = ill_over outcome

open_over : (outcome : Outcome) → is_open (phase_over outcome) ≡ false
open_over Clean = refl
open_over Ran = refl
open_over (Failed cause) = refl
open_over (Skipped w) = refl
open_over Stopped = refl
open_over NotWanted = refl

open_active : (asked taking holding : Bool) → is_open (phase_active asked taking holding) ≡ true
open_active true taking holding = refl
open_active false true holding = refl
open_active false false holding = refl

open_is : (p : Parts) (e : ℕ) (status : Status) → is_open (phase_of p e status) ≡ not (is_over status)
open_is p e Unbegun = refl
open_is p e (Active l) = open_active l.asked (at_take p e l) l.holding
open_is p e (Over outcome) = open_over outcome

-- ---- lists of phases

zero_more : (n : ℕ) → n + 0 ≡ n
zero_more n = omega arith

one_more : (n k : ℕ) → n + suc k ≡ n + 1 + k
one_more n k = omega arith

pub phases_length : (p : Parts) (e : ℕ) (l : List Status) → length (phases_from p e l) ≡ length l
phases_length p e [] = refl
phases_length p e (st ∷ l) = ap suc (phases_length p (e + 1) l)

phases_set_by : (p : Parts) (e k : ℕ) (l : List Status) (st : Status) → phases_from p e (slice_set l k st) ≡ slice_set (phases_from p e l) k (phase_of p (e + k) st)
phases_set_by p e k [] st = refl
phases_set_by p e zero (x ∷ l) st = ap (λ (n : ℕ). phase_of p n st ∷ phases_from p (e + 1) l) (sym (zero_more e))
phases_set_by p e (suc k) (x ∷ l) st =
    ap (λ (ps : List Phase). phase_of p e x ∷ ps) (phases_set_by p (e + 1) k l st ∙ ap (λ (n : ℕ). slice_set (phases_from p (e + 1) l) k (phase_of p n st)) (sym (one_more e k)))

pub phases_set : (p : Parts) (k : ℕ) (l : List Status) (st : Status) → phases_from p 0 (slice_set l k st) ≡ slice_set (phases_from p 0 l) k (phase_of p k st)
phases_set p k l st = let same : 0 + k ≡ k = omega arith in phases_set_by p 0 k l st ∙ ap (λ (n : ℕ). slice_set (phases_from p 0 l) k (phase_of p n st)) same

-- a test of phases that agrees with a test of statuses
phases_at_by : (f : Phase → Bool) (g : Status → Bool) (p : Parts) → ((e : ℕ) (st : Status) → f (phase_of p e st) ≡ g st) → f phase.Unbegun ≡ false
    → (e k : ℕ) (l : List Status) → f (phase_at (phases_from p e l) k) ≡ passes g (slice_get l k)
phases_at_by f g p same none e k [] = none
phases_at_by f g p same none e zero (st ∷ l) = same e st
phases_at_by f g p same none e (suc k) (st ∷ l) = phases_at_by f g p same none (e + 1) k l

phase_there_by : (p : Parts) (e k : ℕ) (l : List Status) (st : Status) → slice_get l k ≡ Some st → phase_at (phases_from p e l) k ≡ phase_of p (e + k) st
phase_there_by p e k [] st h = absurd cc
phase_there_by p e zero (x ∷ l) st h = let same : x ≡ st = cc in ap (phase_of p e) same ∙ ap (λ (n : ℕ). phase_of p n st) (sym (zero_more e))
phase_there_by p e (suc k) (x ∷ l) st h = phase_there_by p (e + 1) k l st h ∙ ap (λ (n : ℕ). phase_of p n st) (sym (one_more e k))

pub phase_there : (p : Parts) (k : ℕ) (l : List Status) (st : Status) → slice_get l k ≡ Some st → phase_at (phases_from p 0 l) k ≡ phase_of p k st
phase_there p k l st h = let same : 0 + k ≡ k = omega arith in phase_there_by p 0 k l st h ∙ ap (λ (n : ℕ). phase_of p n st) same

-- the phase that the schedule has of an edge
phase_found_by : (p : Parts) (e k : ℕ) (l : List Status) → slice_get (phases_from p e l) k ≡ option_map (phase_of p (e + k)) (slice_get l k)
phase_found_by p e k [] = refl
phase_found_by p e zero (x ∷ l) = ap (λ (n : ℕ). Some (phase_of p n x)) (sym (zero_more e))
phase_found_by p e (suc k) (x ∷ l) =
    phase_found_by p (e + 1) k l ∙ ap (λ (n : ℕ). option_map (phase_of p n) (slice_get l k)) (sym (one_more e k))

pub phase_found : (p : Parts) (k : ℕ) (l : List Status) → slice_get (phases_from p 0 l) k ≡ option_map (phase_of p k) (slice_get l k)
phase_found p k l = let same : 0 + k ≡ k = omega arith in phase_found_by p 0 k l ∙ ap (λ (n : ℕ). option_map (phase_of p n) (slice_get l k)) same

phase_some : (p : Parts) (e : ℕ) (status : Option Status) (x : Phase) → option_map (phase_of p e) status ≡ Some x → x ≡ phase_in p e status
phase_some p e (Some status) x h = let same : phase_of p e status ≡ x = cc in sym same
phase_some p e None x h = absurd cc

phase_none : (p : Parts) (e : ℕ) (status : Option Status) → option_map (phase_of p e) status ≡ None → phase.NotWanted ≡ phase_in p e status
phase_none p e (Some status) h = absurd cc
phase_none p e None h = refl

pub phase_known : (p : Parts) (s : State) (plan : Plan) (schedule : Schedule) → AreKept p s plan schedule → (e : ℕ) (x : Phase) → slice_get schedule.phases.items e ≡ Some x → x ≡ phase_in p e (slice_get s.edges e)
phase_known p s plan schedule kept e x h =
    phase_some p e (slice_get s.edges e) x (sym (phase_found p e s.edges) ∙ sym (ap (λ (ps : List Phase). slice_get ps e) kept.phases) ∙ h)

pub phase_unknown : (p : Parts) (s : State) (plan : Plan) (schedule : Schedule) → AreKept p s plan schedule → (e : ℕ) → slice_get schedule.phases.items e ≡ None → phase.NotWanted ≡ phase_in p e (slice_get s.edges e)
phase_unknown p s plan schedule kept e h =
    phase_none p e (slice_get s.edges e) (sym (phase_found p e s.edges) ∙ sym (ap (λ (ps : List Phase). slice_get ps e) kept.phases) ∙ h)

count_same : (f : Phase → Bool) (g : Status → Bool) (p : Parts) → ((e : ℕ) (st : Status) → f (phase_of p e st) ≡ g st) → (e : ℕ) (l : List Status) → count_by f (phases_from p e l) ≡ count_by g l
count_same f g p same e [] = refl
count_same f g p same e (st ∷ l) =
    let a : count_by f (phases_from p e (st ∷ l)) ≡ one (f (phase_of p e st)) + count_by f (phases_from p (e + 1) l) = sum_by-cons (λ x. cond (f x) 1 0) (phase_of p e st) (phases_from p (e + 1) l) in
    let b : count_by g (st ∷ l) ≡ one (g st) + count_by g l = sum_by-cons (λ x. cond (g x) 1 0) st l in
    let c : one (f (phase_of p e st)) ≡ one (g st) = ap one (same e st) in
    let rest : count_by f (phases_from p (e + 1) l) ≡ count_by g l = count_same f g p same (e + 1) l in
    omega (arith, a, b, c, rest)

-- ---- edges of a pool that hold a job token

pool_is : (o : Option ℕ) (q : ℕ) → (pool_number o == q + 1) ≡ is_pool q o
pool_is None q = ne_eqb 0 (q + 1) (λ h. omega (arith, h))
pool_is (Some n) q = elim (cases_eq n q) [
  | inl same ↦ eq-eqb (n + 1) (q + 1) (ap (λ (k : ℕ). k + 1) same) ∙ sym (eq-eqb n q same)
  | inr other ↦ ne_eqb (n + 1) (q + 1) (λ h. other (omega (arith, h))) ∙ sym (ne_eqb n q other)
]

one_if : (b : Bool) → one b ≡ (if b then 1 else 0)
one_if true = refl
one_if false = refl

holders_same : (p : Parts) (q e : ℕ) (pools : List ℕ) (l : List Status) → length pools ≡ length l → ((k : ℕ) → k < length pools → slice_index pools k ≡ pool_number (pool_of p (e + k)))
    → holders_of (q + 1) pools (phases_from p e l) ≡ holders_from p q e l
holders_same p q e [] [] long each = refl
holders_same p q e [] (st ∷ l) long each = absurd (omega (arith, long))
holders_same p q e (n ∷ pools) [] long each = absurd (omega (arith, long))
holders_same p q e (n ∷ pools) (st ∷ l) long each =
    let first : n ≡ pool_number (pool_of p e) = each 0 (omega arith) ∙ ap (λ (k : ℕ). pool_number (pool_of p k)) (zero_more e) in
    let pool : (n == q + 1) ≡ is_pool q (pool_of p e) = ap (λ (k : ℕ). k == q + 1) first ∙ pool_is (pool_of p e) q in
    let here : one ((n == q + 1) && holds (phase_of p e st)) ≡ (if is_pool q (pool_of p e) && is_holder st then 1 else 0) =
    ap (λ (b : Bool). one (b && holds (phase_of p e st))) pool ∙ ap (λ (b : Bool). one (is_pool q (pool_of p e) && b)) (holds_is p e st) ∙ one_if (is_pool q (pool_of p e) && is_holder st) in
    let rest : holders_of (q + 1) pools (phases_from p (e + 1) l) ≡ holders_from p q (e + 1) l =
    holders_same p q (e + 1) pools l (omega (arith, long)) (λ k h. each (suc k) (omega (arith, h)) ∙ ap (λ (m : ℕ). pool_number (pool_of p m)) (one_more e k)) in
    omega (arith, here, rest)

-- ---- edges that all succeeded

sums_to : (f : ℕ → Bool) (w : ℕ) (ws : List ℕ) → count_by f (w ∷ ws) ≡ one (f w) + count_by f ws
sums_to f w ws = sum_by-cons (λ x. cond (f x) 1 0) w ws

none_counted : (f g : ℕ → Bool) → ((w : ℕ) → f w ≡ not (g w)) → (ws : List ℕ) → (count_by f ws == 0) ≡ list_all g ws
none_counted f g same [] = refl
none_counted f g same (w ∷ ws) = elim (cases_Bool (g w)) [
  | inl on ↦
      let off : one (f w) ≡ one false = ap one (same w ∙ ap not on) in
      let e : count_by f (w ∷ ws) ≡ count_by f ws = omega (arith, sums_to f w ws, off) in
      ap (λ (n : ℕ). n == 0) e ∙ none_counted f g same ws ∙ ap (λ (b : Bool). b && list_all g ws) (sym on)
  | inr off ↦
      let on : one (f w) ≡ one true = ap one (same w ∙ ap not off) in
      ne_eqb (count_by f (w ∷ ws)) 0 (λ z. omega (arith, sums_to f w ws, on, z)) ∙ ap (λ (b : Bool). b && list_all g ws) (sym off)
]

-- ---- the facts that the schedule has about a state

module _ (p : Parts) (s : State) (plan : Plan) (schedule : Schedule) (kept : AreKept p s plan schedule) where
  pub count_is : (f : Phase → Bool) (g : Status → Bool) → ((e : ℕ) (st : Status) → f (phase_of p e st) ≡ g st) → count_by f schedule.phases.items ≡ count_by g s.edges
  count_is f g same = ap (count_by f) kept.phases ∙ count_same f g p same 0 s.edges

  pub failures_are : schedule.counts.failures ≡ count_by has_failed s.edges
  failures_are = kept.fit.kept.counts.failures_are ∙ count_is phase_failed has_failed (failed_is p)

  pub holders_are : schedule.counts.holders ≡ count_by is_holder s.edges
  holders_are = kept.fit.kept.counts.holders_are ∙ count_is holds is_holder (holds_is p)

  pub open_are : schedule.counts.open_edges ≡ count_by (λ st. not (is_over st)) s.edges
  open_are = kept.fit.kept.counts.open_are ∙ count_is is_open (λ st. not (is_over st)) (open_is p)

  pools_long : length plan.pools.items ≡ length s.edges
  pools_long = kept.plan_is.good.pools_sized ∙ kept.plan_is.edges ∙ sym kept.long

  pub holders_of_are : (q : ℕ) → holders_of (q + 1) plan.pools.items schedule.phases.items ≡ holders_from p q 0 s.edges
  holders_of_are q =
      ap (holders_of (q + 1) plan.pools.items) kept.phases
      ∙ holders_same p q 0 plan.pools.items s.edges pools_long (λ k h. let same : 0 + k ≡ k = omega arith in kept.plan_is.pools k (omega (arith, h, pools_long, kept.long)) ∙ ap (λ (n : ℕ). pool_number (pool_of p n)) (sym same))

  pub pool_holders_are : (q : ℕ) → q + 1 < length schedule.counts.pool_holders.items → slice_index schedule.counts.pool_holders.items (q + 1) ≡ holders_from p q 0 s.edges
  pool_holders_are q h = kept.fit.kept.counts.pool_holders_are (q + 1) h ∙ holders_of_are q

  pub well_at : (w : ℕ) → phase_well (phase_at schedule.phases.items w) ≡ stands has_succeeded s w
  well_at w = ap (λ (ps : List Phase). phase_well (phase_at ps w)) kept.phases ∙ phases_at_by phase_well has_succeeded p (well_is p) refl 0 w s.edges

  pub ill_at : (w : ℕ) → phase_ill (phase_at schedule.phases.items w) ≡ stands is_unsuccessful s w
  ill_at w = ap (λ (ps : List Phase). phase_ill (phase_at ps w)) kept.phases ∙ phases_at_by phase_ill is_unsuccessful p (ill_is p) refl 0 w s.edges

  pub waits_are_well : (e : ℕ) → e < length s.edges → (slice_index schedule.waiting.items e == 0) ≡ list_all (stands has_succeeded s) (waits_of p e)
  waits_are_well e h =
      ap (λ (n : ℕ). n == 0) (kept.fit.waiting e (omega (arith, h, kept.long, kept.plan_is.edges)) ∙ ap (count_unsucceeded schedule.phases.items) (kept.plan_is.waits e))
      ∙ none_counted (λ w. not (phase_well (phase_at schedule.phases.items w))) (stands has_succeeded s) (λ w. ap not (well_at w)) (waits_of p e)

all_over : (l : List Status) → (count_by (λ st. not (is_over st)) l == 0) ≡ list_all is_over l
all_over [] = refl
all_over (st ∷ l) =
    let e : count_by (λ x. not (is_over x)) (st ∷ l) ≡ one (not (is_over st)) + count_by (λ x. not (is_over x)) l = sum_by-cons (λ x. cond (not (is_over x)) 1 0) st l in
    elim (cases_Bool (is_over st)) [
      | inl on ↦
          let off : one (not (is_over st)) ≡ one false = ap (λ (b : Bool). one (not b)) on in
          let same : count_by (λ x. not (is_over x)) (st ∷ l) ≡ count_by (λ x. not (is_over x)) l = omega (arith, e, off) in
          ap (λ (n : ℕ). n == 0) same ∙ all_over l ∙ ap (λ (b : Bool). b && list_all is_over l) (sym on)
      | inr off ↦
          let on : one (not (is_over st)) ≡ one true = ap (λ (b : Bool). one (not b)) off in
          ne_eqb (count_by (λ x. not (is_over x)) (st ∷ l)) 0 (λ z. omega (arith, e, on, z)) ∙ ap (λ (b : Bool). b && list_all is_over l) (sym off)
    ]

pub ended_is : (p : Parts) (s : State) (plan : Plan) (schedule : Schedule) → AreKept p s plan schedule → (schedule.counts.open_edges == 0) ≡ has_ended s
ended_is p s plan schedule kept = ap (λ (n : ℕ). n == 0) (open_are p s plan schedule kept) ∙ all_over s.edges

-- ---- updating the schedule to the status of an edge

over_well : (st : Status) → is_over st ≡ false → has_succeeded st ≡ false
over_well Unbegun h = refl
over_well (Active l) h = refl
over_well (Over outcome) h = absurd cc

over_ill : (st : Status) → is_over st ≡ false → is_unsuccessful st ≡ false
over_ill Unbegun h = refl
over_ill (Active l) h = refl
over_ill (Over outcome) h = absurd cc

module _ (p : Parts) (r : Running) (e : ℕ) (behind : IsBehind p r e) where
  inside : e < length behind.old.edges
  inside = slice_get_within behind.old.edges e behind.changed.before behind.changed.now

  pub here_is : e < edges_of r.plan
  here_is = omega (arith, inside, behind.kept.long, behind.kept.plan_is.edges)

  pub was_unwell : phase_well (phase_at r.schedule.phases.items e) ≡ false
  was_unwell = well_at p behind.old r.plan r.schedule behind.kept e ∙ ap (passes has_succeeded) behind.changed.now ∙ over_well behind.changed.before behind.changed.was_open

  pub was_not_ill : phase_ill (phase_at r.schedule.phases.items e) ≡ false
  was_not_ill = ill_at p behind.old r.plan r.schedule behind.kept e ∙ ap (passes is_unsuccessful) behind.changed.now ∙ over_ill behind.changed.before behind.changed.was_open

  pub caught_up : (schedule : Schedule) (x : Phase) → IsSchedule r.plan schedule → schedule.phases.items ≡ slice_set r.schedule.phases.items e x → x ≡ phase_in p e (slice_get r.run_state.now.edges e) → AreKept p r.run_state.now r.plan schedule
  caught_up schedule x fit set is =
      let at : slice_get r.run_state.now.edges e ≡ Some behind.changed.after = ap (λ (l : List Status). slice_get l e) behind.changed.left ∙ get_same behind.old.edges e behind.changed.after inside in
      record {
        plan_is = behind.kept.plan_is;
        long = ap (λ (l : List Status). length l) behind.changed.left ∙ set_length behind.old.edges e behind.changed.after ∙ behind.kept.long;
        phases =
            set ∙ ap (slice_set r.schedule.phases.items e) (is ∙ ap (phase_in p e) at) ∙ ap (λ (ps : List Phase). slice_set ps e (phase_of p e behind.changed.after)) behind.kept.phases
            ∙ sym (phases_set p e behind.old.edges behind.changed.after) ∙ ap (phases_from p 0) (sym behind.changed.left);
        fit = fit;
      }

-- ---- the schedule of a run that has not begun

opens_with : (p : Parts) (e : ℕ) (wanted : List Bool) → phases_from p e (map at_first wanted) ≡ map opening_phase wanted
opens_with p e [] = refl
opens_with p e (true ∷ wanted) = ap (λ (ps : List Phase). phase.Unbegun ∷ ps) (opens_with p (e + 1) wanted)
opens_with p e (false ∷ wanted) = ap (λ (ps : List Phase). phase.NotWanted ∷ ps) (opens_with p (e + 1) wanted)

pub opens_kept : (p : Parts) (s : State) (plan : Plan) (schedule : Schedule) (wanted : List Bool) → IsPlanOf p plan → s.edges ≡ map at_first wanted → length wanted ≡ length p.edges
    → IsSchedule plan schedule → schedule.phases.items ≡ map opening_phase wanted → AreKept p s plan schedule
opens_kept p s plan schedule wanted plan_is edges long fit phases =
    record {
      plan_is = plan_is;
      long = ap (λ (l : List Status). length l) edges ∙ map_length at_first wanted ∙ long;
      phases = phases ∙ sym (opens_with p 0 wanted) ∙ ap (phases_from p 0) (sym edges);
      fit = fit;
    }
