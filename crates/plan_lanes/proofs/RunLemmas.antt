-- Runs, one event longer; and that a run has one end.
use Rattle.std.proofs.Common.{◌≡◌, ◌≢◌, ◌<◌, ◌+◌, ℕ, zero, suc, Bool, true, false, not, eqb, List, [], ◌∷◌, ◌++◌, Option, Some, None, length, refl, sym, ap, arith, ◌∙◌, subst}
use Rattle.std.proofs.lemmas.Bool.{eq-eqb, eqb-true}
use Rattle.std.specs.Prelude.{◌&&◌, ◌||◌, if◌then◌else◌, map, slice_get, slice_set}
use Rattle.std.specs.List.{list_all}
use Rattle.plan_image.specs.declared.image.Parts.{Parts}
use Rattle.plan_verify.specs.Members.{is_member}
use Rattle.plan_verify.specs.Sound.{asking}
use Rattle.plan_verify.specs.Tables.{waits_of}
use Rattle.plan_verify.specs.Turn.{Slots, Local, begun, Did, Moved, Took, Released, Turn, Goes, Sets, Asks, Ends, Fails, Wrong as Errs, Meaning, Reply as Answer, heard, turn}
use Rattle.plan_machine.specs.Limits.{Limits}
use Rattle.plan_machine.specs.declared.event.Event.{Event}
use Rattle.plan_machine.specs.declared.event.Event.TheVariants.{Start, Skip, Stop, Step, Reply as Hear}
use Rattle.plan_machine.specs.declared.event.Mark.{Mark}
use Rattle.plan_machine.specs.declared.event.Mark.TheVariants as mark
use Rattle.plan_machine.specs.declared.event.Outcome.TheVariants.{Failed, Skipped, Stopped}
use Rattle.plan_machine.specs.Edges.{edge_of}
use Rattle.plan_machine.specs.Places.{at_take, is_free, is_spent}
use Rattle.plan_machine.specs.Runs.{Opens, Reached, Runs, at_first}
use Rattle.plan_machine.specs.State.{Status, Unbegun, Active, Over, State, has_succeeded, is_unsuccessful, passes, stands}
use Rattle.plan_machine.specs.Step.{Stepped, Next, Wrong, NotEnabled, answer_of, answered, ended, hears, hears_by, settles, skips, starts, step, stepped, steps, stops}
use Rattle.plan_machine.specs.Total.{commands_among, has_command, is_wanted, total_of}
use Rattle.plan_machine.specs.Wanted.{AreWanted}
use Rattle.plan_lanes.proofs.ListLemmas.{get_other, get_set, same_flags, when_either}

-- ---- an event changes only its edge

-- the state of one wanted edge changes, and the edge stays wanted; the mark reports a question of no other edge
pub record MovesAlone (s mid : State) (e : ℕ) (old : Option Status) (told : Mark) : Type 0 where
  pub status : Status
  pub was : passes is_wanted old ≡ true
  pub is : is_wanted status ≡ true
  pub left : mid.edges ≡ slice_set s.edges e status
  pub asks : (f : ℕ) → told ≡ mark.Asked f → f ≡ e

abbrev Alone : State → ℕ → Option Status → Stepped → Type 0
Alone s e old (Next mid told) = MovesAlone s mid e old told
Alone s e old (Wrong flaw) = Unit {0}
Alone s e old NotEnabled = Unit {0}

ended_wanted : (ran : Bool) → is_wanted (Over (ended ran)) ≡ true
ended_wanted true = refl
ended_wanted false = refl

module _ (meaning : Meaning) (p : Parts) (limits : Limits) (s : State) where
  settles_alone : (e : ℕ) (l : Local) (told : Did → Mark) (t : Turn) → ((did : Did) (f : ℕ) → told did ≢ mark.Asked f) → Alone s e (Some (Active l)) (settles s e l told t)
  settles_alone e l told (Goes did m) quiet = record { status = Active m; was = refl; is = refl; left = refl; asks = λ f is. absurd (quiet did f is) }
  settles_alone e l told (Sets k v m) quiet = record { status = Active m; was = refl; is = refl; left = refl; asks = λ f is. absurd (quiet Moved f is) }
  settles_alone e l told (Asks q) quiet = record { status = Active (asking l); was = refl; is = refl; left = refl; asks = λ f is. cc }
  settles_alone e l told Ends quiet = record { status = Over (ended l.ran); was = refl; is = ended_wanted l.ran; left = refl; asks = λ f is. absurd cc }
  settles_alone e l told (Fails cause) quiet = record { status = Over (Failed cause); was = refl; is = refl; left = refl; asks = λ f is. absurd cc }
  settles_alone e l told (Errs flaw) quiet = tt

  starts_alone : (e : ℕ) (o : Option Status) → Alone s e o (starts p s e o)
  starts_alone e (Some Unbegun) = when_either (Alone s e (Some Unbegun)) (list_all (stands has_succeeded s) (waits_of p e)) _ _ (record { status = Active begun; was = refl; is = refl; left = refl; asks = λ f is. absurd cc }) tt
  starts_alone e None = tt
  starts_alone e (Some (Active l)) = tt
  starts_alone e (Some (Over outcome)) = tt

  skips_alone : (e w : ℕ) (o : Option Status) → Alone s e o (skips p s e w o)
  skips_alone e w (Some Unbegun) = when_either (Alone s e (Some Unbegun)) (is_member w (waits_of p e) && stands is_unsuccessful s w) _ _ (record { status = Over (Skipped w); was = refl; is = refl; left = refl; asks = λ f is. absurd cc }) tt
  skips_alone e w None = tt
  skips_alone e w (Some (Active l)) = tt
  skips_alone e w (Some (Over outcome)) = tt

  stops_alone : (e : ℕ) (o : Option Status) → Alone s e o (stops p limits s e o)
  stops_alone e (Some Unbegun) = when_either (Alone s e (Some Unbegun)) (is_spent limits s) _ _ (record { status = Over Stopped; was = refl; is = refl; left = refl; asks = λ f is. absurd cc }) tt
  stops_alone e (Some (Active l)) = when_either (Alone s e (Some (Active l))) (is_spent limits s && at_take p e l) _ _ (record { status = Over Stopped; was = refl; is = refl; left = refl; asks = λ f is. absurd cc }) tt
  stops_alone e None = tt
  stops_alone e (Some (Over outcome)) = tt

  stepped_quiet : (e : ℕ) (did : Did) (f : ℕ) → stepped e did ≢ mark.Asked f
  stepped_quiet e Moved f is = cc
  stepped_quiet e Took f is = cc
  stepped_quiet e Released f is = cc

  answered_quiet : (e : ℕ) (did : Did) (f : ℕ) → answered e did ≢ mark.Asked f
  answered_quiet e did f is = cc

  steps_alone : (e : ℕ) (o : Option Status) → Alone s e o (steps p limits s e o)
  steps_alone e (Some (Active l)) =
      when_either (Alone s e (Some (Active l))) (l.asked || (at_take p e l && not (is_free p limits s e))) _ _ tt (settles_alone e l (stepped e) (turn p e s.slots l) (stepped_quiet e))
  steps_alone e None = tt
  steps_alone e (Some Unbegun) = tt
  steps_alone e (Some (Over outcome)) = tt

  hears_by_alone : (e : ℕ) (l : Local) (o : Option Turn) → Alone s e (Some (Active l)) (hears_by s e l o)
  hears_by_alone e l None = tt
  hears_by_alone e l (Some t) = settles_alone e l (answered e) t (answered_quiet e)

  hears_alone : (e : ℕ) (r : Answer) (o : Option Status) → Alone s e o (hears meaning p s e r o)
  hears_alone e r (Some (Active l)) = hears_by_alone e l (heard meaning p e l r)
  hears_alone e r None = tt
  hears_alone e r (Some Unbegun) = tt
  hears_alone e r (Some (Over outcome)) = tt

  step_alone : (event : Event) → Alone s (edge_of event) (slice_get s.edges (edge_of event)) (step meaning p limits s event)
  unfolding step
  step_alone (Start e) = starts_alone e (slice_get s.edges e)
  step_alone (Skip e w) = skips_alone e w (slice_get s.edges e)
  step_alone (Stop e) = stops_alone e (slice_get s.edges e)
  step_alone (Step e) = steps_alone e (slice_get s.edges e)
  step_alone (Hear e r) = hears_alone e (answer_of r) (slice_get s.edges e)

  pub moves_alone : (mid : State) (event : Event) (told : Mark) → step meaning p limits s event ≡ Next mid told → MovesAlone s mid (edge_of event) (slice_get s.edges (edge_of event)) told
  moves_alone mid event told is =
      let it : Alone s (edge_of event) (slice_get s.edges (edge_of event)) (Next mid told) = subst (Alone s (edge_of event) (slice_get s.edges (edge_of event))) is (step_alone event) in it

-- ---- which edges are wanted stays

wanted_within : (xs : List Status) (e : ℕ) → passes is_wanted (slice_get xs e) ≡ true → e < length xs
wanted_within [] e is = absurd cc
wanted_within (x ∷ xs) zero is = omega arith
wanted_within (x ∷ xs) (suc e) is = let on = wanted_within xs e is in omega (arith, on)

wanted_stays : (s mid : State) (e : ℕ) (told : Mark) → MovesAlone s mid e (slice_get s.edges e) told → (f : ℕ) → stands is_wanted mid f ≡ stands is_wanted s f
wanted_stays s mid e told alone f = by_place (eqb f e) refl
  where
    left : stands is_wanted mid f ≡ passes is_wanted (slice_get (slice_set s.edges e alone.status) f)
    left = ap (λ (xs : List Status). passes is_wanted (slice_get xs f)) alone.left

    by_place : (b : Bool) → eqb f e ≡ b → stands is_wanted mid f ≡ stands is_wanted s f
    by_place true test =
        let same : f ≡ e = eqb-true f e test in
        let set : slice_get (slice_set s.edges e alone.status) e ≡ Some alone.status = get_set s.edges alone.status e (wanted_within s.edges e alone.was) in
        let now : passes is_wanted (slice_get (slice_set s.edges e alone.status) f) ≡ true
        = ap (λ (k : ℕ). passes is_wanted (slice_get (slice_set s.edges e alone.status) k)) same ∙ (ap (passes is_wanted) set ∙ alone.is) in
        let was : passes is_wanted (slice_get s.edges f) ≡ true = ap (λ (k : ℕ). passes is_wanted (slice_get s.edges k)) same ∙ alone.was in
        left ∙ (now ∙ sym was)
    by_place false test =
        let other : f ≢ e = λ same. (let clash : eqb f e ≡ true = eq-eqb f e same in let mixed : true ≡ false = sym clash ∙ test in cc) in
        left ∙ ap (passes is_wanted) (get_other s.edges alone.status e f other)

commands_stay : (p : Parts) (s mid : State) → ((f : ℕ) → stands is_wanted mid f ≡ stands is_wanted s f) → (n : ℕ) → commands_among p mid n ≡ commands_among p s n
commands_stay p s mid same zero = refl
commands_stay p s mid same (suc e) =
    let before : commands_among p mid e ≡ commands_among p s e = commands_stay p s mid same e in
    ap (λ (n : ℕ). n + (if has_command p e && stands is_wanted mid e then 1 else 0)) before
    ∙ ap (λ (b : Bool). commands_among p s e + (if has_command p e && b then 1 else 0)) (same e)

-- an event leaves how many command edges are wanted
pub total_stays : (meaning : Meaning) (p : Parts) (limits : Limits) (s mid : State) (event : Event) (told : Mark) → step meaning p limits s event ≡ Next mid told → total_of p mid ≡ total_of p s
total_stays meaning p limits s mid event told is =
    commands_stay p s mid (wanted_stays s mid (edge_of event) told (moves_alone meaning p limits s mid event told is)) (length p.edges)

-- ---- one event more

pub runs_more : (meaning : Meaning) (p : Parts) (limits : Limits) (s mid end : State) (events : List Event) (marks : List Mark) (event : Event) (told : Mark)
    → Runs meaning p limits s events marks mid → step meaning p limits mid event ≡ Next end told → Runs meaning p limits s (events ++ event ∷ []) (marks ++ told ∷ []) end
runs_more meaning p limits s mid end [] [] event told run is = (end, subst (λ (t : State). step meaning p limits t event ≡ Next end told) (sym run) is, refl)
runs_more meaning p limits s mid end (x ∷ events) (m ∷ marks) event told run is = (run.0, run.1, runs_more meaning p limits run.0 mid end events marks event told run.2 is)
runs_more meaning p limits s mid end [] (m ∷ marks) event told run is = absurd run
runs_more meaning p limits s mid end (x ∷ events) [] event told run is = absurd run

-- ---- one end

-- an event leads to one state
pub next_same : (t u : State) (m n : Mark) (x : Stepped) → x ≡ Next t m → x ≡ Next u n → t ≡ u
next_same t u m n x one other = cc

runs_same : (meaning : Meaning) (p : Parts) (limits : Limits) (s t u : State) (events : List Event) (marks others : List Mark) → Runs meaning p limits s events marks t → Runs meaning p limits s events others u → t ≡ u
runs_same meaning p limits s t u [] [] [] one other = sym one ∙ other
runs_same meaning p limits s t u (x ∷ events) (m ∷ marks) (n ∷ others) one other =
    let same : other.0 ≡ one.0 = next_same other.0 one.0 n m (step meaning p limits s x) other.1 one.1 in
    runs_same meaning p limits one.0 t u events marks others one.2 (subst (λ (v : State). Runs meaning p limits v events others u) same other.2)
runs_same meaning p limits s t u [] (m ∷ marks) others one other = absurd one
runs_same meaning p limits s t u (x ∷ events) [] others one other = absurd one
runs_same meaning p limits s t u [] [] (n ∷ others) one other = absurd other
runs_same meaning p limits s t u (x ∷ events) (m ∷ marks) [] one other = absurd other

wanted_same : (p : Parts) (targets : List ℕ) (xs ys : List Bool) → AreWanted p targets xs → AreWanted p targets ys → xs ≡ ys
wanted_same p targets xs ys one other =
    same_flags xs ys (one.long ∙ sym other.long) (λ e h. (other.each e).1 ((one.each e).0 h)) (λ e h. (one.each e).1 ((other.each e).0 h))

abbrev state_of : List Status → Slots → State
state_of edges slots = record { edges = edges; slots = slots }

-- an image opens with one state
pub opens_same : (p : Parts) (targets : List ℕ) (s t : State) → Opens p targets s → Opens p targets t → s ≡ t
opens_same p targets s t one other =
    let edges : s.edges ≡ t.edges = one.edges ∙ ap (map at_first) (wanted_same p targets one.wanted other.wanted one.are other.are) ∙ sym other.edges in
    let slots : s.slots ≡ t.slots = one.slots ∙ sym other.slots in
    ap (λ (l : List Status). state_of l s.slots) edges ∙ ap (λ (l : Slots). state_of t.edges l) slots

-- events reach one state
pub reached_same : (meaning : Meaning) (p : Parts) (limits : Limits) (targets : List ℕ) (events : List Event) (marks others : List Mark) (s t : State)
    → Reached meaning p limits targets events marks s → Reached meaning p limits targets events others t → s ≡ t
reached_same meaning p limits targets events marks others s t one other =
    let same : other.start ≡ one.start = opens_same p targets other.start one.start other.opens one.opens in
    runs_same meaning p limits one.start s t events marks others one.run (subst (λ (v : State). Runs meaning p limits v events others t) same other.run)

-- and one event more reaches its next state
pub reached_more : (meaning : Meaning) (p : Parts) (limits : Limits) (targets : List ℕ) (events : List Event) (marks : List Mark) (s t : State) (event : Event) (told : Mark)
    → Reached meaning p limits targets events marks s → step meaning p limits s event ≡ Next t told → Reached meaning p limits targets (events ++ event ∷ []) (marks ++ told ∷ []) t
reached_more meaning p limits targets events marks s t event told reached is =
    record { start = reached.start; opens = reached.opens; run = runs_more meaning p limits reached.start s t events marks event told reached.run is }
