-- The number of events in a run is at most the budget plus the number of dependency bytes.
use Rattle.std.proofs.Common.{◌≡◌, ℕ, zero, suc, ◌+◌, ◌-◌, ◌≤◌, Bool, true, false, not, List, [], ◌∷◌, length, map, Option, Some, None, refl, sym, ap, ◌∙◌, subst, arith, add-one, inl, inr}
use Rattle.std.specs.Prelude.{◌&&◌, ◌||◌, slice_get, slice_set}
use Rattle.std.specs.List.{list_all}
use Rattle.std.proofs.lemmas.Bool.{cases_Bool, and_parts}
use Rattle.std.proofs.lemmas.Option.{none-some}
use Rattle.plan_image.specs.declared.body.Instr.{Instr}
use Rattle.plan_image.specs.declared.body.Instr.TheVariants as op
use Rattle.plan_image.specs.declared.image.Parts.{Parts}
use Rattle.plan_image.specs.Code.{code}
use Rattle.plan_verify.specs.Tables.{waits_of, pool_outside}
use Rattle.plan_verify.specs.Members.{is_member}
use Rattle.plan_verify.specs.Turn.{Slots, Local, begun, Did, Moved, Turn, Goes, Sets, Asks, Ends, Fails, Wrong as Errs, Meaning, Reply as Answer, act_at, turn, request_of, question, heard}
use Rattle.plan_verify.specs.WellShaped.{IsWellShaped}
use Rattle.plan_verify.specs.Sound.{asking}
use Rattle.plan_verify.specs.Budget.{edge_budget, budget_of_first, brought, IsFrugal}
use Rattle.plan_verify.specs.Worth.{worth, Pays, TurnsPay}
use Rattle.plan_machine.proofs.ListLemmas.{some_is, when_false, when_either, is_some_of}
use Rattle.plan_machine.specs.Limits.{Limits}
use Rattle.plan_machine.specs.TurnLaws.{TurnLaws}
use Rattle.plan_machine.specs.declared.event.Event.{Event}
use Rattle.plan_machine.specs.declared.event.Event.TheVariants.{Start, Skip, Stop, Step, Reply as Hear}
use Rattle.plan_machine.specs.declared.event.Mark.{Mark}
use Rattle.plan_machine.specs.declared.event.Mark.TheVariants as mark
use Rattle.plan_machine.specs.declared.event.Outcome.TheVariants.{Failed, Skipped, Stopped}
use Rattle.plan_machine.specs.State.{Status, Unbegun, Active, Over, State, has_succeeded, is_unsuccessful, stands, with_status}
use Rattle.plan_machine.specs.Step.{Stepped, Next, Wrong, NotEnabled, stepped, answered, ended, settles, hears_by, starts, skips, stops, steps, hears, answer_of, step}
use Rattle.plan_machine.specs.Places.{is_spent, is_free, at_take}
use Rattle.plan_machine.specs.Runs.{at_first, Runs}
use Rattle.plan_machine.specs.InBudget.{bytes_of, all_bytes, StaysInBudget}
use Rattle.plan_machine.specs.Standing.{IsUnderWay, Stands}
use Rattle.plan_machine.proofs.StandingLemmas.{lent_set, next_stands}
use Rattle.plan_machine.proofs.OpensLemmas.{opens_stand}
use Rattle.plan_machine.proofs.NeverStuckLemmas.{is_take_at}

abbrev one_if : Bool → ℕ
one_if true = 1
one_if false = 0

-- the remaining cost of an edge
abbrev weight : Parts → ℕ → Status → ℕ
weight p e Unbegun = edge_budget p e
weight p e (Active l) = worth p e l - one_if l.asked
weight p e (Over outcome) = 0

-- the remaining cost of these edges, which are those from e on
abbrev weigh : Parts → ℕ → List Status → ℕ
weigh p e [] = 0
weigh p e (status ∷ rest) = weight p e status + weigh p (e + 1) rest

weigh_set : (p : Parts) (e k j : ℕ) (l : List Status) (old new : Status) → j ≡ e + k → slice_get l k ≡ Some old → weigh p e (slice_set l k new) + weight p j old ≡ weigh p e l + weight p j new
weigh_set p e k j [] old new same now = absurd cc
weigh_set p e zero j (x ∷ l) old new same now =
    let here : e ≡ j = omega (arith, same) in
    subst (λ (n : ℕ). weight p e new + weigh p (e + 1) l + weight p n old ≡ weight p e x + weigh p (e + 1) l + weight p n new) here
    (let at = ap (weight p e) (some_is x old now) in omega (arith, at))
weigh_set p e (suc k) j (x ∷ l) old new same now = let r = weigh_set p (e + 1) k j l old new (omega (arith, same)) now in omega (arith, r)

-- the remaining cost of an opening state is at most the image's budget
weigh_first : (p : Parts) (e j : ℕ) (wanted : List Bool) → j ≡ e + length wanted → weigh p e (map at_first wanted) + budget_of_first p e ≤ budget_of_first p j
weigh_first p e j [] same = let here : j ≡ e = omega (arith, same) in omega (arith, ap (budget_of_first p) here)
weigh_first p e j (true ∷ wanted) same = let r = weigh_first p (e + 1) j wanted (omega (arith, same)) in omega (arith, r, ap (budget_of_first p) (add-one e))
weigh_first p e j (false ∷ wanted) same = let r = weigh_first p (e + 1) j wanted (omega (arith, same)) in omega (arith, r, ap (budget_of_first p) (add-one e))

-- a Take asks nothing
take_quiet : (p : Parts) (e : ℕ) (slots : Slots) (l : Local) → slice_get (code p e) l.place ≡ Some op.Take → question p e slots l ≡ None
unfolding turn
take_quiet p e slots l here =
    ap (λ (o : Option Instr). request_of (act_at p e slots l o)) here
    ∙ when_either (λ (t : Turn). request_of t ≡ None) l.holding _ _ (λ h. refl) (λ h. when_either (λ (t : Turn). request_of t ≡ None) (pool_outside p e) _ _ (λ k. refl) (λ k. refl))

module _ (laws : TurnLaws) (meaning : Meaning) (frugal : IsFrugal meaning) (p : Parts) (shaped : IsWellShaped p) (limits : Limits) where
  abbrev Lighter : ℕ → Stepped → Type 0
  Lighter n (Next s told) = weigh p 0 s.edges + 1 ≤ n
  Lighter n (Wrong flaw) = Unit {0}
  Lighter n NotEnabled = Unit {0}

  module _ (s : State) (sound : Stands p s) where
    abbrev W : ℕ
    W = weigh p 0 s.edges

    lighter : (e n : ℕ) (old new : Status) (mid : State) (told : Mark) → slice_get s.edges e ≡ Some old → mid.edges ≡ slice_set s.edges e new → W + weight p e new + 1 ≤ n + weight p e old → Lighter n (Next mid told)
    lighter e n old new mid told now becomes less =
        let same : e ≡ 0 + e = omega arith in
        omega (arith, less, weigh_set p 0 e e s.edges old new same now, ap (weigh p 0) becomes)

    settles_lighter : (e n m : ℕ) (l : Local) (told : Did → Mark) (t : Turn) → slice_get s.edges e ≡ Some (Active l) → Pays p e l m t → W + m ≤ n + weight p e (Active l) → Lighter n (settles s e l told t)
    settles_lighter e n m l told (Goes did k) now pays h = lighter e n (Active l) (Active k) (with_status s e (Active k)) (told did) now refl (omega (arith, pays, h))
    settles_lighter e n m l told (Sets slot v k) now pays h = lighter e n (Active l) (Active k) (record { edges = slice_set s.edges e (Active k); slots = slice_set s.slots slot (Some v) }) (told Moved) now refl (omega (arith, pays, h))
    settles_lighter e n m l told (Asks q) now pays h = lighter e n (Active l) (Active (asking l)) (with_status s e (Active (asking l))) (mark.Asked e) now refl (omega (arith, pays.0, pays.1, h))
    settles_lighter e n m l told Ends now pays h = lighter e n (Active l) (Over (ended l.ran)) (with_status s e (Over (ended l.ran))) (mark.Ended e l.ran) now refl (omega (arith, pays, h))
    settles_lighter e n m l told (Fails cause) now pays h = lighter e n (Active l) (Over (Failed cause)) (with_status s e (Over (Failed cause))) (mark.Failed e cause) now refl (omega (arith, pays, h))
    settles_lighter e n m l told (Errs flaw) now pays h = tt

    starts_lighter : (e : ℕ) (o : Option Status) → slice_get s.edges e ≡ o → Lighter W (starts p s e o)
    starts_lighter e (Some Unbegun) now =
        when_either (Lighter W) (list_all (stands has_succeeded s) (waits_of p e)) _ _
        (λ all. lighter e W Unbegun (Active begun) (with_status s e (Active begun)) (mark.Started e) now refl (omega arith)) (λ h. tt)
    starts_lighter e None now = tt
    starts_lighter e (Some (Active l)) now = tt
    starts_lighter e (Some (Over outcome)) now = tt

    skips_lighter : (e w : ℕ) (o : Option Status) → slice_get s.edges e ≡ o → Lighter W (skips p s e w o)
    skips_lighter e w (Some Unbegun) now =
        when_either (Lighter W) (is_member w (waits_of p e) && stands is_unsuccessful s w) _ _
        (λ h. lighter e W Unbegun (Over (Skipped w)) (with_status s e (Over (Skipped w))) (mark.Skipped e w) now refl (omega arith)) (λ h. tt)
    skips_lighter e w None now = tt
    skips_lighter e w (Some (Active l)) now = tt
    skips_lighter e w (Some (Over outcome)) now = tt

    pays : (e : ℕ) (l : Local) → IsUnderWay p s e l → TurnsPay p e s.slots l
    pays e l u = laws.turns_pay p e shaped u.shapes u.all s.slots l sound.typed (lent_set p s e sound u.waited) u.typed

    take_weight : (e : ℕ) (l : Local) → slice_get s.edges e ≡ Some (Active l) → at_take p e l ≡ true → 1 ≤ weight p e (Active l)
    take_weight e l now take =
        let u = sound.active e l now in
        let some = (pays e l u).some in
        elim (cases_Bool l.asked) [
          | inr quiet ↦ omega (arith, some, ap one_if quiet)
          | inl loud ↦
              let q = is_some_of (question p e s.slots l) (u.typed.awaits loud) in
              absurd (none-some q.0 (sym (take_quiet p e s.slots l (is_take_at (slice_get (code p e) l.place) take)) ∙ q.1))
        ]

    stops_lighter : (e : ℕ) (o : Option Status) → slice_get s.edges e ≡ o → Lighter W (stops p limits s e o)
    stops_lighter e (Some Unbegun) now =
        when_either (Lighter W) (is_spent limits s) _ _ (λ h. lighter e W Unbegun (Over Stopped) (with_status s e (Over Stopped)) (mark.Stopped e) now refl (omega arith)) (λ h. tt)
    stops_lighter e (Some (Active l)) now =
        when_either (Lighter W) (is_spent limits s && at_take p e l) _ _
        (λ h. lighter e W (Active l) (Over Stopped) (with_status s e (Over Stopped)) (mark.Stopped e) now refl (omega (arith, take_weight e l now (and_parts _ _ h).1))) (λ h. tt)
    stops_lighter e None now = tt
    stops_lighter e (Some (Over outcome)) now = tt

    first_false : (a b : Bool) → (a || b) ≡ false → a ≡ false
    first_false true b h = absurd cc
    first_false false b h = refl

    steps_lighter : (e : ℕ) (o : Option Status) → slice_get s.edges e ≡ o → Lighter W (steps p limits s e o)
    steps_lighter e (Some (Active l)) now =
        let u = sound.active e l now in
        when_either (Lighter W) (l.asked || (at_take p e l && not (is_free p limits s e))) _ _ (λ h. tt)
        (λ h. settles_lighter e W (worth p e l) l (stepped e) (turn p e s.slots l) now (pays e l u).step (let quiet : l.asked ≡ false = first_false _ _ h in omega (arith, ap one_if quiet)))
    steps_lighter e None now = tt
    steps_lighter e (Some Unbegun) now = tt
    steps_lighter e (Some (Over outcome)) now = tt

    heard_asked : (e : ℕ) (l : Local) (r : Answer) (t : Turn) → heard meaning p e l r ≡ Some t → l.asked ≡ true
    unfolding heard
    heard_asked e l r t h =
        elim (cases_Bool l.asked) [
          | inl loud ↦ loud
          | inr quiet ↦ absurd (none-some t (sym (when_false (λ (o : Option Turn). o ≡ None) l.asked _ _ quiet refl) ∙ h))
        ]

    hears_lighter : (e : ℕ) (r : Answer) (o : Option Status) → slice_get s.edges e ≡ o → Lighter (W + brought r) (hears meaning p s e r o)
    hears_lighter e r (Some (Active l)) now = by (sound.active e l now) (heard meaning p e l r) refl
      where
        by : (u : IsUnderWay p s e l) (o : Option Turn) → heard meaning p e l r ≡ o → Lighter (W + brought r) (hears_by s e l o)
        by u None at = tt
        by u (Some t) at =
            let loud = heard_asked e l r t at in
            let q = is_some_of (question p e s.slots l) (u.typed.awaits loud) in
            let paid = (pays e l u).reply meaning frugal q.0 r t q.1 at in
            let some = (pays e l u).some in
            settles_lighter e (W + brought r) (worth p e l - 1 + brought r) l (answered e) t now paid (omega (arith, some, ap one_if loud))
    hears_lighter e r None now = tt
    hears_lighter e r (Some Unbegun) now = tt
    hears_lighter e r (Some (Over outcome)) now = tt

    and_none : (x : Stepped) → Lighter W x → Lighter (W + 0) x
    and_none (Next mid told) h = omega (arith, h)
    and_none (Wrong flaw) h = tt
    and_none NotEnabled h = tt

    step_lighter : (event : Event) → Lighter (W + bytes_of event) (step meaning p limits s event)
    unfolding step
    step_lighter (Start e) = and_none (starts p s e (slice_get s.edges e)) (starts_lighter e (slice_get s.edges e) refl)
    step_lighter (Skip e w) = and_none (skips p s e w (slice_get s.edges e)) (skips_lighter e w (slice_get s.edges e) refl)
    step_lighter (Stop e) = and_none (stops p limits s e (slice_get s.edges e)) (stops_lighter e (slice_get s.edges e) refl)
    step_lighter (Step e) = and_none (steps p limits s e (slice_get s.edges e)) (steps_lighter e (slice_get s.edges e) refl)
    step_lighter (Hear e r) = hears_lighter e (answer_of r) (slice_get s.edges e) refl

  runs_pay : (s : State) (events : List Event) (marks : List Mark) (end : State) → Stands p s → Runs meaning p limits s events marks end → length events + weigh p 0 end.edges ≤ weigh p 0 s.edges + all_bytes events
  runs_pay s [] [] end sound run = omega (arith, ap (λ (x : State). weigh p 0 x.edges) run)
  runs_pay s (event ∷ events) (told ∷ marks) end sound run =
      let rest = runs_pay run.0 events marks end (next_stands laws meaning p shaped limits s run.0 event told sound run.1) run.2 in
      let here : weigh p 0 run.0.edges + 1 ≤ weigh p 0 s.edges + bytes_of event = subst (Lighter (weigh p 0 s.edges + bytes_of event)) run.1 (step_lighter s sound event) in
      omega (arith, rest, here)
  runs_pay s [] (told ∷ marks) end sound run = absurd run
  runs_pay s (event ∷ events) [] end sound run = absurd run

pub stays_in_budget : TurnLaws → StaysInBudget
stays_in_budget laws meaning frugal p shaped limits targets events marks s reached =
    let run = runs_pay laws meaning frugal p shaped limits reached.start events marks s (opens_stand p targets reached.start reached.opens) reached.run in
    let first = weigh_first p 0 (length p.edges) reached.opens.wanted (let long = reached.opens.are.long in omega (arith, long)) in
    omega (arith, run, first, ap (weigh p 0) reached.opens.edges)
