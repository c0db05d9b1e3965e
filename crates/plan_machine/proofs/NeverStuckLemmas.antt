-- A state that has not ended can go on or awaits a reply.
use Rattle.std.proofs.Common.{◌≡◌, ◌≢◌, ℕ, zero, suc, ◌+◌, ◌<◌, ◌≤◌, Bool, true, false, not, cond, List, [], ◌∷◌, length, Option, Some, None, refl, sym, ap, ◌∙◌, subst, arith, inl, inr}
use Rattle.std.specs.Prelude.{◌⊎◌, ◌&&◌, ◌||◌, ◌==◌, slice_get, if◌then◌else◌, nat_lt, count_by}
use Rattle.std.specs.List.{list_all}
use Rattle.std.proofs.lemmas.Bool.{cases_Bool, eq-eqb, ltb-false, and_from}
use Rattle.std.proofs.lemmas.Option.{slice_get_within}
use Rattle.std.proofs.lemmas.List.Sums.{sum_by-cons}
use Rattle.plan_image.specs.declared.body.Instr.{Instr}
use Rattle.plan_image.specs.declared.body.Instr.TheVariants as op
use Rattle.plan_image.specs.declared.image.Pool.{Pool}
use Rattle.plan_image.specs.declared.image.Parts.{Parts}
use Rattle.plan_image.specs.Code.{code}
use Rattle.plan_verify.specs.declared.kinds.Shape.{Shape}
use Rattle.plan_verify.specs.Tables.{waits_of, pool_of}
use Rattle.plan_verify.specs.Members.{is_member}
use Rattle.plan_verify.specs.Turn.{Local, begun, Did, Turn, Goes, Sets, Asks, Ends, Fails, Wrong as Errs, Meaning, turn}
use Rattle.plan_verify.specs.WellShaped.{IsWellShaped}
use Rattle.plan_verify.specs.Sound.{IsSafe}
use Rattle.plan_machine.proofs.ListLemmas.{get_inside, when_true, when_false, and_both, or_right}
use Rattle.plan_machine.specs.Limits.{Limits}
use Rattle.plan_machine.specs.TurnLaws.{TurnLaws}
use Rattle.plan_machine.proofs.RankLemmas.{rank_of, wait_below}
use Rattle.plan_machine.specs.declared.event.Event.{Event}
use Rattle.plan_machine.specs.declared.event.Event.TheVariants.{Start, Skip, Stop, Step}
use Rattle.plan_machine.specs.declared.event.Mark.{Mark}
use Rattle.plan_machine.specs.declared.event.Mark.TheVariants as mark
use Rattle.plan_machine.specs.declared.event.Outcome.TheVariants.{Clean, Ran, Failed, Skipped, Stopped, NotWanted}
use Rattle.plan_machine.specs.State.{Status, Unbegun, Active, Over, State, has_succeeded, is_unsuccessful, is_over, is_holder, passes, stands, with_status, has_ended}
use Rattle.plan_machine.specs.Step.{Stepped, Next, stepped, settles, starts, skips, stops, steps, step}
use Rattle.plan_machine.specs.Places.{is_pool, holders_from, allows, has_room, is_spent, is_free, is_take, at_take}
use Rattle.plan_machine.specs.NeverStuck.{is_own, CanGo, Awaits, NeverStuck}
use Rattle.plan_machine.specs.Standing.{IsUnderWay, Stands}
use Rattle.plan_machine.proofs.StandingLemmas.{turn_safe}
use Rattle.plan_machine.proofs.OpensLemmas.{reached_stands}

-- ---- found in lists

-- an edge without an outcome, if there is one
find_open : (l : List Status) → (list_all is_over l ≡ true) ⊎ ((e : ℕ) × (status : Status) × (slice_get l e ≡ Some status) × (is_over status ≡ false))
find_open [] = inl refl
find_open (x ∷ l) =
    elim (cases_Bool (is_over x)) [
      | inr off ↦ inr (0, x, refl, off)
      | inl over ↦ elim (find_open l) [ inl all ↦ inl (and_from _ _ over all) | inr q ↦ inr (suc q.0, q.1, q.2, q.3) ]
    ]

find_counted : (test : Status → Bool) (l : List Status) → 0 < count_by test l → (e : ℕ) × (status : Status) × (slice_get l e ≡ Some status) × (test status ≡ true)
find_counted test [] h = absurd (omega arith)
find_counted test (x ∷ l) h =
    elim (cases_Bool (test x)) [
      | inl is ↦ (0, x, refl, is)
      | inr off ↦
          let more : 0 < cond (test x) 1 0 + count_by test l = subst (λ (n : ℕ). 0 < n) (sum_by-cons (λ y. cond (test y) 1 0) x l) h in
          let less : 0 < cond false 1 0 + count_by test l = subst (λ (b : Bool). 0 < cond b 1 0 + count_by test l) off more in
          let r = find_counted test l (omega (arith, less)) in (suc r.0, r.1, r.2, r.3)
    ]

find_in_pool : (p : Parts) (pool e : ℕ) (l : List Status) → 0 < holders_from p pool e l → (k : ℕ) × (status : Status) × (slice_get l k ≡ Some status) × (is_holder status ≡ true)
find_in_pool p pool e [] h = absurd (omega arith)
find_in_pool p pool e (x ∷ l) h =
    elim (cases_Bool (is_pool pool (pool_of p e) && is_holder x)) [
      | inl both ↦ (0, x, refl, (and_both _ _ both).1)
      | inr off ↦
          let less : 0 < (if false then 1 else 0) + holders_from p pool (e + 1) l = subst (λ (b : Bool). 0 < (if b then 1 else 0) + holders_from p pool (e + 1) l) off h in
          let r = find_in_pool p pool (e + 1) l (omega (arith, less)) in (suc r.0, r.1, r.2, r.3)
    ]

pub is_take_at : (o : Option Instr) → is_take o ≡ true → o ≡ Some op.Take
is_take_at None h = absurd cc
is_take_at (Some op.Take) h = refl
is_take_at (Some i) h = absurd cc

-- an edge at Take holds no job token
pub take_idle : (laws : TurnLaws) (p : Parts) (s : State) (e : ℕ) (l : Local) → IsUnderWay p s e l → at_take p e l ≡ true → l.holding ≡ false
take_idle laws p s e l u take =
    u.typed.holding ∙ (laws.fit p e u.shapes u.all l.place op.Take u.typed.shape (is_take_at (slice_get (code p e) l.place) take) u.typed.here).0

-- one of the waits failed, was skipped or was stopped, one has no outcome, or all succeeded
Wait : State → List ℕ → Type 0
Wait s waits =
    (list_all (stands has_succeeded s) waits ≡ true)
    ⊎ (((w : ℕ) × (is_member w waits ≡ true) × (stands is_unsuccessful s w ≡ true))
    ⊎ ((w : ℕ) × (status : Status) × (is_member w waits ≡ true) × (slice_get s.edges w ≡ Some status) × (is_over status ≡ false)))

look : (s : State) (waits : List ℕ) → ((w : ℕ) → is_member w waits ≡ true → (status : Status) × (slice_get s.edges w ≡ Some status) × (status ≢ Over NotWanted)) → Wait s waits
unfolding Wait
look s [] inside = inl refl
look s (w ∷ waits) inside = let first = inside w (first_in w waits) in here first.0 first.1 first.2 (look s waits (λ v h. inside v (or_right (w == v) (is_member v waits) h)))
  where
    first_in : (w : ℕ) (waits : List ℕ) → is_member w (w ∷ waits) ≡ true
    first_in w waits = ap (λ (b : Bool). b || is_member w waits) (eq-eqb w w refl)

    well_here : (status : Status) → slice_get s.edges w ≡ Some status → has_succeeded status ≡ true → Wait s waits → Wait s (w ∷ waits)
    well_here status is well (inl all) = inl (and_from _ _ (ap (passes has_succeeded) is ∙ well) all)
    well_here status is well (inr (inl q)) = inr (inl (q.0, or_right (w == q.0) (is_member q.0 waits) q.1, q.2))
    well_here status is well (inr (inr q)) = inr (inr (q.0, q.1, or_right (w == q.0) (is_member q.0 waits) q.2, q.3, q.4))

    ill_here : (status : Status) → slice_get s.edges w ≡ Some status → is_unsuccessful status ≡ true → Wait s (w ∷ waits)
    ill_here status is ill = inr (inl (w, first_in w waits, ap (passes is_unsuccessful) is ∙ ill))

    open_here : (status : Status) → slice_get s.edges w ≡ Some status → is_over status ≡ false → Wait s (w ∷ waits)
    open_here status is off = inr (inr (w, status, first_in w waits, is, off))

    here : (status : Status) → slice_get s.edges w ≡ Some status → status ≢ Over NotWanted → Wait s waits → Wait s (w ∷ waits)
    here Unbegun is wanted rest = open_here Unbegun is refl
    here (Active l) is wanted rest = open_here (Active l) is refl
    here (Over Clean) is wanted rest = well_here (Over Clean) is refl rest
    here (Over Ran) is wanted rest = well_here (Over Ran) is refl rest
    here (Over (Failed cause)) is wanted rest = ill_here (Over (Failed cause)) is refl
    here (Over (Skipped v)) is wanted rest = ill_here (Over (Skipped v)) is refl
    here (Over Stopped) is wanted rest = ill_here (Over Stopped) is refl
    here (Over NotWanted) is wanted rest = absurd (wanted refl)

module _ (laws : TurnLaws) (meaning : Meaning) (p : Parts) (shaped : IsWellShaped p) (limits : Limits) (some_jobs : 0 < limits.jobs) (s : State) (sound : Stands p s) where
  abbrev GoesOn : Type 0
  GoesOn = CanGo meaning p limits s ⊎ Awaits s

  goes_by : (event : Event) (after : State) (told : Mark) → is_own event ≡ true → step meaning p limits s event ≡ Next after told → GoesOn
  goes_by event after told own is = inl (record { event = event; own = own; after = after; mark = told; enabled = is })

  pub settles_next : (e : ℕ) (l : Local) (told : Did → Mark) (shapes : List Shape) (t : Turn) → IsSafe p e shapes s.slots l t → (after : State) × (m : Mark) × (settles s e l told t ≡ Next after m)
  settles_next e l told shapes (Goes did m) safe = (_, _, refl)
  settles_next e l told shapes (Sets k v m) safe = (_, _, refl)
  settles_next e l told shapes (Asks q) safe = (_, _, refl)
  settles_next e l told shapes Ends safe = (_, _, refl)
  settles_next e l told shapes (Fails cause) safe = (_, _, refl)
  settles_next e l told shapes (Errs flaw) safe = absurd safe

  step_goes : (e : ℕ) (l : Local) → slice_get s.edges e ≡ Some (Active l) → l.asked ≡ false → (at_take p e l && not (is_free p limits s e)) ≡ false → GoesOn
  unfolding step
  step_goes e l now quiet free =
      let u = sound.active e l now in
      let n = settles_next e l (stepped e) u.shapes (turn p e s.slots l) (turn_safe laws meaning p shaped limits s sound e l u) in
      let is : steps p limits s e (Some (Active l)) ≡ Next n.0 n.1 =
      when_false (λ (o : Stepped). o ≡ Next n.0 n.1) (l.asked || (at_take p e l && not (is_free p limits s e))) _ _ (ap (λ (b : Bool). b || (at_take p e l && not (is_free p limits s e))) quiet ∙ free) n.2 in
      goes_by (Step e) n.0 n.1 refl (ap (λ (o : Option Status). steps p limits s e o) now ∙ is)

  -- an edge that holds a job token isn't at Take, and goes on
  holder_goes : (e : ℕ) (status : Status) → slice_get s.edges e ≡ Some status → is_holder status ≡ true → GoesOn
  holder_goes e Unbegun now holds = absurd cc
  holder_goes e (Over outcome) now holds = absurd cc
  holder_goes e (Active l) now holds =
      elim (cases_Bool l.asked) [
        | inl loud ↦ inr (record { edge = e; local = l; active = now; asked = loud })
        | inr quiet ↦ elim (cases_Bool (at_take p e l)) [
          | inl take ↦ absurd (let clash : true ≡ false = sym holds ∙ take_idle laws p s e l (sound.active e l now) take in cc)
          | inr off ↦ step_goes e l now quiet (ap (λ (b : Bool). b && not (is_free p limits s e)) off)
        ]
      ]

  stop_goes : (e : ℕ) (l : Local) → slice_get s.edges e ≡ Some (Active l) → is_spent limits s ≡ true → at_take p e l ≡ true → GoesOn
  unfolding step
  stop_goes e l now spent take =
      goes_by (Stop e) _ _ refl (ap (λ (o : Option Status). stops p limits s e o) now
      ∙ when_true (λ (o : Stepped). o ≡ Next (with_status s e (Over Stopped)) (mark.Stopped e)) (is_spent limits s && at_take p e l) _ _ (and_from _ _ spent take) refl)

  -- if a pool has no free job token, an edge holds one of it
  full_goes : (o : Option ℕ) → has_room p s o ≡ false → GoesOn
  full_goes None full = absurd cc
  full_goes (Some pool) full = by_pool (slice_get p.pools pool) full
    where
      by_depth : (d holders : ℕ) → ((d == 0) || nat_lt holders d) ≡ false → 0 < holders
      by_depth zero holders h = absurd cc
      by_depth (suc d) holders h = let many : suc d ≤ holders = ltb-false holders (suc d) (second (suc d == 0) (nat_lt holders (suc d)) h) in omega (arith, many)
        where
          second : (a b : Bool) → (a || b) ≡ false → b ≡ false
          second true b h = absurd cc
          second false b h = h

      by_pool : (o : Option Pool) → allows o (holders_from p pool 0 s.edges) ≡ false → GoesOn
      by_pool None h = absurd cc
      by_pool (Some row) h =
          let f = find_in_pool p pool 0 s.edges (by_depth row.depth (holders_from p pool 0 s.edges) h) in
          holder_goes f.0 f.1 f.2 f.3

  -- an edge at Take, when the failure limit isn't reached
  take_goes : (e : ℕ) (l : Local) → slice_get s.edges e ≡ Some (Active l) → l.asked ≡ false → at_take p e l ≡ true → is_spent limits s ≡ false → GoesOn
  take_goes e l now quiet take unspent =
      elim (cases_Bool (has_room p s (pool_of p e))) [
        | inr full ↦ full_goes (pool_of p e) full
        | inl room ↦ elim (cases_Bool (nat_lt (count_by is_holder s.edges) limits.jobs)) [
          | inr busy ↦
              let many : limits.jobs ≤ count_by is_holder s.edges = ltb-false (count_by is_holder s.edges) limits.jobs busy in
              let f = find_counted is_holder s.edges (omega (arith, many, some_jobs)) in
              holder_goes f.0 f.1 f.2 f.3
          | inl idle ↦
              let free : is_free p limits s e ≡ true = and_from _ _ (and_from _ _ room idle) (ap not unspent) in
              step_goes e l now quiet (ap (λ (b : Bool). at_take p e l && not b) free ∙ ap (λ (b : Bool). b && false) take)
        ]
      ]

  active_goes : (e : ℕ) (l : Local) → slice_get s.edges e ≡ Some (Active l) → GoesOn
  active_goes e l now =
      elim (cases_Bool l.asked) [
        | inl loud ↦ inr (record { edge = e; local = l; active = now; asked = loud })
        | inr quiet ↦ elim (cases_Bool (at_take p e l)) [
          | inr off ↦ step_goes e l now quiet (ap (λ (b : Bool). b && not (is_free p limits s e)) off)
          | inl take ↦ elim (cases_Bool (is_spent limits s)) [
            | inl spent ↦ stop_goes e l now spent take
            | inr unspent ↦ take_goes e l now quiet take unspent
          ]
        ]
      ]

  -- an edge without outcome, whose rank is below some number
  edge_goes : (n e : ℕ) (status : Status) → rank_of p e < n → slice_get s.edges e ≡ Some status → is_over status ≡ false → GoesOn
  unfolding step Wait
  edge_goes zero e status lt now off = absurd (omega (arith, lt))
  edge_goes (suc n) e (Over outcome) lt now off = absurd cc
  edge_goes (suc n) e (Active l) lt now off = active_goes e l now
  edge_goes (suc n) e Unbegun lt now off = by_wait (λ w status less at open'. edge_goes n w status less at open') (look s (waits_of p e) inside)
    where
      short : e < length p.edges
      short = omega (arith, slice_get_within s.edges e Unbegun now, sound.long)

      inside : (w : ℕ) → is_member w (waits_of p e) ≡ true → (status : Status) × (slice_get s.edges w ≡ Some status) × (status ≢ Over NotWanted)
      inside w wait =
          let at = get_inside s.edges w (omega (arith, (wait_below laws.in_range p shaped e w short wait).0, sound.long)) in
          (at.0, at.1, λ gone. sound.needed e w now wait (at.1 ∙ ap Some gone))

      by_wait : ((w : ℕ) (status : Status) → rank_of p w < n → slice_get s.edges w ≡ Some status → is_over status ≡ false → GoesOn) → Wait s (waits_of p e) → GoesOn
      by_wait again (inl all) =
          goes_by (Start e) _ _ refl (ap (λ (o : Option Status). starts p s e o) now
          ∙ when_true (λ (o : Stepped). o ≡ Next (with_status s e (Active begun)) (mark.Started e)) (list_all (stands has_succeeded s) (waits_of p e)) _ _ all refl)
      by_wait again (inr (inl q)) =
          goes_by (Skip e q.0) _ _ refl (ap (λ (o : Option Status). skips p s e q.0 o) now
          ∙ when_true (λ (o : Stepped). o ≡ Next (with_status s e (Over (Skipped q.0))) (mark.Skipped e q.0)) (is_member q.0 (waits_of p e) && stands is_unsuccessful s q.0) _ _ (and_from _ _ q.1 q.2) refl)
      by_wait again (inr (inr q)) = again q.0 q.1 (omega (arith, lt, (wait_below laws.in_range p shaped e q.0 short q.2).1)) q.3 q.4

  pub goes : (has_ended s ≡ true) ⊎ GoesOn
  goes = elim (find_open s.edges) [ inl all ↦ inl all | inr q ↦ inr (edge_goes (suc (rank_of p q.0)) q.0 q.1 (omega arith) q.2 q.3) ]

pub never_stuck : TurnLaws → NeverStuck
never_stuck laws meaning p shaped limits some_jobs targets events marks s reached =
    goes laws meaning p shaped limits some_jobs s (reached_stands laws meaning p shaped limits targets events marks s reached)
