-- The marks of every run are orderly.
use Rattle.std.proofs.Common.{◌≡◌, ◌≢◌, ℕ, zero, suc, ◌+◌, ◌<◌, ◌≤◌, Bool, true, false, not, cond, eqb, List, [], ◌∷◌, ◌++◌, length, take, map, Option, Some, None, refl, sym, ap, ◌∙◌, subst, arith, inl, inr}
use Rattle.std.specs.Prelude.{◌⊎◌, ◌&&◌, ◌||◌, ◌==◌, slice_get, slice_set, if◌then◌else◌, nat_lt, count_by, IfSome}
use Rattle.std.specs.List.{list_all}
use Rattle.std.proofs.lemmas.Bool.{cases_Bool, cases_eq, eq-eqb, eqb-true, ltb-true, and_parts}
use Rattle.std.proofs.lemmas.Option.{slice_get_within, get_or_from_slice_get}
use Rattle.std.proofs.lemmas.List.Sums.{sum_by-cons, sum_by-set}
use Rattle.plan_image.specs.declared.image.Pool.{Pool}
use Rattle.plan_image.specs.declared.image.Edge.{Edge}
use Rattle.plan_image.specs.declared.image.Parts.{Parts}
use Rattle.plan_verify.specs.Tables.{waits_of, pool_of}
use Rattle.plan_verify.specs.Members.{is_member}
use Rattle.plan_verify.specs.Turn.{Local, begun, Moved, Took, Released, Turn, Goes, Sets, Asks, Ends, Fails, Wrong as Errs, Meaning, Reply as Answer, turn, heard}
use Rattle.plan_verify.specs.WellShaped.{IsWellShaped}
use Rattle.plan_verify.specs.Sound.{IsSafe, asking}
use Rattle.plan_machine.proofs.ListLemmas.{some_is, get_same, get_other, set_length, when_true, when_false, when_either, or_cases}
use Rattle.plan_machine.specs.Limits.{Limits}
use Rattle.plan_machine.specs.TurnLaws.{TurnLaws}
use Rattle.plan_machine.specs.declared.event.Event.{Event}
use Rattle.plan_machine.specs.declared.event.Event.TheVariants.{Start, Skip, Stop, Step, Reply as Hear}
use Rattle.plan_machine.specs.declared.event.Mark.{Mark}
use Rattle.plan_machine.specs.declared.event.Mark.TheVariants as mark
use Rattle.plan_machine.specs.declared.event.Outcome.{Outcome}
use Rattle.plan_machine.specs.declared.event.Outcome.TheVariants.{Failed, Skipped, Stopped}
use Rattle.plan_machine.specs.State.{Status, Unbegun, Active, Over, State, has_succeeded, is_unsuccessful, is_holder, passes, stands, with_status}
use Rattle.plan_machine.specs.Step.{Stepped, Next, Wrong, NotEnabled, stepped, answered, ended, settles, hears_by, starts, skips, stops, steps, hears, answer_of, step}
use Rattle.plan_machine.specs.Places.{is_pool, holders_from, allows, has_room, is_spent, is_free, at_take}
use Rattle.plan_machine.specs.Runs.{at_first, Opens, Runs}
use Rattle.plan_machine.specs.Orderly.{holds_then, holds_after, holds_by, holding, holding_of, IsOrderly, MarksAreOrderly}
use Rattle.plan_machine.specs.Standing.{IsUnderWay, Stands}
use Rattle.plan_machine.proofs.ListLemmas.{get_cases, all_member}
use Rattle.plan_machine.proofs.StandingLemmas.{stands_now, stands_at, turn_safe, next_stands}
use Rattle.plan_machine.proofs.OpensLemmas.{none_well, opens_stand}
use Rattle.plan_machine.proofs.NeverStuckLemmas.{take_idle}
use Rattle.plan_machine.proofs.HoldingLemmas.{Noted, KeepsPlace, turn_noted, heard_kept}

no_clash : {A : Type 0} (b : Bool) → b ≡ false → b ≡ true → A
no_clash true h k = absurd cc
no_clash false h k = absurd cc

ne_eqb : (a b : ℕ) → (a ≡ b → ⊥) → eqb a b ≡ false
ne_eqb a b ne = elim (cases_Bool (eqb a b)) [ inl same ↦ absurd (ne (eqb-true a b same)) | inr other ↦ other ]

-- the effect of an enabled event: the status of one edge changes, and the mark says how
pub record Alters (p : Parts) (limits : Limits) (s mid : State) (told : Mark) : Type 0 where
  pub e : ℕ
  pub old : Status
  pub new : Status
  pub now : slice_get s.edges e ≡ Some old
  pub becomes : mid.edges ≡ slice_set s.edges e new
  pub held : is_holder new ≡ holds_then e (is_holder old) told
  pub others : (f : ℕ) → (f ≡ e → ⊥) → (x : Bool) → holds_then f x told ≡ x
  pub started : (f : ℕ) → told ≡ mark.Started f → (f ≡ e) × (old ≡ Unbegun) × ((w : ℕ) → is_member w (waits_of p e) ≡ true → stands has_succeeded s w ≡ true)
  pub not_unbegun : new ≡ Unbegun → ⊥
  pub unwell : has_succeeded old ≡ false
  pub ended_by : has_succeeded new ≡ true → (ran : Bool) × (told ≡ mark.Ended e ran)
  pub room : is_holder old ≡ false → is_holder new ≡ true → is_free p limits s e ≡ true

module _ (laws : TurnLaws) (meaning : Meaning) (p : Parts) (shaped : IsWellShaped p) (limits : Limits) (s : State) (sound : Stands p s) where
  abbrev pub Altering : Stepped → Type 0
  Altering (Next mid told) = Alters p limits s mid told
  Altering (Wrong flaw) = Unit {0}
  Altering NotEnabled = Unit {0}

  -- it doesn't change whether a job token is held
  calm : (e : ℕ) (old new : Status) (mid : State) (told : Mark) → slice_get s.edges e ≡ Some old → mid.edges ≡ slice_set s.edges e new → is_holder new ≡ is_holder old → ((f : ℕ) (x : Bool) → holds_then f x told ≡ x)
      → ((f : ℕ) → told ≢ mark.Started f) → new ≢ Unbegun → has_succeeded old ≡ false → (has_succeeded new ≡ true → (ran : Bool) × (told ≡ mark.Ended e ran)) → Alters p limits s mid told
  calm e old new mid told now becomes same still none not_unbegun unwell ended_by = record {
    e = e;
    old = old;
    new = new;
    now = now;
    becomes = becomes;
    held = same ∙ sym (still e (is_holder old));
    others = λ f ne x. still f x;
    started = λ f h. absurd (none f h);
    not_unbegun = not_unbegun;
    unwell = unwell;
    ended_by = ended_by;
    room = λ h k. absurd (let clash : true ≡ false = sym k ∙ same ∙ h in cc);
  }

  over_alters : (e : ℕ) (old : Status) (outcome : Outcome) (told : Mark) → slice_get s.edges e ≡ Some old → is_holder old ≡ false → has_succeeded old ≡ false → has_succeeded (Over outcome) ≡ false
      → ((f : ℕ) (x : Bool) → holds_then f x told ≡ x) → ((f : ℕ) → told ≢ mark.Started f) → Altering (Next (with_status s e (Over outcome)) told)
  over_alters e old outcome told now idle unwell ill still none =
      calm e old (Over outcome) (with_status s e (Over outcome)) told now refl (sym idle) still none (λ h. absurd cc) unwell (λ h. no_clash (has_succeeded (Over outcome)) ill h)

  failed_alters : (e : ℕ) (l : Local) (cause : _) → slice_get s.edges e ≡ Some (Active l) → Altering (Next (with_status s e (Over (Failed cause))) (mark.Failed e cause))
  failed_alters e l cause now = record {
    e = e;
    old = Active l;
    new = Over (Failed cause);
    now = now;
    becomes = refl;
    held = sym (when_true (λ (x : Bool). x ≡ false) (e == e) _ _ (eq-eqb e e refl) refl);
    others = λ f ne x. when_false (λ (y : Bool). y ≡ x) (e == f) _ _ (ne_eqb e f (λ h. ne (sym h))) refl;
    started = λ f h. absurd cc;
    not_unbegun = λ h. absurd cc;
    unwell = refl;
    ended_by = λ h. absurd cc;
    room = λ h k. absurd cc;
  }

  ended_alters : (e : ℕ) (l : Local) → slice_get s.edges e ≡ Some (Active l) → l.holding ≡ false → Altering (Next (with_status s e (Over (ended l.ran))) (mark.Ended e l.ran))
  ended_alters e l now idle =
      calm e (Active l) (Over (ended l.ran)) (with_status s e (Over (ended l.ran))) (mark.Ended e l.ran) now refl (sym idle) (λ f x. refl) (λ f h. absurd cc) (λ h. absurd cc) refl (λ h. (l.ran, refl))

  steps_on : (e : ℕ) (l : Local) (t : Turn) → slice_get s.edges e ≡ Some (Active l) → (u : IsUnderWay p s e l) → IsSafe p e u.shapes s.slots l t → Noted p e l t → (at_take p e l ≡ true → is_free p limits s e ≡ true) → Altering (settles s e l (stepped e) t)
  steps_on e l (Goes Moved m) now u safe noted free = calm e (Active l) (Active m) (with_status s e (Active m)) (mark.Moved e) now refl noted (λ f x. refl) (λ f h. absurd cc) (λ h. absurd cc) refl (λ h. absurd cc)
  steps_on e l (Goes Took m) now u safe noted free = record {
    e = e;
    old = Active l;
    new = Active m;
    now = now;
    becomes = refl;
    held = noted.0 ∙ sym (when_true (λ (x : Bool). x ≡ true) (e == e) _ _ (eq-eqb e e refl) refl);
    others = λ f ne x. when_false (λ (y : Bool). y ≡ x) (e == f) _ _ (ne_eqb e f (λ h. ne (sym h))) refl;
    started = λ f h. absurd cc;
    not_unbegun = λ h. absurd cc;
    unwell = refl;
    ended_by = λ h. absurd cc;
    room = λ h k. free noted.1;
  }
  steps_on e l (Goes Released m) now u safe noted free = record {
    e = e;
    old = Active l;
    new = Active m;
    now = now;
    becomes = refl;
    held = noted ∙ sym (when_true (λ (x : Bool). x ≡ false) (e == e) _ _ (eq-eqb e e refl) refl);
    others = λ f ne x. when_false (λ (y : Bool). y ≡ x) (e == f) _ _ (ne_eqb e f (λ h. ne (sym h))) refl;
    started = λ f h. absurd cc;
    not_unbegun = λ h. absurd cc;
    unwell = refl;
    ended_by = λ h. absurd cc;
    room = λ h k. absurd (let clash : true ≡ false = sym k ∙ noted in cc);
  }
  steps_on e l (Sets k v m) now u safe noted free = calm e (Active l) (Active m) (record { edges = slice_set s.edges e (Active m); slots = slice_set s.slots k (Some v) }) (mark.Moved e) now refl noted (λ f x. refl) (λ f h. absurd cc) (λ h. absurd cc) refl (λ h. absurd cc)
  steps_on e l (Asks q) now u safe noted free = calm e (Active l) (Active (asking l)) (with_status s e (Active (asking l))) (mark.Asked e) now refl refl (λ f x. refl) (λ f h. absurd cc) (λ h. absurd cc) refl (λ h. absurd cc)
  steps_on e l Ends now u safe noted free = ended_alters e l now safe.1
  steps_on e l (Fails cause) now u safe noted free = failed_alters e l cause now
  steps_on e l (Errs flaw) now u safe noted free = tt

  hears_on : (e : ℕ) (l : Local) (t : Turn) → slice_get s.edges e ≡ Some (Active l) → (u : IsUnderWay p s e l) → IsSafe p e u.shapes s.slots l t → KeepsPlace l t → Altering (settles s e l (answered e) t)
  hears_on e l (Goes did m) now u safe kept = calm e (Active l) (Active m) (with_status s e (Active m)) (mark.Answered e) now refl kept (λ f x. refl) (λ f h. absurd cc) (λ h. absurd cc) refl (λ h. absurd cc)
  hears_on e l (Sets k v m) now u safe kept = calm e (Active l) (Active m) (record { edges = slice_set s.edges e (Active m); slots = slice_set s.slots k (Some v) }) (mark.Answered e) now refl kept (λ f x. refl) (λ f h. absurd cc) (λ h. absurd cc) refl (λ h. absurd cc)
  hears_on e l (Asks q) now u safe kept = calm e (Active l) (Active (asking l)) (with_status s e (Active (asking l))) (mark.Asked e) now refl refl (λ f x. refl) (λ f h. absurd cc) (λ h. absurd cc) refl (λ h. absurd cc)
  hears_on e l Ends now u safe kept = ended_alters e l now safe.1
  hears_on e l (Fails cause) now u safe kept = failed_alters e l cause now
  hears_on e l (Errs flaw) now u safe kept = tt

  starts_alters : (e : ℕ) (o : Option Status) → slice_get s.edges e ≡ o → Altering (starts p s e o)
  starts_alters e (Some Unbegun) now =
      when_either Altering (list_all (stands has_succeeded s) (waits_of p e)) _ _
      (λ all. record {
        e = e;
        old = Unbegun;
        new = Active begun;
        now = now;
        becomes = refl;
        held = refl;
        others = λ f ne x. refl;
        started = λ f h. (let same : e ≡ f = cc in (sym same, refl, λ w wait. all_member (stands has_succeeded s) (waits_of p e) w all wait));
        not_unbegun = λ h. absurd cc;
        unwell = refl;
        ended_by = λ h. absurd cc;
        room = λ h k. absurd cc;
      })
      (λ h. tt)
  starts_alters e None now = tt
  starts_alters e (Some (Active l)) now = tt
  starts_alters e (Some (Over outcome)) now = tt

  skips_alters : (e w : ℕ) (o : Option Status) → slice_get s.edges e ≡ o → Altering (skips p s e w o)
  skips_alters e w (Some Unbegun) now =
      when_either Altering (is_member w (waits_of p e) && stands is_unsuccessful s w) _ _
      (λ h. over_alters e Unbegun (Skipped w) (mark.Skipped e w) now refl refl refl (λ f x. refl) (λ f k. absurd cc)) (λ h. tt)
  skips_alters e w None now = tt
  skips_alters e w (Some (Active l)) now = tt
  skips_alters e w (Some (Over outcome)) now = tt

  stops_alters : (e : ℕ) (o : Option Status) → slice_get s.edges e ≡ o → Altering (stops p limits s e o)
  stops_alters e (Some Unbegun) now =
      when_either Altering (is_spent limits s) _ _ (λ h. over_alters e Unbegun Stopped (mark.Stopped e) now refl refl refl (λ f x. refl) (λ f k. absurd cc)) (λ h. tt)
  stops_alters e (Some (Active l)) now =
      when_either Altering (is_spent limits s && at_take p e l) _ _
      (λ h. over_alters e (Active l) Stopped (mark.Stopped e) now (take_idle laws p s e l (sound.active e l now) (and_parts _ _ h).1) refl refl (λ f x. refl) (λ f k. absurd cc)) (λ h. tt)
  stops_alters e None now = tt
  stops_alters e (Some (Over outcome)) now = tt

  held_free : (a b c : Bool) → (a || (b && not c)) ≡ false → b ≡ true → c ≡ true
  held_free false true true h k = refl
  held_free false true false h k = absurd cc
  held_free a false c h k = absurd cc
  held_free true b c h k = absurd cc

  steps_alters : (e : ℕ) (o : Option Status) → slice_get s.edges e ≡ o → Altering (steps p limits s e o)
  steps_alters e (Some (Active l)) now =
      let u = sound.active e l now in
      when_either Altering (l.asked || (at_take p e l && not (is_free p limits s e))) _ _ (λ h. tt)
      (λ h. steps_on e l (turn p e s.slots l) now u (turn_safe laws meaning p shaped limits s sound e l u) (turn_noted p e s.slots l) (held_free l.asked (at_take p e l) (is_free p limits s e) h))
  steps_alters e None now = tt
  steps_alters e (Some Unbegun) now = tt
  steps_alters e (Some (Over outcome)) now = tt

  hears_alters : (e : ℕ) (r : Answer) (o : Option Status) → slice_get s.edges e ≡ o → Altering (hears meaning p s e r o)
  hears_alters e r (Some (Active l)) now =
      let u = sound.active e l now in
      by u (heard meaning p e l r) (laws.replies_safe p e u.shapes u.all s.slots l meaning r u.typed) (heard_kept meaning l p e r)
    where
      by : (u : IsUnderWay p s e l) (o : Option Turn) → IfSome o (IsSafe p e u.shapes s.slots l) → IfSome o (KeepsPlace l) → Altering (hears_by s e l o)
      by u None h k = tt
      by u (Some t) h k = hears_on e l t now u h k
  hears_alters e r None now = tt
  hears_alters e r (Some Unbegun) now = tt
  hears_alters e r (Some (Over outcome)) now = tt

  step_alters : (event : Event) → Altering (step meaning p limits s event)
  unfolding step
  step_alters (Start e) = starts_alters e (slice_get s.edges e) refl
  step_alters (Skip e w) = skips_alters e w (slice_get s.edges e) refl
  step_alters (Stop e) = stops_alters e (slice_get s.edges e) refl
  step_alters (Step e) = steps_alters e (slice_get s.edges e) refl
  step_alters (Hear e r) = hears_alters e (answer_of r) (slice_get s.edges e) refl

  pub alters : (event : Event) (mid : State) (told : Mark) → step meaning p limits s event ≡ Next mid told → Alters p limits s mid told
  alters event mid told is = subst Altering is (step_alters event)

-- ---- lists that grow at their end

pub get_front : {A : Type 0} (xs ys : List A) (k : ℕ) (x : A) → slice_get xs k ≡ Some x → slice_get (xs ++ ys) k ≡ Some x
get_front [] ys k x h = absurd cc
get_front (z ∷ xs) ys zero x h = h
get_front (z ∷ xs) ys (suc k) x h = get_front xs ys k x h

get_end : {A : Type 0} (xs : List A) (y : A) → slice_get (xs ++ y ∷ []) (length xs) ≡ Some y
get_end [] y = refl
get_end (z ∷ xs) y = get_end xs y

get_push : {A : Type 0} (xs : List A) (y z : A) (n : ℕ) → slice_get (xs ++ y ∷ []) n ≡ Some z → (slice_get xs n ≡ Some z) ⊎ ((n ≡ length xs) × (y ≡ z))
get_push [] y z zero h = inr (refl, some_is y z h)
get_push [] y z (suc n) h = absurd cc
get_push (x ∷ xs) y z zero h = inl h
get_push (x ∷ xs) y z (suc n) h = elim (get_push xs y z n h) [ inl q ↦ inl q | inr q ↦ inr (ap suc q.0, q.1) ]

take_push : {A : Type 0} (xs : List A) (y : A) (n : ℕ) → (take n (xs ++ y ∷ []) ≡ take n xs) ⊎ (take n (xs ++ y ∷ []) ≡ xs ++ y ∷ [])
take_push [] y zero = inl refl
take_push [] y (suc zero) = inr refl
take_push [] y (suc (suc n)) = inr refl
take_push (x ∷ xs) y zero = inl refl
take_push {A} (x ∷ xs) y (suc n) = elim (take_push xs y n) [ inl q ↦ inl (ap (λ (l : List A). x ∷ l) q) | inr q ↦ inr (ap (λ (l : List A). x ∷ l) q) ]

take_all : {A : Type 0} (xs : List A) → take (length xs) xs ≡ xs
take_all [] = refl
take_all {A} (x ∷ xs) = ap (λ (l : List A). x ∷ l) (take_all xs)

append_nil : {A : Type 0} (xs : List A) → xs ++ [] ≡ xs
append_nil [] = refl
append_nil {A} (x ∷ xs) = ap (λ (l : List A). x ∷ l) (append_nil xs)

append_more : {A : Type 0} (xs : List A) (y : A) (ys : List A) → (xs ++ y ∷ []) ++ ys ≡ xs ++ (y ∷ ys)
append_more [] y ys = refl
append_more {A} (x ∷ xs) y ys = ap (λ (l : List A). x ∷ l) (append_more xs y ys)

length_push : {A : Type 0} (xs : List A) (y : A) → length (xs ++ y ∷ []) ≡ length xs + 1
length_push [] y = refl
length_push (x ∷ xs) y = let r = length_push xs y in omega (arith, r)

holds_push : (e : ℕ) (held : Bool) (marks : List Mark) (told : Mark) → holds_after e held (marks ++ told ∷ []) ≡ holds_then e (holds_after e held marks) told
holds_push e held [] told = refl
holds_push e held (m ∷ marks) told = holds_push e (holds_then e held m) marks told

-- ---- counts

abbrev bit01 : Bool → ℕ
bit01 b = cond b 1 0

abbrev bit : Bool → ℕ
bit b = if b then 1 else 0

pub holders_set : (p : Parts) (pool e k j : ℕ) (l : List Status) (old new : Status) → j ≡ e + k → slice_get l k ≡ Some old
    → holders_from p pool e (slice_set l k new) + bit (is_pool pool (pool_of p j) && is_holder old) ≡ holders_from p pool e l + bit (is_pool pool (pool_of p j) && is_holder new)
holders_set p pool e k j [] old new same now = absurd cc
holders_set p pool e zero j (x ∷ l) old new same now =
    let here : e ≡ j = omega (arith, same) in
    subst (λ (n : ℕ). bit (is_pool pool (pool_of p e) && is_holder new) + holders_from p pool (e + 1) l + bit (is_pool pool (pool_of p n) && is_holder old) ≡ bit (is_pool pool (pool_of p e) && is_holder x) + holders_from p pool (e + 1) l + bit (is_pool pool (pool_of p n) && is_holder new)) here
    (let at = ap (λ (st : Status). bit (is_pool pool (pool_of p e) && is_holder st)) (some_is x old now) in omega (arith, at))
holders_set p pool e (suc k) j (x ∷ l) old new same now =
    let r = holders_set p pool (e + 1) k j l old new (omega (arith, same)) now in omega (arith, r)

pub count_set : (test : Status → Bool) (l : List Status) (e : ℕ) (old new : Status) → slice_get l e ≡ Some old → count_by test (slice_set l e new) + bit01 (test old) ≡ count_by test l + bit01 (test new)
count_set test l e old new now =
    let r = sum_by-set (λ s. cond (test s) 1 0) l e new old (slice_get_within l e old now) in
    subst (λ s. count_by test (slice_set l e new) + bit01 (test s) ≡ count_by test l + bit01 (test new)) (get_or_from_slice_get l e old old now) r

holding_is : (marks : List Mark) (e : ℕ) (edges : List Edge) (l : List Status) → length l ≡ length edges → ((i j : ℕ) (s : Status) → j ≡ e + i → slice_get l i ≡ Some s → holds_by marks j ≡ is_holder s) → holding marks e edges ≡ count_by is_holder l
holding_is marks e [] [] len h = refl
holding_is marks e [] (s ∷ l) len h = absurd (omega (arith, len))
holding_is marks e (x ∷ edges) [] len h = absurd (omega (arith, len))
holding_is marks e (x ∷ edges) (s ∷ l) len h =
    let here : holds_by marks e ≡ is_holder s = h 0 e s (omega arith) refl in
    let rest = holding_is marks (e + 1) edges l (omega (arith, len)) (λ i j t is at. h (suc i) j t (omega (arith, is)) at) in
    rw (here, rest) (sym (sum_by-cons (λ t. cond (is_holder t) 1 0) s l))

holding_of_is : (p : Parts) (pool : ℕ) (marks : List Mark) (e : ℕ) (edges : List Edge) (l : List Status) → length l ≡ length edges → ((i j : ℕ) (s : Status) → j ≡ e + i → slice_get l i ≡ Some s → holds_by marks j ≡ is_holder s) → holding_of p pool marks e edges ≡ holders_from p pool e l
holding_of_is p pool marks e [] [] len h = refl
holding_of_is p pool marks e [] (s ∷ l) len h = absurd (omega (arith, len))
holding_of_is p pool marks e (x ∷ edges) [] len h = absurd (omega (arith, len))
holding_of_is p pool marks e (x ∷ edges) (s ∷ l) len h =
    let here : holds_by marks e ≡ is_holder s = h 0 e s (omega arith) refl in
    let rest = holding_of_is p pool marks (e + 1) edges l (omega (arith, len)) (λ i j t is at. h (suc i) j t (omega (arith, is)) at) in
    rw (here, rest) refl

is_pool_is : (pool : ℕ) (o : Option ℕ) → is_pool pool o ≡ true → o ≡ Some pool
is_pool_is pool None h = absurd cc
is_pool_is pool (Some q) h = ap Some (eqb-true q pool h)

depth_room : (depth n : ℕ) → 0 < depth → ((depth == 0) || nat_lt n depth) ≡ true → n < depth
depth_room zero n some h = absurd (omega (arith, some))
depth_room (suc d) n some h = elim (or_cases _ _ h) [ inl z ↦ absurd (let bad = eqb-true (suc d) 0 z in omega (arith, bad)) | inr lt ↦ ltb-true n (suc d) lt ]

-- ---- the marks so far, and the state

pub record Linked (p : Parts) (limits : Limits) (marks : List Mark) (s : State) : Type 0 where
  pub held : (e : ℕ) → holds_by marks e ≡ stands is_holder s e
  pub unbegun : (e n : ℕ) → slice_get s.edges e ≡ Some Unbegun → slice_get marks n ≡ Some (mark.Started e) → ⊥
  pub well : (w : ℕ) → stands has_succeeded s w ≡ true → (k : ℕ) × (ran : Bool) × (slice_get marks k ≡ Some (mark.Ended w ran))
  pub orderly : IsOrderly p limits marks

module _ (p : Parts) (limits : Limits) (s mid : State) (marks : List Mark) (told : Mark) (sound : Stands p s) (linked : Linked p limits marks s) (x : Alters p limits s mid told) where
  abbrev all : List Mark
  all = marks ++ told ∷ []

  long_mid : length mid.edges ≡ length p.edges
  long_mid = ap length x.becomes ∙ set_length s.edges x.e x.new ∙ sound.long

  at_mid : (f : ℕ) → (x.e ≡ f → ⊥) → slice_get mid.edges f ≡ slice_get s.edges f
  at_mid f ne = ap (λ (l : List Status). slice_get l f) x.becomes ∙ get_other s.edges x.e f x.new ne

  at_e : slice_get mid.edges x.e ≡ Some x.new
  at_e = ap (λ (l : List Status). slice_get l x.e) x.becomes ∙ get_same s.edges x.e x.new (slice_get_within s.edges x.e x.old x.now)

  status_at : (f : ℕ) (st : Status) → slice_get mid.edges f ≡ Some st → ((x.e ≡ f) × (x.new ≡ st)) ⊎ ((x.e ≡ f → ⊥) × (slice_get s.edges f ≡ Some st))
  status_at f st h = get_cases s.edges x.e f x.new st (ap (λ (l : List Status). slice_get l f) (sym x.becomes) ∙ h)

  held_mid : (f : ℕ) → holds_by all f ≡ stands is_holder mid f
  held_mid f = elim (cases_eq x.e f) [
    | inl same ↦ subst (λ (g : ℕ). holds_by all g ≡ stands is_holder mid g) same
        (holds_push x.e false marks told ∙ ap (λ (b : Bool). holds_then x.e b told) (linked.held x.e ∙ ap (passes is_holder) x.now) ∙ sym x.held ∙ sym (ap (passes is_holder) at_e))
    | inr other ↦ holds_push f false marks told ∙ x.others f (λ h. other (sym h)) (holds_by marks f) ∙ linked.held f ∙ sym (ap (passes is_holder) (at_mid f other))
  ]

  unbegun_mid : (f n : ℕ) → slice_get mid.edges f ≡ Some Unbegun → slice_get all n ≡ Some (mark.Started f) → ⊥
  unbegun_mid f n h at = elim (status_at f Unbegun h) [
    | inl q ↦ x.not_unbegun q.1
    | inr q ↦ elim (get_push marks told (mark.Started f) n at) [
      | inl before ↦ linked.unbegun f n q.1 before
      | inr last ↦ q.0 (sym (x.started f last.1).0)
    ]
  ]

  well_mid : (w : ℕ) → stands has_succeeded mid w ≡ true → (k : ℕ) × (ran : Bool) × (slice_get all k ≡ Some (mark.Ended w ran))
  well_mid w well =
      let h = stands_at has_succeeded mid w well in
      elim (status_at w h.0 h.1) [
        | inl q ↦
            let r = x.ended_by (ap has_succeeded q.1 ∙ h.2) in
            (length marks, r.0, get_end marks told ∙ ap Some (r.1 ∙ ap (λ (g : ℕ). mark.Ended g r.0) q.0))
        | inr q ↦
            let r = linked.well w (stands_now has_succeeded s w h.0 q.1 h.2) in
            (r.0, r.1, get_front marks (told ∷ []) r.0 (mark.Ended w r.1) r.2)
      ]

  once_mid : (f n k : ℕ) → slice_get all n ≡ Some (mark.Started f) → slice_get all k ≡ Some (mark.Started f) → n ≡ k
  once_mid f n k one two = elim (get_push marks told (mark.Started f) n one) [
    | inl a ↦ elim (get_push marks told (mark.Started f) k two) [
      | inl b ↦ linked.orderly.once f n k a b
      | inr b ↦ absurd (fresh b.1 n a)
    ]
    | inr a ↦ elim (get_push marks told (mark.Started f) k two) [
      | inl b ↦ absurd (fresh a.1 k b)
      | inr b ↦ a.0 ∙ sym b.0
    ]
  ]
    where
      fresh : told ≡ mark.Started f → (n : ℕ) → slice_get marks n ≡ Some (mark.Started f) → ⊥
      fresh is n at = let r = x.started f is in linked.unbegun f n (ap (slice_get s.edges) r.0 ∙ x.now ∙ ap Some r.1) at

  after_mid : (n f w : ℕ) → slice_get all n ≡ Some (mark.Started f) → is_member w (waits_of p f) ≡ true → (k : ℕ) × (ran : Bool) × (k < n) × (slice_get all k ≡ Some (mark.Ended w ran))
  after_mid n f w at wait = elim (get_push marks told (mark.Started f) n at) [
    | inl before ↦ let r = linked.orderly.after_waits n f w before wait in (r.0, r.1, r.2, get_front marks (told ∷ []) r.0 (mark.Ended w r.1) r.3)
    | inr last ↦
        let r = x.started f last.1 in
        let ended = linked.well w (r.2 w (ap (λ (g : ℕ). is_member w (waits_of p g)) (sym r.0) ∙ wait)) in
        (ended.0, ended.1, omega (arith, slice_get_within marks ended.0 (mark.Ended w ended.1) ended.2, last.0), get_front marks (told ∷ []) ended.0 (mark.Ended w ended.1) ended.2)
  ]

  by_index : (l : List Mark) (t : State) → ((f : ℕ) → holds_by l f ≡ stands is_holder t f) → (i j : ℕ) (st : Status) → j ≡ 0 + i → slice_get t.edges i ≡ Some st → holds_by l j ≡ is_holder st
  by_index l t h i j st is at = h j ∙ ap (λ (k : ℕ). stands is_holder t k) (let same : j ≡ i = omega (arith, is) in same) ∙ ap (passes is_holder) at

  jobs_before : count_by is_holder s.edges ≤ limits.jobs
  jobs_before =
      let r = linked.orderly.in_jobs (length marks) in
      let l = holding_is marks 0 p.edges s.edges sound.long (by_index marks s linked.held) in
      omega (arith, r, l, ap (λ (ms : List Mark). holding ms 0 p.edges) (take_all marks))

  jobs_after : count_by is_holder mid.edges ≤ limits.jobs
  jobs_after =
      let c : count_by is_holder mid.edges + bit01 (is_holder x.old) ≡ count_by is_holder s.edges + bit01 (is_holder x.new) =
      subst (λ (l : List Status). count_by is_holder l + bit01 (is_holder x.old) ≡ count_by is_holder s.edges + bit01 (is_holder x.new)) (sym x.becomes) (count_set is_holder s.edges x.e x.old x.new x.now) in
      by_cases (is_holder x.old) (is_holder x.new) refl refl c
    where
      by_cases : (a b : Bool) → is_holder x.old ≡ a → is_holder x.new ≡ b → count_by is_holder mid.edges + bit01 (is_holder x.old) ≡ count_by is_holder s.edges + bit01 (is_holder x.new) → count_by is_holder mid.edges ≤ limits.jobs
      by_cases false true ea eb c =
          let free = x.room ea eb in
          let idle : nat_lt (count_by is_holder s.edges) limits.jobs ≡ true = (and_parts (has_room p s (pool_of p x.e)) (nat_lt (count_by is_holder s.edges) limits.jobs) (and_parts (has_room p s (pool_of p x.e) && nat_lt (count_by is_holder s.edges) limits.jobs) (not (is_spent limits s)) free).0).1 in
          let less : count_by is_holder s.edges < limits.jobs = ltb-true (count_by is_holder s.edges) limits.jobs idle in
          omega (arith, less, c, ap bit01 ea, ap bit01 eb)
      by_cases a false ea eb c = omega (arith, jobs_before, c, ap bit01 eb)
      by_cases true true ea eb c = omega (arith, jobs_before, c, ap bit01 ea, ap bit01 eb)

  jobs_mid : (n : ℕ) → holding (take n all) 0 p.edges ≤ limits.jobs
  jobs_mid n = elim (take_push marks told n) [
    | inl q ↦ omega (arith, ap (λ (ms : List Mark). holding ms 0 p.edges) q, linked.orderly.in_jobs n)
    | inr q ↦
        let l = holding_is all 0 p.edges mid.edges long_mid (by_index all mid held_mid) in
        omega (arith, ap (λ (ms : List Mark). holding ms 0 p.edges) q, l, jobs_after)
  ]

  pool_after : (pool : ℕ) (row : Pool) → slice_get p.pools pool ≡ Some row → 0 < row.depth → holders_from p pool 0 mid.edges ≤ row.depth
  pool_after pool row at some =
      let l = holding_of_is p pool marks 0 p.edges s.edges sound.long (by_index marks s linked.held) in
      let before : holders_from p pool 0 s.edges ≤ row.depth = omega (arith, linked.orderly.in_depth (length marks) pool row at some, l, ap (λ (ms : List Mark). holding_of p pool ms 0 p.edges) (take_all marks)) in
      let zero_plus : x.e ≡ 0 + x.e = omega arith in
      let c = subst (λ (l : List Status). holders_from p pool 0 l + bit (is_pool pool (pool_of p x.e) && is_holder x.old) ≡ holders_from p pool 0 s.edges + bit (is_pool pool (pool_of p x.e) && is_holder x.new)) (sym x.becomes)
      (holders_set p pool 0 x.e x.e s.edges x.old x.new zero_plus x.now) in
      by_cases (is_pool pool (pool_of p x.e)) (is_holder x.old) (is_holder x.new) refl refl refl before c
    where
      by_cases : (q a b : Bool) → is_pool pool (pool_of p x.e) ≡ q → is_holder x.old ≡ a → is_holder x.new ≡ b → holders_from p pool 0 s.edges ≤ row.depth
          → holders_from p pool 0 mid.edges + bit (is_pool pool (pool_of p x.e) && is_holder x.old) ≡ holders_from p pool 0 s.edges + bit (is_pool pool (pool_of p x.e) && is_holder x.new) → holders_from p pool 0 mid.edges ≤ row.depth
      by_cases true false true eq ea eb before c =
          let free = x.room ea eb in
          let room : has_room p s (pool_of p x.e) ≡ true = (and_parts _ _ (and_parts _ _ free).0).0 in
          let room2 : allows (slice_get p.pools pool) (holders_from p pool 0 s.edges) ≡ true = ap (has_room p s) (sym (is_pool_is pool (pool_of p x.e) eq)) ∙ room in
          let room3 : allows (Some row) (holders_from p pool 0 s.edges) ≡ true = ap (λ (o : Option Pool). allows o (holders_from p pool 0 s.edges)) (sym at) ∙ room2 in
          let less = depth_room row.depth (holders_from p pool 0 s.edges) some room3 in
          let c2 = rw (eq, ea, eb) at c in omega (arith, less, c2)
      by_cases false a b eq ea eb before c = let c2 = rw eq at c in omega (arith, before, c2)
      by_cases true a false eq ea eb before c = let c2 = rw (eq, eb) at c in omega (arith, before, c2)
      by_cases true true true eq ea eb before c = let c2 = rw (eq, ea, eb) at c in omega (arith, before, c2)

  depth_mid : (n pool : ℕ) (row : Pool) → slice_get p.pools pool ≡ Some row → 0 < row.depth → holding_of p pool (take n all) 0 p.edges ≤ row.depth
  depth_mid n pool row at some = elim (take_push marks told n) [
    | inl q ↦ omega (arith, ap (λ (ms : List Mark). holding_of p pool ms 0 p.edges) q, linked.orderly.in_depth n pool row at some)
    | inr q ↦
        let l = holding_of_is p pool all 0 p.edges mid.edges long_mid (by_index all mid held_mid) in
        omega (arith, ap (λ (ms : List Mark). holding_of p pool ms 0 p.edges) q, l, pool_after pool row at some)
  ]

  pub linked_mid : Linked p limits (marks ++ told ∷ []) mid
  linked_mid = record { held = held_mid; unbegun = unbegun_mid; well = well_mid; orderly = record { once = once_mid; after_waits = after_mid; in_jobs = jobs_mid; in_depth = depth_mid } }

module _ (laws : TurnLaws) (meaning : Meaning) (p : Parts) (shaped : IsWellShaped p) (limits : Limits) where
  runs_linked : (s : State) (before : List Mark) (events : List Event) (marks : List Mark) (end : State) → Stands p s → Linked p limits before s → Runs meaning p limits s events marks end → Linked p limits (before ++ marks) end
  runs_linked s before [] [] end sound linked run = subst (λ (t : State). Linked p limits (before ++ []) t) run (subst (λ (l : List Mark). Linked p limits l s) (sym (append_nil before)) linked)
  runs_linked s before (event ∷ events) (told ∷ marks) end sound linked run =
      let x = alters laws meaning p shaped limits s sound event run.0 told run.1 in
      let next = linked_mid p limits s run.0 before told sound linked x in
      let all = runs_linked run.0 (before ++ told ∷ []) events marks end (next_stands laws meaning p shaped limits s run.0 event told sound run.1) next run.2 in
      subst (λ (l : List Mark). Linked p limits l end) (append_more before told marks) all
  runs_linked s before [] (told ∷ marks) end sound linked run = absurd run
  runs_linked s before (event ∷ events) [] end sound linked run = absurd run

no_holders : (wanted : List Bool) (e : ℕ) → passes is_holder (slice_get (map at_first wanted) e) ≡ false
no_holders [] e = refl
no_holders (true ∷ wanted) zero = refl
no_holders (false ∷ wanted) zero = refl
no_holders (b ∷ wanted) (suc e) = no_holders wanted e

none_hold : (n e : ℕ) (edges : List Edge) → holding (take n []) e edges ≡ 0
none_hold n e [] = refl
none_hold zero e (x ∷ edges) = let r = none_hold zero (e + 1) edges in omega (arith, r)
none_hold (suc n) e (x ∷ edges) = let r = none_hold (suc n) (e + 1) edges in omega (arith, r)

none_hold_of : (p : Parts) (pool n e : ℕ) (edges : List Edge) → holding_of p pool (take n []) e edges ≡ 0
none_hold_of p pool n e [] = refl
none_hold_of p pool zero e (x ∷ edges) = let r = none_hold_of p pool zero (e + 1) edges in elim (cases_Bool (is_pool pool (pool_of p e))) [ inl h ↦ rw h (omega (arith, r)) | inr h ↦ rw h (omega (arith, r)) ]
none_hold_of p pool (suc n) e (x ∷ edges) = let r = none_hold_of p pool (suc n) (e + 1) edges in elim (cases_Bool (is_pool pool (pool_of p e))) [ inl h ↦ rw h (omega (arith, r)) | inr h ↦ rw h (omega (arith, r)) ]

pub first_linked : (p : Parts) (limits : Limits) (targets : List ℕ) (s : State) → Opens p targets s → Linked p limits [] s
first_linked p limits targets s opens = record {
  held = λ e. sym (ap (λ (l : List Status). passes is_holder (slice_get l e)) opens.edges ∙ no_holders opens.wanted e);
  unbegun = λ e n h at. absurd cc;
  well = λ w well. let h = stands_at has_succeeded s w well in absurd (none_well opens.wanted w h.0 (ap (λ (l : List Status). slice_get l w) (sym opens.edges) ∙ h.1) h.2);
  orderly = record {
    once = λ e n k h j. absurd cc;
    after_waits = λ n e w h wait. absurd cc;
    in_jobs = λ n. omega (arith, none_hold n 0 p.edges);
    in_depth = λ n pool row at some. omega (arith, none_hold_of p pool n 0 p.edges);
  };
}

pub marks_are_orderly : TurnLaws → MarksAreOrderly
marks_are_orderly laws meaning p shaped limits targets events marks s reached =
    (runs_linked laws meaning p shaped limits reached.start [] events marks s (opens_stand p targets reached.start reached.opens) (first_linked p limits targets reached.start reached.opens) reached.run).orderly
