-- Each reply that an edge got is one that the world's rule allows for the question that the rule of the edge asks.
use Rattle.std.proofs.Common.{◌≡◌, ℕ, zero, suc, ◌<◌, Bool, true, false, eqb, List, [], ◌∷◌, ◌++◌, length, map, take, Option, Some, None, refl, sym, ap, ◌∙◌, subst, arith, inl, inr}
use Rattle.std.specs.Prelude.{◌≢◌, ◌⊎◌, ◌&&◌, ◌||◌, not, if◌then◌else◌, slice_get, slice_set}
use Rattle.std.specs.List.{list_all}
use Rattle.std.proofs.lemmas.Bool.{cases_eq, cases_Bool, eqb-true, eq-eqb}
use Rattle.std.proofs.lemmas.List.{append_assoc}
use Rattle.plan_image.specs.declared.image.Slot.{Slot}
use Rattle.plan_image.specs.declared.image.Parts.{Parts}
use Rattle.plan_image.specs.Code.{code}
use Rattle.plan_verify.specs.Members.{is_member}
use Rattle.plan_verify.specs.Tables.{waits_of, owned_by, owns, lent_by, is_lent}
use Rattle.plan_verify.specs.Turn.{Slots, Local, begun, Did, Turn, Goes, Sets, Asks, Ends, Fails, Wrong as Errs, Meaning, Request, Reply as Answer, turn, heard, replied_at, question}
use Rattle.plan_verify.specs.Alone.{Stage, Runs as Going, Alone}
use Rattle.plan_verify.specs.Sound.{asking}
use Rattle.plan_verify.specs.WellShaped.{IsWellShaped}
use Rattle.plan_compile.specs.Builds.{Build, Builds}
use Rattle.plan_compile.specs.Faithful.{IsEdge, IsSound}
use Rattle.plan_compile.specs.Images.{image_of}
use Rattle.plan_compile.specs.Means.{Leaves}
use Rattle.plan_compile.specs.Names.{all_texts}
use Rattle.plan_compile.specs.Slots.{form_of, base, made}
use Rattle.plan_compile.specs.InteractionTree.{Left, InteractionTree, Ask, Over as Done, Fail, Obeys, is_over, has_failed, moves, asks, Follows}
use Rattle.plan_compile.specs.Told.{edge_does, facts, ImageKeepsToRule, ImageIsLaidOut}
use Rattle.plan_machine.specs.Agreement.{replies_to}
use Rattle.plan_machine.specs.Depfile.{depfile}
use Rattle.plan_machine.specs.Edges.{edge_of}
use Rattle.plan_machine.specs.Histories.{EachRanByItself, SlotsStay}
use Rattle.plan_machine.specs.Limits.{Limits}
use Rattle.plan_machine.specs.Places.{is_spent, is_free, at_take}
use Rattle.plan_machine.specs.Requests.{asked_by, asked_at}
use Rattle.plan_machine.specs.Runs.{at_first, Runs, Reached}
use Rattle.plan_machine.specs.State.{State, Status, Unbegun, Active, Over, has_succeeded, is_unsuccessful, stands, with_status}
use Rattle.plan_machine.specs.Step.{Stepped, Next, Wrong, NotEnabled, stepped, answered, ended, settles, hears_by, starts, skips, stops, steps, hears, answer_of, step}
use Rattle.plan_machine.specs.declared.event.Event.{Event}
use Rattle.plan_machine.specs.declared.event.Event.TheVariants.{Start, Skip, Stop, Step, Reply as Hear}
use Rattle.plan_machine.specs.declared.event.Mark.{Mark}
use Rattle.plan_machine.specs.declared.event.Mark.TheVariants as mark
use Rattle.plan_machine.specs.declared.event.Outcome.TheVariants.{Failed, Skipped, Stopped}
use Rattle.plan_machine.specs.declared.event.reply.Reply.{Reply}
use Rattle.plan_lanes.specs.Journals.{Rule, IsLastOf, IsAllowed}
use Rattle.plan_reasons.specs.Observing.{Exchange}
use Rattle.plan_laws.specs.Right.{AreReplies}
use Rattle.plan_laws.proofs.SlotLemmas.{rule_same}

-- ---- lists

some_is : {A : Type 0} (x y : A) → ◌≡◌ {A = Option A} (Some x) (Some y) → x ≡ y
some_is x y e = cc

get_cases : {A : Type 0} (xs : List A) (i j : ℕ) (x y : A) → slice_get (slice_set xs i x) j ≡ Some y → (i ≡ j) ⊎ (slice_get xs j ≡ Some y)
get_cases [] i j x y h = absurd cc
get_cases (z ∷ xs) zero zero x y h = inl refl
get_cases (z ∷ xs) zero (suc j) x y h = inr h
get_cases (z ∷ xs) (suc i) zero x y h = inr h
get_cases (z ∷ xs) (suc i) (suc j) x y h = elim (get_cases xs i j x y h) [ inl p ↦ inl (ap suc p) | inr p ↦ inr p ]

get_front : {A : Type 0} (xs ys : List A) (k : ℕ) (x : A) → slice_get xs k ≡ Some x → slice_get (xs ++ ys) k ≡ Some x
get_front [] ys k x h = absurd cc
get_front (z ∷ xs) ys zero x h = h
get_front (z ∷ xs) ys (suc k) x h = get_front xs ys k x h

get_next : {A : Type 0} (xs ys : List A) (y : A) → slice_get (xs ++ y ∷ ys) (length xs) ≡ Some y
get_next [] ys y = refl
get_next (z ∷ xs) ys y = get_next xs ys y

take_front : (xs ys : List Event) → take (length xs) (xs ++ ys) ≡ xs
take_front [] ys = refl
take_front (x ∷ xs) ys = ap (λ (l : List Event). x ∷ l) (take_front xs ys)

append_none : {A : Type 0} (xs : List A) → xs ++ [] ≡ xs
append_none [] = refl
append_none {A} (x ∷ xs) = ap (λ (l : List A). x ∷ l) (append_none xs)

-- ---- an event changes the status of its own edge only

module _ (meaning : Meaning) (p : Parts) (limits : Limits) (s : State) where
  abbrev SetsAt : ℕ → Stepped → Type 0
  SetsAt e (Next mid told) = (new : Status) × (mid.edges ≡ slice_set s.edges e new)
  SetsAt e (Wrong flaw) = Unit {0}
  SetsAt e NotEnabled = Unit {0}

  choose : (e : ℕ) (b : Bool) (x y : Stepped) → SetsAt e x → SetsAt e y → SetsAt e (if b then x else y)
  choose e true x y h k = h
  choose e false x y h k = k

  settles_sets : (e : ℕ) (l : Local) (say : Did → Mark) (t : Turn) → SetsAt e (settles s e l say t)
  settles_sets e l say (Goes did m) = (Active m, refl)
  settles_sets e l say (Sets k v m) = (Active m, refl)
  settles_sets e l say (Asks q) = (Active (asking l), refl)
  settles_sets e l say Ends = (Over (ended l.ran), refl)
  settles_sets e l say (Fails cause) = (Over (Failed cause), refl)
  settles_sets e l say (Errs flaw) = tt

  starts_sets : (e : ℕ) (o : Option Status) → SetsAt e (starts p s e o)
  starts_sets e (Some Unbegun) = choose e (list_all (stands has_succeeded s) (waits_of p e)) (Next (with_status s e (Active begun)) (mark.Started e)) NotEnabled (Active begun, refl) tt
  starts_sets e None = tt
  starts_sets e (Some (Active l)) = tt
  starts_sets e (Some (Over outcome)) = tt

  skips_sets : (e w : ℕ) (o : Option Status) → SetsAt e (skips p s e w o)
  skips_sets e w (Some Unbegun) = choose e (is_member w (waits_of p e) && stands is_unsuccessful s w) (Next (with_status s e (Over (Skipped w))) (mark.Skipped e w)) NotEnabled (Over (Skipped w), refl) tt
  skips_sets e w None = tt
  skips_sets e w (Some (Active l)) = tt
  skips_sets e w (Some (Over outcome)) = tt

  stops_sets : (e : ℕ) (o : Option Status) → SetsAt e (stops p limits s e o)
  stops_sets e (Some Unbegun) = choose e (is_spent limits s) (Next (with_status s e (Over Stopped)) (mark.Stopped e)) NotEnabled (Over Stopped, refl) tt
  stops_sets e (Some (Active l)) = choose e (is_spent limits s && at_take p e l) (Next (with_status s e (Over Stopped)) (mark.Stopped e)) NotEnabled (Over Stopped, refl) tt
  stops_sets e None = tt
  stops_sets e (Some (Over outcome)) = tt

  steps_sets : (e : ℕ) (o : Option Status) → SetsAt e (steps p limits s e o)
  steps_sets e (Some (Active l)) = choose e (l.asked || (at_take p e l && not (is_free p limits s e))) NotEnabled (settles s e l (stepped e) (turn p e s.slots l)) tt (settles_sets e l (stepped e) (turn p e s.slots l))
  steps_sets e None = tt
  steps_sets e (Some Unbegun) = tt
  steps_sets e (Some (Over outcome)) = tt

  heard_sets : (e : ℕ) (l : Local) (o : Option Turn) → SetsAt e (hears_by s e l o)
  heard_sets e l (Some t) = settles_sets e l (answered e) t
  heard_sets e l None = tt

  hears_sets : (e : ℕ) (r : Answer) (o : Option Status) → SetsAt e (hears meaning p s e r o)
  hears_sets e r (Some (Active l)) = heard_sets e l (heard meaning p e l r)
  hears_sets e r None = tt
  hears_sets e r (Some Unbegun) = tt
  hears_sets e r (Some (Over outcome)) = tt

  step_sets : (event : Event) → SetsAt (edge_of event) (step meaning p limits s event)
  unfolding step
  step_sets (Start e) = starts_sets e (slice_get s.edges e)
  step_sets (Skip e w) = skips_sets e w (slice_get s.edges e)
  step_sets (Stop e) = stops_sets e (slice_get s.edges e)
  step_sets (Step e) = steps_sets e (slice_get s.edges e)
  step_sets (Hear e r) = hears_sets e (answer_of r) (slice_get s.edges e)

  next_sets : (event : Event) (mid : State) (told : Mark) → step meaning p limits s event ≡ Next mid told → (new : Status) × (mid.edges ≡ slice_set s.edges (edge_of event) new)
  next_sets event mid told is = subst (SetsAt (edge_of event)) is (step_sets event)

module _ (e : ℕ) where
  abbrev HasEvent : List Event → Type 0
  HasEvent events = (k : ℕ) × (event : Event) × (slice_get events k ≡ Some event) × (edge_of event ≡ e)

  -- an edge without an event has the status that it had at first
  abbrev Stood : State → List Event → State → Type 0
  Stood first past s = (st : Status) → slice_get s.edges e ≡ Some st → (slice_get first.edges e ≡ Some st) ⊎ HasEvent past

  one_stood : (first s mid : State) (past : List Event) (event : Event) (new : Status) → mid.edges ≡ slice_set s.edges (edge_of event) new → Stood first past s → Stood first (past ++ event ∷ []) mid
  one_stood first s mid past event new becomes stood st at = elim (get_cases s.edges (edge_of event) e new st (ap (λ (l : List Status). slice_get l e) (sym becomes) ∙ at)) [
    | inl same ↦ inr (length past, event, get_next past [] event, same)
    | inr before ↦ elim (stood st before) [
      | inl first_so ↦ inl first_so
      | inr h ↦ inr (h.0, h.1, get_front past (event ∷ []) h.0 h.1 h.2, h.3)
    ]
  ]

  runs_stood : (meaning : Meaning) (p : Parts) (limits : Limits) (first s : State) (past events : List Event) (marks : List Mark) (end : State) → Stood first past s → Runs meaning p limits s events marks end → Stood first (past ++ events) end
  runs_stood meaning p limits first s past [] [] end stood run = subst (λ (t : State). Stood first (past ++ []) t) run (subst (λ (l : List Event). Stood first l s) (sym (append_none past)) stood)
  runs_stood meaning p limits first s past (event ∷ events) (told ∷ marks) end stood run =
      let n = next_sets meaning p limits s event run.0 told run.1 in
      subst (λ (l : List Event). Stood first l end) (append_assoc past (event ∷ []) events)
      (runs_stood meaning p limits first run.0 (past ++ event ∷ []) events marks end (one_stood first s run.0 past event n.0 n.1 stood) run.2)
  runs_stood meaning p limits first s past [] (told ∷ marks) end stood run = absurd run
  runs_stood meaning p limits first s past (event ∷ events) [] end stood run = absurd run

  none_active : (wanted : List Bool) (k : ℕ) (l : Local) → slice_get (map at_first wanted) k ≡ Some (Active l) → ⊥
  none_active [] k l h = absurd cc
  none_active (true ∷ wanted) zero l h = absurd cc
  none_active (false ∷ wanted) zero l h = absurd cc
  none_active (b ∷ wanted) (suc k) l h = none_active wanted k l h

  has_event : (meaning : Meaning) (p : Parts) (limits : Limits) (targets : List ℕ) (events : List Event) (marks : List Mark) (s : State) (l : Local)
      → Reached meaning p limits targets events marks s → slice_get s.edges e ≡ Some (Active l) → HasEvent events
  has_event meaning p limits targets events marks s l reached at =
      let first = reached.start in
      elim (runs_stood meaning p limits first first [] events marks s (λ st h. inl h) reached.run (Active l) at) [
        | inl h ↦ absurd (none_active reached.opens.wanted e l (ap (λ (x : List Status). slice_get x e) (sym reached.opens.edges) ∙ h))
        | inr h ↦ h
      ]

  no_event : HasEvent [] → ⊥
  no_event h = absurd (let clash : None ≡ Some h.1 = h.2 in cc)

  -- the last event of an edge
  find_last : (events : List Event) → ((n : ℕ) × IsLastOf e n events) ⊎ (HasEvent events → ⊥)
  find_last [] = inr no_event
  find_last (event ∷ events) = elim (find_last events) [
    | inl l ↦ inl (suc l.0, record { event = l.1.event; there = l.1.there; is = l.1.is; last = later event events l.0 l.1 })
    | inr none ↦ elim (cases_eq (edge_of event) e) [
      | inl same ↦ inl (zero, record { event = event; there = refl; is = same; last = at_once event events none })
      | inr ne ↦ inr (nowhere event events none ne)
    ]
  ]
    where
      later : (event : Event) (events : List Event) (n : ℕ) → IsLastOf e n events → (k : ℕ) (other : Event) → suc n < k → slice_get (event ∷ events) k ≡ Some other → edge_of other ≢ e
      later event events n l zero other less at = absurd (omega (arith, less))
      later event events n l (suc k) other less at = l.last k other (omega (arith, less)) at

      at_once : (event : Event) (events : List Event) → (HasEvent events → ⊥) → (k : ℕ) (other : Event) → zero < k → slice_get (event ∷ events) k ≡ Some other → edge_of other ≢ e
      at_once event events none zero other less at = absurd (omega (arith, less))
      at_once event events none (suc k) other less at = λ same. none (k, other, at, same)

      nowhere : (event : Event) (events : List Event) → (HasEvent events → ⊥) → (edge_of event ≡ e → ⊥) → HasEvent (event ∷ events) → ⊥
      nowhere event events none ne h = by h.0 h.2
        where
          by : (k : ℕ) → slice_get (event ∷ events) k ≡ Some h.1 → ⊥
          by zero at = ne (ap edge_of (some_is event h.1 at) ∙ h.3)
          by (suc k) at = none (k, h.1, at, h.3)

-- ---- replies

reply_cases : (e : ℕ) (event : Event) → (replies_to e (event ∷ []) ≡ []) ⊎ ((r : Reply) × (event ≡ Hear e r) × (replies_to e (event ∷ []) ≡ r ∷ []))
reply_cases e (Hear f r) = elim (cases_Bool (eqb f e)) [
  | inl same ↦ inr (r, ap (λ (k : ℕ). Hear k r) (eqb-true f e same), ap (λ (b : Bool). if b then r ∷ [] else []) same)
  | inr other ↦ inl (ap (λ (b : Bool). if b then r ∷ [] else []) other)
]
reply_cases e (Start f) = inl refl
reply_cases e (Skip f w) = inl refl
reply_cases e (Stop f) = inl refl
reply_cases e (Step f) = inl refl

replies_next : (e : ℕ) (event : Event) (events : List Event) → replies_to e (event ∷ events) ≡ replies_to e (event ∷ []) ++ replies_to e events
replies_next e (Hear f r) events = by (eqb f e)
  where
    by : (b : Bool) → (if b then r ∷ replies_to e events else replies_to e events) ≡ (if b then r ∷ [] else []) ++ replies_to e events
    by true = refl
    by false = refl
replies_next e (Start f) events = refl
replies_next e (Skip f w) events = refl
replies_next e (Stop f) events = refl
replies_next e (Step f) events = refl

replies_both : (e : ℕ) (before after : List Event) → replies_to e (before ++ after) ≡ replies_to e before ++ replies_to e after
replies_both e [] after = refl
replies_both e (event ∷ before) after =
    replies_next e event (before ++ after)
    ∙ ap (λ (l : List Reply). replies_to e (event ∷ []) ++ l) (replies_both e before after)
    ∙ sym (append_assoc (replies_to e (event ∷ [])) (replies_to e before) (replies_to e after))
    ∙ ap (λ (l : List Reply). l ++ replies_to e after) (sym (replies_next e event before))

answers_more : (used : List Reply) (r : Reply) → map answer_of (used ++ r ∷ []) ≡ map answer_of used ++ answer_of r ∷ []
answers_more [] r = refl
answers_more (y ∷ used) r = ap (λ (l : List Answer). answer_of y ∷ l) (answers_more used r)

abbrev answer_in : Exchange → Answer
answer_in x = x.1

told_more : (told : List Exchange) (x : Exchange) → map answer_in (told ++ x ∷ []) ≡ map answer_in told ++ x.1 ∷ []
told_more [] x = refl
told_more (y ∷ told) x = ap (λ (l : List Answer). y.1 ∷ l) (told_more told x)

-- ---- the question that was answered

-- two conversations along one rule with the same replies ask the same next
next_asked : (interaction : InteractionTree) (a b : List Exchange) (rest final : InteractionTree) (x : Exchange) (more : List Exchange) → map answer_in a ≡ map answer_in b → Follows interaction a rest → Follows interaction (b ++ x ∷ more) final → Follows rest (x ∷ more) final
next_asked interaction [] [] rest final x more same f g = subst (λ (k : InteractionTree). Follows k (x ∷ more) final) f g
next_asked interaction [] (z ∷ b) rest final x more same f g = absurd cc
next_asked interaction (y ∷ a) [] rest final x more same f g = absurd cc
next_asked (Ask q k) (y ∷ a) (z ∷ b) rest final x more same f g =
    let one : y.1 ≡ z.1 = cc in
    let others : map answer_in a ≡ map answer_in b = cc in
    next_asked (k y.1) a b rest final x more others f.1 (subst (λ (r : Answer). Follows (k r) (b ++ x ∷ more) final) (sym one) g.1)
next_asked (Done ran left) (y ∷ a) (z ∷ b) rest final x more same f g = absurd f
next_asked (Fail cause) (y ∷ a) (z ∷ b) rest final x more same f g = absurd f

same_local : (l m : Local) → ◌≡◌ {A = Stage} (Going l) (Going m) → l ≡ m
same_local l m e = cc

-- If an edge follows an interaction tree and awaits a reply, the root of the tree asks the question of the edge.
asks_of : (meaning : Meaning) (p : Parts) (e : ℕ) (Leaving : Slots → Left → Type 0) (x : Alone) (interaction : InteractionTree) → Obeys meaning p e Leaving x interaction
    → (l : Local) (slots : Slots) → x.stage ≡ Going l → x.slots ≡ slots → l.asked ≡ true → (q : Request) × (k : Answer → InteractionTree) × (interaction ≡ Ask q k) × (question p e slots l ≡ Some q)
asks_of meaning p e Leaving x interaction (is_over h) l slots s z loud = absurd cc
asks_of meaning p e Leaving x interaction has_failed l slots s z loud = absurd cc
asks_of meaning p e Leaving x interaction (moves {l = m} quiet o) l slots s z loud =
    let same : m ≡ l = same_local m l s in
    absurd (let clash : true ≡ false = sym loud ∙ ap (λ (i : Local). i.asked) (sym same) ∙ quiet in cc)
asks_of meaning p e Leaving x interaction (asks {l = m} {slots = old} {q = q} {k = k} loud que h) l slots s z on =
    let same : m ≡ l = same_local m l s in
    (q, k, refl, subst (λ (i : Local). question p e slots i ≡ Some q) same (subst (λ (w : Slots). question p e w m ≡ Some q) z que))

loud_of : (meaning : Meaning) (p : Parts) (e : ℕ) (l : Local) (r : Answer) (t : Turn) → heard meaning p e l r ≡ Some t → l.asked ≡ true
unfolding heard
loud_of meaning p e l r t is = by l.asked is
  where
    by : (b : Bool) → (if b then replied_at meaning l (slice_get (code p e) l.place) r else None) ≡ Some t → b ≡ true
    by true h = refl
    by false h = absurd cc

-- an edge to which a reply is applied is under way and awaits a reply
awaits : (meaning : Meaning) (p : Parts) (s : State) (e : ℕ) (r : Answer) (mid : State) (told : Mark) (o : Option Status) → hears meaning p s e r o ≡ Next mid told → (l : Local) × (o ≡ Some (Active l)) × (l.asked ≡ true)
awaits meaning p s e r mid told (Some (Active l)) is = by (heard meaning p e l r) refl is
  where
    by : (o : Option Turn) → heard meaning p e l r ≡ o → hears_by s e l o ≡ Next mid told → (m : Local) × (◌≡◌ {A = Option Status} (Some (Active l)) (Some (Active m))) × (m.asked ≡ true)
    by (Some t) came h = (l, refl, loud_of meaning p e l r t came)
    by None came h = absurd cc
awaits meaning p s e r mid told None is = absurd cc
awaits meaning p s e r mid told (Some Unbegun) is = absurd cc
awaits meaning p s e r mid told (Some (Over outcome)) is = absurd cc

hearing : (meaning : Meaning) (p : Parts) (limits : Limits) (s : State) (e : ℕ) (r : Reply) (mid : State) (told : Mark) → step meaning p limits s (Hear e r) ≡ Next mid told → (l : Local) × (slice_get s.edges e ≡ Some (Active l)) × (l.asked ≡ true)
unfolding step
hearing meaning p limits s e r mid told is = awaits meaning p s e (answer_of r) mid told (slice_get s.edges e) is

-- the wait that owns a borrowed slot
lender : (p : Parts) (e k : ℕ) → is_lent p e k ≡ true → (w : ℕ) × (is_member w (waits_of p e) ≡ true) × (owns p w k ≡ true)
lender p e k on = by (slice_get p.slots k) on
  where
    by : (o : Option Slot) → lent_by (waits_of p e) o ≡ true → (w : ℕ) × (is_member w (waits_of p e) ≡ true) × (owned_by w o ≡ true)
    by None h = absurd cc
    by (Some slot) h = (slot.owner, h, eq-eqb slot.owner slot.owner refl)

runs_more : (meaning : Meaning) (p : Parts) (limits : Limits) (s : State) (events : List Event) (marks : List Mark) (mid : State) (event : Event) (told : Mark) (end : State)
    → Runs meaning p limits s events marks mid → step meaning p limits mid event ≡ Next end told → Runs meaning p limits s (events ++ event ∷ []) (marks ++ told ∷ []) end
runs_more meaning p limits s [] [] mid event told end run is = (end, ap (λ (x : State). step meaning p limits x event) run ∙ is, refl)
runs_more meaning p limits s (x ∷ events) (y ∷ marks) mid event told end run is = (run.0, run.1, runs_more meaning p limits run.0 events marks mid event told end run.2 is)
runs_more meaning p limits s [] (y ∷ marks) mid event told end run is = absurd run
runs_more meaning p limits s (x ∷ events) [] mid event told end run is = absurd run

module _ (own : EachRanByItself) (keeps : ImageKeepsToRule) (layouts : ImageIsLaidOut) (stay : SlotsStay) (allows : Rule) (t : Builds) (whole : IsSound t) (shaped : IsWellShaped (image_of t))
    (limits : Limits) (targets : List ℕ) (journal : List Event) (s : State) (allowed : IsAllowed allows (image_of t) limits targets journal) (e : ℕ) (x : Build) (there : IsEdge t e x) (final : InteractionTree) where
  abbrev p : Parts
  p = image_of t

  abbrev rule : InteractionTree
  rule = edge_does x.edge.phony depfile (facts t s.slots x)

  -- a reply is one that is allowed for the question to which the rule has come
  reply_allowed : (before after : List Event) (marks later : List Mark) (now mid : State) (told : Mark) (r : Reply) → journal ≡ before ++ Hear e r ∷ after → Reached depfile p limits targets before marks now
      → step depfile p limits now (Hear e r) ≡ Next mid told → Runs depfile p limits mid after later s
      → (past : List Exchange) (y : Exchange) (more : List Exchange) → map answer_in past ≡ map answer_of (replies_to e before) → Follows rule (past ++ y ∷ more) final → (n : ℕ) × allows n y.0 r
  reply_allowed before after marks later now mid told r is reached one run past y more same follows =
      let h = hearing depfile p limits now e r mid told one in
      let l = h.0 in
      let o = own depfile p shaped limits targets before marks now reached e (Active l) (Going l) h.1 refl in
      let k = keeps t whole e x there depfile o.start o.typed o.set o.turns o.told (record { stage = Going l; slots = o.end }) o.alone in
      let lent : (i : ℕ) → is_lent p e i ≡ true → slice_get o.start i ≡ slice_get s.slots i =
      λ i on. let w = lender p e i on in
      o.lent i on ∙ sym (stay depfile p shaped limits targets before marks now reached (Hear e r ∷ after) (told ∷ later) s (mid, one, run) w.0 i (o.waited w.0 w.1) w.2) in
      let alike : edge_does x.edge.phony depfile (facts t o.start x) ≡ rule = rule_same t p e o.start s.slots lent x depfile (form_of x) (all_texts t.edges) (base t.edges e) refl (layouts t whole e x there) in
      let came : Follows rule o.told k.0 = subst (λ (interaction : InteractionTree). Follows interaction o.told k.0) alike k.1 in
      let next : Follows k.0 (y ∷ more) final = next_asked rule o.told past k.0 final y more (o.heard ∙ sym same) came follows in
      let q = asks_of depfile p e (Leaves (made (base t.edges e) x)) (record { stage = Going l; slots = o.end }) k.0 k.2 l o.end refl refl h.2 in
      let ask : Follows (Ask q.0 q.1) (y ∷ more) final = subst (λ (interaction : InteractionTree). Follows interaction (y ∷ more) final) q.2 next in
      let asked : asked_at p now e ≡ Some q.0 =
      ap (asked_by p e now.slots) h.1 ∙ ap (λ (b : Bool). if b then question p e now.slots l else None) h.2 ∙ sym (o.asks l refl) ∙ q.3 in
      let front : take (length before) journal ≡ before = ap (take (length before)) is ∙ take_front before (Hear e r ∷ after) in
      let here : slice_get journal (length before) ≡ Some (Hear e r) = ap (λ (j : List Event). slice_get j (length before)) is ∙ get_next before after (Hear e r) in
      let some = has_event e depfile p limits targets before marks now l reached h.1 in
      elim (find_last e before) [
        | inl last ↦ (
          last.0,
          subst (λ (question : Request). allows last.0 question r) (sym ask.0)
              (allowed (length before) e r now marks q.0 last.0 here (subst (λ (j : List Event). Reached depfile p limits targets j marks now) (sym front) reached) asked (subst (λ (j : List Event). IsLastOf e last.0 j) (sym front) last.1)),
        )
        | inr none ↦ absurd (none some)
      ]

  all_allowed : (before after : List Event) (marks later : List Mark) (now : State) → journal ≡ before ++ after → Reached depfile p limits targets before marks now → Runs depfile p limits now after later s
      → (past told : List Exchange) → map answer_in past ≡ map answer_of (replies_to e before) → map answer_in told ≡ map answer_of (replies_to e after) → Follows rule (past ++ told) final → AreReplies allows (replies_to e after) told
  all_allowed before [] marks [] now is reached run past [] same heard follows = tt
  all_allowed before [] marks [] now is reached run past (y ∷ told) same heard follows = absurd cc
  all_allowed before [] marks (m ∷ later) now is reached run past told same heard follows = absurd run
  all_allowed before (event ∷ after) marks [] now is reached run past told same heard follows = absurd run
  all_allowed before (event ∷ after) marks (m ∷ later) now is reached run past told same heard follows =
      let split : replies_to e (event ∷ after) ≡ replies_to e (event ∷ []) ++ replies_to e after = replies_next e event after in
      let grown : replies_to e (before ++ event ∷ []) ≡ replies_to e before ++ replies_to e (event ∷ []) = replies_both e before (event ∷ []) in
      let is2 : journal ≡ (before ++ event ∷ []) ++ after = is ∙ sym (append_assoc before (event ∷ []) after) in
      let reached2 : Reached depfile p limits targets (before ++ event ∷ []) (marks ++ m ∷ []) run.0 =
      record { start = reached.start; opens = reached.opens; run = runs_more depfile p limits reached.start before marks now event m run.0 reached.run run.1 } in
      let go = all_allowed (before ++ event ∷ []) after (marks ++ m ∷ []) later run.0 is2 reached2 run.2 in
      elim (reply_cases e event) [
        | inl none ↦
            let rest : replies_to e (event ∷ after) ≡ replies_to e after = split ∙ ap (λ (l : List Reply). l ++ replies_to e after) none in
            let still : replies_to e (before ++ event ∷ []) ≡ replies_to e before = grown ∙ ap (λ (l : List Reply). replies_to e before ++ l) none ∙ append_none (replies_to e before) in
            subst (λ (l : List Reply). AreReplies allows l told) (sym rest) (go past told (same ∙ ap (map answer_of) (sym still)) (heard ∙ ap (map answer_of) rest) follows)
        | inr h ↦
            let rest : replies_to e (event ∷ after) ≡ h.0 ∷ replies_to e after = split ∙ ap (λ (l : List Reply). l ++ replies_to e after) h.2 in
            let still : replies_to e (before ++ event ∷ []) ≡ replies_to e before ++ h.0 ∷ [] = grown ∙ ap (λ (l : List Reply). replies_to e before ++ l) h.2 in
            subst (λ (l : List Reply). AreReplies allows l told) (sym rest)
            (one_more before event after marks later now run.0 m h.0 h.1 is reached run.1 run.2 past told same (heard ∙ ap (map answer_of) rest) follows
            (λ y more answer others.
            go (past ++ y ∷ []) more
            (told_more past y ∙ ap (λ (l : List Answer). l ++ y.1 ∷ []) same ∙ ap (λ (a : Answer). map answer_of (replies_to e before) ++ a ∷ []) answer ∙ sym (answers_more (replies_to e before) h.0) ∙ ap (map answer_of) (sym still))
            others))
      ]
    where
      one_more : (before : List Event) (event : Event) (after : List Event) (marks later : List Mark) (now mid : State) (m : Mark) (r : Reply) → event ≡ Hear e r → journal ≡ before ++ event ∷ after → Reached depfile p limits targets before marks now
          → step depfile p limits now event ≡ Next mid m → Runs depfile p limits mid after later s
          → (past told : List Exchange) → map answer_in past ≡ map answer_of (replies_to e before) → map answer_in told ≡ answer_of r ∷ map answer_of (replies_to e after) → Follows rule (past ++ told) final
          → ((y : Exchange) (more : List Exchange) → y.1 ≡ answer_of r → map answer_in more ≡ map answer_of (replies_to e after) → Follows rule ((past ++ y ∷ []) ++ more) final → AreReplies allows (replies_to e after) more)
          → AreReplies allows (r ∷ replies_to e after) told
      one_more before event after marks later now mid m r hear is reached one run past [] same heard follows go = absurd cc
      one_more before event after marks later now mid m r hear is reached one run past (y ∷ more) same heard follows go =
          let answer : y.1 ≡ answer_of r = cc in
          let others : map answer_in more ≡ map answer_of (replies_to e after) = cc in (
            answer,
            reply_allowed before after marks later now mid m r (is ∙ ap (λ (v : Event). before ++ v ∷ after) hear) reached (ap (λ (v : Event). step depfile p limits now v) (sym hear) ∙ one) run past y more same follows,
            go y more answer others (subst (λ (l : List Exchange). Follows rule l final) (sym (append_assoc past (y ∷ []) more)) follows),
          )

  pub replies_allowed : (marks : List Mark) → Reached depfile p limits targets journal marks s → (told : List Exchange) → map answer_in told ≡ map answer_of (replies_to e journal) → Follows rule told final → AreReplies allows (replies_to e journal) told
  replies_allowed marks reached told heard follows =
      all_allowed [] journal [] marks reached.start refl (record { start = reached.start; opens = reached.opens; run = refl }) reached.run [] told refl heard follows
