-- Lines of a trace, one after another. Lemmas for src/reading.rt.
use Rattle.std.proofs.Common.{◌≡◌, ◌≢◌, ℕ, ◌+◌, ◌==◌, Bool, true, false, List, [], ◌∷◌, ◌++◌, Option, Some, None, Result, Ok, Err, cond, refl, sym, ap, ◌∙◌, append_assoc}
use Rattle.std.specs.List.{onto_first}
use Rattle.plan_machine.specs.declared.event.Event.{Event}
use Rattle.plan_trace.specs.declared.fault.TraceFault.{TraceFault}
use Rattle.plan_trace.specs.declared.fault.TraceFault.TheVariants.{BadTrace}
use Rattle.plan_trace.specs.Words.{parts_at}
use Rattle.plan_machine.specs.Limits.{Limits}
use Rattle.plan_trace.specs.Reading.{behind_by, behind_targets, event_of, events_of, options_of, read_of, target_of, targets_by, targets_of, then_event, trace_of, with_head, words_of}

-- ---- a text has a first part

pub record HasFirst (parts : List (List ℕ)) : Type 0 where
  pub first : List ℕ
  pub more : List (List ℕ)
  pub is : parts ≡ first ∷ more

onto_has : (b : ℕ) (parts : List (List ℕ)) → HasFirst (onto_first b parts)
onto_has b [] = record { first = b ∷ []; more = []; is = refl }
onto_has b (part ∷ parts) = record { first = b ∷ part; more = parts; is = refl }

either_has : (c : Bool) (b : ℕ) (parts : List (List ℕ)) → HasFirst (cond c ([] ∷ parts) (onto_first b parts))
either_has true b parts = record { first = []; more = parts; is = refl }
either_has false b parts = onto_has b parts

pub has_first : (at : ℕ) (text : List ℕ) → HasFirst (parts_at at text)
has_first at [] = record { first = []; more = []; is = refl }
has_first at (b ∷ text) = either_has (b == at) b (parts_at at text)

-- ---- targets

pub next_target : (text line behind : List ℕ) (e : ℕ) → parts_at 10 text ≡ line ∷ parts_at 10 behind → Some e ≡ target_of (words_of line)
    → targets_of (parts_at 10 text) ≡ e ∷ targets_of (parts_at 10 behind)
next_target text line behind e cut tells =
    let first = has_first 10 behind in
    let seen : targets_of (line ∷ parts_at 10 behind) ≡ e ∷ targets_of (parts_at 10 behind)
    = rw first.is (ap (λ (t : Option ℕ). targets_by t (targets_of (first.first ∷ first.more))) (sym tells)) in
    ap targets_of cut ∙ seen

pub behind_target : (text line behind : List ℕ) (e : ℕ) → parts_at 10 text ≡ line ∷ parts_at 10 behind → Some e ≡ target_of (words_of line)
    → behind_targets (parts_at 10 text) ≡ behind_targets (parts_at 10 behind)
behind_target text line behind e cut tells =
    let first = has_first 10 behind in
    let seen : behind_targets (line ∷ parts_at 10 behind) ≡ behind_targets (parts_at 10 behind)
    = rw first.is (ap (λ (t : Option ℕ). behind_by t (behind_targets (first.first ∷ first.more)) (line ∷ first.first ∷ first.more)) (sym tells)) in
    ap behind_targets cut ∙ seen

pub no_target : (text line behind : List ℕ) → parts_at 10 text ≡ line ∷ parts_at 10 behind → None ≡ target_of (words_of line)
    → (targets_of (parts_at 10 text) ≡ []) × (behind_targets (parts_at 10 text) ≡ parts_at 10 text)
no_target text line behind cut tells =
    let first = has_first 10 behind in
    let none : targets_of (line ∷ parts_at 10 behind) ≡ []
    = rw first.is (ap (λ (t : Option ℕ). targets_by t (targets_of (first.first ∷ first.more))) (sym tells)) in
    let all : behind_targets (line ∷ parts_at 10 behind) ≡ line ∷ parts_at 10 behind
    = rw first.is (ap (λ (t : Option ℕ). behind_by t (behind_targets (first.first ∷ first.more)) (line ∷ first.first ∷ first.more)) (sym tells)) in
    (ap targets_of cut ∙ none, ap behind_targets cut ∙ (all ∙ sym cut))

pub last_target : (text : List ℕ) → parts_at 10 text ≡ text ∷ [] → (targets_of (parts_at 10 text) ≡ []) × (behind_targets (parts_at 10 text) ≡ parts_at 10 text)
last_target text whole = (ap targets_of whole, ap behind_targets whole ∙ sym whole)

-- ---- events

pub next_event : (n : ℕ) (text line behind : List ℕ) (event : Option Event) → parts_at 10 text ≡ line ∷ parts_at 10 behind → event ≡ event_of (words_of line)
    → events_of n (parts_at 10 text) ≡ then_event n event (events_of (n + 1) (parts_at 10 behind))
next_event n text line behind event cut tells =
    let first = has_first 10 behind in
    let seen : events_of n (line ∷ parts_at 10 behind) ≡ then_event n event (events_of (n + 1) (parts_at 10 behind))
    = rw first.is (ap (λ (e : Option Event). then_event n e (events_of (n + 1) (first.first ∷ first.more))) (sym tells)) in
    ap (events_of n) cut ∙ seen

pub last_event : (n : ℕ) (text : List ℕ) → parts_at 10 text ≡ text ∷ [] → text ≢ [] → events_of n (parts_at 10 text) ≡ Err (BadTrace n)
last_event n [] whole some = absurd (some refl)
last_event n (b ∷ text) whole some = ap (events_of n) whole

-- the events that were read, before those that remain to be read
abbrev pub with_front : List Event → Result (List Event) TraceFault → Result (List Event) TraceFault
with_front done (Ok events) = Ok (done ++ events)
with_front done (Err fault) = Err fault

front_more : (n : ℕ) (done : List Event) (event : Event) (rest : Result (List Event) TraceFault) → with_front (done ++ event ∷ []) rest ≡ with_front done (then_event n (Some event) rest)
front_more n done event (Ok events) = ap (λ (es : List Event). Ok es) (append_assoc done (event ∷ []) events)
front_more n done event (Err fault) = refl

pub event_more : (n : ℕ) (done : List Event) (event : Event) (left rest whole : Result (List Event) TraceFault) → left ≡ then_event n (Some event) rest → with_front done left ≡ whole
    → with_front (done ++ event ∷ []) rest ≡ whole
event_more n done event left rest whole is so_far = front_more n done event rest ∙ (ap (with_front done) (sym is) ∙ so_far)

-- ---- the first line

pub head_more : (text line behind : List ℕ) (options : Option Limits) → parts_at 10 text ≡ line ∷ parts_at 10 behind → options ≡ options_of (words_of line)
    → read_of text ≡ with_head options (parts_at 10 behind)
head_more text line behind options cut says =
    let first = has_first 10 behind in
    let seen : trace_of (line ∷ parts_at 10 behind) ≡ with_head options (parts_at 10 behind)
    = rw first.is (ap (λ (o : Option Limits). with_head o (first.first ∷ first.more)) (sym says)) in
    ap trace_of cut ∙ seen
