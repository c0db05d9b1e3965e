-- The replies of an edge that asked what the rule decides by are what it observed.
use Rattle.std.proofs.Common.{◌≡◌, ℕ, zero, suc, ◌<◌, Bool, true, false, List, [], ◌∷◌, ◌++◌, length, map, take, drop, Option, Some, None, refl, sym, ap, ◌∙◌, subst, arith}
use Rattle.std.specs.Prelude.{if◌then◌else◌}
use Rattle.std.proofs.lemmas.List.{map-append}
use Rattle.plan_verify.specs.Turn.{Request, Stat, Recall, Reply as Answer, StampIs, Entry, Nothing}
use Rattle.plan_compile.specs.Rule.{Path, Given, SourceFile, Made, Command, Recorded, is_among, asked, paths_in, name}
use Rattle.plan_machine.specs.Recording.{Recording}
use Rattle.plan_machine.specs.Step.{answer_of}
use Rattle.plan_machine.specs.declared.event.reply.Reply.{Reply}
use Rattle.plan_machine.specs.declared.event.reply.Reply.TheVariants as reply
use Rattle.plan_reasons.specs.Causes.{AnsweredBy, RepliesAreObserved}
use Rattle.plan_reasons.specs.Facts.{named_input, facts_of, source_count}
use Rattle.plan_reasons.specs.Observing.{Exchange, file_exchanges, input_exchanges, AreStamps, Observations, entry_reply, Observes}
use Rattle.plan_reasons.specs.Replies.{stamp_in, stamps_in, recorded_in, entry_in, named_stamps, after_order_only, after_named, after_outputs, observed}

abbrev answers : List Reply → List Answer
answers replies = map answer_of replies

abbrev replies_of : List Exchange → List Answer
replies_of conversation = map {B = Answer} (λ x. x.1) conversation

-- ---- one reply

stamp_is : (t : ℕ) (r : Reply) → StampIs t ≡ answer_of r → stamp_in r ≡ t
stamp_is t (reply.Stamp n) h = let same : t ≡ n = cc in sym same
stamp_is t (reply.Entry e) h = absurd cc
stamp_is t reply.Nothing h = absurd cc
stamp_is t (reply.Exit n) h = absurd cc
stamp_is t reply.Signal h = absurd cc
stamp_is t reply.NotStarted h = absurd cc
stamp_is t (reply.Bytes bytes) h = absurd cc
stamp_is t reply.Kept h = absurd cc
stamp_is t reply.Fault h = absurd cc

abbrev entry_of : List ℕ → ℕ → List Path → Recorded
entry_of command basis paths = record { command = command; basis = basis; paths = paths }

recorded_is : (entry : Recorded) (e : Recording) → Entry entry.command entry.basis entry.paths ≡ Entry e.command e.basis e.paths → recorded_in e ≡ entry
recorded_is entry e h =
    let command : entry.command ≡ e.command = cc in
    let basis : entry.basis ≡ e.basis = cc in
    let paths : entry.paths ≡ e.paths = cc in
    ap (λ (x : List ℕ). entry_of x e.basis e.paths) (sym command) ∙ ap (λ (x : ℕ). entry_of entry.command x e.paths) (sym basis) ∙ ap (λ (x : List Path). entry_of entry.command entry.basis x) (sym paths)

entry_is : (entry : Option Recorded) (r : Reply) (rs : List Reply) → entry_reply entry ≡ answer_of r → entry_in (r ∷ rs) ≡ entry
entry_is (Some entry) (reply.Entry e) rs h = ap (λ (x : Recorded). Some x) (recorded_is entry e h)
entry_is (Some entry) (reply.Stamp n) rs h = absurd cc
entry_is (Some entry) reply.Nothing rs h = absurd cc
entry_is (Some entry) (reply.Exit n) rs h = absurd cc
entry_is (Some entry) reply.Signal rs h = absurd cc
entry_is (Some entry) reply.NotStarted rs h = absurd cc
entry_is (Some entry) (reply.Bytes bytes) rs h = absurd cc
entry_is (Some entry) reply.Kept rs h = absurd cc
entry_is (Some entry) reply.Fault rs h = absurd cc
entry_is None (reply.Entry e) rs h = absurd cc
entry_is None (reply.Stamp n) rs h = refl
entry_is None reply.Nothing rs h = refl
entry_is None (reply.Exit n) rs h = refl
entry_is None reply.Signal rs h = refl
entry_is None reply.NotStarted rs h = refl
entry_is None (reply.Bytes bytes) rs h = refl
entry_is None reply.Kept rs h = refl
entry_is None reply.Fault rs h = refl

-- ---- the replies to several questions

head_is : (a b : Answer) (xs ys : List Answer) → a ∷ xs ≡ b ∷ ys → a ≡ b
head_is a b xs ys h = cc

tail_is : (a b : Answer) (xs ys : List Answer) → a ∷ xs ≡ b ∷ ys → xs ≡ ys
tail_is a b xs ys h = cc

abbrev as_answers : List ℕ → List Answer
as_answers ts = map StampIs ts

stamps_taken : (ts : List ℕ) (rest : List Answer) (rs : List Reply) → as_answers ts ++ rest ≡ answers rs → (stamps_in (take (length ts) rs) ≡ ts) × (rest ≡ answers (drop (length ts) rs))
stamps_taken [] rest rs h = (refl, h)
stamps_taken (t ∷ ts) rest [] h = absurd cc
stamps_taken (t ∷ ts) rest (r ∷ rs) h =
    let more = stamps_taken ts rest rs (tail_is (StampIs t) (answer_of r) (as_answers ts ++ rest) (answers rs) h) in
    let first = stamp_is t r (head_is (StampIs t) (answer_of r) (as_answers ts ++ rest) (answers rs) h) in
    (ap (λ (u : ℕ). u ∷ stamps_in (take (length ts) rs)) first ∙ ap (λ (us : List ℕ). t ∷ us) more.0, more.1)

named_taken : (is : List Given) (ts : List ℕ) (rest : List Answer) (rs : List Reply) → AreStamps is ts → replies_of (input_exchanges is ts) ++ rest ≡ answers rs
    → (named_stamps (map named_input is) rs ≡ ts) × (rest ≡ answers (drop (source_count (map named_input is)) rs))
named_taken [] [] rest rs are h = (refl, h)
named_taken [] (t ∷ ts) rest rs are h = absurd are
named_taken (SourceFile f path ∷ is) [] rest rs are h = absurd are
named_taken (Made s c ∷ is) [] rest rs are h = absurd are
named_taken (SourceFile f path ∷ is) (t ∷ ts) rest [] are h = absurd cc
named_taken (SourceFile f path ∷ is) (t ∷ ts) rest (r ∷ rs) are h =
    let more = named_taken is ts rest rs are.1 (tail_is (StampIs t) (answer_of r) (replies_of (input_exchanges is ts) ++ rest) (answers rs) h) in
    let first = stamp_is t r (head_is (StampIs t) (answer_of r) (replies_of (input_exchanges is ts) ++ rest) (answers rs) h) in
    (ap (λ (u : ℕ). u ∷ named_stamps (map named_input is) rs) first ∙ ap (λ (us : List ℕ). t ∷ us) more.0, more.1)
named_taken (Made s c ∷ is) (t ∷ ts) rest rs are h =
    let more = named_taken is ts rest rs are.1 h in
    (ap (λ (u : ℕ). u ∷ named_stamps (map named_input is) rs) (sym are.0) ∙ ap (λ (us : List ℕ). t ∷ us) more.0, more.1)

-- ---- the order-only inputs that are asked for are source files

abbrev AllSources : List Given → Type 0
AllSources [] = Unit {0}
AllSources (SourceFile f path ∷ is) = AllSources is
AllSources (Made s c ∷ is) = ⊥

asked_sources : (named is : List Given) → AllSources (asked named is)
asked_sources named [] = tt
asked_sources named (SourceFile f path ∷ is) = by (is_among f named) (asked_sources named is)
  where
    by : (b : Bool) → AllSources (asked named is) → AllSources (if b then asked named is else SourceFile f path ∷ asked named is)
    by true more = more
    by false more = more
asked_sources named (Made s c ∷ is) = asked_sources named is

sources_long : (is : List Given) (ts : List ℕ) → AllSources is → AreStamps is ts → (replies_of (input_exchanges is ts) ≡ as_answers ts) × (length ts ≡ length is)
sources_long [] [] all are = (refl, refl)
sources_long [] (t ∷ ts) all are = absurd are
sources_long (SourceFile f path ∷ is) [] all are = absurd are
sources_long (SourceFile f path ∷ is) (t ∷ ts) all are =
    let more = sources_long is ts all are.1 in
    (ap (λ (as' : List Answer). StampIs t ∷ as') more.0, ap suc more.1)
sources_long (Made s c ∷ is) ts all are = absurd all

files_long : (ps : List Path) (ts : List ℕ) → length ts ≡ length ps → replies_of (file_exchanges ps ts) ≡ as_answers ts
files_long [] [] h = refl
files_long [] (t ∷ ts) h = absurd (omega (arith, h))
files_long (p ∷ ps) [] h = absurd (omega (arith, h))
files_long (p ∷ ps) (t ∷ ts) h = ap (λ (as' : List Answer). StampIs t ∷ as') (files_long ps ts (omega (arith, h)))

-- ---- all replies

none_more : (xs : List Answer) → xs ++ [] ≡ xs
none_more [] = refl
none_more (x ∷ xs) = ap (λ (l : List Answer). x ∷ l) (none_more xs)

-- the entry, and what follows it
entry_taken : (entry : Option Recorded) (rest : List Answer) (rs : List Reply) → entry_reply entry ∷ rest ≡ answers rs → (entry_in rs ≡ entry) × (rest ≡ answers (drop 1 rs))
entry_taken entry rest [] h = absurd cc
entry_taken entry rest (r ∷ rs) h = (entry_is entry r rs (head_is (entry_reply entry) (answer_of r) rest (answers rs) h), tail_is (entry_reply entry) (answer_of r) rest (answers rs) h)

module _ (c : Command) (o : Observations) (conversation : List Exchange) (replies : List Reply) (observes : Observes c o conversation) (answered : AnsweredBy conversation replies) where
  abbrev orders : List Exchange
  orders = input_exchanges (asked c.named c.order_only) o.order_only

  abbrev names : List Exchange
  names = input_exchanges c.named o.named

  abbrev files : List Exchange
  files = file_exchanges c.outputs o.outputs

  abbrev sweep : List Exchange
  sweep = file_exchanges (paths_in o.entry) o.recorded

  abbrev recalled : List Exchange
  recalled = (Recall (name c), entry_reply o.entry) ∷ sweep

  whole : replies_of orders ++ (replies_of names ++ (replies_of files ++ replies_of recalled)) ≡ answers replies
  whole =
      ap (λ (l : List Answer). replies_of orders ++ (replies_of names ++ l)) (sym (map-append (λ (x : Exchange). x.1) files recalled))
      ∙ ap (λ (l : List Answer). replies_of orders ++ l) (sym (map-append (λ (x : Exchange). x.1) names (files ++ recalled)))
      ∙ sym (map-append (λ (x : Exchange). x.1) orders (names ++ (files ++ recalled)))
      ∙ ap replies_of (sym observes.is)
      ∙ answered

  order_is : (stamps_in (take (length (asked c.named c.order_only)) replies) ≡ o.order_only) × (replies_of names ++ (replies_of files ++ replies_of recalled) ≡ answers (after_order_only (facts_of c) replies))
  order_is =
      let sources = sources_long (asked c.named c.order_only) o.order_only (asked_sources c.named c.order_only) observes.order_only in
      let rest = replies_of names ++ (replies_of files ++ replies_of recalled) in
      let taken = stamps_taken o.order_only rest replies (ap (λ (l : List Answer). l ++ rest) (sym sources.0) ∙ whole) in (
        ap (λ (n : ℕ). stamps_in (take n replies)) (sym sources.1) ∙ taken.0,
        taken.1 ∙ ap (λ (n : ℕ). answers (drop n replies)) sources.1,
      )

  named_is : (named_stamps (map named_input c.named) (after_order_only (facts_of c) replies) ≡ o.named) × (replies_of files ++ replies_of recalled ≡ answers (after_named (facts_of c) replies))
  named_is = named_taken c.named o.named (replies_of files ++ replies_of recalled) (after_order_only (facts_of c) replies) observes.named order_is.1

  outputs_are : (stamps_in (take (length c.outputs) (after_named (facts_of c) replies)) ≡ o.outputs) × (replies_of recalled ≡ answers (after_outputs (facts_of c) replies))
  outputs_are =
      let long = files_long c.outputs o.outputs observes.outputs in
      let taken = stamps_taken o.outputs (replies_of recalled) (after_named (facts_of c) replies) (ap (λ (l : List Answer). l ++ replies_of recalled) (sym long) ∙ named_is.1) in (
        ap (λ (n : ℕ). stamps_in (take n (after_named (facts_of c) replies))) (sym observes.outputs) ∙ taken.0,
        taken.1 ∙ ap (λ (n : ℕ). answers (drop n (after_named (facts_of c) replies))) observes.outputs,
      )

  entry_found : (entry_in (after_outputs (facts_of c) replies) ≡ o.entry) × (replies_of sweep ≡ answers (drop 1 (after_outputs (facts_of c) replies)))
  entry_found = entry_taken o.entry (replies_of sweep) (after_outputs (facts_of c) replies) outputs_are.1

  recorded_are : stamps_in (take (length (paths_in (entry_in (after_outputs (facts_of c) replies)))) (drop 1 (after_outputs (facts_of c) replies))) ≡ o.recorded
  recorded_are =
      let rs = drop 1 (after_outputs (facts_of c) replies) in
      let long = files_long (paths_in o.entry) o.recorded observes.recorded in
      let taken = stamps_taken o.recorded [] rs (none_more (as_answers o.recorded) ∙ sym long ∙ entry_found.1) in
      ap (λ (e : Option Recorded). stamps_in (take (length (paths_in e)) rs)) entry_found.0
      ∙ ap (λ (n : ℕ). stamps_in (take n rs)) (sym observes.recorded)
      ∙ taken.0

  abbrev made : List ℕ → List ℕ → List ℕ → Option Recorded → List ℕ → Observations
  made order_only named outputs entry recorded = record { order_only = order_only; named = named; outputs = outputs; entry = entry; recorded = recorded }

  abbrev found : Observations
  found = observed (facts_of c) replies

  all_are : observed (facts_of c) replies ≡ o
  all_are =
      ap (λ (x : List ℕ). made x found.named found.outputs found.entry found.recorded) order_is.0
      ∙ ap (λ (x : List ℕ). made o.order_only x found.outputs found.entry found.recorded) named_is.0
      ∙ ap (λ (x : List ℕ). made o.order_only o.named x found.entry found.recorded) outputs_are.0
      ∙ ap (λ (x : Option Recorded). made o.order_only o.named o.outputs x found.recorded) entry_found.0
      ∙ ap (λ (x : List ℕ). made o.order_only o.named o.outputs o.entry x) recorded_are

pub replies_are_observed : RepliesAreObserved
replies_are_observed c o conversation replies observes answered = all_are c o conversation replies observes answered
