-- What leads along a rule to the question to run a command, question by question.
use Rattle.std.proofs.Common.{◌≡◌, ℕ, zero, suc, ◌<◌, Bool, true, false, Result, Ok, Err, List, [], ◌∷◌, ◌++◌, length, map, Option, Some, None, refl, sym, ap, ◌∙◌, subst, arith}
use Rattle.std.specs.Prelude.{◌==◌, ◌&&◌, is_some, if◌then◌else◌}
use Rattle.std.proofs.lemmas.List.{append_assoc}
use Rattle.plan_verify.specs.declared.value.Cause.{Cause}
use Rattle.plan_verify.specs.Turn.{Meaning, Request, Stat, Recall, Run, Deps, Keep, Reply as Answer, StampIs, Entry, Nothing, Exit, Signal, NotStarted, Bytes, Kept, Fault}
use Rattle.plan_compile.specs.declared.baseline.Baseline.{Baseline}
use Rattle.plan_compile.specs.declared.baseline.Baseline.TheVariants.{Outputs, Basis, OutputsAndBasis}
use Rattle.plan_compile.specs.InteractionTree.{Left, InteractionTree, Ask, Over, Fail, Follows}
use Rattle.plan_compile.specs.Rule.{Path, Given, SourceFile, Made, Command, Recorded, needed, stamped, recalled, exited, told_paths, read, kept, inputs, stamps, asked, greatest, is_dirty, paths_in, name, unchanged, changed, depfile, runs, does, has_none, own_files, does_phony}
use Rattle.plan_compile.specs.Told.{edge_does}
use Rattle.plan_machine.specs.declared.event.reply.Reply.{Reply}
use Rattle.plan_reasons.specs.declared.reason.Reason.{Reason}
use Rattle.plan_reasons.specs.Causes.{AnsweredBy, HasReason, CommandsHaveReasons}
use Rattle.plan_reasons.specs.Facts.{facts_of}
use Rattle.plan_reasons.specs.Observing.{Exchange, file_exchanges, input_exchanges, AreStamps, Observations, entry_reply, Observes, is_dirty_by}
use Rattle.plan_reasons.specs.Reasons.{first_reason, reason_by, Holds}
use Rattle.plan_reasons.specs.Replies.{observed}
use Rattle.plan_reasons.proofs.HoldLemmas.{reasons_hold}
use Rattle.plan_reasons.proofs.ReasonLemmas.{reasons_are_causes}
use Rattle.plan_reasons.proofs.ReplyLemmas.{replies_are_observed}

-- ---- interaction trees in which no command is run

abbrev IsNoRun : Request → Type 0
IsNoRun (Run command outputs) = ⊥
IsNoRun q = Unit {0}

data NoRuns : InteractionTree → Type 0 where
  asks : {q : Request} {k : Answer → InteractionTree} → IsNoRun q → ((r : Answer) → NoRuns (k r)) → NoRuns (Ask q k)
  is_over : {ran : Bool} {left : Left} → NoRuns (Over ran left)
  has_failed : {cause : Cause} → NoRuns (Fail cause)

needed_none : (f : ℕ) (go : ℕ → InteractionTree) → ((t : ℕ) → NoRuns (go t)) → (r : Answer) → NoRuns (needed f go r)
needed_none f go none (StampIs zero) = has_failed
needed_none f go none (StampIs (suc n)) = none (suc n)
needed_none f go none (Entry command basis paths) = has_failed
needed_none f go none Nothing = has_failed
needed_none f go none (Exit n) = has_failed
needed_none f go none Signal = has_failed
needed_none f go none NotStarted = has_failed
needed_none f go none (Bytes bytes) = has_failed
needed_none f go none Kept = has_failed
needed_none f go none Fault = has_failed

stamped_none : (go : ℕ → InteractionTree) → ((t : ℕ) → NoRuns (go t)) → (r : Answer) → NoRuns (stamped go r)
stamped_none go none (StampIs n) = none n
stamped_none go none (Entry command basis paths) = has_failed
stamped_none go none Nothing = has_failed
stamped_none go none (Exit n) = has_failed
stamped_none go none Signal = has_failed
stamped_none go none NotStarted = has_failed
stamped_none go none (Bytes bytes) = has_failed
stamped_none go none Kept = has_failed
stamped_none go none Fault = has_failed

exited_none : (go : InteractionTree) → NoRuns go → (r : Answer) → NoRuns (exited go r)
exited_none go none (Exit zero) = none
exited_none go none (Exit (suc n)) = has_failed
exited_none go none (StampIs n) = has_failed
exited_none go none (Entry command basis paths) = has_failed
exited_none go none Nothing = has_failed
exited_none go none Signal = has_failed
exited_none go none NotStarted = has_failed
exited_none go none (Bytes bytes) = has_failed
exited_none go none Kept = has_failed
exited_none go none Fault = has_failed

told_none : (go : List Path → InteractionTree) → ((ps : List Path) → NoRuns (go ps)) → (r : Result (List Path) (ℕ × ℕ)) → NoRuns (told_paths go r)
told_none go none (Ok ps) = none ps
told_none go none (Err fault) = has_failed

read_none : (meaning : Meaning) (go : List Path → InteractionTree) → ((ps : List Path) → NoRuns (go ps)) → (r : Answer) → NoRuns (read meaning go r)
read_none meaning go none (Bytes bytes) = told_none go none (meaning bytes)
read_none meaning go none Nothing = none []
read_none meaning go none (StampIs n) = has_failed
read_none meaning go none (Entry command basis paths) = has_failed
read_none meaning go none (Exit n) = has_failed
read_none meaning go none Signal = has_failed
read_none meaning go none NotStarted = has_failed
read_none meaning go none Kept = has_failed
read_none meaning go none Fault = has_failed

kept_none : (go : InteractionTree) → NoRuns go → (r : Answer) → NoRuns (kept go r)
kept_none go none Kept = none
kept_none go none (StampIs n) = has_failed
kept_none go none (Entry command basis paths) = has_failed
kept_none go none Nothing = has_failed
kept_none go none (Exit n) = has_failed
kept_none go none Signal = has_failed
kept_none go none NotStarted = has_failed
kept_none go none (Bytes bytes) = has_failed
kept_none go none Fault = has_failed

inputs_none : (is : List Given) (go : List ℕ → InteractionTree) → ((ts : List ℕ) → NoRuns (go ts)) → NoRuns (inputs is go)
inputs_none [] go none = none []
inputs_none (SourceFile f path ∷ others) go none = asks tt (needed_none f _ (λ t. inputs_none others _ (λ ts. none (t ∷ ts))))
inputs_none (Made t changed ∷ others) go none = inputs_none others _ (λ ts. none (t ∷ ts))

stamps_none : (ps : List Path) (go : List ℕ → InteractionTree) → ((ts : List ℕ) → NoRuns (go ts)) → NoRuns (stamps ps go)
stamps_none [] go none = none []
stamps_none (path ∷ others) go none = asks tt (stamped_none _ (λ t. stamps_none others _ (λ ts. none (t ∷ ts))))

own_files_none : (b : Baseline) (ps : List Path) (go : List ℕ → InteractionTree) → ((ts : List ℕ) → NoRuns (go ts)) → NoRuns (own_files b ps go)
own_files_none Outputs ps go none = none []
own_files_none Basis ps go none = stamps_none ps go none
own_files_none OutputsAndBasis ps go none = stamps_none ps go none

depfile_none : (meaning : Meaning) (path : List ℕ) (go : List Path → InteractionTree) → ((ps : List Path) → NoRuns (go ps)) → NoRuns (depfile meaning path go)
depfile_none meaning [] go none = none []
depfile_none meaning (x ∷ xs) go none = asks tt (read_none meaning go none)

-- after a command no other one is run
after_none : (meaning : Meaning) (c : Command) (named old : List ℕ) (r : Answer)
    → NoRuns (exited (depfile meaning c.depfile (λ paths. stamps paths (λ swept. Ask (Keep (name c) c.command (greatest (named ++ swept)) paths) (kept (stamps c.outputs (λ new. Over true (changed c.restat old new))))))) r)
after_none meaning c named old r =
    exited_none _ (depfile_none meaning c.depfile _ (λ paths. stamps_none paths _ (λ swept. asks tt (kept_none _ (stamps_none c.outputs _ (λ new. is_over)))))) r

either : (b : Bool) (x y : InteractionTree) → NoRuns x → NoRuns y → NoRuns (if b then x else y)
either true x y none other = none
either false x y none other = other

phony_none : (c : Command) → NoRuns (does_phony c)
phony_none c =
    either (has_none c.named && has_none c.order_only) _ _ (stamps_none c.outputs _ (λ ts. is_over))
    (inputs_none (asked c.named c.order_only) _ (λ ts. inputs_none c.named _ (λ us. own_files_none c.baseline c.outputs _ (λ own. is_over))))

-- ---- up to the command

exchange : (x : Exchange) (q : Request) → x.0 ≡ q → x ≡ (q, x.1)
exchange x q a = ap (λ (p : Request). (p, x.1)) a

module _ (command : List ℕ) (outputs : List Path) (next : Answer → InteractionTree) where
  abbrev asking : InteractionTree
  asking = Ask (Run command outputs) next

  nowhere : (tree : InteractionTree) (told : List Exchange) → NoRuns tree → Follows tree told asking → ⊥
  nowhere (Ask q k) [] (asks quiet more) f = let same : q ≡ Run command outputs = cc in subst IsNoRun same quiet
  nowhere (Over ran left) [] none f = cc
  nowhere (Fail cause) [] none f = cc
  nowhere (Ask q k) (x ∷ told) (asks quiet more) f = nowhere (k x.1) told (more x.1) f.1
  nowhere (Over ran left) (x ∷ told) none f = f
  nowhere (Fail cause) (x ∷ told) none f = f

  no_fail : (cause : Cause) (told : List Exchange) → Follows (Fail cause) told asking → ⊥
  no_fail cause [] f = cc
  no_fail cause (x ∷ told) f = f

  -- ---- one reply

  needed_on : (f : ℕ) (go : ℕ → InteractionTree) (r : Answer) (told : List Exchange) → Follows (needed f go r) told asking → (n : ℕ) × (r ≡ StampIs n) × (0 < n) × Follows (go n) told asking
  needed_on f go (StampIs zero) told h = absurd (no_fail _ told h)
  needed_on f go (StampIs (suc n)) told h = (suc n, refl, omega arith, h)
  needed_on f go (Entry command basis paths) told h = absurd (no_fail _ told h)
  needed_on f go Nothing told h = absurd (no_fail _ told h)
  needed_on f go (Exit n) told h = absurd (no_fail _ told h)
  needed_on f go Signal told h = absurd (no_fail _ told h)
  needed_on f go NotStarted told h = absurd (no_fail _ told h)
  needed_on f go (Bytes bytes) told h = absurd (no_fail _ told h)
  needed_on f go Kept told h = absurd (no_fail _ told h)
  needed_on f go Fault told h = absurd (no_fail _ told h)

  stamped_on : (go : ℕ → InteractionTree) (r : Answer) (told : List Exchange) → Follows (stamped go r) told asking → (n : ℕ) × (r ≡ StampIs n) × Follows (go n) told asking
  stamped_on go (StampIs n) told h = (n, refl, h)
  stamped_on go (Entry command basis paths) told h = absurd (no_fail _ told h)
  stamped_on go Nothing told h = absurd (no_fail _ told h)
  stamped_on go (Exit n) told h = absurd (no_fail _ told h)
  stamped_on go Signal told h = absurd (no_fail _ told h)
  stamped_on go NotStarted told h = absurd (no_fail _ told h)
  stamped_on go (Bytes bytes) told h = absurd (no_fail _ told h)
  stamped_on go Kept told h = absurd (no_fail _ told h)
  stamped_on go Fault told h = absurd (no_fail _ told h)

  recalled_on : (go : Option Recorded → InteractionTree) (r : Answer) (told : List Exchange) → Follows (recalled go r) told asking → (entry : Option Recorded) × (r ≡ entry_reply entry) × Follows (go entry) told asking
  recalled_on go (Entry command basis paths) told h = (Some (record { command = command; basis = basis; paths = paths }), refl, h)
  recalled_on go Nothing told h = (None, refl, h)
  recalled_on go (StampIs n) told h = absurd (no_fail _ told h)
  recalled_on go (Exit n) told h = absurd (no_fail _ told h)
  recalled_on go Signal told h = absurd (no_fail _ told h)
  recalled_on go NotStarted told h = absurd (no_fail _ told h)
  recalled_on go (Bytes bytes) told h = absurd (no_fail _ told h)
  recalled_on go Kept told h = absurd (no_fail _ told h)
  recalled_on go Fault told h = absurd (no_fail _ told h)

  -- ---- one question, which is no command

  asks_on : (q : Request) (k : Answer → InteractionTree) (told : List Exchange) → IsNoRun q → Follows (Ask q k) told asking → (r : Answer) × (more : List Exchange) × (told ≡ (q, r) ∷ more) × Follows (k r) more asking
  asks_on q k [] quiet f = absurd (let same : q ≡ Run command outputs = cc in subst IsNoRun same quiet)
  asks_on q k (x ∷ told) quiet f = (x.1, told, ap (λ (y : Exchange). y ∷ told) (exchange x q f.0), f.1)

  -- ---- lists of questions

  inputs_on : (is : List Given) (go : List ℕ → InteractionTree) (told : List Exchange) → Follows (inputs is go) told asking
      → (ts : List ℕ) × (more : List Exchange) × AreStamps is ts × (told ≡ input_exchanges is ts ++ more) × Follows (go ts) more asking
  inputs_on [] go told f = ([], told, tt, refl, f)
  inputs_on (SourceFile n path ∷ others) go told f =
      let onward : ℕ → InteractionTree = λ t. inputs others (λ ts. go (t ∷ ts)) in
      let a = asks_on (Stat path) (needed n onward) told tt f in
      let b = needed_on n onward a.0 a.1 a.3 in
      let c = inputs_on others (λ ts. go (b.0 ∷ ts)) a.1 b.3 in
      (b.0 ∷ c.0, c.1, (b.2, c.2), a.2 ∙ ap (λ (r : Answer). (Stat path, r) ∷ a.1) b.1 ∙ ap (λ (l : List Exchange). (Stat path, StampIs b.0) ∷ l) c.3, c.4)
  inputs_on (Made t changed ∷ others) go told f =
      let c = inputs_on others (λ ts. go (t ∷ ts)) told f in
      (t ∷ c.0, c.1, (refl, c.2), c.3, c.4)

  stamps_on : (ps : List Path) (go : List ℕ → InteractionTree) (told : List Exchange) → Follows (stamps ps go) told asking
      → (ts : List ℕ) × (more : List Exchange) × (length ts ≡ length ps) × (told ≡ file_exchanges ps ts ++ more) × Follows (go ts) more asking
  stamps_on [] go told f = ([], told, refl, refl, f)
  stamps_on (path ∷ others) go told f =
      let onward : ℕ → InteractionTree = λ t. stamps others (λ ts. go (t ∷ ts)) in
      let a = asks_on (Stat path) (stamped onward) told tt f in
      let b = stamped_on onward a.0 a.1 a.3 in
      let c = stamps_on others (λ ts. go (b.0 ∷ ts)) a.1 b.2 in
      (b.0 ∷ c.0, c.1, ap suc c.2, a.2 ∙ ap (λ (r : Answer). (Stat path, r) ∷ a.1) b.1 ∙ ap (λ (l : List Exchange). (Stat path, StampIs b.0) ∷ l) c.3, c.4)

  append_none : (xs : List Exchange) → xs ++ [] ≡ xs
  append_none [] = refl
  append_none (x ∷ xs) = ap (λ (l : List Exchange). x ∷ l) (append_none xs)

  -- ---- an edge with a command

  module _ (meaning : Meaning) (c : Command) where
    abbrev deciding : (named old : List ℕ) (entry : Option Recorded) (swept : List ℕ) → InteractionTree
    deciding named old entry swept = if is_dirty c named old entry swept then runs meaning c named old else Over false (unchanged old)

    abbrev recording : (named old : List ℕ) (entry : Option Recorded) → InteractionTree
    recording named old entry = stamps (paths_in entry) (deciding named old entry)

    abbrev recalling : (named old : List ℕ) → InteractionTree
    recalling named old = Ask (Recall (name c)) (recalled (recording named old))

    abbrev stamping : (named : List ℕ) → InteractionTree
    stamping named = stamps c.outputs (recalling named)

    -- at the command the edge is dirty, and has asked nothing more
    decided : (named old : List ℕ) (told : List Exchange) (verdict : Bool) → Follows (if verdict then runs meaning c named old else Over false (unchanged old)) told asking → (told ≡ []) × (verdict ≡ true)
    decided named old [] true f = (refl, refl)
    decided named old (x ∷ told) true f = absurd (nowhere _ told (after_none meaning c named old x.1) f.1)
    decided named old [] false f = absurd cc
    decided named old (x ∷ told) false f = absurd f

    does_on : (told : List Exchange) → Follows (does meaning c) told asking → (o : Observations) × Observes c o told × (is_dirty_by c o ≡ true)
    does_on told f =
        let a = inputs_on (asked c.named c.order_only) (λ ts. inputs c.named stamping) told f in
        let b = inputs_on c.named stamping a.1 a.4 in
        let o = stamps_on c.outputs (recalling b.0) b.1 b.4 in
        let q = asks_on (Recall (name c)) (recalled (recording b.0 o.0)) o.1 tt o.4 in
        let r = recalled_on (recording b.0 o.0) q.0 q.1 q.3 in
        let s = stamps_on (paths_in r.0) (deciding b.0 o.0 r.0) q.1 r.2 in
        let d = decided b.0 o.0 s.1 (is_dirty c b.0 o.0 r.0 s.0) s.4 in
        let sweep = file_exchanges (paths_in r.0) s.0 in
        let last : q.1 ≡ sweep = s.3 ∙ ap (λ (l : List Exchange). sweep ++ l) d.0 ∙ append_none sweep in
        let recall : o.1 ≡ (Recall (name c), entry_reply r.0) ∷ sweep =
        q.2 ∙ ap (λ (x : Answer). (Recall (name c), x) ∷ q.1) r.1 ∙ ap (λ (l : List Exchange). (Recall (name c), entry_reply r.0) ∷ l) last in
        let olds : b.1 ≡ file_exchanges c.outputs o.0 ++ (Recall (name c), entry_reply r.0) ∷ sweep = o.3 ∙ ap (λ (l : List Exchange). file_exchanges c.outputs o.0 ++ l) recall in
        let names : a.1 ≡ input_exchanges c.named b.0 ++ (file_exchanges c.outputs o.0 ++ (Recall (name c), entry_reply r.0) ∷ sweep) = b.3 ∙ ap (λ (l : List Exchange). input_exchanges c.named b.0 ++ l) olds in
        let all = a.3 ∙ ap (λ (l : List Exchange). input_exchanges (asked c.named c.order_only) a.0 ++ l) names in (
          record { order_only = a.0; named = b.0; outputs = o.0; entry = r.0; recorded = s.0 },
          record { order_only = a.2; named = b.2; outputs = o.2; recorded = s.2; is = all },
          d.1,
        )

  -- ---- any edge

  some_there : (o : Option Reason) → is_some o ≡ true → (reason : Reason) × (o ≡ Some reason)
  some_there (Some reason) h = (reason, refl)
  some_there None h = absurd cc

  reason_there : (c : Command) (conversation : List Exchange) (replies : List Reply) → (o : Observations) × Observes c o conversation × (is_dirty_by c o ≡ true) → AnsweredBy conversation replies → HasReason c conversation replies
  reason_there c conversation replies d answered =
      let o : Observations = d.0 in
      let replied : observed (facts_of c) replies ≡ o = replies_are_observed c o conversation replies d.1 answered in
      let there = some_there (first_reason c o.named o.outputs o.entry o.recorded) (reasons_are_causes c o.named o.outputs o.entry o.recorded ∙ d.2) in
      record {
        observations = o;
        observes = d.1;
        replied = replied;
        dirty = d.2;
        reason = there.0;
        first = there.1;
        given = ap (λ (x : Observations). reason_by (facts_of c) x.named x.outputs x.entry x.recorded) replied ∙ there.1;
        holds = reasons_hold c o there.0 there.1;
      }

  found : (phony : Bool) (meaning : Meaning) (c : Command) (conversation : List Exchange) (replies : List Reply) → Follows (edge_does phony meaning c) conversation asking → AnsweredBy conversation replies → HasReason c conversation replies
  found true meaning c conversation replies f answered = absurd (nowhere (does_phony c) conversation (phony_none c) f)
  found false meaning c conversation replies f answered = reason_there c conversation replies (does_on meaning c conversation f) answered

pub commands_have_reasons : CommandsHaveReasons
commands_have_reasons phony meaning c conversation replies command outputs next f answered = found command outputs next phony meaning c conversation replies f answered
