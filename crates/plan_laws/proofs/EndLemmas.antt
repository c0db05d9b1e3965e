-- What leads along a rule to its end, question by question.
use Rattle.std.proofs.Common.{◌≡◌, ℕ, zero, suc, ◌<◌, Bool, true, false, Result, Ok, Err, List, [], ◌∷◌, ◌++◌, length, map, Option, Some, None, refl, sym, ap, ◌∙◌, subst, arith}
use Rattle.std.specs.Prelude.{◌==◌, ◌&&◌, if◌then◌else◌}
use Rattle.std.proofs.lemmas.List.{append_assoc}
use Rattle.plan_verify.specs.declared.value.Cause.{Cause}
use Rattle.plan_verify.specs.Turn.{Meaning, Request, Stat, Recall, Run, Deps, Keep, Reply as Answer, StampIs, Entry, Nothing, Exit, Signal, NotStarted, Bytes, Kept, Fault}
use Rattle.plan_compile.specs.declared.baseline.Baseline.{Baseline}
use Rattle.plan_compile.specs.declared.baseline.Baseline.TheVariants.{Outputs, Basis, OutputsAndBasis}
use Rattle.plan_compile.specs.InteractionTree.{Left, InteractionTree, Ask, Over, Fail, Follows}
use Rattle.plan_compile.specs.Rule.{Path, Given, SourceFile, Made, Command, Recorded, needed, stamped, recalled, exited, told_paths, read, kept, inputs, stamps, asked, greatest, is_dirty, paths_in, name, unchanged, changed, depfile, runs, does, has_none, alone, own_files, gathers, some_changed}
use Rattle.plan_reasons.specs.Observing.{Exchange, file_exchanges, input_exchanges, AreStamps, Observations, entry_reply, Observes, is_dirty_by}
use Rattle.plan_laws.specs.Ends.{GivesPaths, ReadsDepfile, RunsNothing, Succeeds, EndsArePlain}

-- ---- ends

-- no failure leads to an end
no_fail : (cause : Cause) (told : List Exchange) (ran : Bool) (left : Left) → Follows (Fail cause) told (Over ran left) → ⊥
no_fail cause [] ran left f = cc
no_fail cause (x ∷ told) ran left f = f

-- nor does a question without a reply
no_ask : (q : Request) (k : Answer → InteractionTree) (ran : Bool) (left : Left) → Follows (Ask q k) [] (Over ran left) → ⊥
no_ask q k ran left f = cc

-- at an end there is nothing more
at_end : (ran ran2 : Bool) (left left2 : Left) (told : List Exchange) → Follows (Over ran left) told (Over ran2 left2) → (told ≡ []) × (ran ≡ ran2) × (left ≡ left2)
at_end ran ran2 left left2 [] f = (refl, (let same : ran ≡ ran2 = cc in same), (let same : left ≡ left2 = cc in same))
at_end ran ran2 left left2 (x ∷ told) f = absurd f

exchange : (x : Exchange) (q : Request) (r : Answer) → x.0 ≡ q → x.1 ≡ r → x ≡ (q, r)
exchange x q r a b = ap (λ (p : Request). (p, x.1)) a ∙ ap (λ (s : Answer). (q, s)) b

module _ (ran : Bool) (left : Left) where
  -- ---- one reply

  needed_end : (f : ℕ) (go : ℕ → InteractionTree) (r : Answer) (told : List Exchange) → Follows (needed f go r) told (Over ran left) → (n : ℕ) × (r ≡ StampIs n) × (0 < n) × Follows (go n) told (Over ran left)
  needed_end f go (StampIs zero) told h = absurd (no_fail _ told ran left h)
  needed_end f go (StampIs (suc n)) told h = (suc n, refl, omega arith, h)
  needed_end f go (Entry command basis paths) told h = absurd (no_fail _ told ran left h)
  needed_end f go Nothing told h = absurd (no_fail _ told ran left h)
  needed_end f go (Exit n) told h = absurd (no_fail _ told ran left h)
  needed_end f go Signal told h = absurd (no_fail _ told ran left h)
  needed_end f go NotStarted told h = absurd (no_fail _ told ran left h)
  needed_end f go (Bytes bytes) told h = absurd (no_fail _ told ran left h)
  needed_end f go Kept told h = absurd (no_fail _ told ran left h)
  needed_end f go Fault told h = absurd (no_fail _ told ran left h)

  stamped_end : (go : ℕ → InteractionTree) (r : Answer) (told : List Exchange) → Follows (stamped go r) told (Over ran left) → (n : ℕ) × (r ≡ StampIs n) × Follows (go n) told (Over ran left)
  stamped_end go (StampIs n) told h = (n, refl, h)
  stamped_end go (Entry command basis paths) told h = absurd (no_fail _ told ran left h)
  stamped_end go Nothing told h = absurd (no_fail _ told ran left h)
  stamped_end go (Exit n) told h = absurd (no_fail _ told ran left h)
  stamped_end go Signal told h = absurd (no_fail _ told ran left h)
  stamped_end go NotStarted told h = absurd (no_fail _ told ran left h)
  stamped_end go (Bytes bytes) told h = absurd (no_fail _ told ran left h)
  stamped_end go Kept told h = absurd (no_fail _ told ran left h)
  stamped_end go Fault told h = absurd (no_fail _ told ran left h)

  recalled_end : (go : Option Recorded → InteractionTree) (r : Answer) (told : List Exchange) → Follows (recalled go r) told (Over ran left) → (entry : Option Recorded) × (r ≡ entry_reply entry) × Follows (go entry) told (Over ran left)
  recalled_end go (Entry command basis paths) told h = (Some (record { command = command; basis = basis; paths = paths }), refl, h)
  recalled_end go Nothing told h = (None, refl, h)
  recalled_end go (StampIs n) told h = absurd (no_fail _ told ran left h)
  recalled_end go (Exit n) told h = absurd (no_fail _ told ran left h)
  recalled_end go Signal told h = absurd (no_fail _ told ran left h)
  recalled_end go NotStarted told h = absurd (no_fail _ told ran left h)
  recalled_end go (Bytes bytes) told h = absurd (no_fail _ told ran left h)
  recalled_end go Kept told h = absurd (no_fail _ told ran left h)
  recalled_end go Fault told h = absurd (no_fail _ told ran left h)

  exited_end : (go : InteractionTree) (r : Answer) (told : List Exchange) → Follows (exited go r) told (Over ran left) → (r ≡ Exit 0) × Follows go told (Over ran left)
  exited_end go (Exit zero) told h = (refl, h)
  exited_end go (Exit (suc n)) told h = absurd (no_fail _ told ran left h)
  exited_end go (StampIs n) told h = absurd (no_fail _ told ran left h)
  exited_end go (Entry command basis paths) told h = absurd (no_fail _ told ran left h)
  exited_end go Nothing told h = absurd (no_fail _ told ran left h)
  exited_end go Signal told h = absurd (no_fail _ told ran left h)
  exited_end go NotStarted told h = absurd (no_fail _ told ran left h)
  exited_end go (Bytes bytes) told h = absurd (no_fail _ told ran left h)
  exited_end go Kept told h = absurd (no_fail _ told ran left h)
  exited_end go Fault told h = absurd (no_fail _ told ran left h)

  kept_end : (go : InteractionTree) (r : Answer) (told : List Exchange) → Follows (kept go r) told (Over ran left) → (r ≡ Kept) × Follows go told (Over ran left)
  kept_end go Kept told h = (refl, h)
  kept_end go (StampIs n) told h = absurd (no_fail _ told ran left h)
  kept_end go (Entry command basis paths) told h = absurd (no_fail _ told ran left h)
  kept_end go Nothing told h = absurd (no_fail _ told ran left h)
  kept_end go (Exit n) told h = absurd (no_fail _ told ran left h)
  kept_end go Signal told h = absurd (no_fail _ told ran left h)
  kept_end go NotStarted told h = absurd (no_fail _ told ran left h)
  kept_end go (Bytes bytes) told h = absurd (no_fail _ told ran left h)
  kept_end go Fault told h = absurd (no_fail _ told ran left h)

  told_end : (go : List Path → InteractionTree) (o : Result (List Path) (ℕ × ℕ)) (told : List Exchange) → Follows (told_paths go o) told (Over ran left) → (paths : List Path) × (o ≡ Ok paths) × Follows (go paths) told (Over ran left)
  told_end go (Ok paths) told h = (paths, refl, h)
  told_end go (Err fault) told h = absurd (no_fail _ told ran left h)

  read_end : (meaning : Meaning) (go : List Path → InteractionTree) (r : Answer) (told : List Exchange) → Follows (read meaning go r) told (Over ran left) → (paths : List Path) × GivesPaths meaning paths r × Follows (go paths) told (Over ran left)
  read_end meaning go (Bytes bytes) told h = told_end go (meaning bytes) told h
  read_end meaning go Nothing told h = ([], refl, h)
  read_end meaning go (StampIs n) told h = absurd (no_fail _ told ran left h)
  read_end meaning go (Entry command basis paths) told h = absurd (no_fail _ told ran left h)
  read_end meaning go (Exit n) told h = absurd (no_fail _ told ran left h)
  read_end meaning go Signal told h = absurd (no_fail _ told ran left h)
  read_end meaning go NotStarted told h = absurd (no_fail _ told ran left h)
  read_end meaning go Kept told h = absurd (no_fail _ told ran left h)
  read_end meaning go Fault told h = absurd (no_fail _ told ran left h)

  -- ---- one question

  ask_end : (q : Request) (k : Answer → InteractionTree) (told : List Exchange) → Follows (Ask q k) told (Over ran left) → (r : Answer) × (more : List Exchange) × (told ≡ (q, r) ∷ more) × Follows (k r) more (Over ran left)
  ask_end q k [] f = absurd (no_ask q k ran left f)
  ask_end q k (x ∷ told) f = (x.1, told, ap (λ (y : Exchange). y ∷ told) (exchange x q x.1 f.0 refl), f.1)

  -- ---- lists of questions

  inputs_end : (is : List Given) (go : List ℕ → InteractionTree) (told : List Exchange) → Follows (inputs is go) told (Over ran left)
      → (ts : List ℕ) × (more : List Exchange) × AreStamps is ts × (told ≡ input_exchanges is ts ++ more) × Follows (go ts) more (Over ran left)
  inputs_end [] go told f = ([], told, tt, refl, f)
  inputs_end (SourceFile n path ∷ others) go told f =
      let next : ℕ → InteractionTree = λ t. inputs others (λ ts. go (t ∷ ts)) in
      let a = ask_end (Stat path) (needed n next) told f in
      let b = needed_end n next a.0 a.1 a.3 in
      let c = inputs_end others (λ ts. go (b.0 ∷ ts)) a.1 b.3 in
      (b.0 ∷ c.0, c.1, (b.2, c.2), a.2 ∙ ap (λ (r : Answer). (Stat path, r) ∷ a.1) b.1 ∙ ap (λ (l : List Exchange). (Stat path, StampIs b.0) ∷ l) c.3, c.4)
  inputs_end (Made t changed ∷ others) go told f =
      let c = inputs_end others (λ ts. go (t ∷ ts)) told f in
      (t ∷ c.0, c.1, (refl, c.2), c.3, c.4)

  stamps_end : (ps : List Path) (go : List ℕ → InteractionTree) (told : List Exchange) → Follows (stamps ps go) told (Over ran left)
      → (ts : List ℕ) × (more : List Exchange) × (length ts ≡ length ps) × (told ≡ file_exchanges ps ts ++ more) × Follows (go ts) more (Over ran left)
  stamps_end [] go told f = ([], told, refl, refl, f)
  stamps_end (path ∷ others) go told f =
      let next : ℕ → InteractionTree = λ t. stamps others (λ ts. go (t ∷ ts)) in
      let a = ask_end (Stat path) (stamped next) told f in
      let b = stamped_end next a.0 a.1 a.3 in
      let c = stamps_end others (λ ts. go (b.0 ∷ ts)) a.1 b.2 in
      (b.0 ∷ c.0, c.1, ap suc c.2, a.2 ∙ ap (λ (r : Answer). (Stat path, r) ∷ a.1) b.1 ∙ ap (λ (l : List Exchange). (Stat path, StampIs b.0) ∷ l) c.3, c.4)

  depfile_end : (meaning : Meaning) (path : List ℕ) (go : List Path → InteractionTree) (told : List Exchange) → Follows (depfile meaning path go) told (Over ran left)
      → (paths : List Path) × (listing : List Exchange) × (more : List Exchange) × ReadsDepfile meaning path paths listing × (told ≡ listing ++ more) × Follows (go paths) more (Over ran left)
  depfile_end meaning [] go told f = ([], [], told, (refl, refl), refl, f)
  depfile_end meaning (c ∷ cs) go told f =
      let a = ask_end (Deps (c ∷ cs)) (read meaning go) told f in
      let b = read_end meaning go a.0 a.1 a.3 in
      (b.0, (Deps (c ∷ cs), a.0) ∷ [], a.1, (a.0, refl, b.1), a.2, b.2)

-- ---- a command edge

module _ (meaning : Meaning) (c : Command) where
  -- what a dirty edge did
  record Did (named old : List ℕ) (told : List Exchange) (left : Left) : Type 0 where
    paths : List Path
    reading : List Exchange
    reads : ReadsDepfile meaning c.depfile paths reading
    path_stamps : List ℕ
    all_paths : length path_stamps ≡ length paths
    new : List ℕ
    all_outputs : length new ≡ length c.outputs
    is : told ≡ (Run c.command c.outputs, Exit 0) ∷ (reading ++ (file_exchanges paths path_stamps ++ ((Keep (name c) c.command (greatest (named ++ path_stamps)) paths, Kept) ∷ file_exchanges c.outputs new)))
    changes : left ≡ changed c.restat old new

  -- ---- what is left of the rule, stage by stage

  abbrev pub changing : (old new : List ℕ) → InteractionTree
  changing old new = Over true (changed c.restat old new)

  abbrev pub keep_of : (named : List ℕ) (paths : List Path) (swept : List ℕ) → Request
  keep_of named paths swept = Keep (name c) c.command (greatest (named ++ swept)) paths

  abbrev pub keeping : (named old : List ℕ) (paths : List Path) (swept : List ℕ) → InteractionTree
  keeping named old paths swept = Ask (keep_of named paths swept) (kept (stamps c.outputs (changing old)))

  abbrev pub sweeping : (named old : List ℕ) (paths : List Path) → InteractionTree
  sweeping named old paths = stamps paths (keeping named old paths)

  abbrev pub deciding : (named old : List ℕ) (entry : Option Recorded) (swept : List ℕ) → InteractionTree
  deciding named old entry swept = if is_dirty c named old entry swept then runs meaning c named old else Over false (unchanged old)

  abbrev pub recording : (named old : List ℕ) (entry : Option Recorded) → InteractionTree
  recording named old entry = stamps (paths_in entry) (deciding named old entry)

  abbrev pub recalling : (named old : List ℕ) → InteractionTree
  recalling named old = Ask (Recall (name c)) (recalled (recording named old))

  abbrev pub stamping : (named : List ℕ) → InteractionTree
  stamping named = stamps c.outputs (recalling named)

  append_none : (xs : List Exchange) → xs ++ [] ≡ xs
  append_none [] = refl
  append_none (x ∷ xs) = ap (λ (l : List Exchange). x ∷ l) (append_none xs)

  runs_end : (named old : List ℕ) (told : List Exchange) (ran : Bool) (left : Left) → Follows (runs meaning c named old) told (Over ran left) → (ran ≡ true) × Did named old told left
  runs_end named old told ran left f =
      let a = ask_end ran left (Run c.command c.outputs) (exited (depfile meaning c.depfile (sweeping named old))) told f in
      let b = exited_end ran left (depfile meaning c.depfile (sweeping named old)) a.0 a.1 a.3 in
      let d = depfile_end ran left meaning c.depfile (sweeping named old) a.1 b.1 in
      let s = stamps_end ran left d.0 (keeping named old d.0) d.2 d.5 in
      let k = ask_end ran left (keep_of named d.0 s.0) (kept (stamps c.outputs (changing old))) s.1 s.4 in
      let o = kept_end ran left (stamps c.outputs (changing old)) k.0 k.1 k.3 in
      let n = stamps_end ran left c.outputs (changing old) k.1 o.1 in
      let e = at_end true ran (changed c.restat old n.0) left n.1 n.4 in
      let last : k.1 ≡ file_exchanges c.outputs n.0 = n.3 ∙ ap (λ (l : List Exchange). file_exchanges c.outputs n.0 ++ l) e.0 ∙ append_none (file_exchanges c.outputs n.0) in
      let keeps : s.1 ≡ (Keep (name c) c.command (greatest (named ++ s.0)) d.0, Kept) ∷ file_exchanges c.outputs n.0 =
      k.2 ∙ ap (λ (r : Answer). (Keep (name c) c.command (greatest (named ++ s.0)) d.0, r) ∷ k.1) o.0 ∙ ap (λ (l : List Exchange). (Keep (name c) c.command (greatest (named ++ s.0)) d.0, Kept) ∷ l) last in
      let behind : a.1 ≡ d.1 ++ (file_exchanges d.0 s.0 ++ ((Keep (name c) c.command (greatest (named ++ s.0)) d.0, Kept) ∷ file_exchanges c.outputs n.0)) =
      d.4 ∙ ap (λ (l : List Exchange). d.1 ++ l) (s.3 ∙ ap (λ (l : List Exchange). file_exchanges d.0 s.0 ++ l) keeps) in (
        sym e.1,
        record {
          paths = d.0;
          reading = d.1;
          reads = d.3;
          path_stamps = s.0;
          all_paths = s.2;
          new = n.0;
          all_outputs = n.2;
          is = a.2 ∙ ap (λ (r : Answer). (Run c.command c.outputs, r) ∷ a.1) b.0 ∙ ap (λ (l : List Exchange). (Run c.command c.outputs, Exit 0) ∷ l) behind;
          changes = sym e.2;
        },
      )

  by_verdict : (observed : Observations) (before more : List Exchange) → Observes c observed before → (ran : Bool) (left : Left) (verdict : Bool) → is_dirty_by c observed ≡ verdict
      → Follows (if verdict then runs meaning c observed.named observed.outputs else Over false (unchanged observed.outputs)) more (Over ran left) → Succeeds false meaning c ran (before ++ more) left
  by_verdict observed before more observes ran left true dirty f =
      let d = runs_end observed.named observed.outputs more ran left f in
      let did = d.1 in
      subst (λ (b : Bool). Succeeds false meaning c b (before ++ more) left) (sym d.0) (record {
        observations = observed;
        before = before;
        observes = observes;
        dirty = dirty;
        paths = did.paths;
        reading = did.reading;
        reads = did.reads;
        path_stamps = did.path_stamps;
        all_paths = did.all_paths;
        new = did.new;
        all_outputs = did.all_outputs;
        is = ap (λ (l : List Exchange). before ++ l) did.is;
        changes = did.changes;
      })
  by_verdict observed before more observes ran left false clean f =
      let e = at_end false ran (unchanged observed.outputs) left more f in
      subst (λ (b : Bool). Succeeds false meaning c b (before ++ more) left) e.1
      (subst (λ (l : List Exchange). Succeeds false meaning c false (before ++ l) left) (sym e.0)
      (subst (λ (l : List Exchange). Succeeds false meaning c false l left) (sym (append_none before)) (record { observations = observed; observes = observes; clean = clean; keeps = sym e.2 })))

  does_end : (told : List Exchange) (ran : Bool) (left : Left) → Follows (does meaning c) told (Over ran left) → Succeeds false meaning c ran told left
  does_end told ran left f =
      let a = inputs_end ran left (asked c.named c.order_only) (λ ts. inputs c.named stamping) told f in
      let b = inputs_end ran left c.named stamping a.1 a.4 in
      let o = stamps_end ran left c.outputs (recalling b.0) b.1 b.4 in
      let q = ask_end ran left (Recall (name c)) (recalled (recording b.0 o.0)) o.1 o.4 in
      let r = recalled_end ran left (recording b.0 o.0) q.0 q.1 q.3 in
      let s = stamps_end ran left (paths_in r.0) (deciding b.0 o.0 r.0) q.1 r.2 in
      let observed : Observations = record { order_only = a.0; named = b.0; outputs = o.0; entry = r.0; recorded = s.0 } in
      let sweep = file_exchanges (paths_in r.0) s.0 in
      let recall : o.1 ≡ ((Recall (name c), entry_reply r.0) ∷ sweep) ++ s.1 =
      q.2 ∙ ap (λ (x : Answer). (Recall (name c), x) ∷ q.1) r.1 ∙ ap (λ (l : List Exchange). (Recall (name c), entry_reply r.0) ∷ l) s.3 in
      let olds : b.1 ≡ (file_exchanges c.outputs o.0 ++ (Recall (name c), entry_reply r.0) ∷ sweep) ++ s.1 =
      o.3 ∙ ap (λ (l : List Exchange). file_exchanges c.outputs o.0 ++ l) recall ∙ sym (append_assoc (file_exchanges c.outputs o.0) ((Recall (name c), entry_reply r.0) ∷ sweep) s.1) in
      let names : a.1 ≡ (input_exchanges c.named b.0 ++ (file_exchanges c.outputs o.0 ++ (Recall (name c), entry_reply r.0) ∷ sweep)) ++ s.1 =
      b.3 ∙ ap (λ (l : List Exchange). input_exchanges c.named b.0 ++ l) olds ∙ sym (append_assoc (input_exchanges c.named b.0) (file_exchanges c.outputs o.0 ++ (Recall (name c), entry_reply r.0) ∷ sweep) s.1) in
      let before = input_exchanges (asked c.named c.order_only) a.0 ++ (input_exchanges c.named b.0 ++ (file_exchanges c.outputs o.0 ++ (Recall (name c), entry_reply r.0) ∷ sweep)) in
      let all : told ≡ before ++ s.1 =
      a.3 ∙ ap (λ (l : List Exchange). input_exchanges (asked c.named c.order_only) a.0 ++ l) names
      ∙ sym (append_assoc (input_exchanges (asked c.named c.order_only) a.0) (input_exchanges c.named b.0 ++ (file_exchanges c.outputs o.0 ++ (Recall (name c), entry_reply r.0) ∷ sweep)) s.1) in
      let observes : Observes c observed before = record { order_only = a.2; named = b.2; outputs = o.2; recorded = s.2; is = refl } in
      subst (λ (l : List Exchange). Succeeds false meaning c ran l left) (sym all) (by_verdict observed before s.1 observes ran left (is_dirty_by c observed) refl s.4)

-- ---- a phony

files_run_nothing : (ps : List Path) (ts : List ℕ) (more : List Exchange) → RunsNothing more → RunsNothing (file_exchanges ps ts ++ more)
files_run_nothing [] ts more h = h
files_run_nothing (p ∷ ps) [] more h = h
files_run_nothing (p ∷ ps) (t ∷ ts) more h = files_run_nothing ps ts more h

inputs_run_nothing : (is : List Given) (ts : List ℕ) (more : List Exchange) → RunsNothing more → RunsNothing (input_exchanges is ts ++ more)
inputs_run_nothing [] ts more h = h
inputs_run_nothing (SourceFile f path ∷ is) [] more h = h
inputs_run_nothing (Made t changed ∷ is) [] more h = h
inputs_run_nothing (SourceFile f path ∷ is) (t ∷ ts) more h = inputs_run_nothing is ts more h
inputs_run_nothing (Made stamp changed ∷ is) (t ∷ ts) more h = inputs_run_nothing is ts more h

nothing_more : (told : List Exchange) → told ≡ [] → RunsNothing told
nothing_more told is = subst RunsNothing (sym is) tt

module _ (c : Command) where
  alone_end : (told : List Exchange) (ran : Bool) (left : Left) → Follows (alone c.outputs) told (Over ran left) → (ran ≡ false) × RunsNothing told
  alone_end told ran left f =
      let go : List ℕ → InteractionTree = λ ts. Over false (map (λ (t : ℕ). (t, t == 0)) ts) in
      let a = stamps_end ran left c.outputs go told f in
      let e = at_end false ran (map (λ (t : ℕ). (t, t == 0)) a.0) left a.1 a.4 in
      (sym e.1, subst RunsNothing (sym a.3) (files_run_nothing c.outputs a.0 a.1 (nothing_more a.1 e.0)))

  abbrev gathered : (named own : List ℕ) → InteractionTree
  gathered named own = Over false (map (λ (path : Path). (greatest (named ++ own), some_changed c.named)) c.outputs)

  files_end : (named : List ℕ) (told : List Exchange) (ran : Bool) (left : Left) → Follows (stamps c.outputs (gathered named)) told (Over ran left) → (ran ≡ false) × RunsNothing told
  files_end named told ran left f =
      let a = stamps_end ran left c.outputs (gathered named) told f in
      let e = at_end false ran (map (λ (path : Path). (greatest (named ++ a.0), some_changed c.named)) c.outputs) left a.1 a.4 in
      (sym e.1, subst RunsNothing (sym a.3) (files_run_nothing c.outputs a.0 a.1 (nothing_more a.1 e.0)))

  own_files_end : (b : Baseline) (named : List ℕ) (told : List Exchange) (ran : Bool) (left : Left) → Follows (own_files b c.outputs (gathered named)) told (Over ran left) → (ran ≡ false) × RunsNothing told
  own_files_end Outputs named told ran left f =
      let e = at_end false ran (map (λ (path : Path). (greatest (named ++ []), some_changed c.named)) c.outputs) left told f in
      (sym e.1, nothing_more told e.0)
  own_files_end Basis named told ran left f = files_end named told ran left f
  own_files_end OutputsAndBasis named told ran left f = files_end named told ran left f

  gathers_end : (told : List Exchange) (ran : Bool) (left : Left) → Follows (gathers c) told (Over ran left) → (ran ≡ false) × RunsNothing told
  gathers_end told ran left f =
      let go : List ℕ → InteractionTree = λ named. own_files c.baseline c.outputs (gathered named) in
      let a = inputs_end ran left (asked c.named c.order_only) (λ ts. inputs c.named go) told f in
      let b = inputs_end ran left c.named go a.1 a.4 in
      let o = own_files_end c.baseline b.0 b.1 ran left b.4 in
      let after : RunsNothing a.1 = subst RunsNothing (sym b.3) (inputs_run_nothing c.named b.0 b.1 o.1) in
      (o.0, subst RunsNothing (sym a.3) (inputs_run_nothing (asked c.named c.order_only) a.0 a.1 after))

  phony_by : (b : Bool) (told : List Exchange) (ran : Bool) (left : Left) → Follows (if b then alone c.outputs else gathers c) told (Over ran left) → (ran ≡ false) × RunsNothing told
  phony_by true told ran left f = alone_end told ran left f
  phony_by false told ran left f = gathers_end told ran left f

pub ends_are_plain : EndsArePlain
ends_are_plain true meaning c told ran left f = phony_by c (has_none c.named && has_none c.order_only) told ran left f
ends_are_plain false meaning c told ran left f = does_end meaning c told ran left f
