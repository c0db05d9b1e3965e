-- Along the rule of an edge no other command is run than its own.
use Rattle.std.proofs.Common.{ℕ, zero, suc, Bool, true, false, Result, Ok, Err, List, [], ◌∷◌, Option, Some, None, refl, sym, subst}
use Rattle.std.specs.Prelude.{◌&&◌, if◌then◌else◌}
use Rattle.plan_verify.specs.declared.value.Cause.{Cause}
use Rattle.plan_verify.specs.Turn.{Meaning, Request, Reply, StampIs, Entry, Nothing, Exit, Signal, NotStarted, Bytes, Kept, Fault}
use Rattle.plan_compile.specs.declared.baseline.Baseline.{Baseline}
use Rattle.plan_compile.specs.declared.baseline.Baseline.TheVariants.{Outputs, Basis, OutputsAndBasis}
use Rattle.plan_compile.specs.InteractionTree.{Left, InteractionTree, Ask, Over, Fail, Follows}
use Rattle.plan_compile.specs.Rule.{Path, Given, SourceFile, Made, Command, Recorded, needed, stamped, recalled, exited, told_paths, read, kept, inputs, stamps, asked, is_dirty, paths_in, unchanged, changed, depfile, runs, does, has_none, own_files, does_phony}
use Rattle.plan_compile.specs.Told.{edge_does}
use Rattle.plan_laws.specs.Manifests.{IsOwnRun, AreOwnRuns}

-- an interaction tree that runs nothing but the command of the edge
data OnlyOwn (c : Command) : InteractionTree → Type 0 where
  asks : {q : Request} {k : Reply → InteractionTree} → IsOwnRun c q → ((r : Reply) → OnlyOwn c (k r)) → OnlyOwn c (Ask q k)
  is_over : {ran : Bool} {left : Left} → OnlyOwn c (Over ran left)
  has_failed : {cause : Cause} → OnlyOwn c (Fail cause)

own_runs : (c : Command) (interaction : InteractionTree) (told : List (Request × Reply)) (rest : InteractionTree) → OnlyOwn c interaction → Follows interaction told rest → AreOwnRuns c told
own_runs c interaction [] rest own f = tt
own_runs c (Ask q k) (x ∷ told) rest (asks here more) f = (subst (IsOwnRun c) (sym f.0) here, own_runs c (k x.1) told rest (more x.1) f.1)
own_runs c (Over ran left) (x ∷ told) rest own f = absurd f
own_runs c (Fail cause) (x ∷ told) rest own f = absurd f

module _ (c : Command) where
  needed_own : (f : ℕ) (go : ℕ → InteractionTree) → ((t : ℕ) → OnlyOwn c (go t)) → (r : Reply) → OnlyOwn c (needed f go r)
  needed_own f go own (StampIs zero) = has_failed
  needed_own f go own (StampIs (suc n)) = own (suc n)
  needed_own f go own (Entry command basis paths) = has_failed
  needed_own f go own Nothing = has_failed
  needed_own f go own (Exit n) = has_failed
  needed_own f go own Signal = has_failed
  needed_own f go own NotStarted = has_failed
  needed_own f go own (Bytes bytes) = has_failed
  needed_own f go own Kept = has_failed
  needed_own f go own Fault = has_failed

  stamped_own : (go : ℕ → InteractionTree) → ((t : ℕ) → OnlyOwn c (go t)) → (r : Reply) → OnlyOwn c (stamped go r)
  stamped_own go own (StampIs n) = own n
  stamped_own go own (Entry command basis paths) = has_failed
  stamped_own go own Nothing = has_failed
  stamped_own go own (Exit n) = has_failed
  stamped_own go own Signal = has_failed
  stamped_own go own NotStarted = has_failed
  stamped_own go own (Bytes bytes) = has_failed
  stamped_own go own Kept = has_failed
  stamped_own go own Fault = has_failed

  recalled_own : (go : Option Recorded → InteractionTree) → ((o : Option Recorded) → OnlyOwn c (go o)) → (r : Reply) → OnlyOwn c (recalled go r)
  recalled_own go own (Entry command basis paths) = own (Some (record { command = command; basis = basis; paths = paths }))
  recalled_own go own Nothing = own None
  recalled_own go own (StampIs n) = has_failed
  recalled_own go own (Exit n) = has_failed
  recalled_own go own Signal = has_failed
  recalled_own go own NotStarted = has_failed
  recalled_own go own (Bytes bytes) = has_failed
  recalled_own go own Kept = has_failed
  recalled_own go own Fault = has_failed

  exited_own : (go : InteractionTree) → OnlyOwn c go → (r : Reply) → OnlyOwn c (exited go r)
  exited_own go own (Exit zero) = own
  exited_own go own (Exit (suc n)) = has_failed
  exited_own go own Signal = has_failed
  exited_own go own (StampIs n) = has_failed
  exited_own go own (Entry command basis paths) = has_failed
  exited_own go own Nothing = has_failed
  exited_own go own NotStarted = has_failed
  exited_own go own (Bytes bytes) = has_failed
  exited_own go own Kept = has_failed
  exited_own go own Fault = has_failed

  told_own : (go : List Path → InteractionTree) → ((ps : List Path) → OnlyOwn c (go ps)) → (r : Result (List Path) (ℕ × ℕ)) → OnlyOwn c (told_paths go r)
  told_own go own (Ok ps) = own ps
  told_own go own (Err fault) = has_failed

  read_own : (meaning : Meaning) (go : List Path → InteractionTree) → ((ps : List Path) → OnlyOwn c (go ps)) → (r : Reply) → OnlyOwn c (read meaning go r)
  read_own meaning go own (Bytes bytes) = told_own go own (meaning bytes)
  read_own meaning go own Nothing = own []
  read_own meaning go own (StampIs n) = has_failed
  read_own meaning go own (Entry command basis paths) = has_failed
  read_own meaning go own (Exit n) = has_failed
  read_own meaning go own Signal = has_failed
  read_own meaning go own NotStarted = has_failed
  read_own meaning go own Kept = has_failed
  read_own meaning go own Fault = has_failed

  kept_own : (go : InteractionTree) → OnlyOwn c go → (r : Reply) → OnlyOwn c (kept go r)
  kept_own go own Kept = own
  kept_own go own (StampIs n) = has_failed
  kept_own go own (Entry command basis paths) = has_failed
  kept_own go own Nothing = has_failed
  kept_own go own (Exit n) = has_failed
  kept_own go own Signal = has_failed
  kept_own go own NotStarted = has_failed
  kept_own go own (Bytes bytes) = has_failed
  kept_own go own Fault = has_failed

  inputs_own : (is : List Given) (go : List ℕ → InteractionTree) → ((ts : List ℕ) → OnlyOwn c (go ts)) → OnlyOwn c (inputs is go)
  inputs_own [] go own = own []
  inputs_own (SourceFile f path ∷ others) go own = asks tt (needed_own f _ (λ t. inputs_own others _ (λ ts. own (t ∷ ts))))
  inputs_own (Made t changed ∷ others) go own = inputs_own others _ (λ ts. own (t ∷ ts))

  stamps_own : (ps : List Path) (go : List ℕ → InteractionTree) → ((ts : List ℕ) → OnlyOwn c (go ts)) → OnlyOwn c (stamps ps go)
  stamps_own [] go own = own []
  stamps_own (path ∷ others) go own = asks tt (stamped_own _ (λ t. stamps_own others _ (λ ts. own (t ∷ ts))))

  own_files_own : (b : Baseline) (ps : List Path) (go : List ℕ → InteractionTree) → ((ts : List ℕ) → OnlyOwn c (go ts)) → OnlyOwn c (own_files b ps go)
  own_files_own Outputs ps go own = own []
  own_files_own Basis ps go own = stamps_own ps go own
  own_files_own OutputsAndBasis ps go own = stamps_own ps go own

  depfile_own : (meaning : Meaning) (path : List ℕ) (go : List Path → InteractionTree) → ((ps : List Path) → OnlyOwn c (go ps)) → OnlyOwn c (depfile meaning path go)
  depfile_own meaning [] go own = own []
  depfile_own meaning (x ∷ xs) go own = asks tt (read_own meaning go own)

  runs_own : (meaning : Meaning) (named old : List ℕ) → OnlyOwn c (runs meaning c named old)
  runs_own meaning named old =
      asks (refl, refl) (exited_own _ (depfile_own meaning c.depfile _ (λ paths. stamps_own paths _ (λ swept. asks tt (kept_own _ (stamps_own c.outputs _ (λ new. is_over)))))))

  either : (b : Bool) (x y : InteractionTree) → OnlyOwn c x → OnlyOwn c y → OnlyOwn c (if b then x else y)
  either true x y own other = own
  either false x y own other = other

  does_own : (meaning : Meaning) → OnlyOwn c (does meaning c)
  does_own meaning =
      inputs_own (asked c.named c.order_only) _ (λ ts. inputs_own c.named _ (λ named. stamps_own c.outputs _ (λ old.
      asks tt (recalled_own _ (λ entry. stamps_own (paths_in entry) _ (λ swept. either (is_dirty c named old entry swept) _ _ (runs_own meaning named old) (is_over {ran = false} {left = unchanged old})))))))

  phony_own : OnlyOwn c (does_phony c)
  phony_own =
      either (has_none c.named && has_none c.order_only) _ _ (stamps_own c.outputs _ (λ ts. is_over))
      (inputs_own (asked c.named c.order_only) _ (λ ts. inputs_own c.named _ (λ us. own_files_own c.baseline c.outputs _ (λ own. is_over))))

  edge_own : (phony : Bool) (meaning : Meaning) → OnlyOwn c (edge_does phony meaning c)
  edge_own true meaning = phony_own
  edge_own false meaning = does_own meaning

pub nothing_else : (phony : Bool) (meaning : Meaning) (c : Command) (told : List (Request × Reply)) (rest : InteractionTree) → Follows (edge_does phony meaning c) told rest → AreOwnRuns c told
nothing_else phony meaning c told rest f = own_runs c (edge_does phony meaning c) told rest (edge_own c phony meaning) f
