-- How often the conversation of an edge that succeeded asks for a command.
use Rattle.std.proofs.Common.{◌≡◌, ℕ, Bool, true, false, List, [], ◌∷◌, ◌++◌, refl, ap, ◌∙◌}
use Rattle.plan_verify.specs.Turn.{Meaning, Stat, Recall, Run, Deps, Keep, Kept, Exit}
use Rattle.plan_compile.specs.InteractionTree.{Left}
use Rattle.plan_compile.specs.Rule.{Path, Given, SourceFile, Made, Command, asked, greatest, paths_in, name}
use Rattle.plan_reasons.specs.Observing.{Exchange, file_exchanges, input_exchanges, Observations, entry_reply, Observes}
use Rattle.plan_laws.specs.Ends.{CommandSucceeded, ReadsDepfile, RunsNothing, commands_in, runs_of, CommandsRunOnce}

commands_both : (a b : List Exchange) → commands_in (a ++ b) ≡ commands_in a ++ commands_in b
commands_both [] b = refl
commands_both ((Run command outputs, r) ∷ a) b = ap (λ (l : List Exchange). (Run command outputs, r) ∷ l) (commands_both a b)
commands_both ((Stat path, r) ∷ a) b = commands_both a b
commands_both ((Recall output, r) ∷ a) b = commands_both a b
commands_both ((Deps path, r) ∷ a) b = commands_both a b
commands_both ((Keep output command basis paths, r) ∷ a) b = commands_both a b

-- what asks for no command changes nothing
none_first : (a b xs : List Exchange) → commands_in a ≡ [] → commands_in b ≡ xs → commands_in (a ++ b) ≡ xs
none_first a b xs none is = commands_both a b ∙ ap (λ (l : List Exchange). l ++ commands_in b) none ∙ is

files_none : (ps : List Path) (ts : List ℕ) → commands_in (file_exchanges ps ts) ≡ []
files_none [] ts = refl
files_none (p ∷ ps) [] = refl
files_none (p ∷ ps) (t ∷ ts) = files_none ps ts

inputs_none : (is : List Given) (ts : List ℕ) → commands_in (input_exchanges is ts) ≡ []
inputs_none [] ts = refl
inputs_none (SourceFile f path ∷ is) [] = refl
inputs_none (Made stamp changed ∷ is) [] = refl
inputs_none (SourceFile f path ∷ is) (t ∷ ts) = inputs_none is ts
inputs_none (Made stamp changed ∷ is) (t ∷ ts) = inputs_none is ts

observes_none : (c : Command) (o : Observations) (told : List Exchange) → Observes c o told → commands_in told ≡ []
observes_none c o told h =
    let recorded : List Exchange = file_exchanges (paths_in o.entry) o.recorded in
    let entry : List Exchange = (Recall (name c), entry_reply o.entry) ∷ recorded in
    let outputs : List Exchange = file_exchanges c.outputs o.outputs ++ entry in
    ap commands_in h.is
    ∙ none_first (input_exchanges (asked c.named c.order_only) o.order_only) (input_exchanges c.named o.named ++ outputs) [] (inputs_none (asked c.named c.order_only) o.order_only)
    (none_first (input_exchanges c.named o.named) outputs [] (inputs_none c.named o.named)
    (none_first (file_exchanges c.outputs o.outputs) entry [] (files_none c.outputs o.outputs) (files_none (paths_in o.entry) o.recorded)))

reading_none : (meaning : Meaning) (path : List ℕ) (paths : List Path) (reading : List Exchange) → ReadsDepfile meaning path paths reading → commands_in reading ≡ []
reading_none meaning [] paths reading h = ap commands_in h.1
reading_none meaning (c ∷ cs) paths reading h = ap commands_in h.1

command_once : (meaning : Meaning) (c : Command) (told : List Exchange) (left : Left) → CommandSucceeded meaning c told left → commands_in told ≡ runs_of true c
command_once meaning c told left h =
    let kept : List Exchange = (Keep (name c) c.command (greatest (h.observations.named ++ h.path_stamps)) h.paths, Kept) ∷ file_exchanges c.outputs h.new in
    let swept : List Exchange = file_exchanges h.paths h.path_stamps ++ kept in
    let after : List Exchange = h.reading ++ swept in
    ap commands_in h.is
    ∙ none_first h.before ((Run c.command c.outputs, Exit 0) ∷ after) (runs_of true c) (observes_none c h.observations h.before h.observes)
    (ap (λ (l : List Exchange). (Run c.command c.outputs, Exit 0) ∷ l)
    (none_first h.reading swept [] (reading_none meaning c.depfile h.paths h.reading h.reads)
    (none_first (file_exchanges h.paths h.path_stamps) kept [] (files_none h.paths h.path_stamps) (files_none c.outputs h.new))))

nothing_runs : (told : List Exchange) → RunsNothing told → commands_in told ≡ []
nothing_runs [] h = refl
nothing_runs ((Run command outputs, r) ∷ told) h = absurd h
nothing_runs ((Stat path, r) ∷ told) h = nothing_runs told h
nothing_runs ((Recall output, r) ∷ told) h = nothing_runs told h
nothing_runs ((Deps path, r) ∷ told) h = nothing_runs told h
nothing_runs ((Keep output command basis paths, r) ∷ told) h = nothing_runs told h

pub commands_run_once : CommandsRunOnce
commands_run_once true meaning c told ran left h = nothing_runs told h.1 ∙ ap (λ (b : Bool). runs_of b c) (let same : false ≡ ran = cc in same)
commands_run_once false meaning c told false left h = observes_none c h.observations told h.observes
commands_run_once false meaning c told true left h = command_once meaning c told left h
