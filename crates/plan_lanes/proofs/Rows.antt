-- The definitions, computed on small journals.
use Rattle.std.proofs.Common.{◌≡◌, ◌+◌, ◌<◌, ℕ, zero, suc, true, false, List, [], ◌∷◌, Some, None, refl, arith}
use Rattle.std.specs.Prelude.{slice_get, Contains}
use Rattle.plan_image.specs.declared.body.Instr.TheVariants as op
use Rattle.plan_image.specs.declared.image.Sort.TheVariants as sort
use Rattle.plan_image.specs.declared.image.EdgeCode.TheVariants.{Own}
use Rattle.plan_image.specs.declared.image.Parts.{Parts}
use Rattle.plan_verify.specs.Turn.{Keep, Run, Stat, turn}
use Rattle.plan_machine.specs.declared.event.reply.Reply.TheVariants as reply
use Rattle.plan_machine.specs.declared.event.Event.{Event}
use Rattle.plan_machine.specs.declared.event.Event.TheVariants.{Start, Step, Reply as Hear}
use Rattle.plan_machine.specs.declared.event.Mark.TheVariants as mark
use Rattle.plan_machine.specs.Runs.{Opens}
use Rattle.plan_machine.specs.State.{Unbegun, Active, State}
use Rattle.plan_machine.specs.Step.{step}
use Rattle.plan_lanes.specs.declared.batch.OwnedRequest.TheVariants as asked
use Rattle.plan_lanes.specs.declared.board.Report.{Report}
use Rattle.plan_lanes.specs.declared.fault.LaneFault.TheVariants.{NoLane}
use Rattle.plan_lanes.specs.Faults.{number_of}
use Rattle.plan_lanes.specs.Journals.{Rule, IsLastOf, IsAllowed}
use Rattle.plan_lanes.specs.Permits.{IsPermitted}
use Rattle.plan_lanes.specs.Proceeds as proceeds
use Rattle.plan_lanes.specs.Progress.{Progress, opened_with}
use Rattle.plan_lanes.specs.Questions.{is_run, shown}
use Rattle.plan_lanes.specs.Recalled.{AreAmong, paths_of}
use Rattle.plan_lanes.specs.Running.{awaits_run}
use Rattle.plan_lanes.specs.LocalRuns.{AppliesAll}
use Rattle.plan_lanes.specs.StampRows.{HaveStamps}

stat_is_no_run : is_run (shown (asked.Stat (97 ∷ []))) ≡ false
stat_is_no_run = refl

-- a question of a sweep asks for the path at its place
sweep_asks_for_one : shown (asked.Sweep ((97 ∷ []) ∷ (98 ∷ []) ∷ []) 1) ≡ Stat (98 ∷ [])
sweep_asks_for_one = refl

run_is_one : shown (asked.Run (120 ∷ []) ((97 ∷ []) ∷ [])) ≡ Run (120 ∷ []) ((97 ∷ []) ∷ [])
run_is_one = refl

-- an order to keep an entry asks for just this entry
order_is_shown : shown (asked.Keep (record { output = 97 ∷ []; command = 120 ∷ []; basis = 7; paths = (98 ∷ []) ∷ [] })) ≡ Keep (97 ∷ []) (120 ∷ []) 7 ((98 ∷ []) ∷ [])
order_is_shown = refl

same_byte : (n m : ℕ) → n ∷ [] ≡ m ∷ [] → n ≡ m
same_byte n m same = cc

-- a permit for the command `y` is none for a question to run `x`
other_command_not_permitted : IsPermitted 3 (Run (120 ∷ []) []) (record { edge = 3; console = false; command = 121 ∷ []; observed = None }) → ⊥
other_command_not_permitted h = let same : 121 ≡ 120 = same_byte 121 120 h.2 in omega (arith, same)

entry_names_its_paths : paths_of (reply.Entry (record { command = []; basis = 0; paths = (97 ∷ []) ∷ [] })) ≡ (97 ∷ []) ∷ []
entry_names_its_paths = refl

nothing_names_no_paths : paths_of reply.Nothing ≡ []
nothing_names_no_paths = refl

-- of the paths `a` and `b`, `a` is found if it is wanted
wanted_path_is_found : (found : List (List ℕ)) → AreAmong ((97 ∷ []) ∷ []) ((97 ∷ []) ∷ (98 ∷ []) ∷ []) found → Contains found (97 ∷ [])
wanted_path_is_found found among = among.all (97 ∷ []) (0, omega arith, refl) (0, omega arith, refl)

-- no path is found that the entry doesn't name
other_path_is_not_found : AreAmong [] [] ((97 ∷ []) ∷ []) → ⊥
other_path_is_not_found among =
    let there : Contains {X = List ℕ} [] (97 ∷ []) = among.some (97 ∷ []) (0, omega arith, refl) in
    let lt : there.0 < 0 = there.1 in
    omega (arith, lt)

no_lane : (r : Report) → number_of (NoLane r) ≡ 121
no_lane r = refl

run_is_awaited : awaits_run (Some (Run (120 ∷ []) ((97 ∷ []) ∷ []))) ≡ true
run_is_awaited = refl

stamp_is_no_run : awaits_run (Some (Stat (97 ∷ []))) ≡ false
stamp_is_no_run = refl

-- of these marks one says that an edge asked
one_asked : proceeds.asking (mark.Started 3 ∷ mark.Asked 5 ∷ mark.Moved 4 ∷ []) ≡ 5 ∷ []
one_asked = refl

-- ---- one edge that asks for a stamp

one : Parts
one = record {
  texts = (120 ∷ []) ∷ [];
  files = (97 ∷ []) ∷ [];
  pools = [];
  slots = [];
  bodies = None;
  edges = record { sort = sort.Phony; pool = None; rank = 0; label = 0; outputs = 0 ∷ []; waits = []; code = Own (op.Stat 0 ∷ op.Drop ∷ op.End ∷ []) } ∷ [];
  defaults = 0 ∷ [];
}

first : State
first = record { edges = Unbegun ∷ []; slots = [] }

begun : State
begun = record { edges = Active (record { place = 0; stack = []; holding = false; ran = false; asked = false }) ∷ []; slots = [] }

asking : State
asking = record { edges = Active (record { place = 0; stack = []; holding = false; ran = false; asked = true }) ∷ []; slots = [] }

journal : List Event
journal = Start 0 ∷ Step 0 ∷ Hear 0 (reply.Stamp 7) ∷ []

-- its question has the number 1: the step that asked
asked_by_step : IsLastOf 0 1 (Start 0 ∷ Step 0 ∷ [])
asked_by_step = record { event = Step 0; there = refl; is = refl; last = λ k other past there. absurd (none k other past there) }
  where
    none : (k : ℕ) (other : Event) → 1 < k → slice_get (Start 0 ∷ Step 0 ∷ []) k ≡ Some other → ⊥
    none zero other past there = omega (arith, past)
    none (suc zero) other past there = omega (arith, past)
    none (suc (suc k)) other past there = absurd cc

-- a world that replies to each question its number and 7
adds_seven : Rule
adds_seven number question given = given ≡ reply.Stamp (number + 7)

-- doesn't allow this journal, in which the question 1 got the reply of question 0
not_allowed : Opens one (0 ∷ []) first → IsAllowed adds_seven one (record { jobs = 1; keep = 0 }) (0 ∷ []) journal → ⊥
unfolding one first begun asking journal adds_seven step turn
not_allowed opens allowed =
    let given : reply.Stamp 7 ≡ reply.Stamp 8 =
    allowed 2 0 (reply.Stamp 7) asking (mark.Started 0 ∷ mark.Asked 0 ∷ []) (Stat (97 ∷ [])) 1 refl (record { start = first; opens = opens; run = (begun, refl, (asking, refl, refl)) }) refl asked_by_step in
    cc

-- ---- stamps of a row

-- a world in which each file has the stamp 5
abbrev always_five : Rule
always_five number question given = given ≡ reply.Stamp 5

-- has these stamps for two of three paths
two_of_three : HaveStamps always_five ((97 ∷ []) ∷ (98 ∷ []) ∷ (99 ∷ []) ∷ []) (5 ∷ 5 ∷ [])
two_of_three = (λ number. refl, (λ number. refl, tt))

-- but the one that adds seven allows no stamp under every number
abbrev adds_number : Rule
adds_number number question given = given ≡ reply.Stamp (number + 7)

none_ahead : HaveStamps adds_number ((97 ∷ []) ∷ []) (7 ∷ []) → ⊥
none_ahead have = let clash : reply.Stamp 7 ≡ reply.Stamp 8 = have.0 1 in cc

-- ---- many events at once

fresh : Progress
fresh = record { opened = opened_with one (record { jobs = 1; keep = 0 }) (0 ∷ []); state = first; journal = []; marks = [] }

later : Progress
later = record { opened = opened_with one (record { jobs = 1; keep = 0 }) (0 ∷ []); state = asking; journal = Start 0 ∷ Step 0 ∷ []; marks = [] }

-- the edge starts and asks, and neither mark is observable
both_applied : AppliesAll fresh later (Start 0 ∷ Step 0 ∷ []) (mark.Started 0 ∷ mark.Asked 0 ∷ [])
unfolding one first begun asking fresh later step turn
both_applied = record { opened = refl; run = (begun, refl, (asking, refl, refl)); journal = refl; marks = refl }
