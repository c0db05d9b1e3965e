-- The definitions, computed on small images.
use Rattle.std.proofs.Common.{◌≡◌, ℕ, true, false, List, [], ◌∷◌, Option, Some, None, refl, arith}
use Rattle.plan_image.specs.declared.body.Instr.{Instr}
use Rattle.plan_image.specs.declared.body.Instr.TheVariants as op
use Rattle.plan_image.specs.declared.image.Sort.TheVariants as sort
use Rattle.plan_image.specs.declared.image.EdgeCode.TheVariants.{Own}
use Rattle.plan_image.specs.declared.body.Kind.TheVariants as kind
use Rattle.plan_image.specs.declared.image.Edge.{Edge}
use Rattle.plan_image.specs.declared.image.Parts.{Parts}
use Rattle.plan_verify.specs.declared.value.Value.TheVariants.{Stamp, Flag, Text, Paths}
use Rattle.plan_verify.specs.Turn.{Run, Entry, turn, heard}
use Rattle.plan_schedule.specs.declared.phase.Phase.TheVariants as phase
use Rattle.plan_verify.specs.declared.value.Cause.TheVariants.{DepfileMalformed, Exit}
use Rattle.plan_machine.specs.Limits.{Limits}
use Rattle.plan_machine.specs.declared.event.reply.Reply.TheVariants as reply
use Rattle.plan_machine.specs.declared.event.Event.{Event}
use Rattle.plan_machine.specs.declared.event.Event.TheVariants.{Start, Skip, Stop, Step, Reply as Hear}
use Rattle.plan_machine.specs.declared.event.Mark.{Mark}
use Rattle.plan_machine.specs.declared.event.Mark.TheVariants as mark
use Rattle.plan_machine.specs.declared.event.Outcome.TheVariants.{Failed}
use Rattle.plan_machine.specs.declared.run.refused.Refused.TheVariants.{BadTarget}
use Rattle.plan_machine.specs.Faults.{number_of}
use Rattle.plan_machine.specs.State.{Unbegun, Active, Over, State}
use Rattle.plan_machine.specs.Step.{Stepped, Next, Wrong, NotEnabled, answer_of, step}
use Rattle.plan_machine.specs.Kept.{phases_from}
use Rattle.plan_machine.specs.Requests.{asked_at, asks_by}
use Rattle.plan_machine.specs.LocalRuns.{is_local_step, local_run_events, local_run_marks}
use Rattle.plan_machine.specs.Sweeping.{HasNext, IsMergedRow, row_events, row_marks, sweep_events}
use Rattle.plan_machine.specs.Replaying.{IsReplayFault}
use Rattle.plan_machine.specs.Total.{total_of}
use Rattle.plan_machine.specs.Wanted.{any_outside}
use Rattle.plan_verify.specs.Budget.{image_budget}
use Rattle.plan_machine.specs.Depfile.{depfile}

-- the marks of events, with None for a refused event, which changes nothing
then_marks : State → (State → List (Option Mark)) → Stepped → List (Option Mark)
then_marks s next (Next mid told) = Some told ∷ next mid
then_marks s next (Wrong flaw) = None ∷ next s
then_marks s next NotEnabled = None ∷ next s

marks_of : Parts → Limits → State → List Event → List (Option Mark)
marks_of p limits s [] = []
marks_of p limits s (event ∷ events) = then_marks s (λ t. marks_of p limits t events) (step depfile p limits s event)

-- edges of one pool of depth 1
edge : ℕ → Edge
edge n = record { sort = sort.Command; pool = Some 0; rank = 0; label = 0; outputs = n ∷ []; waits = []; code = Own (op.Take ∷ op.Text 0 ∷ op.Run ∷ op.Release ∷ op.End ∷ []) }

three : Parts
three = record {
  texts = (120 ∷ []) ∷ [];
  files = (97 ∷ []) ∷ (98 ∷ []) ∷ (99 ∷ []) ∷ [];
  pools = record { name = 112 ∷ []; depth = 1 } ∷ [];
  slots = [];
  bodies = None;
  edges = edge 0 ∷ edge 1 ∷ edge 2 ∷ [];
  defaults = 0 ∷ 1 ∷ 2 ∷ [];
}

first : State
first = record { edges = Unbegun ∷ Unbegun ∷ Unbegun ∷ []; slots = [] }

budget_is : image_budget three ≡ 21
unfolding three edge
budget_is = refl

pool_of_one :
    marks_of three (record { jobs = 4; keep = 1 }) first
    (Start 0 ∷ Start 1 ∷ Start 2 ∷ Step 0 ∷ Step 1 ∷ Step 0 ∷ Step 0 ∷ Hear 0 (reply.Exit 0) ∷ Step 0 ∷ Step 1 ∷ [])
    ≡ Some (mark.Started 0) ∷ Some (mark.Started 1) ∷ Some (mark.Started 2) ∷ Some (mark.Took 0) ∷ None ∷ Some (mark.Moved 0) ∷ Some (mark.Asked 0) ∷ Some (mark.Answered 0)
    ∷ Some (mark.Released 0) ∷ Some (mark.Took 1) ∷ []
unfolding marks_of then_marks three edge first step turn heard
pool_of_one = refl

-- one failure reaches the failure limit 1: the others are stopped, one of them at Take
one_fails :
    marks_of three (record { jobs = 4; keep = 1 }) first
    (Start 0 ∷ Start 1 ∷ Stop 2 ∷ Step 0 ∷ Step 0 ∷ Step 0 ∷ Hear 0 (reply.Bytes []) ∷ Hear 0 (reply.Exit 2) ∷ Step 1 ∷ Stop 1 ∷ Start 2 ∷ Stop 2 ∷ [])
    ≡ Some (mark.Started 0) ∷ Some (mark.Started 1) ∷ None ∷ Some (mark.Took 0) ∷ Some (mark.Moved 0) ∷ Some (mark.Asked 0) ∷ None ∷ Some (mark.Failed 0 (Exit 2))
    ∷ None ∷ Some (mark.Stopped 1) ∷ Some (mark.Started 2) ∷ Some (mark.Stopped 2) ∷ []
unfolding marks_of then_marks three edge first step turn heard
one_fails = refl

-- edge 0 holds a job token and is at Run
running : State
running = record { edges = Active (record { place = 2; stack = Text (120 ∷ []) ∷ []; holding = true; ran = false; asked = false }) ∷ Unbegun ∷ Unbegun ∷ []; slots = [] }

asks_to_run : asks_by three (record { jobs = 4; keep = 0 }) running (Step 0) ≡ Some (Run (120 ∷ []) ((97 ∷ []) ∷ []))
unfolding three edge running turn
asks_to_run = refl

start_asks_nothing : asks_by three (record { jobs = 4; keep = 0 }) running (Start 1) ≡ None
unfolding three edge running
start_asks_nothing = refl

-- nothing was asked yet
none_asked : asked_at three running 0 ≡ None
unfolding three edge running
none_asked = refl

commands : total_of three running ≡ 3
unfolding three edge running
commands = refl

phases : phases_from three 0 running.edges ≡ phase.Runnable true ∷ phase.Unbegun ∷ phase.Unbegun ∷ []
unfolding three edge running
phases = refl

entry_is : answer_of (reply.Entry (record { command = 120 ∷ []; basis = 7; paths = (97 ∷ []) ∷ [] })) ≡ Entry (120 ∷ []) 7 ((97 ∷ []) ∷ [])
entry_is = refl

-- edge 0 runs, and its output keeps an old stamp; edge 1, which is newer, runs no command
alone : ℕ → List ℕ → List Instr → Edge
alone n waits code = record { sort = sort.Command; pool = None; rank = n; label = 0; outputs = n ∷ []; waits = waits; code = Own code }

chain : Parts
chain = record {
  texts = (120 ∷ []) ∷ [];
  files = (97 ∷ []) ∷ (98 ∷ []) ∷ [];
  pools = [];
  slots = record { owner = 0; kind = kind.Stamp } ∷ [];
  bodies = None;
  edges = alone 0 [] (op.Take ∷ op.Text 0 ∷ op.Run ∷ op.Release ∷ op.Stat 0 ∷ op.Store 0 ∷ op.End ∷ [])
      ∷ alone 1 (0 ∷ []) (op.Load 0 ∷ op.Stat 1 ∷ op.Before ∷ op.JumpIf 8 ∷ op.Take ∷ op.Text 0 ∷ op.Run ∷ op.Release ∷ op.End ∷ []) ∷ [];
  defaults = 1 ∷ [];
}

restat_chain :
    marks_of chain (record { jobs = 1; keep = 1 }) (record { edges = Unbegun ∷ Unbegun ∷ []; slots = None ∷ [] })
    (Start 1 ∷ Start 0 ∷ Step 0 ∷ Step 0 ∷ Step 0 ∷ Hear 0 (reply.Exit 0) ∷ Step 0 ∷ Step 0 ∷ Hear 0 (reply.Stamp 5) ∷ Step 0 ∷ Step 0
    ∷ Start 1 ∷ Step 1 ∷ Step 1 ∷ Hear 1 (reply.Stamp 7) ∷ Step 1 ∷ Step 1 ∷ Step 1 ∷ [])
    ≡ None ∷ Some (mark.Started 0) ∷ Some (mark.Took 0) ∷ Some (mark.Moved 0) ∷ Some (mark.Asked 0) ∷ Some (mark.Answered 0) ∷ Some (mark.Released 0) ∷ Some (mark.Asked 0) ∷ Some (mark.Answered 0)
    ∷ Some (mark.Moved 0) ∷ Some (mark.Ended 0 true)
    ∷ Some (mark.Started 1) ∷ Some (mark.Moved 1) ∷ Some (mark.Asked 1) ∷ Some (mark.Answered 1) ∷ Some (mark.Moved 1) ∷ Some (mark.Moved 1) ∷ Some (mark.Ended 1 false) ∷ []
unfolding marks_of then_marks chain alone step turn heard
restat_chain = refl

-- an edge that asked to run its command receives a stamp, which it didn't ask for
wrong_replies :
    marks_of three (record { jobs = 4; keep = 0 }) first (Start 0 ∷ Step 0 ∷ Step 0 ∷ Step 0 ∷ Hear 0 (reply.Stamp 1) ∷ Hear 0 (reply.Exit 0) ∷ [])
    ≡ Some (mark.Started 0) ∷ Some (mark.Took 0) ∷ Some (mark.Moved 0) ∷ Some (mark.Asked 0) ∷ None ∷ Some (mark.Answered 0) ∷ []
unfolding marks_of then_marks three edge first step turn heard
wrong_replies = refl

-- an edge that reads its depfile
reading : Parts
reading = record {
  texts = (120 ∷ []) ∷ [];
  files = (97 ∷ []) ∷ [];
  pools = [];
  slots = [];
  bodies = None;
  edges = alone 0 [] (op.Take ∷ op.Text 0 ∷ op.Run ∷ op.Release ∷ op.Text 0 ∷ op.Deps ∷ op.Drop ∷ op.End ∷ []) ∷ [];
  defaults = 0 ∷ [];
}

-- there is no edge 1
target_outside : any_outside reading (1 ∷ []) ≡ true
unfolding reading
target_outside = refl

target_refused : (number_of BadTarget ≡ 112) × IsReplayFault reading (record { jobs = 1; keep = 0 }) (1 ∷ []) [] 0 BadTarget
target_refused = (refl, (refl, target_outside))

reading_budget : image_budget reading ≡ 11
unfolding reading alone
reading_budget = refl

-- the state that events lead to
then_state : State → (State → State) → Stepped → State
then_state s next (Next mid told) = next mid
then_state s next (Wrong flaw) = next s
then_state s next NotEnabled = next s

left_by : Parts → Limits → State → List Event → State
left_by p limits s [] = s
left_by p limits s (event ∷ events) = then_state s (λ t. left_by p limits t events) (step depfile p limits s event)

-- the depfile `out a.h` has no colon
malformed : List Event
malformed = Start 0 ∷ Step 0 ∷ Step 0 ∷ Step 0 ∷ Hear 0 (reply.Exit 0) ∷ Step 0 ∷ Step 0 ∷ Step 0 ∷ Hear 0 (reply.Bytes (111 ∷ 117 ∷ 116 ∷ 32 ∷ 97 ∷ 46 ∷ 104 ∷ [])) ∷ []

malformed_depfile :
    marks_of reading (record { jobs = 1; keep = 0 }) (record { edges = Unbegun ∷ []; slots = [] }) malformed
    ≡ Some (mark.Started 0) ∷ Some (mark.Took 0) ∷ Some (mark.Moved 0) ∷ Some (mark.Asked 0) ∷ Some (mark.Answered 0) ∷ Some (mark.Released 0) ∷ Some (mark.Moved 0)
    ∷ Some (mark.Asked 0) ∷ Some (mark.Failed 0 (DepfileMalformed 90 0)) ∷ []
unfolding marks_of then_marks reading alone malformed step turn heard
malformed_depfile = refl

-- no job token is held then
malformed_ends :
    left_by reading (record { jobs = 1; keep = 0 }) (record { edges = Unbegun ∷ []; slots = [] }) malformed
    ≡ record { edges = Over (Failed (DepfileMalformed 90 0)) ∷ []; slots = [] }
unfolding left_by then_state reading alone malformed step turn heard
malformed_ends = refl

-- a chain of three edges, and one edge that is independent of them
waiting : ℕ → List ℕ → Edge
waiting n waits = record { sort = sort.Command; pool = Some 0; rank = n; label = 0; outputs = n ∷ []; waits = waits; code = Own (op.Take ∷ op.Text 0 ∷ op.Run ∷ op.Release ∷ op.End ∷ []) }

four : Parts
four = record {
  texts = (120 ∷ []) ∷ [];
  files = (97 ∷ []) ∷ (98 ∷ []) ∷ (99 ∷ []) ∷ (100 ∷ []) ∷ [];
  pools = record { name = 112 ∷ []; depth = 1 } ∷ [];
  slots = [];
  bodies = None;
  edges = waiting 0 [] ∷ waiting 1 (0 ∷ []) ∷ waiting 2 (1 ∷ []) ∷ waiting 3 [] ∷ [];
  defaults = 2 ∷ 3 ∷ [];
}

none_begun : State
none_begun = record { edges = Unbegun ∷ Unbegun ∷ Unbegun ∷ Unbegun ∷ []; slots = [] }

-- the first edge of the chain fails, the others are skipped, and then the independent edge is stopped
failing : List Event
failing = Start 0 ∷ Step 0 ∷ Step 0 ∷ Step 0 ∷ Hear 0 (reply.Exit 2) ∷ Start 1 ∷ Skip 1 0 ∷ Skip 2 0 ∷ Skip 2 1 ∷ Stop 3 ∷ []

-- without a failure limit it isn't stopped
failures_and_skips :
    marks_of four (record { jobs = 1; keep = 0 }) none_begun failing
    ≡ Some (mark.Started 0) ∷ Some (mark.Took 0) ∷ Some (mark.Moved 0) ∷ Some (mark.Asked 0) ∷ Some (mark.Failed 0 (Exit 2))
    ∷ None ∷ Some (mark.Skipped 1 0) ∷ None ∷ Some (mark.Skipped 2 1) ∷ None ∷ []
unfolding marks_of then_marks four waiting none_begun failing step turn heard
failures_and_skips = refl

one_failure_borne :
    marks_of four (record { jobs = 1; keep = 1 }) none_begun failing
    ≡ Some (mark.Started 0) ∷ Some (mark.Took 0) ∷ Some (mark.Moved 0) ∷ Some (mark.Asked 0) ∷ Some (mark.Failed 0 (Exit 2))
    ∷ None ∷ Some (mark.Skipped 1 0) ∷ None ∷ Some (mark.Skipped 2 1) ∷ Some (mark.Stopped 3) ∷ []
unfolding marks_of then_marks four waiting none_begun failing step turn heard
one_failure_borne = refl

-- ---- local runs

local_run_of_three : local_run_events 3 (record { steps = 2; asked = true }) ≡ Step 3 ∷ Step 3 ∷ Step 3 ∷ []
local_run_of_three = refl

marks_of_three : local_run_marks 3 (record { steps = 2; asked = true }) ≡ mark.Moved 3 ∷ mark.Moved 3 ∷ mark.Asked 3 ∷ []
marks_of_three = refl

still : local_run_events 3 (record { steps = 0; asked = false }) ≡ []
still = refl

take_is_no_local_step : is_local_step op.Take ≡ false
take_is_no_local_step = refl

sweep_is_a_local_step : is_local_step op.Sweep ≡ true
sweep_is_a_local_step = refl

load_is_a_local_step : is_local_step (op.Load 7) ≡ true
load_is_a_local_step = refl

-- two texts together may be too long
join_is_no_local_step : is_local_step op.Join ≡ false
join_is_no_local_step = refl

-- ---- rows of a sweep

sweep_of_two : sweep_events 3 7 ≡ Hear 3 (reply.Stamp 7) ∷ Step 3 ∷ []
sweep_of_two = refl

second_of_three : HasNext (98 ∷ []) (Paths 1 ((97 ∷ []) ∷ (98 ∷ []) ∷ (99 ∷ []) ∷ []) ∷ Flag false ∷ Stamp 0 ∷ [])
second_of_three = (refl, omega arith)

last_of_three : HasNext (99 ∷ []) (Paths 2 ((97 ∷ []) ∷ (98 ∷ []) ∷ (99 ∷ []) ∷ []) ∷ Flag false ∷ Stamp 0 ∷ []) → ⊥
last_of_three next = absurd (omega (arith, next.1))

row_of_two : row_events 3 (7 ∷ 0 ∷ []) ≡ Hear 3 (reply.Stamp 7) ∷ Step 3 ∷ Hear 3 (reply.Stamp 0) ∷ Step 3 ∷ []
row_of_two = refl

marks_of_a_row : row_marks 3 (7 ∷ 0 ∷ []) ≡ mark.Answered 3 ∷ mark.Asked 3 ∷ mark.Answered 3 ∷ mark.Asked 3 ∷ []
marks_of_a_row = refl

-- the latest stamp is stored, and that a file is missing
merged_two : IsMergedRow ((97 ∷ []) ∷ (98 ∷ []) ∷ (99 ∷ []) ∷ []) (7 ∷ 0 ∷ []) (Paths 0 ((97 ∷ []) ∷ (98 ∷ []) ∷ (99 ∷ []) ∷ []) ∷ Flag false ∷ Stamp 5 ∷ [])
    (Paths 2 ((97 ∷ []) ∷ (98 ∷ []) ∷ (99 ∷ []) ∷ []) ∷ Flag true ∷ Stamp 7 ∷ [])
merged_two = ((refl, omega arith), ((refl, omega arith), refl))

-- the stamp of the last path isn't merged
merged_all : IsMergedRow ((99 ∷ []) ∷ []) (7 ∷ []) (Paths 2 ((97 ∷ []) ∷ (98 ∷ []) ∷ (99 ∷ []) ∷ []) ∷ Flag true ∷ Stamp 7 ∷ []) (Paths 3 ((97 ∷ []) ∷ (98 ∷ []) ∷ (99 ∷ []) ∷ []) ∷ Flag true ∷ Stamp 7 ∷ []) → ⊥
merged_all row = absurd (omega (arith, row.0.1))
