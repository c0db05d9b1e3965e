-- The question of an edge that awaits a reply, and the question that an event would ask.
use Rattle.std.specs.Prelude.{◌≡◌, ℕ, Bool, true, false, List, Option, Some, None, if◌then◌else◌, slice_get}
use Rattle.plan_image.specs.declared.body.Instr.{Instr}
use Rattle.plan_image.specs.declared.body.Instr.TheVariants as op
use Rattle.plan_image.specs.declared.image.Parts.{Parts}
use Rattle.plan_verify.specs.declared.value.Value.{Value}
use Rattle.plan_verify.specs.declared.value.Value.TheVariants.{Stamp, Text, Paths, Swept}
use Rattle.plan_verify.specs.Turn.{Slots, Request as Question, Stat, Recall, Run, Deps, Keep, question}
use Rattle.plan_machine.specs.Limits.{Limits}
use Rattle.plan_machine.specs.declared.event.Request.{Request}
use Rattle.plan_machine.specs.declared.event.Request.TheVariants as request
use Rattle.plan_machine.specs.declared.event.Event.{Event}
use Rattle.plan_machine.specs.declared.event.Event.TheVariants.{Step}
use Rattle.plan_machine.specs.State.{Status, Active, State}
use Rattle.plan_machine.specs.declared.event.Mark.TheVariants as mark
use Rattle.plan_machine.specs.RunState.{RunState}
use Rattle.plan_machine.specs.Step.{Next, step}
use Rattle.plan_machine.specs.Depfile.{depfile}
use Rattle.plan_machine.specs.Applying.{may_step_by}

-- a request, in terms of one edge's step
abbrev pub shown : Request → Question
shown (request.Stat path) = Stat path.now
shown (request.Recall output) = Recall output.now
shown (request.Run command outputs) = Run command.now outputs
shown (request.Deps path) = Deps path.now
shown (request.Keep output command basis paths) = Keep output.now command.now basis paths.now

abbrev pub asked_by : Parts → ℕ → Slots → Option Status → Option Question
asked_by p e slots (Some (Active l)) = if l.asked then question p e slots l else None
asked_by p e slots _ = None

-- the question of an edge that awaits a reply
abbrev pub asked_at : Parts → State → ℕ → Option Question
asked_at p s e = asked_by p e s.slots (slice_get s.edges e)

abbrev pub step_asks : Parts → ℕ → Slots → Option Status → Option Question
step_asks p e slots (Some (Active l)) = question p e slots l
step_asks p e slots _ = None

-- the question of an event, or None if the event isn't enabled; only steps ask
abbrev pub asks_by : Parts → Limits → State → Event → Option Question
asks_by p limits s (Step e) = if may_step_by p limits s e (slice_get s.edges e) then step_asks p e s.slots (slice_get s.edges e) else None
asks_by p limits s event = None

-- an event is enabled and asks: its mark is Asked, and its edge asked this question
pub record Asks (p : Parts) (g : RunState) (event : Event) (q : Question) : Type 0 where
  pub edge : ℕ
  pub after : State
  pub next : step depfile p g.limits g.now event ≡ Next after (mark.Asked edge)
  pub asked : asked_at p after edge ≡ Some q

-- an event isn't enabled, or doesn't ask
abbrev pub AsksNothing : Parts → RunState → Event → Type 0
AsksNothing p g event = (edge : ℕ) (after : State) → step depfile p g.limits g.now event ≡ Next after (mark.Asked edge) → ⊥

-- ---- parts of it

abbrev pub is_asking : Instr → Bool
is_asking (op.Stat f) = true
is_asking (op.Need f) = true
is_asking op.Recall = true
is_asking op.Sweep = true
is_asking op.Run = true
is_asking op.Deps = true
is_asking op.Keep = true
is_asking _ = false

-- the value at a depth of a stack
abbrev pub HasTextAt : ℕ → List Value → Type 0
HasTextAt d stack = (text : List ℕ) × (slice_get stack d ≡ Some (Text text))

abbrev pub HasStampAt : ℕ → List Value → Type 0
HasStampAt d stack = (stamp : ℕ) × (slice_get stack d ≡ Some (Stamp stamp))

abbrev pub HasPathsAt : List Value → Type 0
HasPathsAt stack = (swept : ℕ) × (all : List (List ℕ)) × (slice_get stack 0 ≡ Some (Paths swept all))

abbrev pub HasSweptAt : List Value → Type 0
HasSweptAt stack = (all : List (List ℕ)) × (slice_get stack 0 ≡ Some (Swept all))
