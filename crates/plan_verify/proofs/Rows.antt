-- The definitions, computed on small images.
use Rattle.std.proofs.Common.{◌≡◌, Bool, true, false, List, [], ◌∷◌, replicate, Some, None, refl}
use Rattle.std.specs.Prelude.{Ok, Err}
use Rattle.plan_image.specs.declared.body.Kind.{Kind}
use Rattle.plan_image.specs.declared.body.Kind.TheVariants as kind
use Rattle.plan_image.specs.declared.body.Instr.{Instr}
use Rattle.plan_image.specs.declared.body.Instr.TheVariants as op
use Rattle.plan_image.specs.declared.image.Sort.TheVariants as sort
use Rattle.plan_image.specs.declared.image.EdgeCode.TheVariants.{Own}
use Rattle.plan_image.specs.declared.image.Slot.{Slot}
use Rattle.plan_image.specs.declared.image.Parts.{Parts}
use Rattle.plan_verify.specs.declared.kinds.Shape.{Shape}
use Rattle.plan_verify.specs.declared.fault.Refusal.TheVariants as refusal
use Rattle.plan_verify.specs.declared.value.Cause.TheVariants.{DepfileMalformed}
use Rattle.plan_verify.specs.Turn.{Run, Deps, Stat, Exit, Bytes, StampIs, Meaning, turn, heard}
use Rattle.plan_verify.specs.Shape.{left, refused, table_refusal, image_refusal}
use Rattle.plan_verify.specs.WellShaped.{at_start, arriving}
use Rattle.plan_verify.specs.Alone.{Failed, Ended, at_begin, RunsAlone, rests, steps, hears}
use Rattle.plan_verify.specs.Budget.{edge_budget}

-- text 0 is x, file 0 is a, and one edge creates it
one : List Slot → List Instr → Parts
one slots is = record {
  texts = (120 ∷ []) ∷ [];
  files = (97 ∷ []) ∷ [];
  pools = [];
  slots = slots;
  bodies = None;
  edges = record { sort = sort.Command; pool = None; rank = 0; label = 0; outputs = 0 ∷ []; waits = []; code = Own is } ∷ [];
  defaults = 0 ∷ [];
}

shape : List Kind → Bool → Shape
shape kinds held = record { kinds = kinds; holding = held; set = [] }

branching : List Instr
branching = op.Flag true ∷ op.JumpIf 3 ∷ op.Zero ∷ op.End ∷ []

-- two shapes arrive at place 3
differing : arriving (one [] branching) 0 (at_start ∷ shape (kind.Flag ∷ []) false ∷ at_start ∷ []) 3 ≡ at_start ∷ shape (kind.Stamp ∷ []) false ∷ []
unfolding arriving left one shape branching
differing = refl

held_at_end : refused (one [] (op.Take ∷ op.End ∷ [])) 0 1 op.End (shape [] true) ≡ Some refusal.Holding
unfolding refused one shape
held_at_end = refl

runs_without_place : refused (one [] (op.Text 0 ∷ op.Run ∷ op.End ∷ [])) 0 1 op.Run (shape (kind.Text ∷ []) false) ≡ Some refusal.NotHolding
unfolding refused one shape
runs_without_place = refl

value_left : refused (one [] (op.Zero ∷ op.End ∷ [])) 0 1 op.End (shape (kind.Stamp ∷ []) false) ≡ Some refusal.ValuesLeft
unfolding refused one shape
value_left = refl

off_the_code : refused (one [] (op.Zero ∷ op.Drop ∷ [])) 0 1 op.Drop (shape (kind.Stamp ∷ []) false) ≡ Some refusal.FallsOff
unfolding refused one shape
off_the_code = refl

too_deep : refused (one [] (op.Zero ∷ op.Zero ∷ op.End ∷ [])) 0 0 op.Zero (shape (replicate 64 kind.Stamp) false) ≡ Some refusal.TooDeep
unfolding refused one shape
too_deep = refl

paths_in_slot : table_refusal (one (record { owner = 0; kind = kind.Paths } ∷ []) (op.End ∷ [])) 0 ≡ Some refusal.PathsInSlot
unfolding table_refusal one
paths_in_slot = refl

tables_right : (table_refusal (one [] (op.End ∷ [])) 0 ≡ None) × (image_refusal (one [] (op.End ∷ [])) ≡ None)
unfolding table_refusal image_refusal one
tables_right = (refl, refl)

-- ---- runs

failing : List Instr
failing = op.Take ∷ op.Text 0 ∷ op.Run ∷ op.Release ∷ op.Text 0 ∷ op.Deps ∷ op.Drop ∷ op.End ∷ []

refuses : Meaning
refuses bytes = Err (90, 0)

-- eight events after the start, then the depfile is malformed
fails : RunsAlone refuses (one [] failing) 0 8 (at_begin []) ((Run (120 ∷ []) ((97 ∷ []) ∷ []), Exit 0) ∷ (Deps (120 ∷ []), Bytes (111 ∷ [])) ∷ []) (record { stage = Failed (DepfileMalformed 90 0); slots = [] })
unfolding turn heard one failing refuses
fails = steps refl (steps refl (steps refl (hears refl refl (steps refl (steps refl (steps refl (hears refl refl rests)))))))

sweeping : List Instr
sweeping = op.Zero ∷ op.Flag false ∷ op.Text 0 ∷ op.Deps ∷ op.Sweep ∷ op.Drop ∷ op.Drop ∷ op.Drop ∷ op.End ∷ []

finds : Meaning
finds bytes = Ok ((98 ∷ []) ∷ [])

-- twelve events after the start, with one path swept
sweeps_one : RunsAlone finds (one [] sweeping) 0 12 (at_begin []) ((Deps (120 ∷ []), Bytes (97 ∷ 58 ∷ 98 ∷ [])) ∷ (Stat (98 ∷ []), StampIs 7) ∷ []) (record { stage = Ended false; slots = [] })
unfolding turn heard one sweeping finds
sweeps_one = steps refl (steps refl (steps refl (steps refl (hears refl refl (steps refl (hears refl refl (steps refl (steps refl (steps refl (steps refl (steps refl rests)))))))))))

budgets : (edge_budget (one [] failing) 0 ≡ 11) × (edge_budget (one [] sweeping) 0 ≡ 11)
unfolding one failing sweeping
budgets = (refl, refl)
