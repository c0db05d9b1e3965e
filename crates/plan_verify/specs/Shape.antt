-- What is known about an edge at a place, and what is refused there.
use Rattle.std.specs.Prelude.{ℕ, ◌+◌, Bool, true, false, not, ◌||◌, ◌&&◌, List, [], ◌∷◌, ◌++◌, length, drop, take, Option, Some, None, nat_lt, nat_le, ◌==◌, if◌then◌else◌, slice_get}
use Rattle.std.specs.List.{list_all, list_any}
use Rattle.plan_image.specs.declared.body.Kind.{Kind}
use Rattle.plan_image.specs.declared.body.Kind.TheVariants.{Stamp, Flag, Text, Paths, Swept}
use Rattle.plan_image.specs.declared.body.Instr.{Instr}
use Rattle.plan_image.specs.declared.body.Instr.TheVariants as op
use Rattle.plan_image.specs.declared.image.Slot.{Slot}
use Rattle.plan_image.specs.declared.image.Edge.{Edge}
use Rattle.plan_image.specs.declared.image.Parts.{Parts}
use Rattle.plan_image.specs.Code.{code}
use Rattle.plan_verify.specs.declared.kinds.TheConstants.{MAX_STACK}
use Rattle.plan_verify.specs.declared.kinds.Shape.{Shape}
use Rattle.plan_verify.specs.declared.fault.Refusal.{Refusal}
use Rattle.plan_verify.specs.declared.fault.Refusal.TheVariants as refusal
use Rattle.plan_verify.specs.Members.{is_member, with_member}
use Rattle.plan_verify.specs.Stack.{swapped}
use Rattle.plan_verify.specs.Tables.{owns, is_lent, own_slots, slot_kind, is_outside}

-- ---- the effect of an instruction on the shape

-- the kinds that it takes from the stack, the top first; None accepts any kind
abbrev pub takes : Parts → Instr → List (Option Kind)
takes p (op.Store s) = Some (slot_kind p s) ∷ []
takes p op.Older = Some Stamp ∷ Some Stamp ∷ []
takes p op.Newer = Some Stamp ∷ Some Stamp ∷ []
takes p op.Before = Some Stamp ∷ Some Stamp ∷ []
takes p op.Same = Some Stamp ∷ Some Stamp ∷ []
takes p op.IsMissing = Some Stamp ∷ []
takes p op.Or = Some Flag ∷ Some Flag ∷ []
takes p op.Not = Some Flag ∷ []
takes p op.Join = Some Text ∷ Some Text ∷ []
takes p op.Equal = Some Text ∷ Some Text ∷ []
takes p op.Sweep = Some Paths ∷ Some Flag ∷ Some Stamp ∷ []
takes p (op.JumpIf d) = Some Flag ∷ []
takes p op.Run = Some Text ∷ []
takes p op.Deps = Some Text ∷ []
takes p op.Keep = Some Swept ∷ Some Stamp ∷ Some Text ∷ []
takes p op.Drop = None ∷ []
takes p op.Swap = None ∷ None ∷ []
takes p _ = []

-- the kinds that it pushes, the top first, given the kinds that it took
abbrev pub gives : Parts → Instr → List Kind → List Kind
gives p (op.Stat f) taken = Stamp ∷ []
gives p (op.Need f) taken = Stamp ∷ []
gives p (op.Load s) taken = slot_kind p s ∷ []
gives p op.Older taken = Stamp ∷ []
gives p op.Newer taken = Stamp ∷ []
gives p op.Before taken = Flag ∷ []
gives p op.Same taken = Flag ∷ []
gives p op.IsMissing taken = Flag ∷ []
gives p op.Or taken = Flag ∷ []
gives p op.Not taken = Flag ∷ []
gives p (op.Flag b) taken = Flag ∷ []
gives p op.Zero taken = Stamp ∷ []
gives p op.NoPaths taken = Swept ∷ []
gives p (op.Text t) taken = Text ∷ []
gives p op.Join taken = Text ∷ []
gives p op.Equal taken = Flag ∷ []
gives p op.Recall taken = Flag ∷ Text ∷ Stamp ∷ Paths ∷ []
gives p op.Sweep taken = Swept ∷ Flag ∷ Stamp ∷ []
gives p op.Deps taken = Paths ∷ []
gives p op.Swap taken = swapped taken
gives p _ taken = []

abbrev pub kinds_after : Parts → Instr → List Kind → List Kind
kinds_after p i kinds = gives p i (take (length (takes p i)) kinds) ++ drop (length (takes p i)) kinds

abbrev pub holding_after : Instr → Bool → Bool
holding_after op.Take held = true
holding_after op.Release held = false
holding_after _ held = held

abbrev pub set_after : Instr → List ℕ → List ℕ
set_after (op.Store s) set = with_member s set
set_after _ set = set

-- the shape that an instruction leaves
unfoldable pub left : Parts → Instr → Shape → Shape
left p i s = record { kinds = kinds_after p i s.kinds; holding = holding_after i s.holding; set = set_after i s.set }

-- the places that an instruction can continue to
abbrev pub targets : ℕ → Instr → List ℕ
targets place op.End = []
targets place (op.Jump d) = d ∷ []
targets place (op.JumpIf d) = (place + 1) ∷ d ∷ []
targets place _ = (place + 1) ∷ []

-- ---- the refusals at a place, each with a test

abbrev pub bad_slot : Parts → ℕ → Instr → Bool
bad_slot p e (op.Load s) = not (owns p e s || is_lent p e s)
bad_slot p e (op.Store s) = not (owns p e s)
bad_slot p e _ = false

abbrev pub bad_jump : ℕ → ℕ → Instr → Bool
bad_jump len place (op.Jump d) = nat_le d place || nat_le len d
bad_jump len place (op.JumpIf d) = nat_le d place || nat_le len d
bad_jump len place _ = false

abbrev pub bad_file : Parts → Instr → Bool
bad_file p (op.Stat f) = nat_le (length p.files) f
bad_file p (op.Need f) = nat_le (length p.files) f
bad_file p _ = false

abbrev pub bad_text : Parts → Instr → Bool
bad_text p (op.Text t) = nat_le (length p.texts) t
bad_text p _ = false

abbrev pub lacks_place : Instr → Bool → Bool
lacks_place op.Run held = not held
lacks_place op.Release held = not held
lacks_place _ held = false

abbrev pub keeps_place : Instr → Bool → Bool
keeps_place op.Take held = held
keeps_place op.End held = held
keeps_place _ held = false

abbrev kind_number : Kind → ℕ
kind_number Stamp = 1
kind_number Flag = 2
kind_number Text = 3
kind_number Paths = 4
kind_number Swept = 5

abbrev pub same_kind : Kind → Kind → Bool
same_kind a b = kind_number a == kind_number b

abbrev pub is_wanted : Option Kind → Kind → Bool
is_wanted (Some a) b = same_kind a b
is_wanted None b = true

-- one of the kinds on the stack differs from the one that is taken
abbrev pub wrong_kind : List (Option Kind) → List Kind → Bool
wrong_kind [] kinds = false
wrong_kind (w ∷ ws) [] = false
wrong_kind (w ∷ ws) (k ∷ ks) = not (is_wanted w k) || wrong_kind ws ks

abbrev pub unset_slot : Parts → ℕ → Instr → List ℕ → Bool
unset_slot p e (op.Load s) set = owns p e s && not (is_member s set)
unset_slot p e op.End set = not (list_all (λ s. is_member s set) (own_slots p e))
unset_slot p e _ set = false

abbrev pub values_left : Instr → List Kind → Bool
values_left op.End kinds = nat_lt 0 (length kinds)
values_left _ kinds = false

abbrev pub falls_off : ℕ → ℕ → Instr → Bool
falls_off len place op.End = false
falls_off len place (op.Jump d) = false
falls_off len place _ = nat_le len (place + 1)

-- the refusal of the first test that is true
abbrev pub first_of : List (Bool × Refusal) → Option Refusal
first_of [] = None
first_of (c ∷ cs) = if c.0 then Some c.1 else first_of cs

-- the checks of an instruction at a place with a shape, in order
abbrev pub checks : Parts → ℕ → ℕ → Instr → Shape → List (Bool × Refusal)
checks p e place i s =
    (bad_slot p e i, refusal.BadSlot)
    ∷ (bad_jump (length (code p e)) place i, refusal.BadJump)
    ∷ (bad_file p i, refusal.BadFile)
    ∷ (bad_text p i, refusal.BadText)
    ∷ (lacks_place i s.holding, refusal.NotHolding)
    ∷ (keeps_place i s.holding, refusal.Holding)
    ∷ (nat_lt (length s.kinds) (length (takes p i)), refusal.EmptyStack)
    ∷ (wrong_kind (takes p i) s.kinds, refusal.WrongKind)
    ∷ (unset_slot p e i s.set, refusal.UnsetSlot)
    ∷ (values_left i s.kinds, refusal.ValuesLeft)
    ∷ (nat_lt MAX_STACK (length (kinds_after p i s.kinds)), refusal.TooDeep)
    ∷ (falls_off (length (code p e)) place i, refusal.FallsOff)
    ∷ []

-- the first check that fails at a place
unfoldable pub refused : Parts → ℕ → ℕ → Instr → Shape → Option Refusal
refused p e place i s = first_of (checks p e place i s)

-- ---- the refusals about an edge's tables

abbrev pub ranks_below : Option Edge → ℕ → Bool
ranks_below (Some maker) rank = nat_lt maker.rank rank
ranks_below None rank = false

abbrev pub is_paths : Kind → Bool
is_paths Paths = true
is_paths Swept = true
is_paths _ = false

abbrev pub lacks_outputs : Parts → List ℕ → Bool
lacks_outputs p [] = true
lacks_outputs p (f ∷ fs) = list_any (λ g. nat_le (length p.files) g) (f ∷ fs)

abbrev pub table_checks : Parts → ℕ → Edge → List (Bool × Refusal)
table_checks p e x =
    (not (list_all (λ w. ranks_below (slice_get p.edges w) x.rank) x.waits), refusal.BadWait)
    ∷ (is_outside p x.pool, refusal.BadPool)
    ∷ (nat_le (length p.texts) x.label, refusal.BadText)
    ∷ (lacks_outputs p x.outputs, refusal.BadFile)
    ∷ (list_any (λ s. is_paths (slot_kind p s)) (own_slots p e), refusal.PathsInSlot)
    ∷ []

-- the first check of an edge's tables that fails
abbrev pub table_refusal_of : Parts → ℕ → Option Edge → Option Refusal
table_refusal_of p e (Some x) = first_of (table_checks p e x)
table_refusal_of p e None = None

unfoldable pub table_refusal : Parts → ℕ → Option Refusal
table_refusal p e = table_refusal_of p e (slice_get p.edges e)

-- the checks of all edges together
abbrev pub image_checks : Parts → List (Bool × Refusal)
image_checks p =
    (list_any (λ e. nat_le (length p.edges) e) p.defaults, refusal.BadWait)
    ∷ (list_any (λ (s : Slot). nat_le (length p.edges) s.owner) p.slots, refusal.BadSlot)
    ∷ []

-- the first check of all edges together that fails
unfoldable pub image_refusal : Parts → Option Refusal
image_refusal p = first_of (image_checks p)
