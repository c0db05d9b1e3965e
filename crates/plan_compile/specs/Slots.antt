-- The slots of each edge, and the source of each input's stamp.
use Rattle.std.specs.Prelude.{ℕ, zero, suc, ◌+◌, Bool, true, false, ◌||◌, ◌&&◌, ◌==◌, List, [], ◌∷◌, ◌++◌, length, Option, Some, None, is_some, if◌then◌else◌}
use Rattle.plan_image.specs.declared.body.Kind.{Kind}
use Rattle.plan_image.specs.declared.body.Kind.TheVariants.{Stamp, Flag}
use Rattle.plan_image.specs.declared.image.Slot.{Slot}
use Rattle.plan_verify.specs.Members.{is_member, with_member}
use Rattle.plan_compile.specs.declared.layout.Input.{Input}
use Rattle.plan_compile.specs.declared.layout.Input.TheVariants.{File, Made}
use Rattle.plan_compile.specs.declared.layout.Output.{Output}
use Rattle.plan_compile.specs.declared.slot_pattern.SlotPattern.{SlotPattern}
use Rattle.plan_compile.specs.declared.slot_pattern.SlotPattern.TheVariants.{OneFlag, OwnFlags, Gathers, Alone}
use Rattle.plan_compile.specs.Builds.{Build}

-- ---- the slot pattern of an edge

abbrev pub has_none : List ℕ → Bool
has_none [] = true
has_none (f ∷ fs) = false

abbrev pub form_by : (phony restat none : Bool) → SlotPattern
form_by true restat true = Alone
form_by true restat false = Gathers
form_by false true none = OwnFlags
form_by false false none = OneFlag

-- the outputs of an edge without restat change together; the outputs of a phony with inputs change with these
abbrev pub form_of : Build → SlotPattern
form_of x = form_by x.edge.phony x.edge.restat (has_none x.named && has_none x.order_only)

-- ---- the slots of an edge: one run of numbers

abbrev pub stamps : List ℕ → List Kind
stamps [] = []
stamps (f ∷ fs) = Stamp ∷ stamps fs

abbrev pub pairs : List ℕ → List Kind
pairs [] = []
pairs (f ∷ fs) = Stamp ∷ Flag ∷ pairs fs

-- the slots of the outputs; an edge with a command also has one for the newest input's stamp
abbrev pub kinds_by : SlotPattern → List ℕ → List Kind
kinds_by OneFlag outputs = Flag ∷ Stamp ∷ stamps outputs
kinds_by OwnFlags outputs = Stamp ∷ pairs outputs
kinds_by Gathers outputs = Stamp ∷ Flag ∷ []
kinds_by Alone outputs = pairs outputs

abbrev pub own_kinds : Build → List Kind
own_kinds x = kinds_by (form_of x) x.outputs

abbrev pub own_len : Build → ℕ
own_len x = length (own_kinds x)

-- ---- outputs with their slots

-- with a stamp slot each, and this flag slot
abbrev pub outputs_flagged : (b changed : ℕ) → List ℕ → List Output
outputs_flagged b changed [] = []
outputs_flagged b changed (f ∷ fs) = record { file = f; stamp = b; changed = changed } ∷ outputs_flagged (suc b) changed fs

-- with two slots each
abbrev pub outputs_apart : (b : ℕ) → List ℕ → List Output
outputs_apart b [] = []
outputs_apart b (f ∷ fs) = record { file = f; stamp = b; changed = suc b } ∷ outputs_apart (suc (suc b)) fs

-- with these two slots for all
abbrev pub outputs_sharing : (stamp changed : ℕ) → List ℕ → List Output
outputs_sharing stamp changed [] = []
outputs_sharing stamp changed (f ∷ fs) = record { file = f; stamp = stamp; changed = changed } ∷ outputs_sharing stamp changed fs

abbrev pub outputs_by : SlotPattern → ℕ → List ℕ → List Output
outputs_by OneFlag b outputs = outputs_flagged (suc (suc b)) b outputs
outputs_by OwnFlags b outputs = outputs_apart (suc b) outputs
outputs_by Gathers b outputs = outputs_sharing b (suc b) outputs
outputs_by Alone b outputs = outputs_apart b outputs

-- an edge's outputs, if its own slots begin at b
abbrev pub made : ℕ → Build → List Output
made b x = outputs_by (form_of x) b x.outputs

-- the slot for the newest input's stamp
abbrev pub newest_by : SlotPattern → ℕ → ℕ
newest_by OneFlag b = suc b
newest_by _ b = b

-- ---- all edges

-- the newest input's slot of each of these edges, whose slots begin at b
abbrev pub newest_from : ℕ → List Build → List ℕ
newest_from b [] = []
newest_from b (x ∷ xs) = newest_by (form_of x) b ∷ newest_from (b + own_len x) xs

abbrev pub owned : ℕ → List Kind → List Slot
owned e [] = []
owned e (k ∷ ks) = record { owner = e; kind = k } ∷ owned e ks

-- the slots of these edges, the first of which has the number e
abbrev pub slots_from : ℕ → List Build → List Slot
slots_from e [] = []
slots_from e (x ∷ xs) = owned e (own_kinds x) ++ slots_from (suc e) xs

-- the number of slots of these edges
abbrev pub slot_count : List Build → ℕ
slot_count [] = zero
slot_count (x ∷ xs) = own_len x + slot_count xs

-- the first own slot of the edge with this number
abbrev pub base : List Build → ℕ → ℕ
base [] e = zero
base (x ∷ xs) zero = zero
base (x ∷ xs) (suc e) = own_len x + base xs e

-- the outputs of these edges, whose slots begin at b
abbrev pub all_made : ℕ → List Build → List Output
all_made b [] = []
all_made b (x ∷ xs) = made b x ++ all_made (b + own_len x) xs

-- the output that is this file
abbrev pub find : ℕ → List Output → Option Output
find f [] = None
find f (o ∷ os) = if o.file == f then Some o else find f os

-- ---- inputs

abbrev pub input_by : ℕ → Option Output → Input
input_by f (Some o) = Made o.stamp o.changed
input_by f None = File f

-- an output of an edge has its producer's slots; any other file is asked for
abbrev pub inputs_by : List Output → List ℕ → List Input
inputs_by outputs [] = []
inputs_by outputs (f ∷ fs) = input_by f (find f outputs) ∷ inputs_by outputs fs

-- the order-only source files that aren't also named inputs
abbrev pub sources : List Output → (named : List ℕ) → List ℕ → List ℕ
sources outputs named [] = []
sources outputs named (f ∷ fs) = if is_some (find f outputs) || is_member f named then sources outputs named fs else f ∷ sources outputs named fs

-- these numbers and some more, ascending, without repetitions
abbrev pub members_from : List ℕ → List ℕ → List ℕ
members_from ms [] = ms
members_from ms (n ∷ ns) = members_from (with_member n ms) ns

abbrev pub with_flag : List ℕ → Input → List ℕ
with_flag flags (File f) = flags
with_flag flags (Made stamp changed) = with_member changed flags

abbrev pub flags_from : List ℕ → List Input → List ℕ
flags_from flags [] = flags
flags_from flags (i ∷ is) = flags_from (with_flag flags i) is

-- the flag slots of these inputs, ascending, without repetitions
abbrev pub flags_once : List Input → List ℕ
flags_once inputs = flags_from [] inputs
