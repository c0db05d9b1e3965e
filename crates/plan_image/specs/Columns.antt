-- Edges and instructions in columns: the items with the same index in each column form one edge or one
-- instruction.
use Rattle.std.specs.Prelude.{◌≡◌, ◌<◌, ℕ, ◌+◌, List, [], ◌∷◌, Option, Some, None, get_or, option_map, slice_get}
use Rattle.plan_image.specs.declared.body.Instr.{Instr}
use Rattle.plan_image.specs.Opcodes.{instr_by}
use Rattle.plan_image.specs.declared.image.Edge.{Edge}
use Rattle.plan_image.specs.declared.image.EdgeCode.{EdgeCode}
use Rattle.plan_image.specs.declared.image.EdgeCode.TheVariants as code_form
use Rattle.plan_image.specs.declared.edge_ref.Head.{Head}
use Rattle.plan_image.specs.declared.edge_ref.InstrsRef.{InstrsRef}
use Rattle.plan_image.specs.declared.edge_ref.CodeRef.{CodeRef}
use Rattle.plan_image.specs.declared.edge_ref.CodeRef.TheVariants as lent_form
use Rattle.plan_image.specs.declared.edge_ref.EdgeRef.{EdgeRef}

-- f applied to the index and the value of each item, the indices counted from n
abbrev pub by_place : {X Y : Type 0} → (ℕ → X → Y) → ℕ → List X → List Y
by_place f n [] = []
by_place f n (x ∷ xs) = f n x ∷ by_place f (n + 1) xs

-- ---- instructions

-- the instruction of an opcode at this place, given the operands
abbrev pub instr_with : List ℕ → ℕ → ℕ → Instr
instr_with ns place o = instr_by o (get_or ns place 0)

-- the instructions of two columns
abbrev pub instrs_by : List ℕ → List ℕ → List Instr
instrs_by os ns = by_place (instr_with ns) 0 os

-- ---- edges

-- a body's number and the operands, or else the edge's own instructions
abbrev pub code_by : Option ℕ → List ℕ → List ℕ → EdgeCode
code_by None os ns = code_form.Own (instrs_by os ns)
code_by (Some b) os ns = code_form.Shared b ns

-- the code of the edge with this number, if there is one
abbrev pub code_at : List Edge → ℕ → Option EdgeCode
code_at es e = option_map (λ (edge : Edge). edge.code) (slice_get es e)

-- the body that a code shares
abbrev pub shared_body : Option EdgeCode → Option ℕ
shared_body (Some (code_form.Shared b ns)) = Some b
shared_body code = None

-- the operands that an edge fills in
abbrev pub shared_operands : Option EdgeCode → List ℕ
shared_operands (Some (code_form.Shared b ns)) = ns
shared_operands code = []

abbrev pub edge_by : Head → List ℕ → List ℕ → List ℕ → List ℕ → Edge
edge_by h outputs waits os ns =
    record { sort = h.sort; pool = h.pool; rank = h.rank; label = h.label; outputs = outputs; waits = waits; code = code_by h.body os ns }

-- the edge with this number, given the columns
abbrev pub edge_with : List (List ℕ) → List (List ℕ) → List (List ℕ) → List (List ℕ) → ℕ → Head → Edge
edge_with outputs waits opcodes operands e h =
    edge_by h (get_or outputs e []) (get_or waits e []) (get_or opcodes e []) (get_or operands e [])

-- the first n rows are the same
abbrev pub AreSameBelow : {X : Type 0} → ℕ → List (List X) → List (List X) → Type 0
AreSameBelow n xs ys = (i : ℕ) → i < n → get_or ys i [] ≡ get_or xs i []

-- ---- edges that are lent

abbrev pub lent_instrs : InstrsRef → List Instr
lent_instrs is = instrs_by is.opcodes.now is.operands.now

abbrev pub lent_code : CodeRef → EdgeCode
lent_code (lent_form.Own is) = code_form.Own (lent_instrs is)
lent_code (lent_form.Shared b ns) = code_form.Shared b ns.now

-- the edge that a borrowed edge represents
abbrev pub lent : EdgeRef → Edge
lent x =
    record { sort = x.sort; pool = x.pool; rank = x.rank; label = x.label; outputs = x.outputs.now; waits = x.waits.now; code = lent_code x.code }
