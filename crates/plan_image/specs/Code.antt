-- The part of an image that the crates above read: its tables, and the code of each edge.
use Rattle.std.specs.Prelude.{◌≡◌, ◌<◌, ℕ, List, [], length, Option, Some, None, slice_get}
use Rattle.plan_image.specs.declared.body.Instr.{Instr}
use Rattle.plan_image.specs.declared.body.BodyInstr.{BodyInstr}
use Rattle.plan_image.specs.declared.image.EdgeCode.{EdgeCode}
use Rattle.plan_image.specs.declared.image.EdgeCode.TheVariants as code_form
use Rattle.plan_image.specs.declared.image.Edge.{Edge}
use Rattle.plan_image.specs.declared.image.Parts.{Parts}
use Rattle.plan_image.specs.Bodies.{with_operands, opens}

abbrev or_empty : Option (List BodyInstr) → List BodyInstr
or_empty (Some is) = is
or_empty None = []

-- the body with this number; empty if there is none
abbrev pub body : Option (List (List BodyInstr)) → ℕ → List BodyInstr
body None n = []
body (Some bs) n = or_empty (slice_get bs n)

-- the instructions of an edge's code
abbrev pub instrs_of : Option (List (List BodyInstr)) → EdgeCode → List Instr
instrs_of bodies (code_form.Own is) = is
instrs_of bodies (code_form.Shared n ns) = with_operands (body bodies n) ns

abbrev pub edge_code : Option (List (List BodyInstr)) → Option Edge → List Instr
edge_code bodies (Some edge) = instrs_of bodies edge.code
edge_code bodies None = []

-- the instructions of an edge; empty if there is no such edge
abbrev pub code : Parts → ℕ → List Instr
code parts e = edge_code parts.bodies (slice_get parts.edges e)

-- the code has the form of the version, and as many numbers as its body has open instructions
abbrev pub HasBody : Option (List (List BodyInstr)) → EdgeCode → Type 0
HasBody None (code_form.Own is) = Unit {0}
HasBody None (code_form.Shared n ns) = ⊥
HasBody (Some bs) (code_form.Own is) = ⊥
HasBody (Some bs) (code_form.Shared n ns) = (n < length bs) × (length ns ≡ opens (body (Some bs) n))
