-- Worked images.
use Rattle.std.proofs.Common.{◌≡◌, ℕ, List, [], ◌∷◌, ◌++◌, take, true, Some, None, Ok, Err, refl}
use Rattle.plan_image.specs.declared.fault.ImageFault.TheVariants as fault
use Rattle.plan_image.specs.declared.body.Instr.TheVariants as op
use Rattle.plan_image.specs.declared.image.Sort.TheVariants as sort
use Rattle.plan_image.specs.declared.image.EdgeCode.TheVariants as code_form
use Rattle.plan_image.specs.declared.body.BodyInstr.{BodyInstr}
use Rattle.plan_image.specs.declared.body.BodyInstr.TheVariants as member
use Rattle.plan_image.specs.declared.body.Opening.TheVariants as opening
use Rattle.plan_image.specs.declared.body.Instr.{Instr}
use Rattle.plan_image.specs.Bodies.{with_operands, body_of, operands_of}
use Rattle.plan_image.specs.Code.{code}
use Rattle.plan_image.specs.Columns.{by_place, edge_with}
use Rattle.plan_image.specs.declared.edge_ref.Head.{Head}
use Rattle.plan_image.specs.declared.image.Edge.{Edge}
use Rattle.plan_image.specs.declared.image.Parts.{Parts}
use Rattle.plan_image.specs.Spelling.{spelling}
use Rattle.plan_image.specs.Listing.{listing_of}
use Rattle.std.specs.Prelude.{codes}
use Rattle.std.specs.Fmt.{digits}
use Rattle.plan_image.specs.Reading.{read_of, tables_at, parts_at, head_at, version_at, numbers_at, bodies_at, body_table_at, body_at, body_instr_at, edges_at, edge_at, own_code_at, shared_code_at, sort_at, instr_at, pool_at, slot_at, kind_at, byte_at, ascending_at, next_at, table_at, items_at, file_at, text_at, bytes_at, number_up_to, number_at}

abbrev one_edge : Edge
one_edge = record { sort = sort.Command; pool = None; rank = 0; label = 0; outputs = 0 ∷ []; waits = []; code = code_form.Own (op.End ∷ []) }

abbrev parts : Parts
parts = record { texts = (120 ∷ []) ∷ []; files = (97 ∷ []) ∷ []; pools = []; slots = []; bodies = None; edges = one_edge ∷ []; defaults = 0 ∷ [] }

abbrev zeros : List ℕ
zeros = 0 ∷ 0 ∷ 0 ∷ 0 ∷ []

abbrev ones : List ℕ
ones = 0 ∷ 0 ∷ 0 ∷ 1 ∷ []

abbrev bytes : List ℕ
bytes = (80 ∷ 76 ∷ 65 ∷ 78 ∷ 73 ∷ 77 ∷ 71 ∷ 1 ∷ []) ++ ones ++ ones ++ (120 ∷ []) ++ ones ++ (0 ∷ 1 ∷ 97 ∷ []) ++ zeros ++ zeros ++ ones
    ++ (0 ∷ []) ++ zeros ++ zeros ++ zeros ++ ones ++ zeros ++ zeros ++ ones ++ (0 ∷ []) ++ ones ++ zeros

pub spelled : spelling parts ≡ bytes
unfolding spelling
spelled = refl

pub is_read : read_of bytes ≡ Ok parts
unfolding read_of tables_at parts_at head_at version_at numbers_at bodies_at body_table_at body_at body_instr_at edges_at edge_at own_code_at shared_code_at sort_at instr_at pool_at slot_at kind_at byte_at ascending_at next_at table_at items_at file_at text_at bytes_at number_up_to number_at
is_read = refl

pub cut : read_of (take 73 bytes) ≡ Err (fault.Truncated 73)
unfolding read_of tables_at parts_at head_at version_at numbers_at bodies_at body_table_at body_at body_instr_at edges_at edge_at own_code_at shared_code_at sort_at instr_at pool_at slot_at kind_at byte_at ascending_at next_at table_at items_at file_at text_at bytes_at number_up_to number_at
cut = refl

pub more : read_of (bytes ++ 0 ∷ []) ≡ Err (fault.Trailing 74)
unfolding read_of tables_at parts_at head_at version_at numbers_at bodies_at body_table_at body_at body_instr_at edges_at edge_at own_code_at shared_code_at sort_at instr_at pool_at slot_at kind_at byte_at ascending_at next_at table_at items_at file_at text_at bytes_at number_up_to number_at
more = refl

pub large : read_of ((80 ∷ 76 ∷ 65 ∷ 78 ∷ 73 ∷ 77 ∷ 71 ∷ 1 ∷ []) ++ 0 ∷ 64 ∷ 0 ∷ 1 ∷ []) ≡ Err (fault.Limit 8)
unfolding read_of tables_at parts_at head_at version_at numbers_at bodies_at body_table_at body_at body_instr_at edges_at edge_at own_code_at shared_code_at sort_at instr_at pool_at slot_at kind_at byte_at ascending_at next_at table_at items_at file_at text_at bytes_at number_up_to number_at
large = refl

pub magic_cut : read_of (80 ∷ 76 ∷ []) ≡ Err (fault.Truncated 2)
unfolding read_of tables_at parts_at head_at version_at byte_at
magic_cut = refl

abbrev before_edge : List ℕ
before_edge = (80 ∷ 76 ∷ 65 ∷ 78 ∷ 73 ∷ 77 ∷ 71 ∷ 1 ∷ []) ++ ones ++ ones ++ (120 ∷ []) ++ ones ++ (0 ∷ 1 ∷ 97 ∷ []) ++ zeros ++ zeros ++ ones

abbrev before_code : List ℕ
before_code = before_edge ++ (0 ∷ []) ++ zeros ++ zeros ++ zeros ++ ones ++ zeros ++ zeros

abbrev twos : List ℕ
twos = 0 ∷ 0 ∷ 0 ∷ 2 ∷ []

pub bad_sort : read_of (before_edge ++ 2 ∷ []) ≡ Err (fault.BadTag 36)
unfolding read_of tables_at parts_at head_at version_at numbers_at bodies_at body_table_at body_at body_instr_at edges_at edge_at own_code_at shared_code_at sort_at instr_at pool_at slot_at kind_at byte_at ascending_at next_at table_at items_at file_at text_at bytes_at number_up_to number_at
bad_sort = refl

pub bad_opcode : read_of (before_code ++ twos ++ 29 ∷ 0 ∷ [] ++ ones ++ zeros) ≡ Err (fault.BadTag 65)
unfolding read_of tables_at parts_at head_at version_at numbers_at bodies_at body_table_at body_at body_instr_at edges_at edge_at own_code_at shared_code_at sort_at instr_at pool_at slot_at kind_at byte_at ascending_at next_at table_at items_at file_at text_at bytes_at number_up_to number_at
bad_opcode = refl

pub bad_flag : read_of (before_code ++ twos ++ 12 ∷ 2 ∷ 0 ∷ [] ++ ones ++ zeros) ≡ Err (fault.BadTag 66)
unfolding read_of tables_at parts_at head_at version_at numbers_at bodies_at body_table_at body_at body_instr_at edges_at edge_at own_code_at shared_code_at sort_at instr_at pool_at slot_at kind_at byte_at ascending_at next_at table_at items_at file_at text_at bytes_at number_up_to number_at
bad_flag = refl

pub bad_order : read_of (before_code ++ ones ++ 0 ∷ [] ++ twos ++ zeros ++ zeros) ≡ Err (fault.BadOrder 74)
unfolding read_of tables_at parts_at head_at version_at numbers_at bodies_at body_table_at body_at body_instr_at edges_at edge_at own_code_at shared_code_at sort_at instr_at pool_at slot_at kind_at byte_at ascending_at next_at table_at items_at file_at text_at bytes_at number_up_to number_at
bad_order = refl

pub shown : listing_of parts ≡ codes "text 0 78\nfile 0 61\nedge 0 command rank 0 pool - label 0 outputs 0 waits -\n  0 End\ndefault 0\n"
unfolding digits
shown = refl

-- ---- version 2

-- the empty image has 36 bytes
pub empty_spelled : spelling (record { texts = []; files = []; pools = []; slots = []; bodies = Some []; edges = []; defaults = [] }) ≡ (80 ∷ 76 ∷ 65 ∷ 78 ∷ 73 ∷ 77 ∷ 71 ∷ 2 ∷ []) ++ zeros ++ zeros ++ zeros ++ zeros ++ zeros ++ zeros ++ zeros
unfolding spelling
empty_spelled = refl

abbrev sharing_edge : Edge
sharing_edge = record { sort = sort.Command; pool = None; rank = 0; label = 0; outputs = 0 ∷ []; waits = []; code = code_form.Shared 0 [] }

abbrev sharing : Parts
sharing = record { texts = (120 ∷ []) ∷ []; files = (97 ∷ []) ∷ []; pools = []; slots = []; bodies = Some ((member.Fixed op.End ∷ []) ∷ []); edges = sharing_edge ∷ []; defaults = 0 ∷ [] }

abbrev before_bodies : List ℕ
before_bodies = (80 ∷ 76 ∷ 65 ∷ 78 ∷ 73 ∷ 77 ∷ 71 ∷ 2 ∷ []) ++ ones ++ ones ++ (120 ∷ []) ++ ones ++ (0 ∷ 1 ∷ 97 ∷ []) ++ zeros ++ zeros

abbrev before_number : List ℕ
before_number = before_bodies ++ ones ++ ones ++ (0 ∷ []) ++ ones ++ (0 ∷ []) ++ zeros ++ zeros ++ zeros ++ ones ++ zeros ++ zeros

-- 82 bytes
pub sharing_spelled : spelling sharing ≡ before_number ++ zeros ++ ones ++ zeros
unfolding spelling
sharing_spelled = refl

pub sharing_read : read_of (before_number ++ zeros ++ ones ++ zeros) ≡ Ok sharing
unfolding read_of tables_at parts_at head_at version_at numbers_at bodies_at body_table_at body_at body_instr_at edges_at edge_at own_code_at shared_code_at sort_at instr_at pool_at slot_at kind_at byte_at ascending_at next_at table_at items_at file_at text_at bytes_at number_up_to number_at
sharing_read = refl

pub sharing_code : code sharing 0 ≡ op.End ∷ []
sharing_code = refl

pub no_such_body : read_of (before_number ++ ones ++ ones ++ zeros) ≡ Err (fault.BadBody 70)
unfolding read_of tables_at parts_at head_at version_at numbers_at bodies_at body_table_at body_at body_instr_at edges_at edge_at own_code_at shared_code_at sort_at instr_at pool_at slot_at kind_at byte_at ascending_at next_at table_at items_at file_at text_at bytes_at number_up_to number_at
no_such_body = refl

pub bad_version : read_of ((80 ∷ 76 ∷ 65 ∷ 78 ∷ 73 ∷ 77 ∷ 71 ∷ 3 ∷ []) ++ zeros) ≡ Err (fault.BadVersion 7)
unfolding read_of tables_at parts_at head_at version_at byte_at
bad_version = refl

pub long_body : read_of (before_bodies ++ ones ++ 0 ∷ 1 ∷ 0 ∷ 1 ∷ []) ≡ Err (fault.Limit 36)
unfolding read_of tables_at parts_at head_at version_at numbers_at bodies_at body_table_at body_at body_instr_at edges_at edge_at own_code_at shared_code_at sort_at instr_at pool_at slot_at kind_at byte_at ascending_at next_at table_at items_at file_at text_at bytes_at number_up_to number_at
long_body = refl

-- a body with open instructions: Text t, Load s, End
abbrev open_body : List BodyInstr
open_body = member.Open opening.Text ∷ member.Open opening.Load ∷ member.Fixed op.End ∷ []

abbrev opened_code : List Instr
opened_code = op.Text 7 ∷ op.Load 9 ∷ op.End ∷ []

pub is_filled : with_operands open_body (7 ∷ 9 ∷ []) ≡ opened_code
is_filled = refl

pub is_split : body_of opened_code ≡ open_body
is_split = refl

pub are_given : operands_of opened_code ≡ 7 ∷ 9 ∷ []
are_given = refl

abbrev two_edges : Parts
two_edges = record { texts = []; files = []; pools = []; slots = []; bodies = Some (open_body ∷ []); edges = record { sort = sort.Phony; pool = None; rank = 0; label = 0; outputs = []; waits = []; code = code_form.Shared 0 (7 ∷ 9 ∷ []) } ∷ []; defaults = [] }

pub operands_spelled : spelling two_edges ≡ (80 ∷ 76 ∷ 65 ∷ 78 ∷ 73 ∷ 77 ∷ 71 ∷ 2 ∷ []) ++ zeros ++ zeros ++ zeros ++ zeros ++ ones ++ (0 ∷ 0 ∷ 0 ∷ 3 ∷ 15 ∷ 3 ∷ 0 ∷ []) ++ ones
    ++ (1 ∷ []) ++ zeros ++ zeros ++ zeros ++ zeros ++ zeros ++ zeros ++ (0 ∷ 0 ∷ 0 ∷ 7 ∷ 0 ∷ 0 ∷ 0 ∷ 9 ∷ []) ++ zeros
unfolding spelling
operands_spelled = refl

pub operands_read : read_of (spelling two_edges) ≡ Ok two_edges
unfolding read_of tables_at parts_at head_at version_at numbers_at bodies_at body_table_at body_at body_instr_at edges_at edge_at own_code_at shared_code_at sort_at instr_at pool_at slot_at kind_at byte_at ascending_at next_at table_at items_at file_at text_at bytes_at number_up_to number_at spelling
operands_read = refl

pub sharing_shown : listing_of sharing ≡ codes "text 0 78\nfile 0 61\nbody 0\n  0 End\nedge 0 command rank 0 pool - label 0 outputs 0 waits - body 0 operands -\ndefault 0\n"
unfolding digits
sharing_shown = refl

pub operands_shown : listing_of two_edges ≡ codes "body 0\n  0 Text _\n  1 Load _\n  2 End\nedge 0 phony rank 0 pool - label 0 outputs - waits - body 0 operands 7 9\ndefault -\n"
unfolding digits
operands_shown = refl

-- ---- columns

abbrev heads : List Head
heads = record { sort = sort.Phony; pool = Some 4; rank = 8; label = 9; body = Some 0 } ∷ record { sort = sort.Command; pool = None; rank = 0; label = 0; body = None } ∷ []

-- the rows of two edges: the first has a body and operands, the second has its own instructions
pub in_columns : by_place (edge_with ((5 ∷ 6 ∷ []) ∷ (0 ∷ []) ∷ []) ((1 ∷ []) ∷ [] ∷ []) ([] ∷ (12 ∷ 1 ∷ 0 ∷ []) ∷ []) ((2 ∷ 3 ∷ []) ∷ (1 ∷ 7 ∷ 0 ∷ []) ∷ [])) 0 heads
    ≡ record { sort = sort.Phony; pool = Some 4; rank = 8; label = 9; outputs = 5 ∷ 6 ∷ []; waits = 1 ∷ []; code = code_form.Shared 0 (2 ∷ 3 ∷ []) }
    ∷ record { sort = sort.Command; pool = None; rank = 0; label = 0; outputs = 0 ∷ []; waits = []; code = code_form.Own (op.Flag true ∷ op.Stat 7 ∷ op.End ∷ []) } ∷ []
in_columns = refl

-- a row after those of the last edge changes nothing
pub row_left_over : by_place (edge_with ((0 ∷ []) ∷ (9 ∷ []) ∷ []) ([] ∷ []) ((0 ∷ []) ∷ []) ((0 ∷ []) ∷ [])) 0 (record { sort = sort.Command; pool = None; rank = 0; label = 0; body = None } ∷ []) ≡ one_edge ∷ []
row_left_over = refl
