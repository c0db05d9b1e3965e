-- The code of an edge that an image lends to its readers: a borrowed view.
use Rattle.std.specs.Prelude.{List}
use Rattle.plan_image.specs.declared.body.Instr.{Instr}
use Rattle.plan_image.specs.declared.body.Members.{Members}
use Rattle.plan_image.specs.declared.body.Members.TheVariants as members
use Rattle.plan_image.specs.Bodies.{with_operands}
use Rattle.plan_image.specs.Columns.{lent_instrs}

-- the instructions that these represent
abbrev pub members_code : Members → List Instr
members_code (members.Own is) = lent_instrs is
members_code (members.Shared b ns) = with_operands b.now ns.now
