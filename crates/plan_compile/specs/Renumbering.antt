-- Edges whose bodies have other numbers.
use Rattle.std.specs.Prelude.{ℕ, List, get_or}
use Rattle.plan_image.specs.declared.image.EdgeCode.{EdgeCode}
use Rattle.plan_image.specs.declared.image.EdgeCode.TheVariants.{Own, Shared}
use Rattle.plan_image.specs.declared.image.Edge.{Edge}

-- a code whose body has a new number, the one in this list at the old number
abbrev pub renumbered_code : List ℕ → EdgeCode → EdgeCode
renumbered_code numbers (Shared body operands) = Shared (get_or numbers body 0) operands
renumbered_code numbers (Own instrs) = Own instrs

abbrev pub renumbered : List ℕ → Edge → Edge
renumbered numbers e = record {
  sort = e.sort;
  pool = e.pool;
  rank = e.rank;
  label = e.label;
  outputs = e.outputs;
  waits = e.waits;
  code = renumbered_code numbers e.code;
}
