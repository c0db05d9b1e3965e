-- The meaning of a depfile's bytes for an edge.
use Rattle.std.specs.Prelude.{ℕ, List, Option, Some, None, Result, Ok, Err}
use Rattle.plan_verify.specs.Turn.{Meaning}
use Rattle.plan_depfile.specs.declared.fault.DepFault.{DepFault}
use Rattle.plan_depfile.specs.Depfile.{depfile_of}
use Rattle.plan_depfile.specs.Faults.{number_of, offset_of}

-- running out of memory has no offset; the grammar never has this fault
abbrev pub or_zero : Option ℕ → ℕ
or_zero (Some at) = at
or_zero None = 0

-- the paths, or the number and offset of a fault
abbrev pub as_meaning : Result (List (List ℕ)) DepFault → Result (List (List ℕ)) (ℕ × ℕ)
as_meaning (Ok paths) = Ok paths
as_meaning (Err fault) = Err (number_of fault, or_zero (offset_of fault))

-- the meaning by the depfile grammar
abbrev pub depfile : Meaning
depfile bytes = as_meaning (depfile_of bytes)
