-- The numbers and the offsets of faults.
use Rattle.std.specs.Prelude.{ℕ, Option, Some, None}
use Rattle.plan_depfile.specs.declared.fault.DepFault.{DepFault}
use Rattle.plan_depfile.specs.declared.fault.DepFault.TheVariants.{NoColon, NoTarget, LoneDollar, TooLong, PathTooLong, Memory}

abbrev pub number_of : DepFault → ℕ
number_of (NoColon at) = 90
number_of (NoTarget at) = 91
number_of (LoneDollar at) = 92
number_of (TooLong at) = 93
number_of (PathTooLong at) = 94
number_of Memory = 95

abbrev pub offset_of : DepFault → Option ℕ
offset_of (NoColon at) = Some at
offset_of (NoTarget at) = Some at
offset_of (LoneDollar at) = Some at
offset_of (TooLong at) = Some at
offset_of (PathTooLong at) = Some at
offset_of Memory = None
