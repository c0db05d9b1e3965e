-- The numbers and the offsets of faults.
use Rattle.std.specs.Prelude.{ℕ, Option, Some, None}
use Rattle.plan_text.specs.declared.fault.TextFault.{TextFault}
use Rattle.plan_text.specs.declared.fault.TextFault.TheVariants.{TabBlank, NulByte, BadEscape, SourceTooLong, Memory, EmptyPath}

abbrev pub number_of : TextFault → ℕ
number_of (TabBlank at) = 1
number_of (NulByte at) = 2
number_of (BadEscape at) = 3
number_of (SourceTooLong at) = 4
number_of Memory = 5
number_of EmptyPath = 6

abbrev pub offset_of : TextFault → Option ℕ
offset_of (TabBlank at) = Some at
offset_of (NulByte at) = Some at
offset_of (BadEscape at) = Some at
offset_of (SourceTooLong at) = Some at
offset_of Memory = None
offset_of EmptyPath = None
