-- The numbers and the offsets of faults.
use Rattle.std.specs.Prelude.{ℕ, Option, Some, None}
use Rattle.plan_image.specs.declared.fault.Cause.{Cause}
use Rattle.plan_image.specs.declared.fault.Cause.TheVariants as cause
use Rattle.plan_image.specs.declared.fault.ImageFault.{ImageFault}
use Rattle.plan_image.specs.declared.fault.ImageFault.TheVariants.{BadMagic, BadVersion, Truncated, Trailing, BadTag, Limit, Memory, BadOrder, BadBody}

abbrev pub number_of : ImageFault → ℕ
number_of (BadMagic at) = 60
number_of (BadVersion at) = 61
number_of (Truncated at) = 62
number_of (Trailing at) = 63
number_of (BadTag at) = 64
number_of (Limit at) = 65
number_of Memory = 66
number_of (BadOrder at) = 67
number_of (BadBody at) = 68

abbrev pub offset_of : ImageFault → Option ℕ
offset_of (BadMagic at) = Some at
offset_of (BadVersion at) = Some at
offset_of (Truncated at) = Some at
offset_of (Trailing at) = Some at
offset_of (BadTag at) = Some at
offset_of (Limit at) = Some at
offset_of Memory = None
offset_of (BadOrder at) = Some at
offset_of (BadBody at) = Some at

-- the fault with this cause at an offset
abbrev pub fault_at : Cause → ℕ → ImageFault
fault_at cause.BadMagic at = BadMagic at
fault_at cause.BadVersion at = BadVersion at
fault_at cause.Truncated at = Truncated at
fault_at cause.Trailing at = Trailing at
fault_at cause.BadTag at = BadTag at
fault_at cause.Limit at = Limit at
fault_at cause.BadOrder at = BadOrder at
fault_at cause.BadBody at = BadBody at
