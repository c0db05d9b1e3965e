-- The numbers of refusals, and the edges and places of faults.
use Rattle.std.specs.Prelude.{ℕ, Option, Some, None}
use Rattle.plan_verify.specs.declared.fault.Refusal.{Refusal}
use Rattle.plan_verify.specs.declared.fault.Refusal.TheVariants as refusal
use Rattle.plan_verify.specs.declared.fault.VerifyFault.{VerifyFault}
use Rattle.plan_verify.specs.declared.fault.VerifyFault.TheVariants as fault

-- 70 to 87, without 86
abbrev pub number_of_refusal : Refusal → ℕ
number_of_refusal refusal.EmptyStack = 70
number_of_refusal refusal.WrongKind = 71
number_of_refusal refusal.BadSlot = 72
number_of_refusal refusal.UnsetSlot = 73
number_of_refusal refusal.BadJump = 74
number_of_refusal refusal.ShapesDiffer = 75
number_of_refusal refusal.NotHolding = 76
number_of_refusal refusal.Holding = 77
number_of_refusal refusal.TooDeep = 78
number_of_refusal refusal.BadWait = 79
number_of_refusal refusal.BadFile = 80
number_of_refusal refusal.BadText = 81
number_of_refusal refusal.BadPool = 82
number_of_refusal refusal.FallsOff = 83
number_of_refusal refusal.DeadCode = 84
number_of_refusal refusal.PathsInSlot = 85
number_of_refusal refusal.ValuesLeft = 87

abbrev pub number_of : VerifyFault → ℕ
number_of (fault.Refused r e place) = number_of_refusal r
number_of fault.Memory = 86

abbrev pub edge_of : VerifyFault → Option ℕ
edge_of (fault.Refused r e place) = Some e
edge_of fault.Memory = None

abbrev pub place_of : VerifyFault → Option ℕ
place_of (fault.Refused r e place) = Some place
place_of fault.Memory = None
