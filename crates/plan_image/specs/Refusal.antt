-- The reasons why tables are no image.
use Rattle.plan_image.specs.declared.fault.ImageFault.{ImageFault}
use Rattle.plan_image.specs.declared.fault.ImageFault.TheVariants as fault
use Rattle.plan_image.specs.declared.image.Parts.{Parts}
use Rattle.plan_image.specs.Spelling.{IsWithinLimits, IsInOrder, IsFilled}

-- a limit comes before an order, and an order before a body; the offset is always 0
pub data IsPartsFault (p : Parts) : ImageFault → Type 0 where
  over_limit : (IsWithinLimits p → ⊥) → IsPartsFault p (fault.Limit 0)
  out_of_order : IsWithinLimits p → (IsInOrder p → ⊥) → IsPartsFault p (fault.BadOrder 0)
  unfilled : IsWithinLimits p → IsInOrder p → (IsFilled p → ⊥) → IsPartsFault p (fault.BadBody 0)
