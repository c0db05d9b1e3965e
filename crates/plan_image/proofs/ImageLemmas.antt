-- The reasons why tables are no image.
use Rattle.std.proofs.Common.{◌≡◌, ◌↔◌, IsTrue, Bool, true, false, refl}
use Rattle.plan_image.specs.declared.fault.ImageFault.TheVariants as fault
use Rattle.plan_image.specs.declared.image.Parts.{Parts}
use Rattle.plan_image.specs.Spelling.{IsWithinLimits, IsInOrder, IsFilled}
use Rattle.plan_image.specs.Refusal.{IsPartsFault, over_limit, out_of_order, unfilled}

apart : false ≡ true → ⊥
apart e = cc

is_not : {A : Type 0} (t : Bool) → (IsTrue t ↔ A) → t ≡ false → A → ⊥
is_not true iff e a = absurd cc
is_not false iff e a = apart (iff.1 a)

is_so : {A : Type 0} (t : Bool) → (IsTrue t ↔ A) → t ≡ true → A
is_so true iff e = iff.0 refl
is_so false iff e = absurd cc

pub over : (p : Parts) (t : Bool) → (IsTrue t ↔ IsWithinLimits p) → t ≡ false → IsPartsFault p (fault.Limit 0)
over p t iff e = over_limit (is_not t iff e)

pub disordered : (p : Parts) (u : Bool) → IsWithinLimits p → (IsTrue u ↔ IsInOrder p) → u ≡ false → IsPartsFault p (fault.BadOrder 0)
disordered p u within iff e = out_of_order within (is_not u iff e)

pub not_filled : (p : Parts) (u v : Bool) → IsWithinLimits p → (IsTrue u ↔ IsInOrder p) → u ≡ true → (IsTrue v ↔ IsFilled p) → v ≡ false → IsPartsFault p (fault.BadBody 0)
not_filled p u v within iff e iff2 e2 = unfilled within (is_so u iff e) (is_not v iff2 e2)
