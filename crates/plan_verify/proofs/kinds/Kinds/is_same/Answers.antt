use Rattle.std.proofs.Common.{sym, ◌∙◌, ap}
use Rattle.std.specs.Prelude.{reverse}
use Rattle.plan_verify.proofs.KindsLemmas.{reverse_same}
use Rattle.plan_verify.proofs.kinds.Kinds.is_same.Goals as goal

pub returns : goal.returns
returns c = (
  λ t. sym c.self.view_is ∙ ap reverse (sym c.as_slice.ensures.value ∙ c.are_same.ensures.0 t ∙ c.as_slice-2.ensures.value) ∙ c.other.view_is,
  λ e. c.are_same.ensures.1 (c.as_slice.ensures.value ∙ reverse_same _ _ (c.self.view_is ∙ e ∙ sym c.other.view_is) ∙ sym c.as_slice-2.ensures.value),
)
