use Rattle.std.proofs.lemmas.Slice.Eq.{slice_eq-Decides}
use Rattle.plan_verify.proofs.KindsLemmas.{kinds_decide}
use Rattle.plan_verify.proofs.kinds.are_same.Goals as goal

pub returns : goal.returns
returns c = slice_eq-Decides kinds_decide _ _ _ c.eq.ensures
