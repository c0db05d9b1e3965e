use Rattle.std.proofs.Common.{eqb, rules}
use Rattle.std.proofs.lemmas.Iterator.Search.{all_from_yields_List}
use Rattle.std.proofs.lemmas.Iterator.Splits.{YieldsList-from_slice_split}
use Rattle.plan_text.specs.Path.{is_normal}
use Rattle.plan_text.proofs.path.are_normal.Goals as goal

pub returns : goal.returns
returns c =
    all_from_yields_List is_normal _ _ c.all.result c.all.ensures.ran
    (YieldsList-from_slice_split _ (λ b. eqb b 47) c.args.path.now c.split.ensures.rest c.split.ensures.done c.split.ensures.closure (λ x b q h. search rules))
    (λ x b q h. search rules)
