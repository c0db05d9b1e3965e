use Rattle.std.proofs.Common.{eqb, rules}
use Rattle.std.proofs.lemmas.Iterator.Search.{all_from_yields_List}
use Rattle.std.proofs.lemmas.Iterator.Splits.{YieldsList-from_slice_split}
use Rattle.std.proofs.Common.{sym}
use Rattle.plan_world.specs.Askable.{is_name}
use Rattle.plan_world.proofs.PathLemmas.{short_names}
use Rattle.plan_world.proofs.askable.are_names.Goals as goal

pub returns : goal.returns
returns c =
    all_from_yields_List is_name _ _ c.all.result c.all.ensures.ran
    (YieldsList-from_slice_split _ (λ b. eqb b 47) c.args.path.now c.split.ensures.rest c.split.ensures.done c.split.ensures.closure (λ x b q h. search rules))
    (λ x b q h. search rules)

pub returns-then-path-le-LONGEST_NAME : goal.returns-then-path-le-LONGEST_NAME
returns-then-path-le-LONGEST_NAME c = sym (short_names c.args.path.now c.if-path-le-LONGEST_NAME.true)
