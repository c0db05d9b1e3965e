use Rattle.std.proofs.Common.{sym, ◌∙◌}
use Rattle.plan_world.proofs.PathLemmas.{none_if_whole, not_from, from_not, whole_if_none}
use Rattle.plan_world.proofs.askable.is_whole.Goals as goal

pub returns : goal.returns
returns c =
    let value = c.contains.ensures.value in (
      λ none. whole_if_none c.args.path.now (sym value ∙ from_not c.contains.result none),
      λ whole. not_from c.contains.result (value ∙ none_if_whole c.args.path.now whole),
    )
