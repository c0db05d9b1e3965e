use Rattle.std.proofs.Common.{◌∙◌, ◌-◌, sym, rules, take, drop, length}
use Rattle.plan_text.proofs.CanonicalPathsLemmas.{cut_first, path_stays, rooted_stays}
use Rattle.plan_text.proofs.path.is_canonical.Goals as goal

pub returns-in-47-clause-canonical : goal.returns-in-47-clause-canonical
returns-in-47-clause-canonical c = λ e. rooted_stays c.args.path.now (take (length c.args.path.now - 1) (drop 1 c.args.path.now)) (cut_first c.args.path.now c.in-47.len_at_least (search rules)) (sym c.are_normal.ensures ∙ e)

pub returns-in_default-clause-canonical : goal.returns-in_default-clause-canonical
returns-in_default-clause-canonical c = λ e. path_stays c.args.path.now (sym c.are_normal-in_default.ensures ∙ e)
