use Rattle.std.proofs.Common.{List, ℕ, map, subst}
use Rattle.std.specs.List.Sorted.{IsPermutation}
use Rattle.std.proofs.lemmas.List.Sorted.{IsPermutation-map}
use Rattle.plan_tools.proofs.SortLemmas.{texts_sorted}
use Rattle.plan_tools.proofs.WritingLemmas.{bytes_of}
use Rattle.plan_tools.proofs.rule_listing.rule_targets.Goals as goal

pub returns : goal.returns
returns c = (
  subst (λ (all : List (List ℕ)). IsPermutation all (map bytes_of c.sort_paths.new.paths.items)) c.in_ok-paths.ensures
      (IsPermutation-map bytes_of c.in_ok-paths.paths.items c.sort_paths.new.paths.items c.sort_paths.ensures.whole),
  texts_sorted c.sort_paths.new.paths.items c.sort_paths.ensures.ascending,
)
