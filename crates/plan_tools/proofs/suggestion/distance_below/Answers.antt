use Rattle.std.proofs.Common.{◌≡◌, ◌≤◌, ◌∙◌, ℕ, List, length, arith}
use Rattle.std.specs.Int.{abs_diff}
use Rattle.std.proofs.lemmas.Bool.{le-ltb}
use Rattle.plan_tools.specs.Suggestion.{edit_distance}
use Rattle.plan_tools.proofs.SuggestionLemmas.{distance_is, far_apart, none_is, some_is}
use Rattle.plan_tools.proofs.suggestion.distance_below.Goals as goal

pub returns-then-abs_diff-limit : goal.returns-then-abs_diff-limit
returns-then-abs_diff-limit c =
    let text : List ℕ = c.args.text.now in
    let word : List ℕ = c.args.word.now in
    let far : c.args.limit ≤ abs_diff (length text) (length word) = omega (arith, c.if-abs_diff-limit.true, c.abs_diff.ensures) in
    none_is (edit_distance text word) c.args.limit (far_apart text word c.args.limit far)

pub returns-then-distance-limit : goal.returns-then-distance-limit
returns-then-distance-limit c =
    let text : List ℕ = c.args.text.now in
    let word : List ℕ = c.args.word.now in
    let is : c.in_ok-distance.distance ≡ edit_distance text word = c.in_ok-distance.ensures.value ∙ distance_is text word in
    some_is c.in_ok-distance.distance (edit_distance text word) c.args.limit is c.if-distance-limit.true

pub returns-else-distance-limit : goal.returns-else-distance-limit
returns-else-distance-limit c =
    let text : List ℕ = c.args.text.now in
    let word : List ℕ = c.args.word.now in
    let is : c.in_ok-distance.distance ≡ edit_distance text word = c.in_ok-distance.ensures.value ∙ distance_is text word in
    let above : c.args.limit ≤ edit_distance text word = omega (arith, is, c.if-distance-limit.false) in
    none_is (edit_distance text word) c.args.limit (le-ltb (edit_distance text word) c.args.limit above)
