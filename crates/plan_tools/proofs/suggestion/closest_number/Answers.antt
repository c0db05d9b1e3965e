use Rattle.std.proofs.Common.{◌≡◌, ℕ, List, ap, subst, length, arith}
use Rattle.std.proofs.lemmas.List.{length-map}
use Rattle.plan_graph.specs.Files.{paths_in}
use Rattle.plan_tools.specs.Suggestion.{IsBest, distance_at, edit_distance}
use Rattle.plan_tools.proofs.SuggestionLemmas.{got, suggested}
use Rattle.plan_tools.proofs.suggestion.closest_number.Goals as goal

pub loop-number-preserved : goal.loop-number-preserved
loop-number-preserved c =
    let words : List (List ℕ) = paths_in c.args.graph.now.files in
    let word : List ℕ = c.args.word.now in
    let n : ℕ = c.loop-number.number in
    let here : distance_at words word n ≡ edit_distance c.in-Some.path.now word = ap (λ (w : List ℕ). edit_distance w word) (got words n c.in-Some.path.now c.in-Some.ensures) in
    c.in_ok-best-in-Some.ensures (distance_at words word) here c.loop-number.invariant

pub returns : goal.returns
returns c =
    let words : List (List ℕ) = paths_in c.args.graph.now.files in
    let word : List ℕ = c.args.word.now in
    let long : length words ≡ length c.args.graph.now.files = length-map c.args.graph.now.files (λ f. f.0) in
    let all : c.loop-number.number ≡ length words = omega (arith, c.loop-number-test.false, c.loop-number.auto.number-end, c.len-number-end.ensures, long) in
    suggested words word c.loop-number.best.distance c.loop-number.best.number (subst (λ (n : ℕ). IsBest (distance_at words word) n c.loop-number.best) all c.loop-number.invariant)
