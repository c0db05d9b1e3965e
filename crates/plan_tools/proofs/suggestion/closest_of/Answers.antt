use Rattle.std.proofs.Common.{◌≡◌, [], ℕ, List, ap, subst, map, length, arith}
use Rattle.std.proofs.lemmas.List.{length-map}
use Rattle.plan_tools.specs.Suggestion.{IsBest, distance_at, edit_distance}
use Rattle.plan_tools.proofs.SortLemmas.{at_map}
use Rattle.plan_tools.proofs.SuggestionLemmas.{suggested}
use Rattle.plan_tools.proofs.WritingLemmas.{bytes_of}
use Rattle.plan_tools.proofs.suggestion.closest_of.Goals as goal

pub loop-number-preserved : goal.loop-number-preserved
loop-number-preserved c =
    let words : List (List ℕ) = map bytes_of c.args.words.now in
    let word : List ℕ = c.args.word.now in
    c.in_ok-best.ensures (distance_at words word) (ap (λ (w : List ℕ). edit_distance w word) (at_map c.args.words.now c.loop-number.number [] _ c.loop-number-test.true)) c.loop-number.invariant

pub returns : goal.returns
returns c =
    let words : List (List ℕ) = map bytes_of c.args.words.now in
    let word : List ℕ = c.args.word.now in
    let long : length words ≡ length c.args.words.now = length-map c.args.words.now bytes_of in
    let all : c.loop-number.number ≡ length words = omega (arith, c.loop-number-test.false, c.loop-number.auto.number-end, long) in
    suggested words word c.loop-number.best.distance c.loop-number.best.number (subst (λ (n : ℕ). IsBest (distance_at words word) n c.loop-number.best) all c.loop-number.invariant)
