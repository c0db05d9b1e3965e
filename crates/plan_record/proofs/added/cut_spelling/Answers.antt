use Rattle.std.proofs.Common.{◌≡◌, ◌∙◌, ◌++◌, ◌∷◌, ◌-◌, [], List, ℕ, ap, drop, length, subst, sym, take}
use Rattle.std.specs.Prelude.{Some, slice_get}
use Rattle.std.proofs.lemmas.List.{take-append-drop, take_rest}
use Rattle.std.proofs.lemmas.Option.{get_or_from_slice_get, slice_get_within}
use Rattle.plan_chunks.specs.Joining.{AreBelow, joined}
use Rattle.plan_record.proofs.AddedLemmas.{joined_put, keeps_far, number_put}
use Rattle.plan_record.proofs.added.cut_spelling.Goals as goal

pub returns-in_err-put-clause-keeps : goal.returns-in_err-put-clause-keeps
returns-in_err-put-clause-keeps c = keeps_far c.args.chunks.now c.loop-rest.chunks c.put.new.self c.loop-rest.invariant.keeps c.in_err-put.ensures.keeps

pub returns-in_err-push-clause-keeps : goal.returns-in_err-push-clause-keeps
returns-in_err-push-clause-keeps c = keeps_far c.args.chunks.now c.loop-rest.chunks c.put.new.self c.loop-rest.invariant.keeps c.in_ok-put.ensures.keeps

pub loop-rest-preserved : goal.loop-rest-preserved
loop-rest-preserved c =
    let before : List (List ℕ) = c.loop-rest.chunks in
    let now : List (List ℕ) = c.put.new.self in
    let ns : List ℕ = c.loop-rest.numbers.items in
    let n : ℕ = c.in_ok-put.field-0 in
    let rest : List ℕ = c.loop-rest.rest.now in
    let len : ℕ = c.loop-rest.len in
    let chunk : List ℕ = take len rest in
    let behind : List ℕ = take (length rest - len) (drop len rest) in
    let kept = c.in_ok-put.ensures.keeps ns c.loop-rest.invariant.below in
    let at : slice_get now n ≡ Some chunk = c.in_ok-put.ensures.chunk in
    let cut : chunk ++ behind ≡ rest = ap (λ (t : List ℕ). chunk ++ t) (take_rest rest len) ∙ take-append-drop len rest in
    let all : c.push.new.self.items ≡ ns ++ n ∷ [] = c.in_ok-push.ensures.items in
    record {
      so_far = ap (λ (ms : List ℕ). joined now ms ++ behind) all
          ∙ joined_put before now ns n chunk behind rest c.args.spelling.now kept.1 (get_or_from_slice_get now n chunk [] at) cut c.loop-rest.invariant.so_far;
      below = subst (AreBelow (length now)) (sym all) (number_put (length now) ns n kept.0 (slice_get_within now n chunk at));
      keeps = keeps_far c.args.chunks.now before now c.loop-rest.invariant.keeps c.in_ok-put.ensures.keeps;
      within = c.path_len-len.ensures.within;
      some = c.path_len-len.ensures.some;
    }
