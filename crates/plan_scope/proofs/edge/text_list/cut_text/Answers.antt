use Rattle.std.proofs.Common.{◌≡◌, ◌∙◌, ◌++◌, ◌∷◌, ◌-◌, [], List, ℕ, ap, drop, length, subst, sym, take}
use Rattle.std.specs.Prelude.{Some, slice_get}
use Rattle.std.proofs.lemmas.List.{take-append-drop, take_rest}
use Rattle.std.proofs.lemmas.Option.{get_or_from_slice_get, slice_get_within}
use Rattle.plan_scope.specs.Scopes.{Text}
use Rattle.plan_chunks.specs.Joining.{AreBelow, joined}
use Rattle.plan_scope.proofs.EdgeRowLemmas.{more_far}
use Rattle.plan_scope.proofs.TextListLemmas.{below_more, joined_put, more_long, number_put}
use Rattle.plan_scope.proofs.edge.text_list.cut_text.Goals as goal

pub loop-rest-preserved : goal.loop-rest-preserved
loop-rest-preserved c =
    let so_far = c.loop-rest.invariant in
    let before : List Text = c.loop-rest.chunks in
    let now : List Text = c.put.new.self in
    let ns : List ℕ = c.loop-rest.numbers.items in
    let n : ℕ = c.in_ok-put.field-0 in
    let rest : Text = c.loop-rest.rest.now in
    let len : ℕ = c.chunk_len-len.result in
    let chunk : Text = take len rest in
    let behind : Text = take (length rest - len) (drop len rest) in
    let more = c.in_ok-put.ensures.more in
    let at : slice_get now n ≡ Some chunk = c.in_ok-put.ensures.chunk in
    let cut : chunk ++ behind ≡ rest = ap (λ (t : Text). chunk ++ t) (take_rest rest len) ∙ take-append-drop len rest in
    let all : c.push.new.self.items ≡ ns ++ n ∷ [] = c.in_ok-push.ensures.items in
    let below = below_more (length before) (length now) ns (more_long before now more) so_far.1 in (
      ap (λ (ms : List ℕ). joined now ms ++ behind) all
          ∙ joined_put before now ns n chunk rest behind c.args.text.now more so_far.1 (get_or_from_slice_get now n chunk [] at) cut so_far.0,
      subst (AreBelow (length now)) (sym all) (number_put (length now) ns n below (slice_get_within now n chunk at)),
      more_far c.args.chunks.now before now so_far.2 more,
    )
