use Rattle.std.proofs.Common.{◌≡◌, ◌∙◌, ◌++◌, ◌∷◌, ◌+◌, [], List, ℕ, ap, arith, length, length-append, subst, sym}
use Rattle.std.specs.List.{All}
use Rattle.std.proofs.lemmas.List.Elements.{All-nil}
use Rattle.plan_chunks.specs.Joining.{AreBelow, IsBelow}
use Rattle.plan_scope.specs.TextLists.{texts_from}
use Rattle.plan_scope.proofs.TextListLemmas.{below_put, none_put}
use Rattle.plan_scope.proofs.edge.text_list.fill.Goals as goal

pub loop-rows-preserved : goal.loop-rows-preserved
loop-rows-preserved c =
    let rows : List (List ℕ) = c.loop-rows.rows in
    let more : c.push.new.self ≡ rows ++ [] ∷ [] = c.in_ok-push.ensures.more in
    let grown : length c.push.new.self ≡ length rows + 1 = ap (λ (ns : List (List ℕ)). length ns) more ∙ length-append rows ([] ∷ []) in
    record {
      texts = λ chunks texts. ap (texts_from chunks texts) more ∙ none_put chunks texts rows ∙ c.loop-rows.invariant.texts chunks texts;
      below = λ most h. subst (All (AreBelow most)) (sym more) (below_put most rows [] (c.loop-rows.invariant.below most h) (All-nil (IsBelow most)));
      within = omega (arith, grown, c.len.ensures, c.loop-rows-test.true);
    }
