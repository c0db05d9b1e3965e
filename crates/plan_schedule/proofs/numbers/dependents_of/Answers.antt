use Rattle.std.proofs.Common.{◌≡◌, ◌≢◌, ◌<◌, ◌≤◌, ◌+◌, ◌++◌, ◌∙◌, ◌⊎◌, inl, inr, [], ℕ, List, ap, arith, get_or, length, refl, subst, sym}
use Rattle.std.specs.Prelude.{All, replicate}
use Rattle.std.proofs.lemmas.Bool.{cases_eq}
use Rattle.std.proofs.lemmas.List.{get_or_default}
use Rattle.std.proofs.lemmas.List.Elements.{All-append, All-nil, All-replicate}
use Rattle.plan_schedule.specs.BucketContents.{bucket_len}
use Rattle.plan_schedule.proofs.DependentLemmas.{more_here, more_there}
use Rattle.plan_schedule.proofs.numbers.dependents_of.Goals as goal

pub add-requires : goal.add-requires
add-requires c =
    let waits = c.args.waits.now in
    let i = c.loop-row.row-index in
    let row : c.as_slice.result.now ≡ get_or waits i [] = c.as_slice.ensures ∙ (c.row-item.is ∙ get_or_default waits i c.row-item.result [] c.loop-row-test.true) in
    λ k d lt. subst (λ n. get_or c.as_slice.result.now k d < n) (sym c.loop-row.invariant.len)
    (subst (λ (l : List ℕ). get_or l k d < length waits) (sym row) (c.requires.inside i k d (subst (λ (l : List ℕ). k < length l) row lt)))

pub loop-row-init : goal.loop-row-init
loop-row-init c =
    let empty = c.in_ok-rows.ensures.empty in
    record {
      edge = refl;
      len = c.in_ok-rows.ensures.len;
      kept = λ w h. subst (All (λ u. u < length c.args.waits.now)) (sym (empty w)) (All-nil (λ u. u < length c.args.waits.now));
      done = λ x w lt h. absurd (omega (arith, lt));
      open_yet = λ x w le h. ap (bucket_len x) (empty w);
    }

pub loop-row-preserved : goal.loop-row-preserved
loop-row-preserved c =
    let waits = c.args.waits.now in
    let i = c.loop-row.row-index in
    let e = c.loop-row.edge in
    let inv = c.loop-row.invariant in
    let rows = c.loop-row.rows.items in
    let new = c.add.new.rows.items in
    let row : c.as_slice.result.now ≡ get_or waits i [] = c.as_slice.ensures ∙ (c.row-item.is ∙ get_or_default waits i c.row-item.result [] c.loop-row-test.true) in
    let mine : c.as_slice.result.now ≡ get_or waits e [] = row ∙ ap (λ v. get_or waits v []) (sym inv.edge) in
    let at : (w : ℕ) → w < length waits → get_or new w [] ≡ get_or rows w [] ++ replicate (bucket_len w c.as_slice.result.now) e = λ w h. c.in_ok-add.ensures.rows w (subst (λ n. w < n) (sym inv.len) h) in
    record {
      edge = omega (arith, inv.edge);
      len = c.in_ok-add.ensures.len ∙ inv.len;
      kept = λ w h. subst (All (λ u. u < length waits)) (sym (at w h)) (All-append (λ u. u < length waits) (get_or rows w []) (replicate (bucket_len w c.as_slice.result.now) e) (inv.kept w h)
          (All-replicate (λ u. u < length waits) (bucket_len w c.as_slice.result.now) e (omega (arith, inv.edge, c.loop-row-test.true))));
      done = λ x w lt h. ap (bucket_len x) (at w h) ∙ elim (cases_eq x e) [
        | inl same ↦
            let here : bucket_len e (get_or rows w [] ++ replicate (bucket_len w c.as_slice.result.now) e) ≡ bucket_len e (get_or rows w []) + bucket_len w c.as_slice.result.now = more_here e (bucket_len w c.as_slice.result.now) (get_or rows w []) in
            let none : bucket_len e (get_or rows w []) ≡ 0 = inv.open_yet e w (omega arith) h in
            let as_x : bucket_len x (get_or rows w [] ++ replicate (bucket_len w c.as_slice.result.now) e) ≡ bucket_len e (get_or rows w [] ++ replicate (bucket_len w c.as_slice.result.now) e)
            = ap (λ v. bucket_len v (get_or rows w [] ++ replicate (bucket_len w c.as_slice.result.now) e)) same in
            let told : bucket_len w c.as_slice.result.now ≡ bucket_len w (get_or waits x []) = ap (bucket_len w) mine ∙ ap (λ v. bucket_len w (get_or waits v [])) (sym same) in
            omega (arith, here, none, as_x, told)
        | inr other ↦ more_there x e (bucket_len w c.as_slice.result.now) (get_or rows w []) (λ q. other (sym q)) ∙ inv.done x w (omega (arith, lt, other)) h
      ];
      open_yet = λ x w le h. ap (bucket_len x) (at w h) ∙ (more_there x e (bucket_len w c.as_slice.result.now) (get_or rows w []) (λ q. omega (arith, q, le)) ∙ inv.open_yet x w (omega (arith, le)) h);
    }
