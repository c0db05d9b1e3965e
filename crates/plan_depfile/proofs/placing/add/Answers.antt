use Rattle.std.proofs.Common.{◌≡◌, ◌++◌, ◌∷◌, [], ℕ, List, length, ap, sym, ◌∙◌, ◌+◌, ◌<◌, subst, arith, length-append}
use Rattle.plan_depfile.specs.PathSets.{hash_of, start_of, code_of, ArePlaced, IsVacant, IsFilled, IsPlaced}
use Rattle.plan_depfile.proofs.PathSetLemmas.{one_placed, slots_kept}
use Rattle.plan_depfile.proofs.placing.add.Goals as goal

pub returns-in_err-push-clause-placed : goal.returns-in_err-push-clause-placed
returns-in_err-push-clause-placed c =
    let table = c.args.table.now in
    let paths = c.args.paths.now in
    let old = table.codes.items in
    let new = c.fill.new.slots.items in
    let filled : IsFilled old c.args.at (code_of c.len-number.result c.args.hash) new = subst (λ (k : ℕ). IsFilled old c.args.at k new) c.code_of.ensures.code c.in_ok-fill.ensures.filled in
    subst (λ (rows : List (List ℕ)). ArePlaced rows (record table { codes = c.fill.new.slots })) (sym c.in_err-push.ensures.refused) (record {
      within = omega (arith, c.requires.placed.within, filled.longer);
      few = c.requires.placed.few;
      met = slots_kept paths old new table.size table.placed c.args.at c.len-number.result c.args.hash c.requires.vacant.empty filled c.requires.placed.met;
    })

pub returns-clause-placed : goal.returns-clause-placed
returns-clause-placed c =
    let table = c.args.table.now in
    let paths = c.args.paths.now in
    let path = c.args.path.now in
    let old = table.codes.items in
    let new = c.fill.new.slots.items in
    let at = c.args.at in
    let number : c.len-number.result ≡ length paths = c.len-number.ensures in
    let coded : c.code_of.result ≡ code_of (length paths) (hash_of path) = c.code_of.ensures.code ∙ ap (λ (n : ℕ). code_of n c.args.hash) number ∙ ap (code_of (length paths)) c.requires.hash in
    let filled : IsFilled old at (code_of (length paths) (hash_of path)) new = subst (λ (k : ℕ). IsFilled old at k new) coded c.in_ok-fill.ensures.filled in
    let vacant : IsVacant old (start_of table.size (hash_of path)) at = subst (λ (h : ℕ). IsVacant old (start_of table.size h) at) c.requires.hash c.requires.vacant in
    let len : length (paths ++ path ∷ []) ≡ length paths + 1 = length-append paths (path ∷ []) in
    let met : (n : ℕ) → n < length paths + 1 → n < length (paths ++ path ∷ []) → IsPlaced (paths ++ path ∷ []) new table.size n = one_placed paths path old new table.size table.placed at vacant filled c.requires.all c.requires.placed.met in
    let placed : ArePlaced (paths ++ path ∷ []) (record table { codes = c.fill.new.slots; placed = c.len-number.result + 1; room = c.saturating_sub-table.result }) = record {
      within = omega (arith, c.requires.placed.within, filled.longer);
      few = omega (arith, len, number, c.if-number-ge16777215.false);
      met = λ n lt. met n (omega (arith, lt, number));
    } in
    subst (λ (rows : List (List ℕ)). ArePlaced rows (record table { codes = c.fill.new.slots; placed = c.len-number.result + 1; room = c.saturating_sub-table.result })) (sym c.in_ok-push.ensures.more) placed
