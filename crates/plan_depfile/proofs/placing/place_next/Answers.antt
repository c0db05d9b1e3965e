use Rattle.std.proofs.Common.{◌≡◌, ℕ, get_or, [], ap, ◌∙◌, subst, arith}
use Rattle.plan_depfile.specs.PathSets.{hash_of, start_of, code_of, IsVacant, IsFilled}
use Rattle.plan_depfile.proofs.PathSetLemmas.{next_placed}
use Rattle.plan_depfile.proofs.placing.place_next.Goals as goal

pub returns-clause-placed : goal.returns-clause-placed
returns-clause-placed c =
    let table = c.args.table.now in
    let paths = c.args.paths.now in
    let old = table.codes.items in
    let new = c.fill.new.slots.items in
    let path = get_or paths table.placed [] in
    let at = c.vacant-at.result in
    let hashed : c.hash_of-hash.result ≡ hash_of path = c.hash_of-hash.ensures ∙ ap hash_of c.row.ensures in
    let starts : c.start_of.result ≡ start_of table.size (hash_of path) = c.start_of.ensures.start ∙ ap (start_of table.size) hashed in
    let coded : c.code_of.result ≡ code_of table.placed (hash_of path) = c.code_of.ensures.code ∙ ap (code_of table.placed) hashed in
    let filled : IsFilled old at (code_of table.placed (hash_of path)) new = subst (λ (k : ℕ). IsFilled old at k new) coded c.in_ok-fill.ensures.filled in
    let vacant : IsVacant old (start_of table.size (hash_of path)) at = subst (λ (k : ℕ). IsVacant old k at) starts (subst (λ slots. IsVacant slots c.start_of.result at) c.deref.ensures.value c.vacant-at.ensures) in
    record {
      within = omega (arith, c.requires.placed.within, filled.longer);
      few = c.requires.placed.few;
      met = next_placed paths old new table.size table.placed at vacant filled c.requires.placed.met;
    }
