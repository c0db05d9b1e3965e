use Rattle.std.proofs.Common.{◌≡◌, ◌++◌, ◌∷◌, [], ℕ, Bool, false, nat_eq, ap, sym, ◌∙◌, subst, if◌then◌else◌}
use Rattle.std.specs.Cmp.Lexicographic.{pointwise}
use Rattle.std.specs.List.{list_any}
use Rattle.plan_depfile.specs.PathSets.{hash_of, start_of, IsPlace}
use Rattle.plan_depfile.specs.declared.place.Place.TheVariants.{Vacant}
use Rattle.plan_depfile.proofs.PathSetLemmas.{is_new}
use Rattle.plan_depfile.proofs.path_set.insert_into.Goals as goal

pub returns-in_ok-add-in-Vacant-clause-added : goal.returns-in_ok-add-in-Vacant-clause-added
returns-in_ok-add-in-Vacant-clause-added c =
    let paths = c.args.paths.now in
    let path = c.args.path.now in
    let table = c.make_ready.new.table in
    let starts : c.start_of-start.result ≡ start_of table.size (hash_of path) = c.start_of-start.ensures.start ∙ ap (start_of table.size) c.hash_of-hash.ensures in
    let found : IsPlace paths table.codes.items (start_of table.size (hash_of path)) path (Vacant c.in-Vacant.at) =
    subst (λ (k : ℕ). IsPlace paths table.codes.items k path (Vacant c.in-Vacant.at)) starts
    (subst (λ slots. IsPlace paths slots c.start_of-start.result path (Vacant c.in-Vacant.at)) c.deref.ensures.value c.in-Vacant.ensures) in
    let new : list_any (pointwise nat_eq path) paths ≡ false = is_new paths table.codes.items path table.size table.placed c.in-Vacant.at found.0 found.1 c.in_ok-make_ready.ensures.all c.in_ok-make_ready.ensures.placed.met in
    c.in_ok-add-in-Vacant.ensures.more ∙ ap (λ (t : Bool). if t then paths else paths ++ path ∷ []) (sym new)
