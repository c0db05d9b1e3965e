-- The ranks of edges and of their waits.
use Rattle.std.proofs.Common.{◌≡◌, ℕ, ◌<◌, true, length, Option, Some, None, sym, ap, ◌∙◌, arith}
use Rattle.std.specs.Prelude.{slice_get, Contains}
use Rattle.std.proofs.lemmas.Option.{slice_get_within}
use Rattle.plan_image.specs.declared.image.Edge.{Edge}
use Rattle.plan_image.specs.declared.image.Parts.{Parts}
use Rattle.plan_verify.specs.Members.{is_member}
use Rattle.plan_verify.specs.Tables.{waits_in, waits_of}
use Rattle.plan_verify.specs.WellShaped.{IsWellShaped}
use Rattle.plan_verify.specs.Facts.{TablesAreInRange}
use Rattle.plan_machine.proofs.ListLemmas.{get_inside, member_contained}

abbrev pub rank_in : Option Edge → ℕ
rank_in (Some edge) = edge.rank
rank_in None = 0

abbrev pub rank_of : Parts → ℕ → ℕ
rank_of p e = rank_in (slice_get p.edges e)

-- each wait of an edge is in the image, and has a lesser rank
pub wait_below : TablesAreInRange → (p : Parts) → IsWellShaped p → (e w : ℕ) → e < length p.edges → is_member w (waits_of p e) ≡ true → (w < length p.edges) × (rank_of p w < rank_of p e)
wait_below in_range p shaped e w lt wait =
    let x = get_inside p.edges e lt in
    let there : Contains x.0.waits w = member_contained w x.0.waits (ap (λ (o : Option Edge). is_member w (waits_in o)) (sym x.1) ∙ wait) in
    let maker = ((in_range p shaped).edges e x.0 x.1).waits w there in
    (slice_get_within p.edges w maker.0 maker.1, omega (arith, maker.2, ap rank_in maker.1, ap rank_in x.1))
