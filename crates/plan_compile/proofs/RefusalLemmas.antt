-- Which limit an image exceeds.
use Rattle.std.proofs.Common.{◌≡◌, ℕ, zero, suc, ◌<◌, ◌≤◌, true, false, List, [], ◌∷◌, length, map, Some, refl, sym, ap, subst, ◌∙◌, arith, inl, inr}
use Rattle.std.specs.Prelude.{◌||◌, slice_get}
use Rattle.std.specs.List.{list_any, AllByRecursion}
use Rattle.std.proofs.lemmas.Bool.{ltb-true}
use Rattle.plan_scope.specs.declared.manifest.Manifest.{Manifest}
use Rattle.plan_graph.specs.declared.graph_data.Graph.{Graph}
use Rattle.plan_graph.specs.Files.{paths_in}
use Rattle.plan_image.specs.declared.body.Instr.{Instr}
use Rattle.plan_image.specs.declared.fault.ImageFault.{ImageFault}
use Rattle.plan_image.specs.declared.image.Parts.{Parts}
use Rattle.plan_image.specs.Bodies.{body_of}
use Rattle.plan_image.specs.Refusal.{IsPartsFault, over_limit, out_of_order, unfilled}
use Rattle.plan_image.specs.Spelling.{BodyFits, HasSpelling, IsWithinLimits}
use Rattle.plan_compile.specs.declared.baseline.OutOfDateRule.{OutOfDateRule}
use Rattle.plan_compile.specs.declared.fault.CompileFault.{CompileFault}
use Rattle.plan_compile.specs.declared.fault.CompileFault.TheVariants.{Limit, Memory}
use Rattle.plan_compile.specs.BodyKeys.{Body, same_body}
use Rattle.plan_compile.specs.Builds.{Build, Builds, builds}
use Rattle.plan_compile.specs.Images.{codes, compiled, image_of, used_bodies}
use Rattle.plan_compile.specs.Names.{declared, used_pools}
use Rattle.plan_compile.specs.Numbering.{number}
use Rattle.plan_compile.specs.Refusals.{IsRefused, RefusesCodes, RefusesEdges, is_too_long}
use Rattle.plan_compile.specs.Slots.{slot_count, slots_from}
use Rattle.plan_compile.proofs.BodyKeyLemmas.{bodies_decide}
use Rattle.plan_compile.proofs.BuildLemmas.{map_long}
use Rattle.plan_compile.proofs.ListLemmas.{some_is}
use Rattle.plan_compile.proofs.NumberingLemmas.{found}
use Rattle.plan_compile.proofs.PlanLemmas.{slots_length}

-- ---- tables that exceed a limit

-- refused tables exceed a limit, if they have a spelling otherwise
pub passes_limit : (p : Parts) (fault : ImageFault) → (IsWithinLimits p → HasSpelling p) → IsPartsFault p fault → IsWithinLimits p → ⊥
passes_limit p fault spelled (over_limit h) within = h within
passes_limit p fault spelled (out_of_order w h) within = h (spelled within).order
passes_limit p fault spelled (unfilled w o h) within = h (spelled within).filled

pub many_files : (rule : OutOfDateRule) (m : Manifest) (g : Graph) → 4194304 < length g.files → IsWithinLimits (compiled rule m g) → ⊥
many_files rule m g many within =
    let same : length (paths_in g.files) ≡ length g.files = map_long (λ x. x.0) g.files in
    let few : length (paths_in g.files) ≤ 4194304 = within.counts.files in
    omega (arith, same, few, many)

pub many_pools : (t : Builds) → 4096 < length (used_pools t.edges) → IsWithinLimits (image_of t) → ⊥
many_pools t many within =
    let same : length (map (declared t.pools) (used_pools t.edges)) ≡ length (used_pools t.edges) = map_long (declared t.pools) (used_pools t.edges) in
    let few : length (map (declared t.pools) (used_pools t.edges)) ≤ 4096 = within.counts.pools in
    omega (arith, same, few, many)

many_slots : (t : Builds) → 16777216 < slot_count t.edges → IsWithinLimits (image_of t) → ⊥
many_slots t many within =
    let same : length (slots_from zero t.edges) ≡ slot_count t.edges = slots_length zero t.edges in
    let few : length (slots_from zero t.edges) ≤ 16777216 = within.counts.slots in
    omega (arith, same, few, many)

-- ---- codes that are too long

long_code : (cs : List (List Instr)) → list_any is_too_long cs ≡ true → (k : ℕ) × (c : List Instr) × (slice_get cs k ≡ Some c) × (is_too_long c ≡ true)
long_code [] h = absurd cc
long_code (c ∷ cs) h =
    elim (is_too_long c) as (λ b. is_too_long c ≡ b → (b || list_any is_too_long cs) ≡ true → (k : ℕ) × (d : List Instr) × (slice_get (c ∷ cs) k ≡ Some d) × (is_too_long d ≡ true))
    [ true ↦ λ e g. (zero, c, refl, e) | false ↦ λ e g. let r = long_code cs g in (suc r.0, r.1, r.2, r.3) ] refl h

body_there : (cs : List (List Instr)) (k : ℕ) (c : List Instr) → slice_get cs k ≡ Some c → slice_get (map body_of cs) k ≡ Some (body_of c)
body_there [] k c h = absurd cc
body_there (d ∷ cs) zero c h = ap (λ (x : List Instr). Some (body_of x)) (some_is d c h)
body_there (d ∷ cs) (suc k) c h = body_there cs k c h

body_length : (is : List Instr) → length (body_of is) ≡ length is
body_length [] = refl
body_length (i ∷ is) = ap suc (body_length is)

of_each : (bs : List Body) (k : ℕ) (b : Body) → AllByRecursion BodyFits bs → slice_get bs k ≡ Some b → BodyFits b
of_each [] k b h at = absurd cc
of_each (c ∷ bs) zero b h at = subst BodyFits (some_is c b at) h.0
of_each (c ∷ bs) (suc k) b h at = of_each bs k b h.1 at

long_bodies : (t : Builds) → list_any is_too_long (codes t.edges) ≡ true → IsWithinLimits (image_of t) → ⊥
long_bodies t h within =
    let c = long_code (codes t.edges) h in
    let there = found same_body bodies_decide (map body_of (codes t.edges)) c.0 (body_of c.1) (body_there (codes t.edges) c.0 c.1 c.2) in
    let fits : BodyFits (body_of c.1) = of_each (used_bodies (codes t.edges)) (number same_body (body_of c.1) (used_bodies (codes t.edges))) (body_of c.1) within.bodies.each there in
    let short : length (body_of c.1) ≤ 65536 = fits.0 in
    let same : length (body_of c.1) ≡ length c.1 = body_length c.1 in
    let long : 65536 < length c.1 = ltb-true 65536 (length c.1) c.3 in
    omega (arith, short, same, long)

pub edges_refused : (rule : OutOfDateRule) (m : Manifest) (g : Graph) (fault : CompileFault) (cs : List (List Instr)) → length g.files ≤ 4194304 → cs ≡ codes (builds rule m g).edges
    → RefusesEdges fault (builds rule m g).edges cs → IsRefused rule m g fault
edges_refused rule m g Memory cs few same h = few
edges_refused rule m g Limit cs few same h =
    elim h [ inl many ↦ many_slots (builds rule m g) many | inr long ↦ long_bodies (builds rule m g) (ap (λ (xs : List (List Instr)). list_any is_too_long xs) (sym same) ∙ long) ]

pub codes_refused : (fault : CompileFault) (xs : List Build) (cs : List (List Instr)) → slot_count xs ≤ 16777216 → RefusesCodes fault cs → RefusesEdges fault xs cs
codes_refused Limit xs cs few h = inr h
codes_refused Memory xs cs few h = few
