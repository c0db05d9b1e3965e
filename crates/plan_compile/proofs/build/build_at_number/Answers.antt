use Rattle.std.proofs.Common.{◌≡◌, ◌≤◌, ◌<◌, ◌∙◌, Bool, List, [], ℕ, ap, arith, sym, take, drop, get_or, length, ◌-◌}
use Rattle.std.specs.Prelude.{slice_index}
use Rattle.plan_scope.specs.Edge.{Edge as EdgeMeant}
use Rattle.plan_compile.specs.Rule.{baseline_by}
use Rattle.plan_compile.specs.Builds.{named_count, no_edge, without_made, without_own}
use Rattle.plan_compile.proofs.BuildLemmas.{same_build}
use Rattle.plan_compile.proofs.ListLemmas.{some_is}
use Rattle.plan_compile.proofs.MemberLemmas.{index_or, in_take, in_drop}
use Rattle.plan_compile.proofs.SoundLemmas.{without_same}
use Rattle.plan_compile.proofs.build.build_at_number.Goals as goal

pub returns : goal.returns
returns c = λ edge at.
    let m = c.args.manifest.now in
    let g = c.args.graph.now in
    let n = c.args.number in
    let phony = c.is_phony-phony.result in
    let own = c.word-own.result in
    let row : List ℕ = get_or g.inputs n [] in
    let few : ℕ = named_count edge row in
    let found : c.edge-edge.result ≡ edge = some_is c.edge-edge.result edge (sym c.edge-edge.ensures ∙ at) in
    let built : get_or m.edges c.word-own.result no_edge ≡ edge = ap (λ (k : ℕ). get_or m.edges k no_edge) c.word-own.ensures ∙ index_or m.edges n edge no_edge at in
    let is_phony : phony ≡ edge.phony = c.is_phony-phony.ensures ∙ ap (λ (e : EdgeMeant). e.phony) found in
    let count : c.saturating_sub-count.result ≡ few =
    c.saturating_sub-count.ensures ∙ ap (λ (k : ℕ). length c.row-inputs.result.now - k) (c.len.ensures ∙ ap length c.order_only_inputs.ensures ∙ ap (λ (e : EdgeMeant). length e.paths.order_only_inputs) found)
    ∙ ap (λ (fs : List ℕ). length fs - length edge.paths.order_only_inputs) c.row-inputs.ensures in
    let front : c.front.result.now ≡ take few row = c.front.ensures ∙ ap (λ (k : ℕ). take k c.row-inputs.result.now) count ∙ ap (λ (fs : List ℕ). take few fs) c.row-inputs.ensures in
    let back : c.back.result.now ≡ drop few row = c.back.ensures ∙ ap (λ (k : ℕ). drop k c.row-inputs.result.now) count ∙ ap (λ (fs : List ℕ). drop few fs) c.row-inputs.ensures in
    let named : without_made g.files own phony c.front.result.now ≡ without_own edge.phony (get_or g.outputs n []) (take few row) =
    ap (λ (k : ℕ). without_made g.files k phony c.front.result.now) c.word-own.ensures ∙ ap (λ (fs : List ℕ). without_made g.files n phony fs) front ∙ ap (λ (b : Bool). without_made g.files n b (take few row)) is_phony
    ∙ without_same c.args.rule m g c.requires.graph c.files_complete.ensures c.producers_numbered.ensures n edge (take few row) at (λ f i. in_take few row f i) edge.phony in
    let order_only : without_made g.files own phony c.back.result.now ≡ without_own edge.phony (get_or g.outputs n []) (drop few row) =
    ap (λ (k : ℕ). without_made g.files k phony c.back.result.now) c.word-own.ensures ∙ ap (λ (fs : List ℕ). without_made g.files n phony fs) back ∙ ap (λ (b : Bool). without_made g.files n b (drop few row)) is_phony
    ∙ without_same c.args.rule m g c.requires.graph c.files_complete.ensures c.producers_numbered.ensures n edge (drop few row) at (λ f i. in_drop few row f i) edge.phony in
    same_build (get_or m.edges c.word-own.result no_edge) edge _ _ _ _ _ _ _ _ _ _ _ _ built c.row.ensures (c.in_ok-named.ensures ∙ named) (c.in_ok-order_only.ensures ∙ order_only) c.row-2.ensures
    (c.number_at.ensures ∙ ap (λ (rs : List ℕ). slice_index rs n) c.as_slice.ensures)
    (c.baseline_by.ensures ∙ ap (λ (b : Bool). baseline_by b c.is_generator.result c.args.rule) (c.has_restat.ensures ∙ ap (λ (e : EdgeMeant). e.restat) found) ∙ ap (λ (b : Bool). baseline_by edge.restat b c.args.rule) (c.is_generator.ensures ∙ ap (λ (e : EdgeMeant). e.generator) found))

pub word-own-requires : goal.word-own-requires
word-own-requires c =
    let inside : c.args.number < length c.args.manifest.now.edges = c.requires.inside in
    let few : length c.args.manifest.now.edges ≤ 1048576 = c.requires.graph.few in
    omega (arith, inside, few)
