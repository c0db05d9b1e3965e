use Rattle.std.proofs.Common.{refl, ◌≡◌, ◌≤◌, ◌∙◌, List, length, map, None, replicate, ap, sym, subst, zero, arith}
use Rattle.std.specs.Prelude.{◌<◌, IfErr, IfOk}
use Rattle.plan_image.specs.declared.maxima.TheConstants.{MAX_SLOTS}
use Rattle.plan_compile.specs.declared.fault.CompileFault.TheVariants as fault
use Rattle.plan_compile.specs.declared.layout.EdgeLayout.{EdgeLayout}
use Rattle.plan_compile.specs.declared.numbers.Numbers.{Numbers}
use Rattle.plan_compile.specs.Assembling.{layouts_in}
use Rattle.plan_compile.specs.Builds.{Build, Builds, builds}
use Rattle.plan_compile.specs.EdgeNumbers.{numbers_in}
use Rattle.plan_compile.specs.Faithful.{IsSound}
use Rattle.plan_compile.specs.Images.{layouts}
use Rattle.plan_compile.specs.Names.{all_texts, used_pools}
use Rattle.plan_compile.specs.OutputTable.{Table, filled}
use Rattle.plan_compile.specs.Slots.{all_made, newest_from, slot_count}
use Rattle.plan_compile.proofs.AssembleLemmas.{all_layouts, numbers_of}
use Rattle.plan_compile.proofs.BuildLemmas.{map_long}
use Rattle.plan_compile.proofs.SoundLemmas.{builds_length}
use Rattle.plan_compile.proofs.all_layouts.layouts.Goals as goal

pub lay_out-requires-clause-few : goal.lay_out-requires-clause-few
lay_out-requires-clause-few c =
    let m = c.args.manifest.now in
    let few : length m.edges ≤ 1048576 = c.requires.graph.few in
    omega (arith, few, builds_length c.args.rule c.args.graph.now 0 m.edges, ap (λ (ys : List Build). length ys) c.in_ok-named.ensures.builds)

pub returns-clause-layouts : goal.returns-clause-layouts
returns-clause-layouts c =
    let m = c.args.manifest.now in
    let g = c.args.graph.now in
    let t : Builds = builds c.args.rule m g in
    let sound : IsSound t = c.manifests_are_sound.ensures c.args.rule m g c.requires.sound c.requires.graph in
    let named = c.in_ok-named.named in
    let all : named.builds.items ≡ t.edges = c.in_ok-named.ensures.builds in
    let count : c.len.result ≡ length t.files = c.len.ensures ∙ sym (map_long (λ f. f.0) g.files) in
    let numbers : named.names.numbers.items ≡ numbers_of t = c.in_ok-named.ensures.numbers ∙ ap (λ (xs : List Build). map (numbers_in (all_texts xs) (used_pools xs)) xs) all in
    let table : List Build → Table = λ xs. filled (replicate c.len.result None) (all_made zero xs) in
    let ks : List Numbers = named.names.numbers.items in
    let are : layouts_in (table named.builds.items) ks (newest_from zero named.builds.items) named.builds.items ≡ layouts t.edges =
    ap (λ (xs : List Build). layouts_in (table xs) ks (newest_from zero xs) xs) all
    ∙ all_layouts t sound c.len.result (table t.edges) ks (newest_from zero t.edges) count refl numbers refl in
    subst (λ (ws : List EdgeLayout). IfOk c.lay_out.result (λ ls. ls.items ≡ ws)) are c.lay_out.ensures.layouts

pub returns-clause-refused : goal.returns-clause-refused
returns-clause-refused c =
    let all : c.in_ok-named.named.builds.items ≡ (builds c.args.rule c.args.manifest.now c.args.graph.now).edges = c.in_ok-named.ensures.builds in
    subst (λ (xs : List Build). IfErr c.lay_out.result (λ f. f ≡ fault.Limit → MAX_SLOTS < slot_count xs)) all c.lay_out.ensures.refused
