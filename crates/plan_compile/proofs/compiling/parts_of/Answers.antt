use Rattle.std.proofs.Common.{refl, ◌≡◌, ◌≤◌, ◌∙◌, List, length, map, None, replicate, ap, sym, subst, zero, arith}
use Rattle.std.specs.Prelude.{Err, IfErr}
use Rattle.std.proofs.lemmas.Result.{err_from_is_err_and}
use Rattle.plan_image.specs.declared.body.Instr.{Instr}
use Rattle.plan_compile.specs.declared.fault.CompileFault.{CompileFault}
use Rattle.plan_compile.specs.declared.numbers.Numbers.{Numbers}
use Rattle.plan_compile.specs.Assembling.{codes_in, edges_in}
use Rattle.plan_compile.specs.Builds.{Build, Builds, builds}
use Rattle.plan_compile.specs.EdgeNumbers.{numbers_in}
use Rattle.plan_compile.specs.Faithful.{IsSound}
use Rattle.plan_compile.specs.Images.{used_bodies}
use Rattle.plan_compile.specs.Names.{Text, all_texts, declared, used_pools}
use Rattle.plan_compile.specs.OutputTable.{Table, filled}
use Rattle.plan_compile.specs.Refusals.{IsRefused, RefusesEdges}
use Rattle.plan_compile.specs.Slots.{all_made, newest_from, slots_from}
use Rattle.plan_compile.proofs.AssembleLemmas.{all_codes, image_is, numbers_of}
use Rattle.plan_compile.proofs.BuildLemmas.{map_long}
use Rattle.plan_compile.proofs.RefusalLemmas.{edges_refused}
use Rattle.plan_compile.proofs.SoundLemmas.{builds_length}
use Rattle.plan_compile.proofs.compiling.parts_of.Goals as goal

pub returns-clause-parts : goal.returns-clause-parts
returns-clause-parts g c =
    let m = c.args.manifest.now in
    let graph = c.args.graph.now in
    let t : Builds = builds c.args.rule m graph in
    let sound : IsSound t = c.manifests_are_sound.ensures c.args.rule m graph c.requires.sound c.requires.graph in
    let named = c.args.named.now in
    let coded = c.in_ok-coded.coded in
    let tables = c.in_ok-tables.tables in
    let all : named.builds.items ≡ t.edges = c.requires.named.builds in
    let count : c.len-2.result ≡ length t.files = c.len-2.ensures ∙ sym (map_long (λ f. f.0) graph.files) in
    let texts : named.names.texts ≡ all_texts t.edges = c.requires.named.texts ∙ ap all_texts all in
    let used : named.names.pools ≡ used_pools t.edges = c.requires.named.pools ∙ ap used_pools all in
    let numbers : named.names.numbers.items ≡ numbers_of t = c.requires.named.numbers ∙ ap (λ (xs : List Build). map (numbers_in (all_texts xs) (used_pools xs)) xs) all in
    let slots : coded.slots.items ≡ slots_from zero t.edges = c.in_ok-coded.ensures.slots ∙ ap (λ (xs : List Build). slots_from zero xs) all in
    let table : List Build → Table = λ xs. filled (replicate c.len-2.result None) (all_made zero xs) in
    let ks : List Numbers = named.names.numbers.items in
    let codes : List Build → List (List Instr) = λ xs. codes_in (table xs) ks (newest_from zero xs) xs in
    let bodies : coded.bodies ≡ used_bodies (codes t.edges) = c.in_ok-coded.ensures.bodies ∙ ap (λ (xs : List Build). used_bodies (codes xs)) all in
    let edges : coded.edges ≡ edges_in (used_bodies (codes t.edges)) ks (codes t.edges) t.edges =
    c.in_ok-coded.ensures.edges ∙ ap (λ (xs : List Build). edges_in (used_bodies (codes xs)) ks (codes xs) xs) all in
    let pools : tables.pools ≡ map (declared t.pools) (used_pools t.edges) = c.in_ok-tables.ensures.pools ∙ ap (λ (ns : List Text). map (declared t.pools) ns) used in
    c.assemble.ensures
    ∙ image_is t sound c.len-2.result tables.texts tables.files tables.pools coded.slots.items (table t.edges) ks (newest_from zero t.edges) coded.bodies coded.edges tables.defaults count
    (c.in_ok-tables.ensures.texts ∙ texts) c.in_ok-tables.ensures.files pools slots refl numbers refl bodies edges c.in_ok-tables.ensures.defaults

pub code_all-requires : goal.code_all-requires
code_all-requires g c =
    let m = c.args.manifest.now in
    let xs : List Build = c.args.named.now.builds.items in
    let few : length m.edges ≤ 1048576 = c.requires.graph.few in
    record {
      ready = c.requires.ready;
      named = ap (λ (ks : List Numbers). length ks) c.requires.named.numbers ∙ map_long (numbers_in (all_texts xs) (used_pools xs)) xs;
      few = omega (arith, few, builds_length c.args.rule c.args.graph.now 0 m.edges, ap (λ (ys : List Build). length ys) c.requires.named.builds);
    }

pub tables_of-requires : goal.tables_of-requires
tables_of-requires g c = c.requires.sound.depths

pub returns-in_err-coded-clause-refused : goal.returns-in_err-coded-clause-refused
returns-in_err-coded-clause-refused g c =
    let m = c.args.manifest.now in
    let graph = c.args.graph.now in
    let t : Builds = builds c.args.rule m graph in
    let sound : IsSound t = c.manifests_are_sound.ensures c.args.rule m graph c.requires.sound c.requires.graph in
    let named = c.args.named.now in
    let all : named.builds.items ≡ t.edges = c.requires.named.builds in
    let count : c.len-2.result ≡ length t.files = c.len-2.ensures ∙ sym (map_long (λ f. f.0) graph.files) in
    let numbers : named.names.numbers.items ≡ numbers_of t = c.requires.named.numbers ∙ ap (λ (xs : List Build). map (numbers_in (all_texts xs) (used_pools xs)) xs) all in
    let table : List Build → Table = λ xs. filled (replicate c.len-2.result None) (all_made zero xs) in
    let ks : List Numbers = named.names.numbers.items in
    let codes : List Build → List (List Instr) = λ xs. codes_in (table xs) ks (newest_from zero xs) xs in
    let fault : CompileFault = c.in_err-coded.field-0.0 in
    let refused : RefusesEdges fault t.edges (codes t.edges) = subst (λ (xs : List Build). RefusesEdges fault xs (codes xs)) all c.in_err-coded.ensures.refused in
    let few : length graph.files ≤ 4194304 = c.requires.few in
    let p = err_from_is_err_and c.from_residual.result c.from_residual.ensures.1 in
    subst (λ r. IfErr r (λ (f : CompileFault). IsRefused c.args.rule m graph f)) (sym (p.1 ∙ ap (λ e. Err e) p.2))
    (edges_refused c.args.rule m graph fault (codes t.edges) few (all_codes t sound c.len-2.result (table t.edges) ks (newest_from zero t.edges) count refl numbers refl) refused)

pub returns-in_err-tables-clause-refused : goal.returns-in_err-tables-clause-refused
returns-in_err-tables-clause-refused g c =
    let m = c.args.manifest.now in
    let graph = c.args.graph.now in
    let few : length graph.files ≤ 4194304 = c.requires.few in
    let p = err_from_is_err_and c.from_residual-in_err-tables.result c.from_residual-in_err-tables.ensures.1 in
    subst (λ r. IfErr r (λ (f : CompileFault). IsRefused c.args.rule m graph f)) (sym (p.1 ∙ ap (λ e. Err e) p.2)) few
