use Rattle.std.proofs.Common.{false, refl}
use Rattle.plan_scope.specs.HeldEnvironment.{environment_of}
use Rattle.plan_scope.specs.Compiled.{UsesRule}
use Rattle.plan_scope.specs.Expansion.{plain, quoted}
use Rattle.plan_scope.proofs.CompiledLemmas.{neither, text_by_parts}
use Rattle.plan_scope.proofs.VariableLemmas.{◌∷≡◌, checked_are, or_both}
use Rattle.plan_scope.proofs.edge.variables.compiled_variables.Goals as goal

pub returns : goal.returns
returns c = checked_are c.checked.result _ _ _ c.checked.ensures
    (λ enough.
    let edge = environment_of c.args.edge.now in
    let uses : UsesRule edge.rule edge.file edge = record { by_rule = refl; in_file = refl; leaves = c.requires.left } in
    let known = c.requires.compiled in
    let command = known.command quoted edge uses in
    let depfile = known.depfile plain edge uses in
    let deps = known.deps plain edge uses in
    let description = known.description quoted edge uses in
    let dyndep = known.dyndep plain edge uses in
    let generator = known.generator plain edge uses in
    let pool = known.pool plain edge uses in
    let restat = known.restat plain edge uses in
    let rspfile = known.rspfile plain edge uses in
    let rspfile_text = c.text_or_empty-9.ensures enough in
    let restat_text = c.text_or_empty-8.ensures rspfile_text.0 in
    let pool_text = c.text_or_empty-7.ensures restat_text.0 in
    let generator_text = c.text_or_empty-6.ensures pool_text.0 in
    let dyndep_text = c.text_or_empty-5.ensures generator_text.0 in
    let description_text = c.text_or_empty-4.ensures dyndep_text.0 in
    let deps_text = c.text_or_empty-3.ensures description_text.0 in
    let depfile_text = c.text_or_empty-2.ensures deps_text.0 in
    let command_text = c.text_or_empty.ensures depfile_text.0 in
    record {
      texts =
          text_by_parts quoted edge _ _ _ _ c.deref.ensures.value command_text.1 command ∷≡
          text_by_parts plain edge _ _ _ _ c.deref-2.ensures.value depfile_text.1 depfile ∷≡
          text_by_parts plain edge _ _ _ _ c.deref-3.ensures.value deps_text.1 deps ∷≡
          text_by_parts quoted edge _ _ _ _ c.deref-4.ensures.value description_text.1 description ∷≡
          text_by_parts plain edge _ _ _ _ c.deref-5.ensures.value dyndep_text.1 dyndep ∷≡
          text_by_parts plain edge _ _ _ _ c.deref-6.ensures.value generator_text.1 generator ∷≡
          text_by_parts plain edge _ _ _ _ c.deref-7.ensures.value pool_text.1 pool ∷≡
          text_by_parts plain edge _ _ _ _ c.deref-8.ensures.value restat_text.1 restat ∷≡
          text_by_parts plain edge _ _ _ _ c.deref-9.ensures.value rspfile_text.1 rspfile ∷≡ refl;
      cycle = or_both false false _ _ (neither _ _ command (neither _ _ description refl)) (neither _ _ depfile (neither _ _ deps (neither _ _ dyndep (neither _ _ generator (neither _ _ pool (neither _ _ restat (neither _ _ rspfile refl)))))));
    })
