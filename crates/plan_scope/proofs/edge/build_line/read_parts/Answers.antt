use Rattle.std.proofs.Common.{◌∙◌, ap, subst, sym}
use Rattle.std.specs.List.{list_any}
use Rattle.plan_scope.specs.Scopes.{is_empty, is_long_path, is_too_long}
use Rattle.plan_scope.specs.Edges.{block_of, canonical_paths}
use Rattle.plan_scope.specs.Kept.{KeptEqBindings}
use Rattle.plan_scope.specs.Parts.{texts_in}
use Rattle.plan_scope.specs.Paths.{kept_in}
use Rattle.plan_scope.proofs.PathLemmas.{any_in, empty_kept, far_kept, kept_forms, exact_forms}
use Rattle.plan_scope.proofs.edge.build_line.read_parts.Goals as goal

pub returns-clause-parts : goal.returns-clause-parts
returns-clause-parts c = λ h s.
    let b = c.args.build.now in
    let block = c.in_ok-block.block in
    let texts = c.in_ok-places.ensures.texts.0 in
    let seen = c.in_ok-places.ensures.texts.1 in
    let values = subst (λ x. KeptEqBindings block.values (block_of h x)) c.bindings.ensures (c.in_ok-block.ensures.values h s) in
    let same = c.in_ok-places.ensures.texts.2 (block_of h b.bindings) h values s in
    record {
      values = values;
      long_value = c.in_ok-block.ensures.long h s ∙ ap (λ x. list_any (λ y. is_too_long y.1) (block_of h x)) c.bindings.ensures;
      paths = ap kept_in seen.0 ∙ kept_forms texts (texts_in h b) same;
      exact = λ e. seen.0 ∙ ap canonical_paths (exact_forms texts (texts_in h b) same (sym seen.2 ∙ e));
      empty_path = seen.1 ∙ any_in is_empty empty_kept texts (texts_in h b) same;
      long_path = seen.2 ∙ any_in is_long_path far_kept texts (texts_in h b) same;
    }
