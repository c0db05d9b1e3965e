use Rattle.std.proofs.Common.{◌∙◌, ap, sym}
use Rattle.std.proofs.lemmas.Result.{on_ok_weaker}
use Rattle.plan_parse.specs.Lines.{pieces_of}
use Rattle.plan_parse.specs.declared.lines.PathInText as the_path
use Rattle.plan_scope.specs.Scopes.{expand}
use Rattle.plan_scope.specs.Edges.{near}
use Rattle.plan_scope.specs.Kept.{kept}
use Rattle.plan_scope.proofs.PathLemmas.{expand_literal}
use Rattle.plan_scope.proofs.edge.paths.read_one.Goals as goal

pub returns-in-Plain : goal.returns-in-Plain
returns-in-Plain c =
    let bytes = c.in-Plain.bytes.now in
    on_ok_weaker c.add_path.result
    (λ seen. (
      bytes,
      seen,
      λ b m h k. ap kept (sym (expand_literal (near m b) bytes)) ∙ ap (λ (p : the_path.PathInText). kept (expand (near m b) (pieces_of p))) (sym c.in-Plain.is),
    ))
    c.add_path.ensures

pub returns-in-Parts : goal.returns-in-Parts
returns-in-Parts c =
    on_ok_weaker c.add_expanded.result
    (λ seen. (
      seen.0,
      seen.1,
      λ b m h k. seen.2 b m h k ∙ ap (λ (p : the_path.PathInText). kept (expand (near m b) (pieces_of p))) (sym c.in-Parts.is),
    ))
    c.add_expanded.ensures
