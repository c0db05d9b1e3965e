use Rattle.std.proofs.Common.{◌∙◌, ◌++◌, ◌∷◌, [], List, ap, get_or, map, refl, sym}
use Rattle.std.proofs.lemmas.List.{take_all}
use Rattle.std.proofs.lemmas.Result.{IfOk-weaker}
use Rattle.std.proofs.lemmas.Simd.{map-map}
use Rattle.plan_parse.specs.declared.compact.CompactPath.{CompactPath}
use Rattle.plan_parse.specs.declared.compact.CompactPath.TheVariants as kept_path
use Rattle.plan_parse.specs.Compact.{path_in}
use Rattle.plan_scope.specs.Scopes.{Text, expand}
use Rattle.plan_scope.specs.Edges.{near}
use Rattle.plan_scope.specs.Kept.{kept}
use Rattle.plan_scope.proofs.TextLemmas.{any_item, paths_taken}
use Rattle.plan_scope.proofs.PathLemmas.{reads_more, reads_none}
use Rattle.plan_scope.proofs.edge.paths.read_list.Goals as goal

pub loop-path-init : goal.loop-path-init
loop-path-init c = ([], reads_none c.args.read.now, λ b m h k. refl)

pub loop-path-preserved : goal.loop-path-preserved
loop-path-preserved c =
    let at = c.loop-path in
    let texts : List Text = at.invariant.0 in
    let text = c.args.list.now.text.now in
    let paths : List CompactPath = c.args.list.now.paths.now in
    let one = c.in_ok-read_one.ensures in
    let t : Text = one.0 in
    let first : CompactPath = kept_path.Plain (record { at = 0; len = 0 }) in
    let item : CompactPath = get_or paths at.path-index first in (
      texts ++ t ∷ [],
      reads_more _ _ _ texts t at.invariant.1 one.1,
      λ b m h k.
          paths_taken (λ (p : CompactPath). expand (near m b) (path_in text p)) paths at.path-index item texts (texts ++ t ∷ []) t
          c.loop-path-test.true (any_item paths at.path-index first item c.loop-path-test.true) (at.invariant.2 b m h k)
          (one.2 b m h k ∙ ap (λ ps. kept (expand (near m b) ps)) c.path_in.ensures.pieces)
          refl,
    )

pub returns : goal.returns
returns c =
    let read = c.loop-path.invariant in
    let text = c.args.list.now.text.now in
    let paths : List CompactPath = c.args.list.now.paths.now in
    IfOk-weaker c.row_count.result _ _
    (λ end e. (
      read.0,
      e,
      read.1,
      λ b m h k.
          read.2 b m h k
          ∙ ap (λ (ps : List CompactPath). map kept (map (λ p. expand (near m b) (path_in text p)) ps)) (take_all c.loop-path.path-index paths c.loop-path-test.false)
          ∙ sym (ap (map kept) (map-map (expand (near m b)) (path_in text) paths)),
    ))
    c.row_count.ensures
