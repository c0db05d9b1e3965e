use Rattle.std.proofs.Common.{◌∙◌, ap}
use Rattle.std.proofs.lemmas.List.{take_all}
use Rattle.plan_scope.specs.Scopes.{expand}
use Rattle.plan_scope.specs.Kept.{kept}
use Rattle.plan_scope.specs.ScopeNames.{names_in}
use Rattle.plan_scope.proofs.TextLemmas.{kept_taken, kept_expand}
use Rattle.plan_scope.proofs.scope.expand_pieces.Goals as goal

pub loop-piece-preserved : goal.loop-piece-preserved
loop-piece-preserved c = (
  kept_taken (names_in c.args.scope) c.args.pieces.now c.loop-piece.piece-index c.piece-item.result c.loop-piece.text.items c.append.new.out.items c.piece_text.result.now
      c.loop-piece-test.true c.piece-item.is c.loop-piece.invariant.0 c.piece_text.ensures c.in_ok-append.ensures.appended,
  c.in_ok-append.ensures.within c.loop-piece.invariant.1,
)

pub returns-clause-text : goal.returns-clause-text
returns-clause-text c = λ meant h.
    let above = names_in c.args.scope in
    c.loop-piece.invariant.0
    ∙ (ap (λ ps. kept (expand above ps)) (take_all c.loop-piece.piece-index c.args.pieces.now c.loop-piece-test.false)
    ∙ kept_expand above meant h c.args.pieces.now)
