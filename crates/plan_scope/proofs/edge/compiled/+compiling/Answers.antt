use Rattle.std.proofs.Common.{refl, sym}
use Rattle.plan_scope.specs.ScopeNames.{names_in}
use Rattle.plan_scope.proofs.CompiledLemmas.{if_ok, if_whole, late_added, listed_added, near_added, piece_added}
use Rattle.plan_scope.proofs.edge.compiled.+compiling.Goals as goal

pub add_variable-returns-in-Some : goal.add_variable-returns-in-Some
add_variable-returns-in-Some t c =
    if_ok c.add_part.result c.add_part.ensures
    (λ e. listed_added c.args.rule.now (names_in c.args.file) c.args.parts.now.items c.add_part.new.parts.items c.in-Some.part c.args.left c.args.name.now e c.in-Some.ensures)

pub add_variable-returns-in-Some-get : goal.add_variable-returns-in-Some-get
add_variable-returns-in-Some-get t c =
    if_whole c.add_late.result c.add_late.ensures
    (λ late. late_added c.args.rule.now (names_in c.args.file) c.args.parts.now.items c.add_late.new.parts.items c.args.left c.args.name.now c.in-Some-get.pieces.now c.listed_part.result c.in-None.is c.listed_part.ensures (sym c.in-Some-get.ensures) late)

pub add_variable-returns-in-None-get : goal.add_variable-returns-in-None-get
add_variable-returns-in-None-get t c =
    if_ok c.add_part-in-None-get.result c.add_part-in-None-get.ensures
    (λ e. near_added c.args.rule.now (names_in c.args.file) c.args.parts.now.items c.add_part-in-None-get.new.parts.items _ c.args.left c.args.name.now c.name_text.result.now c.listed_part.result e (λ show edge. refl) c.in-None.is c.listed_part.ensures (sym c.in-None-get.ensures) c.name_text.ensures)

pub add_pieces-loop-piece-preserved : goal.add_pieces-loop-piece-preserved
add_pieces-loop-piece-preserved t c =
    piece_added c.args.rule.now (names_in c.args.file) c.args.parts.now.items c.loop-piece.parts.items c.add_piece.new.parts.items c.args.left c.loop-piece.piece-index c.args.pieces.now c.piece-item.result c.loop-piece-test.true c.piece-item.is c.loop-piece.invariant (c.in_ok-add_piece.ensures c.if-not-branch.false)
