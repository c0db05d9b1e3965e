use Rattle.std.proofs.Common.{ℕ, ◌+◌, arith, List, subst, sym}
use Rattle.plan_text.specs.declared.piece_reader.Piece.{Piece}
use Rattle.plan_scope.specs.Expansion.{Meaning, meaning_of, text_of_piece}
use Rattle.plan_scope.specs.HeldEnvironment.{environment_of}
use Rattle.plan_scope.specs.Memo.{AppendsBy, IsMemo, text_by}
use Rattle.plan_scope.specs.ShellQuoting.{quoted_as}
use Rattle.plan_scope.proofs.MemoLemmas.{found_appended, late_appended, late_refused, piece_appended, pieces_refused, memo_then}
use Rattle.plan_scope.proofs.edge.expansion.+expansion.Goals as goal

pub append_late-returns-in-Some-clause-appended : goal.append_late-returns-in-Some-clause-appended
append_late-returns-in-Some-clause-appended t c =
    let meaning : List ℕ → Meaning = meaning_of (quoted_as c.args.quoting) (environment_of c.args.edge.now) in
    found_appended meaning c.args.left c.in-Some.depth c.args.name.now c.in-Some.text.now c.args.out.now.items c.append.new.out.items c.deref-2.result.now c.deref-2.ensures.value
    (c.in-Some.ensures meaning (subst (IsMemo meaning) (sym c.deref.ensures.value) c.requires.memo)) c.in_ok-append-in-Some.ensures.appended

pub append_late-returns-in-Err-clause-appended : goal.append_late-returns-in-Err-clause-appended
append_late-returns-in-Err-clause-appended t c =
    let meaning : List ℕ → Meaning = meaning_of (quoted_as c.args.quoting) (environment_of c.args.edge.now) in
    late_refused meaning c.args.left c.args.name.now c.args.pieces.now c.args.out.now.items c.append_pieces.new.out.items c.in-Err.fault c.requires.late (omega (arith, c.if-left-eq0.false)) c.in-Err.ensures.appended

pub append_late-returns-clause-memo : goal.append_late-returns-clause-memo
append_late-returns-clause-memo t c =
    let meaning : List ℕ → Meaning = meaning_of (quoted_as c.args.quoting) (environment_of c.args.edge.now) in
    let depth = c.in-Ok.depth in
    memo_then meaning c.append_pieces.new.memo.items c.memoize.new.memo.items c.args.left (depth + 1) c.len-start.result c.args.name.now c.args.out.now.items c.append_pieces.new.out.items c.deref-3.result.now c.deref-3.ensures.value
    (omega (arith, c.args.out.now.ok.0, c.len-start.ensures)) c.in-Ok.ensures.memo
    (late_appended meaning c.args.left depth c.args.name.now c.args.pieces.now c.args.out.now.items c.append_pieces.new.out.items c.requires.late (omega (arith, c.if-left-eq0.false)) c.in-Ok.ensures.appended)
    (c.memoize.ensures meaning)

pub append_late-returns-in_err-memoize-clause-memo : goal.append_late-returns-in_err-memoize-clause-memo
append_late-returns-in_err-memoize-clause-memo t c =
    let meaning : List ℕ → Meaning = meaning_of (quoted_as c.args.quoting) (environment_of c.args.edge.now) in
    let depth = c.in-Ok.depth in
    memo_then meaning c.append_pieces.new.memo.items c.memoize.new.memo.items c.args.left (depth + 1) c.len-start.result c.args.name.now c.args.out.now.items c.append_pieces.new.out.items c.deref-3.result.now c.deref-3.ensures.value
    (omega (arith, c.args.out.now.ok.0, c.len-start.ensures)) c.in-Ok.ensures.memo
    (late_appended meaning c.args.left depth c.args.name.now c.args.pieces.now c.args.out.now.items c.append_pieces.new.out.items c.requires.late (omega (arith, c.if-left-eq0.false)) c.in-Ok.ensures.appended)
    (c.memoize.ensures meaning)

pub append_piece-returns-in-Reference-clause-appended :
    goal.append_piece-returns-in-Reference-clause-appended
append_piece-returns-in-Reference-clause-appended t c =
    let meaning : List ℕ → Meaning = meaning_of (quoted_as c.args.quoting) (environment_of c.args.edge.now) in
    subst (λ (p : Piece). AppendsBy c.args.out.now.items c.append_variable.new.out.items c.args.left c.append_variable.result (λ n. text_of_piece (text_by n meaning) p)) (sym c.in-Reference.is)
    (subst (λ (name : List ℕ). AppendsBy c.args.out.now.items c.append_variable.new.out.items c.args.left c.append_variable.result (λ n. text_by n meaning name)) c.as_slice-in-Reference.ensures c.append_variable.ensures.appended)

pub append_pieces-returns-in-Err-clause-appended :
    goal.append_pieces-returns-in-Err-clause-appended
append_pieces-returns-in-Err-clause-appended t c =
    let meaning : List ℕ → Meaning = meaning_of (quoted_as c.args.quoting) (environment_of c.args.edge.now) in
    pieces_refused meaning c.args.left c.args.pieces.now c.loop-piece.piece-index c.piece-item.result c.args.out.now.items c.loop-piece.out.items c.append_piece.new.out.items c.in-Err.fault
    c.loop-piece-test.true c.piece-item.is c.in-Err.ensures.appended

pub append_pieces-loop-piece-preserved : goal.append_pieces-loop-piece-preserved
append_pieces-loop-piece-preserved t c =
    let meaning : List ℕ → Meaning = meaning_of (quoted_as c.args.quoting) (environment_of c.args.edge.now) in
    let more = c.greater-deepest.result in
    let one = c.in-Ok.ensures.appended in (
      c.greater-deepest.ensures.least c.args.left c.loop-piece.invariant.0 one.0,
      piece_appended meaning c.loop-piece.deepest c.in-Ok.depth c.args.left more c.args.pieces.now c.loop-piece.piece-index c.piece-item.result c.args.out.now.items c.loop-piece.out.items c.append_piece.new.out.items
          c.loop-piece-test.true c.piece-item.is c.greater-deepest.ensures.first c.greater-deepest.ensures.other c.loop-piece.invariant.1 one,
      c.in-Ok.ensures.memo,
    )
