use Rattle.std.proofs.Common.{◌≡◌, List, Ok, ap, refl, ◌∙◌, sym, arith}
use Rattle.std.proofs.lemmas.Result.{err_from_is_err_and}
use Rattle.plan_text.specs.Lines.{gap_len}
use Rattle.plan_text.specs.declared.piece_reader.Piece.{Piece}
use Rattle.plan_parse.specs.Reading as syntax
use Rattle.plan_parse.specs.Reading.{Place}
use Rattle.plan_parse.specs.Views.{place_of}
use Rattle.plan_parse.proofs.ReadingLemmas.{with_front, gap_over, past_gaps, reads_path, stops, ends, front_none}
use Rattle.plan_parse.proofs.reading.paths_at.Goals as goal

pub loop-paths-init : goal.loop-paths-init
loop-paths-init c = record {
  over = ap (λ (p : Place). gap_len p.bytes) c.past_gap-rest.ensures ∙ gap_over (place_of c.args.p);
  same = ap (λ (v : List (List Piece)). with_front v (syntax.paths_at (place_of c.past_gap-rest.result))) c.new-paths.ensures.items
      ∙ front_none (syntax.paths_at (place_of c.past_gap-rest.result))
      ∙ ap (λ (p : Place). syntax.paths_at p) c.past_gap-rest.ensures
      ∙ sym (past_gaps (place_of c.args.p));
}

pub returns-then-extent-eq0 : goal.returns-then-extent-eq0
returns-then-extent-eq0 c =
    ends c.loop-paths.paths.items (place_of c.loop-paths.rest) (syntax.paths_at (place_of c.args.p)) c.loop-paths.invariant.over (sym c.in_ok-extent.ensures.len ∙ c.if-extent-eq0.true) c.loop-paths.invariant.same
    ∙ ap (λ (v : List (List Piece)). Ok (v, place_of c.loop-paths.rest)) (sym c.shrink_to_fit.ensures.items)

pub returns-in_err-extent : goal.returns-in_err-extent
returns-in_err-extent c =
    let p = err_from_is_err_and c.from_residual.result c.from_residual.ensures.1 in
    rw (p.1, p.2) (λ ne. stops c.loop-paths.paths.items (place_of c.loop-paths.rest) (syntax.path_len c.loop-paths.rest.bytes.now) c.in_err-extent.field-0.0 (syntax.paths_at (place_of c.args.p))
    c.loop-paths.invariant.over refl c.in_err-extent.ensures.sound c.loop-paths.invariant.same)

pub returns-in_err-path_at : goal.returns-in_err-path_at
returns-in_err-path_at c =
    let p = err_from_is_err_and c.from_residual-in_err-path_at.result c.from_residual-in_err-path_at.ensures.1 in
    rw (p.1, p.2) (λ ne. stops c.loop-paths.paths.items (place_of c.loop-paths.rest) c.in_ok-extent.extent.len c.in_err-path_at.field-0.0 (syntax.paths_at (place_of c.args.p))
    c.loop-paths.invariant.over c.in_ok-extent.ensures.len (c.in_err-path_at.ensures ne) c.loop-paths.invariant.same)

pub loop-paths-preserved : goal.loop-paths-preserved
loop-paths-preserved c =
    let place : place_of c.past_gap-rest-in-loop-paths.result ≡ syntax.past_gap (syntax.past c.in_ok-extent.extent.len (place_of c.loop-paths.rest)) =
    c.past_gap-rest-in-loop-paths.ensures ∙ ap (λ (p : Place). syntax.past_gap p) c.past.ensures in
    record {
      over = ap (λ (p : Place). gap_len p.bytes) place ∙ gap_over (syntax.past c.in_ok-extent.extent.len (place_of c.loop-paths.rest));
      same = ap (λ (p : Place). with_front c.add_path.new.paths.items (syntax.paths_at p)) place
          ∙ ap (λ (v : List (List Piece)). with_front v (syntax.paths_at (syntax.past_gap (syntax.past c.in_ok-extent.extent.len (place_of c.loop-paths.rest))))) c.in_ok-add_path.ensures
          ∙ reads_path c.loop-paths.paths.items (place_of c.loop-paths.rest) c.in_ok-extent.extent.len c.in_ok-path_at.field-0 (syntax.paths_at (place_of c.args.p))
          c.loop-paths.invariant.over c.in_ok-extent.ensures.len (omega (arith, c.if-extent-eq0.false)) c.in_ok-extent.ensures.within c.in_ok-path_at.ensures c.loop-paths.invariant.same;
    }
