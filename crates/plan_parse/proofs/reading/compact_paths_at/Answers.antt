use Rattle.std.proofs.Common.{◌≡◌, ◌++◌, ◌∷◌, [], List, ap, map, refl, subst, ◌∙◌, sym, arith}
use Rattle.std.proofs.lemmas.List.{map_push}
use Rattle.std.proofs.lemmas.Result.{err_from_is_err_and}
use Rattle.plan_text.specs.Lines.{gap_len}
use Rattle.plan_text.specs.declared.piece_reader.Piece.{Piece}
use Rattle.plan_parse.specs.declared.compact.CompactPath.{CompactPath}
use Rattle.plan_parse.specs.Compact.{StandsIn, path_in}
use Rattle.plan_parse.specs.PathLists.{Extends, added_to}
use Rattle.plan_parse.specs.Reading as syntax
use Rattle.plan_parse.specs.Reading.{Place}
use Rattle.plan_parse.specs.Views.{place_of}
use Rattle.plan_parse.proofs.CompactLemmas.{gap_stands, past_stands}
use Rattle.plan_parse.proofs.JoinedLemmas.{none_added, extends_itself, one_more, extends_more}
use Rattle.plan_parse.proofs.ReadingLemmas.{with_front, gap_over, past_gaps, reads_path, stops, ends, front_none}
use Rattle.plan_parse.proofs.reading.compact_paths_at.Goals as goal

pub loop-extent-init : goal.loop-extent-init
loop-extent-init c = record {
  over = ap (λ (p : Place). gap_len p.bytes) c.past_gap-left.ensures ∙ gap_over (place_of c.args.p);
  stands = subst (StandsIn c.args.text.now) (sym c.past_gap-left.ensures) (gap_stands c.args.text.now (place_of c.args.p) c.requires);
  keeps = extends_itself c.args.paths.now.items;
  same = ap (λ (v : List CompactPath). with_front (map (path_in c.args.text.now) v) (syntax.paths_at (place_of c.past_gap-left.result))) (none_added c.args.paths.now.items)
      ∙ front_none (syntax.paths_at (place_of c.past_gap-left.result))
      ∙ ap (λ (p : Place). syntax.paths_at p) c.past_gap-left.ensures
      ∙ sym (past_gaps (place_of c.args.p));
}

pub returns-then-extent-eq0-clause-read : goal.returns-then-extent-eq0-clause-read
returns-then-extent-eq0-clause-read c =
    ends (map (path_in c.args.text.now) (added_to c.args.paths.now.items c.loop-extent.paths.items)) (place_of c.loop-extent.left) (syntax.paths_at (place_of c.args.p)) c.loop-extent.invariant.over (sym c.in_ok-extent.ensures.len ∙ c.if-extent-eq0.true) c.loop-extent.invariant.same

pub returns-in_err-extent-clause-read : goal.returns-in_err-extent-clause-read
returns-in_err-extent-clause-read c =
    let p = err_from_is_err_and c.from_residual.result c.from_residual.ensures.1 in
    rw (p.1, p.2) (λ ne. stops (map (path_in c.args.text.now) (added_to c.args.paths.now.items c.loop-extent.paths.items)) (place_of c.loop-extent.left) (syntax.path_len c.loop-extent.left.bytes.now) c.in_err-extent.field-0.0 (syntax.paths_at (place_of c.args.p))
    c.loop-extent.invariant.over refl c.in_err-extent.ensures.sound c.loop-extent.invariant.same)

pub returns-in_err-compact_path_at-clause-read : goal.returns-in_err-compact_path_at-clause-read
returns-in_err-compact_path_at-clause-read c =
    let p = err_from_is_err_and c.from_residual-in_err-compact_path_at.result c.from_residual-in_err-compact_path_at.ensures.1 in
    rw (p.1, p.2) (λ ne. stops (map (path_in c.args.text.now) (added_to c.args.paths.now.items c.loop-extent.paths.items)) (place_of c.loop-extent.left) c.in_ok-extent.extent.len c.in_err-compact_path_at.field-0.0 (syntax.paths_at (place_of c.args.p))
    c.loop-extent.invariant.over c.in_ok-extent.ensures.len (c.in_err-compact_path_at.ensures ne) c.loop-extent.invariant.same)

pub loop-extent-preserved : goal.loop-extent-preserved
loop-extent-preserved c =
    let text = c.args.text.now in
    let n = c.in_ok-extent.extent.len in
    let older = c.args.paths.now.items in
    let so_far = c.loop-extent.paths.items in
    let next = c.in_ok-compact_path_at.field-0 in
    let front = map (path_in text) (added_to older so_far) in
    let place : place_of c.past_gap-left-in-loop-extent.result ≡ syntax.past_gap (syntax.past n (place_of c.loop-extent.left)) =
    c.past_gap-left-in-loop-extent.ensures ∙ ap (λ (p : Place). syntax.past_gap p) c.past.ensures in
    let pushed : c.push.new.self.items ≡ so_far ++ next ∷ [] = c.in_ok-push.ensures.items in
    let more : added_to older c.push.new.self.items ≡ added_to older so_far ++ next ∷ [] =
    ap (λ (v : List CompactPath). added_to older v) pushed ∙ one_more older so_far next c.loop-extent.invariant.keeps in
    record {
      over = ap (λ (p : Place). gap_len p.bytes) place ∙ gap_over (syntax.past n (place_of c.loop-extent.left));
      stands = subst (StandsIn text) (sym place) (gap_stands text (syntax.past n (place_of c.loop-extent.left)) (past_stands text n (place_of c.loop-extent.left) c.in_ok-extent.ensures.within c.loop-extent.invariant.stands));
      keeps = subst (λ (v : List CompactPath). Extends older v) (sym pushed) (extends_more older so_far next c.loop-extent.invariant.keeps);
      same = ap (λ (p : Place). with_front (map (path_in text) (added_to older c.push.new.self.items)) (syntax.paths_at p)) place
          ∙ ap (λ (v : List (List Piece)). with_front v (syntax.paths_at (syntax.past_gap (syntax.past n (place_of c.loop-extent.left))))) (ap (map (path_in text)) more ∙ map_push (path_in text) (added_to older so_far) next)
          ∙ reads_path front (place_of c.loop-extent.left) n (path_in text next) (syntax.paths_at (place_of c.args.p))
          c.loop-extent.invariant.over c.in_ok-extent.ensures.len (omega (arith, c.if-extent-eq0.false)) c.in_ok-extent.ensures.within c.in_ok-compact_path_at.ensures c.loop-extent.invariant.same;
    }
