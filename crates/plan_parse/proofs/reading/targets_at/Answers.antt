use Rattle.std.proofs.Common.{◌≡◌, [], Err, List, Result, sym, ap, ◌∙◌, arith}
use Rattle.std.proofs.lemmas.Result.{err_from_is_err_and}
use Rattle.plan_text.specs.Outcome.{◌>>=◌}
use Rattle.plan_text.specs.declared.piece_reader.Piece.{Piece}
use Rattle.plan_parse.specs.declared.fault.ParseFault.{ParseFault}
use Rattle.plan_parse.specs.Reading.{Place, line_end_at}
use Rattle.plan_parse.specs.Statements as statements
use Rattle.plan_parse.specs.Views.{place_of}
use Rattle.plan_parse.proofs.reading.targets_at.Goals as goal

pub returns-in_err-some_path : goal.returns-in_err-some_path
returns-in_err-some_path c =
    let p = err_from_is_err_and c.from_residual-in_err-some_path.result c.from_residual-in_err-some_path.ensures.1 in
    let targets : List (List Piece) = c.in_ok-targets.targets.items in
    let left : Place = place_of c.in_ok-targets.rest in
    let none : Err c.in_err-some_path.field-0.0 ≡ statements.some_path left targets [] = c.in_err-some_path.ensures targets [] (omega (arith, c.len.ensures)) in
    rw (p.1, p.2) (λ ne.
    ap (λ (r : Result (List (List Piece) × Place) ParseFault). r >>= λ found. statements.some_path found.1 found.0 [] >>= λ _. line_end_at found.0 found.1) c.in_ok-targets.ensures
    ∙ ap (λ (r : Result (Unit {0}) ParseFault). r >>= λ _. line_end_at targets left) (sym none))
