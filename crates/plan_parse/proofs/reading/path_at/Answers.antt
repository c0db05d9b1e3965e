use Rattle.std.proofs.Common.{List, Ok, ap, ◌∙◌, sym}
use Rattle.plan_text.specs.declared.piece_reader.Piece.{Piece}
use Rattle.plan_parse.specs.Views.{place_of}
use Rattle.plan_parse.proofs.ReadingLemmas.{path_literal}
use Rattle.plan_parse.proofs.reading.path_at.Goals as goal

pub returns-then-extent : goal.returns-then-extent
returns-then-extent c =
    path_literal c.plain_is_read.ensures (place_of c.args.p) c.args.extent.len c.requires.within (c.requires.plain c.if-extent.true)
    ∙ ap (λ (v : List Piece). Ok v) (sym c.in_ok-literal.ensures)
