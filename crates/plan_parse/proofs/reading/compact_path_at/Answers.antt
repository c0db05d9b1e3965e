use Rattle.std.proofs.Common.{Ok, ap, ◌∙◌, sym}
use Rattle.plan_text.specs.Pieces.{literal_of}
use Rattle.plan_parse.specs.Reading.{Place}
use Rattle.plan_parse.specs.Views.{place_of}
use Rattle.plan_parse.proofs.CompactLemmas.{path_place, path_again}
use Rattle.plan_parse.proofs.ReadingLemmas.{path_literal}
use Rattle.plan_parse.proofs.reading.compact_path_at.Goals as goal

pub returns-then-extent : goal.returns-then-extent
returns-then-extent c =
    let p = place_of c.args.p in
    let n = c.args.extent.len in
    let here = path_place c.args.text.now c.in_ok-span.span p n c.requires.within c.requires.stands c.in_ok-span.ensures.0 c.in_ok-span.ensures.1 in
    path_literal c.plain_is_read.ensures p n c.requires.within (c.requires.plain c.if-extent.true)
    ∙ ap (λ (q : Place). Ok (literal_of q.bytes)) (sym here)

pub returns : goal.returns
returns c =
    path_again c.args.text.now c.in_ok-span.span (place_of c.args.p) c.args.extent.len c.requires.sound.0 c.requires.within c.requires.stands c.in_ok-span.ensures.0 c.in_ok-span.ensures.1 c.requires.sound.1
