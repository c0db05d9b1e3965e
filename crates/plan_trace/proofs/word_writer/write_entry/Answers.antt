use Rattle.std.proofs.Common.{◌∷◌, [], is_ok, map, codes}
use Rattle.std.specs.Fmt.{decimal}
use Rattle.plan_image.specs.Listing.{hex}
use Rattle.plan_trace.specs.Spelling.{behind}
use Rattle.plan_trace.proofs.WritingLemmas.{failed, joined, words_behind}
use Rattle.plan_trace.proofs.word_writer.write_entry.Goals as goal

pub returns-in-Ok : goal.returns-in-Ok
returns-in-Ok g c =
    joined c.writes_join.ensures.join (is_ok c.write_listed.result) (g.W.Sink.failures c.args.out.now, g.W.Sink.taken c.args.out.now)
    (g.W.Sink.failures c.write_numbered.new.out, g.W.Sink.taken c.write_numbered.new.out)
    (g.W.Sink.failures c.write_listed.new.out, g.W.Sink.taken c.write_listed.new.out)
    (behind (codes "entry" ∷ decimal c.args.basis ∷ [])) (behind (hex c.args.command.now ∷ map hex c.args.paths.now)) (behind (codes "entry" ∷ decimal c.args.basis ∷ hex c.args.command.now ∷ map hex c.args.paths.now)) (words_behind (codes "entry" ∷ decimal c.args.basis ∷ []) (hex c.args.command.now ∷ map hex c.args.paths.now)) c.in-Ok.ensures c.write_listed.ensures

pub returns-in-Err : goal.returns-in-Err
returns-in-Err g c =
    failed c.writes_join.ensures.failed (g.W.Sink.failures c.args.out.now, g.W.Sink.taken c.args.out.now)
    (g.W.Sink.failures c.write_numbered.new.out, g.W.Sink.taken c.write_numbered.new.out)
    (behind (codes "entry" ∷ decimal c.args.basis ∷ [])) (behind (hex c.args.command.now ∷ map hex c.args.paths.now)) (behind (codes "entry" ∷ decimal c.args.basis ∷ hex c.args.command.now ∷ map hex c.args.paths.now)) (words_behind (codes "entry" ∷ decimal c.args.basis ∷ []) (hex c.args.command.now ∷ map hex c.args.paths.now)) c.in-Err.ensures
