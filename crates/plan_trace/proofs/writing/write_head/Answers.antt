use Rattle.std.proofs.Common.{◌++◌, is_ok, refl}
use Rattle.std.specs.List.{flat_map}
use Rattle.plan_trace.specs.Spelling.{line, options_words, target_line}
use Rattle.plan_trace.proofs.WritingLemmas.{failed, joined}
use Rattle.plan_trace.proofs.writing.write_head.Goals as goal

pub returns-in-Ok : goal.returns-in-Ok
returns-in-Ok g c =
    joined c.writes_join.ensures.join (is_ok c.write_targets.result) (g.W.Sink.failures c.args.out.now, g.W.Sink.taken c.args.out.now)
    (g.W.Sink.failures c.write_options.new.out, g.W.Sink.taken c.write_options.new.out)
    (g.W.Sink.failures c.write_targets.new.out, g.W.Sink.taken c.write_targets.new.out)
    (line (options_words c.args.options)) (flat_map target_line c.args.targets.now) (line (options_words c.args.options) ++ flat_map target_line c.args.targets.now) refl c.in-Ok.ensures c.write_targets.ensures

pub returns-in-Err : goal.returns-in-Err
returns-in-Err g c =
    failed c.writes_join.ensures.failed (g.W.Sink.failures c.args.out.now, g.W.Sink.taken c.args.out.now)
    (g.W.Sink.failures c.write_options.new.out, g.W.Sink.taken c.write_options.new.out)
    (line (options_words c.args.options)) (flat_map target_line c.args.targets.now) (line (options_words c.args.options) ++ flat_map target_line c.args.targets.now) refl c.in-Err.ensures
