use Rattle.std.proofs.Common.{◌++◌, is_ok, append_assoc}
use Rattle.std.specs.List.{flat_map}
use Rattle.plan_trace.specs.Spelling.{event_line, line, options_words, run_text, target_line}
use Rattle.plan_trace.proofs.WritingLemmas.{failed, joined}
use Rattle.plan_trace.proofs.writing.write_run.Goals as goal

pub returns-in-Ok : goal.returns-in-Ok
returns-in-Ok g c =
    joined c.writes_join.ensures.join (is_ok c.write_journal.result) (g.W.Sink.failures c.args.out.now, g.W.Sink.taken c.args.out.now)
    (g.W.Sink.failures c.write_head.new.out, g.W.Sink.taken c.write_head.new.out)
    (g.W.Sink.failures c.write_journal.new.out, g.W.Sink.taken c.write_journal.new.out)
    (line (options_words c.args.options) ++ flat_map target_line c.args.targets.now) (flat_map event_line c.args.journal.now) (run_text c.args.options c.args.targets.now c.args.journal.now) (append_assoc (line (options_words c.args.options)) (flat_map target_line c.args.targets.now) (flat_map event_line c.args.journal.now)) c.in-Ok.ensures c.write_journal.ensures

pub returns-in-Err : goal.returns-in-Err
returns-in-Err g c =
    failed c.writes_join.ensures.failed (g.W.Sink.failures c.args.out.now, g.W.Sink.taken c.args.out.now)
    (g.W.Sink.failures c.write_head.new.out, g.W.Sink.taken c.write_head.new.out)
    (line (options_words c.args.options) ++ flat_map target_line c.args.targets.now) (flat_map event_line c.args.journal.now) (run_text c.args.options c.args.targets.now c.args.journal.now) (append_assoc (line (options_words c.args.options)) (flat_map target_line c.args.targets.now) (flat_map event_line c.args.journal.now)) c.in-Err.ensures
