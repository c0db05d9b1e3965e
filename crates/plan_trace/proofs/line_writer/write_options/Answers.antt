use Rattle.std.proofs.Common.{◌∷◌, ◌++◌, ◌∙◌, [], ℕ, is_ok, ap, codes}
use Rattle.std.specs.Fmt.{decimal}
use Rattle.plan_trace.specs.Spelling.{behind, line, options_words}
use Rattle.plan_trace.proofs.WritingLemmas.{failed, joined, long_line}
use Rattle.plan_trace.proofs.line_writer.write_options.Goals as goal

pub returns-in-Ok : goal.returns-in-Ok
returns-in-Ok g c =
    joined c.writes_join.ensures.join (is_ok c.write_keep.result) (g.W.Sink.failures c.args.out.now, g.W.Sink.taken c.args.out.now)
    (g.W.Sink.failures c.write_begun.new.out, g.W.Sink.taken c.write_begun.new.out)
    (g.W.Sink.failures c.write_keep.new.out, g.W.Sink.taken c.write_keep.new.out)
    (codes "plan-trace 1 j" ++ 32 ∷ decimal c.from.result) (behind (codes "k" ∷ decimal c.keep.result ∷ []) ++ 10 ∷ []) (line (options_words c.args.options)) (long_line (codes "plan-trace 1 j") c.from.result c.args.options.jobs (codes "k" ∷ decimal c.keep.result ∷ []) (c.from.ensures ∙ c.jobs.ensures.same) ∙ ap (λ (n : ℕ). line (codes "plan-trace 1 j" ∷ decimal c.args.options.jobs ∷ codes "k" ∷ decimal n ∷ [])) c.keep.ensures) c.in-Ok.ensures c.write_keep.ensures

pub returns-in-Err : goal.returns-in-Err
returns-in-Err g c =
    failed c.writes_join.ensures.failed (g.W.Sink.failures c.args.out.now, g.W.Sink.taken c.args.out.now)
    (g.W.Sink.failures c.write_begun.new.out, g.W.Sink.taken c.write_begun.new.out)
    (codes "plan-trace 1 j" ++ 32 ∷ decimal c.from.result) (behind (codes "k" ∷ decimal c.args.options.keep ∷ []) ++ 10 ∷ []) (line (options_words c.args.options)) (long_line (codes "plan-trace 1 j") c.from.result c.args.options.jobs (codes "k" ∷ decimal c.args.options.keep ∷ []) (c.from.ensures ∙ c.jobs.ensures.same)) c.in-Err.ensures
