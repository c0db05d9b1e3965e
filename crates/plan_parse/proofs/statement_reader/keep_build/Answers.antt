use Rattle.std.proofs.Common.{length, ap, refl, ◌∙◌}
use Rattle.plan_parse.proofs.KeptLemmas.{number_lasts}
use Rattle.plan_parse.proofs.statement_reader.keep_build.Goals as goal

pub returns-clause-lasts : goal.returns-clause-lasts
returns-clause-lasts c =
    number_lasts c.args.text.now c.build_of.new.lists (record { builds = c.push.new.self; paths = c.build_of.new.lists.paths; bindings = c.build_of.new.lists.bindings }) c.in_ok-build.build c.in_ok-number.number
    c.in_ok-build.ensures.lasts (c.in_ok-number.ensures ∙ ap length c.deref.ensures.value) c.in_ok-push.ensures.items refl refl
