use Rattle.std.proofs.Common.{is_ok, subst}
use Rattle.plan_text.specs.Sinks.{Writes}
use Rattle.plan_image.proofs.ListingLemmas.{members_are}
use Rattle.plan_image.proofs.lister.value.write_members.Goals as goal

pub returns : goal.returns
returns g c = subst (Writes (is_ok c.write.result) (g.W.Sink.failures c.args.out.now, g.W.Sink.taken c.args.out.now) (g.W.Sink.failures c.write.new.out, g.W.Sink.taken c.write.new.out)) (members_are c.args.first c.from.result c.args.rest.now c.from.ensures) c.write.ensures
