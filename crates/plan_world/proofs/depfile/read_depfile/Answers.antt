use Rattle.plan_world.proofs.AnswerLemmas.{short_bytes}
use Rattle.plan_world.proofs.depfile.read_depfile.Goals as goal

pub returns-in-Ok-read-clause-suits : goal.returns-in-Ok-read-clause-suits
returns-in-Ok-read-clause-suits g c =
    short_bytes c.args.path.now c.in-Ok-read.bytes.items c.depfile_reply.result c.in-Ok-read.ensures.few c.depfile_reply.ensures
