use Rattle.plan_world.proofs.RecordingLemmas.{found_is_of}
use Rattle.plan_world.proofs.record_file.RecordFile.last.Goals as goal

pub returns-clause-own : goal.returns-clause-own
returns-clause-own g c = found_is_of c.args.output.now c.self.inside.entries c.in_ok-entry.field-0 c.in_ok-entry.ensures
