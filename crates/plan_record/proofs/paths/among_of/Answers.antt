use Rattle.std.proofs.Common.{refl}
use Rattle.plan_record.proofs.AmongLemmas.{all_found, next_found}
use Rattle.plan_record.proofs.paths.among_of.Goals as goal

pub loop-taken-preserved : goal.loop-taken-preserved
loop-taken-preserved c =
    next_found c.args.count c.loop-taken.taken c.args.bytes.now c.bytes_from-rest.result.now c.loop-taken.start c.first_len-len.result c.args.wanted.now c.loop-taken.found c.push_wanted.new.found _
    c.loop-taken-test.true c.loop-taken.invariant c.bytes_from-rest.ensures c.first_len-len.ensures.within c.first_len-len.ensures.there c.first_len-len.ensures.left c.first_len-len.ensures.first refl c.in_ok-push_wanted.ensures

pub returns : goal.returns
returns c = all_found c.args.count c.loop-taken.taken c.args.bytes.now c.loop-taken.start c.args.wanted.now c.loop-taken.found c.loop-taken-test.false c.loop-taken.invariant
