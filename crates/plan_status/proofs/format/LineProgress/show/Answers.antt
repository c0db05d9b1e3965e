use Rattle.std.proofs.Common.{arith}
use Rattle.plan_status.proofs.LiveLemmas.{fed_of_first}
use Rattle.plan_status.proofs.format.LineProgress.show.Goals as goal

pub show-requires : goal.show-requires
show-requires c =
    let so_far = c.requires.behind in
    let more = c.look.ensures.more in
    let few = c.shown-count.ensures.most c.args.self.now.feed.shown (omega (arith, so_far, more)) c.requires.fed.within in
    fed_of_first c.shown-count.result c.args.marks.now c.args.self.now.feed c.shown-count.ensures.within few c.requires.fed
