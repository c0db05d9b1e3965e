use Rattle.std.proofs.Common.{List, Ok, ap, sym, ◌∙◌}
use Rattle.plan_parse.specs.Kinds.{Statement}
use Rattle.plan_parse.proofs.KeptLemmas.{follows_same}
use Rattle.plan_parse.proofs.parser.Reader.finish.Goals as goal

pub returns : goal.returns
returns c =
    let kept = c.end_block.new.self.lists in
    let shrunk = c.shrink.new.self in
    c.in_ok-end_block.ensures.statements
    ∙ ap (λ (v : List Statement). Ok v) (sym (c.in_ok-end_block.ensures.kept shrunk (follows_same kept shrunk c.shrink.ensures.builds c.shrink.ensures.paths c.shrink.ensures.bindings)))
