use Rattle.std.proofs.Common.{◌∙◌, sym}
use Rattle.std.proofs.lemmas.Bool.{ltb-false}
use Rattle.plan_text.specs.Limits.{max_text}
use Rattle.plan_scope.proofs.MemoLemmas.{cut_behind}
use Rattle.plan_scope.proofs.edge.expansion.text_behind.Goals as goal

pub returns-in_ok-copy_of-in-Some : goal.returns-in_ok-copy_of-in-Some
returns-in_ok-copy_of-in-Some c = λ before behind e k.
    c.in_ok-copy_of-in-Some.ensures ∙ cut_behind c.args.out.now before behind c.in-Some.behind.now c.args.start (ltb-false max_text _ (sym c.is_long.ensures ∙ c.if-is_long.false)) e k c.in-Some.ensures.lookup.0.2
