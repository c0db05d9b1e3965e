use Rattle.std.proofs.Common.{◌∙◌, sym, length}
use Rattle.std.proofs.lemmas.Bool.{ltb-true}
use Rattle.plan_text.specs.Limits.{max_text}
use Rattle.plan_scope.proofs.MemoLemmas.{found_long}
use Rattle.plan_scope.proofs.edge.expansion.text_of_entry.Goals as goal

pub returns-then-is_long : goal.returns-then-is_long
returns-then-is_long c = λ meaning h.
    found_long meaning c.args.memo.now c.args.out.now (ltb-true max_text (length c.args.out.now) (sym c.is_long.ensures ∙ c.if-is_long.true)) h
