use Rattle.std.proofs.Common.{ℕ, List, [], Ok, Err, subst}
use Rattle.plan_scope.specs.Expansion.{Meaning, meaning_of, text_within}
use Rattle.plan_scope.specs.HeldEnvironment.{environment_of}
use Rattle.plan_scope.specs.ShellQuoting.{quoted_as}
use Rattle.plan_scope.specs.Outcomes.{Appends}
use Rattle.plan_scope.proofs.MemoLemmas.{whole_appended, whole_refused}
use Rattle.plan_scope.proofs.edge.expansion.append_whole.Goals as goal

pub returns-in-Ok-clause-appended : goal.returns-in-Ok-clause-appended
returns-in-Ok-clause-appended c =
    let meaning : List ℕ → Meaning = meaning_of (quoted_as c.args.quoting) (environment_of c.args.edge.now) in
    subst (λ (n : ℕ). Appends c.args.out.now.items c.append_variable.new.out.items (Ok (tt {0})) (text_within n meaning [] c.args.name.now)) c.len.ensures
    (whole_appended meaning c.len.result c.in-Ok.field-0 c.args.name.now c.args.out.now.items c.append_variable.new.out.items (tt {0}) c.in-Ok.ensures.appended)

pub returns-in-Err-clause-appended : goal.returns-in-Err-clause-appended
returns-in-Err-clause-appended c =
    let meaning : List ℕ → Meaning = meaning_of (quoted_as c.args.quoting) (environment_of c.args.edge.now) in
    subst (λ (n : ℕ). Appends c.args.out.now.items c.append_variable.new.out.items (Err c.in-Err.fault) (text_within n meaning [] c.args.name.now)) c.len.ensures
    (whole_refused meaning c.len.result c.args.name.now c.args.out.now.items c.append_variable.new.out.items c.in-Err.fault c.in-Err.ensures.appended)
