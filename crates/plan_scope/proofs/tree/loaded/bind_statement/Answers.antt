use Rattle.std.proofs.Common.{◌≡◌, ◌++◌, ◌∙◌, List, ℕ, ap, sym, subst}
use Rattle.std.specs.List.{list_any}
use Rattle.std.proofs.lemmas.Result.{IfOk-weaker, on_ok_weaker}
use Rattle.plan_parse.specs.declared.statement.Binding.{Binding}
use Rattle.plan_parse.specs.Kinds.{StatementKind}
use Rattle.plan_parse.specs.Kinds as kind
use Rattle.plan_scope.specs.declared.tree.Said as the_said
use Rattle.plan_scope.specs.KindSaid.{kind_said}
use Rattle.plan_scope.specs.Scopes.{ScopedBindings, Text, bound_in, is_too_long}
use Rattle.plan_scope.specs.Kept.{KeptEqScoped}
use Rattle.plan_scope.proofs.tree.loaded.bind_statement.Goals as goal

pub returns-in_ok-read-in-Binding-clause-bound : goal.returns-in_ok-read-in-Binding-clause-bound
returns-in_ok-read-in-Binding-clause-bound c =
    let statement = c.args.statement.now in
    let read : Binding = c.in_ok-read-in-Binding.field-0 in
    let said : statement.kind ≡ kind.Binding c.in-Binding.line = sym c.said.ensures ∙ ap (λ (s : the_said.Said). kind_said s) c.in-Binding.is in
    let now = c.bind_own.new.bound in
    on_ok_weaker c.bind_own.result
    (λ known meant h.
    let same : bound_in meant c.scopes.result.now (kind.Binding read) ≡ bound_in meant statement.scopes statement.kind =
    ap (λ (s : List ℕ). bound_in meant s (kind.Binding read)) c.scopes.ensures ∙ ap (λ (b : Binding). bound_in meant statement.scopes (kind.Binding b)) c.in_ok-read-in-Binding.ensures ∙ ap (λ (k : StatementKind). bound_in meant statement.scopes k) (sym said) in
    subst (λ (x : ScopedBindings Text). KeptEqScoped now (meant ++ x)) same (known meant h))
    c.bind_own.ensures.bound

pub returns-in_ok-read-in-Binding-clause-long : goal.returns-in_ok-read-in-Binding-clause-long
returns-in_ok-read-in-Binding-clause-long c =
    let statement = c.args.statement.now in
    let read : Binding = c.in_ok-read-in-Binding.field-0 in
    let said : statement.kind ≡ kind.Binding c.in-Binding.line = sym c.said.ensures ∙ ap (λ (s : the_said.Said). kind_said s) c.in-Binding.is in
    IfOk-weaker c.bind_own.result _ _
    (λ long known meant h.
    let same : bound_in meant c.scopes.result.now (kind.Binding read) ≡ bound_in meant statement.scopes statement.kind =
    ap (λ (s : List ℕ). bound_in meant s (kind.Binding read)) c.scopes.ensures ∙ ap (λ (b : Binding). bound_in meant statement.scopes (kind.Binding b)) c.in_ok-read-in-Binding.ensures ∙ ap (λ (k : StatementKind). bound_in meant statement.scopes k) (sym said) in
    known meant h ∙ ap (λ (x : ScopedBindings Text). list_any (λ b. is_too_long b.1.1) x) same)
    c.bind_own.ensures.long
