-- The rules of build lines.
use Rattle.std.specs.Prelude.{List, [], ◌∷◌, flat_map}
use Rattle.plan_parse.specs.Kinds.{StatementKind}
use Rattle.plan_parse.specs.Kinds as kind
use Rattle.plan_scope.specs.Scopes.{Text}
use Rattle.plan_scope.specs.Trees.{TreeStatement}

-- the rule that a build line names
abbrev pub rule_in : StatementKind → List Text
rule_in (kind.Build b) = b.rule ∷ []
rule_in other = []

-- the rule of each build line, in their order
abbrev pub rules_of : List TreeStatement → List Text
rules_of statements = flat_map (λ l. rule_in l.kind) statements
