-- The quoting of paths, as the code holds it.
use Rattle.plan_scope.specs.declared.scope.text.Quoting.{Quoting}
use Rattle.plan_scope.specs.declared.scope.text.Quoting.TheVariants.{Plain, Shell}
use Rattle.plan_scope.specs.Scopes.{Text}
use Rattle.plan_scope.specs.Expansion.{plain, quoted}

abbrev pub quoted_as : Quoting → Text → Text
quoted_as Plain = plain
quoted_as Shell = quoted
