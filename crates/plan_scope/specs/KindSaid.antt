-- The contents of a statement, without its place.
use Rattle.plan_parse.specs.Kinds.{StatementKind}
use Rattle.plan_parse.specs.Kinds as kind
use Rattle.plan_parse.specs.Compact.{kind_of}
use Rattle.plan_scope.specs.declared.tree.Said as the_said
use Rattle.plan_scope.specs.declared.tree.Said.TheVariants as said

abbrev pub kind_said : the_said.Said → StatementKind
kind_said (said.Binding b) = kind.Binding b
kind_said (said.Build b) = kind.Build b
kind_said (said.Directive k) = kind_of k.now
