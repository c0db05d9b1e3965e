-- The environment of an edge, as the code holds it.
use Rattle.plan_scope.specs.declared.edge.expansion.EdgeEnvironment.{EdgeEnvironment as Held}
use Rattle.plan_scope.specs.Expansion.{EdgeEnvironment}
use Rattle.plan_scope.specs.ScopeNames.{names_in}

abbrev pub environment_of : Held → EdgeEnvironment
environment_of edge = record { inputs = edge.paths.now.inputs; outputs = edge.paths.now.outputs; block = edge.block.now; rule = edge.rule.now; file = names_in edge.file }
