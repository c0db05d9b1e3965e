use Rattle.std.proofs.Common.{◌≡◌, take}
use Rattle.plan_scope.specs.Compiled.{text_of_parts}
use Rattle.plan_scope.specs.HeldEnvironment.{environment_of}
use Rattle.plan_scope.specs.Kept.{kept}
use Rattle.plan_scope.specs.ShellQuoting.{quoted_as}
use Rattle.plan_scope.proofs.edge.compiled.joined_parts.Given as goal

abbrev pub invariant-loop-part : goal.invariant-loop-part
invariant-loop-part l = kept l.text.items ≡ kept (text_of_parts (quoted_as l.quoting) (environment_of l.edge) (take l.part-index l.parts))
