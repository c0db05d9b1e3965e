use Rattle.std.proofs.Common.{[]}
use Rattle.plan_scope.specs.declared.edge.compiled.VariablePart.TheVariants.{Literal}
use Rattle.plan_scope.specs.HeldEnvironment.{environment_of}
use Rattle.plan_scope.specs.ShellQuoting.{quoted_as}
use Rattle.plan_scope.proofs.CompiledLemmas.{parts_taken}
use Rattle.plan_scope.proofs.edge.compiled.joined_parts.Goals as goal

pub loop-part-preserved : goal.loop-part-preserved
loop-part-preserved c =
    parts_taken (quoted_as c.args.quoting) (environment_of c.args.edge.now) c.args.parts.now c.loop-part.part-index (Literal (record { ref_ptr = (0, 0); now = [] })) c.loop-part.text.items c.append_part.new.out.items
    c.loop-part-test.true c.loop-part.invariant c.in_ok-append_part.ensures
