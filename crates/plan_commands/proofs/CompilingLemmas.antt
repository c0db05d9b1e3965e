-- The reasons why no image is written. Serves src/compiling.rt.
use Rattle.std.proofs.Common.{◌⊎◌, Result, Ok, Err, IfErr, inl, inr}
use Rattle.plan_scope.specs.Scopes.{Text}
use Rattle.plan_scope.specs.declared.manifest.Manifest.{Manifest}
use Rattle.plan_compile.specs.declared.baseline.OutOfDateRule.{OutOfDateRule}
use Rattle.plan_printing.specs.declared.fault.PlanFault.{PlanFault}
use Rattle.plan_commands.specs.Commands.{IsMeant, LacksGraph, MayLoad}
use Rattle.plan_commands.specs.Compiling.{IsNotCompiled, LacksImageOf}

-- A manifest that has no graph, or no image, isn't compiled.
pub not_compiled : (rule : OutOfDateRule) (loads : MayLoad) (path : Text) (manifest : Manifest) (fault : PlanFault) → IsMeant loads path manifest → LacksGraph manifest fault ⊎ LacksImageOf rule manifest fault → IsNotCompiled rule loads path fault
not_compiled rule loads path manifest fault m (inl (inl g)) = inl (inr (inr (inl (record { lines = m.0; manifest = manifest; cause = g.0; loaded = m.1; means = m.2; refused = g.1; says = g.2 }))))
not_compiled rule loads path manifest fault m (inl (inr e)) = inl (inr (inr (inr (inr (inr (inr e))))))
not_compiled rule loads path manifest fault m (inr i) = inr (inl (record { lines = m.0; manifest = manifest; loaded = m.1; means = m.2; refused = i }))

-- What is no image of a manifest says why the manifest isn't compiled.
pub none_compiled : (A : Type 0) (rule : OutOfDateRule) (loads : MayLoad) (path : Text) (manifest : Manifest) (result : Result A PlanFault) → IsMeant loads path manifest
    → IfErr result (λ fault. LacksGraph manifest fault ⊎ LacksImageOf rule manifest fault) → IfErr result (λ fault. IsNotCompiled rule loads path fault)
none_compiled A rule loads path manifest (Ok image) m lacks = tt
none_compiled A rule loads path manifest (Err fault) m lacks = not_compiled rule loads path manifest fault m lacks
