-- Answers of the steps towards an edge.
use Rattle.std.specs.Prelude.{◌≡◌, List, Option, Some, None, Result, Ok, Err, Vec, ◌++◌, option_map}
use Rattle.std.specs.declared.alloc.Global.{Global}
use Rattle.plan_scope.specs.declared.fault.Cause.TheVariants.{RuleCycle}
use Rattle.plan_scope.specs.declared.fault.Cause.{Cause}
use Rattle.plan_scope.specs.declared.fault.StatementFault.{StatementFault}
use Rattle.plan_scope.specs.declared.fault.StatementFault.TheVariants.{Refused, Memory}
use Rattle.plan_scope.specs.Scopes.{Text}
use Rattle.plan_scope.specs.Kept.{kept}

-- The answer when this text is to be appended, as far as it is kept. None means a cycle.
abbrev pub Appends : (before now : Text) → Result (Unit {0}) StatementFault → Option Text → Type 0
Appends before now (Ok done) meant = option_map (λ text. kept (before ++ text)) meant ≡ Some (kept now)
Appends before now (Err (Refused cause)) meant = (meant ≡ None) × (cause ≡ RuleCycle)
Appends before now (Err Memory) meant = Unit {0}

-- The answer is the one that is meant, unless memory ran out.
abbrev pub Gives : {A : Type 0} → Result A StatementFault → Result A Cause → Type 0
Gives (Ok x) meant = meant ≡ Ok x
Gives (Err (Refused cause)) meant = meant ≡ Err cause
Gives (Err Memory) meant = Unit {0}

-- The same for a list.
abbrev pub GivesItems : {A : Type 0} → Result (Vec A Global) StatementFault → Result (List A) Cause → Type 0
GivesItems (Ok x) meant = meant ≡ Ok x.items
GivesItems (Err (Refused cause)) meant = meant ≡ Err cause
GivesItems (Err Memory) meant = Unit {0}
