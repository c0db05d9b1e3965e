-- The state of the evaluator after the statements so far.
use Rattle.std.specs.Prelude.{◌≡◌, ◌≢◌, ℕ, Bool, true, false, List, [], ◌∷◌, length, Option, Some, None, Result, Ok, Err, is_none, unwrap_or}
use Rattle.plan_scope.specs.declared.manifest.evaluator.Evaluation.{Evaluation}
use Rattle.plan_scope.specs.declared.manifest.evaluator.TreeFacts.{TreeFacts}
use Rattle.plan_scope.specs.declared.fault.Cause.{Cause}
use Rattle.plan_scope.specs.declared.fault.Cause.TheVariants.{DuplicateRule, TextTooLong, BadDepth}
use Rattle.plan_scope.specs.declared.fault.StatementFault.{StatementFault}
use Rattle.plan_scope.specs.declared.fault.StatementFault.TheVariants as statement
use Rattle.plan_scope.specs.declared.fault.ScopeFault.{ScopeFault}
use Rattle.plan_scope.specs.declared.fault.ScopeFault.TheVariants.{Refused, Memory}
use Rattle.plan_scope.specs.declared.manifest.Manifest.{Manifest}
use Rattle.plan_scope.specs.Trees.{TreeStatement}
use Rattle.plan_scope.specs.EdgeRows.{AreWithin, edges_in}
use Rattle.plan_scope.specs.Scopes.{Text, bound_by, is_too_long}
use Rattle.plan_scope.specs.Edges.{builds_of, depth_in, first_of, or_refused, pools_of, rules_of, with_more}
use Rattle.plan_scope.specs.Kept.{KeptEqScoped, EqScoped, EqNames}

-- The manifest so far.
abbrev pub manifest_in : Evaluation → Manifest
manifest_in e = record { edges = edges_in e.edges; pools = e.pools.items; defaults = e.defaults.items }

-- The state has the bindings, the rules and the pools of these statements, and one edge for each of their build lines.
-- The edges are within their rows.
pub record Fits (e : Evaluation) (above : List TreeStatement) : Type 0 where
  pub bound : KeptEqScoped e.bound (bound_by above)
  pub rules : EqScoped e.rules (rules_of above)
  pub names : EqNames e.pool_names (pools_of above)
  pub count : length e.edges.marks.items ≡ length (builds_of above)
  pub within : AreWithin e.edges

-- The facts have the bindings and the pools of all statements.
pub record Knows (facts : TreeFacts) (all : List TreeStatement) : Type 0 where
  pub bound : KeptEqScoped facts.bound.now (bound_by all)
  pub names : EqNames facts.pool_names (pools_of all)

-- The answer when this manifest is to be appended to the manifest so far.
abbrev pub GivesMore : (before now : Manifest) → Result (Unit {0}) StatementFault → Result Manifest Cause → Type 0
GivesMore before now (Ok done) meant = (given : Manifest) × (meant ≡ Ok given) × (now ≡ with_more before given)
GivesMore before now (Err (statement.Refused cause)) meant = meant ≡ Err cause
GivesMore before now (Err statement.Memory) meant = Unit {0}

-- The answer when a rule is to be declared, depending on whether its name is taken.
abbrev pub Declares : Result (Unit {0}) StatementFault → Bool → Type 0
Declares (Ok done) taken = taken ≡ false
Declares (Err (statement.Refused cause)) taken = (taken ≡ true) × (cause ≡ DuplicateRule)
Declares (Err statement.Memory) taken = Unit {0}

-- The fault of a statement, with its place.
abbrev pub IsLocated : StatementFault → TreeStatement → ScopeFault → Type 0
IsLocated (statement.Refused cause) l fault = fault ≢ Memory → fault ≡ Refused l.path l.offset cause
IsLocated statement.Memory l fault = fault ≡ Memory

-- The own scope of a statement, which is the first that it sees.
abbrev pub own_of : List ℕ → Option ℕ
own_of [] = None
own_of (own ∷ outer) = Some own

-- The depth of a pool, or the cause for which it is refused.
abbrev pub depth_by : Text → Result ℕ Cause
depth_by text = or_refused (first_of ((is_too_long text, TextTooLong) ∷ (is_none (depth_in text), BadDepth) ∷ [])) (unwrap_or (depth_in text) 0)
