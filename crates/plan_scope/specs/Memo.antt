-- The texts of a rule's variables, found in steps from one variable to another, and the texts that are memoized.
use Rattle.std.specs.Prelude.{◌≡◌, ◌≤◌, ℕ, zero, suc, true, false, List, [], ◌∷◌, ◌++◌, Option, Some, None, Result, Ok, Err, option_map}
use Rattle.plan_scope.specs.declared.fault.Cause.TheVariants.{RuleCycle}
use Rattle.plan_scope.specs.declared.fault.StatementFault.{StatementFault}
use Rattle.plan_scope.specs.declared.fault.StatementFault.TheVariants.{Refused, Memory}
use Rattle.plan_scope.specs.declared.edge.expansion.MemoEntry.{MemoEntry}
use Rattle.plan_scope.specs.Scopes.{Text, Name}
use Rattle.plan_scope.specs.Expansion.{Meaning, joined, text_of}
use Rattle.plan_scope.specs.Kept.{kept}

-- The text of a name if at most that many of the rule's variables are nested in it, or else None. A cycle has no text
-- for any number.
abbrev pub text_by : ℕ → (Name → Meaning) → Name → Option Text
text_by zero meaning name = text_of (meaning name) true (λ pieces. None)
text_by (suc n) meaning name = text_of (meaning name) false (joined (text_by n meaning))

-- The answer when a text is to be appended that is found in at most `left` steps. It is the number of steps that were
-- enough.
abbrev pub AppendsBy : (before now : Text) → (left : ℕ) → Result ℕ StatementFault → (ℕ → Option Text) → Type 0
AppendsBy before now left (Ok depth) meant = (depth ≤ left) × (option_map (λ text. kept (before ++ text)) (meant depth) ≡ Some (kept now))
AppendsBy before now left (Err (Refused cause)) meant = (meant left ≡ None) × (cause ≡ RuleCycle)
AppendsBy before now left (Err Memory) meant = Unit {0}

-- A text that was memoized is this one.
abbrev pub Says : Option Text → Text → Type 0
Says (Some said) text = said ≡ text
Says None text = Unit {0}

-- A variable has a text within its number of steps.
abbrev pub IsMemoEntry : (Name → Meaning) → MemoEntry → Type 0
IsMemoEntry meaning s = (text : Text) × (text_by s.depth meaning s.name.now ≡ Some text) × Says s.text text

abbrev pub IsMemo : (Name → Meaning) → List MemoEntry → Type 0
IsMemo meaning [] = Unit {0}
IsMemo meaning (s ∷ more) = IsMemoEntry meaning s × IsMemo meaning more

-- The number of steps in which a name has a text, and the text to append for it.
abbrev pub IsRecalled : (Name → Meaning) → ℕ → Name → Text → Option (ℕ × Text) → Type 0
IsRecalled meaning left name out None = Unit {0}
IsRecalled meaning left name out (Some found) = (found.0 ≤ left) × (option_map (λ text. kept (out ++ text)) (text_by found.0 meaning name) ≡ Some (kept (out ++ found.1)))
