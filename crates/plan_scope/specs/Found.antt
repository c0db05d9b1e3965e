-- The rules that the code keeps because build lines refer to them.
use Rattle.std.specs.Prelude.{◌≡◌, ℕ, List, [], ◌∷◌, Some}
use Rattle.plan_text.specs.declared.piece_reader.Piece.{Piece}
use Rattle.plan_scope.specs.declared.edge.compiled.CompiledRule.{CompiledRule}
use Rattle.plan_scope.specs.declared.manifest.rules.FoundRule.{FoundRule}
use Rattle.plan_scope.specs.Scopes.{Text, Name, Bindings, ScopedBindings, lookup, nearest}
use Rattle.plan_scope.specs.Compiled.{IsCompiledRule}

-- The rule with this name that is visible from these scopes is compiled for their file.
abbrev pub IsCompiledFrom : ScopedBindings (Bindings (List Piece)) → ScopedBindings Text → List ℕ → Name → CompiledRule → Type 0
IsCompiledFrom rules bound scopes name compiled = (rule : Bindings (List Piece)) → nearest rules scopes name ≡ Some rule → IsCompiledRule rule (lookup bound scopes) compiled

-- Each kept rule is one that is visible from its scopes, given the rules so far and the bindings of the whole tree.
abbrev pub AreFound : ScopedBindings (Bindings (List Piece)) → ScopedBindings Text → List FoundRule → Type 0
AreFound rules bound [] = Unit {0}
AreFound rules bound (f ∷ more) = IsCompiledFrom rules bound f.scopes.now f.name.now f.compiled × AreFound rules bound more
