-- The parts of texts and bindings that the code keeps.
use Rattle.std.specs.Prelude.{◌≡◌, ℕ, List, [], ◌∷◌, ◌++◌, Option, Some, None, if◌then◌else◌, option_map, map}
use Rattle.std.specs.Borrow.{Bor}
use Rattle.plan_scope.specs.Scopes.{Text, Name, Bindings, ScopedBindings, last_of, frame, is_too_long}
use Rattle.plan_scope.specs.declared.edge.variables.Variables.{Variables}
use Rattle.plan_scope.specs.Edges.{is_among, texts_of_variables}

-- A text, or None if it is too long. Of a text that is too long, the code keeps only enough to show that.
unfoldable pub kept : Text → Option Text
kept text = if is_too_long text then None else Some text

-- The same texts for the same names, as far as texts are kept.
abbrev pub KeptEqBindings : Bindings Text → Bindings Text → Type 0
KeptEqBindings stored meant = (name : Name) → option_map kept (last_of name stored) ≡ option_map kept (last_of name meant)

-- The same in each scope.
abbrev pub KeptEqScoped : ScopedBindings Text → ScopedBindings Text → Type 0
KeptEqScoped stored meant = (scope : ℕ) (name : Name) → option_map kept (last_of name (frame scope stored)) ≡ option_map kept (last_of name (frame scope meant))

-- Names have the same texts, as far as texts are kept.
abbrev pub KeptEqLookup : (Name → Text) → (Name → Text) → Type 0
KeptEqLookup stored meant = (name : Name) → kept (stored name) ≡ kept (meant name)

-- The same variables of an edge, as far as texts are kept.
pub record KeptEqVariables (stored meant : Variables) : Type 0 where
  pub texts : map kept (texts_of_variables stored) ≡ map kept (texts_of_variables meant)
  pub cycle : stored.has_cycle ≡ meant.has_cycle

-- The same values for the same names in each scope.
abbrev pub EqScoped : {V : Type 0} → ScopedBindings V → ScopedBindings V → Type 0
EqScoped {V} stored meant = (scope : ℕ) (name : Name) → last_of name (frame scope stored) ≡ last_of name (frame scope meant)

-- The same set of names.
abbrev pub EqNames : List Name → List Name → Type 0
EqNames stored meant = (name : Name) → is_among stored name ≡ is_among meant name

-- The entries of a map as bindings.
abbrev pub map_bindings : {V : Type 0} → List (Bor (List ℕ) × V) → Bindings V
map_bindings [] = []
map_bindings (e ∷ es) = map_bindings es ++ (e.0.now, e.1) ∷ []

-- The entries of the list of first values as bindings.
abbrev pub few_bindings : {V : Type 0} → List (Bor (List ℕ) × V) → Bindings V
few_bindings es = map (λ e. (e.0.now, e.1)) es

-- The greatest number of entries in that list.
abbrev pub most_few : ℕ
most_few = 8
