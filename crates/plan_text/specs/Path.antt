-- Paths in canonical form: no component is empty or `.`, and `..` removes the normal component before it.
use Rattle.std.specs.Prelude.{ℕ, ◌==◌, Bool, true, false, not, ◌&&◌, List, [], ◌∷◌, if◌then◌else◌, Result, Ok, Err}
use Rattle.std.specs.List.{list_all, slice_split, join_with_byte}
use Rattle.plan_text.specs.Bytes.{dot, slash}
use Rattle.plan_text.specs.declared.fault.TextFault.{TextFault}
use Rattle.plan_text.specs.declared.fault.TextFault.TheVariants.{EmptyPath}

-- whether a component is empty or `.`, and so names the folder that it is in
abbrev pub is_current_dir : List ℕ → Bool
is_current_dir [] = true
is_current_dir (b ∷ []) = b == dot
is_current_dir (b ∷ c ∷ rest) = false

-- whether a component is `..`
abbrev pub is_parent_dir : List ℕ → Bool
is_parent_dir [] = false
is_parent_dir (b ∷ []) = false
is_parent_dir (b ∷ c ∷ []) = if b == dot then c == dot else false
is_parent_dir (b ∷ c ∷ d ∷ rest) = false

-- whether a component is neither empty nor `.` nor `..`
abbrev pub is_normal : List ℕ → Bool
is_normal component = not (is_current_dir component) && not (is_parent_dir component)

-- adds a normal component before the components that remain of those after it; a `..` among them removes it
abbrev pub normal_onto : List ℕ → List (List ℕ) → List (List ℕ)
normal_onto component [] = component ∷ []
normal_onto component (next ∷ rest) = if is_parent_dir next then rest else component ∷ next ∷ rest

-- adds a component before the components that remain of those after it
abbrev pub component_onto : List ℕ → List (List ℕ) → List (List ℕ)
component_onto component rest = if is_current_dir component then rest else if is_parent_dir component then component ∷ rest else normal_onto component rest

-- the components that remain: none is empty or `.`, and `..` removes the normal component before it
abbrev pub reduced : List (List ℕ) → List (List ℕ)
reduced [] = []
reduced (component ∷ components) = component_onto component (reduced components)

-- removes each `..` right after the root
abbrev pub without_parent_dirs : List (List ℕ) → List (List ℕ)
without_parent_dirs [] = []
without_parent_dirs (component ∷ components) = if is_parent_dir component then without_parent_dirs components else component ∷ components

-- the components between slashes
abbrev pub components_of : List ℕ → List (List ℕ)
components_of path = slice_split (λ b. b == slash) path

-- the relative path of these components
abbrev pub relative_path : List (List ℕ) → List ℕ
relative_path [] = dot ∷ []
relative_path (component ∷ components) = join_with_byte slash (component ∷ components)

-- the absolute path of these components
abbrev pub absolute_path : List (List ℕ) → List ℕ
absolute_path components = slash ∷ join_with_byte slash (without_parent_dirs components)

-- the canonical form of a path
abbrev pub canonical_of : List ℕ → Result (List ℕ) TextFault
canonical_of [] = Err EmptyPath
canonical_of (b ∷ rest) = Ok (if b == slash then absolute_path (reduced (components_of rest)) else relative_path (reduced (components_of (b ∷ rest))))

-- whether each component of a path is normal, after its root if it has one
abbrev pub has_normal_components : List ℕ → Bool
has_normal_components [] = false
has_normal_components (b ∷ rest) = if b == slash then list_all is_normal (components_of rest) else list_all is_normal (components_of (b ∷ rest))
