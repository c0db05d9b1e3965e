-- The depths of pools, looked up by their names.
use Rattle.std.specs.Prelude.{◌≡◌, ℕ, zero, Bool, List, Option, Some, None, bytes_eq}
use Rattle.std.specs.HashMap.{HashMap, get}
use Rattle.plan_scope.specs.declared.manifest.Pool.{Pool as ManifestPool}
use Rattle.plan_graph.specs.declared.files.Key.{Key}
use Rattle.plan_compile.specs.Names.{depth_of}

abbrev pub same_key : Key → Key → Bool
same_key a b = bytes_eq a.bytes.now b.bytes.now

abbrev pub or_zero : Option ℕ → ℕ
or_zero (Some depth) = depth
or_zero None = zero

-- the map has the depths that these pools declare
abbrev pub AreDepths : {S : Type 0} → List ManifestPool → HashMap Key ℕ S → Type 0
AreDepths pools depths = (name : Key) → or_zero (get same_key depths name) ≡ depth_of pools name.bytes.now
