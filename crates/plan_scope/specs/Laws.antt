-- Laws that hold for all manifests.
use Rattle.std.specs.Prelude.{◌≡◌, ℕ, List, Ok}
use Rattle.std.specs.List.{All}
use Rattle.plan_scope.specs.declared.manifest.Manifest.{Manifest}
use Rattle.plan_scope.specs.Trees.{TreeStatement}
use Rattle.plan_scope.specs.Scopes.{Text}
use Rattle.plan_scope.specs.Edges.{builds_of, manifest_of}
use Rattle.plan_scope.specs.Loading.{FileContents, IsMissing, LoadsFirst, PathSet}
use Rattle.plan_scope.specs.Sound.{IsSound, MakesSome}
use Rattle.plan_scope.specs.declared.edge.addition.Addition.{Addition}
use Rattle.plan_scope.specs.Extended.{AreSoundFor, RunTheSame, extended}

-- If each build line of the statements has an output, their manifest is sound.
abbrev pub ManifestsAreSound : Type 0
ManifestsAreSound = (statements : List TreeStatement) (m : Manifest) → All MakesSome (builds_of statements) → manifest_of statements ≡ Ok m → IsSound m

-- Each build line of a tree that is loaded has an output, whatever the source may return and whichever reads may fail.
abbrev pub TreesAreWhole : (gives : FileContents) → (fails : PathSet) → Type 0
TreesAreWhole gives fails = (before now : ℕ) (path : Text) (statements : List TreeStatement) → LoadsFirst gives (IsMissing gives fails before now) path (Ok statements) → All MakesSome (builds_of statements)

-- The manifest of a tree that is loaded is sound.
abbrev pub LoadedManifestsAreSound : (gives : FileContents) → (fails : PathSet) → Type 0
LoadedManifestsAreSound gives fails =
    (before now : ℕ) (path : Text) (statements : List TreeStatement) (m : Manifest) → LoadsFirst gives (IsMissing gives fails before now) path (Ok statements) → manifest_of statements ≡ Ok m → IsSound m

-- A sound manifest stays sound with additions of its outputs, or of paths that are canonical and of 1 to 4,096 bytes.
abbrev pub ExtendedIsSound : Type 0
ExtendedIsSound = (additions : List Addition) (m : Manifest) → IsSound m → AreSoundFor m additions → IsSound (extended additions m)

-- A manifest with additions runs the same commands.
abbrev pub ExtendedRunsTheSame : Type 0
ExtendedRunsTheSame = (additions : List Addition) (m : Manifest) → RunTheSame (extended additions m) m
