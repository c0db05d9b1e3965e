-- Worked examples: the edge that makes a manifest, the ends of builds, and the replies that a dry build takes.
use Rattle.std.proofs.Common.{◌≡◌, ◌⊎◌, inl, inr, ◌<◌, ℕ, List, [], ◌∷◌, None, Some, arith, refl}
use Rattle.std.specs.Prelude.{Contains, codes, map}
use Rattle.plan_image.specs.declared.image.Edge.{Edge as ImageEdge}
use Rattle.plan_image.specs.declared.image.EdgeCode.TheVariants.{Own}
use Rattle.plan_image.specs.declared.image.Parts.{Parts}
use Rattle.plan_image.specs.declared.image.Sort.TheVariants as sort
use Rattle.plan_machine.specs.declared.event.reply.Reply.TheVariants as reply
use Rattle.plan_verify.specs.Turn.{Deps, Keep, Run, Stat}
use Rattle.plan_lanes.specs.Journals.{Rule}
use Rattle.plan_commands.specs.declared.building.Done.TheVariants as done
use Rattle.plan_commands.specs.Building.{exit_status, maker_of, most_rounds}
use Rattle.plan_commands.specs.Dry.{dry_rule}
use Rattle.plan_commands.specs.Recorded.{AreSome, DependsOn, directly, paths_for, paths_in, through}
use Rattle.plan_scope.specs.declared.edge.addition.Addition.{Addition}

abbrev image_edge : List ℕ → ImageEdge
image_edge outputs = record { sort = sort.Command; pool = None; rank = 0; label = 0; outputs = outputs; waits = []; code = Own [] }

-- `build out: cc in` and `build build.ninja: configure in`
abbrev two : Parts
two = record {
  texts = codes "x" ∷ [];
  files = codes "out" ∷ codes "build.ninja" ∷ codes "in" ∷ [];
  pools = [];
  slots = [];
  bodies = None;
  edges = image_edge (0 ∷ []) ∷ image_edge (1 ∷ []) ∷ [];
  defaults = 0 ∷ [];
}

maker_is_found : maker_of two (codes "build.ninja") ≡ Some 1
maker_is_found = refl

maker_is_found_by_another_spelling : maker_of two (codes "./a/../build.ninja") ≡ Some 1
maker_is_found_by_another_spelling = refl

source_has_no_maker : maker_of two (codes "in") ≡ None
source_has_no_maker = refl

empty_path_has_no_maker : maker_of two [] ≡ None
empty_path_has_no_maker = refl

statuses : map exit_status (done.Built ∷ done.UpToDate ∷ done.Failed ∷ done.ManifestFails ∷ done.NeverSettles ∷ []) ≡ 0 ∷ 0 ∷ 1 ∷ 1 ∷ 1 ∷ []
statuses = refl

-- The largest number of rounds is the same as in ninja.
hundred_rounds : most_rounds ≡ 100
hundred_rounds = refl

-- ---- dry builds

dry_command_ends_well : (allowed : Rule) (command : List ℕ) (outputs : List (List ℕ)) → dry_rule allowed 7 (Run command outputs) (reply.Exit 0)
dry_command_ends_well allowed command outputs = refl

-- A dry build doesn't take a reply of the world for a command.
dry_command_is_not_run : (allowed : Rule) (command : List ℕ) (outputs : List (List ℕ)) → dry_rule allowed 7 (Run command outputs) (reply.Exit 1) → ⊥
dry_command_is_not_run allowed command outputs is = cc

dry_entry_is_kept : (allowed : Rule) (output command : List ℕ) → dry_rule allowed 9 (Keep output command 5 []) reply.Kept
dry_entry_is_kept allowed output command = refl

-- Files are asked by the rule of the world.
dry_stamp : (allowed : Rule) (path : List ℕ) → dry_rule allowed 1 (Stat path) reply.Fault ≡ allowed 1 (Stat path) reply.Fault
dry_stamp allowed path = refl

-- the depfile of a command that a dry build lists
dry_depfile_is_missing : (allowed : Rule) (path : List ℕ) → dry_rule allowed 8 (Deps path) reply.Nothing
dry_depfile_is_missing allowed path = inl refl

-- ---- what the record adds

abbrev adds : ℕ → List (List ℕ) → Addition
adds e paths = record { edge = e; outputs = []; inputs = []; order_only = paths }

-- Two additions to edge 1, and one to edge 0 between them.
paths_of_edge_one : paths_for 1 (adds 1 (codes "h" ∷ []) ∷ adds 0 (codes "g" ∷ []) ∷ adds 1 (codes "i" ∷ []) ∷ []) ≡ codes "h" ∷ codes "i" ∷ []
paths_of_edge_one = refl

paths_of_edge_two : paths_for 2 (adds 1 (codes "h" ∷ []) ∷ adds 0 (codes "g" ∷ []) ∷ []) ≡ []
paths_of_edge_two = refl

-- Edge 0 waits for edge 1, and edge 1 for edge 2.
depends_through_one : DependsOn ((1 ∷ []) ∷ (2 ∷ []) ∷ [] ∷ []) 0 2
depends_through_one = through (directly (0, omega arith, refl)) (0, omega arith, refl)

-- Edge 2 waits for nothing.
last_depends_on_none : DependsOn ((1 ∷ []) ∷ (2 ∷ []) ∷ [] ∷ []) 2 0 → ⊥
last_depends_on_none d = none 0 d
  where
    none : (w : ℕ) → DependsOn ((1 ∷ []) ∷ (2 ∷ []) ∷ [] ∷ []) 2 w → ⊥
    none w (directly h) = omega (arith, h.1)
    none w (through e h) = none _ e

-- A path that may not be left out is kept.
needed_path_is_kept : (kept : List (List ℕ)) → AreSome (λ path. ⊥) (codes "h" ∷ []) kept → Contains kept (codes "h")
needed_path_is_kept kept some = kept_or_left (some.all 0 [] (omega arith))
  where
    kept_or_left : Contains kept (codes "h") ⊎ ⊥ → Contains kept (codes "h")
    kept_or_left (inl h) = h
    kept_or_left (inr never) = absurd never

-- No path is kept that wasn't read.
other_path_is_not_kept : AreSome (λ path. ⊥) [] (codes "h" ∷ []) → ⊥
other_path_is_not_kept some = let h : Contains [] (codes "h") = some.some 0 [] (omega arith) in omega (arith, h.1)

malformed_depfile_names_nothing : paths_in (reply.Bytes (codes "no colon")) ≡ []
malformed_depfile_names_nothing = refl

missing_depfile_names_nothing : paths_in reply.Nothing ≡ []
missing_depfile_names_nothing = refl
