-- Worked examples: a phony edge without inputs, and a build without targets.
use Rattle.std.proofs.Common.{ℕ, true, false, [], ◌∷◌, Some, refl}
use Rattle.plan_scope.specs.declared.manifest.Manifest.{Manifest}
use Rattle.plan_graph.specs.declared.graph_data.Graph.{Graph}
use Rattle.plan_verify.specs.Turn.{Stat, StampIs}
use Rattle.plan_compile.specs.Builds.{Build}
use Rattle.plan_compile.specs.declared.baseline.Baseline.TheVariants.{OutputsAndBasis}
use Rattle.plan_machine.specs.declared.event.reply.Reply.TheVariants.{Stamp}
use Rattle.plan_lanes.specs.Journals.{Rule}
use Rattle.plan_scan.specs.Scans.{HasNothingToDo, IsUpToDate, IsWanted, is_target, is_waited}

-- The world may reply anything.
abbrev anything : Rule
anything number question reply = Unit {0}

-- The graph of `build a: phony`.
abbrev graph_of_a : Graph
graph_of_a = record {
  files = (97 ∷ [], record { producer = Some 0; is_used = false }) ∷ [];
  outputs = (0 ∷ []) ∷ [];
  inputs = [] ∷ [];
  waits = [] ∷ [];
  ranks = 0 ∷ [];
  defaults = 0 ∷ [];
}

abbrev edge_of_a : Build
edge_of_a = record {
  edge = record {
    paths = record { outputs = (97 ∷ []) ∷ []; implicit_outputs = []; inputs = []; implicit_inputs = []; order_only_inputs = [] };
    command = [];
    description = [];
    depfile = [];
    deps = false;
    restat = false;
    generator = false;
    phony = true;
    pool = [];
  };
  outputs = 0 ∷ [];
  named = [];
  order_only = [];
  waits = [];
  rank = 0;
  baseline = OutputsAndBasis;
}

-- Its file has the stamp 7: the edge leaves that stamp, unchanged.
pub phony_has_its_own_stamp : IsUpToDate anything graph_of_a (record { stamp = 7; changed = false } ∷ []) edge_of_a
phony_has_its_own_stamp = record { conversation = (Stat (97 ∷ []), StampIs 7) ∷ []; allowed = ((Stamp 7, refl, (0, tt)), tt); follows = (refl, refl) }

-- Its file is missing: the edge leaves the stamp 0, and counts as changed.
pub missing_phony_is_changed : IsUpToDate anything graph_of_a (record { stamp = 0; changed = true } ∷ []) edge_of_a
missing_phony_is_changed = record { conversation = (Stat (97 ∷ []), StampIs 0) ∷ []; allowed = ((Stamp 0, refl, (0, tt)), tt); follows = (refl, refl) }

nothing_is_wanted : (g : Graph) (e : ℕ) → IsWanted g [] e → ⊥
nothing_is_wanted g e (is_target is) = absurd cc
nothing_is_wanted g w (is_waited {e} wants waits) = nothing_is_wanted g e wants

-- Without targets nothing is to do.
pub no_targets_have_nothing_to_do : (rule : Rule) (m : Manifest) (g : Graph) → HasNothingToDo rule m g []
no_targets_have_nothing_to_do rule m g = record { found = []; clean = λ e x wants is. absurd (nothing_is_wanted g e wants) }
