-- The relation of the stricter out-of-date rule to the specified one.
use Rattle.std.specs.Prelude.{◌≡◌, ◌<◌, ◌≤◌, ℕ, true, false, List, ◌++◌, Option, Some}
use Rattle.plan_compile.specs.declared.baseline.OutOfDateRule.{OutOfDateRule}
use Rattle.plan_compile.specs.declared.baseline.OutOfDateRule.TheVariants.{Specified, Stricter}
use Rattle.plan_compile.specs.Rule.{Command, Recorded, baseline_by, greatest, least, some_missing, some_changed, is_dirty}

-- an edge under one of the rules, which differ only in its baseline
abbrev pub by_rule : OutOfDateRule → Command → Command
by_rule rule c = record {
  named = c.named;
  order_only = c.order_only;
  outputs = c.outputs;
  command = c.command;
  depfile = c.depfile;
  restat = c.restat;
  generator = c.generator;
  baseline = baseline_by c.restat c.generator rule;
}

-- An edge that is dirty by the specified rule is dirty by the stricter one.
abbrev pub StricterIsNoLaxer : Type 0
StricterIsNoLaxer =
    (c : Command) (named outputs : List ℕ) (entry : Option Recorded) (recorded : List ℕ)
    → is_dirty (by_rule Specified c) named outputs entry recorded ≡ true → is_dirty (by_rule Stricter c) named outputs entry recorded ≡ true

-- By the stricter rule, an edge that is neither restat nor a generator is dirty if a named input or a recorded
-- path is later than the basis of its entry, whatever stamps its outputs have.
abbrev pub ChangesAreSeen : Type 0
ChangesAreSeen =
    (c : Command) (named outputs : List ℕ) (entry : Recorded) (recorded : List ℕ) → c.restat ≡ false → c.generator ≡ false
    → entry.basis < greatest (named ++ recorded) → is_dirty (by_rule Stricter c) named outputs (Some entry) recorded ≡ true

-- An edge as its command left it: its command and the newest of its named inputs and recorded paths are those
-- of its entry, no input changed, no file is missing, and no output is older than the inputs and the paths.
pub record IsUnchanged (c : Command) (named outputs : List ℕ) (entry : Recorded) (recorded : List ℕ) : Type 0 where
  pub command : entry.command ≡ c.command
  pub basis : entry.basis ≡ greatest (named ++ recorded)
  pub inputs : some_changed c.named ≡ false
  pub outputs_exist : some_missing outputs ≡ false
  pub paths_exist : some_missing recorded ≡ false
  pub younger : greatest (named ++ recorded) ≤ least outputs

-- Such an edge is clean by both rules.
abbrev pub UnchangedIsClean : Type 0
UnchangedIsClean =
    (rule : OutOfDateRule) (c : Command) (named outputs : List ℕ) (entry : Recorded) (recorded : List ℕ)
    → IsUnchanged c named outputs entry recorded → is_dirty (by_rule rule c) named outputs (Some entry) recorded ≡ false
