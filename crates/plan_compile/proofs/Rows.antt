-- The rule and the code, computed on worked examples.
use Rattle.std.proofs.Common.{◌≡◌, ℕ, zero, suc, Bool, true, false, List, [], ◌∷◌, Option, Some, None, refl, codes, subst, arith}
use Rattle.std.specs.Prelude.{Ok, ◌||◌, ◌==◌, map, slice_get}
use Rattle.plan_image.specs.declared.body.Kind.{Kind}
use Rattle.plan_image.specs.declared.body.Kind.TheVariants as kind
use Rattle.plan_image.specs.declared.image.Sort.TheVariants as sort
use Rattle.plan_image.specs.declared.image.Slot.{Slot}
use Rattle.plan_image.specs.declared.image.EdgeCode.TheVariants as form
use Rattle.plan_image.specs.declared.image.Parts.{Parts}
use Rattle.plan_image.specs.declared.image.Edge.{Edge}
use Rattle.plan_image.specs.declared.image.EdgeCode.{EdgeCode}
use Rattle.plan_scope.specs.Edge.{Edge as ManifestEdge}
use Rattle.plan_compile.specs.Builds.{Builds}
use Rattle.plan_compile.specs.Images.{image_of}
use Rattle.plan_image.specs.Code.{code}
use Rattle.plan_verify.specs.Shape.{table_refusal}
use Rattle.plan_verify.specs.WellShaped.{IsShapedEdge}
use Rattle.plan_image.specs.declared.body.Instr.{Instr}
use Rattle.plan_image.specs.declared.body.Instr.TheVariants as op
use Rattle.std.specs.List.{list_any}
use Rattle.plan_verify.specs.declared.value.Cause.TheVariants as cause
use Rattle.plan_verify.specs.declared.value.Value.{Value}
use Rattle.plan_verify.specs.Tables.{lent_by}
use Rattle.plan_verify.specs.Alone.{at_begin}
use Rattle.plan_verify.specs.Sound.{AreTyped, AreLentSet}
use Rattle.plan_verify.specs.Turn.{Slots, Stat, Recall, Run, Deps, Keep, StampIs, Entry, Nothing, Exit, Bytes, Kept, Meaning}
use Rattle.plan_compile.specs.declared.baseline.Baseline.TheVariants as baseline
use Rattle.plan_compile.specs.declared.baseline.OutOfDateRule.{OutOfDateRule}
use Rattle.plan_compile.specs.declared.baseline.OutOfDateRule.TheVariants.{Specified, Stricter}
use Rattle.plan_compile.specs.declared.layout.Input.TheVariants.{File, Made}
use Rattle.plan_compile.specs.declared.layout.Output.{Output}
use Rattle.plan_compile.specs.declared.layout.CommandLayout.{CommandLayout}
use Rattle.plan_compile.specs.declared.layout.GatherLayout.{GatherLayout}
use Rattle.plan_compile.specs.InteractionTree.{Over, Fail, Follows, Obeys}
use Rattle.plan_compile.specs.Rule.{Path, Command, SourceFile, baseline, baseline_by, runs, does, does_phony}
use Rattle.plan_compile.specs.Rule.{Made as MadeBy}
use Rattle.plan_compile.specs.Emit.{command_code, alone_code, gather_code}
use Rattle.plan_compile.specs.declared.layout.EdgeLayout.TheVariants as layout
use Rattle.plan_compile.specs.Means.{IsText, text_at, IsCommand, IsGather, IsAlone, CodeMeans, Leaves, command_of}
use Rattle.plan_compile.proofs.Edge.{command_means, phony_means}
use Rattle.plan_compile.proofs.EdgeShapes.{command_shaped, phony_shaped}

-- depfiles without paths
none_read : Meaning
none_read bytes = Ok []

-- ---- a restat chain: its first edge

src : Path
src = codes "src"

mid : Path
mid = codes "mid"

gen : Command
gen = record { named = SourceFile 0 src ∷ []; order_only = []; outputs = mid ∷ []; command = codes "sh gen.sh"; depfile = []; restat = true; generator = false; baseline = baseline.Basis }

-- it runs and leaves the old stamp: the output is unchanged, and the basis is the source file's stamp
gen_runs : Follows (does none_read gen)
    ((Stat src, StampIs 50) ∷ (Stat mid, StampIs 30) ∷ (Recall mid, Entry (codes "sh gen.sh") 20 []) ∷ (Run (codes "sh gen.sh") (mid ∷ []), Exit 0)
    ∷ (Keep mid (codes "sh gen.sh") 50 [], Kept) ∷ (Stat mid, StampIs 30) ∷ [])
    (Over true ((30, false) ∷ []))
unfolding gen none_read
gen_runs = (refl, (refl, (refl, (refl, (refl, (refl, refl))))))

-- its next run is clean
gen_clean : Follows (does none_read gen) ((Stat src, StampIs 50) ∷ (Stat mid, StampIs 30) ∷ (Recall mid, Entry (codes "sh gen.sh") 50 []) ∷ []) (Over false ((30, false) ∷ []))
unfolding gen none_read
gen_clean = (refl, (refl, (refl, refl)))

-- the edge that depends on it is clean if the input is unchanged
chained : Command
chained = record { named = MadeBy 30 false ∷ []; order_only = []; outputs = codes "out" ∷ []; command = codes "cp"; depfile = []; restat = false; generator = false; baseline = baseline.Outputs }

chained_clean : Follows (does none_read chained) ((Stat (codes "out"), StampIs 40) ∷ (Recall (codes "out"), Entry (codes "cp") 30 []) ∷ []) (Over false ((40, false) ∷ []))
unfolding chained none_read
chained_clean = (refl, (refl, refl))

-- a missing source file ends the questions
gen_fails : Follows (does none_read gen) ((Stat src, StampIs 0) ∷ []) (Fail (cause.MissingInput 0))
unfolding gen none_read
gen_fails = (refl, refl)

-- ---- the five causes, by an edge with a depfile that is clean otherwise

c_file : Path
c_file = codes "a.c"

object : Path
object = codes "a.o"

header : Path
header = codes "a.h"

cc_command : List ℕ
cc_command = codes "cc"

compiles : Command
compiles = record { named = SourceFile 1 c_file ∷ []; order_only = []; outputs = object ∷ []; command = cc_command; depfile = codes "a.d"; restat = false; generator = false; baseline = baseline.Outputs }

clean : Follows (does none_read compiles) ((Stat c_file, StampIs 5) ∷ (Stat object, StampIs 9) ∷ (Recall object, Entry cc_command 5 (header ∷ [])) ∷ (Stat header, StampIs 9) ∷ []) (Over false ((9, false) ∷ []))
unfolding compiles cc_command none_read
clean = (refl, (refl, (refl, (refl, refl))))

-- an output is missing
output_missing : Follows (does none_read compiles) ((Stat c_file, StampIs 5) ∷ (Stat object, StampIs 0) ∷ (Recall object, Entry cc_command 5 (header ∷ [])) ∷ (Stat header, StampIs 9) ∷ []) (runs none_read compiles (5 ∷ []) (0 ∷ []))
unfolding compiles cc_command none_read
output_missing = (refl, (refl, (refl, (refl, refl))))

-- there is no entry
no_entry : Follows (does none_read compiles) ((Stat c_file, StampIs 5) ∷ (Stat object, StampIs 9) ∷ (Recall object, Nothing) ∷ []) (runs none_read compiles (5 ∷ []) (9 ∷ []))
unfolding compiles cc_command none_read
no_entry = (refl, (refl, (refl, refl)))

-- the recorded command differs: the recorded paths are asked for nevertheless
other_command : Follows (does none_read compiles) ((Stat c_file, StampIs 5) ∷ (Stat object, StampIs 9) ∷ (Recall object, Entry (codes "cd") 5 (header ∷ [])) ∷ (Stat header, StampIs 9) ∷ []) (runs none_read compiles (5 ∷ []) (9 ∷ []))
unfolding compiles cc_command none_read
other_command = (refl, (refl, (refl, (refl, refl))))

-- a recorded path is missing
path_missing : Follows (does none_read compiles) ((Stat c_file, StampIs 5) ∷ (Stat object, StampIs 9) ∷ (Recall object, Entry cc_command 5 (header ∷ [])) ∷ (Stat header, StampIs 0) ∷ []) (runs none_read compiles (5 ∷ []) (9 ∷ []))
unfolding compiles cc_command none_read
path_missing = (refl, (refl, (refl, (refl, refl))))

-- a recorded path is later than the output
path_later : Follows (does none_read compiles) ((Stat c_file, StampIs 5) ∷ (Stat object, StampIs 9) ∷ (Recall object, Entry cc_command 5 (header ∷ [])) ∷ (Stat header, StampIs 10) ∷ []) (runs none_read compiles (5 ∷ []) (9 ∷ []))
unfolding compiles cc_command none_read
path_later = (refl, (refl, (refl, (refl, refl))))

-- the source file is later than the output
source_later : Follows (does none_read compiles) ((Stat c_file, StampIs 10) ∷ (Stat object, StampIs 9) ∷ (Recall object, Entry cc_command 5 []) ∷ []) (runs none_read compiles (10 ∷ []) (9 ∷ []))
unfolding compiles cc_command none_read
source_later = (refl, (refl, (refl, refl)))

-- ---- the stricter rule, by the same edge

strictly : OutOfDateRule → Command
strictly rule = record { named = SourceFile 1 c_file ∷ []; order_only = []; outputs = object ∷ []; command = cc_command; depfile = []; restat = false; generator = false; baseline = baseline_by false false rule }

-- The source file is later than the basis, and the output was touched after that: the edge is dirty only by the
-- stricter rule.
touched_dirty : Follows (does none_read (strictly Stricter)) ((Stat c_file, StampIs 7) ∷ (Stat object, StampIs 9) ∷ (Recall object, Entry cc_command 5 []) ∷ []) (runs none_read (strictly Stricter) (7 ∷ []) (9 ∷ []))
unfolding strictly cc_command none_read
touched_dirty = (refl, (refl, (refl, refl)))

touched_clean : Follows (does none_read (strictly Specified)) ((Stat c_file, StampIs 7) ∷ (Stat object, StampIs 9) ∷ (Recall object, Entry cc_command 5 []) ∷ []) (Over false ((9, false) ∷ []))
unfolding strictly cc_command none_read
touched_clean = (refl, (refl, (refl, refl)))

-- a source file that is no later than the basis leaves it clean
unchanged_clean : Follows (does none_read (strictly Stricter)) ((Stat c_file, StampIs 7) ∷ (Stat object, StampIs 9) ∷ (Recall object, Entry cc_command 7 []) ∷ []) (Over false ((9, false) ∷ []))
unfolding strictly cc_command none_read
unchanged_clean = (refl, (refl, (refl, refl)))

-- a source file that is later than the output makes it dirty by both rules, even if it is no later than the
-- basis
older_dirty : (rule : OutOfDateRule) → baseline (baseline_by false false rule) (6 ∷ []) (Some (record { command = cc_command; basis = 7; paths = [] })) ≡ 6
unfolding cc_command
older_dirty Specified = refl
older_dirty Stricter = refl

-- A restat edge has the basis, and a generator the oldest output, by both rules.
by_both_rules : (rule : OutOfDateRule) → (baseline_by true false rule ≡ baseline.Basis) × (baseline_by true true rule ≡ baseline.Basis) × (baseline_by false true rule ≡ baseline.Outputs)
by_both_rules rule = (refl, refl, refl)

-- an input is changed
changes : Command
changes = record { named = MadeBy 5 true ∷ []; order_only = []; outputs = object ∷ []; command = cc_command; depfile = []; restat = false; generator = false; baseline = baseline.Outputs }

input_changed : Follows (does none_read changes) ((Stat object, StampIs 9) ∷ (Recall object, Entry cc_command 5 []) ∷ []) (runs none_read changes (5 ∷ []) (9 ∷ []))
unfolding changes cc_command none_read
input_changed = (refl, (refl, refl))

-- a generator doesn't compare the command, and needs no entry
generates : Command
generates = record { named = SourceFile 1 c_file ∷ []; order_only = []; outputs = object ∷ []; command = cc_command; depfile = []; restat = false; generator = true; baseline = baseline.Outputs }

generator_clean : Follows (does none_read generates) ((Stat c_file, StampIs 5) ∷ (Stat object, StampIs 9) ∷ (Recall object, Nothing) ∷ []) (Over false ((9, false) ∷ []))
unfolding generates none_read
generator_clean = (refl, (refl, (refl, refl)))

-- after the command the depfile's paths are asked for, and recorded with the greatest stamp before the run
says_header : Meaning
says_header bytes = Ok (codes "a.h" ∷ [])

run_keeps : Follows (runs says_header compiles (5 ∷ []) (0 ∷ []))
    ((Run cc_command (object ∷ []), Exit 0) ∷ (Deps (codes "a.d"), Bytes []) ∷ (Stat header, StampIs 7) ∷ (Keep object cc_command 7 (header ∷ []), Kept) ∷ (Stat object, StampIs 20) ∷ [])
    (Over true ((20, true) ∷ []))
unfolding compiles cc_command says_header header
run_keeps = (refl, (refl, (refl, (refl, (refl, refl)))))

-- a command that fails makes the edge fail
run_fails : Follows (runs none_read compiles (5 ∷ []) (0 ∷ [])) ((Run cc_command (object ∷ []), Exit 3) ∷ []) (Fail (cause.Exit 3))
unfolding compiles cc_command none_read
run_fails = (refl, refl)

-- ---- order-only inputs: outputs of edges aren't asked for, nor are source files that are also named

ordered : Command
ordered = record {
  named = SourceFile 1 c_file ∷ [];
  order_only = MadeBy 8 true ∷ SourceFile 1 c_file ∷ SourceFile 2 header ∷ [];
  outputs = object ∷ [];
  command = cc_command;
  depfile = [];
  restat = false;
  generator = false;
  baseline = baseline.Outputs;
}

order_asks : Follows (does none_read ordered) ((Stat header, StampIs 99) ∷ (Stat c_file, StampIs 5) ∷ (Stat object, StampIs 9) ∷ (Recall object, Entry cc_command 5 []) ∷ []) (Over false ((9, false) ∷ []))
unfolding ordered cc_command none_read
order_asks = (refl, (refl, (refl, (refl, refl))))

-- ---- phonies

always : Command
always = record { named = []; order_only = []; outputs = codes "always" ∷ []; command = []; depfile = []; restat = false; generator = false; baseline = baseline.Outputs }

-- a phony without inputs whose file is missing is changed
always_changed : Follows (does_phony always) ((Stat (codes "always"), StampIs 0) ∷ []) (Over false ((0, true) ∷ []))
unfolding always
always_changed = (refl, refl)

user : Command
user = record { named = MadeBy 0 true ∷ []; order_only = []; outputs = codes "x" ∷ []; command = codes "true"; depfile = []; restat = false; generator = false; baseline = baseline.Outputs }

-- so the edge that depends on it runs each time
user_runs : Follows (does none_read user)
    ((Stat (codes "x"), StampIs 9) ∷ (Recall (codes "x"), Entry (codes "true") 0 []) ∷ (Run (codes "true") (codes "x" ∷ []), Exit 0) ∷ (Keep (codes "x") (codes "true") 0 [], Kept) ∷ (Stat (codes "x"), StampIs 9) ∷ [])
    (Over true ((9, true) ∷ []))
unfolding user none_read
user_runs = (refl, (refl, (refl, (refl, (refl, refl)))))

-- by the specified rule, a phony with inputs has their stamp and flag, and asks for none of its outputs
gathers_both : Command
gathers_both = record { named = MadeBy 8 true ∷ SourceFile 1 c_file ∷ []; order_only = []; outputs = codes "all" ∷ []; command = []; depfile = []; restat = false; generator = false; baseline = baseline.Outputs }

gathered : Follows (does_phony gathers_both) ((Stat c_file, StampIs 5) ∷ []) (Over false ((8, true) ∷ []))
unfolding gathers_both
gathered = (refl, refl)

-- by the stricter rule it asks for the files of its outputs, and has the stamp of the latest
gathers_files : Command
gathers_files = record {
  named = MadeBy 8 true ∷ SourceFile 1 c_file ∷ [];
  order_only = [];
  outputs = header ∷ object ∷ [];
  command = [];
  depfile = [];
  restat = false;
  generator = false;
  baseline = baseline_by false false Stricter;
}

later_file_counts : Follows (does_phony gathers_files) ((Stat c_file, StampIs 5) ∷ (Stat header, StampIs 9) ∷ (Stat object, StampIs 6) ∷ []) (Over false ((9, true) ∷ (9, true) ∷ []))
unfolding gathers_files
later_file_counts = (refl, (refl, (refl, refl)))

-- files that are older or missing change nothing
older_file_counts_for_nothing : Follows (does_phony gathers_files) ((Stat c_file, StampIs 5) ∷ (Stat header, StampIs 0) ∷ (Stat object, StampIs 6) ∷ []) (Over false ((8, true) ∷ (8, true) ∷ []))
unfolding gathers_files
older_file_counts_for_nothing = (refl, (refl, (refl, refl)))

-- a header that a command writes beside its own output: an edit of it is seen, since the phony has its stamp
uses_header : Command
uses_header = record { named = MadeBy 9 false ∷ []; order_only = []; outputs = object ∷ []; command = cc_command; depfile = []; restat = false; generator = false; baseline = baseline.OutputsAndBasis }

edit_of_header : Follows (does none_read uses_header) ((Stat object, StampIs 8) ∷ (Recall object, Entry cc_command 7 []) ∷ []) (runs none_read uses_header (9 ∷ []) (8 ∷ []))
unfolding uses_header cc_command none_read
edit_of_header = (refl, (refl, refl))

-- a phony whose only input is order-only and produced by an edge has an input
only_ordered : Command
only_ordered = record { named = []; order_only = MadeBy 8 true ∷ []; outputs = codes "all" ∷ []; command = []; depfile = []; restat = false; generator = false; baseline = baseline.Outputs }

ordered_gathers : Follows (does_phony only_ordered) [] (Over false ((0, false) ∷ []))
unfolding only_ordered
ordered_gathers = refl

-- ---- code

-- one source file, one output, a depfile
compiled : CommandLayout
compiled = record {
  named = File 1 ∷ [];
  order_only = [];
  outputs = record { file = 0; stamp = 0; changed = 1 } ∷ [];
  flags = [];
  newest = 2;
  command = 0;
  blank = false;
  depfile = Some 1;
  restat = false;
  generator = false;
  baseline = baseline.Outputs;
}

compiled_code : command_code compiled ≡
    op.Need 1 ∷ op.Store 2 ∷ op.Stat 0 ∷ op.Store 0 ∷ op.Load 0 ∷ op.Load 2 ∷ op.Flag false ∷ op.Recall
    ∷ op.Drop ∷ op.Text 0 ∷ op.Equal ∷ op.JumpIf 17 ∷ op.Drop ∷ op.Sweep ∷ op.Drop ∷ op.Drop ∷ op.Jump 26
    ∷ op.Drop ∷ op.Sweep ∷ op.Drop ∷ op.JumpIf 26 ∷ op.Before ∷ op.JumpIf 28 ∷ op.Flag false ∷ op.Store 1 ∷ op.End
    ∷ op.Drop ∷ op.Drop
    ∷ op.Take ∷ op.Text 0 ∷ op.Run ∷ op.Release ∷ op.Text 0 ∷ op.Load 2 ∷ op.Flag false ∷ op.Text 1 ∷ op.Deps ∷ op.Sweep ∷ op.Swap ∷ op.Drop ∷ op.Keep
    ∷ op.Stat 0 ∷ op.Store 0 ∷ op.Flag true ∷ op.Store 1 ∷ op.End ∷ []
unfolding compiled
compiled_code = refl

-- two inputs of one producer, two outputs, an order-only source file
linked : CommandLayout
linked = record {
  named = Made 0 1 ∷ Made 2 1 ∷ [];
  order_only = 4 ∷ [];
  outputs = record { file = 0; stamp = 3; changed = 4 } ∷ record { file = 1; stamp = 5; changed = 4 } ∷ [];
  flags = 1 ∷ [];
  newest = 6;
  command = 0;
  blank = false;
  depfile = None;
  restat = false;
  generator = false;
  baseline = baseline.Outputs;
}

linked_code : command_code linked ≡
    op.Need 4 ∷ op.Drop ∷ op.Load 0 ∷ op.Load 2 ∷ op.Newer ∷ op.Store 6 ∷ op.Stat 0 ∷ op.Store 3 ∷ op.Stat 1 ∷ op.Store 5
    ∷ op.Load 3 ∷ op.Load 5 ∷ op.Older ∷ op.Load 6 ∷ op.Load 3 ∷ op.Load 5 ∷ op.Older ∷ op.IsMissing ∷ op.Load 1 ∷ op.Or ∷ op.Recall
    ∷ op.Drop ∷ op.Text 0 ∷ op.Equal ∷ op.JumpIf 30 ∷ op.Drop ∷ op.Sweep ∷ op.Drop ∷ op.Drop ∷ op.Jump 39
    ∷ op.Drop ∷ op.Sweep ∷ op.Drop ∷ op.JumpIf 39 ∷ op.Before ∷ op.JumpIf 41 ∷ op.Flag false ∷ op.Store 4 ∷ op.End
    ∷ op.Drop ∷ op.Drop
    ∷ op.Take ∷ op.Text 0 ∷ op.Run ∷ op.Release ∷ op.Text 0 ∷ op.Load 6 ∷ op.NoPaths ∷ op.Keep
    ∷ op.Stat 0 ∷ op.Store 3 ∷ op.Stat 1 ∷ op.Store 5 ∷ op.Flag true ∷ op.Store 4 ∷ op.End ∷ []
unfolding linked
linked_code = refl

-- a restat edge
restated : CommandLayout
restated = record {
  named = File 1 ∷ [];
  order_only = [];
  outputs = record { file = 0; stamp = 0; changed = 1 } ∷ [];
  flags = [];
  newest = 2;
  command = 0;
  blank = false;
  depfile = None;
  restat = true;
  generator = false;
  baseline = baseline.Basis;
}

restated_code : command_code restated ≡
    op.Need 1 ∷ op.Store 2 ∷ op.Stat 0 ∷ op.Store 0 ∷ op.Recall ∷ op.Drop ∷ op.Text 0 ∷ op.Equal ∷ op.JumpIf 18
    ∷ op.Swap ∷ op.Zero ∷ op.Swap ∷ op.Flag false ∷ op.Swap ∷ op.Sweep ∷ op.Drop ∷ op.Drop ∷ op.Jump 32
    ∷ op.Swap ∷ op.Load 2 ∷ op.Swap ∷ op.Load 0 ∷ op.IsMissing ∷ op.Swap
    ∷ op.Sweep ∷ op.Drop ∷ op.JumpIf 32 ∷ op.Before ∷ op.JumpIf 34 ∷ op.Flag false ∷ op.Store 1 ∷ op.End
    ∷ op.Drop ∷ op.Drop ∷ op.Take ∷ op.Text 0 ∷ op.Run ∷ op.Release ∷ op.Text 0 ∷ op.Load 2 ∷ op.NoPaths ∷ op.Keep
    ∷ op.Load 0 ∷ op.Stat 0 ∷ op.Store 0 ∷ op.Load 0 ∷ op.Same ∷ op.Not ∷ op.Store 1 ∷ op.End ∷ []
unfolding restated
restated_code = refl

-- an edge that compares both, with two outputs and no source file
joined : CommandLayout
joined = record {
  named = Made 0 1 ∷ [];
  order_only = [];
  outputs = record { file = 0; stamp = 2; changed = 3 } ∷ record { file = 1; stamp = 4; changed = 3 } ∷ [];
  flags = 1 ∷ [];
  newest = 5;
  command = 0;
  blank = false;
  depfile = None;
  restat = false;
  generator = false;
  baseline = baseline.OutputsAndBasis;
}

joined_code : command_code joined ≡
    op.Load 0 ∷ op.Store 5 ∷ op.Stat 0 ∷ op.Store 2 ∷ op.Stat 1 ∷ op.Store 4 ∷ op.Recall ∷ op.Drop ∷ op.Text 0 ∷ op.Equal ∷ op.JumpIf 20
    ∷ op.Swap ∷ op.Zero ∷ op.Swap ∷ op.Flag false ∷ op.Swap ∷ op.Sweep ∷ op.Drop ∷ op.Drop ∷ op.Jump 42
    ∷ op.Load 2 ∷ op.Load 4 ∷ op.Older ∷ op.Older
    ∷ op.Swap ∷ op.Load 5 ∷ op.Swap ∷ op.Load 2 ∷ op.Load 4 ∷ op.Older ∷ op.IsMissing ∷ op.Load 1 ∷ op.Or ∷ op.Swap
    ∷ op.Sweep ∷ op.Drop ∷ op.JumpIf 42 ∷ op.Before ∷ op.JumpIf 44 ∷ op.Flag false ∷ op.Store 3 ∷ op.End
    ∷ op.Drop ∷ op.Drop ∷ op.Take ∷ op.Text 0 ∷ op.Run ∷ op.Release ∷ op.Text 0 ∷ op.Load 5 ∷ op.NoPaths ∷ op.Keep
    ∷ op.Stat 0 ∷ op.Store 2 ∷ op.Stat 1 ∷ op.Store 4 ∷ op.Flag true ∷ op.Store 3 ∷ op.End ∷ []
unfolding joined
joined_code = refl

-- the same as a generator
regenerated : CommandLayout
regenerated = record {
  named = File 1 ∷ [];
  order_only = [];
  outputs = record { file = 0; stamp = 0; changed = 1 } ∷ [];
  flags = [];
  newest = 2;
  command = 0;
  blank = true;
  depfile = None;
  restat = true;
  generator = true;
  baseline = baseline.Basis;
}

regenerated_code : command_code regenerated ≡
    op.Need 1 ∷ op.Store 2 ∷ op.Stat 0 ∷ op.Store 0 ∷ op.Recall
    ∷ op.JumpIf 10 ∷ op.Drop ∷ op.Drop ∷ op.Load 0 ∷ op.Jump 11 ∷ op.Drop
    ∷ op.Swap ∷ op.Load 2 ∷ op.Swap ∷ op.Load 0 ∷ op.IsMissing ∷ op.Swap
    ∷ op.Sweep ∷ op.Drop ∷ op.JumpIf 25 ∷ op.Before ∷ op.JumpIf 27 ∷ op.Flag false ∷ op.Store 1 ∷ op.End
    ∷ op.Drop ∷ op.Drop ∷ op.Take ∷ op.Text 0 ∷ op.Run ∷ op.Release ∷ op.Text 0 ∷ op.Load 2 ∷ op.NoPaths ∷ op.Keep
    ∷ op.Load 0 ∷ op.Stat 0 ∷ op.Store 0 ∷ op.Load 0 ∷ op.Same ∷ op.Not ∷ op.Store 1 ∷ op.End ∷ []
unfolding regenerated
regenerated_code = refl

-- phonies of each sort
alone_row : alone_code (record { file = 7; stamp = 0; changed = 1 } ∷ []) ≡ op.Stat 7 ∷ op.Store 0 ∷ op.Load 0 ∷ op.IsMissing ∷ op.Store 1 ∷ op.End ∷ []
alone_row = refl

gathering : GatherLayout
gathering = record { named = File 3 ∷ Made 0 1 ∷ []; order_only = 4 ∷ []; outputs = record { file = 7; stamp = 2; changed = 3 } ∷ []; flags = 1 ∷ []; stamp = 2; changed = 3; baseline = baseline.Outputs }

gather_row : gather_code gathering ≡ op.Need 4 ∷ op.Drop ∷ op.Need 3 ∷ op.Load 0 ∷ op.Newer ∷ op.Store 2 ∷ op.Load 1 ∷ op.Store 3 ∷ op.End ∷ []
unfolding gathering
gather_row = refl

-- the same by the stricter rule, with two outputs
looking : GatherLayout
looking = record {
  named = File 3 ∷ Made 0 1 ∷ [];
  order_only = 4 ∷ [];
  outputs = record { file = 7; stamp = 2; changed = 3 } ∷ record { file = 8; stamp = 2; changed = 3 } ∷ [];
  flags = 1 ∷ [];
  stamp = 2;
  changed = 3;
  baseline = baseline.OutputsAndBasis;
}

looking_row : gather_code looking ≡
    op.Need 4 ∷ op.Drop ∷ op.Need 3 ∷ op.Load 0 ∷ op.Newer ∷ op.Stat 7 ∷ op.Newer ∷ op.Stat 8 ∷ op.Newer ∷ op.Store 2 ∷ op.Load 1 ∷ op.Store 3 ∷ op.End ∷ []
unfolding looking
looking_row = refl

ordering : GatherLayout
ordering = record { named = []; order_only = []; outputs = record { file = 7; stamp = 2; changed = 3 } ∷ []; flags = []; stamp = 2; changed = 3; baseline = baseline.Outputs }

ordering_row : gather_code ordering ≡ op.Zero ∷ op.Store 2 ∷ op.Flag false ∷ op.Store 3 ∷ op.End ∷ []
unfolding ordering
ordering_row = refl

-- ---- an image with an edge of each sort: what the laws ask of an edge can be met

outputs_alone : List Output
outputs_alone = record { file = 2; stamp = 3; changed = 4 } ∷ []

gathers_all : GatherLayout
gathers_all = record { named = Made 0 1 ∷ File 1 ∷ Made 3 4 ∷ []; order_only = []; outputs = record { file = 3; stamp = 5; changed = 6 } ∷ []; flags = 4 ∷ 1 ∷ []; stamp = 5; changed = 6; baseline = baseline.OutputsAndBasis }

slot_of : ℕ → Kind → Slot
slot_of e k = record { owner = e; kind = k }

image : Parts
image = record {
  texts = codes "cc" ∷ codes "d" ∷ [];
  files = codes "o" ∷ codes "s" ∷ codes "force" ∷ codes "all" ∷ [];
  pools = [];
  slots = slot_of 0 kind.Stamp ∷ slot_of 0 kind.Flag ∷ slot_of 0 kind.Stamp ∷ slot_of 1 kind.Stamp ∷ slot_of 1 kind.Flag ∷ slot_of 2 kind.Stamp ∷ slot_of 2 kind.Flag ∷ [];
  bodies = None;
  edges = record { sort = sort.Command; pool = None; rank = 0; label = 0; outputs = 0 ∷ []; waits = []; code = form.Own (command_code compiled) }
      ∷ record { sort = sort.Phony; pool = None; rank = 0; label = 0; outputs = 2 ∷ []; waits = []; code = form.Own (alone_code outputs_alone) }
      ∷ record { sort = sort.Phony; pool = None; rank = 1; label = 0; outputs = 3 ∷ []; waits = 0 ∷ 1 ∷ []; code = form.Own (gather_code gathers_all) } ∷ [];
  defaults = 2 ∷ [];
}

compiled_laid_out : IsCommand image 0 compiled
unfolding image compiled slot_of
compiled_laid_out = record {
  named = (refl, tt);
  order_only = tt;
  outputs = ((refl, (refl, refl), (refl, refl)), tt);
  files = refl;
  some = λ none. absurd cc;
  apart = (tt, tt);
  changed = tt;
  flags = λ s. refl;
  newest = ((refl, refl), ((λ e. omega (arith, e)), tt));
  own = refl;
  command = (refl, λ is none. absurd cc);
  depfile = λ t h. let e : 1 ≡ t = cc in subst (λ (n : ℕ). IsText image n × (text_at image n ≡ [] → ⊥)) e (refl, λ none. absurd cc);
  pool = refl;
}

alone_laid_out : IsAlone image 1 outputs_alone
unfolding image outputs_alone slot_of
alone_laid_out = record { outputs = ((refl, (refl, refl), (refl, refl)), tt); apart = (tt, tt); flags = (tt, tt); own = refl }

gather_laid_out : IsGather image 2 gathers_all
unfolding image gathers_all slot_of
gather_laid_out = record {
  named = (((refl, refl, refl), (refl, refl, refl)), (refl, (((refl, refl, refl), (refl, refl, refl)), tt)));
  order_only = tt;
  flags = λ s. turned (4 == s) (1 == s);
  files = (refl, tt);
  share = (refl, refl, tt);
  stamp = (refl, refl);
  changed = (refl, refl);
  own = refl;
} where
  turned : (a b : Bool) → (a || (b || false)) ≡ (b || (a || false))
  turned true true = refl
  turned true false = refl
  turned false b = refl

compiled_code_is : code image 0 ≡ command_code compiled
unfolding image
compiled_code_is = refl

alone_code_is : code image 1 ≡ alone_code outputs_alone
unfolding image
alone_code_is = refl

gather_code_is : code image 2 ≡ gather_code gathers_all
unfolding image
gather_code_is = refl

tables_right : (table_refusal image 0 ≡ None) × (table_refusal image 1 ≡ None) × (table_refusal image 2 ≡ None)
unfolding table_refusal image slot_of
tables_right = (refl, refl, refl)

-- the verifier accepts it
all_shaped : IsShapedEdge image 0 × IsShapedEdge image 1 × IsShapedEdge image 2
all_shaped = (
  command_shaped image 0 compiled compiled_code_is compiled_laid_out tables_right.0,
  phony_shaped.alone image 1 outputs_alone alone_code_is alone_laid_out tables_right.1,
  phony_shaped.gather image 2 gathers_all gather_code_is gather_laid_out tables_right.2,
)

-- its edges follow the rule
compiled_means : CodeMeans image 0 (layout.Command compiled)
compiled_means = command_means image 0 compiled compiled_code_is compiled_laid_out

gathered_means : CodeMeans image 2 (layout.Gather gathers_all)
gathered_means = phony_means.gather image 2 gathers_all gather_code_is gather_laid_out

-- with no slot set, as when the first edge begins
abbrev unset : ℕ → Slots
unset zero = []
unset (suc n) = None ∷ unset n

none_is_set : (n s : ℕ) (v : Value) → slice_get (unset n) s ≡ Some (Some v) → ⊥
none_is_set zero s v h = absurd cc
none_is_set (suc n) zero v h = absurd cc
none_is_set (suc n) (suc s) v h = none_is_set n s v h

unset_typed : AreTyped image (unset 7)
unfolding image
unset_typed = record { table = refl; kinds = λ s v h. absurd (none_is_set 7 s v h) }

none_lent : (o : Option Slot) → lent_by [] o ≡ true → ⊥
none_lent (Some slot) h = absurd cc
none_lent None h = absurd cc

unset_lent : AreLentSet image 0 (unset 7)
unfolding image
unset_lent s h = absurd (none_lent (slice_get image.slots s) h)

compiled_keeps : Obeys none_read image 0 (Leaves compiled.outputs) (at_begin (unset 7)) (does none_read (command_of image (unset 7) compiled []))
unfolding compiled
compiled_keeps = compiled_means none_read (unset 7) [] unset_typed unset_lent refl

-- ---- the image of a manifest

body_number : Edge → Option ℕ
body_number e = by_form e.code where
  by_form : EdgeCode → Option ℕ
  by_form (form.Shared body operands) = Some body
  by_form (form.Own is) = None

abbrev manifest_edge : (command description depfile : Path) → (phony : Bool) → (pool : Path) → ManifestEdge
manifest_edge command description depfile phony pool = record {
  paths = record { outputs = []; implicit_outputs = []; inputs = []; implicit_inputs = []; order_only_inputs = [] };
  command = command;
  description = description;
  depfile = depfile;
  deps = false;
  restat = false;
  generator = false;
  phony = phony;
  pool = pool;
}

asks_for : ℕ → Instr → Bool
asks_for f (op.Stat file) = file == f
asks_for f (op.Need file) = file == f
asks_for f _ = false

-- two edges of one rule, each with one source file, and a phony of both
two_of_a_rule : Builds
two_of_a_rule = record {
  files = codes "a.o" ∷ codes "a.c" ∷ codes "b.o" ∷ codes "b.c" ∷ codes "all" ∷ [];
  edges =
      record { edge = manifest_edge (codes "cc a.c") (codes "CC a.o") [] false (codes "link"); outputs = 0 ∷ []; named = 1 ∷ []; order_only = []; waits = []; rank = 0; baseline = baseline.Outputs }
      ∷ record { edge = manifest_edge (codes "cc b.c") [] [] false (codes "link"); outputs = 2 ∷ []; named = 3 ∷ []; order_only = []; waits = []; rank = 0; baseline = baseline.Outputs }
      ∷ record { edge = manifest_edge [] [] [] true []; outputs = 4 ∷ []; named = 0 ∷ 2 ∷ []; order_only = []; waits = 0 ∷ 1 ∷ []; rank = 1; baseline = baseline.Outputs } ∷ [];
  pools = record { name = codes "console"; depth = 1 } ∷ record { name = codes "link"; depth = 2 } ∷ [];
  defaults = 2 ∷ [];
}

-- one body serves both; texts and pools are in the order of first use, without repetitions
texts_of_two : (image_of two_of_a_rule).texts ≡ codes "CC a.o" ∷ codes "cc a.c" ∷ codes "cc b.c" ∷ [] ∷ []
unfolding two_of_a_rule
texts_of_two = refl

pools_of_two : (image_of two_of_a_rule).pools ≡ record { name = codes "link"; depth = 2 } ∷ []
unfolding two_of_a_rule
pools_of_two = refl

one_body : map body_number (image_of two_of_a_rule).edges ≡ Some 0 ∷ Some 0 ∷ Some 1 ∷ []
unfolding two_of_a_rule body_number
one_body = refl

labels_of_two : map (λ e. e.label) (image_of two_of_a_rule).edges ≡ 0 ∷ 2 ∷ 3 ∷ []
unfolding two_of_a_rule
labels_of_two = refl

places_of_two : map (λ e. e.pool) (image_of two_of_a_rule).edges ≡ Some 0 ∷ Some 0 ∷ None ∷ []
unfolding two_of_a_rule
places_of_two = refl

-- an order-only input that edge 0 produces: the edge waits for it, and asks nothing about that file
waits_for_it : Builds
waits_for_it = record {
  files = codes "gen.h" ∷ codes "a.o" ∷ codes "a.c" ∷ [];
  edges =
      record { edge = manifest_edge (codes "gen") [] [] false []; outputs = 0 ∷ []; named = []; order_only = []; waits = []; rank = 0; baseline = baseline.Outputs }
      ∷ record { edge = manifest_edge (codes "cc") [] [] false []; outputs = 1 ∷ []; named = 2 ∷ []; order_only = 0 ∷ []; waits = 0 ∷ []; rank = 1; baseline = baseline.Outputs } ∷ [];
  pools = [];
  defaults = 1 ∷ [];
}

waits_of_it : map (λ e. e.waits) (image_of waits_for_it).edges ≡ [] ∷ (0 ∷ []) ∷ []
unfolding waits_for_it
waits_of_it = refl

asks_nothing_of_it : list_any (λ i. asks_for 0 i) (code (image_of waits_for_it) 1) ≡ false
unfolding waits_for_it asks_for
asks_nothing_of_it = refl
