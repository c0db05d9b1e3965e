-- The code of an edge, from one fragment for each part of the rule. A fragment takes the code after it as its
-- last argument if a jump leads past it.
use Rattle.std.specs.Prelude.{ℕ, ◌+◌, Bool, true, false, not, ◌||◌, List, [], ◌∷◌, ◌++◌, length, Option, Some, None, Result, Ok, Err, nat_lt, if◌then◌else◌}
use Rattle.plan_image.specs.declared.body.Instr.{Instr}
use Rattle.plan_image.specs.declared.body.Instr.TheVariants as op
use Rattle.plan_image.specs.declared.maxima.TheConstants.{MAX_BODY}
use Rattle.plan_compile.specs.declared.fault.CompileFault.{CompileFault}
use Rattle.plan_compile.specs.declared.fault.CompileFault.TheVariants.{Limit}
use Rattle.plan_compile.specs.declared.baseline.Baseline.{Baseline}
use Rattle.plan_compile.specs.declared.baseline.Baseline.TheVariants.{Outputs, Basis, OutputsAndBasis}
use Rattle.plan_compile.specs.declared.layout.Input.{Input}
use Rattle.plan_compile.specs.declared.layout.Input.TheVariants.{File, Made}
use Rattle.plan_compile.specs.declared.layout.Output.{Output}
use Rattle.plan_compile.specs.declared.layout.CommandLayout.{CommandLayout}
use Rattle.plan_compile.specs.declared.layout.GatherLayout.{GatherLayout}
use Rattle.plan_compile.specs.declared.layout.EdgeLayout.{EdgeLayout}
use Rattle.plan_compile.specs.declared.layout.EdgeLayout.TheVariants.{Command, Gather, Alone}

-- ---- inputs

-- order-only source files must exist
abbrev pub order_code : List ℕ → List Instr
order_code [] = []
order_code (f ∷ fs) = op.Need f ∷ op.Drop ∷ order_code fs

-- a source file is asked for; the output of an edge has its stamp in a slot
abbrev pub input_code : Input → Instr
input_code (File f) = op.Need f
input_code (Made stamp changed) = op.Load stamp

-- the greatest of the stamp on the stack and the inputs' stamps
abbrev pub newer_code : List Input → List Instr
newer_code [] = []
newer_code (i ∷ is) = input_code i ∷ op.Newer ∷ newer_code is

-- the greatest stamp of the inputs
abbrev pub newest_code : List Input → List Instr
newest_code [] = op.Zero ∷ []
newest_code (i ∷ is) = input_code i ∷ newer_code is

-- whether the flag on the stack or one of these is set
abbrev pub or_code : List ℕ → List Instr
or_code [] = []
or_code (s ∷ ss) = op.Load s ∷ op.Or ∷ or_code ss

-- whether one of these flags is set
abbrev pub any_code : List ℕ → List Instr
any_code [] = op.Flag false ∷ []
any_code (s ∷ ss) = op.Load s ∷ or_code ss

abbrev pub is_source_file : Input → Bool
is_source_file (File f) = true
is_source_file (Made stamp changed) = false

abbrev pub has_source_file : List Input → Bool
has_source_file [] = false
has_source_file (i ∷ is) = is_source_file i || has_source_file is

-- ---- outputs

-- the stamps of the outputs' files, each in its slot
abbrev pub stat_code : List Output → List Instr
stat_code [] = []
stat_code (o ∷ os) = op.Stat o.file ∷ op.Store o.stamp ∷ stat_code os

-- the least of the stamp on the stack and the outputs' stamps
abbrev pub older_code : List Output → List Instr
older_code [] = []
older_code (o ∷ os) = op.Load o.stamp ∷ op.Older ∷ older_code os

-- the least stamp of the outputs
abbrev pub oldest_code : List Output → List Instr
oldest_code [] = op.Zero ∷ []
oldest_code (o ∷ os) = op.Load o.stamp ∷ older_code os

-- a flag for each of these outputs
abbrev pub flag_code : Bool → List Output → List Instr
flag_code b [] = []
flag_code b (o ∷ os) = op.Flag b ∷ op.Store o.changed ∷ flag_code b os

-- the outputs whose flag slots are set: the outputs of an edge that isn't restat share one slot
abbrev pub holders : (restat : Bool) → List Output → List Output
holders true os = os
holders false [] = []
holders false (o ∷ os) = o ∷ []

-- the new stamps, and whether they differ from the old ones
abbrev pub restat_code : List Output → List Instr
restat_code [] = []
restat_code (o ∷ os) =
    op.Load o.stamp ∷ op.Stat o.file ∷ op.Store o.stamp ∷ op.Load o.stamp ∷ op.Same ∷ op.Not ∷ op.Store o.changed ∷ restat_code os

-- the outputs after the command
abbrev pub after_code : (restat : Bool) → List Output → List Instr → List Instr
after_code true os rest = restat_code os ++ rest
after_code false os rest = stat_code os ++ (flag_code true (holders false os) ++ rest)

-- ---- a command edge up to its recorded entry

-- whether the recorded basis is compared
abbrev pub compares_basis : Baseline → Bool
compares_basis Outputs = false
compares_basis Basis = true
compares_basis OutputsAndBasis = true

-- Whether an output is missing or an input changed. An output is missing if the least stamp is 0. This isn't
-- tested if the baseline is no later than the oldest output and a source file is named: that source file is
-- newer than a missing output.
abbrev pub rerun_flag_code : (looks : Bool) → List Output → (flags : List ℕ) → List Instr
rerun_flag_code true os flags = oldest_code os ++ (op.IsMissing ∷ or_code flags)
rerun_flag_code false os flags = any_code flags

-- The values before the sweep, if no basis is compared: the oldest output's stamp as the baseline, the newest
-- input's stamp, and the rerun flag.
abbrev pub before_sweep_code : (basis : Bool) → CommandLayout → List Instr → List Instr
before_sweep_code true w rest = rest
before_sweep_code false w rest =
    oldest_code w.outputs ++ (op.Load w.newest ∷ (rerun_flag_code (not (has_source_file w.named)) w.outputs w.flags ++ rest))

-- the questions up to the entry
abbrev pub front : CommandLayout → List Instr → List Instr
front w rest =
    order_code w.order_only ++ (newest_code w.named ++ (op.Store w.newest ∷ (stat_code w.outputs ++ before_sweep_code (compares_basis w.baseline) w (op.Recall ∷ rest))))

-- ---- a command edge from its recorded entry on

-- Whether the recorded command is this text, given that command and whether there is an entry. Without an entry
-- the recorded command is empty, and so differs from every other command.
abbrev pub same_code : (blank : Bool) → ℕ → List Instr
same_code true t = op.Not ∷ op.Swap ∷ op.Text t ∷ op.Equal ∷ op.Not ∷ op.Or ∷ op.Not ∷ []
same_code false t = op.Drop ∷ op.Text t ∷ op.Equal ∷ []

-- from a baseline above the paths to the baseline, the newest input's stamp, the rerun flag and the paths
abbrev pub under_code : (looks : Bool) → CommandLayout → List Instr → List Instr
under_code looks w rest = op.Swap ∷ op.Load w.newest ∷ op.Swap ∷ (rerun_flag_code looks w.outputs w.flags ++ (op.Swap ∷ rest))

-- Prepares the sweep. The recorded basis is above the paths. It is dropped if it isn't compared. Otherwise it
-- is the baseline, or the earlier of it and the oldest output is.
abbrev pub ready_code : Baseline → CommandLayout → List Instr → List Instr
ready_code Outputs w rest = op.Drop ∷ rest
ready_code Basis w rest = under_code true w rest
ready_code OutputsAndBasis w rest = oldest_code w.outputs ++ (op.Older ∷ under_code (not (has_source_file w.named)) w rest)

abbrev pub ready_len : CommandLayout → ℕ
ready_len w = length (ready_code w.baseline w [])

-- the same if the edge is known to be dirty, with any stamp and any flag
abbrev pub skip_code : (basis : Bool) → List Instr → List Instr
skip_code true rest = op.Swap ∷ op.Zero ∷ op.Swap ∷ op.Flag false ∷ op.Swap ∷ rest
skip_code false rest = op.Drop ∷ rest

-- the depfile's paths, swept
abbrev pub deps_code : Option ℕ → List Instr
deps_code (Some t) = op.Flag false ∷ op.Text t ∷ op.Deps ∷ op.Sweep ∷ op.Swap ∷ op.Drop ∷ []
deps_code None = op.NoPaths ∷ []

-- from the request for a job token on
abbrev pub run_code : CommandLayout → List Instr
run_code w =
    op.Take ∷ op.Text w.command ∷ op.Run ∷ op.Release ∷ op.Text w.command ∷ op.Load w.newest
    ∷ (deps_code w.depfile ++ (op.Keep ∷ after_code w.restat w.outputs (op.End ∷ [])))

-- the same, with two values to drop first
abbrev pub dirty_code : CommandLayout → List Instr
dirty_code w = op.Drop ∷ op.Drop ∷ run_code w

-- the flags of a clean edge
abbrev pub clean_code : CommandLayout → List Instr
clean_code w = flag_code false (holders w.restat w.outputs)

abbrev pub clean_len : CommandLayout → ℕ
clean_len w = length (clean_code w)

-- From place `at` on: sweeps, compares, and ends if the edge is clean.
abbrev pub age_test_code : CommandLayout → (at : ℕ) → List Instr
age_test_code w at =
    op.Sweep ∷ op.Drop ∷ op.JumpIf (at + 6 + clean_len w) ∷ op.Before ∷ op.JumpIf (at + 8 + clean_len w)
    ∷ (clean_code w ++ (op.End ∷ dirty_code w))

-- the same, if it is known that the command is the recorded one
abbrev pub same_command_code : CommandLayout → (at : ℕ) → List Instr
same_command_code w at = ready_code w.baseline w (age_test_code w (at + ready_len w))

-- the place of the dirty code after that
abbrev pub dirty_place : CommandLayout → (at : ℕ) → ℕ
dirty_place w at = at + ready_len w + 6 + clean_len w

-- if the recorded command differs, the paths are swept nevertheless
abbrev pub other_code : CommandLayout → (dirty : ℕ) → List Instr → List Instr
other_code w dirty rest = skip_code (compares_basis w.baseline) (op.Sweep ∷ op.Drop ∷ op.Drop ∷ op.Jump dirty ∷ rest)

-- the place of the code after the comparison that decides whether the edge is dirty
abbrev pub same_place : CommandLayout → (at : ℕ) → ℕ
same_place w at = at + length (same_code w.blank w.command) + 1 + length (other_code w 0 [])

abbrev pub compare_code : CommandLayout → (at : ℕ) → List Instr
compare_code w at =
    same_code w.blank w.command
    ++ (op.JumpIf (same_place w at) ∷ other_code w (dirty_place w (same_place w at)) (same_command_code w (same_place w at)))

-- the place at which the baseline of a generator that compares the basis of its entry is known
abbrev pub known_place : CommandLayout → (at : ℕ) → ℕ
known_place w at = at + 4 + length (oldest_code w.outputs)

-- a generator doesn't compare the command; without an entry the baseline is the oldest output
abbrev pub pass_code : (basis : Bool) → CommandLayout → (at : ℕ) → List Instr
pass_code true w at =
    op.JumpIf (known_place w at) ∷ op.Drop ∷ op.Drop
    ∷ (oldest_code w.outputs ++ (op.Jump (known_place w at + 1) ∷ op.Drop ∷ same_command_code w (known_place w at + 1)))
pass_code false w at = op.Drop ∷ op.Drop ∷ same_command_code w (at + 2)

abbrev pub from_entry_code : (generator : Bool) → CommandLayout → (at : ℕ) → List Instr
from_entry_code true w at = pass_code (compares_basis w.baseline) w at
from_entry_code false w at = compare_code w at

abbrev pub command_code : CommandLayout → List Instr
command_code w = front w (from_entry_code w.generator w (length (front w [])))

-- ---- phonies

-- without inputs, each output has the stamp of its file
abbrev pub alone_code : List Output → List Instr
alone_code [] = op.End ∷ []
alone_code (o ∷ os) = op.Stat o.file ∷ op.Store o.stamp ∷ op.Load o.stamp ∷ op.IsMissing ∷ op.Store o.changed ∷ alone_code os

-- the greatest of the stamp on the stack and the stamps of the outputs' files
abbrev pub files_code : List Output → List Instr
files_code [] = []
files_code (o ∷ os) = op.Stat o.file ∷ op.Newer ∷ files_code os

-- the same, unless the files of a phony's outputs aren't asked for
abbrev pub own_files_code : Baseline → List Output → List Instr
own_files_code Outputs os = []
own_files_code Basis os = files_code os
own_files_code OutputsAndBasis os = files_code os

-- with inputs, all outputs have the newest stamp of the named ones and of their own files, and the flag of the named
-- ones
abbrev pub gather_code : GatherLayout → List Instr
gather_code g =
    order_code g.order_only
    ++ (newest_code g.named ++ (own_files_code g.baseline g.outputs ++ (op.Store g.stamp ∷ (any_code g.flags ++ (op.Store g.changed ∷ op.End ∷ [])))))

-- ---- any edge

abbrev pub code_of : EdgeLayout → List Instr
code_of (Command w) = command_code w
code_of (Gather g) = gather_code g
code_of (Alone outputs) = alone_code outputs

-- the code, unless it has more places than a body of an image may have
abbrev pub emitted : List Instr → Result (List Instr) CompileFault
emitted is = if nat_lt MAX_BODY (length is) then Err Limit else Ok is
