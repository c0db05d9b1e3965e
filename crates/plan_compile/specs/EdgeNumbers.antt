-- The numbers of an edge's texts and of its pool.
use Rattle.std.specs.Prelude.{zero, Bool, true, false, List, [], None}
use Rattle.plan_scope.specs.Edge.{Edge as ManifestEdge}
use Rattle.plan_compile.specs.declared.numbers.Numbers.{Numbers}
use Rattle.plan_compile.specs.Builds.{Build}
use Rattle.plan_compile.specs.Names.{Text, text_number, depfile_number, or_command}

-- the numbers of an edge with a command
abbrev pub command_numbers : (texts pools : List Text) → ManifestEdge → Numbers
command_numbers texts pools e = record {
  label = text_number texts (or_command e.description e.command);
  command = text_number texts e.command;
  depfile = depfile_number texts e.depfile;
  pool = depfile_number pools e.pool;
}

-- a phony only has a label, which is empty
abbrev pub numbers_by : (phony : Bool) → (texts pools : List Text) → ManifestEdge → Numbers
numbers_by true texts pools e = record { label = text_number texts []; command = zero; depfile = None; pool = None }
numbers_by false texts pools e = command_numbers texts pools e

abbrev pub edge_numbers : (texts pools : List Text) → ManifestEdge → Numbers
edge_numbers texts pools e = numbers_by e.phony texts pools e

abbrev pub numbers_in : (texts pools : List Text) → Build → Numbers
numbers_in texts pools x = edge_numbers texts pools x.edge
