-- The edges that make the targets of a command line.
use Rattle.std.specs.Prelude.{ℕ, List, Option, Some, None, Result, Ok, Err}
use Rattle.plan_text.specs.Outcome.{each}
use Rattle.plan_text.specs.declared.fault.TextFault.{TextFault}
use Rattle.plan_text.specs.Path.{canonical_of}
use Rattle.plan_scope.specs.Scopes.{Text}
use Rattle.plan_image.specs.declared.image.Parts.{Parts}
use Rattle.plan_image.specs.Makers.{first_maker}
use Rattle.plan_printing.specs.declared.fault.PlanFault.{PlanFault}
use Rattle.plan_printing.specs.Faults.{unknown_target}

abbrev pub or_unknown : Text → Option ℕ → Result ℕ PlanFault
or_unknown name (Some edge) = Ok edge
or_unknown name None = Err (unknown_target name)

abbrev pub maker : Parts → Text → Result (List ℕ) TextFault → Result ℕ PlanFault
maker p name (Ok path) = or_unknown name (first_maker p path 0 p.edges)
maker p name (Err fault) = Err (unknown_target name)

-- The least edge that makes the file with this name, in canonical form. An empty name is unknown.
abbrev pub target : Parts → Text → Result ℕ PlanFault
target p name = maker p name (canonical_of name)

-- The edges that make the files with these names, in order, or the fault of the first name that no edge makes.
abbrev pub targets : Parts → List Text → Result (List ℕ) PlanFault
targets p names = each (target p) names
