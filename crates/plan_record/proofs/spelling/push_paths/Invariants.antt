use Rattle.std.proofs.Common.{◌≡◌, ◌++◌, take}
use Rattle.std.specs.List.{flat_map, AllByRecursion}
use Rattle.plan_record.specs.Entries.{path_spelling, IsPath}
use Rattle.plan_record.proofs.spelling.push_paths.Given as goal

abbrev pub invariant-loop-path : goal.invariant-loop-path
invariant-loop-path l = record {
  pushed : l.bytes.items ≡ l.fn.bytes.items ++ flat_map path_spelling (take l.path-index l.paths);
  within : AllByRecursion IsPath (take l.path-index l.paths);
}
