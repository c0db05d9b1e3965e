use Rattle.std.proofs.Common.{ap}
use Rattle.plan_graph.specs.declared.files.File.{File}
use Rattle.plan_graph.proofs.FilesLemmas.{file_numbered}
use Rattle.plan_graph.proofs.laws.producers_numbered.Goals as goal

pub returns : goal.returns
returns c files path = ap (λ (f : File). f.producer) (file_numbered files path)
