use Rattle.std.proofs.Common.{◌∙◌, ap, length, sym}
use Rattle.plan_graph.specs.Files.{Table}
use Rattle.plan_graph.proofs.FilesLemmas.{table_length}
use Rattle.plan_graph.proofs.files.Files.len.Goals as goal

pub returns : goal.returns
returns c = c.len.ensures.len ∙ (sym (table_length (λ k. k.bytes.now) c.self.inside.paths.keys c.self.inside.known.items c.self.invariant) ∙ ap (λ (t : Table). length t) c.self.view_is)
