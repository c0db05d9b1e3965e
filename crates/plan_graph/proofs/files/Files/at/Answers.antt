use Rattle.std.proofs.Common.{◌≡◌, ◌≤◌, ◌∙◌, List, ap, arith, get_or, length, sym}
use Rattle.std.proofs.lemmas.List.{get_or_past}
use Rattle.plan_graph.specs.declared.files.File.{File}
use Rattle.plan_graph.specs.Files.{file_at, unknown}
use Rattle.plan_graph.proofs.FilesLemmas.{not_below, table_at}
use Rattle.plan_graph.proofs.files.Files.at.Goals as goal

pub returns-in-Some : goal.returns-in-Some
returns-in-Some c =
    let n = c.args.number in
    let here = c.in-Some.ensures.lookup.3.1 unknown ∙ ap (λ (fs : List File). get_or fs n unknown) c.deref.ensures.value in
    sym (ap (file_at n) (sym c.self.view_is) ∙ (table_at (λ k. k.bytes.now) c.self.inside.paths.keys c.self.inside.known.items n c.self.invariant ∙ sym here))

pub returns-in-None : goal.returns-in-None
returns-in-None c =
    let n = c.args.number in
    let known = c.self.inside.known.items in
    let past : length c.deref.result.now ≤ n = not_below n (length c.deref.result.now) c.in-None.ensures.lookup.0 in
    let long : length c.deref.result.now ≡ length known = ap (λ (fs : List File). length fs) c.deref.ensures.value in
    sym (ap (file_at n) (sym c.self.view_is) ∙ (table_at (λ k. k.bytes.now) c.self.inside.paths.keys known n c.self.invariant ∙ get_or_past known n unknown (omega (arith, past, long))))
