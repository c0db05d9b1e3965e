use Rattle.std.proofs.Common.{◌≡◌, ◌∙◌, Bool, ap, not, sym}
use Rattle.std.specs.Prelude.{◌||◌}
use Rattle.plan_graph.specs.declared.files.File.{File}
use Rattle.plan_graph.specs.Files.{file_of, with_file}
use Rattle.plan_graph.specs.Reading.{is_own, with_use}
use Rattle.plan_graph.proofs.FilesLemmas.{file_there, known_there}
use Rattle.plan_graph.proofs.EdgeReaderLemmas.{okay, used_stays}
use Rattle.plan_graph.proofs.edge_reader.with_input.Goals as goal

pub returns-then-file-clause-table : goal.returns-then-file-clause-table
returns-then-file-clause-table c =
    let files = c.args.files.now in
    let path = c.args.path.now in
    let there = c.at-file.ensures ∙ file_there files c.intern.new.self path c.in_ok-at.at c.in_ok-at.ensures.table c.in_ok-at.ensures.number in
    ap okay (ap (with_file files path) (used_stays c.args.own (file_of path files) (ap (λ (f : File). f.is_used) (sym there) ∙ c.if-file.true)) ∙ sym c.in_ok-at.ensures.table)

pub returns-clause-table : goal.returns-clause-table
returns-clause-table c =
    let files = c.args.files.now in
    let path = c.args.path.now in
    let own = c.args.own in
    let file = c.at-file.result in
    let there = c.at-file.ensures ∙ file_there files c.intern.new.self path c.in_ok-at.at c.in_ok-at.ensures.table c.in_ok-at.ensures.number in
    let new : File = record { producer = file.producer; is_used = not c.is_own.result } in
    let written : with_use own (file_of path files) ≡ new
    = ap (with_use own) (sym there)
    ∙ (ap (λ (b : Bool). record { producer = file.producer; is_used = b || not (is_own file.producer own) }) c.if-file.false ∙ ap (λ (b : Bool). record { producer = file.producer; is_used = not b }) (sym c.is_own.ensures)) in
    ap okay (ap (with_file files path) written ∙ sym (known_there files c.intern.new.self c.set.new.self path c.in_ok-at.at new c.in_ok-at.ensures.table c.in_ok-at.ensures.number c.set.ensures))
