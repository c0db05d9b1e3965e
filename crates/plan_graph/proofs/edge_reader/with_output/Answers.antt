use Rattle.std.proofs.Common.{◌≡◌, ◌∙◌, Bool, Some, ap, sym}
use Rattle.std.specs.Prelude.{if◌then◌else◌, is_some}
use Rattle.plan_graph.specs.declared.fault.GraphFault.TheVariants.{TwoProducers}
use Rattle.plan_graph.specs.declared.files.File.{File}
use Rattle.plan_graph.specs.Files.{file_of, with_file}
use Rattle.plan_graph.specs.Reading.{with_producer}
use Rattle.plan_graph.proofs.FilesLemmas.{file_there, known_there}
use Rattle.plan_graph.proofs.EdgeReaderLemmas.{okay, refused}
use Rattle.plan_graph.proofs.edge_reader.with_output.Goals as goal

pub returns-then-is_some-clause-table : goal.returns-then-is_some-clause-table
returns-then-is_some-clause-table c other =
    let files = c.args.files.now in
    let path = c.args.path.now in
    let there = c.at-file.ensures ∙ file_there files c.intern.new.self path c.in_ok-at.at c.in_ok-at.ensures.table c.in_ok-at.ensures.number in
    let has = ap (λ (f : File). is_some f.producer) (sym there) ∙ (sym c.is_some.ensures ∙ c.if-is_some.true) in
    ap (λ (b : Bool). if b then refused (TwoProducers path) else okay (with_file files path (with_producer c.args.number (file_of path files)))) has ∙ ap refused (sym (c.two_producers.ensures other))

pub returns-clause-table : goal.returns-clause-table
returns-clause-table c =
    let files = c.args.files.now in
    let path = c.args.path.now in
    let number = c.args.number in
    let file = c.at-file.result in
    let there = c.at-file.ensures ∙ file_there files c.intern.new.self path c.in_ok-at.at c.in_ok-at.ensures.table c.in_ok-at.ensures.number in
    let has = ap (λ (f : File). is_some f.producer) (sym there) ∙ (sym c.is_some.ensures ∙ c.if-is_some.false) in
    let new : File = record { producer = Some number; is_used = file.is_used } in
    let written : with_producer number (file_of path files) ≡ new = ap (with_producer number) (sym there) in
    ap (λ (b : Bool). if b then refused (TwoProducers path) else okay (with_file files path (with_producer number (file_of path files)))) has
    ∙ ap okay (ap (with_file files path) written ∙ sym (known_there files c.intern.new.self c.set.new.self path c.in_ok-at.at new c.in_ok-at.ensures.table c.in_ok-at.ensures.number c.set.ensures))
