use Rattle.std.proofs.Common.{◌≡◌, ◌++◌, ◌∙◌, List, ap, sym}
use Rattle.std.proofs.lemmas.List.{append_assoc}
use Rattle.plan_graph.specs.Files.{Path, numbers_past, paths_in, with_paths}
use Rattle.plan_graph.specs.Reading.{with_inputs}
use Rattle.plan_graph.proofs.NumberLemmas.{inputs_paths, row_more}
use Rattle.plan_graph.proofs.EdgeReaderLemmas.{inputs_app, ok_is, okay, three_inputs}
use Rattle.plan_graph.proofs.edge_reader.with_all_inputs.Goals as goal

pub returns-clause-table : goal.returns-clause-table
returns-clause-table c =
    let own = c.args.own in
    let files = c.args.files.now in
    let one = c.with_inputs.new.files in
    let two = c.with_inputs-2.new.files in
    let xs : List Path = c.inputs.result in
    let ys : List Path = c.implicit_inputs.result in
    let zs : List Path = c.order_only_inputs.result in
    let edge = c.args.edge.now in
    let all = three_inputs own files one two xs ys zs c.in_ok-with_inputs.ensures.table c.in_ok-with_inputs-2.ensures.table in
    let named = ap (λ (x : List Path). with_inputs own files (x ++ (ys ++ zs))) c.inputs.ensures
    ∙ (ap (λ (y : List Path). with_inputs own files (edge.paths.inputs ++ (y ++ zs))) c.implicit_inputs.ensures ∙ ap (λ (z : List Path). with_inputs own files (edge.paths.inputs ++ (edge.paths.implicit_inputs ++ z))) c.order_only_inputs.ensures) in
    ap okay (sym (all ∙ named)) ∙ c.in_ok-with_inputs-3.ensures.table

pub returns-clause-row : goal.returns-clause-row
returns-clause-row c =
    let own = c.args.own in
    let files = c.args.files.now in
    let seen = paths_in files in
    let one = c.with_inputs.new.files in
    let two = c.with_inputs-2.new.files in
    let xs : List Path = c.inputs.result in
    let ys : List Path = c.implicit_inputs.result in
    let zs : List Path = c.order_only_inputs.result in
    let edge = c.args.edge.now in
    let row = c.args.row.now.items in
    let first = ok_is (with_inputs own files xs) one c.in_ok-with_inputs.ensures.table in
    let second = ok_is (with_inputs own one ys) two c.in_ok-with_inputs-2.ensures.table in
    let past_one : paths_in one ≡ with_paths seen xs = ap paths_in (sym first) ∙ inputs_paths own files xs in
    let both : with_inputs own files (xs ++ ys) ≡ two = inputs_app own files xs ys ∙ (ap (λ t. with_inputs own t ys) first ∙ second) in
    let past_two : paths_in two ≡ with_paths seen (xs ++ ys) = ap paths_in (sym both) ∙ inputs_paths own files (xs ++ ys) in
    let front = row_more seen (paths_in one) row c.with_inputs.new.row.items c.with_inputs-2.new.row.items xs ys c.in_ok-with_inputs.ensures.row past_one c.in_ok-with_inputs-2.ensures.row in
    let all = row_more seen (paths_in two) row c.with_inputs-2.new.row.items c.with_inputs-3.new.row.items (xs ++ ys) zs front past_two c.in_ok-with_inputs-3.ensures.row in
    all
    ∙ (ap (λ (ps : List Path). row ++ numbers_past seen ps) (append_assoc xs ys zs)
    ∙ (ap (λ (x : List Path). row ++ numbers_past seen (x ++ (ys ++ zs))) c.inputs.ensures
    ∙ (ap (λ (y : List Path). row ++ numbers_past seen (edge.paths.inputs ++ (y ++ zs))) c.implicit_inputs.ensures ∙ ap (λ (z : List Path). row ++ numbers_past seen (edge.paths.inputs ++ (edge.paths.implicit_inputs ++ z))) c.order_only_inputs.ensures)))
