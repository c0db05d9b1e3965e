use Rattle.std.proofs.Common.{◌≡◌, ◌<◌, ◌∷◌, [], ◌++◌, ◌∙◌, false, true, List, ap, arith, bytes_eq, length, map, sym}
use Rattle.std.specs.List.{list_any, zip}
use Rattle.plan_graph.specs.declared.files.File.{File}
use Rattle.plan_graph.specs.declared.files.Key.{Key}
use Rattle.plan_graph.specs.Files.{Path, Table, file_of, number_of, paths_in, unknown, with_file}
use Rattle.plan_graph.proofs.FilesLemmas.{among_is, keys_new, keys_old, named_within, number_is, paths_are, table_new, table_old, was_new, was_old}
use Rattle.plan_graph.proofs.files.Files.intern.Goals as goal

pub returns-in_ok-push-clause-table : goal.returns-in_ok-push-clause-table
returns-in_ok-push-clause-table c =
    let keys = c.self.inside.paths.keys in
    let known = c.self.inside.known.items in
    let path = c.args.path.now in
    let there = list_any (λ k. bytes_eq path k.bytes.now) keys in
    let new : there ≡ false = was_new there c.in_ok-number.is_new c.in_ok-number.ensures.added c.if-is_new.true in
    let key : Key = record { bytes = c.args.path } in
    let files = c.in_ok-push.ensures.items ∙ ap (λ (fs : List File). fs ++ unknown ∷ []) c.in_ok-reserve.ensures.items in
    ap (λ (fs : List File). zip (map (λ k. k.bytes.now) c.insert_full.new.self.keys) fs) files
    ∙ (ap (λ ks. zip (map (λ k. k.bytes.now) ks) (known ++ unknown ∷ [])) (c.in_ok-number.ensures.keys ∙ keys_new there keys key new)
    ∙ (table_new (λ k. k.bytes.now) keys known key c.self.invariant (sym (among_is (λ k. k.bytes.now) path keys) ∙ new)
    ∙ ap (λ (t : Table). with_file t path (file_of path t)) c.self.view_is))

pub returns-in_ok-push-clause-number : goal.returns-in_ok-push-clause-number
returns-in_ok-push-clause-number c =
    let keys = c.self.inside.paths.keys in
    let path = c.args.path.now in
    c.in_ok-number.ensures.index
    ∙ (number_is (λ k. k.bytes.now) path keys
    ∙ (ap (λ (ps : List Path). number_of ps path) (sym (paths_are (λ k. k.bytes.now) keys c.self.inside.known.items c.self.invariant)) ∙ ap (λ (t : Table). number_of (paths_in t) path) c.self.view_is))

pub returns-in_ok-push-clause-within : goal.returns-in_ok-push-clause-within
returns-in_ok-push-clause-within c =
    let files = c.args.self.now in
    let path = c.args.path.now in
    let long = ap (λ (t : Table). length t) (returns-in_ok-push-clause-table c) in
    let below : number_of (paths_in files) path < length (with_file files path (file_of path files)) = named_within files path (file_of path files) in
    omega (arith, returns-in_ok-push-clause-number c, below, long)

pub returns-else-is_new-clause-table : goal.returns-else-is_new-clause-table
returns-else-is_new-clause-table c =
    let keys = c.self.inside.paths.keys in
    let known = c.self.inside.known.items in
    let path = c.args.path.now in
    let there = list_any (λ k. bytes_eq path k.bytes.now) keys in
    let old : there ≡ true = was_old there c.in_ok-number.is_new c.in_ok-number.ensures.added c.if-is_new.false in
    let key : Key = record { bytes = c.args.path } in
    ap (λ (fs : List File). zip (map (λ k. k.bytes.now) c.insert_full.new.self.keys) fs) c.in_ok-reserve.ensures.items
    ∙ (ap (λ ks. zip (map (λ k. k.bytes.now) ks) known) (c.in_ok-number.ensures.keys ∙ keys_old there keys key old)
    ∙ (table_old (λ k. k.bytes.now) keys known key c.self.invariant (sym (among_is (λ k. k.bytes.now) path keys) ∙ old)
    ∙ ap (λ (t : Table). with_file t path (file_of path t)) c.self.view_is))

pub returns-else-is_new-clause-number : goal.returns-else-is_new-clause-number
returns-else-is_new-clause-number c =
    let keys = c.self.inside.paths.keys in
    let path = c.args.path.now in
    c.in_ok-number.ensures.index
    ∙ (number_is (λ k. k.bytes.now) path keys
    ∙ (ap (λ (ps : List Path). number_of ps path) (sym (paths_are (λ k. k.bytes.now) keys c.self.inside.known.items c.self.invariant)) ∙ ap (λ (t : Table). number_of (paths_in t) path) c.self.view_is))

pub returns-else-is_new-clause-within : goal.returns-else-is_new-clause-within
returns-else-is_new-clause-within c =
    let files = c.args.self.now in
    let path = c.args.path.now in
    let long = ap (λ (t : Table). length t) (returns-else-is_new-clause-table c) in
    let below : number_of (paths_in files) path < length (with_file files path (file_of path files)) = named_within files path (file_of path files) in
    omega (arith, returns-else-is_new-clause-number c, below, long)
