use Rattle.std.proofs.Common.{◌∙◌, List, ap, arith, map}
use Rattle.plan_text.specs.declared.piece_reader.Piece.{Piece}
use Rattle.plan_parse.specs.declared.compact.PathLists.{PathLists}
use Rattle.plan_parse.specs.Lines.{paths_in}
use Rattle.plan_parse.specs.PathLists.{map_lists}
use Rattle.plan_scope.specs.Edges.{Paths, canonical_paths, near, paths_of, path_of}
use Rattle.plan_scope.specs.Paths.{kept_in}
use Rattle.plan_scope.proofs.PathLemmas.{between_last, list_longer, list_placed, reads_both, same_lists}
use Rattle.plan_scope.proofs.edge.paths.read_paths.Goals as goal

pub returns-clause-texts : goal.returns-clause-texts
returns-clause-texts c =
    let o = c.in_ok-read_list.ensures in
    let io = c.in_ok-read_list-2.ensures in
    let i = c.in_ok-read_list-3.ensures in
    let ii = c.in_ok-read_list-4.ensures in
    let oo = c.in_ok-read_list-5.ensures in
    let lists : PathLists (List (List Piece)) = map_lists paths_in c.paths-lists.result in
    let texts : Paths = record { outputs = o.0; implicit_outputs = io.0; inputs = i.0; implicit_inputs = ii.0; order_only_inputs = oo.0 } in
    let two = reads_both _ _ _ _ _ o.2 io.2 in
    let three = reads_both _ _ _ _ _ two i.2 in
    let four = reads_both _ _ _ _ _ three ii.2 in
    let all = reads_both _ _ _ _ _ four oo.2 in
    let last = oo.2 in
    let last_two = reads_both _ _ _ _ _ ii.2 last in
    let last_three = reads_both _ _ _ _ _ i.2 last_two in
    let last_four = reads_both _ _ _ _ _ io.2 last_three in
    let start = c.in_ok-row_count.ensures in (
      texts,
      (
        same_lists _ (canonical_paths texts)
            (list_placed _ (map path_of o.0) _ _ _ _ _ o.2.rows last_four.rows start o.1)
            (list_placed _ (map path_of io.0) _ _ _ _ _ io.2.rows last_three.rows o.1 io.1)
            (list_placed _ (map path_of i.0) _ _ _ _ _ i.2.rows last_two.rows io.1 i.1)
            (list_placed _ (map path_of ii.0) _ _ _ _ _ ii.2.rows last.rows i.1 ii.1)
            (between_last _ (map path_of oo.0) _ _ _ oo.2.rows ii.1 oo.1),
        all.empty,
        all.long,
      ),
      λ b m h k.
          same_lists (kept_in texts) (kept_in (map_lists (paths_of (near m b)) lists))
          (o.3 b m h k) (io.3 b m h k) (i.3 b m h k) (ii.3 b m h k) (oo.3 b m h k)
          ∙ ap (λ (ps : PathLists (List (List Piece))). kept_in (map_lists (paths_of (near m b)) ps)) c.paths-lists.ensures,
    )

pub returns-clause-placed : goal.returns-clause-placed
returns-clause-placed c =
    let o = c.in_ok-read_list.ensures in
    let io = c.in_ok-read_list-2.ensures in
    let i = c.in_ok-read_list-3.ensures in
    let ii = c.in_ok-read_list-4.ensures in
    let oo = c.in_ok-read_list-5.ensures in
    let start = c.in_ok-row_count.ensures in
    let o_longer = list_longer _ _ _ o.2 in
    let io_longer = list_longer _ _ _ io.2 in
    let i_longer = list_longer _ _ _ i.2 in
    let ii_longer = list_longer _ _ _ ii.2 in
    let oo_longer = list_longer _ _ _ oo.2 in
    let o_end = o.1 in
    let io_end = io.1 in
    let i_end = i.1 in
    let ii_end = ii.1 in
    let oo_end = oo.1 in
    record {
      outputs = omega (arith, start, o_end, o_longer);
      implicit_outputs = omega (arith, o_end, io_end, io_longer);
      inputs = omega (arith, io_end, i_end, i_longer);
      implicit_inputs = omega (arith, i_end, ii_end, ii_longer);
      order_only_inputs = omega (arith, ii_end, oo_end, oo_longer);
      end = omega (arith, oo_end);
    }

pub returns-clause-more : goal.returns-clause-more
returns-clause-more c =
    let o = c.in_ok-read_list.ensures in
    let io = c.in_ok-read_list-2.ensures in
    let i = c.in_ok-read_list-3.ensures in
    let ii = c.in_ok-read_list-4.ensures in
    let oo = c.in_ok-read_list-5.ensures in
    let two = reads_both _ _ _ _ _ o.2 io.2 in
    let three = reads_both _ _ _ _ _ two i.2 in
    let four = reads_both _ _ _ _ _ three ii.2 in
    let all = reads_both _ _ _ _ _ four oo.2 in (_, all.rows)
