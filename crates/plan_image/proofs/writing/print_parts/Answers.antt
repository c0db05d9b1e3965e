use Rattle.std.proofs.Common.{◌≡◌, ℕ, List, [], ◌∷◌, ◌++◌, is_ok, refl, subst}
use Rattle.plan_image.specs.Printing.{HeldState, Prints}
use Rattle.plan_image.specs.Spelling.{bodies, counted, edge, long_text, magic, number, pool, short_text, slot, spelling}
use Rattle.plan_image.proofs.writing.print_parts.Goals as goal

pub returns : goal.returns
unfolding spelling
returns g c =
    let p = c.args.parts.now in
    let old : HeldState = (c.args.held.now.items, (g.W.Sink.failures c.args.out.now, g.W.Sink.taken c.args.out.now)) in
    let new : HeldState = (c.print.new.held.items, (g.W.Sink.failures c.print.new.out, g.W.Sink.taken c.print.new.out)) in
    let printed : List ℕ =
    (magic ++ c.version_byte.result ∷ []) ++ counted long_text p.texts ++ counted short_text p.files ++ counted pool c.as_slice.result.now ++ counted slot c.as_slice-2.result.now ++ bodies p.bodies ++ counted edge p.edges ++ counted number c.as_slice-3.result.now in
    let whole : printed ≡ spelling p = rw (c.version_byte.ensures, c.version.ensures, c.as_slice.ensures, c.as_slice-2.ensures, c.as_slice-3.ensures) refl in
    subst (Prints (is_ok c.print.result) old new) whole c.print.ensures
