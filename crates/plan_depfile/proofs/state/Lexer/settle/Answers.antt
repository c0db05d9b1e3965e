use Rattle.std.proofs.Common.{[], ◌∙◌, refl}
use Rattle.plan_depfile.specs.declared.state.Held.TheVariants as held
use Rattle.plan_depfile.specs.declared.lexer.token.Token.TheVariants.{Byte}
use Rattle.plan_depfile.proofs.ByteLemmas.{taken}
use Rattle.plan_depfile.proofs.state.Lexer.settle.Goals as goal

pub returns-in_ok-held_with-in-BackslashReturn-2-clause-takes : goal.returns-in_ok-held_with-in-BackslashReturn-2-clause-takes
returns-in_ok-held_with-in-BackslashReturn-2-clause-takes c =
    let h = c.in_ok-held_with-in-BackslashReturn.ensures in
    let g = c.in_ok-held_with-in-BackslashReturn-2.ensures in
    let mid = record c.held_with-in-BackslashReturn.new.self { held = held.Return } in
    taken mid c.held_with-in-BackslashReturn-2.new.self held.Return held.Nothing 13 [] [] [] (Byte 13) refl g.held refl refl g.takes g.place
    ∙ taken c.args.self.now mid held.BackslashReturn held.Return 92 [] [] [] (Byte 92) c.in-BackslashReturn.is refl refl refl h.takes h.place
