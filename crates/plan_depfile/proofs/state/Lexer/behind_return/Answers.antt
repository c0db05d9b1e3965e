use Rattle.std.proofs.Common.{[], ◌∷◌, ◌∙◌, refl}
use Rattle.plan_depfile.specs.declared.state.Held.TheVariants as held
use Rattle.plan_depfile.specs.declared.lexer.token.Token.TheVariants.{Byte}
use Rattle.plan_depfile.proofs.ByteLemmas.{taken, lone_return}
use Rattle.plan_depfile.proofs.state.Lexer.behind_return.Goals as goal

pub returns-clause-takes : goal.returns-clause-takes
returns-clause-takes c rest =
    let b = c.args.b in
    let h = c.in_ok-held_with-2.ensures in
    c.in_ok-byte_alone.ensures.takes rest
    ∙ taken c.args.self.now c.held_with-2.new.self held.Return held.Nothing 13 [] (b ∷ rest) (b ∷ rest) (Byte 13) c.requires.held h.held refl (lone_return b rest c.if-b-eq10.false) h.takes h.place
