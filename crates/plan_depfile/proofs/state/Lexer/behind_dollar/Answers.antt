use Rattle.std.proofs.Common.{[], ◌∷◌, ◌∙◌, refl}
use Rattle.plan_depfile.specs.declared.state.Held.TheVariants as held
use Rattle.plan_depfile.specs.declared.lexer.token.Token.TheVariants.{Dollar}
use Rattle.plan_depfile.proofs.ByteLemmas.{taken, lone_dollar}
use Rattle.plan_depfile.proofs.state.Lexer.behind_dollar.Goals as goal

pub returns-clause-takes : goal.returns-clause-takes
returns-clause-takes c rest =
    let b = c.args.b in
    let h = c.in_ok-held_with-2.ensures in
    c.in_ok-byte_alone.ensures.takes rest
    ∙ taken c.args.self.now c.held_with-2.new.self held.Dollar held.Nothing 36 [] (b ∷ rest) (b ∷ rest) Dollar c.requires.held h.held refl (lone_dollar b rest c.if-b-eq36.false) h.takes h.place
