use Rattle.std.proofs.Common.{[], ◌∷◌, ◌∙◌, refl}
use Rattle.plan_depfile.specs.declared.state.Held.TheVariants as held
use Rattle.plan_depfile.specs.declared.lexer.token.Token.TheVariants.{Byte}
use Rattle.plan_depfile.proofs.ByteLemmas.{taken, lone_backslash}
use Rattle.plan_depfile.proofs.state.Lexer.behind_backslash_return.Goals as goal

pub returns-clause-takes : goal.returns-clause-takes
returns-clause-takes c rest =
    let b = c.args.b in
    let h = c.in_ok-token.ensures in
    c.in_ok-behind_return.ensures.takes rest
    ∙ taken c.args.self.now (record c.token.new.self { held = held.Return }) held.BackslashReturn held.Return 92 [] (b ∷ rest) (b ∷ rest) (Byte 92) c.requires.held refl refl (lone_backslash b rest c.if-b-eq10.false) h.takes h.place
