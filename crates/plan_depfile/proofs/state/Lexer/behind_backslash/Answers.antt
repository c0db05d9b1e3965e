use Rattle.std.proofs.Common.{[], ◌∷◌, ◌∙◌, refl}
use Rattle.plan_depfile.specs.declared.state.Held.TheVariants as held
use Rattle.plan_depfile.specs.declared.lexer.token.Token.TheVariants.{Byte}
use Rattle.plan_depfile.proofs.ByteLemmas.{taken}
use Rattle.plan_depfile.proofs.state.Lexer.behind_backslash.Goals as goal

pub returns-in_ok-held_with-in-Some-clause-takes : goal.returns-in_ok-held_with-in-Some-clause-takes
returns-in_ok-held_with-in-Some-clause-takes c rest =
    let b = c.args.b in
    let h = c.in_ok-held_with-in-Some.ensures in
    taken c.args.self.now c.held_with.new.self held.Backslash held.Nothing 92 (b ∷ []) (b ∷ rest) rest c.in-Some.token c.requires.held h.held refl (c.in-Some.ensures.one rest) h.takes h.place

pub returns-in_ok-byte_alone-in-None-clause-takes : goal.returns-in_ok-byte_alone-in-None-clause-takes
returns-in_ok-byte_alone-in-None-clause-takes c rest =
    let b = c.args.b in
    let h = c.in_ok-held_with-in-None.ensures in
    c.in_ok-byte_alone-in-None.ensures.takes rest
    ∙ taken c.args.self.now c.held_with-in-None.new.self held.Backslash held.Nothing 92 [] (b ∷ rest) (b ∷ rest) (Byte 92) c.requires.held h.held refl (c.in-None.ensures.two c.if-b-eq13.false rest) h.takes h.place
