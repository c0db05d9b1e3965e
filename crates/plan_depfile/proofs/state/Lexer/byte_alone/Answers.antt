use Rattle.std.proofs.Common.{[], ◌∷◌, ◌∙◌, refl}
use Rattle.plan_depfile.specs.declared.state.Held.TheVariants as held
use Rattle.plan_depfile.proofs.ByteLemmas.{taken}
use Rattle.plan_depfile.proofs.state.Lexer.byte_alone.Goals as goal

pub returns-in_ok-token-in_default-clause-takes : goal.returns-in_ok-token-in_default-clause-takes
returns-in_ok-token-in_default-clause-takes c rest =
    taken c.args.self.now c.token.new.self held.Nothing held.Nothing c.args.b [] (c.args.b ∷ rest) rest c.token_alone.result c.requires.held
    (c.token.ensures.held ∙ c.requires.held) refl (c.token_alone.ensures rest) c.in_ok-token-in_default.ensures.takes c.in_ok-token-in_default.ensures.place
