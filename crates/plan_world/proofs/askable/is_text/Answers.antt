use Rattle.std.proofs.lemmas.Str.{IsUtf8-from_ascii}
use Rattle.plan_world.proofs.askable.is_text.Goals as goal

pub returns-then-is_ascii : goal.returns-then-is_ascii
returns-then-is_ascii c = (λ _. IsUtf8-from_ascii _ c.if-is_ascii.ensures.cases, λ _. c.if-is_ascii.true)
