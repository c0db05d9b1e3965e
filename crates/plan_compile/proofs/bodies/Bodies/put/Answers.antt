use Rattle.std.proofs.Common.{◌≡◌, ℕ, Option, Some, subst}
use Rattle.std.specs.Prelude.{IfSome, slice_get}
use Rattle.plan_image.specs.Bodies.{body_of}
use Rattle.plan_compile.proofs.MatchLemmas.{stays}
use Rattle.plan_compile.proofs.bodies.Bodies.put.Goals as goal

pub returns-in-Some-clause-bodies : goal.returns-in-Some-clause-bodies
returns-in-Some-clause-bodies c =
    stays c.args.self.now c.in-Some.number (body_of c.args.code.now)
    (subst (λ (r : Option ℕ). IfSome r (λ n. slice_get c.args.self.now n ≡ Some (body_of c.args.code.now))) c.in-Some.is c.find_remembered.ensures.there)
