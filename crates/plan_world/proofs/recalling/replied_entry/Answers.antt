use Rattle.std.proofs.Common.{refl, inl, inr, sym, subst, List, ℕ}
use Rattle.plan_world.specs.Askable.{AreAskable}
use Rattle.plan_world.proofs.recalling.replied_entry.Goals as goal

pub returns-then-are_askable : goal.returns-then-are_askable
returns-then-are_askable c = inl (subst (λ (p : List (List ℕ)). AreAskable p) c.paths.ensures (c.are_askable.ensures.0 c.if-are_askable.true), refl)

pub returns-else-are_askable : goal.returns-else-are_askable
returns-else-are_askable c =
    inr ((λ asked. let yes = c.are_askable.ensures.1 (subst (λ (p : List (List ℕ)). AreAskable p) (sym c.paths.ensures) asked) in let found = c.if-are_askable.false in cc), refl)
