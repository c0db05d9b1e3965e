-- Texts that are borrowed or owned.
use Rattle.std.specs.Prelude.{ℕ, List}
use Rattle.plan_scope.specs.declared.scope.cow_text.Held.{Held}
use Rattle.plan_scope.specs.declared.scope.cow_text.Held.TheVariants.{Lent, Made}

abbrev pub text_in : Held → List ℕ
text_in (Lent bytes) = bytes.now
text_in (Made bytes) = bytes.items
