-- Worked examples: the text before a `^`, and the first of some values.
use Rattle.std.proofs.Common.{◌≡◌, ◌==◌, ℕ, [], Some, None, if◌then◌else◌, refl}
use Rattle.std.specs.Prelude.{codes}
use Rattle.plan_build_tools.specs.Naming.{before_caret, first_below}

caret_at_the_end : before_caret (codes "a.c^") ≡ Some (codes "a.c")
caret_at_the_end = refl

only_the_last_caret : before_caret (codes "a^^") ≡ Some (codes "a^")
only_the_last_caret = refl

caret_alone : before_caret (codes "^") ≡ Some []
caret_alone = refl

caret_in_the_middle : before_caret (codes "a^b") ≡ None
caret_in_the_middle = refl

-- The values of 2 and 3 are 7 and 8: the former is the first below 4, and there is none below 2.
first_of_two : first_below 4 (λ n. if n == 2 then Some 7 else if n == 3 then Some 8 else None) ≡ Some 7
first_of_two = refl

none_below : first_below 2 (λ n. if n == 2 then Some 7 else if n == 3 then Some 8 else None) ≡ None
none_below = refl
