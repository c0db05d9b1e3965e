-- Numbers of files that are borrowed or owned.
use Rattle.std.specs.Prelude.{ℕ, List}
use Rattle.plan_compile.specs.declared.file_numbers.Held.{Held}
use Rattle.plan_compile.specs.declared.file_numbers.Held.TheVariants.{Lent, Made}

abbrev pub numbers_held : Held → List ℕ
numbers_held (Lent numbers) = numbers.now
numbers_held (Made numbers) = numbers.items
