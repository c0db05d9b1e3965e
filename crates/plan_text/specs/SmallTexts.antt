-- The bytes of a `SmallText`, in either storage.
use Rattle.std.specs.Prelude.{ℕ, List}
use Rattle.plan_text.specs.declared.small_text.Held.{Held}
use Rattle.plan_text.specs.declared.small_text.Held.TheVariants.{Inline, Heap}

abbrev pub text_in : Held → List ℕ
text_in (Inline front) = front
text_in (Heap heap) = heap.items
