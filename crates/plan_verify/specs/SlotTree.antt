-- Ascending numbers in a tree.
use Rattle.std.specs.Prelude.{◌≡◌, ℕ, ◌<◌, List, ◌++◌, length}
use Rattle.std.specs.List.{AllByRecursion}
use Rattle.plan_image.specs.Spelling.{AscendsFrom}
use Rattle.plan_verify.specs.declared.slot_tree.SlotTree.{SlotTree}
use Rattle.plan_verify.specs.declared.slot_tree.SlotTree.TheVariants.{Few, Fork'}

-- the numbers, in order
abbrev pub numbers : SlotTree → List ℕ
numbers (Few held) = held.items
numbers (Fork' p low middle q high len) = numbers low ++ numbers high

-- each is less than this number
abbrev pub AllBelow : ℕ → List ℕ → Type 0
AllBelow n ns = AllByRecursion (λ m. m < n) ns

-- in each fork, the low numbers are below the middle, the high ones ascend from it, and the number of all of
-- them is stored
abbrev pub IsParted : SlotTree → Type 0
IsParted (Few held) = AscendsFrom 0 held.items
IsParted (Fork' p low middle q high len) =
    IsParted low × IsParted high × AllBelow middle (numbers low) × AscendsFrom middle (numbers high) × (len ≡ length (numbers low ++ numbers high))
