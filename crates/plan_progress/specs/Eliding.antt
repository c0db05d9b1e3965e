-- Lines that are cut in their middle, so that they fit a terminal and their end is shown.
use Rattle.std.specs.Prelude.{ℕ, ◌-◌, ◌/◌, ◌==◌, nat_le, Bool, not, ◌&&◌, ◌||◌, List, ◌++◌, if◌then◌else◌, length, take, drop, codes}
use Rattle.std.specs.List.{list_all}

-- A byte is shown in one column: it is a printable byte of ASCII.
abbrev pub takes_a_column : ℕ → Bool
takes_a_column b = nat_le 32 b && nat_le b 126

-- The width is 0 if it isn't known. The width of other bytes isn't known either.
abbrev pub fits : (width : ℕ) → List ℕ → Bool
fits width text = (width == 0) || nat_le (length text) width || not (list_all takes_a_column text)

-- how many bytes are shown before and after `...`, as with ninja
abbrev pub side_of : (width : ℕ) → ℕ
side_of width = (width - 3) / 2

-- a text whose middle is left out
abbrev pub with_gap : (side : ℕ) → List ℕ → List ℕ
with_gap side text = take side text ++ (codes "..." ++ drop (length text - side) text)

-- a text that is cut to a width
abbrev pub elided : (width : ℕ) → List ℕ → List ℕ
elided width text = if fits width text then text else with_gap (side_of width) text
