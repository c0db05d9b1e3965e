use Rattle.std.proofs.Common.{◌≡◌, true, take}
use Rattle.std.specs.List.{list_all}
use Rattle.plan_verify.specs.Members.{is_member}
use Rattle.plan_verify.specs.SlotTree.{numbers}
use Rattle.plan_verify.proofs.slot_tree.are_within.Given as goal

-- the numbers before a place are members
abbrev pub invariant-loop-place : goal.invariant-loop-place
invariant-loop-place l = list_all (λ n. is_member n (numbers l.other)) (take l.place l.held) ≡ true
