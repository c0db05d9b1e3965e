-- The remaining cost of a running edge, which pays for each of its turns.
use Rattle.std.specs.Prelude.{◌≡◌, ℕ, ◌+◌, ◌-◌, ◌*◌, ◌≤◌, List, [], ◌∷◌, length, drop, Some}
use Rattle.plan_image.specs.declared.body.Instr.{Instr}
use Rattle.plan_image.specs.declared.image.Parts.{Parts}
use Rattle.plan_image.specs.Code.{code}
use Rattle.plan_verify.specs.declared.value.Value.{Value}
use Rattle.plan_verify.specs.declared.value.Value.TheVariants.{Stamp, Flag, Text, Paths, Swept}
use Rattle.plan_verify.specs.declared.kinds.Shape.{Shape}
use Rattle.plan_verify.specs.Turn.{Slots, Local, Request, Reply, Meaning, Turn, Goes, Sets, Asks, Ends, Fails, Wrong, turn, question, heard}
use Rattle.plan_verify.specs.WellShaped.{AreAllShapes, IsWellShaped}
use Rattle.plan_verify.specs.Sound.{AreTyped, AreLentSet, IsTyped}
use Rattle.plan_verify.specs.Budget.{costs, brought, IsFrugal}

-- two for each path that is still to be swept
abbrev pub paths_left : Value → ℕ
paths_left (Stamp n) = 0
paths_left (Flag b) = 0
paths_left (Text t) = 0
paths_left (Paths n all) = 2 * (length all - n)
paths_left (Swept all) = 0

abbrev pub unswept : List Value → ℕ
unswept [] = 0
unswept (v ∷ vs) = paths_left v + unswept vs

-- the cost of the code from a place on
abbrev pub rest_of : List Instr → ℕ → ℕ
rest_of is n = costs (drop n is)

-- the remaining cost of an edge: that of the code from its place on, and that of the paths on its stack
abbrev pub worth : Parts → ℕ → Local → ℕ
worth p e l = rest_of (code p e) l.place + unswept l.stack

-- the remaining cost after a turn, plus one for the event, is at most m
abbrev pub Pays : Parts → ℕ → Local → ℕ → Turn → Type 0
Pays p e l m (Goes did k) = worth p e k + 1 ≤ m
Pays p e l m (Sets s v k) = worth p e k + 1 ≤ m
Pays p e l m (Asks q) = (worth p e l ≤ m) × (1 ≤ m)
Pays p e l m Ends = 1 ≤ m
Pays p e l m (Fails cause) = 1 ≤ m
Pays p e l m (Wrong flaw) = Unit {0}

-- ---- laws

-- In a well-shaped image, an edge that is as its shape describes has a positive remaining cost. This cost pays
-- for a step. A reply is paid for by the remaining cost and the bytes in the reply, of which one is reserved
-- for each question.
pub record TurnsPay (p : Parts) (e : ℕ) (slots : Slots) (l : Local) : Type 0 where
  pub some : 1 ≤ worth p e l
  pub step : Pays p e l (worth p e l) (turn p e slots l)
  pub reply : (meaning : Meaning) → IsFrugal meaning → (q : Request) (r : Reply) (t : Turn) → question p e slots l ≡ Some q → heard meaning p e l r ≡ Some t
      → Pays p e l (worth p e l - 1 + brought r) t

abbrev pub AllTurnsPay : Type 0
AllTurnsPay =
    (p : Parts) (e : ℕ) → IsWellShaped p → (shapes : List Shape) → AreAllShapes p e shapes
    → (slots : Slots) (l : Local) → AreTyped p slots → AreLentSet p e slots → IsTyped p e shapes slots l → TurnsPay p e slots l
