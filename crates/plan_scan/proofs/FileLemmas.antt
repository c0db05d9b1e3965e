-- Lemmas about the stamps of files. Serves src/files.rt.
use Rattle.std.proofs.Common.{◌≡◌, ◌++◌, ◌<◌, ◌+◌, ℕ, zero, suc, List, [], ◌∷◌, refl, sym, subst, arith, length}
use Rattle.std.specs.Prelude.{get_or}
use Rattle.std.proofs.lemmas.List.{length-append}
use Rattle.plan_graph.specs.declared.graph_data.Graph.{Graph}
use Rattle.plan_lanes.specs.Journals.{Rule}
use Rattle.plan_scan.specs.Steps.{AreStamps, AreStampsBetween, AreStampsFrom, IsStampOf}

-- The stamps of two ranges of files, one after the other.
both : (rule : Rule) (g : Graph) (from : ℕ) (first second : List ℕ) → AreStampsFrom rule g from first → AreStampsFrom rule g (from + length first) second → AreStampsFrom rule g from (first ++ second)
both rule g from [] second one two = subst (λ (n : ℕ). AreStampsFrom rule g n second) (omega arith) two
both rule g from (t ∷ first) second one two = (one.0, both rule g (suc from) first second one.1 (subst (λ (n : ℕ). AreStampsFrom rule g n second) (omega arith) two))

pub both_between : (rule : Rule) (g : Graph) (from middle to : ℕ) (first second all : List ℕ) → AreStampsBetween rule g from middle first → AreStampsBetween rule g middle to second → all ≡ first ++ second → AreStampsBetween rule g from to all
both_between rule g from middle to first second all one two is =
    let long : length (first ++ second) ≡ length first + length second = length-append first second in
    let at : from + length first ≡ middle = one.all in
    let end : middle + length second ≡ to = two.all in
    subst (λ (xs : List ℕ). AreStampsBetween rule g from to xs) (sym is)
    (record { allowed = both rule g from first second one.allowed (subst (λ (n : ℕ). AreStampsFrom rule g n second) (sym at) two.allowed); all = omega (arith, long, at, end) })

-- No stamps.
pub none : (rule : Rule) (g : Graph) (from : ℕ) → AreStampsBetween rule g from from []
none rule g from = record { allowed = tt; all = omega arith }

-- One more stamp.
pub one_more : (rule : Rule) (g : Graph) (from number : ℕ) (stamps more : List ℕ) (t : ℕ) → AreStampsBetween rule g from number stamps → IsStampOf rule g number t → more ≡ stamps ++ t ∷ [] → AreStampsBetween rule g from (number + 1) more
one_more rule g from number stamps more t are here is = both_between rule g from number (number + 1) stamps (t ∷ []) more are (record { allowed = (here, tt); all = refl }) is

from_at : (rule : Rule) (g : Graph) (from : ℕ) (stamps : List ℕ) → AreStampsFrom rule g from stamps → (k : ℕ) → k < length stamps → IsStampOf rule g (from + k) (get_or stamps k 0)
from_at rule g from [] are k within = absurd (omega (arith, within))
from_at rule g from (t ∷ stamps) are zero within = subst (λ (n : ℕ). IsStampOf rule g n t) (omega arith) are.0
from_at rule g from (t ∷ stamps) are (suc k) within =
    subst (λ (n : ℕ). IsStampOf rule g n (get_or stamps k 0)) (omega arith) (from_at rule g (suc from) stamps are.1 k (omega (arith, within)))

-- The stamps of all files.
pub all : (rule : Rule) (g : Graph) (to : ℕ) (stamps : List ℕ) → AreStampsBetween rule g 0 to stamps → AreStamps rule g stamps
all rule g to stamps are f within = subst (λ (n : ℕ). IsStampOf rule g n (get_or stamps f 0)) (omega arith) (from_at rule g 0 stamps are.allowed f within)
