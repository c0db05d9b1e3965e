-- The event budget of an edge.
use Rattle.std.specs.Prelude.{◌≡◌, ℕ, zero, suc, ◌+◌, ◌*◌, ◌<◌, ◌≤◌, Bool, true, false, if◌then◌else◌, List, [], ◌∷◌, length, Ok}
use Rattle.plan_image.specs.declared.body.Instr.{Instr}
use Rattle.plan_image.specs.declared.body.Instr.TheVariants as op
use Rattle.plan_image.specs.declared.image.Parts.{Parts}
use Rattle.plan_image.specs.Code.{code}
use Rattle.plan_verify.specs.Turn.{Slots, Request, Reply, Bytes, Entry, Meaning}
use Rattle.plan_verify.specs.WellShaped.{IsWellShaped}
use Rattle.plan_verify.specs.Sound.{AreTyped, AreLentSet}
use Rattle.plan_verify.specs.Alone.{Alone, at_begin, RunsAlone}

-- whether an instruction asks one question; a Sweep asks one for each path, and the bytes that brought the path
-- pay for it
abbrev pub asks_once : Instr → Bool
asks_once (op.Stat f) = true
asks_once (op.Need f) = true
asks_once op.Recall = true
asks_once op.Run = true
asks_once op.Deps = true
asks_once op.Keep = true
asks_once op.Sweep = false
asks_once op.End = false
asks_once (op.Load k) = false
asks_once (op.Store k) = false
asks_once op.Older = false
asks_once op.Newer = false
asks_once op.Before = false
asks_once op.Same = false
asks_once op.IsMissing = false
asks_once op.Or = false
asks_once op.Not = false
asks_once (op.Flag b) = false
asks_once op.Zero = false
asks_once op.NoPaths = false
asks_once (op.Text t) = false
asks_once op.Join = false
asks_once op.Equal = false
asks_once (op.Jump d) = false
asks_once (op.JumpIf d) = false
asks_once op.Take = false
asks_once op.Release = false
asks_once op.Drop = false
asks_once op.Swap = false

-- two for an instruction that asks one question, and one for each other instruction
abbrev pub cost : Instr → ℕ
cost i = if asks_once i then 2 else 1

abbrev pub costs : List Instr → ℕ
costs [] = 0
costs (i ∷ is) = cost i + costs is

-- one for the start, and the costs of the code
abbrev pub edge_budget : Parts → ℕ → ℕ
edge_budget p e = 1 + costs (code p e)

-- the budget of the first edges together
abbrev pub budget_of_first : Parts → ℕ → ℕ
budget_of_first p zero = 0
budget_of_first p (suc n) = budget_of_first p n + edge_budget p n

-- the budget of all edges together
abbrev pub image_budget : Parts → ℕ
image_budget p = budget_of_first p (length p.edges)

abbrev pub path_bytes : List (List ℕ) → ℕ
path_bytes [] = 0
path_bytes (path ∷ paths) = 4 + length path + path_bytes paths

-- the number of dependency bytes in a reply
abbrev pub brought : Reply → ℕ
brought (Bytes bytes) = length bytes
brought (Entry command basis paths) = path_bytes paths
brought _ = 0

abbrev pub all_brought : List (Request × Reply) → ℕ
all_brought [] = 0
all_brought (t ∷ told) = brought t.1 + all_brought told

-- each path takes at least two bytes of a depfile
abbrev pub IsFrugal : Meaning → Type 0
IsFrugal meaning = (bytes : List ℕ) (paths : List (List ℕ)) → meaning bytes ≡ Ok paths → 2 * length paths ≤ length bytes

-- an edge run alone has no more events than its budget and the number of bytes in the replies together
abbrev pub StaysInBudgetAlone : Type 0
StaysInBudgetAlone =
    (p : Parts) (e : ℕ) → IsWellShaped p → e < length p.edges → (slots : Slots) → AreTyped p slots → AreLentSet p e slots
    → (meaning : Meaning) → IsFrugal meaning → (n : ℕ) (told : List (Request × Reply)) (x : Alone) → RunsAlone meaning p e n (at_begin slots) told x
    → n + 1 ≤ edge_budget p e + all_brought told
