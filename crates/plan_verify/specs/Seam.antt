-- The facts that a machine of many edges takes from one edge's step.
use Rattle.std.specs.Prelude.{◌≡◌, ℕ, Bool, true, false, List, Some, is_some}
use Rattle.plan_image.specs.declared.image.Parts.{Parts}
use Rattle.plan_verify.specs.declared.kinds.Shape.{Shape}
use Rattle.plan_verify.specs.Turn.{Slots, is_set, Local, Request, Stat, Recall, Run, Deps, Keep, Reply, StampIs, Entry, Nothing, Exit, Signal, NotStarted, Bytes, Kept, Fault, Meaning, question, heard}
use Rattle.plan_verify.specs.Sound.{IsTyped}

-- an edge's question doesn't depend on the slots
abbrev pub QuestionsIgnoreSlots : Type 0
QuestionsIgnoreSlots = (p : Parts) (e : ℕ) (slots other : Slots) (l : Local) → question p e slots l ≡ question p e other l

-- an edge stays typed while others set slots
abbrev pub StaysTyped : Type 0
StaysTyped =
    (p : Parts) (e : ℕ) (shapes : List Shape) (slots new : Slots) (l : Local) → ((s : ℕ) → is_set slots s ≡ true → is_set new s ≡ true)
    → IsTyped p e shapes slots l → IsTyped p e shapes new l

-- whether a reply matches a question
abbrev pub suits : Request → Reply → Bool
suits (Stat path) (StampIs n) = true
suits (Stat path) Fault = true
suits (Recall output) (Entry command basis paths) = true
suits (Recall output) Nothing = true
suits (Recall output) Fault = true
suits (Run command outputs) (Exit n) = true
suits (Run command outputs) Signal = true
suits (Run command outputs) NotStarted = true
suits (Deps path) (Bytes bytes) = true
suits (Deps path) Nothing = true
suits (Deps path) Fault = true
suits (Keep output command basis paths) Kept = true
suits (Keep output command basis paths) Fault = true
suits q r = false

-- an edge with a pending question accepts a reply if and only if it matches the question
abbrev pub HearsWhatSuits : Type 0
HearsWhatSuits =
    (p : Parts) (e : ℕ) (slots : Slots) (l : Local) (meaning : Meaning) (q : Request) (r : Reply) → l.asked ≡ true → question p e slots l ≡ Some q
    → is_some (heard meaning p e l r) ≡ suits q r
