-- One edge run alone: job tokens are always free, and the replies are a list.
use Rattle.std.specs.Prelude.{◌≡◌, ℕ, suc, Bool, true, false, List, [], ◌∷◌, Some, IsSome, slice_set}
use Rattle.plan_image.specs.declared.image.Parts.{Parts}
use Rattle.plan_verify.specs.declared.value.Cause.{Cause}
use Rattle.plan_verify.specs.Turn.{Slots, Local, begun, Flaw, Turn, Goes, Sets, Asks, Ends, Fails, Wrong, Request, Reply, Meaning, turn, heard, question}
use Rattle.plan_verify.specs.WellShaped.{IsShapedEdge}
use Rattle.plan_verify.specs.Seam.{suits}
use Rattle.plan_verify.specs.Sound.{asking, AreTyped, AreLentSet, AreOwnSet}

pub data Stage : Type 0 where
  Runs : Local → Stage
  Ended : (ran : Bool) → Stage
  Failed : Cause → Stage
  WentWrong : Flaw → Stage

pub record Alone : Type 0 where
  pub stage : Stage
  pub slots : Slots

-- the state of an edge after a turn
abbrev pub after : Local → Slots → Turn → Alone
after l slots (Goes did m) = record { stage = Runs m; slots = slots }
after l slots (Sets s v m) = record { stage = Runs m; slots = slice_set slots s (Some v) }
after l slots (Asks q) = record { stage = Runs (asking l); slots = slots }
after l slots Ends = record { stage = Ended l.ran; slots = slots }
after l slots (Fails cause) = record { stage = Failed cause; slots = slots }
after l slots (Wrong flaw) = record { stage = WentWrong flaw; slots = slots }

abbrev pub at_begin : Slots → Alone
at_begin slots = record { stage = Runs begun; slots = slots }

-- n events lead from one state to another; `told` is the list of the questions and their replies, in order
pub data RunsAlone (meaning : Meaning) (p : Parts) (e : ℕ) : ℕ → Alone → List (Request × Reply) → Alone → Type 0 where
  rests : {x : Alone} → RunsAlone meaning p e 0 x [] x
  steps : {n : ℕ} {l : Local} {slots : Slots} {told : List (Request × Reply)} {x : Alone} → l.asked ≡ false
      → RunsAlone meaning p e n (after l slots (turn p e slots l)) told x
      → RunsAlone meaning p e (suc n) (record { stage = Runs l; slots = slots }) told x
  hears : {n : ℕ} {l : Local} {slots : Slots} {q : Request} {r : Reply} {t : Turn} {told : List (Request × Reply)} {x : Alone}
      → question p e slots l ≡ Some q → heard meaning p e l r ≡ Some t
      → RunsAlone meaning p e n (after l slots t) told x
      → RunsAlone meaning p e (suc n) (record { stage = Runs l; slots = slots }) ((q, r) ∷ told) x

-- it didn't go wrong, and if it ended, its slots are set
abbrev pub IsFine : Parts → ℕ → Slots → Stage → Type 0
IsFine p e slots (Runs l) = Unit {0}
IsFine p e slots (Ended ran) = AreOwnSet p e slots
IsFine p e slots (Failed cause) = Unit {0}
IsFine p e slots (WentWrong flaw) = ⊥

-- an edge with shapes, run alone from slots that fit, never goes wrong, and when it ends, its slots are set
abbrev pub NeverWrongAlone : Type 0
NeverWrongAlone =
    (p : Parts) (e : ℕ) → IsShapedEdge p e → (slots : Slots) → AreTyped p slots → AreLentSet p e slots
    → (meaning : Meaning) (n : ℕ) (told : List (Request × Reply)) (x : Alone) → RunsAlone meaning p e n (at_begin slots) told x → AreTyped p x.slots × IsFine p e x.slots x.stage

-- an edge run alone that has a pending question can go on with each reply that matches it
abbrev pub GoesOnAlone : Type 0
GoesOnAlone =
    (p : Parts) (e : ℕ) → IsShapedEdge p e → (slots : Slots) → AreTyped p slots → AreLentSet p e slots
    → (meaning : Meaning) (n : ℕ) (told : List (Request × Reply)) (l : Local) (now : Slots) → RunsAlone meaning p e n (at_begin slots) told (record { stage = Runs l; slots = now })
    → l.asked ≡ true → (q : Request) × (question p e now l ≡ Some q) × ((r : Reply) → suits q r ≡ true → IsSome (heard meaning p e l r))
