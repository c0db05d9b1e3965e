-- The questions of an edge and its end, as a tree: a question with the continuation for each reply, or an end.
use Rattle.std.specs.Prelude.{◌≡◌, ℕ, Bool, true, false, List, [], ◌∷◌, Some}
use Rattle.plan_image.specs.declared.image.Parts.{Parts}
use Rattle.plan_verify.specs.declared.value.Cause.{Cause}
use Rattle.plan_verify.specs.Turn.{Slots, Local, Turn, Request, Reply, Meaning, turn, heard, question}
use Rattle.plan_verify.specs.Alone.{Alone, Runs, Ended, Failed, after}

-- the stamp and the changed flag of each output
abbrev pub Left : Type 0
Left = List (ℕ × Bool)

pub data InteractionTree : Type 0 where
  Ask : Request → (Reply → InteractionTree) → InteractionTree
  Over : (ran : Bool) → Left → InteractionTree
  Fail : Cause → InteractionTree

-- An edge run alone follows an interaction tree. After finitely many steps it asks the question at the root. After
-- each reply it follows the subtree for that reply. If the root is an end or a failure, the edge ends or fails like the
-- root. In no other way does it end or fail.
pub data Obeys (meaning : Meaning) (p : Parts) (e : ℕ) (Leaves : Slots → Left → Type 0) : Alone → InteractionTree → Type 0 where
  is_over : {ran : Bool} {slots : Slots} {left : Left} → Leaves slots left → Obeys meaning p e Leaves (record { stage = Ended ran; slots = slots }) (Over ran left)
  has_failed : {cause : Cause} {slots : Slots} → Obeys meaning p e Leaves (record { stage = Failed cause; slots = slots }) (Fail cause)
  moves : {l : Local} {slots : Slots} {interaction : InteractionTree} → l.asked ≡ false
      → Obeys meaning p e Leaves (after l slots (turn p e slots l)) interaction
      → Obeys meaning p e Leaves (record { stage = Runs l; slots = slots }) interaction
  asks : {l : Local} {slots : Slots} {q : Request} {k : Reply → InteractionTree} → l.asked ≡ true → question p e slots l ≡ Some q
      → ((r : Reply) (t : Turn) → heard meaning p e l r ≡ Some t → Obeys meaning p e Leaves (after l slots t) (k r))
      → Obeys meaning p e Leaves (record { stage = Runs l; slots = slots }) (Ask q k)

-- these questions and replies lead from the root of one interaction tree to a subtree
abbrev pub Follows : InteractionTree → List (Request × Reply) → InteractionTree → Type 0
Follows interaction [] rest = interaction ≡ rest
Follows (Ask q k) (x ∷ told) rest = (x.0 ≡ q) × Follows (k x.1) told rest
Follows (Over ran left) (x ∷ told) rest = ⊥
Follows (Fail cause) (x ∷ told) rest = ⊥
