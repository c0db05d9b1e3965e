-- What an edge observes before its command: the questions that the rule decides by, each with its reply.
use Rattle.std.specs.Prelude.{◌≡◌, ◌<◌, ℕ, Bool, List, [], ◌∷◌, ◌++◌, length, Option, Some, None}
use Rattle.plan_verify.specs.Turn.{Request, Stat, Recall, Reply as Answer, StampIs, Entry, Nothing}
use Rattle.plan_compile.specs.Rule.{Path, Given, SourceFile, Made, Command, Recorded, asked, is_dirty, paths_in, name}

-- a question with its reply
abbrev pub Exchange : Type 0
Exchange = Request × Answer

-- ---- questions for stamps

-- files were asked for, and these were their stamps
abbrev pub file_exchanges : List Path → List ℕ → List Exchange
file_exchanges (path ∷ paths) (t ∷ ts) = (Stat path, StampIs t) ∷ file_exchanges paths ts
file_exchanges _ _ = []

-- inputs have these stamps, and the source files among them were asked for
abbrev pub input_exchanges : List Given → List ℕ → List Exchange
input_exchanges (SourceFile f path ∷ others) (t ∷ ts) = (Stat path, StampIs t) ∷ input_exchanges others ts
input_exchanges (Made stamp changed ∷ others) (t ∷ ts) = input_exchanges others ts
input_exchanges _ _ = []

-- a source file exists; an input that an edge makes has the stamp that this edge left
abbrev pub AreStamps : List Given → List ℕ → Type 0
AreStamps [] [] = Unit {0}
AreStamps (SourceFile f path ∷ others) (t ∷ ts) = (0 < t) × AreStamps others ts
AreStamps (Made stamp changed ∷ others) (t ∷ ts) = (t ≡ stamp) × AreStamps others ts
AreStamps _ _ = ⊥

-- ---- what the rule decides by

-- What an edge observed before its command: the stamps of its inputs and outputs, its entry, and the stamps of the
-- recorded paths.
pub record Observations : Type 0 where
  pub order_only : List ℕ
  pub named : List ℕ
  pub outputs : List ℕ
  pub entry : Option Recorded
  pub recorded : List ℕ

abbrev pub entry_reply : Option Recorded → Answer
entry_reply (Some entry) = Entry entry.command entry.basis entry.paths
entry_reply None = Nothing

-- The edge asked for all of this, in the rule's order, and these observations are the replies.
pub record Observes (c : Command) (o : Observations) (conversation : List Exchange) : Type 0 where
  pub order_only : AreStamps (asked c.named c.order_only) o.order_only
  pub named : AreStamps c.named o.named
  pub outputs : length o.outputs ≡ length c.outputs
  pub recorded : length o.recorded ≡ length (paths_in o.entry)
  pub is : conversation ≡ input_exchanges (asked c.named c.order_only) o.order_only ++ (input_exchanges c.named o.named ++ (file_exchanges c.outputs o.outputs ++ (Recall (name c), entry_reply o.entry) ∷ file_exchanges (paths_in o.entry) o.recorded))

abbrev pub is_dirty_by : Command → Observations → Bool
is_dirty_by c o = is_dirty c o.named o.outputs o.entry o.recorded
