-- Conversations of one edge, worked out: `b` is made from the source file `a` by the command `c`.
use Rattle.std.proofs.Common.{◌≡◌, ℕ, zero, suc, ◌<◌, Bool, true, false, Ok, List, [], ◌∷◌, ◌++◌, length, Option, Some, None, refl, sym, ap, ◌∙◌, subst, arith}
use Rattle.std.specs.Prelude.{◌||◌, ◌==◌, slice_get}
use Rattle.std.proofs.lemmas.Bool.{eqb-true}
use Rattle.plan_image.specs.declared.image.Parts.{Parts}
use Rattle.plan_verify.specs.Members.{is_member}
use Rattle.plan_verify.specs.Tables.{waits_of}
use Rattle.plan_verify.specs.Turn.{Meaning, Stat, Recall, Run, Keep, StampIs, Entry, Nothing, Exit, Kept}
use Rattle.plan_compile.specs.declared.baseline.OutOfDateRule.TheVariants.{Specified}
use Rattle.plan_compile.specs.InteractionTree.{Left, Over, Follows}
use Rattle.plan_compile.specs.Rule.{Path, SourceFile, Command, Recorded, baseline_by, paths_in, is_dirty}
use Rattle.plan_compile.specs.Told.{edge_does}
use Rattle.plan_machine.specs.declared.event.Mark.{Mark}
use Rattle.plan_machine.specs.declared.event.Mark.TheVariants.{Started, Ended}
use Rattle.plan_machine.specs.declared.event.reply.Reply.TheVariants as reply
use Rattle.plan_lanes.specs.Journals.{Rule}
use Rattle.plan_reasons.specs.Observing.{Exchange, AreStamps, file_exchanges, input_exchanges, entry_reply, Observations}
use Rattle.plan_laws.specs.Ends.{WasClean, CommandSucceeded, Succeeds, commands_in}
use Rattle.plan_laws.specs.Manifests.{AreOwnRuns}
use Rattle.plan_laws.specs.Right.{AreReplies, BeganInOrder}
use Rattle.plan_laws.proofs.OnceLemmas.{commands_run_once}

abbrev a : Path
a = 97 ∷ []

abbrev b : Path
b = 98 ∷ []

abbrev c : List ℕ
c = 99 ∷ []

abbrev edge : Command
edge = record { named = SourceFile 0 a ∷ []; order_only = []; outputs = b ∷ []; command = c; depfile = []; restat = false; generator = false; baseline = baseline_by false false Specified }

abbrev no_paths : Meaning
no_paths bytes = Ok []

-- the output is missing, and was never built
abbrev dirty : List Exchange
dirty = (Stat a, StampIs 5) ∷ (Stat b, StampIs 0) ∷ (Recall b, Nothing) ∷ []

-- the output is newer, and the same command made it
abbrev clean : List Exchange
clean = (Stat a, StampIs 5) ∷ (Stat b, StampIs 7) ∷ (Recall b, Entry c 5 []) ∷ []

-- the entry is kept with the input's stamp, and the output is there
abbrev afterwards : List Exchange
afterwards = (Keep b c 5 [], Kept) ∷ (Stat b, StampIs 7) ∷ []

-- ---- what follows the rule

-- the command runs, and the entry is kept
pub runs_row : Follows (edge_does false no_paths edge) (dirty ++ (Run c (b ∷ []), Exit 0) ∷ afterwards) (Over true ((7, true) ∷ []))
runs_row = (refl, (refl, (refl, (refl, (refl, (refl, refl))))))

-- nothing runs
pub clean_row : Follows (edge_does false no_paths edge) clean (Over false ((7, false) ∷ []))
clean_row = (refl, (refl, (refl, refl)))

-- an edge whose command fails doesn't succeed
pub failed_row : (left : Left) → Follows (edge_does false no_paths edge) (dirty ++ (Run c (b ∷ []), Exit 1) ∷ []) (Over true left) → ⊥
failed_row left f = let fails = f.1.1.1.1 in cc

-- nor does an edge that is out of date and doesn't run its command
pub skipped_row : (left : Left) → Follows (edge_does false no_paths edge) dirty (Over false left) → ⊥
skipped_row left f = let asks = f.1.1.1 in cc

-- nor one that runs another command
pub other_row : (left : Left) → Follows (edge_does false no_paths edge) (dirty ++ (Run [] (b ∷ []), Exit 0) ∷ []) (Over true left) → ⊥
other_row left f = let asks : Run [] (b ∷ []) ≡ Run c (b ∷ []) = f.1.1.1.0 in cc

pub own_row : AreOwnRuns edge (dirty ++ (Run c (b ∷ []), Exit 0) ∷ afterwards)
own_row = (tt, (tt, (tt, ((refl, refl), (tt, (tt, tt))))))

pub foreign_row : AreOwnRuns edge (dirty ++ (Run [] (b ∷ []), Exit 0) ∷ []) → ⊥
foreign_row h = let same : [] ≡ c = h.1.1.1.0.0 in cc

-- ---- how an edge succeeded

abbrev seen : (output : ℕ) → Option Recorded → Observations
seen output entry = record { order_only = []; named = 5 ∷ []; outputs = output ∷ []; entry = entry; recorded = [] }

abbrev entry : Recorded
entry = record { command = c; basis = 5; paths = [] }

pub succeeded_row : CommandSucceeded no_paths edge (dirty ++ (Run c (b ∷ []), Exit 0) ∷ afterwards) ((7, true) ∷ [])
succeeded_row = record {
  observations = seen 0 None;
  before = dirty;
  observes = record { order_only = tt; named = (omega arith, tt); outputs = refl; recorded = refl; is = refl };
  dirty = refl;
  paths = [];
  reading = [];
  reads = (refl, refl);
  path_stamps = [];
  all_paths = refl;
  new = 7 ∷ [];
  all_outputs = refl;
  is = refl;
  changes = refl;
}

pub was_clean_row : WasClean edge clean ((7, false) ∷ [])
was_clean_row = record {
  observations = seen 7 (Some entry);
  observes = record { order_only = tt; named = (omega arith, tt); outputs = refl; recorded = refl; is = refl };
  clean = refl;
  keeps = refl;
}

abbrev first_exit : List Exchange → ℕ
first_exit ((q, Exit n) ∷ conversation) = n
first_exit _ = 0

-- an edge whose command failed hasn't succeeded, whatever came before and after
pub failed_command_row : (before after : List Exchange) (left : Left) → commands_in (before ++ (Run c (b ∷ []), Exit 1) ∷ after) ≡ (Run c (b ∷ []), Exit 1) ∷ []
    → Succeeds false no_paths edge true (before ++ (Run c (b ∷ []), Exit 1) ∷ after) left → ⊥
failed_command_row before after left one h =
    let once = commands_run_once false no_paths edge (before ++ (Run c (b ∷ []), Exit 1) ∷ after) true left h in
    let same : ◌≡◌ {A = List Exchange} ((Run c (b ∷ []), Exit 1) ∷ []) ((Run c (b ∷ []), Exit 0) ∷ []) = sym one ∙ once in
    let clash : 1 ≡ 0 = ap first_exit same in
    omega (arith, clash)

-- nor has an edge that ran its command twice
pub twice_row : (left : Left) → Succeeds false no_paths edge true (dirty ++ (Run c (b ∷ []), Exit 0) ∷ (Run c (b ∷ []), Exit 0) ∷ afterwards) left → ⊥
twice_row left h =
    let once : ◌≡◌ {A = List Exchange} ((Run c (b ∷ []), Exit 0) ∷ (Run c (b ∷ []), Exit 0) ∷ []) ((Run c (b ∷ []), Exit 0) ∷ []) =
    commands_run_once false no_paths edge (dirty ++ (Run c (b ∷ []), Exit 0) ∷ (Run c (b ∷ []), Exit 0) ∷ afterwards) true left h in
    let clash : 2 ≡ 1 = ap length once in
    omega (arith, clash)

abbrev second_stamp : List Exchange → ℕ
second_stamp (x ∷ (q, StampIs n) ∷ conversation) = n
second_stamp _ = 0

abbrev has_entry : List Exchange → Bool
has_entry [] = false
has_entry ((q, Entry command basis paths) ∷ conversation) = true
has_entry (x ∷ conversation) = has_entry conversation

-- an edge whose output is missing isn't clean
not_clean : (order_only named outputs recorded : List ℕ) (found : Option Recorded) → AreStamps [] order_only → AreStamps (SourceFile 0 a ∷ []) named → length outputs ≡ 1 → length recorded ≡ length (paths_in found)
    → dirty ≡ input_exchanges [] order_only ++ (input_exchanges (SourceFile 0 a ∷ []) named ++ (file_exchanges (b ∷ []) outputs ++ (Recall b, entry_reply found) ∷ file_exchanges (paths_in found) recorded))
    → is_dirty edge named outputs found recorded ≡ false → ⊥
not_clean [] (t ∷ []) (u ∷ []) [] None o n l m is untouched =
    let missing : 0 ≡ u = ap second_stamp is in
    let clash : true ≡ false = ap (λ (v : ℕ). is_dirty edge (t ∷ []) (v ∷ []) None []) missing ∙ untouched in
    cc
not_clean [] (t ∷ []) (u ∷ []) (v ∷ recorded) None o n l m is untouched = omega (arith, m)
not_clean [] (t ∷ []) (u ∷ []) recorded (Some e) o n l m is untouched =
    let clash : false ≡ true = ap has_entry is in
    cc
not_clean [] (t ∷ []) [] recorded found o n l m is untouched = omega (arith, l)
not_clean [] (t ∷ []) (u ∷ v ∷ outputs) recorded found o n l m is untouched = omega (arith, l)
not_clean [] [] outputs recorded found o n l m is untouched = absurd n
not_clean [] (t ∷ u ∷ named) outputs recorded found o n l m is untouched = absurd n.1
not_clean (t ∷ order_only) named outputs recorded found o n l m is untouched = absurd o

pub missing_output_row : (left : Left) → WasClean edge dirty left → ⊥
missing_output_row left w =
    let o = w.observations in
    not_clean o.order_only o.named o.outputs o.recorded o.entry w.observes.order_only w.observes.named w.observes.outputs w.observes.recorded w.observes.is w.clean

-- ---- runs

-- a conversation has the replies of the run, and no others
pub replies_row : (allows : Rule) → AreReplies allows (reply.Exit 1 ∷ []) ((Run c (b ∷ []), Exit 0) ∷ []) → ⊥
replies_row allows h = let same : Exit 0 ≡ Exit 1 = h.0 in cc

pub unanswered_row : (allows : Rule) → AreReplies allows [] ((Run c (b ∷ []), Exit 0) ∷ []) → ⊥
unanswered_row allows h = h

-- edge 1 waits for edge 0
pub order_row : (p : Parts) → waits_of p 1 ≡ 0 ∷ [] → BeganInOrder p (Started 0 ∷ Ended 0 true ∷ Started 1 ∷ []) 1
order_row p waits = record { position = 2; began = refl; after = λ w member. (1, true, omega arith, ap (λ (k : ℕ). Some (Ended k true)) (only w (subst (λ (l : List ℕ). is_member w l ≡ true) waits member))) }
  where
    one_member : (test : Bool) → (test || false) ≡ true → test ≡ true
    one_member true h = refl
    one_member false h = absurd cc

    only : (w : ℕ) → is_member w (0 ∷ []) ≡ true → 0 ≡ w
    only w h = eqb-true 0 w (one_member (0 == w) h)

-- edge 1 began too early
pub early_row : (p : Parts) → is_member 0 (waits_of p 1) ≡ true → BeganInOrder p (Started 0 ∷ Started 1 ∷ Ended 0 true ∷ []) 1 → ⊥
early_row p waits h = by h.position h.began (h.after 0 waits)
  where
    marks : List Mark
    marks = Started 0 ∷ Started 1 ∷ Ended 0 true ∷ []

    by : (n : ℕ) → slice_get marks n ≡ Some (Started 1) → (k : ℕ) × (ran : Bool) × (k < n) × (slice_get marks k ≡ Some (Ended 0 ran)) → ⊥
    by zero began ended = let clash : Some (Started 0) ≡ Some (Started 1) = began in cc
    by (suc zero) began (zero, ran, less, is) = let clash : Some (Started 0) ≡ Some (Ended 0 ran) = is in cc
    by (suc zero) began (suc k, ran, less, is) = omega (arith, less)
    by (suc (suc zero)) began ended = let clash : Some (Ended 0 true) ≡ Some (Started 1) = began in cc
    by (suc (suc (suc n))) began ended = let clash : None ≡ Some (Started 1) = began in cc
