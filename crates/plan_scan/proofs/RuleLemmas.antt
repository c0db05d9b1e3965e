-- Lemmas about conversations that follow the rule of a clean edge. Serves the other lemmas.
use Rattle.std.proofs.Common.{◌≡◌, ◌++◌, ℕ, zero, suc, Bool, true, false, List, [], ◌∷◌, Option, Some, None, refl, subst, arith, length}
use Rattle.std.specs.Prelude.{if◌then◌else◌}
use Rattle.plan_verify.specs.Turn.{Meaning, Recall}
use Rattle.plan_compile.specs.InteractionTree.{InteractionTree, Over, Follows}
use Rattle.plan_compile.specs.Rule.{Path, Given, SourceFile, Made, Command, Recorded, asked, does, inputs, is_dirty, name, paths_in, recalled, runs, stamps, unchanged}
use Rattle.plan_lanes.specs.Journals.{Rule}
use Rattle.plan_reasons.specs.Observing.{AreStamps, Exchange, Observations, entry_reply, file_exchanges, input_exchanges, is_dirty_by}
use Rattle.plan_scan.specs.Scans.{AreAllowed}

-- ---- what is allowed

pub allowed_both : (rule : Rule) (a b : List Exchange) → AreAllowed rule a → AreAllowed rule b → AreAllowed rule (a ++ b)
allowed_both rule [] b one two = two
allowed_both rule (x ∷ a) b one two = (one.0, allowed_both rule a b one.1 two)

-- ---- questions for stamps

pub inputs_follow : (gs : List Given) (ts : List ℕ) (go : List ℕ → InteractionTree) (rest : List Exchange) (end : InteractionTree) → AreStamps gs ts → Follows (go ts) rest end → Follows (inputs gs go) (input_exchanges gs ts ++ rest) end
inputs_follow [] [] go rest end are follows = follows
inputs_follow [] (t ∷ ts) go rest end are follows = absurd are
inputs_follow (SourceFile f path ∷ gs) [] go rest end are follows = absurd are
inputs_follow (SourceFile f path ∷ gs) (zero ∷ ts) go rest end are follows = absurd (omega (arith, are.0))
inputs_follow (SourceFile f path ∷ gs) (suc t ∷ ts) go rest end are follows = (refl, inputs_follow gs ts (λ others. go (suc t ∷ others)) rest end are.1 follows)
inputs_follow (Made stamp changed ∷ gs) [] go rest end are follows = absurd are
inputs_follow (Made stamp changed ∷ gs) (t ∷ ts) go rest end are follows =
    inputs_follow gs ts (λ others. go (stamp ∷ others)) rest end are.1 (subst (λ (n : ℕ). Follows (go (n ∷ ts)) rest end) are.0 follows)

pub stamps_follow : (paths : List Path) (ts : List ℕ) (go : List ℕ → InteractionTree) (rest : List Exchange) (end : InteractionTree) → length ts ≡ length paths → Follows (go ts) rest end → Follows (stamps paths go) (file_exchanges paths ts ++ rest) end
stamps_follow [] [] go rest end same follows = follows
stamps_follow [] (t ∷ ts) go rest end same follows = absurd (omega (arith, same))
stamps_follow (path ∷ paths) [] go rest end same follows = absurd (omega (arith, same))
stamps_follow (path ∷ paths) (t ∷ ts) go rest end same follows = (refl, stamps_follow paths ts (λ others. go (t ∷ others)) rest end (omega (arith, same)) follows)

-- ---- an edge with a command

-- What the edge does after it knows its entry.
abbrev after_entry : Meaning → Command → (named old : List ℕ) → Option Recorded → InteractionTree
after_entry meaning c named old entry = stamps (paths_in entry) (λ swept. if is_dirty c named old entry swept then runs meaning c named old else Over false (unchanged old))

entry_follows : (go : Option Recorded → InteractionTree) (entry : Option Recorded) (rest : List Exchange) (end : InteractionTree) → Follows (go entry) rest end → Follows (recalled go (entry_reply entry)) rest end
entry_follows go None rest end follows = follows
entry_follows go (Some entry) rest end follows = follows

clean_ends : (b : Bool) (dirty clean : InteractionTree) → b ≡ false → (if b then dirty else clean) ≡ clean
clean_ends false dirty clean is = refl
clean_ends true dirty clean is = absurd cc

-- the questions of a clean edge, with their replies
abbrev pub clean_exchanges : Command → Observations → List Exchange
clean_exchanges c o =
    input_exchanges (asked c.named c.order_only) o.order_only ++ (input_exchanges c.named o.named ++ (file_exchanges c.outputs o.outputs ++ ((Recall (name c), entry_reply o.entry) ∷ (file_exchanges (paths_in o.entry) o.recorded ++ []))))

pub command_follows : (meaning : Meaning) (c : Command) (o : Observations) → AreStamps (asked c.named c.order_only) o.order_only → AreStamps c.named o.named → length o.outputs ≡ length c.outputs → length o.recorded ≡ length (paths_in o.entry)
    → is_dirty_by c o ≡ false → Follows (does meaning c) (clean_exchanges c o) (Over false (unchanged o.outputs))
command_follows meaning c o order_only named outputs recorded clean =
    inputs_follow (asked c.named c.order_only) o.order_only _ _ _ order_only
    (inputs_follow c.named o.named _ _ _ named
    (stamps_follow c.outputs o.outputs _ _ _ outputs (
      refl,
      entry_follows (after_entry meaning c o.named o.outputs) o.entry _ _
          (stamps_follow (paths_in o.entry) o.recorded _ [] _ recorded
          (clean_ends (is_dirty c o.named o.outputs o.entry o.recorded) _ _ clean)),
    )))
