-- The code of an edge means the rule.
use Rattle.std.proofs.Common.{◌≡◌, ℕ, suc, ◌+◌, ◌<◌, ◌≤◌, Bool, true, false, List, [], ◌∷◌, ◌++◌, length, drop, map, Option, Some, None, refl, sym, ap, subst, ◌∙◌, arith}
use Rattle.std.specs.Prelude.{◌&&◌, not, nat_lt, if◌then◌else◌, slice_get, slice_set}
use Rattle.plan_image.specs.declared.body.Instr.{Instr}
use Rattle.plan_image.specs.declared.body.Instr.TheVariants as op
use Rattle.plan_image.specs.declared.image.Parts.{Parts}
use Rattle.plan_image.specs.Code.{code}
use Rattle.plan_verify.specs.declared.value.Value.{Value}
use Rattle.plan_verify.specs.declared.value.Value.TheVariants.{Stamp, Text, Paths}
use Rattle.plan_verify.specs.Tables.{owned_by}
use Rattle.plan_verify.specs.Turn.{Slots, Meaning, Recall}
use Rattle.plan_verify.specs.Alone.{at_begin}
use Rattle.plan_compile.specs.declared.baseline.Baseline.{Baseline}
use Rattle.plan_compile.specs.declared.baseline.Baseline.TheVariants.{Outputs, Basis, OutputsAndBasis}
use Rattle.plan_compile.specs.declared.layout.Output.{Output}
use Rattle.plan_compile.specs.declared.layout.CommandLayout.{CommandLayout}
use Rattle.plan_compile.specs.declared.layout.GatherLayout.{GatherLayout}
use Rattle.plan_compile.specs.declared.layout.EdgeLayout.{EdgeLayout}
use Rattle.plan_compile.specs.declared.layout.EdgeLayout.TheVariants as layout
use Rattle.plan_compile.specs.InteractionTree.{Left, InteractionTree, Ask, Obeys}
use Rattle.plan_compile.specs.Rule.{Given, Command, Recorded, asked, inputs, greatest, least, is_new, paths_in, is_dirty, name, recalled, stamps, own_files, alone, gathers, does, does_phony}
use Rattle.plan_compile.specs.Emit.{compares_basis, has_source_file, before_sweep_code, front, oldest_code, under_code, ready_code, ready_len, skip_code, clean_code, dirty_code, age_test_code, same_command_code, dirty_place, other_code, same_place, compare_code, known_place, pass_code, from_entry_code, alone_code, gather_code, code_of}
use Rattle.plan_compile.specs.Means.{command_of, phony_of, flag_at, flags_of, given, source_file, Leaves, IsGather, IsAlone, IsLaidOut, CodeMeans}
use Rattle.plan_compile.specs.Laws.{CommandMeans, PhonyMeans}
use Rattle.plan_compile.proofs.LaidOut.{Wired, laid_out, files, have_paths, readable, writable, of_two_kinds, flags_readable, flags_lent, any_same, changed_is, kinds_differ}
use Rattle.plan_compile.proofs.Machine.{From, plain, load, store, recall, jump, jump_if, entry_values}
use Rattle.plan_compile.proofs.Folds.{Hold, IsPositive, stored, own_slot, order_all, newest_all, stat_all, oldest_all, rerun_flag_all}
use Rattle.plan_compile.proofs.SlotFacts.{get_same, get_other, set_length, stored_length, stored_other, stored_hold, foreign_no_stamp, own_within}
use Rattle.plan_compile.proofs.Judging.{basis_in, earlier_same}
use Rattle.plan_compile.proofs.Placed.{alone_means, gathered, gather_means}
use Rattle.plan_compile.proofs.Placing.{from_entry_stands, age_test_stands, same_stands, known_stands, baseline_stands, passed_stands, dirty_stands, run_stands}
use Rattle.plan_compile.proofs.Whole.{app_long, ready_long, hold_some, Ready, Gives, below, below_roomy, age_test_all, same_command_by, weighs, other_all, same_all, drop_two, ends_as}

pub not_true : (b : Bool) → not b ≡ true → b ≡ false
not_true true h = absurd cc
not_true false h = refl

pub not_false : (b : Bool) → not b ≡ false → b ≡ true
not_false true h = refl
not_false false h = absurd cc

pub skip_long : (basis : Bool) (rest : List Instr) → length rest < length (skip_code basis rest)
skip_long true rest = omega arith
skip_long false rest = omega arith

pub ready_some : (b : Baseline) (w : CommandLayout) (rest : List Instr) → 0 < length (ready_code b w rest)
ready_some Outputs w rest = omega arith
ready_some Basis w rest = omega arith
ready_some OutputsAndBasis w rest =
    let tail : List Instr = op.Older ∷ under_code (not (has_source_file w.named)) w rest in
    let h : length tail ≤ length (oldest_code w.outputs ++ tail) = app_long (oldest_code w.outputs) tail in
    omega (arith, h)

module _ (meaning : Meaning) (p : Parts) (e : ℕ) (w : CommandLayout) (start : Slots) (order_only : List Given) (laid_out : Wired p e w start) where
  abbrev pub M : Slots → Left → Type 0
  M = Leaves w.outputs

  abbrev pub d : Command
  d = command_of p start w order_only

  abbrev pub Settled : Slots → List ℕ → Type 0
  Settled slots named = Ready meaning p e w start order_only laid_out slots named

  abbrev pub under : Bool → List ℕ → ℕ → List Value
  under r old n = below meaning p e w start order_only laid_out r old n

  -- the interaction tree that remains when the entry is known
  abbrev pub interaction_after : List ℕ → List ℕ → Option Recorded → InteractionTree
  interaction_after named old o = stamps (paths_in o) (λ swept. ends_as meaning p e w start order_only laid_out named old (is_dirty d named old o swept))

  -- ---- up to the entry

  pub before_sweep_all : (r : Bool) (rest : List Instr) (interaction : InteractionTree) (slots : Slots) (named old : List ℕ) → Settled slots named → Hold slots w.outputs old
      → From meaning p e M rest (under r old (greatest named)) slots false false interaction → From meaning p e M (before_sweep_code r w rest) [] slots false false interaction
  before_sweep_all true rest interaction slots named old ready hold h = h
  before_sweep_all false rest interaction slots named old ready hold h =
      oldest_all meaning p e M w.outputs old [] refl hold
      (load meaning p e M w.newest (Stamp (greatest named)) ready.newest refl
      (rerun_flag_all meaning p e M (not (has_source_file w.named)) w.outputs old w.flags start (Stamp (greatest named) ∷ Stamp (least old) ∷ []) refl hold laid_out.flags ready.foreign h))

  pub front_all : asked (map (given p start) w.named) order_only ≡ map (source_file p) w.order_only → (rest : List Instr)
      → ((named old : List ℕ) (slots : Slots) (o : Option Recorded) → IsPositive w.named (greatest named) → Settled slots named → Hold slots w.outputs old
      → From meaning p e M rest (entry_values o (under (compares_basis w.baseline) old (greatest named))) slots false false (interaction_after named old o))
      → From meaning p e M (front w rest) [] start false false (does meaning d)
  front_all given_is rest h =
      let after : List ℕ → InteractionTree = λ ignored. inputs d.named (λ named. stamps d.outputs (λ old. Ask (Recall (name d)) (recalled (λ o. interaction_after named old o)))) in
      subst (λ (gs : List Given). From meaning p e M (front w rest) [] start false false (inputs gs after)) (sym given_is)
      (order_all meaning p e M w.order_only after laid_out.order_only λ ignored.
      newest_all meaning p e M w.named _ laid_out.named λ named positive.
      let own = own_slot e (slice_get p.slots w.newest) laid_out.newest in
      let kept : Slots = slice_set start w.newest (Some (Stamp (greatest named))) in
      let table : length kept ≡ length p.slots = set_length start w.newest (Some (Stamp (greatest named))) ∙ laid_out.table in
      store meaning p e M w.newest (Stamp (greatest named)) own.0 own.1 own.2
      (stat_all meaning p e M w.outputs kept _ laid_out.outputs λ old m.
      let slots : Slots = stored kept w.outputs old in
      let hold : Hold slots w.outputs old = stored_hold p e kept w.outputs old table laid_out.outputs laid_out.apart m in
      let ready : Settled slots named = record {
        newest = stored_other kept w.outputs old w.newest laid_out.newest_stamp ∙ get_same start w.newest (Some (Stamp (greatest named))) (own_within p e start w.newest laid_out.table laid_out.newest);
        table = stored_length kept w.outputs old ∙ table;
        foreign = λ s away. stored_other kept w.outputs old s (foreign_no_stamp p e w.outputs s laid_out.outputs away)
            ∙ get_other start w.newest s (Some (Stamp (greatest named))) (λ same. let mine : owned_by e (slice_get p.slots s) ≡ true = subst (λ (i : ℕ). owned_by e (slice_get p.slots i) ≡ true) (sym same) laid_out.newest in absurd (cc));
      } in
      before_sweep_all (compares_basis w.baseline) (op.Recall ∷ rest) _ slots named old ready hold
      (recall meaning p e M (name d) laid_out.name (entry_low (compares_basis w.baseline) old (greatest named)) λ o. h named old slots o positive ready hold)))
    where
      entry_low : (r : Bool) (old : List ℕ) (n : ℕ) → nat_lt 64 (length (entry_values None (under r old n))) ≡ false
      entry_low true old n = refl
      entry_low false old n = refl

  -- ---- from the entry on

  pub same_command_all : (at : ℕ) → drop at (code p e) ≡ same_command_code w at → (slots : Slots) (named old : List ℕ) (o : Option Recorded) (b : ℕ) → IsPositive w.named (greatest named) → Settled slots named → Hold slots w.outputs old
      → (not d.generator && is_new d.command o) ≡ false → Gives meaning p e w start order_only laid_out w.baseline b old o
      → From meaning p e M (same_command_code w at) (Stamp b ∷ Paths 0 (paths_in o) ∷ under (compares_basis w.baseline) old (greatest named)) slots false false (interaction_after named old o)
  same_command_all at stands slots named old o b positive ready hold same known =
      let place : ℕ = at + ready_len w in
      let age_test : drop place (code p e) ≡ age_test_code w place = age_test_stands (code p e) w at stands in
      same_command_by meaning p e w start order_only laid_out w.baseline refl (age_test_code w place) (interaction_after named old o) slots named old o b ready hold known λ m baseline_is.
      age_test_all meaning p e w start order_only laid_out place slots named old o _ m ready hold
      (weighs meaning p e w start order_only laid_out w.baseline (has_source_file w.named) refl refl named old o m (hold_some slots w.outputs old hold laid_out.some) same positive baseline_is)
      (dirty_stands (code p e) w place age_test) (run_stands (code p e) w place age_test)

  -- a command that doesn't differ was recorded
  pub baseline_known : (b : Baseline) (old : List ℕ) (o : Option Recorded) → is_new d.command o ≡ false → Gives meaning p e w start order_only laid_out b (basis_in o) old o
  baseline_known Outputs old o same = tt
  baseline_known Basis old (Some y) same = refl
  baseline_known Basis old None same = absurd cc
  baseline_known OutputsAndBasis old (Some y) same = refl
  baseline_known OutputsAndBasis old None same = absurd cc

  -- the basis of an entry gives the baseline
  pub entry_gives : (b : Baseline) (old : List ℕ) (y : Recorded) → Gives meaning p e w start order_only laid_out b y.basis old (Some y)
  entry_gives Outputs old y = tt
  entry_gives Basis old y = refl
  entry_gives OutputsAndBasis old y = refl

  -- without an entry, the stamp of the oldest output gives the baseline
  pub none_gives : (b : Baseline) (old : List ℕ) → Gives meaning p e w start order_only laid_out b (least old) old None
  none_gives Outputs old = tt
  none_gives Basis old = refl
  none_gives OutputsAndBasis old = earlier_same (least old)

  pub compare_all : w.generator ≡ false → (at : ℕ) → drop at (code p e) ≡ compare_code w at
      → (slots : Slots) (named old : List ℕ) (o : Option Recorded) → IsPositive w.named (greatest named) → Settled slots named → Hold slots w.outputs old
      → From meaning p e M (compare_code w at) (entry_values o (under (compares_basis w.baseline) old (greatest named))) slots false false (interaction_after named old o)
  compare_all plain at stands slots named old o positive ready hold =
      let place : ℕ = same_place w at in
      let dirty : ℕ = dirty_place w place in
      let judged : List Instr = same_command_code w place in
      let same_command_at : drop place (code p e) ≡ judged = same_stands (code p e) w at stands in
      let age_test : drop (place + ready_len w) (code p e) ≡ age_test_code w (place + ready_len w) = age_test_stands (code p e) w place same_command_at in
      let deep : List Value = under (compares_basis w.baseline) old (greatest named) in
      let skip : suc (suc (suc (suc (length judged)))) < length (other_code w dirty judged) = skip_long (compares_basis w.baseline) (op.Sweep ∷ op.Drop ∷ op.Drop ∷ op.Jump dirty ∷ judged) in
      let tail : List Instr = clean_code w ++ (op.End ∷ dirty_code w) in
      let long : suc (length (dirty_code w)) ≤ length tail = app_long (clean_code w) (op.End ∷ dirty_code w) in
      let longer : length (age_test_code w (place + ready_len w)) ≤ length judged = ready_long w.baseline w (age_test_code w (place + ready_len w)) in
      same_all meaning p e w start order_only laid_out w.blank refl deep (below_roomy meaning p e w start order_only laid_out (compares_basis w.baseline) old (greatest named)) o
      (jump_if meaning p e M place judged (not (is_new d.command o)) same_command_at (omega (arith, skip)) (ready_some w.baseline w (age_test_code w (place + ready_len w))) (low (compares_basis w.baseline) old (greatest named) (basis_in o) (paths_in o))
      (λ same. same_command_all place same_command_at slots named old o (basis_in o) positive ready hold
      (ap (λ (b : Bool). not b && is_new d.command o) plain ∙ not_true (is_new d.command o) same) (baseline_known w.baseline old o (not_true (is_new d.command o) same)))
      (λ other. other_all meaning p e w start order_only laid_out judged dirty slots named old o (basis_in o) (greatest named) ready hold
      (ap (λ (b : Bool). not b && is_new d.command o) plain ∙ not_false (is_new d.command o) other) (dirty_stands (code p e) w (place + ready_len w) age_test) (omega (arith, long, longer))))
    where
      low : (r : Bool) (old : List ℕ) (n b : ℕ) (ps : List (List ℕ)) → nat_lt 64 (length (Stamp b ∷ Paths 0 ps ∷ under r old n)) ≡ false
      low true old n b ps = refl
      low false old n b ps = refl

  -- a generator that compares the basis, when a stamp that gives its baseline is above the paths
  pub by_baseline : (at : ℕ) → drop at (code p e) ≡ same_command_code w at → (slots : Slots) (named old : List ℕ) (o : Option Recorded) (b : ℕ) → IsPositive w.named (greatest named) → Settled slots named → Hold slots w.outputs old
      → compares_basis w.baseline ≡ true → w.generator ≡ true → Gives meaning p e w start order_only laid_out w.baseline b old o
      → From meaning p e M (same_command_code w at) (Stamp b ∷ Paths 0 (paths_in o) ∷ []) slots false false (interaction_after named old o)
  by_baseline at stands slots named old o b positive ready hold is gen known =
      subst (λ (r : Bool). From meaning p e M (same_command_code w at) (Stamp b ∷ Paths 0 (paths_in o) ∷ under r old (greatest named)) slots false false (interaction_after named old o)) is
      (same_command_all at stands slots named old o b positive ready hold (ap (λ (x : Bool). not x && is_new d.command o) gen) known)

  pub pass_all : (r : Bool) → compares_basis w.baseline ≡ r → w.generator ≡ true → (at : ℕ) → drop at (code p e) ≡ pass_code r w at
      → (slots : Slots) (named old : List ℕ) (o : Option Recorded) → IsPositive w.named (greatest named) → Settled slots named → Hold slots w.outputs old
      → From meaning p e M (pass_code r w at) (entry_values o (under r old (greatest named))) slots false false (interaction_after named old o)
  pass_all false is gen at stands slots named old o positive ready hold =
      drop_two meaning p e w start order_only laid_out (under false old (greatest named)) refl o
      (subst (λ (r : Bool). From meaning p e M (same_command_code w (at + 2)) (Stamp (basis_in o) ∷ Paths 0 (paths_in o) ∷ under r old (greatest named)) slots false false (interaction_after named old o)) is
      (same_command_all (at + 2) (passed_stands (code p e) w at stands) slots named old o (basis_in o) positive ready hold
      (ap (λ (b : Bool). not b && is_new d.command o) gen) (dropped w.baseline is)))
    where
      dropped : (b : Baseline) → compares_basis b ≡ false → Gives meaning p e w start order_only laid_out b (basis_in o) old o
      dropped Outputs is = tt
      dropped Basis is = absurd cc
      dropped OutputsAndBasis is = absurd cc
  pass_all true is gen at stands slots named old (Some y) positive ready hold =
      let place : ℕ = known_place w at in
      let judged : List Instr = same_command_code w (place + 1) in
      let oldest : List Instr = oldest_code w.outputs in
      let long : length (op.Jump (place + 1) ∷ op.Drop ∷ judged) ≤ length (oldest ++ (op.Jump (place + 1) ∷ op.Drop ∷ judged)) = app_long oldest (op.Jump (place + 1) ∷ op.Drop ∷ judged) in
      jump_if meaning p e M place (op.Drop ∷ judged) true (known_stands (code p e) w at stands) (omega (arith, long)) (omega arith) refl
      (λ entry. plain meaning p e M op.Drop (Text y.command ∷ Stamp y.basis ∷ Paths 0 y.paths ∷ []) (Stamp y.basis ∷ Paths 0 y.paths ∷ []) (λ l. refl) refl refl
      (by_baseline (place + 1) (baseline_stands (code p e) w at stands) slots named old (Some y) y.basis positive ready hold is gen (entry_gives w.baseline old y)))
      (λ none. absurd cc)
  pass_all true is gen at stands slots named old None positive ready hold =
      let place : ℕ = known_place w at in
      let judged : List Instr = same_command_code w (place + 1) in
      let oldest : List Instr = oldest_code w.outputs in
      let long : length (op.Jump (place + 1) ∷ op.Drop ∷ judged) ≤ length (oldest ++ (op.Jump (place + 1) ∷ op.Drop ∷ judged)) = app_long oldest (op.Jump (place + 1) ∷ op.Drop ∷ judged) in
      jump_if meaning p e M place (op.Drop ∷ judged) false (known_stands (code p e) w at stands) (omega (arith, long)) (omega arith) refl
      (λ none. absurd cc)
      (λ no_entry. plain meaning p e M op.Drop (Text [] ∷ Stamp 0 ∷ Paths 0 [] ∷ []) (Stamp 0 ∷ Paths 0 [] ∷ []) (λ l. refl) refl refl
      (plain meaning p e M op.Drop (Stamp 0 ∷ Paths 0 [] ∷ []) (Paths 0 [] ∷ []) (λ l. refl) refl refl
      (oldest_all meaning p e M w.outputs old (Paths 0 [] ∷ []) refl hold
      (jump meaning p e M (place + 1) judged (baseline_stands (code p e) w at stands) (omega arith) (ready_some w.baseline w (age_test_code w (place + 1 + ready_len w))) refl
      (by_baseline (place + 1) (baseline_stands (code p e) w at stands) slots named old None (least old) positive ready hold is gen (none_gives w.baseline old))))))

  pub from_entry_all : (g : Bool) → w.generator ≡ g → (at : ℕ) → drop at (code p e) ≡ from_entry_code g w at
      → (slots : Slots) (named old : List ℕ) (o : Option Recorded) → IsPositive w.named (greatest named) → Settled slots named → Hold slots w.outputs old
      → From meaning p e M (from_entry_code g w at) (entry_values o (under (compares_basis w.baseline) old (greatest named))) slots false false (interaction_after named old o)
  from_entry_all true gen at stands slots named old o positive ready hold = pass_all (compares_basis w.baseline) refl gen at stands slots named old o positive ready hold
  from_entry_all false plain at stands slots named old o positive ready hold = compare_all plain at stands slots named old o positive ready hold

-- the code of a command edge
pub command_means : CommandMeans
command_means p e w is right meaning slots order_only typed lent given_is =
    let layout_of : Wired p e w slots = laid_out p e slots typed lent w right in
    (front_all meaning p e w slots order_only layout_of given_is (from_entry_code w.generator w (length (front w [])))
    (λ named old later o positive ready hold.
    from_entry_all meaning p e w slots order_only layout_of w.generator refl (length (front w [])) (from_entry_stands (code p e) w is) later named old o positive ready hold)).go 0 is

-- the code of a phony with inputs
pub gathers_means : (p : Parts) (e : ℕ) (g : GatherLayout) → code p e ≡ gather_code g → IsGather p e g → CodeMeans p e (layout.Gather g)
gathers_means p e g is right meaning slots order_only typed lent given_is =
    let c : Command = phony_of p slots g.named g.outputs g.baseline order_only in
    let after : List ℕ → InteractionTree = λ ignored. inputs c.named (λ ts. own_files c.baseline c.outputs (gathered meaning p e g slots ts)) in
    let obeys = gather_means meaning p e g slots is typed.table right.own
    (readable p e slots typed lent g.named right.named) (flags_readable p e slots typed lent g.flags (flags_lent p e g.named g.flags right.named right.flags))
    (any_same (λ s. flag_at slots s) g.flags (flags_of g.named) right.flags ∙ changed_is p e slots typed lent g.named) (files p e g.order_only right.order_only)
    (have_paths p e g.outputs right.files) right.share right.stamp.0 right.changed.0 (λ same. kinds_differ p g.changed g.stamp right.changed.1 right.stamp.1 (sym same)) in
    subst (λ (t : InteractionTree). Obeys meaning p e (Leaves g.outputs) (at_begin slots) t) (sym (ap (λ (b : Bool). if b then alone c.outputs else gathers c) given_is.1))
    (subst (λ (gs : List Given). Obeys meaning p e (Leaves g.outputs) (at_begin slots) (inputs gs after)) (sym given_is.0) obeys)

-- the code of a phony without inputs
pub lone_means : (p : Parts) (e : ℕ) (outputs : List Output) → code p e ≡ alone_code outputs → IsAlone p e outputs → CodeMeans p e (layout.Alone outputs)
lone_means p e outputs is right meaning slots order_only typed lent none =
    subst (λ (gs : List Given). Obeys meaning p e (Leaves outputs) (at_begin slots) (does_phony (phony_of p slots [] outputs Outputs gs))) (sym none)
    (alone_means meaning p e outputs right.own slots is typed.table (writable p e outputs right.outputs) right.apart (of_two_kinds p e outputs right.outputs) right.flags)

pub phony_means : PhonyMeans
phony_means = record { gather = gathers_means; alone = lone_means }

-- the code of any edge
pub edge_means : (p : Parts) (e : ℕ) (w : EdgeLayout) → code p e ≡ code_of w → IsLaidOut p e w → CodeMeans p e w
edge_means p e (layout.Command w) is right = command_means p e w is right
edge_means p e (layout.Gather g) is right = gathers_means p e g is right
edge_means p e (layout.Alone outputs) is right = lone_means p e outputs is right
