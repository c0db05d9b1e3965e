-- Lemmas about edges with commands. Serves src/commands.rt and src/entries.rt.
use Rattle.std.proofs.Common.{◌≡◌, ◌++◌, ◌<◌, ◌+◌, ◌∙◌, ℕ, zero, suc, Bool, true, false, List, [], ◌∷◌, Option, Some, None, Result, Ok, Err, OnOk, refl, sym, ap, subst, arith, length, map, take, drop}
use Rattle.std.specs.Prelude.{get_or, is_some, slice_get}
use Rattle.std.proofs.lemmas.Option.{get_or_from_slice_get}
use Rattle.std.specs.List.{list_all, list_any}
use Rattle.std.proofs.lemmas.List.{length-append, length-map}
use Rattle.plan_scope.specs.Edge.{Edge as ManifestEdge}
use Rattle.plan_graph.specs.declared.graph_data.Graph.{Graph}
use Rattle.plan_verify.specs.Turn.{Recall, Stat, StampIs}
use Rattle.plan_compile.specs.declared.baseline.Baseline.{Baseline}
use Rattle.plan_compile.specs.declared.baseline.OutOfDateRule.TheVariants.{Stricter}
use Rattle.plan_compile.specs.Builds.{build_at, named_count, without_own}
use Rattle.plan_compile.specs.InteractionTree.{Left, Over, Follows}
use Rattle.plan_graph.specs.Files.{paths_in as file_paths}
use Rattle.plan_compile.specs.Rule.{Path, Command, asked, baseline_by, does, first, name, paths_in, unchanged}
use Rattle.plan_compile.specs.Told.{edge_does}
use Rattle.plan_machine.specs.Depfile.{depfile}
use Rattle.plan_machine.specs.declared.event.reply.Reply.TheVariants.{Stamp}
use Rattle.plan_lanes.specs.Journals.{Rule}
use Rattle.plan_reasons.specs.declared.facts.Facts.{Facts}
use Rattle.plan_reasons.specs.declared.facts.NamedInput.{NamedInput}
use Rattle.plan_reasons.specs.declared.reason.Reason.{Reason}
use Rattle.plan_reasons.specs.Facts.{named_input}
use Rattle.plan_reasons.specs.Observing.{AreStamps, Exchange, Observations, entry_reply, file_exchanges, input_exchanges, is_dirty_by}
use Rattle.plan_reasons.specs.Reasons.{ReasonsAreCauses, first_reason, reason_by}
use Rattle.plan_scan.specs.declared.found.Found.{Found}
use Rattle.plan_scan.specs.Scans.{AreAllowed, IsUpToDate, MayBe, facts_by, given, left_for, path_of}
use Rattle.plan_scan.specs.Steps as steps
use Rattle.plan_scan.specs.Steps.{AreFactsOf, Sees, input_stamp, is_missing, keeps_stamp, stamp_at}
use Rattle.plan_scan.proofs.RuleLemmas.{allowed_both, clean_exchanges, command_follows}
use Rattle.plan_scan.proofs.InputLemmas.{HaveStamps, all_inside, files_allowed, kept_left, keeps_inside, named_allowed, named_stamps, none_behind, none_in_front, order_only_stamps}

pub on_so : {A B : Type 0} (Q P : Type 0) (r : Result A B) → OnOk r Q → (Q → P) → OnOk r P
on_so Q P (Ok x) q so = so q
on_so Q P (Err fault) q so = tt

-- The path of a file that is in the table.
pub path_is : (g : Graph) (f : ℕ) (path : Path) → Some path ≡ slice_get (file_paths g.files) f → path ≡ path_of g f
path_is g f path is = sym (get_or_from_slice_get (file_paths g.files) f path [] (sym is))

-- ---- the stamps of recorded paths

pub stamp_may_be : (rule : Rule) (path : Path) (t : ℕ) → ((number : ℕ) → rule number (Stat path) (Stamp t)) → MayBe rule (Stat path) (StampIs t)
stamp_may_be rule path t allowed = (Stamp t, refl, (0, allowed 0))

with_path : (rule : Rule) (paths : List Path) (n : ℕ) (stamps : List ℕ) (t : ℕ) → length stamps ≡ n → n < length paths → AreAllowed rule (file_exchanges (take n paths) stamps) → MayBe rule (Stat (get_or paths n [])) (StampIs t)
    → AreAllowed rule (file_exchanges (take (suc n) paths) (stamps ++ t ∷ []))
with_path rule [] n stamps t same less are here = absurd (omega (arith, less))
with_path rule (path ∷ paths) zero [] t same less are here = (here, tt)
with_path rule (path ∷ paths) zero (s ∷ stamps) t same less are here = absurd (omega (arith, same))
with_path rule (path ∷ paths) (suc n) [] t same less are here = absurd (omega (arith, same))
with_path rule (path ∷ paths) (suc n) (s ∷ stamps) t same less are here = (are.0, with_path rule paths n stamps t (omega (arith, same)) (omega (arith, less)) are.1 here)

-- The stamps of the first paths.
abbrev pub AreFirst : Rule → List Path → ℕ → List ℕ → Type 0
AreFirst rule paths n stamps = AreAllowed rule (file_exchanges (take n paths) stamps) × (length stamps ≡ n)

-- One more path with its stamp.
pub one_more_path : (rule : Rule) (paths : List Path) (n : ℕ) (stamps more : List ℕ) (t : ℕ) → AreFirst rule paths n stamps → n < length paths → MayBe rule (Stat (get_or paths n [])) (StampIs t) → more ≡ stamps ++ t ∷ [] → AreFirst rule paths (n + 1) more
one_more_path rule paths n stamps more t are less here is =
    let long : length (stamps ++ t ∷ []) ≡ length stamps + 1 = length-append stamps (t ∷ []) in
    let same : length stamps ≡ n = are.1 in
    let plus : suc n ≡ n + 1 = omega arith in
    let first : AreAllowed rule (file_exchanges (take (n + 1) paths) (stamps ++ t ∷ [])) = subst (λ (k : ℕ). AreAllowed rule (file_exchanges (take k paths) (stamps ++ t ∷ []))) plus (with_path rule paths n stamps t same less are.0 here) in
    subst (λ (xs : List ℕ). AreFirst rule paths (n + 1) xs) (sym is) (first, omega (arith, long, same))

-- ---- the reason

-- The reason by the facts that it needs.
abbrev reason_of : (named : List NamedInput) (command : List ℕ) (generator : Bool) (baseline : Baseline) (o : Observations) → Option Reason
reason_of named command generator baseline o =
    reason_by (record { named = named; order_only = 0; outputs = 0; command = command; generator = generator; baseline = baseline }) o.named o.outputs o.entry o.recorded

-- The named inputs, as the reasons see them.
same_inputs : (g : Graph) (found : List Found) (files : List ℕ) → map (λ f. named_input (given g found f)) files ≡ map named_input (map (given g found) files)
same_inputs g found [] = refl
same_inputs g found (f ∷ files) = ap (λ (rest : List NamedInput). named_input (given g found f) ∷ rest) (same_inputs g found files)

no_reason : (o : Option Reason) → o ≡ None → is_some o ≡ false
no_reason None is = refl
no_reason (Some reason) is = absurd cc

-- An edge without a reason is clean.
is_clean : ReasonsAreCauses → (c : Command) (x : Facts) (o : Observations) → x.named ≡ map named_input c.named → x.command ≡ c.command → x.generator ≡ c.generator → x.baseline ≡ c.baseline
    → reason_by x o.named o.outputs o.entry o.recorded ≡ None → is_dirty_by c o ≡ false
is_clean causes c x o named command generator baseline none =
    let one : reason_of x.named x.command x.generator x.baseline o ≡ reason_of (map named_input c.named) c.command c.generator c.baseline o =
    ap (λ (n : List NamedInput). reason_of n x.command x.generator x.baseline o) named ∙ ap (λ (t : List ℕ). reason_of (map named_input c.named) t x.generator x.baseline o) command
    ∙ ap (λ (b : Bool). reason_of (map named_input c.named) c.command b x.baseline o) generator ∙ ap (λ (b : Baseline). reason_of (map named_input c.named) c.command c.generator b o) baseline in
    let reason : first_reason c o.named o.outputs o.entry o.recorded ≡ None = sym one ∙ none in
    sym (causes c o.named o.outputs o.entry o.recorded) ∙ no_reason (first_reason c o.named o.outputs o.entry o.recorded) reason

-- ---- the edge

-- What the edge observes, with these stamps of order-only inputs.
abbrev with_order_only : Observations → List ℕ → Observations
with_order_only o ts = record { order_only = ts; named = o.named; outputs = o.outputs; entry = o.entry; recorded = o.recorded }

-- The facts of an edge with these files.
abbrev command_with : Graph → List Found → ManifestEdge → (named order_only outputs : List ℕ) → Command
command_with g found e named order_only outputs = record {
  named = map (given g found) named;
  order_only = map (given g found) order_only;
  outputs = map (path_of g) outputs;
  command = e.command;
  depfile = e.depfile;
  restat = e.restat;
  generator = e.generator;
  baseline = baseline_by e.restat e.generator Stricter;
}

abbrev IsShown : Rule → Command → Left → Type 0
IsShown rule c left = (conversation : List Exchange) × AreAllowed rule conversation × Follows (does depfile c) conversation (Over false left)

is_shown : (rule : Rule) (c : Command) (o : Observations) (left : Left) → HaveStamps rule (asked c.named c.order_only) → AreStamps c.named o.named → AreAllowed rule (input_exchanges c.named o.named)
    → length o.outputs ≡ length c.outputs → AreAllowed rule (file_exchanges c.outputs o.outputs) → MayBe rule (Recall (name c)) (entry_reply o.entry) → length o.recorded ≡ length (paths_in o.entry)
    → AreAllowed rule (file_exchanges (paths_in o.entry) o.recorded) → is_dirty_by c o ≡ false → left ≡ unchanged o.outputs → IsShown rule c left
is_shown rule c o left order_only named named_allowed outputs outputs_allowed entry recorded recorded_allowed clean is =
    let all = with_order_only o order_only.0 in (
      clean_exchanges c all,
      allowed_both rule (input_exchanges (asked c.named c.order_only) order_only.0) _ order_only.2
          (allowed_both rule (input_exchanges c.named o.named) _ named_allowed
          (allowed_both rule (file_exchanges c.outputs o.outputs) _ outputs_allowed
          (entry, allowed_both rule (file_exchanges (paths_in o.entry) o.recorded) [] recorded_allowed tt))),
      subst (λ (l : Left). Follows (does depfile c) (clean_exchanges c all) (Over false l)) (sym is) (command_follows depfile c all order_only.1 named outputs recorded clean),
    )

-- An edge with a command isn't phony.
own_kept : (phony : Bool) (outputs inputs : List ℕ) → phony ≡ false → inputs ≡ without_own phony outputs inputs
own_kept false outputs inputs is = refl
own_kept true outputs inputs is = absurd cc

up_to_date : (phony : Bool) (rule : Rule) (c : Command) (left : Left) → phony ≡ false → IsShown rule c left → (conversation : List Exchange) × AreAllowed rule conversation × Follows (edge_does phony depfile c) conversation (Over false left)
up_to_date false rule c left is shown = shown
up_to_date true rule c left is shown = absurd cc

-- The edge is up to date, if it isn't phony.
pub command_is : ReasonsAreCauses → (rule : Rule) (g : Graph) (stamps : List ℕ) (found : List Found) (n : ℕ) (e : ManifestEdge) (x : Facts) (o : Observations) → steps.AreStamps rule g stamps → e.phony ≡ false
    → list_any (is_missing g stamps) (get_or g.inputs n []) ≡ false → list_all (keeps_stamp stamps found) (get_or g.outputs n []) ≡ true
    → AreFactsOf g found e (take (named_count e (get_or g.inputs n [])) (get_or g.inputs n [])) x
    → Sees rule g stamps found (take (named_count e (get_or g.inputs n [])) (get_or g.inputs n [])) (get_or g.outputs n []) (first (map (path_of g) (get_or g.outputs n []))) o
    → reason_by x o.named o.outputs o.entry o.recorded ≡ None → IsUpToDate rule g found (build_at Stricter g n e)
command_is causes rule g stamps found n e x o are plain there keeps facts sees none =
    let inputs = get_or g.inputs n [] in
    let outputs = get_or g.outputs n [] in
    let named = take (named_count e inputs) inputs in
    let order_only = drop (named_count e inputs) inputs in
    let c = command_with g found e named order_only outputs in
    let named_there : list_any (is_missing g stamps) named ≡ false = none_in_front (is_missing g stamps) (named_count e inputs) inputs there in
    let rest_there : list_any (is_missing g stamps) order_only ≡ false = none_behind (is_missing g stamps) (named_count e inputs) inputs there in
    let clean : is_dirty_by c o ≡ false = is_clean causes c x o (facts.0 ∙ same_inputs g found named) facts.1 facts.2 facts.3 none in
    let shown : IsShown rule c (left_for found outputs) = is_shown rule c o (left_for found outputs)
    (order_only_stamps rule g stamps found (map (given g found) named) order_only are rest_there)
    (subst (λ (ts : List ℕ). AreStamps (map (given g found) named) ts) (sym sees.0) (named_stamps g stamps found named named_there))
    (subst (λ (ts : List ℕ). AreAllowed rule (input_exchanges (map (given g found) named) ts)) (sym sees.0) (named_allowed rule g stamps found named are named_there))
    (ap (λ (ts : List ℕ). length ts) sees.1 ∙ length-map outputs (stamp_at stamps) ∙ sym (length-map outputs (path_of g)))
    (subst (λ (ts : List ℕ). AreAllowed rule (file_exchanges (map (path_of g) outputs) ts)) (sym sees.1)
    (files_allowed rule g stamps outputs are (all_inside stamps (keeps_stamp stamps found) outputs (keeps_inside stamps found) keeps)))
    sees.2 sees.3 sees.4 clean
    (kept_left stamps found outputs keeps ∙ ap (λ (ts : List ℕ). unchanged ts) (sym sees.1)) in
    let same : c ≡ facts_by g found (build_at Stricter g n e) =
    ap (λ (fs : List ℕ). command_with g found e fs order_only outputs) (own_kept e.phony outputs named plain) ∙ ap (λ (fs : List ℕ). command_with g found e (without_own e.phony outputs named) fs outputs) (own_kept e.phony outputs order_only plain) in
    let is = up_to_date e.phony rule (facts_by g found (build_at Stricter g n e)) (left_for found outputs) plain (subst (λ (d : Command). IsShown rule d (left_for found outputs)) same shown) in
    record { conversation = is.0; allowed = is.1; follows = is.2 }
