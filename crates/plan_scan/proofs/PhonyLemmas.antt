-- Lemmas about phony edges. Serves src/phonies.rt.
use Rattle.std.proofs.Common.{◌≡◌, ◌++◌, ◌∙◌, ℕ, zero, suc, Bool, true, false, List, [], ◌∷◌, Result, Ok, Err, OnOk, refl, sym, ap, subst, length, map, take, drop}
use Rattle.std.specs.Prelude.{◌||◌, ◌&&◌, ◌==◌, filter, get_or, not, nat_lt, if◌then◌else◌}
use Rattle.std.specs.List.{list_all, list_any}
use Rattle.std.proofs.lemmas.Bool.{and_parts, eqb-true, not-true}
use Rattle.std.proofs.lemmas.List.{length-map}
use Rattle.plan_scope.specs.Edge.{Edge as ManifestEdge}
use Rattle.plan_graph.specs.declared.graph_data.Graph.{Graph}
use Rattle.plan_verify.specs.Members.{is_member}
use Rattle.plan_compile.specs.declared.baseline.OutOfDateRule.TheVariants.{Stricter}
use Rattle.plan_compile.specs.Builds.{build_at, named_count, without_own}
use Rattle.plan_compile.specs.InteractionTree.{InteractionTree, Left, Over, Follows}
use Rattle.plan_compile.specs.Rule.{Path, Given, Command, alone, asked, baseline_by, does_phony, gathers, greatest, greatest_from, has_none, own_files, some_changed, stamps}
use Rattle.plan_compile.specs.Told.{edge_does}
use Rattle.plan_machine.specs.Depfile.{depfile}
use Rattle.plan_lanes.specs.Journals.{Rule}
use Rattle.plan_reasons.specs.Observing.{Exchange, file_exchanges, input_exchanges}
use Rattle.plan_scan.specs.declared.found.Found.{Found}
use Rattle.plan_scan.specs.Scans.{AreAllowed, IsUpToDate, facts_by, found_of, given, left_for, path_of}
use Rattle.plan_scan.specs.Steps as steps
use Rattle.plan_scan.specs.Steps.{agree, input_stamp, is_gathered, is_missing, stamp_at, stands_alone}
use Rattle.plan_scan.proofs.RuleLemmas.{allowed_both, inputs_follow, stamps_follow}
use Rattle.plan_scan.proofs.InputLemmas.{all_inside, files_allowed, named_allowed, named_stamps, none_behind, none_in_front, or_first, or_second, order_only_stamps, pair}

-- ---- results

pub on_shown : {A B : Type 0} (P : Type 0) (r : Result A B) (b : Bool) → OnOk r (b ≡ true) → (b ≡ true → P) → OnOk r P
on_shown P (Ok x) b so is = is so
on_shown P (Err fault) b so is = tt

-- ---- stamps and flags

pub greatest_both : (n : ℕ) (first second : List ℕ) → greatest_from n (first ++ second) ≡ greatest_from (greatest_from n first) second
greatest_both n [] second = refl
greatest_both n (t ∷ first) second = greatest_both (Rattle.plan_verify.specs.Turn.later n t) first second

pub changed_more : (x : Given) (others : List Given) → some_changed (x ∷ others) ≡ (some_changed (x ∷ []) || some_changed others)
changed_more (Rattle.plan_compile.specs.Rule.SourceFile f path) others = refl
changed_more (Rattle.plan_compile.specs.Rule.Made stamp false) others = refl
changed_more (Rattle.plan_compile.specs.Rule.Made stamp true) others = refl

agreed : (flag other : Bool) → agree flag other ≡ true → other ≡ flag
agreed true other is = is
agreed false other is = not-true other is

pair_is : (x : Found) (t : ℕ) (flag : Bool) → (x.stamp == t) ≡ true → agree flag x.changed ≡ true → pair x.stamp x.changed ≡ pair t flag
pair_is x t flag same flags = ap (λ (n : ℕ). pair n x.changed) (eqb-true x.stamp t same) ∙ ap (λ (b : Bool). pair t b) (agreed flag x.changed flags)

-- ---- the outputs

alone_inside : (stamps : List ℕ) (found : List Found) (f : ℕ) → stands_alone stamps found f ≡ true → nat_lt f (length stamps) ≡ true
alone_inside stamps found f is = (and_parts (nat_lt f (length stamps)) _ (and_parts (nat_lt f (length stamps) && ((found_of found f).stamp == stamp_at stamps f)) _ is).0).0

alone_left : (stamps : List ℕ) (found : List Found) (files : List ℕ) → list_all (stands_alone stamps found) files ≡ true → map (λ (t : ℕ). (t, t == 0)) (map (stamp_at stamps) files) ≡ left_for found files
alone_left stamps found [] all = refl
alone_left stamps found (f ∷ files) all =
    let parts = and_parts (stands_alone stamps found f) _ all in
    let flag = and_parts (nat_lt f (length stamps) && ((found_of found f).stamp == stamp_at stamps f)) _ parts.0 in
    let stamp = and_parts (nat_lt f (length stamps)) _ flag.0 in
    ap (λ (p : ℕ × Bool). p ∷ map (λ (t : ℕ). (t, t == 0)) (map (stamp_at stamps) files)) (sym (pair_is (found_of found f) (stamp_at stamps f) (stamp_at stamps f == 0) stamp.1 flag.1))
    ∙ ap (λ (rest : Left). pair (found_of found f).stamp (found_of found f).changed ∷ rest) (alone_left stamps found files parts.1)

gathered_inside : (stamps : List ℕ) (found : List Found) (t : ℕ) (flag : Bool) (f : ℕ) → is_gathered stamps found t flag f ≡ true → nat_lt f (length stamps) ≡ true
gathered_inside stamps found t flag f is = (and_parts (nat_lt f (length stamps)) _ (and_parts (nat_lt f (length stamps) && ((found_of found f).stamp == t)) _ is).0).0

gathered_left : (g : Graph) (stamps : List ℕ) (found : List Found) (t : ℕ) (flag : Bool) (files : List ℕ) → list_all (is_gathered stamps found t flag) files ≡ true
    → map (λ (path : Path). (t, flag)) (map (path_of g) files) ≡ left_for found files
gathered_left g stamps found t flag [] all = refl
gathered_left g stamps found t flag (f ∷ files) all =
    let parts = and_parts (is_gathered stamps found t flag f) _ all in
    let flags = and_parts (nat_lt f (length stamps) && ((found_of found f).stamp == t)) _ parts.0 in
    let stamp = and_parts (nat_lt f (length stamps)) _ flags.0 in
    ap (λ (p : ℕ × Bool). p ∷ map (λ (path : Path). (t, flag)) (map (path_of g) files)) (sym (pair_is (found_of found f) t flag stamp.1 flags.1))
    ∙ ap (λ (rest : Left). pair (found_of found f).stamp (found_of found f).changed ∷ rest) (gathered_left g stamps found t flag files parts.1)

-- ---- the inputs

-- A phony edge that doesn't name its own outputs keeps its inputs.
kept_by : (b : Bool) (x : ℕ) (xs ys : List ℕ) → b ≡ false → xs ≡ ys → (if not b then x ∷ xs else xs) ≡ x ∷ ys
kept_by false x xs ys is same = ap (λ (rest : List ℕ). x ∷ rest) same
kept_by true x xs ys is same = absurd cc

keeps_inputs : (outputs inputs : List ℕ) → list_any (λ f. is_member f outputs) inputs ≡ false → filter (λ f. not (is_member f outputs)) inputs ≡ inputs
keeps_inputs outputs [] none = refl
keeps_inputs outputs (f ∷ inputs) none =
    kept_by (is_member f outputs) f (filter (λ k. not (is_member k outputs)) inputs) inputs (or_first (is_member f outputs) _ none) (keeps_inputs outputs inputs (or_second (is_member f outputs) _ none))

without : (phony : Bool) (outputs inputs : List ℕ) → list_any (λ f. is_member f outputs) inputs ≡ false → inputs ≡ without_own phony outputs inputs
without true outputs inputs none = sym (keeps_inputs outputs inputs none)
without false outputs inputs none = refl

take_none : (n : ℕ) → take {A = ℕ} n [] ≡ []
take_none zero = refl
take_none (suc n) = refl

drop_none : (n : ℕ) → drop {A = ℕ} n [] ≡ []
drop_none zero = refl
drop_none (suc n) = refl

has_some : (g : Graph) (found : List Found) (n : ℕ) (xs : List ℕ) → (xs ≡ [] → ⊥) → (has_none (map (given g found) (take n xs)) && has_none (map (given g found) (drop n xs))) ≡ false
has_some g found n [] some = absurd (some refl)
has_some g found zero (x ∷ xs) some = refl
has_some g found (suc n) (x ∷ xs) some = refl

-- ---- the edge

abbrev phony_with : Graph → List Found → ManifestEdge → (named order_only outputs : List ℕ) → Command
phony_with g found e named order_only outputs = record {
  named = map (given g found) named;
  order_only = map (given g found) order_only;
  outputs = map (path_of g) outputs;
  command = e.command;
  depfile = e.depfile;
  restat = e.restat;
  generator = e.generator;
  baseline = baseline_by e.restat e.generator Stricter;
}

abbrev IsShown : Rule → InteractionTree → Left → Type 0
IsShown rule tree left = (conversation : List Exchange) × AreAllowed rule conversation × Follows tree conversation (Over false left)

phony_does : (phony : Bool) (rule : Rule) (c : Command) (left : Left) → phony ≡ true → IsShown rule (does_phony c) left → IsShown rule (edge_does phony depfile c) left
phony_does true rule c left is shown = shown
phony_does false rule c left is shown = absurd cc

chosen : (b : Bool) (rule : Rule) (one other : InteractionTree) (left : Left) → b ≡ false → IsShown rule other left → IsShown rule (if b then one else other) left
chosen false rule one other left is shown = shown
chosen true rule one other left is shown = absurd cc

own_follow : (restat generator : Bool) (outputs : List Path) (go : List ℕ → InteractionTree) (conversation : List Exchange) (end : InteractionTree) → generator ≡ false → Follows (stamps outputs go) conversation end
    → Follows (own_files (baseline_by restat generator Stricter) outputs go) conversation end
own_follow true generator outputs go conversation end is follows = follows
own_follow false false outputs go conversation end is follows = follows
own_follow false true outputs go conversation end is follows = absurd cc

alone_shown : (rule : Rule) (g : Graph) (stamps : List ℕ) (found : List Found) (outputs : List ℕ) → steps.AreStamps rule g stamps → list_all (stands_alone stamps found) outputs ≡ true → IsShown rule (alone (map (path_of g) outputs)) (left_for found outputs)
alone_shown rule g table found outputs are all =
    let ts = map (stamp_at table) outputs in
    let paths = map (path_of g) outputs in (
      file_exchanges paths ts ++ [],
      allowed_both rule (file_exchanges paths ts) [] (files_allowed rule g table outputs are (all_inside table (stands_alone table found) outputs (alone_inside table found) all)) tt,
      stamps_follow paths ts (λ (own : List ℕ). Over false (map (λ (t : ℕ). (t, t == 0)) own)) [] (Over false (left_for found outputs)) (length-map outputs (stamp_at table) ∙ sym (length-map outputs (path_of g)))
          (ap (λ (l : Left). Over false l) (alone_left table found outputs all)),
    )

gather_shown : (rule : Rule) (g : Graph) (table : List ℕ) (found : List Found) (e : ManifestEdge) (named order_only outputs : List ℕ) (t : ℕ) (flag : Bool) → steps.AreStamps rule g table → e.generator ≡ false
    → list_any (is_missing g table) named ≡ false → list_any (is_missing g table) order_only ≡ false
    → t ≡ greatest_from (greatest_from 0 (map (input_stamp g table found) named)) (map (stamp_at table) outputs) → flag ≡ some_changed (map (given g found) named)
    → list_all (is_gathered table found t flag) outputs ≡ true → IsShown rule (gathers (phony_with g found e named order_only outputs)) (left_for found outputs)
gather_shown rule g table found e named order_only outputs t flag are plain there rest_there stamp changed all =
    let gs = map (given g found) named in
    let ts = map (input_stamp g table found) named in
    let own = map (stamp_at table) outputs in
    let paths = map (path_of g) outputs in
    let asked_stamps = order_only_stamps rule g table found gs order_only are rest_there in
    let asked_inputs = asked gs (map (given g found) order_only) in
    let greatest_is : t ≡ greatest (ts ++ own) = stamp ∙ sym (greatest_both 0 ts own) in (
      input_exchanges asked_inputs asked_stamps.0 ++ (input_exchanges gs ts ++ (file_exchanges paths own ++ [])),
      allowed_both rule (input_exchanges asked_inputs asked_stamps.0) _ asked_stamps.2
          (allowed_both rule (input_exchanges gs ts) _ (named_allowed rule g table found named are there)
          (allowed_both rule (file_exchanges paths own) [] (files_allowed rule g table outputs are (all_inside table (is_gathered table found t flag) outputs (gathered_inside table found t flag) all)) tt)),
      inputs_follow asked_inputs asked_stamps.0 _ _ _ asked_stamps.1
          (inputs_follow gs ts _ _ _ (named_stamps g table found named there)
          (own_follow e.restat e.generator paths _ _ _ plain
          (stamps_follow paths own _ [] (Over false (left_for found outputs)) (length-map outputs (stamp_at table) ∙ sym (length-map outputs (path_of g)))
          (ap (λ (n : ℕ). Over false (map (λ (path : Path). (n, some_changed gs)) paths)) (sym greatest_is) ∙ ap (λ (b : Bool). Over false (map (λ (path : Path). (t, b)) paths)) (sym changed)
          ∙ ap (λ (l : Left). Over false l) (gathered_left g table found t flag outputs all))))),
    )

same_facts : (g : Graph) (found : List Found) (n : ℕ) (e : ManifestEdge) (named order_only : List ℕ) → named ≡ without_own e.phony (get_or g.outputs n []) (take (named_count e (get_or g.inputs n [])) (get_or g.inputs n []))
    → order_only ≡ without_own e.phony (get_or g.outputs n []) (drop (named_count e (get_or g.inputs n [])) (get_or g.inputs n []))
    → phony_with g found e named order_only (get_or g.outputs n []) ≡ facts_by g found (build_at Stricter g n e)
same_facts g found n e named order_only one two =
    ap (λ (fs : List ℕ). phony_with g found e fs order_only (get_or g.outputs n [])) one
    ∙ ap (λ (fs : List ℕ). phony_with g found e (without_own e.phony (get_or g.outputs n []) (take (named_count e (get_or g.inputs n [])) (get_or g.inputs n []))) fs (get_or g.outputs n [])) two

-- A phony edge with inputs.
pub gather_is : (rule : Rule) (g : Graph) (table : List ℕ) (found : List Found) (n : ℕ) (e : ManifestEdge) (t : ℕ) (flag : Bool) → steps.AreStamps rule g table → e.phony ≡ true → e.generator ≡ false
    → list_any (λ f. is_member f (get_or g.outputs n [])) (get_or g.inputs n []) ≡ false → (get_or g.inputs n [] ≡ [] → ⊥) → list_any (is_missing g table) (get_or g.inputs n []) ≡ false
    → t ≡ greatest_from (greatest_from 0 (map (input_stamp g table found) (take (named_count e (get_or g.inputs n [])) (get_or g.inputs n [])))) (map (stamp_at table) (get_or g.outputs n []))
    → flag ≡ some_changed (map (given g found) (take (named_count e (get_or g.inputs n [])) (get_or g.inputs n [])))
    → list_all (is_gathered table found t flag) (get_or g.outputs n []) ≡ true → IsUpToDate rule g found (build_at Stricter g n e)
gather_is rule g table found n e t flag are phony plain own some there stamp changed all =
    let inputs = get_or g.inputs n [] in
    let outputs = get_or g.outputs n [] in
    let count = named_count e inputs in
    let c = phony_with g found e (take count inputs) (drop count inputs) outputs in
    let shown : IsShown rule (gathers c) (left_for found outputs) = gather_shown rule g table found e (take count inputs) (drop count inputs) outputs t flag are plain
    (none_in_front (is_missing g table) count inputs there) (none_behind (is_missing g table) count inputs there) stamp changed all in
    let does : IsShown rule (does_phony c) (left_for found outputs) = chosen (has_none c.named && has_none c.order_only) rule (alone c.outputs) (gathers c) (left_for found outputs) (has_some g found count inputs some) shown in
    let same : c ≡ facts_by g found (build_at Stricter g n e) = same_facts g found n e (take count inputs) (drop count inputs)
    (without e.phony outputs (take count inputs) (none_in_front (λ f. is_member f outputs) count inputs own)) (without e.phony outputs (drop count inputs) (none_behind (λ f. is_member f outputs) count inputs own)) in
    let is = phony_does e.phony rule (facts_by g found (build_at Stricter g n e)) (left_for found outputs) phony (subst (λ (d : Command). IsShown rule (does_phony d) (left_for found outputs)) same does) in
    record { conversation = is.0; allowed = is.1; follows = is.2 }

none_without : (phony : Bool) (outputs : List ℕ) → [] ≡ without_own phony outputs []
none_without true outputs = refl
none_without false outputs = refl

-- A phony edge without inputs.
pub alone_is : (rule : Rule) (g : Graph) (table : List ℕ) (found : List Found) (n : ℕ) (e : ManifestEdge) → steps.AreStamps rule g table → e.phony ≡ true → get_or g.inputs n [] ≡ []
    → list_all (stands_alone table found) (get_or g.outputs n []) ≡ true → IsUpToDate rule g found (build_at Stricter g n e)
alone_is rule g table found n e are phony none all =
    let outputs = get_or g.outputs n [] in
    let c = phony_with g found e [] [] outputs in
    let shown : IsShown rule (does_phony c) (left_for found outputs) = alone_shown rule g table found outputs are all in
    let front : [] ≡ take (named_count e (get_or g.inputs n [])) (get_or g.inputs n []) = subst (λ (xs : List ℕ). [] ≡ take (named_count e xs) xs) (sym none) (sym (take_none (named_count e []))) in
    let back : [] ≡ drop (named_count e (get_or g.inputs n [])) (get_or g.inputs n []) = subst (λ (xs : List ℕ). [] ≡ drop (named_count e xs) xs) (sym none) (sym (drop_none (named_count e []))) in
    let same : c ≡ facts_by g found (build_at Stricter g n e) = same_facts g found n e [] []
    (none_without e.phony outputs ∙ ap (λ (xs : List ℕ). without_own e.phony outputs xs) front) (none_without e.phony outputs ∙ ap (λ (xs : List ℕ). without_own e.phony outputs xs) back) in
    let is = phony_does e.phony rule (facts_by g found (build_at Stricter g n e)) (left_for found outputs) phony (subst (λ (d : Command). IsShown rule (does_phony d) (left_for found outputs)) same shown) in
    record { conversation = is.0; allowed = is.1; follows = is.2 }
