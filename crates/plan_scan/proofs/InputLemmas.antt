-- Lemmas about the inputs and outputs of an edge. Serves the other lemmas.
use Rattle.std.proofs.Common.{◌≡◌, ◌<◌, ◌∙◌, ℕ, zero, suc, Bool, true, false, List, [], ◌∷◌, Option, Some, None, refl, sym, ap, subst, arith, length, map, take, drop}
use Rattle.std.specs.Prelude.{◌||◌, ◌&&◌, ◌==◌, get_or, not, nat_lt, if◌then◌else◌}
use Rattle.std.specs.List.{list_all, list_any}
use Rattle.std.proofs.lemmas.Bool.{and_parts, eqb-true, ltb-true, not-true}
use Rattle.plan_graph.specs.declared.graph_data.Graph.{Graph}
use Rattle.plan_graph.specs.Files.{producer_at}
use Rattle.plan_verify.specs.Turn.{Stat, StampIs}
use Rattle.plan_compile.specs.InteractionTree.{Left}
use Rattle.plan_compile.specs.Rule.{Path, Given, SourceFile, asked, is_among, unchanged}
use Rattle.plan_machine.specs.declared.event.reply.Reply.TheVariants.{Stamp}
use Rattle.plan_lanes.specs.Journals.{Rule}
use Rattle.plan_reasons.specs.Observing.{AreStamps, file_exchanges, input_exchanges}
use Rattle.plan_scan.specs.declared.found.Found.{Found}
use Rattle.plan_scan.specs.Scans.{AreAllowed, MayBe, found_of, given, given_by, left_for, path_of}
use Rattle.plan_scan.specs.Steps as steps
use Rattle.plan_scan.specs.Steps.{input_stamp, is_missing, is_missing_by, keeps_stamp, stamp_at, stamp_by}

-- ---- tests

pub or_first : (a b : Bool) → (a || b) ≡ false → a ≡ false
or_first false b is = refl
or_first true b is = absurd cc

pub or_second : (a b : Bool) → (a || b) ≡ false → b ≡ false
or_second false b is = is
or_second true b is = absurd cc

pub none_in_front : {X : Type 0} (test : X → Bool) (n : ℕ) (xs : List X) → list_any test xs ≡ false → list_any test (take n xs) ≡ false
none_in_front test zero xs none = refl
none_in_front test (suc n) [] none = refl
none_in_front test (suc n) (x ∷ xs) none =
    subst (λ (b : Bool). (b || list_any test (take n xs)) ≡ false) (sym (or_first (test x) _ none)) (none_in_front test n xs (or_second (test x) _ none))

pub none_behind : {X : Type 0} (test : X → Bool) (n : ℕ) (xs : List X) → list_any test xs ≡ false → list_any test (drop n xs) ≡ false
none_behind test zero xs none = none
none_behind test (suc n) [] none = refl
none_behind test (suc n) (x ∷ xs) none = none_behind test n xs (or_second (test x) _ none)

-- ---- the stamp of a file

within : (stamps : List ℕ) (f : ℕ) → (get_or stamps f 0 == 0) ≡ false → f < length stamps
within [] f is = absurd cc
within (t ∷ stamps) zero is = omega arith
within (t ∷ stamps) (suc f) is = let less : f < length stamps = within stamps f is in omega (arith, less)

pub may_be : (rule : Rule) (g : Graph) (stamps : List ℕ) (f : ℕ) → steps.AreStamps rule g stamps → f < length stamps → MayBe rule (Stat (path_of g f)) (StampIs (stamp_at stamps f))
may_be rule g stamps f are less = (Stamp (stamp_at stamps f), refl, (0, are f less 0))

is_there : (t : ℕ) → (t == 0) ≡ false → 0 < t
is_there zero is = absurd cc
is_there (suc t) is = omega arith

-- ---- named inputs

one_stamp : (p : Option ℕ) (f : ℕ) (path : Path) (t : ℕ) (x : Found) (gs : List Given) (ts : List ℕ) → is_missing_by p t ≡ false → AreStamps gs ts → AreStamps (given_by p f path x ∷ gs) (stamp_by p t x ∷ ts)
one_stamp None f path t x gs ts there are = (is_there t there, are)
one_stamp (Some maker) f path t x gs ts there are = (refl, are)

pub named_stamps : (g : Graph) (stamps : List ℕ) (found : List Found) (files : List ℕ) → list_any (is_missing g stamps) files ≡ false → AreStamps (map (given g found) files) (map (input_stamp g stamps found) files)
named_stamps g stamps found [] none = tt
named_stamps g stamps found (f ∷ files) none =
    one_stamp (producer_at g.files f) f (path_of g f) (stamp_at stamps f) (found_of found f) (map (given g found) files) (map (input_stamp g stamps found) files)
    (or_first (is_missing g stamps f) _ none) (named_stamps g stamps found files (or_second (is_missing g stamps f) _ none))

one_allowed : (rule : Rule) (p : Option ℕ) (f : ℕ) (path : Path) (t : ℕ) (x : Found) (gs : List Given) (ts : List ℕ) → (p ≡ None → MayBe rule (Stat path) (StampIs t)) → AreAllowed rule (input_exchanges gs ts)
    → AreAllowed rule (input_exchanges (given_by p f path x ∷ gs) (stamp_by p t x ∷ ts))
one_allowed rule None f path t x gs ts allowed others = (allowed refl, others)
one_allowed rule (Some maker) f path t x gs ts allowed others = others

-- A source file that isn't missing has its stamp.
source_may_be : (rule : Rule) (g : Graph) (stamps : List ℕ) (f : ℕ) → steps.AreStamps rule g stamps → is_missing g stamps f ≡ false → producer_at g.files f ≡ None → MayBe rule (Stat (path_of g f)) (StampIs (stamp_at stamps f))
source_may_be rule g stamps f are there source =
    may_be rule g stamps f are (within stamps f (subst (λ (p : Option ℕ). is_missing_by p (stamp_at stamps f) ≡ false) source there))

pub named_allowed : (rule : Rule) (g : Graph) (stamps : List ℕ) (found : List Found) (files : List ℕ) → steps.AreStamps rule g stamps → list_any (is_missing g stamps) files ≡ false
    → AreAllowed rule (input_exchanges (map (given g found) files) (map (input_stamp g stamps found) files))
named_allowed rule g stamps found [] are none = tt
named_allowed rule g stamps found (f ∷ files) are none =
    one_allowed rule (producer_at g.files f) f (path_of g f) (stamp_at stamps f) (found_of found f) (map (given g found) files) (map (input_stamp g stamps found) files)
    (source_may_be rule g stamps f are (or_first (is_missing g stamps f) _ none)) (named_allowed rule g stamps found files are (or_second (is_missing g stamps f) _ none))

-- ---- order-only inputs

-- Inputs have stamps that the world allows.
abbrev pub HaveStamps : Rule → List Given → Type 0
HaveStamps rule gs = (ts : List ℕ) × AreStamps gs ts × AreAllowed rule (input_exchanges gs ts)

one_more : (rule : Rule) (b : Bool) (f : ℕ) (path : Path) (t : ℕ) (gs : List Given) → 0 < t → MayBe rule (Stat path) (StampIs t) → HaveStamps rule gs → HaveStamps rule (if b then gs else SourceFile f path ∷ gs)
one_more rule true f path t gs there allowed have = have
one_more rule false f path t gs there allowed have = (t ∷ have.0, (there, have.1), (allowed, have.2))

one_asked : (rule : Rule) (p : Option ℕ) (named : List Given) (f : ℕ) (path : Path) (t : ℕ) (x : Found) (gs : List Given) → is_missing_by p t ≡ false → (p ≡ None → MayBe rule (Stat path) (StampIs t)) → HaveStamps rule (asked named gs)
    → HaveStamps rule (asked named (given_by p f path x ∷ gs))
one_asked rule None named f path t x gs there allowed have = one_more rule (is_among f named) f path t (asked named gs) (is_there t there) (allowed refl) have
one_asked rule (Some maker) named f path t x gs there allowed have = have

pub order_only_stamps : (rule : Rule) (g : Graph) (stamps : List ℕ) (found : List Found) (named : List Given) (files : List ℕ) → steps.AreStamps rule g stamps → list_any (is_missing g stamps) files ≡ false
    → HaveStamps rule (asked named (map (given g found) files))
order_only_stamps rule g stamps found named [] are none = ([], tt, tt)
order_only_stamps rule g stamps found named (f ∷ files) are none =
    one_asked rule (producer_at g.files f) named f (path_of g f) (stamp_at stamps f) (found_of found f) (map (given g found) files) (or_first (is_missing g stamps f) _ none)
    (source_may_be rule g stamps f are (or_first (is_missing g stamps f) _ none)) (order_only_stamps rule g stamps found named files are (or_second (is_missing g stamps f) _ none))

-- ---- outputs

pub files_allowed : (rule : Rule) (g : Graph) (stamps : List ℕ) (files : List ℕ) → steps.AreStamps rule g stamps → list_all (λ f. nat_lt f (length stamps)) files ≡ true
    → AreAllowed rule (file_exchanges (map (path_of g) files) (map (stamp_at stamps) files))
files_allowed rule g stamps [] are inside = tt
files_allowed rule g stamps (f ∷ files) are inside =
    let parts = and_parts (nat_lt f (length stamps)) _ inside in
    (may_be rule g stamps f are (ltb-true f (length stamps) parts.0), files_allowed rule g stamps files are parts.1)

pub all_inside : (stamps : List ℕ) (test : ℕ → Bool) (files : List ℕ) → ((f : ℕ) → test f ≡ true → nat_lt f (length stamps) ≡ true) → list_all test files ≡ true → list_all (λ f. nat_lt f (length stamps)) files ≡ true
all_inside stamps test [] so all = refl
all_inside stamps test (f ∷ files) so all =
    let parts = and_parts (test f) _ all in
    let here : nat_lt f (length stamps) ≡ true = so f parts.0 in
    subst (λ (b : Bool). (b && list_all (λ k. nat_lt k (length stamps)) files) ≡ true) (sym here) (all_inside stamps test files so parts.1)

pub keeps_inside : (stamps : List ℕ) (found : List Found) (f : ℕ) → keeps_stamp stamps found f ≡ true → nat_lt f (length stamps) ≡ true
keeps_inside stamps found f keeps =
    (and_parts (nat_lt f (length stamps)) _ (and_parts (nat_lt f (length stamps) && ((found_of found f).stamp == stamp_at stamps f)) _ keeps).0).0

abbrev pub pair : ℕ → Bool → ℕ × Bool
pair n b = (n, b)

kept_pair : (x : Found) (t : ℕ) → (x.stamp == t) ≡ true → not x.changed ≡ true → pair x.stamp x.changed ≡ pair t false
kept_pair x t same flag =
    let one : x.stamp ≡ t = eqb-true x.stamp t same in
    let two : x.changed ≡ false = not-true x.changed flag in
    ap (λ (n : ℕ). pair n x.changed) one ∙ ap (λ (b : Bool). pair t b) two

pub kept_left : (stamps : List ℕ) (found : List Found) (files : List ℕ) → list_all (keeps_stamp stamps found) files ≡ true → left_for found files ≡ unchanged (map (stamp_at stamps) files)
kept_left stamps found [] all = refl
kept_left stamps found (f ∷ files) all =
    let parts = and_parts (keeps_stamp stamps found f) _ all in
    let flag = and_parts (nat_lt f (length stamps) && ((found_of found f).stamp == stamp_at stamps f)) _ parts.0 in
    let stamp = and_parts (nat_lt f (length stamps)) _ flag.0 in
    ap (λ (p : ℕ × Bool). p ∷ left_for found files) (kept_pair (found_of found f) (stamp_at stamps f) stamp.1 flag.1)
    ∙ ap (λ (rest : Left). pair (stamp_at stamps f) false ∷ rest) (kept_left stamps found files parts.1)
