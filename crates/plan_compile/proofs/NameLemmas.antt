-- The numbers of texts and pools, as the code stores them, are those of the whole tables.
use Rattle.std.proofs.Common.{◌≡◌, ℕ, zero, suc, ◌+◌, Bool, true, false, List, [], ◌∷◌, ◌++◌, drop, length, map, Option, Some, None, refl, sym, ap, subst, ◌∙◌, bytes_eq, arith, cond}
use Rattle.std.specs.Prelude.{◌==◌, IfOk, Result, Ok, flat_map, slice_get, if◌then◌else◌}
use Rattle.std.proofs.lemmas.Bool.{eqb-true}
use Rattle.std.proofs.lemmas.Slice.Eq.{bytes_eq-Decides}
use Rattle.plan_scope.specs.declared.manifest.Pool.{Pool as ManifestPool}
use Rattle.plan_scope.specs.Edge.{Edge as ManifestEdge}
use Rattle.plan_graph.specs.declared.graph_data.Graph.{Graph}
use Rattle.plan_compile.specs.declared.baseline.OutOfDateRule.{OutOfDateRule}
use Rattle.plan_compile.specs.declared.numbers.Numbers.{Numbers}
use Rattle.plan_compile.specs.declared.edge_names.EdgeNames.{EdgeNames}
use Rattle.plan_compile.specs.Builds.{Build, builds_from}
use Rattle.plan_compile.specs.Collected.{AreNames}
use Rattle.plan_compile.specs.EdgeNumbers.{command_numbers, edge_numbers, numbers_by, numbers_in}
use Rattle.plan_compile.specs.Names.{Text, depth_of, text_number, depfile_number, or_command, unless_empty, label_by, texts_by, edge_texts, pool_by, edge_pool, all_texts, used_pools, texts_of_edges, pools_of_edges}
use Rattle.plan_compile.specs.Numbering.{has, once, with_item, with_items}
use Rattle.plan_compile.specs.PoolDepths.{or_zero}
use Rattle.plan_compile.proofs.BuildLemmas.{drop_here, mapped_step}
use Rattle.plan_compile.proofs.NumberingLemmas.{item_has, items_have, items_join, items_keep, texts_decide}

-- a text that is in the list keeps its number
pub text_stays : (ts us : List Text) (t : Text) → has bytes_eq ts t ≡ true → text_number ts t ≡ text_number (with_items bytes_eq ts us) t
text_stays ts us t h = sym (items_keep bytes_eq texts_decide ts us t h).stays

-- each of the texts that were added is in the list
pub text_there : (old ts us : List Text) (k : ℕ) (t : Text) → ts ≡ with_items bytes_eq old us → slice_get us k ≡ Some t → has bytes_eq ts t ≡ true
text_there old ts us k t put at = subst (λ (xs : List Text). has bytes_eq xs t ≡ true) (sym put) (items_have bytes_eq texts_decide old us k t at)

pub depfile_stays : (ts us : List Text) (t : Text) → ((c : ℕ) (cs : Text) → t ≡ c ∷ cs → has bytes_eq ts t ≡ true) → depfile_number ts t ≡ depfile_number (with_items bytes_eq ts us) t
depfile_stays ts us [] h = refl
depfile_stays ts us (c ∷ cs) h = ap (λ (n : ℕ). Some n) (text_stays ts us (c ∷ cs) (h c cs refl))

-- a text that is added twice is in the list once
pub put_twice : (ts : List Text) (t : Text) → with_item bytes_eq ts t ≡ with_item bytes_eq (with_item bytes_eq ts t) t
put_twice ts t = ap (λ (b : Bool). if b then with_item bytes_eq ts t else with_item bytes_eq ts t ++ t ∷ []) (sym (item_has bytes_eq texts_decide ts t))

same_numbers : (a b c d : ℕ) (v w x y : Option ℕ) → a ≡ b → c ≡ d → v ≡ w → x ≡ y
    → ◌≡◌ {A = Numbers} (record { label = a; command = c; depfile = v; pool = x }) (record { label = b; command = d; depfile = w; pool = y })
same_numbers a b c d v w x y ha hc hv hx = cc

-- texts and pools added after those of an edge leave its numbers unchanged
pub numbers_stay : (x : ManifestEdge) (old ts us names ps vs : List Text) → ts ≡ with_items bytes_eq old (edge_texts x) → ps ≡ with_items bytes_eq names (edge_pool x)
    → edge_numbers ts ps x ≡ edge_numbers (with_items bytes_eq ts us) (with_items bytes_eq ps vs) x
numbers_stay x old ts us names ps vs = by_sort x.phony
  where
    by_sort : (b : Bool) → ts ≡ with_items bytes_eq old (label_by b x ∷ texts_by b x) → ps ≡ with_items bytes_eq names (pool_by b x.pool)
        → numbers_by b ts ps x ≡ numbers_by b (with_items bytes_eq ts us) (with_items bytes_eq ps vs) x
    by_sort true put pool =
        same_numbers _ _ zero zero None None None None (text_stays ts us [] (text_there old ts ([] ∷ []) zero [] put refl)) refl refl refl
    by_sort false put pool =
        let label : Text = or_command x.description x.command in
        let all : List Text = label ∷ x.command ∷ unless_empty x.depfile in
        same_numbers _ _ _ _ _ _ _ _
        (text_stays ts us label (text_there old ts all zero label put refl))
        (text_stays ts us x.command (text_there old ts all (suc zero) x.command put refl))
        (depfile_stays ts us x.depfile λ c cs is. text_there old ts all (suc (suc zero)) x.depfile put (first_of x.depfile c cs is))
        (depfile_stays ps vs x.pool λ c cs is. text_there names ps (unless_empty x.pool) zero x.pool pool (first_of x.pool c cs is))
      where
        first_of : (t : Text) (c : ℕ) (cs : Text) → t ≡ c ∷ cs → slice_get (unless_empty t) zero ≡ Some t
        first_of [] c cs is = absurd cc
        first_of (d ∷ ds) c cs is = refl

-- one more edge
pub names_step : (texts_of : ManifestEdge → List Text) (xs : List ManifestEdge) (n : ℕ) (x : ManifestEdge) (old new whole : List Text) → slice_get xs n ≡ Some x → new ≡ with_items bytes_eq old (texts_of x)
    → with_items bytes_eq old (flat_map texts_of (drop n xs)) ≡ whole → with_items bytes_eq new (flat_map texts_of (drop (n + 1) xs)) ≡ whole
names_step texts_of xs n x old new whole at put h =
    let rest : List Text = flat_map texts_of (drop (n + 1) xs) in
    ap (λ (ts : List Text). with_items bytes_eq ts rest) put ∙ sym (items_join bytes_eq texts_decide old (texts_of x) rest)
    ∙ ap (λ (ys : List ManifestEdge). with_items bytes_eq old (flat_map texts_of ys)) (sym (drop_here xs n x at)) ∙ h

pub numbers_step : (xs : List ManifestEdge) (n : ℕ) (x : ManifestEdge) (k : Numbers) (old new names pools all used : List Text) (some more whole : List Numbers) → slice_get xs n ≡ Some x
    → new ≡ with_items bytes_eq old (edge_texts x) → pools ≡ with_items bytes_eq names (edge_pool x) → k ≡ edge_numbers new pools x → more ≡ some ++ k ∷ []
    → with_items bytes_eq new (flat_map edge_texts (drop (n + 1) xs)) ≡ all → with_items bytes_eq pools (flat_map edge_pool (drop (n + 1) xs)) ≡ used
    → some ++ map (edge_numbers all used) (drop n xs) ≡ whole → more ++ map (edge_numbers all used) (drop (n + 1) xs) ≡ whole
numbers_step xs n x k old new names pools all used some more whole at put pool is pushed ends pools_end h =
    let final : k ≡ edge_numbers all used x =
    is ∙ numbers_stay x old new (flat_map edge_texts (drop (n + 1) xs)) names pools (flat_map edge_pool (drop (n + 1) xs)) put pool
    ∙ ap (λ (ts : List Text). edge_numbers ts (with_items bytes_eq pools (flat_map edge_pool (drop (n + 1) xs))) x) ends ∙ ap (λ (ps : List Text). edge_numbers all ps x) pools_end in
    mapped_step (edge_numbers all used) xs n x some more whole at (pushed ∙ ap (λ (j : Numbers). some ++ j ∷ []) final) h

-- without a description the command is the label, and is added once
pub shown_once : (ts : List Text) (description command : Text) → (length description == 0) ≡ true
    → with_item bytes_eq ts command ≡ with_items bytes_eq ts (or_command description command ∷ command ∷ [])
shown_once ts [] command h = put_twice ts command
shown_once ts (c ∷ cs) command h = let none : length (c ∷ cs) ≡ 0 = eqb-true (length (c ∷ cs)) 0 h in absurd (omega (arith, none))

-- a description keeps its number when the command is added
pub label_stays : (old ts new : List Text) (description command : Text) (n : ℕ) → (length description == 0) ≡ false → ts ≡ with_item bytes_eq old description → n ≡ text_number ts description
    → new ≡ with_item bytes_eq ts command → n ≡ text_number new (or_command description command)
label_stays old ts new [] command n h first is second = absurd cc
label_stays old ts new (c ∷ cs) command n h first is second =
    is ∙ text_stays ts (command ∷ []) (c ∷ cs) (text_there old ts ((c ∷ cs) ∷ []) zero (c ∷ cs) first refl) ∙ ap (λ (us : List Text). text_number us (c ∷ cs)) (sym second)

-- the numbers of a command edge's texts and pool
pub numbers_are : (old ts new pools : List Text) (e : ManifestEdge) (a b c q : Text) (l k : ℕ) (d p : Option ℕ) → a ≡ e.description → b ≡ e.command → c ≡ e.depfile → q ≡ e.pool
    → ts ≡ with_items bytes_eq old (or_command a b ∷ b ∷ []) → l ≡ text_number ts (or_command a b) → k ≡ text_number ts b → new ≡ with_items bytes_eq ts (unless_empty c)
    → d ≡ depfile_number new c → p ≡ depfile_number pools q → ◌≡◌ {A = Numbers} (record { label = l; command = k; depfile = d; pool = p }) (command_numbers new pools e)
numbers_are old ts new pools e a b c q l k d p ha hb hc hq put hl hk more hd hp =
    let label : Text = or_command a b in
    let both : List Text = label ∷ b ∷ [] in
    let first : l ≡ text_number new label = hl ∙ text_stays ts (unless_empty c) label (text_there old ts both zero label put refl) ∙ ap (λ (us : List Text). text_number us label) (sym more) in
    let second : k ≡ text_number new b = hk ∙ text_stays ts (unless_empty c) b (text_there old ts both (suc zero) b put refl) ∙ ap (λ (us : List Text). text_number us b) (sym more) in
    same_numbers l (text_number new (or_command e.description e.command)) k (text_number new e.command) d (depfile_number new e.depfile) p (depfile_number pools e.pool)
    (first ∙ ap (λ (t : Text). text_number new (or_command t b)) ha ∙ ap (λ (t : Text). text_number new (or_command e.description t)) hb)
    (second ∙ ap (λ (t : Text). text_number new t) hb) (hd ∙ ap (λ (t : Text). depfile_number new t) hc) (hp ∙ ap (λ (t : Text). depfile_number pools t) hq)

-- ---- edges with their files by number

-- they have the texts of the edges of the manifest
pub same_flat : (f : ManifestEdge → List Text) (rule : OutOfDateRule) (g : Graph) (n : ℕ) (es : List ManifestEdge) → flat_map (λ x. f x.edge) (builds_from rule g n es) ≡ flat_map f es
same_flat f rule g n [] = refl
same_flat f rule g n (e ∷ es) = ap (λ (ts : List Text). f e ++ ts) (same_flat f rule g (suc n) es)

pub same_mapped : (f : ManifestEdge → Numbers) (rule : OutOfDateRule) (g : Graph) (n : ℕ) (es : List ManifestEdge) → map (λ x. f x.edge) (builds_from rule g n es) ≡ map f es
same_mapped f rule g n [] = refl
same_mapped f rule g n (e ∷ es) = ap (λ (ks : List Numbers). f e ∷ ks) (same_mapped f rule g (suc n) es)

-- These are the names of edges that have their files by number.
pub record AreNamesOf (xs : List Build) (names : EdgeNames) : Type 0 where
  pub texts : names.texts ≡ all_texts xs
  pub pools : names.pools ≡ used_pools xs
  pub numbers : names.numbers.items ≡ map (numbers_in (all_texts xs) (used_pools xs)) xs

-- names that were collected of the edges of a manifest
pub named_as_built : {E : Type 0} (rule : OutOfDateRule) (g : Graph) (es : List ManifestEdge) (collected : Result EdgeNames E) (names : EdgeNames) (xs : List Build) → IfOk collected (AreNames es) → collected ≡ Ok names
    → xs ≡ builds_from rule g 0 es → AreNamesOf xs names
named_as_built {E = E} rule g es collected names xs h is built =
    let are : AreNames es names = subst (λ (r : Result EdgeNames E). IfOk r (AreNames es)) is h in
    let texts : texts_of_edges es ≡ all_texts xs = sym (ap all_texts built ∙ ap (λ (ts : List Text). once bytes_eq ts) (same_flat edge_texts rule g 0 es)) in
    let pools : pools_of_edges es ≡ used_pools xs = sym (ap used_pools built ∙ ap (λ (ts : List Text). once bytes_eq ts) (same_flat edge_pool rule g 0 es)) in
    let all : List Text = texts_of_edges es in
    let used : List Text = pools_of_edges es in
    let numbers : map (edge_numbers all used) es ≡ map (numbers_in all used) xs =
    sym (ap (λ (ys : List Build). map (numbers_in all used) ys) built ∙ same_mapped (edge_numbers all used) rule g 0 es) in
    record {
      texts = are.texts ∙ texts;
      pools = are.pools ∙ pools;
      numbers =
          are.numbers ∙ numbers ∙ ap (λ (ts : List Text). map (numbers_in ts used) xs) texts ∙ ap (λ (ps : List Text). map (numbers_in (all_texts xs) ps) xs) pools;
    }

-- ---- the depths of pools

-- equality of texts is symmetric
texts_turned : (a b : Text) → bytes_eq a b ≡ bytes_eq b a
texts_turned a b = by_test (bytes_eq a b) (bytes_eq b a) (λ h. (bytes_eq-Decides b a).1 (sym ((bytes_eq-Decides a b).0 h))) (λ h. (bytes_eq-Decides a b).1 (sym ((bytes_eq-Decides b a).0 h)))
  where
    by_test : (x y : Bool) → (x ≡ true → y ≡ true) → (y ≡ true → x ≡ true) → x ≡ y
    by_test true true h g = refl
    by_test true false h g = sym (h refl)
    by_test false true h g = g refl
    by_test false false h g = refl

-- one more pool, before those whose depths are known
pub depth_step : (pools : List ManifestPool) (n : ℕ) (p : ManifestPool) (key name : Text) (old new : Option ℕ) → slice_get pools n ≡ Some p → key ≡ p.name
    → new ≡ cond (bytes_eq key name) (Some p.depth) old → or_zero old ≡ depth_of (drop (n + 1) pools) name → or_zero new ≡ depth_of (drop n pools) name
depth_step pools n p key name old new at named is h =
    let turned : bytes_eq key name ≡ bytes_eq name p.name = ap (λ (t : Text). bytes_eq t name) named ∙ texts_turned p.name name in
    ap or_zero (is ∙ ap (λ (b : Bool). cond b (Some p.depth) old) turned)
    ∙ by_test (bytes_eq name p.name) ∙ ap (λ (ps : List ManifestPool). depth_of ps name) (sym (drop_here pools n p at))
  where
    by_test : (b : Bool) → or_zero (cond b (Some p.depth) old) ≡ (if b then p.depth else depth_of (drop (n + 1) pools) name)
    by_test true = refl
    by_test false = h
