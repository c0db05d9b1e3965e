-- The texts of parts in the edges that use a rule in a file. Used for src/edge/rule_compiler.rt and
-- src/edge/compiled.rt.
use Rattle.std.proofs.Common.{◌≡◌, ℕ, zero, suc, Bool, true, false, ◌&&◌, ◌||◌, ◌<◌, ◌≤◌, ◌-◌, ◌+◌, List, [], ◌∷◌, ◌++◌, length, take, get_or, Option, Some, None, Result, Ok, Err, refl, ap, sym, subst, cond, bytes_eq, ◌∙◌, option_map, append-nil, append_assoc, arith}
use Rattle.std.specs.Prelude.{IfOk, OnOk, is_none, slice_set, unwrap_or}
use Rattle.std.proofs.lemmas.Slice.Eq.{bytes_eq-Decides}
use Rattle.std.proofs.lemmas.List.{take_more}
use Rattle.plan_text.specs.declared.piece_reader.Piece.{Piece}
use Rattle.plan_scope.specs.declared.edge.compiled.VariablePart.{VariablePart}
use Rattle.plan_scope.specs.declared.edge.compiled.CompiledRule.{CompiledRule}
use Rattle.plan_scope.specs.declared.manifest.rules.FoundRule.{FoundRule}
use Rattle.plan_scope.specs.Scopes.{Text, Name, Bindings, ScopedBindings, last_of, lookup, nearest}
use Rattle.plan_scope.specs.Expansion.{EdgeEnvironment, Meaning, Known, Late, or_known, or_late, listed, meaning_of, both, joined, text_of, text_of_piece, variable}
use Rattle.plan_scope.specs.Memo.{text_by}
use Rattle.plan_scope.specs.Kept.{kept}
use Rattle.plan_scope.specs.Compiled.{AddsParts, IsCompiledRule, LeavesRule, UsesRule, text_of_part, text_of_parts}
use Rattle.plan_scope.specs.Found.{AreFound, IsCompiledFrom}
use Rattle.plan_scope.proofs.ExpansionLemmas.{by_more, within_is_by}
use Rattle.plan_scope.proofs.MemoLemmas.{joined_more}
use Rattle.plan_scope.proofs.SmallMapLemmas.{last_of_push}
use Rattle.plan_scope.proofs.TextLemmas.{flat_map_taken, kept_append}

abbrev Rule : Type 0
Rule = Bindings (List Piece)

abbrev Names : Type 0
Names = Name → Text

-- A conclusion that holds for an Ok.
pub if_ok : {P Q E : Type 0} (r : Result Bool E) → OnOk r P → (P → Q) → IfOk r (λ whole. whole ≡ true → Q)
if_ok (Ok whole) p f = λ e. f p
if_ok (Err e) p f = tt {0}

-- The same if it follows from an Ok that says that no part is missing.
pub if_whole : {P Q E : Type 0} (r : Result Bool E) → IfOk r (λ whole. whole ≡ true → P) → (P → Q) → IfOk r (λ whole. whole ≡ true → Q)
if_whole (Ok whole) p f = λ e. f (p e)
if_whole (Err e) p f = tt {0}

by_known : (m : Name → Meaning) (n : ℕ) (name : Name) (t : Text) → m name ≡ Known t → text_by n m name ≡ Some t
by_known m zero name t e = ap (λ a. text_of a true (λ pieces. None)) e
by_known m (suc n) name t e = ap (λ a. text_of a false (joined (text_by n m))) e

one_more : (show : Text → Text) (edge : EdgeEnvironment) (parts : List VariablePart) (part : VariablePart) → text_of_parts show edge (parts ++ part ∷ []) ≡ text_of_parts show edge parts ++ text_of_part show edge part
one_more show edge [] part = append-nil (text_of_part show edge part)
one_more show edge (p ∷ parts) part =
    ap (λ (t : Text). text_of_part show edge p ++ t) (one_more show edge parts part) ∙ sym (append_assoc (text_of_part show edge p) (text_of_parts show edge parts) (text_of_part show edge part))

-- A part after others.
part_behind : (show : Text → Text) (edge : EdgeEnvironment) (before now : List VariablePart) (part : VariablePart) (o : Option Text) → now ≡ before ++ part ∷ [] → o ≡ Some (text_of_part show edge part)
    → option_map (λ text. text_of_parts show edge before ++ text) o ≡ Some (text_of_parts show edge now)
part_behind show edge before now part o e h =
    ap (option_map (λ (text : Text). text_of_parts show edge before ++ text)) h ∙ ap (λ (t : Text). Some t) (sym (ap (text_of_parts show edge) e ∙ one_more show edge before part))

-- A name that denotes paths.
pub listed_added : (rule : Rule) (file : Names) (before now : List VariablePart) (part : VariablePart) (left : ℕ) (name : Name) → now ≡ before ++ part ∷ []
    → ((show : Text → Text) (edge : EdgeEnvironment) → option_map (text_of_part show edge) (Some part) ≡ listed show edge name) → AddsParts rule file before now (λ m. text_by left m name)
listed_added rule file before now part left name e h = λ show edge uses.
    part_behind show edge before now part (text_by left (meaning_of show edge) name) e
    (by_known (meaning_of show edge) left name (text_of_part show edge part) (ap (λ (o : Option Text). or_known o (or_known (last_of name edge.block) (or_late (last_of name edge.rule) (Known (edge.file name))))) (sym (h show edge))))

near_of : (o : Option Text) (t : Text) → or_known o (Known t) ≡ Known (unwrap_or o t)
near_of None t = refl
near_of (Some x) t = refl

unlisted : (o : Option VariablePart) (f : VariablePart → Text) (l : Option Text) → o ≡ None → option_map f o ≡ l → l ≡ None
unlisted o f l e h = sym h ∙ ap (option_map f) e

-- A name that the rule doesn't bind.
near_means : (show : Text → Text) (edge : EdgeEnvironment) (name : Name) (text : Text) → listed show edge name ≡ None → last_of name edge.rule ≡ None → edge.file name ≡ text
    → meaning_of show edge name ≡ Known (unwrap_or (last_of name edge.block) text)
near_means show edge name text l r f =
    ap (λ (o : Option Text). or_known o (or_known (last_of name edge.block) (or_late (last_of name edge.rule) (Known (edge.file name))))) l
    ∙ (ap (λ (o : Option (List Piece)). or_known (last_of name edge.block) (or_late o (Known (edge.file name)))) r
    ∙ (ap (λ (t : Text). or_known (last_of name edge.block) (Known t)) f
    ∙ near_of (last_of name edge.block) text))

pub near_added : (rule : Rule) (file : Names) (before now : List VariablePart) (part : VariablePart) (left : ℕ) (name : Name) (text : Text) (o : Option VariablePart) → now ≡ before ++ part ∷ []
    → ((show : Text → Text) (edge : EdgeEnvironment) → text_of_part show edge part ≡ unwrap_or (last_of name edge.block) text)
    → o ≡ None → ((show : Text → Text) (edge : EdgeEnvironment) → option_map (text_of_part show edge) o ≡ listed show edge name) → last_of name rule ≡ None → text ≡ file name
    → AddsParts rule file before now (λ m. text_by left m name)
near_added rule file before now part left name text o e near n h r t = λ show edge uses.
    part_behind show edge before now part (text_by left (meaning_of show edge) name) e
    (by_known (meaning_of show edge) left name (text_of_part show edge part)
    (near_means show edge name text (unlisted o (text_of_part show edge) (listed show edge name) n (h show edge)) (ap (last_of name) uses.by_rule ∙ r) (ap (λ (f : Names). f name) uses.in_file ∙ sym t)
    ∙ ap (λ (x : Text). Known x) (sym (near show edge))))

-- A name that the rule binds.
late_means : (show : Text → Text) (edge : EdgeEnvironment) (name : Name) (pieces : List Piece) → listed show edge name ≡ None → last_of name edge.block ≡ None → last_of name edge.rule ≡ Some pieces
    → meaning_of show edge name ≡ Late pieces
late_means show edge name pieces l b r =
    ap (λ (o : Option Text). or_known o (or_known (last_of name edge.block) (or_late (last_of name edge.rule) (Known (edge.file name))))) l
    ∙ (ap (λ (o : Option Text). or_known o (or_late (last_of name edge.rule) (Known (edge.file name)))) b
    ∙ ap (λ (o : Option (List Piece)). or_late o (Known (edge.file name))) r)

pub late_added : (rule : Rule) (file : Names) (before now : List VariablePart) (left : ℕ) (name : Name) (pieces : List Piece) (o : Option VariablePart)
    → o ≡ None → ((show : Text → Text) (edge : EdgeEnvironment) → option_map (text_of_part show edge) o ≡ listed show edge name) → last_of name rule ≡ Some pieces
    → (0 < left) × AddsParts rule file before now (λ m. joined (text_by (left - 1) m) pieces) → AddsParts rule file before now (λ m. text_by left m name)
late_added rule file before now left name pieces o n h r a = λ show edge uses.
    let m : Name → Meaning = meaning_of show edge in
    let one : left ≡ suc (left - 1) = omega (arith, a.0) in
    let late : m name ≡ Late pieces =
    late_means show edge name pieces (unlisted o (text_of_part show edge) (listed show edge name) n (h show edge)) (uses.leaves name pieces r) (ap (last_of name) uses.by_rule ∙ r) in
    let same : text_by left m name ≡ joined (text_by (left - 1) m) pieces = ap (λ n. text_by n m name) one ∙ ap (λ a. text_of a false (joined (text_by (left - 1) m))) late in
    ap (option_map (λ (text : Text). text_of_parts show edge before ++ text)) same ∙ a.1 show edge uses

-- A literal.
pub literal_added : (rule : Rule) (file : Names) (before now : List VariablePart) (part : VariablePart) (text : Text) → now ≡ before ++ part ∷ []
    → ((show : Text → Text) (edge : EdgeEnvironment) → text_of_part show edge part ≡ text) → AddsParts rule file before now (λ m. Some text)
literal_added rule file before now part text e h = λ show edge uses.
    part_behind show edge before now part (Some text) e (ap (λ (t : Text). Some t) (sym (h show edge)))

-- No piece.
pub none_added : (rule : Rule) (file : Names) (parts : List VariablePart) → AddsParts rule file parts parts (λ m. Some [])
none_added rule file parts = λ show edge uses. ap (λ (t : Text). Some t) (append-nil (text_of_parts show edge parts))

both_added : (before middle now : Text) (a b : Option Text) → option_map (λ t. before ++ t) a ≡ Some middle → option_map (λ t. middle ++ t) b ≡ Some now → option_map (λ t. before ++ t) (both a b) ≡ Some now
both_added before middle now None b e f = cc
both_added before middle now (Some x) None e f = cc
both_added before middle now (Some x) (Some y) e f =
    let k : before ++ x ≡ middle = cc in
    let l : middle ++ y ≡ now = cc in
    ap (λ (t : Text). Some t) (sym (append_assoc before x y) ∙ (ap (λ (t : Text). t ++ y) k ∙ l))

-- One more piece.
pub piece_added : (rule : Rule) (file : Names) (before middle now : List VariablePart) (left i : ℕ) (pieces : List Piece) (p : Piece) → i < length pieces → p ≡ get_or pieces i p
    → AddsParts rule file before middle (λ m. joined (text_by left m) (take i pieces)) → AddsParts rule file middle now (λ m. text_of_piece (text_by left m) p)
    → AddsParts rule file before now (λ m. joined (text_by left m) (take (i + 1) pieces))
piece_added rule file before middle now left i pieces p lt e h k = λ show edge uses.
    let m : Name → Meaning = meaning_of show edge in
    let more : take (i + 1) pieces ≡ take i pieces ++ p ∷ [] = take_more pieces i p lt ∙ ap (λ (x : Piece). take i pieces ++ x ∷ []) (sym e) in
    let last : joined (text_by left m) (take (i + 1) pieces) ≡ both (joined (text_by left m) (take i pieces)) (text_of_piece (text_by left m) p) =
    ap (joined (text_by left m)) more ∙ joined_more (text_by left m) (take i pieces) p in
    ap (option_map (λ (text : Text). text_of_parts show edge before ++ text)) last
    ∙ both_added (text_of_parts show edge before) (text_of_parts show edge middle) (text_of_parts show edge now) (joined (text_by left m) (take i pieces)) (text_of_piece (text_by left m) p) (h show edge uses) (k show edge uses)

empty_front : (o : Option Text) → option_map (λ (t : Text). [] ++ t) o ≡ o
empty_front None = refl
empty_front (Some t) = refl

-- All parts of a variable.
pub all_added : (rule : Rule) (file : Names) (before parts : List VariablePart) (left : ℕ) (name : Name) → before ≡ [] → left ≤ length rule → AddsParts rule file before parts (λ m. text_by left m name)
    → (show : Text → Text) (edge : EdgeEnvironment) → UsesRule rule file edge → variable show edge name ≡ Some (text_of_parts show edge parts)
all_added rule file before parts left name b le h show edge uses =
    let m : Name → Meaning = meaning_of show edge in
    let within : left ≤ length edge.rule = subst (λ (r : Rule). left ≤ length r) (sym uses.by_rule) le in
    let text : text_by left m name ≡ Some (text_of_parts show edge parts) =
    sym (empty_front (text_by left m name))
    ∙ (ap (λ (ps : List VariablePart). option_map (λ (text : Text). text_of_parts show edge ps ++ text) (text_by left m name)) (sym b)
    ∙ h show edge uses) in
    within_is_by m (length edge.rule) name ∙ by_more m left (length edge.rule) within name (text_of_parts show edge parts) text

-- One more part.
pub parts_taken : (show : Text → Text) (edge : EdgeEnvironment) (parts : List VariablePart) (i : ℕ) (d : VariablePart) (out now : Text) → i < length parts → kept out ≡ kept (text_of_parts show edge (take i parts))
    → kept now ≡ kept (out ++ text_of_part show edge (get_or parts i d)) → kept now ≡ kept (text_of_parts show edge (take (i + 1) parts))
parts_taken show edge parts i d out now lt h k =
    let part : Text = text_of_part show edge (get_or parts i d) in
    k ∙ (kept_append out (text_of_parts show edge (take i parts)) part part h refl ∙ ap kept (sym (flat_map_taken (text_of_part show edge) parts i d lt)))

-- If the conjunction of two tests holds, both hold.
pub both_whole : (a b : Bool) → (a && b) ≡ true → (a ≡ true) × (b ≡ true)
both_whole true b h = (refl, h)
both_whole false b h = cc

-- The text of a variable, from its parts.
pub text_by_parts : (show : Text → Text) (edge : EdgeEnvironment) (text : Text) (lent parts : List VariablePart) (o : Option Text) → lent ≡ parts → kept text ≡ kept (text_of_parts show edge lent) → o ≡ Some (text_of_parts show edge parts)
    → kept text ≡ kept (unwrap_or o [])
text_by_parts show edge text lent parts o e k h =
    k ∙ (ap (λ (ps : List VariablePart). kept (text_of_parts show edge ps)) e ∙ ap (λ (x : Option Text). kept (unwrap_or x [])) (sym h))

-- One more variable without a cycle.
pub neither : (o : Option Text) (known : Text) {others : Bool} → o ≡ Some known → false ≡ others → false ≡ (is_none o || others)
neither o known {others} h e = sym (ap (λ (x : Option Text). is_none x || others) h ∙ sym e)

-- One of the kept rules.
pub found_at : (rules : ScopedBindings Rule) (bound : ScopedBindings Text) (fs : List FoundRule) (i : ℕ) (f : FoundRule) → i < length fs → f ≡ get_or fs i f → AreFound rules bound fs → IsCompiledFrom rules bound f.scopes.now f.name.now f.compiled
found_at rules bound [] i f lt e h = let no : ⊥ = omega arith in absurd no
found_at rules bound (x ∷ fs) zero f lt e h = subst (λ (y : FoundRule). IsCompiledFrom rules bound y.scopes.now y.name.now y.compiled) (sym e) h.0
found_at rules bound (x ∷ fs) (suc i) f lt e h = found_at rules bound fs i f (omega arith) e h.1

-- A kept rule with these scopes and this name, as two tests show, is the rule that is looked up.
pub found_as : (rules : ScopedBindings Rule) (bound : ScopedBindings Text) (f : FoundRule) (scopes : List ℕ) (name : Name) → bytes_eq f.scopes.now scopes ≡ true → bytes_eq f.name.now name ≡ true
    → IsCompiledFrom rules bound f.scopes.now f.name.now f.compiled → IsCompiledFrom rules bound scopes name f.compiled
found_as rules bound f scopes name s n c =
    subst (λ (x : Name). IsCompiledFrom rules bound scopes x f.compiled) ((bytes_eq-Decides f.name.now name).0 n)
    (subst (λ (x : List ℕ). IsCompiledFrom rules bound x f.name.now f.compiled) ((bytes_eq-Decides f.scopes.now scopes).0 s) c)

-- The visible rule, as it was compiled.
pub compiled_from : (rules : ScopedBindings Rule) (bound : ScopedBindings Text) (scopes : List ℕ) (name other : Name) (rule : Rule) (compiled : CompiledRule) → other ≡ name → nearest rules scopes name ≡ Some rule
    → IsCompiledRule rule (lookup bound scopes) compiled → IsCompiledFrom rules bound scopes other compiled
compiled_from rules bound scopes name other rule compiled e n h = λ seen f.
    let same : Some rule ≡ Some seen = sym n ∙ (ap (nearest rules scopes) (sym e) ∙ f) in
    let one : rule ≡ seen = cc in
    subst (λ (r : Rule). IsCompiledRule r (lookup bound scopes) compiled) one h

-- One more kept rule.
pub found_more : (rules : ScopedBindings Rule) (bound : ScopedBindings Text) (fs : List FoundRule) (f : FoundRule) → AreFound rules bound fs → IsCompiledFrom rules bound f.scopes.now f.name.now f.compiled → AreFound rules bound (fs ++ f ∷ [])
found_more rules bound [] f a h = (h, tt {0})
found_more rules bound (x ∷ fs) f a h = (a.0, found_more rules bound fs f a.1 h)

-- A kept rule that replaces another.
pub found_set : (rules : ScopedBindings Rule) (bound : ScopedBindings Text) (fs : List FoundRule) (i : ℕ) (f : FoundRule) → AreFound rules bound fs → IsCompiledFrom rules bound f.scopes.now f.name.now f.compiled → AreFound rules bound (slice_set fs i f)
found_set rules bound [] i f a h = a
found_set rules bound (x ∷ fs) zero f a h = (h, a.1)
found_set rules bound (x ∷ fs) (suc i) f a h = (a.0, found_set rules bound fs i f a.1 h)

-- A block binds none of the variables so far, nor the next.
pub left_more : (rule : Rule) (block : Bindings Text) (name : Name) (pieces : List Piece) → LeavesRule rule block → last_of name block ≡ None → LeavesRule (rule ++ (name, pieces) ∷ []) block
left_more rule block name pieces h e = λ other found f. by_name other found (bytes_eq name other) refl (sym (last_of_push other rule (name, pieces)) ∙ f)
  where
    by_name : (other : Name) (found : List Piece) (t : Bool) → bytes_eq name other ≡ t → cond (bytes_eq name other) (Some pieces) (last_of other rule) ≡ Some found → last_of other block ≡ None
    by_name other found true t f = subst (λ (n : Name). last_of n block ≡ None) ((bytes_eq-Decides name other).0 t) e
    by_name other found false t f = h other found (ap (λ b. cond b (Some pieces) (last_of other rule)) (sym t) ∙ f)
