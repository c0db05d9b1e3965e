-- One more statement is evaluated. Used for src/manifest/evaluator.rt.
use Rattle.std.proofs.Common.{◌≡◌, ◌≢◌, ℕ, ◌+◌, Bool, true, false, ◌||◌, cond, eqb, List, [], ◌∷◌, ◌++◌, length, Option, Some, None, Result, Ok, Err, refl, ap, sym, ◌∙◌, bytes_eq, option_map, append-nil, append_assoc, arith, length-append}
use Rattle.std.specs.Prelude.{codes, OnOk, flat_map}
use Rattle.std.proofs.lemmas.List.Concat.{flat_map-append}
use Rattle.std.proofs.lemmas.List.Folds.{list_any-append}
use Rattle.plan_text.specs.declared.piece_reader.Piece.{Piece}
use Rattle.plan_parse.specs.Build.{Build}
use Rattle.plan_parse.specs.Kinds.{StatementKind}
use Rattle.plan_scope.specs.declared.fault.Cause.{Cause}
use Rattle.plan_scope.specs.declared.fault.StatementFault.{StatementFault}
use Rattle.plan_scope.specs.declared.fault.StatementFault.TheVariants.{Refused, Memory}
use Rattle.plan_scope.specs.declared.fault.ScopeFault.{ScopeFault}
use Rattle.plan_scope.specs.declared.fault.ScopeFault.TheVariants as scope
use Rattle.plan_scope.specs.Edge.{Edge}
use Rattle.plan_scope.specs.declared.edge.edge_list.EdgeMarks.{EdgeMarks}
use Rattle.plan_scope.specs.declared.edge.edge_list.EdgeRows.{EdgeRows}
use Rattle.plan_scope.specs.declared.manifest.DefaultTarget.{DefaultTarget}
use Rattle.plan_scope.specs.declared.manifest.Pool.{Pool}
use Rattle.plan_scope.specs.declared.manifest.Manifest.{Manifest}
use Rattle.plan_scope.specs.Trees.{TreeStatement}
use Rattle.plan_scope.specs.Scopes.{Text, Name, Bindings, ScopedBindings, last_of, frame, nearest, or_else, in_own, bound_in, bound_by}
use Rattle.plan_scope.specs.Edges.{edge_of_build, builds_in, builds_of, edge_of_rule, edge_or_refusal, manifest_of_kind, phony_variables, environment_of, manifest_past, console, edge_alone, pool_alone, defaults_alone, map_ok, in_front, is_among, empty_manifest, pools_in, pools_of, rules_in, rules_of, with_more, with_front}
use Rattle.plan_scope.specs.Kept.{kept, KeptEqScoped, EqScoped, EqNames}
use Rattle.plan_scope.specs.Evaluation.{GivesMore, IsLocated, own_of}
use Rattle.plan_scope.specs.EdgeRows.{AreWithin, edges_in}
use Rattle.plan_scope.specs.EdgeAnswers.{GivesEdge}
use Rattle.plan_scope.specs.Outcomes.{Gives}
use Rattle.plan_scope.proofs.ScopeLemmas.{agrees_more, same_bound}

-- The names of pools with those of one more statement.
pub pools_more : (above : List TreeStatement) (l : TreeStatement) → pools_of (above ++ l ∷ []) ≡ pools_of above ++ pools_in l.kind
pools_more above l =
    ap (λ (names : List Name). codes "console" ∷ names) (flat_map-append (λ (l : TreeStatement). pools_in l.kind) above (l ∷ []) ∙ ap (λ (names : List Name). flat_map (λ (l : TreeStatement). pools_in l.kind) above ++ names) (append-nil (pools_in l.kind)))

-- The same names, followed by the same names.
names_behind : (held meant more : List Name) → EqNames held meant → EqNames (held ++ more) (meant ++ more)
names_behind held meant more same n =
    list_any-append (bytes_eq n) held more ∙ (ap (λ (t : Bool). t || is_among more n) (same n) ∙ sym (list_any-append (bytes_eq n) meant more))

-- The names of the pools of one more statement.
pub pools_taken : (above : List TreeStatement) (l : TreeStatement) (held now : List Name) → EqNames held (pools_of above)
    → ((n : Name) → is_among now n ≡ is_among (held ++ pools_in l.kind) n) → EqNames now (pools_of (above ++ l ∷ []))
pools_taken above l held now same h n =
    h n ∙ (names_behind held (pools_of above) (pools_in l.kind) same n ∙ ap (λ names. is_among names n) (sym (pools_more above l)))

-- The own scope of a statement.
pub own_bound : {V : Type 0} (scopes : List ℕ) (own : ℕ) (word name : Name) (v w : V) → own_of scopes ≡ Some own → word ≡ name → v ≡ w → (own, (word, v)) ∷ [] ≡ in_own scopes name w
own_bound [] own word name v w e f g = cc
own_bound (o ∷ outer) own word name v w e f g = cc

none_bound : {V : Type 0} (scopes : List ℕ) (name : Name) (v : V) → own_of scopes ≡ None → in_own scopes name v ≡ []
none_bound [] name v e = refl
none_bound (o ∷ outer) name v e = cc

-- A manifest after one more edge, one more pool or more targets.
edge_behind : (edges now : List Edge) (pools : List Pool) (defaults : List DefaultTarget) (edge : Edge) → now ≡ edges ++ edge ∷ []
    → record { edges = now; pools = pools; defaults = defaults } ≡ with_more (record { edges = edges; pools = pools; defaults = defaults }) (edge_alone edge)
edge_behind edges now pools defaults edge e =
    ap (λ (l : List Edge). record { edges = l; pools = pools; defaults = defaults }) e
    ∙ (ap (λ (l : List Pool). record { edges = edges ++ edge ∷ []; pools = l; defaults = defaults }) (sym (append-nil pools))
    ∙ ap (λ (l : List DefaultTarget). record { edges = edges ++ edge ∷ []; pools = pools ++ []; defaults = l }) (sym (append-nil defaults)))

pub edge_more : (before now : EdgeRows) (pools : List Pool) (defaults : List DefaultTarget) (r : Result (Unit {0}) StatementFault) (meant : Result Edge Cause) → GivesEdge before now r meant
    → GivesMore (record { edges = edges_in before; pools = pools; defaults = defaults }) (record { edges = edges_in now; pools = pools; defaults = defaults }) r (map_ok edge_alone meant)
edge_more before now pools defaults (Ok done) meant g = (edge_alone g.0, ap (map_ok edge_alone) g.1, edge_behind (edges_in before) (edges_in now) pools defaults g.0 g.2)
edge_more before now pools defaults (Err (Refused cause)) meant g = ap (map_ok edge_alone) g
edge_more before now pools defaults (Err Memory) meant g = tt {0}

-- Edges that are within their rows stay so with one more edge.
pub given_within : (before now : EdgeRows) (r : Result (Unit {0}) StatementFault) (meant : Result Edge Cause) → (AreWithin before → GivesEdge before now r meant) → OnOk r (AreWithin before → AreWithin now)
given_within before now (Ok done) meant g = λ w. (g w).3
given_within before now (Err fault) meant g = tt {0}

-- A conclusion from two facts that hold for an Ok.
pub on_ok_both : {E : Type 0} {P Q R : Type 0} (r : Result (Unit {0}) E) → (P → Q → R) → OnOk r P → OnOk r Q → OnOk r R
on_ok_both (Ok x) f p q = f p q
on_ok_both (Err e) f p q = tt {0}

pub pool_behind : (edges : List Edge) (pools now : List Pool) (defaults : List DefaultTarget) (pool : Pool) → now ≡ pools ++ pool ∷ []
    → record { edges = edges; pools = now; defaults = defaults } ≡ with_more (record { edges = edges; pools = pools; defaults = defaults }) (pool_alone pool)
pool_behind edges pools now defaults pool e =
    ap (λ (l : List Pool). record { edges = edges; pools = l; defaults = defaults }) e
    ∙ (ap (λ (l : List Edge). record { edges = l; pools = pools ++ pool ∷ []; defaults = defaults }) (sym (append-nil edges))
    ∙ ap (λ (l : List DefaultTarget). record { edges = edges ++ []; pools = pools ++ pool ∷ []; defaults = l }) (sym (append-nil defaults)))

-- More targets.
pub targets_behind : (edges : List Edge) (pools : List Pool) (defaults now targets : List DefaultTarget) → now ≡ defaults ++ targets
    → record { edges = edges; pools = pools; defaults = now } ≡ with_more (record { edges = edges; pools = pools; defaults = defaults }) (defaults_alone targets)
targets_behind edges pools defaults now targets e =
    ap (λ (l : List DefaultTarget). record { edges = edges; pools = pools; defaults = l }) e
    ∙ (ap (λ (l : List Edge). record { edges = l; pools = pools; defaults = defaults ++ targets }) (sym (append-nil edges))
    ∙ ap (λ (l : List Pool). record { edges = edges ++ []; pools = l; defaults = defaults ++ targets }) (sym (append-nil pools)))

-- A statement that adds nothing changes nothing.
pub nothing_behind : (m : Manifest) → m ≡ with_more m empty_manifest
nothing_behind m =
    ap (λ (l : List Edge). record { edges = l; pools = m.pools; defaults = m.defaults }) (sym (append-nil m.edges))
    ∙ (ap (λ (l : List Pool). record { edges = m.edges ++ []; pools = l; defaults = m.defaults }) (sym (append-nil m.pools))
    ∙ ap (λ (l : List DefaultTarget). record { edges = m.edges ++ []; pools = m.pools ++ []; defaults = l }) (sym (append-nil m.defaults)))

-- A fault stays a fault.
pub fault_kept : {A : Type 0} (f : A → Manifest) (before now : Manifest) (fault : StatementFault) (meant : Result A Cause) → Gives {A = A} (Err fault) meant → GivesMore before now (Err fault) (map_ok f meant)
fault_kept f before now (Refused cause) meant e = ap (map_ok f) e
fault_kept f before now Memory meant e = tt

-- The results before the first statement.
pub fits_none : (bound : ScopedBindings Text) (rules : ScopedBindings (Bindings (List Piece))) (names : List Name) (marks : List EdgeMarks) → bound ≡ [] → rules ≡ [] → ((n : Name) → is_among names n ≡ is_among (codes "console" ∷ []) n) → marks ≡ []
    → KeptEqScoped bound (bound_by []) × EqScoped rules (rules_of []) × EqNames names (pools_of []) × (length marks ≡ length (builds_of []))
fits_none bound rules names marks e f g h = (
  λ s n. ap (λ (bs : ScopedBindings Text). option_map kept (last_of n (frame s bs))) e,
  λ s n. ap (λ (bs : ScopedBindings (Bindings (List Piece))). last_of n (frame s bs)) f,
  g,
  ap (λ (l : List EdgeMarks). length l) h,
)

-- The manifest of no statement has only the pool `console`.
pub manifest_alone : (edges : List Edge) (before pools : List Pool) (defaults : List DefaultTarget) (name : Name) → edges ≡ [] → before ≡ [] → pools ≡ before ++ record { name = name; depth = 1 } ∷ [] → name ≡ codes "console" → defaults ≡ []
    → record { edges = edges; pools = pools; defaults = defaults } ≡ pool_alone console
manifest_alone edges before pools defaults name e f g h k =
    let only : pools ≡ console ∷ [] = g ∙ (ap (λ (l : List Pool). l ++ record { name = name; depth = 1 } ∷ []) f ∙ ap (λ (n : Name). record { name = n; depth = 1 } ∷ []) h) in
    ap (λ (l : List Edge). record { edges = l; pools = pools; defaults = defaults }) e
    ∙ (ap (λ (l : List Pool). record { edges = []; pools = l; defaults = defaults }) only
    ∙ ap (λ (l : List DefaultTarget). record { edges = []; pools = console ∷ []; defaults = l }) k)

or_else_assoc : {V : Type 0} (a b c : Option V) → or_else (or_else a b) c ≡ or_else a (or_else b c)
or_else_assoc None b c = refl
or_else_assoc (Some x) b c = refl

or_else_none : {V : Type 0} (a : Option V) → a ≡ or_else a None
or_else_none None = refl
or_else_none (Some x) = refl

last_of_append : {V : Type 0} (n : Name) (a b : Bindings V) → last_of n (a ++ b) ≡ or_else (last_of n b) (last_of n a)
last_of_append n [] b = or_else_none (last_of n b)
last_of_append {V} n (x ∷ a) b =
    let here : Option V = cond (bytes_eq x.0 n) (Some x.1) None in
    ap (λ (o : Option V). or_else o here) (last_of_append n a b) ∙ or_else_assoc (last_of n b) (last_of n a) here

frame_append : {V : Type 0} (s : ℕ) (a b : ScopedBindings V) → frame s (a ++ b) ≡ frame s a ++ frame s b
frame_append s [] b = refl
frame_append {V} s (x ∷ a) b =
    ap (λ (rest : Bindings V). cond (eqb x.0 s) (x.1 ∷ rest) rest) (frame_append s a b)
    ∙ elim (eqb x.0 s) as (λ t. cond t (x.1 ∷ (frame s a ++ frame s b)) (frame s a ++ frame s b) ≡ cond t (x.1 ∷ frame s a) (frame s a) ++ frame s b) [ true ↦ refl | false ↦ refl ]

-- The same values, followed by the same values.
same_behind : {V : Type 0} (held meant more : ScopedBindings V) → EqScoped held meant → EqScoped (held ++ more) (meant ++ more)
same_behind {V} held meant more same s n =
    ap (last_of n) (frame_append s held more) ∙ (last_of_append n (frame s held) (frame s more)
    ∙ (ap (or_else (last_of n (frame s more))) (same s n)
    ∙ (sym (last_of_append n (frame s meant) (frame s more)) ∙ ap (last_of n) (sym (frame_append s meant more)))))

same_nearest : {V : Type 0} (held meant : ScopedBindings V) → EqScoped held meant → (scopes : List ℕ) (n : Name) → nearest held scopes n ≡ nearest meant scopes n
same_nearest held meant same [] n = refl
same_nearest held meant same (s ∷ outer) n =
    ap (λ o. or_else o (nearest held outer n)) (same s n) ∙ ap (or_else (last_of n (frame s meant))) (same_nearest held meant same outer n)

rules_more : (above : List TreeStatement) (l : TreeStatement) → rules_of (above ++ l ∷ []) ≡ rules_of above ++ rules_in l.scopes l.kind
rules_more above l =
    flat_map-append (λ (l : TreeStatement). rules_in l.scopes l.kind) above (l ∷ []) ∙ ap (λ (x : ScopedBindings (Bindings (List Piece))). rules_of above ++ x) (append-nil (rules_in l.scopes l.kind))

-- The build lines of one more statement.
pub builds_more : (above : List TreeStatement) (l : TreeStatement) → length (builds_of (above ++ l ∷ [])) ≡ length (builds_of above) + length (builds_in l.kind)
builds_more above l =
    ap (λ (x : List Build). length x) (flat_map-append (λ (l : TreeStatement). builds_in l.kind) above (l ∷ []) ∙ ap (λ (x : List Build). builds_of above ++ x) (append-nil (builds_in l.kind)))
    ∙ length-append (builds_of above) (builds_in l.kind)

-- The facts of statements: their bindings, their rules, their pools, and the number of their build lines.
abbrev pub Known : ScopedBindings Text → ScopedBindings (Bindings (List Piece)) → List Name → ℕ → List TreeStatement → Type 0
Known bound rules names count above = KeptEqScoped bound (bound_by above) × EqScoped rules (rules_of above) × EqNames names (pools_of above) × (count ≡ length (builds_of above))

-- The same with one more statement.
pub known_more : (bound : ScopedBindings Text) (rules held : ScopedBindings (Bindings (List Piece))) (names names_held : List Name) (count count_held : ℕ) (above : List TreeStatement) (l : TreeStatement) (k : StatementKind) → l.kind ≡ k
    → KeptEqScoped bound (bound_by above ++ bound_in (bound_by above) l.scopes k)
    → EqScoped held (rules_of above) → EqScoped rules (held ++ rules_in l.scopes k)
    → EqNames names_held (pools_of above) → ((n : Name) → is_among names n ≡ is_among (names_held ++ pools_in k) n)
    → count_held ≡ length (builds_of above) → count ≡ count_held + length (builds_in k)
    → Known bound rules names count (above ++ l ∷ [])
known_more bound rules held names names_held count count_held above l k e f g h i j m n = (
  agrees_more bound above l l.scopes k refl (sym e) f,
  λ s x.
      h s x
      ∙ (same_behind held (rules_of above) (rules_in l.scopes k) g s x
      ∙ ap (λ (bs : ScopedBindings (Bindings (List Piece))). last_of x (frame s bs)) (ap (λ (y : StatementKind). rules_of above ++ rules_in l.scopes y) (sym e) ∙ sym (rules_more above l))),
  λ x.
      j x
      ∙ (names_behind names_held (pools_of above) (pools_in k) i x
      ∙ ap (λ (ns : List Name). is_among ns x) (ap (λ (y : StatementKind). pools_of above ++ pools_in y) (sym e) ∙ sym (pools_more above l))),
  n ∙ (ap (λ (c : ℕ). c + length (builds_in k)) m ∙ (ap (λ (y : StatementKind). length (builds_of above) + length (builds_in y)) (sym e) ∙ sym (builds_more above l))),
)

-- Appending nothing changes no value.
pub same_end : {V : Type 0} (held : ScopedBindings V) → EqScoped held (held ++ [])
same_end {V} held s n = ap (λ (bs : ScopedBindings V). last_of n (frame s bs)) (sym (append-nil held))

-- Appending nothing changes no name.
pub names_end : (names : List Name) (n : Name) → is_among names n ≡ is_among (names ++ []) n
names_end names n = ap (λ (ns : List Name). is_among ns n) (sym (append-nil names))

-- The same with one more statement that changes none of these facts.
pub known_same : (bound : ScopedBindings Text) (rules : ScopedBindings (Bindings (List Piece))) (names : List Name) (count : ℕ) (above : List TreeStatement) (l : TreeStatement) (k : StatementKind) → l.kind ≡ k
    → bound_in (bound_by above) l.scopes k ≡ [] → rules_in l.scopes k ≡ [] → pools_in k ≡ [] → builds_in k ≡ []
    → KeptEqScoped bound (bound_by above) → EqScoped rules (rules_of above) → EqNames names (pools_of above) → count ≡ length (builds_of above)
    → Known bound rules names count (above ++ l ∷ [])
known_same bound rules names count above l k e f g h i agrees same known counted =
    known_more bound rules rules names names count count above l k e
    (λ s n. same_bound bound (bound_by above) agrees s n ∙ ap (λ (bs : ScopedBindings Text). option_map kept (last_of n (frame s (bound_by above ++ bs)))) (sym f))
    same (λ s n. same_end rules s n ∙ ap (λ (bs : ScopedBindings (Bindings (List Piece))). last_of n (frame s (rules ++ bs))) (sym g))
    known (λ n. names_end names n ∙ ap (λ (ns : List Name). is_among (names ++ ns) n) (sym h))
    counted (let z : length (builds_in k) ≡ 0 = ap (λ (b : List Build). length b) i in omega (arith, z))

-- The edge of a build line is the same if the rules are.
pub built_same : (names : List Name) (held rules : ScopedBindings (Bindings (List Piece))) (scopes : List ℕ) (h f : Name → Text) (b : Build) → EqScoped held rules → edge_of_build names held scopes h f b ≡ edge_of_build names rules scopes h f b
built_same names held rules scopes h f b same =
    ap (λ (o : Option (Bindings (List Piece))). cond (bytes_eq b.rule (codes "phony")) (edge_or_refusal names h b (phony_variables (environment_of h f b [])) true) (edge_of_rule names h f b o)) (same_nearest held rules same scopes b.rule)

-- A fact that holds in any case holds for an Ok.
pub on_ok_always : {T E P : Type 0} (r : Result T E) → P → OnOk r P
on_ok_always (Ok x) p = p
on_ok_always (Err e) p = tt

with_more_assoc : (a b c : Manifest) → with_more (with_more a b) c ≡ with_more a (with_more b c)
with_more_assoc a b c =
    ap (λ (l : List Edge). record { edges = l; pools = (a.pools ++ b.pools) ++ c.pools; defaults = (a.defaults ++ b.defaults) ++ c.defaults }) (append_assoc a.edges b.edges c.edges)
    ∙ (ap (λ (l : List Pool). record { edges = a.edges ++ (b.edges ++ c.edges); pools = l; defaults = (a.defaults ++ b.defaults) ++ c.defaults }) (append_assoc a.pools b.pools c.pools)
    ∙ ap (λ (l : List DefaultTarget). record { edges = a.edges ++ (b.edges ++ c.edges); pools = a.pools ++ (b.pools ++ c.pools); defaults = l }) (append_assoc a.defaults b.defaults c.defaults))

front_more : (before given : Manifest) (l : TreeStatement) (more : Result Manifest ScopeFault) → with_front (with_more before given) more ≡ with_front before (in_front l (Ok given) more)
front_more before given l (Ok more) = ap (λ (m : Manifest). Ok m) (with_more_assoc before given more)
front_more before given l (Err e) = refl

-- One more statement that succeeds.
pub next_given : (all above : List TreeStatement) (l : TreeStatement) (rest next : List TreeStatement) (before now : Manifest) (meant : Result Manifest ScopeFault) → rest ≡ l ∷ next
    → GivesMore before now (Ok tt) (manifest_of_kind all above l.scopes l.kind)
    → with_front before (manifest_past all above rest) ≡ meant
    → with_front now (manifest_past all (above ++ l ∷ []) next) ≡ meant
next_given all above l rest next before now meant e g h =
    let more = manifest_past all (above ++ l ∷ []) next in
    ap (λ (m : Manifest). with_front m more) g.2
    ∙ (front_more before g.0 l more
    ∙ (ap (λ (r : Result Manifest Cause). with_front before (in_front l r more)) (sym g.1)
    ∙ (ap (λ (x : List TreeStatement). with_front before (manifest_past all above x)) (sym e) ∙ h)))

-- A statement that is refused.
pub fault_given : (all above : List TreeStatement) (l : TreeStatement) (rest next : List TreeStatement) (before now : Manifest) (meant : Result Manifest ScopeFault) (fault : StatementFault) (r : ScopeFault) → rest ≡ l ∷ next
    → GivesMore before now (Err fault) (manifest_of_kind all above l.scopes l.kind)
    → with_front before (manifest_past all above rest) ≡ meant
    → IsLocated fault l r
    → r ≢ scope.Memory → meant ≡ Err r
fault_given all above l rest next before now meant (Refused cause) r e g h k not =
    let more = manifest_past all (above ++ l ∷ []) next in
    sym h ∙ (ap (λ (x : List TreeStatement). with_front before (manifest_past all above x)) e ∙ (ap (λ (r : Result Manifest Cause). with_front before (in_front l r more)) g ∙ ap (λ (f : ScopeFault). Err f) (sym (k not))))
fault_given all above l rest next before now meant Memory r e g h k not = elim (not k) [ ]
