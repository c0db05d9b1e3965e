-- Statements that include no file. Used for src/tree/loader.rt, up to `load_up_to_include`.
use Rattle.std.proofs.Common.{◌≡◌, ◌≢◌, ℕ, ◌+◌, ◌<◌, ◌≤◌, Bool, true, false, List, [], ◌∷◌, ◌++◌, ◌||◌, if◌then◌else◌, length, map, Option, Some, None, Ok, Err, refl, ap, sym, subst, ◌∙◌, take, drop, get_or, append-nil, append_assoc, arith}
use Rattle.std.specs.List.{list_any}
use Rattle.std.proofs.lemmas.List.{drop_all, drop-append-le, length-take-le, length-map, take-append-drop, take_more, get_or-map}
use Rattle.plan_parse.specs.Kinds.{Statement}
use Rattle.plan_parse.specs.Kinds.{StatementKind}
use Rattle.plan_parse.specs.Kinds as kind
use Rattle.plan_parse.specs.Compact.{said_in}
use Rattle.plan_parse.specs.PathLists.{between}
use Rattle.plan_parse.specs.declared.compact.CompactStatement.{CompactStatement}
use Rattle.plan_scope.specs.declared.tree.File.{File}
use Rattle.plan_scope.specs.declared.fault.Cause.{Cause}
use Rattle.plan_scope.specs.declared.fault.Cause.TheVariants.{TextTooLong}
use Rattle.plan_scope.specs.declared.fault.ScopeFault.{ScopeFault}
use Rattle.plan_scope.specs.declared.fault.ScopeFault.TheVariants.{SourceMissing, Parse, Refused, LoadMemory, Memory}
use Rattle.plan_scope.specs.ParsedTexts.{statements_in}
use Rattle.plan_scope.specs.Trees.{TreeStatement}
use Rattle.plan_scope.specs.FileStatements.{said_at, statement_at, statements_at}
use Rattle.plan_scope.specs.Scopes.{Text, Name, ScopedBindings, lookup, expand, bound_by, bound_in, is_too_long}
use Rattle.plan_scope.specs.Kept.{KeptEqScoped}
use Rattle.plan_scope.specs.Loading.{Outcome, cause_to_load, included_by}
use Rattle.plan_scope.specs.LoadingSteps.{LoadsStatement, LoadsStatements}
use Rattle.plan_scope.specs.LoaderAnswers.{IsBound, IsRefusal, path_included}
use Rattle.plan_scope.specs.declared.tree.loader.Include.{Include}
use Rattle.plan_scope.specs.LoadingUpTo.{BindsBetween, BindsUpTo, IsNext, LoadsBetween, LoadsFrom, RefusesUpTo, end_of, no_files, with_between}
use Rattle.plan_scope.proofs.ListLemmas.{dropped_at}
use Rattle.plan_scope.proofs.ScopeLemmas.{agrees_more}
use Rattle.plan_scope.proofs.LoaderLemmas.{all_then}

-- No item is between a number and itself.
none_between : {X : Type 0} (n : ℕ) (xs : List X) → n ≤ length xs → between n n xs ≡ []
none_between n xs le = let e : length (take n xs) ≡ n = length-take-le n xs le in drop_all n (take n xs) (omega (arith, e))

-- Items, and one more.
between_more : {X : Type 0} (start n : ℕ) (xs : List X) (x : X) → start ≤ n → n < length xs → get_or xs n x ≡ x → between start (n + 1) xs ≡ between start n xs ++ x ∷ []
between_more start n xs x le lt e =
    let f : length (take n xs) ≡ n = length-take-le n xs (omega (arith, lt)) in
    ap (drop start) (take_more xs n x lt ∙ ap (λ y. take n xs ++ y ∷ []) e) ∙ drop-append-le start (take n xs) (x ∷ []) (omega (arith, f, le))

-- Items, and all items after them.
between_then : {X : Type 0} (start n : ℕ) (xs : List X) → start ≤ n → n ≤ length xs → between start n xs ++ drop n xs ≡ drop start xs
between_then start n xs le lt =
    let f : length (take n xs) ≡ n = length-take-le n xs lt in
    sym (drop-append-le start (take n xs) (drop n xs) (omega (arith, f, le))) ∙ ap (drop start) (take-append-drop n xs)

-- The item at a place, under a function.
seen_at : {X Y : Type 0} (g : X → Y) (xs : List X) (n : ℕ) (x : X) → n < length xs → get_or xs n x ≡ x → get_or (map g xs) n (g x) ≡ g x
seen_at g xs n x lt e = get_or-map g xs n x (g x) lt ∙ ap g e

none_included : (here : Name → Text) (k : StatementKind) → path_included k ≡ None → included_by here k ≡ None
none_included here (kind.Include path) p = cc
none_included here (kind.Subninja path) p = cc
none_included here (kind.Rule r) p = refl
none_included here (kind.Build b) p = refl
none_included here (kind.Pool q) p = refl
none_included here (kind.Default targets) p = refl
none_included here (kind.Binding b) p = refl

-- Whether a statement binds a text that is too long.
abbrev pub binds_long : ScopedBindings Text → List ℕ → StatementKind → Bool
binds_long meant scopes k = list_any (λ b. is_too_long b.1.1) (bound_in meant scopes k)

cause_of_text : (t : Bool) → (t || false) ≡ false → (if t then Some TextTooLong else None) ≡ None
cause_of_text false e = refl
cause_of_text true e = cc

cause_of_long_text : (t : Bool) → (t || false) ≡ true → (if t then Some TextTooLong else None) ≡ Some TextTooLong
cause_of_long_text true e = refl
cause_of_long_text false e = cc

no_cause : (left : ℕ) (meant : ScopedBindings Text) (scopes : List ℕ) (k : StatementKind) → path_included k ≡ None → 0 < length scopes → binds_long meant scopes k ≡ false → cause_to_load left (lookup meant scopes) k ≡ None
no_cause left meant [] k p lt e = let no : ⊥ = omega (arith, lt) in absurd no
no_cause left meant (own ∷ outer) (kind.Binding b) p lt e = cause_of_text (is_too_long (expand (lookup meant (own ∷ outer)) b.value)) e
no_cause left meant (own ∷ outer) (kind.Include path) p lt e = cc
no_cause left meant (own ∷ outer) (kind.Subninja path) p lt e = cc
no_cause left meant (own ∷ outer) (kind.Rule r) p lt e = refl
no_cause left meant (own ∷ outer) (kind.Build b) p lt e = refl
no_cause left meant (own ∷ outer) (kind.Pool q) p lt e = refl
no_cause left meant (own ∷ outer) (kind.Default targets) p lt e = refl

long_cause : (left : ℕ) (meant : ScopedBindings Text) (scopes : List ℕ) (k : StatementKind) → 0 < length scopes → binds_long meant scopes k ≡ true → cause_to_load left (lookup meant scopes) k ≡ Some TextTooLong
long_cause left meant [] k lt e = let no : ⊥ = omega (arith, lt) in absurd no
long_cause left meant (own ∷ outer) (kind.Binding b) lt e = cause_of_long_text (is_too_long (expand (lookup meant (own ∷ outer)) b.value)) e
long_cause left meant (own ∷ outer) (kind.Include path) lt e = cc
long_cause left meant (own ∷ outer) (kind.Subninja path) lt e = cc
long_cause left meant (own ∷ outer) (kind.Rule r) lt e = cc
long_cause left meant (own ∷ outer) (kind.Build b) lt e = cc
long_cause left meant (own ∷ outer) (kind.Pool q) lt e = cc
long_cause left meant (own ∷ outer) (kind.Default targets) lt e = cc

-- A statement that includes no file and binds no text that is too long.
loads_one : (left : ℕ) (f : File) (mid : List TreeStatement) (s : Statement) → path_included s.kind ≡ None → 0 < length f.scopes → binds_long (bound_by mid) f.scopes s.kind ≡ false
    → LoadsStatements no_files left f.path f.scopes mid (s ∷ []) (Ok (mid ++ said_at f s ∷ []))
loads_one left f mid s p lt e =
    let here : Name → Text = lookup (bound_by mid) f.scopes in
    let out : Outcome = Ok (mid ++ said_at f s ∷ []) in
    let next = λ (statements : List TreeStatement) (o : Outcome). o ≡ Ok statements in
    subst (λ (c : Option Cause). LoadsStatement no_files next mid (said_at f s) c (included_by here s.kind) out) (sym (no_cause left (bound_by mid) f.scopes s.kind p lt e))
    (subst (λ (i : Option Text). LoadsStatement no_files next mid (said_at f s) None i out) (sym (none_included here s.kind p)) refl)

-- A statement that binds a text that is too long.
stops_at : (left : ℕ) (f : File) (mid : List TreeStatement) (s : Statement) (more : List Statement) → 0 < length f.scopes → binds_long (bound_by mid) f.scopes s.kind ≡ true
    → LoadsStatements no_files left f.path f.scopes mid (s ∷ more) (Err (Refused f.path s.offset TextTooLong))
stops_at left f mid s more lt e =
    let here : Name → Text = lookup (bound_by mid) f.scopes in
    let out : Outcome = Err (Refused f.path s.offset TextTooLong) in
    subst (λ (c : Option Cause). LoadsStatement no_files (λ statements o. LoadsStatements no_files left f.path f.scopes statements more o) mid (said_at f s) c (included_by here s.kind) out) (sym (long_cause left (bound_by mid) f.scopes s.kind lt e)) refl

-- No statement is bound yet.
pub binds_none : (f : File) (start : ℕ) (bound : ScopedBindings Text) → start ≤ length f.parsed.value.statements → BindsBetween f start start bound bound
binds_none f start bound le = λ above k.
    let all = f.parsed.value.statements in
    let said = said_in f.parsed.value.text f.parsed.value.lists in
    let none : with_between f start start above ≡ above = ap (λ (x : List TreeStatement). above ++ x) (none_between start (statements_at f) (subst (λ (n : ℕ). start ≤ n) (sym (length-map all (statement_at f))) le)) ∙ append-nil above in
    let nothing : between start start (statements_in f.parsed.value) ≡ [] = none_between start (map said all) (subst (λ (n : ℕ). start ≤ n) (sym (length-map all said)) le) in (
      subst (λ (x : List TreeStatement). KeptEqScoped bound (bound_by x)) (sym none) k,
      λ left.
          subst (λ (x : List Statement). LoadsStatements no_files left f.path f.scopes above x (Ok (with_between f start start above))) (sym nothing)
          (ap (λ (x : List TreeStatement). Ok x) none),
    )

-- One more statement is bound.
pub binds_more : (f : File) (start n : ℕ) (before mid now : ScopedBindings Text) (c : CompactStatement) (l : TreeStatement)
    → start ≤ n → n < length f.parsed.value.statements → get_or f.parsed.value.statements n c ≡ c → l ≡ statement_at f c → path_included l.kind ≡ None → 0 < length f.scopes
    → ((meant : ScopedBindings Text) → KeptEqScoped mid meant → KeptEqScoped now (meant ++ bound_in meant l.scopes l.kind))
    → ((meant : ScopedBindings Text) → KeptEqScoped mid meant → IsBound l (binds_long meant l.scopes l.kind) (Ok tt))
    → BindsBetween f start n before mid → BindsBetween f start (n + 1) before now
binds_more f start n before mid now c l le lt at is plain some bound short held = λ above k.
    let all = f.parsed.value.statements in
    let said = said_in f.parsed.value.text f.parsed.value.lists in
    let w = held above k in
    let so_far = with_between f start n above in
    let more : with_between f start (n + 1) above ≡ so_far ++ l ∷ [] =
    ap (λ (x : List TreeStatement). above ++ x) (between_more start n (statements_at f) (statement_at f c) le (subst (λ (m : ℕ). n < m) (sym (length-map all (statement_at f))) lt) (seen_at (statement_at f) all n c lt at))
    ∙ (sym (append_assoc above (between start n (statements_at f)) (statement_at f c ∷ [])) ∙ ap (λ (x : TreeStatement). so_far ++ x ∷ []) (sym is)) in
    let behind : between start (n + 1) (statements_in f.parsed.value) ≡ between start n (statements_in f.parsed.value) ++ said c ∷ [] =
    between_more start n (map said all) (said c) le (subst (λ (m : ℕ). n < m) (sym (length-map all said)) lt) (seen_at said all n c lt at) in
    let none : path_included (said c).kind ≡ None = ap (λ (x : TreeStatement). path_included x.kind) (sym is) ∙ plain in
    let fits : binds_long (bound_by so_far) f.scopes (said c).kind ≡ false = ap (λ (x : TreeStatement). binds_long (bound_by so_far) x.scopes x.kind) (sym is) ∙ short (bound_by so_far) w.0 in (
      subst (λ (x : List TreeStatement). KeptEqScoped now (bound_by x)) (sym more) (agrees_more now so_far l l.scopes l.kind refl refl (bound (bound_by so_far) w.0)),
      λ left.
          subst (λ (x : List Statement). LoadsStatements no_files left f.path f.scopes above x (Ok (with_between f start (n + 1) above))) (sym behind)
          (subst (λ (x : List TreeStatement). LoadsStatements no_files left f.path f.scopes above (between start n (statements_in f.parsed.value) ++ said c ∷ []) (Ok x)) (sym (more ∙ ap (λ (x : TreeStatement). so_far ++ x ∷ []) is))
          (all_then no_files left f.path f.scopes (between start n (statements_in f.parsed.value)) (said c ∷ []) above so_far (Ok (so_far ++ said_at f (said c) ∷ [])) (w.1 left)
          (loads_one left f so_far (said c) none some fits))),
    )

must_be_long : (t : Bool) (fault : ScopeFault) → fault ≢ LoadMemory → (t ≡ false → fault ≡ LoadMemory) → t ≡ true
must_be_long true fault not h = refl
must_be_long false fault not h = absurd (not (h refl))

refusal_is : (l : TreeStatement) (cause : Cause) (fault : ScopeFault) → fault ≢ LoadMemory → IsRefusal l cause fault → fault ≡ Refused l.path l.offset cause
refusal_is l cause LoadMemory not r = absurd (not refl)
refusal_is l cause (SourceMissing path) not r = r
refusal_is l cause (Parse path fault) not r = r
refusal_is l cause (Refused path offset other) not r = r
refusal_is l cause Memory not r = r

-- A statement is refused.
pub refuses : (f : File) (start n : ℕ) (before mid : ScopedBindings Text) (c : CompactStatement) (l : TreeStatement) (fault : ScopeFault)
    → start ≤ n → n < length f.parsed.value.statements → get_or f.parsed.value.statements n c ≡ c → l ≡ statement_at f c → 0 < length f.scopes
    → ((meant : ScopedBindings Text) → KeptEqScoped mid meant → IsBound l (binds_long meant l.scopes l.kind) (Err fault))
    → BindsBetween f start n before mid → RefusesUpTo f start before fault
refuses f start n before mid c l fault le lt at is some bound held = λ not above k left.
    let all = f.parsed.value.statements in
    let said = said_in f.parsed.value.text f.parsed.value.lists in
    let w = held above k in
    let so_far = with_between f start n above in
    let b = bound (bound_by so_far) w.0 in
    let long : binds_long (bound_by so_far) f.scopes (said c).kind ≡ true =
    ap (λ (x : TreeStatement). binds_long (bound_by so_far) x.scopes x.kind) (sym is) ∙ must_be_long (binds_long (bound_by so_far) l.scopes l.kind) fault not b.0 in
    let why : fault ≡ Refused f.path (said c).offset TextTooLong = refusal_is l TextTooLong fault not b.1 ∙ ap (λ (x : TreeStatement). Refused x.path x.offset TextTooLong) is in
    let lt_said : n < length (map said all) = subst (λ (m : ℕ). n < m) (sym (length-map all said)) lt in
    let dropped : drop n (map said all) ≡ said c ∷ drop (n + 1) (map said all) = dropped_at (map said all) n (said c) lt_said ∙ ap (λ (x : Statement). x ∷ drop (n + 1) (map said all)) (seen_at said all n c lt at) in
    let whole : between start n (map said all) ++ said c ∷ drop (n + 1) (map said all) ≡ drop start (map said all) =
    ap (λ (x : List Statement). between start n (map said all) ++ x) (sym dropped) ∙ between_then start n (map said all) le (omega (arith, lt_said)) in
    subst (λ (e : ScopeFault). LoadsStatements no_files left f.path f.scopes above (drop start (statements_in f.parsed.value)) (Err e)) (sym why)
    (subst (λ (x : List Statement). LoadsStatements no_files left f.path f.scopes above x (Err (Refused f.path (said c).offset TextTooLong))) whole
    (all_then no_files left f.path f.scopes (between start n (map said all)) (said c ∷ drop (n + 1) (map said all)) above so_far (Err (Refused f.path (said c).offset TextTooLong)) (w.1 left)
    (stops_at left f so_far (said c) (drop (n + 1) (map said all)) some long)))

-- Statements that were bound, up to one that includes a file.
pub up_to_loaded : (f g : File) (start end : ℕ) (before now : ScopedBindings Text) (above stands loaded : List TreeStatement) (include : Option Include) → g ≡ f → stands ≡ above → KeptEqScoped before (bound_by stands)
    → BindsUpTo g start before now include → end ≡ end_of f include → loaded ≡ stands ++ between start end (statements_at f)
    → IsNext f start include × LoadsBetween f start (end_of f include) above (Ok loaded)
up_to_loaded f g start end before now above stands loaded include e same k b ends is =
    let c = subst (λ (x : File). BindsUpTo x start before now include) e b in
    let w = c.binds stands k in (
      c.next,
      λ left.
          subst (λ (x : List TreeStatement). LoadsStatements no_files left f.path f.scopes x (between start (end_of f include) (statements_in f.parsed.value)) (Ok loaded)) same
          (subst (λ (x : List TreeStatement). LoadsStatements no_files left f.path f.scopes stands (between start (end_of f include) (statements_in f.parsed.value)) (Ok x))
          (sym (is ∙ ap (λ (n : ℕ). stands ++ between start n (statements_at f)) ends)) (w.1 left)),
    )

-- A statement among them that is refused.
pub up_to_refused : (f g : File) (start : ℕ) (before : ScopedBindings Text) (above stands : List TreeStatement) (fault : ScopeFault) → g ≡ f → stands ≡ above → KeptEqScoped before (bound_by stands)
    → RefusesUpTo g start before fault → fault ≢ LoadMemory → LoadsFrom f start above (Err fault)
up_to_refused f g start before above stands fault e same k r not =
    subst (λ (x : List TreeStatement). LoadsFrom f start x (Err fault)) same (subst (λ (x : File). LoadsFrom x start stands (Err fault)) e (r not stands k))
