-- Lemmas about missing sources. Serves src/sources.rt.
use Rattle.std.proofs.Common.{◌≡◌, ◌⊎◌, ◌∙◌, ℕ, ◌+◌, ◌<◌, ◌≤◌, Bool, true, List, Option, Some, None, Result, Ok, Err, IfOk, IfSome, IfNone, inl, inr, sym, ap, subst, arith, length}
use Rattle.std.specs.Prelude.{slice_get}
use Rattle.std.proofs.lemmas.Bool.{cases_order}
use Rattle.std.proofs.lemmas.Option.{slice_get_within}
use Rattle.plan_image.specs.Code.{code}
use Rattle.plan_image.specs.declared.body.Instr.{Instr}
use Rattle.plan_image.specs.declared.body.Instr.TheVariants as op
use Rattle.plan_image.specs.declared.image.Parts.{Parts}
use Rattle.plan_machine.specs.Wanted.{AreWanted}
use Rattle.plan_lanes.specs.Journals.{Rule}
use Rattle.plan_printing.specs.declared.fault.PlanFault.{PlanFault}
use Rattle.plan_printing.specs.Faults.{no_memory, no_source}
use Rattle.plan_commands.specs.declared.sources.Lack.{Lack}
use Rattle.plan_commands.specs.NeededFiles.{Finds, FindsAt, FindsBy, FindsFile, HasNeeded, HasSources, HaveBetween, IsLack, LacksNeeded, LacksSource, MayHave, name_in, path_in}

-- ---- the code of an edge

-- Each file that an edge needs at a place below this may be there.
abbrev pub HasBelow : Rule → Parts → ℕ → ℕ → Type 0
HasBelow rule p e n = (f place : ℕ) → place < n → slice_get (code p e) place ≡ Some (op.Need f) → MayHave rule (path_in p f)

pub has_below_zero : (rule : Rule) (p : Parts) (e : ℕ) → HasBelow rule p e 0
has_below_zero rule p e f place below is = absurd (omega (arith, below))

pub has_one_more : (rule : Rule) (p : Parts) (e n : ℕ) → HasBelow rule p e n → FindsBy rule p (slice_get (code p e) n) None → HasBelow rule p e (n + 1)
has_one_more rule p e n before here f place below is = by (cases_order place n)
  where
    by : (place ≡ n) ⊎ ((place < n) ⊎ (n < place)) → MayHave rule (path_in p f)
    by (inl same) = here f (subst (λ (k : ℕ). slice_get (code p e) k ≡ Some (op.Need f)) same is)
    by (inr (inl less)) = before f place less is
    by (inr (inr more)) = absurd (omega (arith, below, more))

pub has_all : (rule : Rule) (p : Parts) (e n : ℕ) → length (code p e) ≤ n → HasBelow rule p e n → HasNeeded rule p e
has_all rule p e n long before f needs =
    let within : needs.0 < length (code p e) = slice_get_within (code p e) needs.0 (op.Need f) needs.1 in
    before f needs.0 (omega (arith, long, within)) needs.1

need_is_no_store : (f s : ℕ) (o : Option Instr) → o ≡ Some (op.Need f) → o ≡ Some (op.Store s) → ⊥
need_is_no_store f s o need store = absurd (let clash : Some (op.Need f) ≡ Some (op.Store s) = sym need ∙ store in cc)

-- Nothing is needed first from the first store on.
pub has_front : (rule : Rule) (p : Parts) (e n s : ℕ) → slice_get (code p e) n ≡ Some (op.Store s) → HasBelow rule p e n → HasNeeded rule p e
has_front rule p e n s stores before f needs = by (cases_order needs.0 n)
  where
    by : (needs.0 ≡ n) ⊎ ((needs.0 < n) ⊎ (n < needs.0)) → MayHave rule (path_in p f)
    by (inl same) = absurd (need_is_no_store f s (slice_get (code p e) n) (subst (λ (k : ℕ). slice_get (code p e) k ≡ Some (op.Need f)) same needs.1) stores)
    by (inr (inl less)) = before f needs.0 less needs.1
    by (inr (inr more)) = absurd (needs.2 n s more stores)

-- The instruction at a place of the code.
pub at_place : (p t : Parts) (e n : ℕ) (view : List Instr) (i : Option Instr) → t ≡ p → view ≡ code t e → i ≡ slice_get view n → i ≡ slice_get (code p e) n
at_place p t e n view i tp viewed at = at ∙ ap (λ (v : List Instr). slice_get v n) (viewed ∙ ap (λ (x : Parts). code x e) tp)

-- Nothing is lacked at a place of the code.
pub none_here : (rule : Rule) (p t q : Parts) (e n : ℕ) (view : List Instr) (i : Option Instr) (found : Option ℕ) → t ≡ p → q ≡ t → view ≡ code t e → i ≡ slice_get view n → FindsBy rule q i found → found ≡ None
    → FindsBy rule p (slice_get (code p e) n) None
none_here rule p t q e n view i found tp qt viewed at finds none =
    let here : FindsBy rule q i None = subst (λ (x : Option ℕ). FindsBy rule q i x) none finds in
    let of : FindsBy rule p i None = subst (λ (x : Parts). FindsBy rule x i None) (qt ∙ tp) here in
    subst (λ (x : Option Instr). FindsBy rule p x None) (at ∙ ap (λ (v : List Instr). slice_get v n) (viewed ∙ ap (λ (x : Parts). code x e) tp)) of

pub same_length : (p t : Parts) (e : ℕ) (view : List Instr) → t ≡ p → view ≡ code t e → length view ≡ length (code p e)
same_length p t e view tp viewed = ap (λ (v : List Instr). length v) (viewed ∙ ap (λ (x : Parts). code x e) tp)

-- ---- one edge

pub finds_at : (rule : Rule) (p : Parts) (wanted : List Bool) (e : ℕ) (file : Option ℕ) (result : Option Lack) → slice_get wanted e ≡ Some true → FindsFile rule p e file
    → IfSome result (λ lack. (lack.edge ≡ e) × (file ≡ Some lack.file)) → IfNone result (file ≡ None) → FindsAt rule p wanted e result
finds_at rule p wanted e file (Some lack) marked found is none =
    subst (λ (k : ℕ). (slice_get wanted k ≡ Some true) × LacksNeeded rule p k lack.file) (sym is.0) (marked, subst (λ (x : Option ℕ). FindsFile rule p e x) is.1 found)
finds_at rule p wanted e file None marked found is none = λ so. subst (λ (x : Option ℕ). FindsFile rule p e x) none found

-- ---- the edges

pub have_none : (rule : Rule) (p : Parts) (wanted : List Bool) (from to : ℕ) → to ≤ from → HaveBetween rule p wanted from to
have_none rule p wanted from to none e least most marked = absurd (omega (arith, none, least, most))

pub have_one_more : (rule : Rule) (p : Parts) (wanted : List Bool) (from n : ℕ) → HaveBetween rule p wanted from n → FindsAt rule p wanted n None → HaveBetween rule p wanted from (n + 1)
have_one_more rule p wanted from n before here e least most marked = by (cases_order e n)
  where
    by : (e ≡ n) ⊎ ((e < n) ⊎ (n < e)) → HasNeeded rule p e
    by (inl same) = subst (λ (k : ℕ). HasNeeded rule p k) (sym same) (here (subst (λ (k : ℕ). slice_get wanted k ≡ Some true) same marked))
    by (inr (inl less)) = before e least less marked
    by (inr (inr more)) = absurd (omega (arith, most, more))

pub have_fewer : (rule : Rule) (p : Parts) (wanted : List Bool) (from n to : ℕ) → to ≤ n → HaveBetween rule p wanted from n → HaveBetween rule p wanted from to
have_fewer rule p wanted from n to fewer have e least most marked = have e least (omega (arith, fewer, most)) marked

have_both : (rule : Rule) (p : Parts) (wanted : List Bool) (from middle to : ℕ) → HaveBetween rule p wanted from middle → HaveBetween rule p wanted middle to → HaveBetween rule p wanted from to
have_both rule p wanted from middle to first second e least most marked = by (cases_order e middle)
  where
    by : (e ≡ middle) ⊎ ((e < middle) ⊎ (middle < e)) → HasNeeded rule p e
    by (inl same) = second e (omega (arith, same)) most marked
    by (inr (inl less)) = first e least less marked
    by (inr (inr more)) = second e (omega (arith, more)) most marked

-- What is found among the edges below a number and among those from there on is found among all.
finds_both : (rule : Rule) (p : Parts) (wanted : List Bool) (from middle to : ℕ) (second : Option Lack) → Finds rule p wanted from middle None → Finds rule p wanted middle to second → Finds rule p wanted from to second
finds_both rule p wanted from middle to (Some lack) first found = found
finds_both rule p wanted from middle to None first found = have_both rule p wanted from middle to first found

pub all_found : {B : Type 0} (rule : Rule) (p : Parts) (wanted : List Bool) (from middle to : ℕ) (first second : Result (Option Lack) B) (x : Option Lack) → first ≡ Ok x → x ≡ None → IfOk first (Finds rule p wanted from middle)
    → IfOk second (Finds rule p wanted middle to) → IfOk second (Finds rule p wanted from to)
all_found {B} rule p wanted from middle to first (Ok found) x is none one two =
    finds_both rule p wanted from middle to found (subst (λ (y : Option Lack). Finds rule p wanted from middle y) none (subst (λ (r : Result (Option Lack) B). IfOk r (Finds rule p wanted from middle)) is one)) two
all_found {B} rule p wanted from middle to first (Err error) x is none one two = tt

-- ---- the edges that targets need

sources_there : (rule : Rule) (p : Parts) (targets : List ℕ) (wanted : List Bool) → AreWanted p targets wanted → Finds rule p wanted 0 (length p.edges) None → HasSources rule p targets
sources_there rule p targets wanted are have e is =
    let marked = (are.each e).1 is in
    have e (omega arith) (subst (λ (k : ℕ). e < k) are.long (slice_get_within wanted e true marked)) marked

pub all_there : (rule : Rule) (p t q : Parts) (targets : List ℕ) (wanted given : List Bool) (found : Option Lack) → t ≡ p → q ≡ t → AreWanted q targets wanted → given ≡ wanted → Finds rule p given 0 (length p.edges) found → found ≡ None
    → HasSources rule p targets
all_there rule p t q targets wanted given found tp qt are same finds none =
    sources_there rule p targets wanted (subst (λ (x : Parts). AreWanted x targets wanted) (qt ∙ tp) are)
    (subst (λ (w : List Bool). Finds rule p w 0 (length p.edges) None) same (subst (λ (x : Option Lack). Finds rule p given 0 (length p.edges) x) none finds))

pub source_lacks : (rule : Rule) (p : Parts) (targets : List ℕ) (wanted : List Bool) (number : ℕ) (fault : PlanFault) (lack : Lack) → AreWanted p targets wanted → IsLack rule p wanted lack
    → (fault ≡ no_memory) ⊎ (fault ≡ no_source number (path_in p lack.file) (name_in p lack.edge)) → (fault ≡ no_memory) ⊎ LacksSource rule p targets number fault
source_lacks rule p targets wanted number fault lack are is (inl memory) = inl memory
source_lacks rule p targets wanted number fault lack are is (inr says) = inr (record { edge = lack.edge; wanted = (are.each lack.edge).0 is.0; file = lack.file; lacks = is.1; says = says })
