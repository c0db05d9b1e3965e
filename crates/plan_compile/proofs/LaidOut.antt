-- An edge whose numbers are right, with slots that are typed and, if they belong to its waits, set: what it may
-- load and store.
use Rattle.std.proofs.Common.{◌≡◌, ℕ, zero, suc, ◌<◌, Bool, true, false, List, [], ◌∷◌, length, map, Option, Some, None, refl, sym, ap, subst, ◌∙◌, arith, inl, inr}
use Rattle.std.specs.Prelude.{◌||◌, ◌⊎◌, slice_get, ◌==◌}
use Rattle.std.specs.List.{list_any}
use Rattle.std.proofs.lemmas.Bool.{leb-false, eqb-true, eq-eqb}
use Rattle.plan_image.specs.declared.body.Kind.TheVariants as kind
use Rattle.plan_image.specs.declared.image.Parts.{Parts}
use Rattle.plan_verify.specs.declared.value.Value.{Value}
use Rattle.plan_verify.specs.declared.value.Value.TheVariants.{Stamp, Flag, Text, Paths, Swept}
use Rattle.plan_verify.specs.Members.{is_member}
use Rattle.plan_verify.specs.Tables.{owned_by, slot_kind, path_of, paths_of, with_path, first_path, first_output, outputs_of, pool_outside}
use Rattle.plan_verify.specs.Turn.{Slots, kind_of, is_filled}
use Rattle.plan_verify.specs.Sound.{AreTyped, AreLentSet}
use Rattle.plan_compile.specs.declared.layout.Input.{Input}
use Rattle.plan_compile.specs.declared.layout.Input.TheVariants.{File, Made}
use Rattle.plan_compile.specs.declared.layout.Output.{Output}
use Rattle.plan_compile.specs.declared.layout.CommandLayout.{CommandLayout}
use Rattle.plan_compile.specs.Rule.{Path, some_changed, first}
use Rattle.plan_compile.specs.Means.{text_in, path_at, text_at, stamp_in, stamp_at, flag_in, flag_at, given, output_path, IsFile, IsText, IsLentOf, AreInputs, AreSourceFiles, AreOutputs, HaveFiles, flags_of, HaveFlags, IsNoStamp, IsNoFlag, AreApart, HaveFlagSlots, slots_of, files_of, AreAllOwn, IsCommand}

-- ---- the facts about numbers

abbrev pub HasPath : Parts → ℕ → Type 0
HasPath p f = path_of p f ≡ Some (path_at p f)

abbrev pub HasText : Parts → ℕ → Type 0
HasText p t = slice_get p.texts t ≡ Some (text_at p t)

abbrev pub HasStamp : Slots → ℕ → Type 0
HasStamp slots s = slice_get slots s ≡ Some (Some (Stamp (stamp_at slots s)))

abbrev pub HasFlag : Slots → ℕ → Type 0
HasFlag slots s = slice_get slots s ≡ Some (Some (Flag (flag_at slots s)))

abbrev pub IsOwn : Parts → ℕ → ℕ → Type 0
IsOwn p e s = owned_by e (slice_get p.slots s) ≡ true

-- not an own slot
abbrev pub IsForeign : Parts → ℕ → ℕ → Type 0
IsForeign p e s = owned_by e (slice_get p.slots s) ≡ false

-- inputs whose files are in the table, and whose stamp slots other edges have set
abbrev pub AreReadable : Parts → ℕ → Slots → List Input → Type 0
AreReadable p e slots [] = Unit {0}
AreReadable p e slots (File f ∷ is) = HasPath p f × AreReadable p e slots is
AreReadable p e slots (Made stamp changed ∷ is) = (HasStamp slots stamp × IsForeign p e stamp) × AreReadable p e slots is

-- flags that other edges have set
abbrev pub AreFlags : Parts → ℕ → Slots → List ℕ → Type 0
AreFlags p e slots [] = Unit {0}
AreFlags p e slots (s ∷ ss) = (HasFlag slots s × IsForeign p e s) × AreFlags p e slots ss

abbrev pub AreFiles : Parts → List ℕ → Type 0
AreFiles p [] = Unit {0}
AreFiles p (f ∷ fs) = HasPath p f × AreFiles p fs

abbrev pub HavePaths : Parts → List Output → Type 0
HavePaths p [] = Unit {0}
HavePaths p (o ∷ os) = HasPath p o.file × HavePaths p os

abbrev pub AreWritable : Parts → ℕ → List Output → Type 0
AreWritable p e [] = Unit {0}
AreWritable p e (o ∷ os) = (HasPath p o.file × IsOwn p e o.stamp × IsOwn p e o.changed) × AreWritable p e os

-- a stamp slot is no flag slot
abbrev pub AreOfTwoKinds : List Output → Type 0
AreOfTwoKinds [] = Unit {0}
AreOfTwoKinds (o ∷ os) = (o.changed ≡ o.stamp → ⊥) × IsNoFlag o.stamp os × IsNoStamp o.changed os × AreOfTwoKinds os

-- whether one of these flags is set
abbrev pub some_flag : Slots → List ℕ → Bool
some_flag slots flags = list_any (λ s. flag_at slots s) flags

-- The numbers of a command edge are right, with these slots set.
pub record Wired (p : Parts) (e : ℕ) (w : CommandLayout) (slots : Slots) : Type 0 where
  pub named : AreReadable p e slots w.named
  pub order_only : AreFiles p w.order_only
  pub outputs : AreWritable p e w.outputs
  pub some : w.outputs ≡ [] → ⊥
  pub apart : AreApart w.outputs
  pub kinds : AreOfTwoKinds w.outputs
  pub changed : HaveFlagSlots w.restat w.outputs
  pub flags : AreFlags p e slots w.flags
  pub flags_are : some_flag slots w.flags ≡ some_changed (map (given p slots) w.named)
  pub newest : IsOwn p e w.newest
  pub newest_stamp : IsNoStamp w.newest w.outputs
  pub newest_flag : IsNoFlag w.newest w.outputs
  pub own : AreAllOwn p e (w.newest ∷ slots_of w.outputs)
  pub table : length slots ≡ length p.slots
  pub command : HasText p w.command
  pub unblank : w.blank ≡ false → text_at p w.command ≡ [] → ⊥
  pub depfile : (t : ℕ) → w.depfile ≡ Some t → HasText p t × (text_at p t ≡ [] → ⊥)
  pub name : first_output p e ≡ Some (first (map (output_path p) w.outputs))
  pub paths : paths_of p (outputs_of p e) ≡ Some (map (output_path p) w.outputs)
  pub pool : pool_outside p e ≡ false

-- ---- from numbers that are right

pub get_inside : {A : Type 0} (xs : List A) (k : ℕ) → k < length xs → (x : A) × (slice_get xs k ≡ Some x)
get_inside [] k lt = absurd (omega arith)
get_inside (x ∷ xs) zero lt = (x, refl)
get_inside (x ∷ xs) (suc k) lt = get_inside xs k (omega (arith, lt))

pub filled_is : (o : Option (Option Value)) → is_filled o ≡ true → (v : Value) × (o ≡ Some (Some v))
filled_is (Some (Some v)) h = (v, refl)
filled_is (Some None) h = absurd cc
filled_is None h = absurd cc

pub stamp_is : (v : Value) → kind_of v ≡ kind.Stamp → (n : ℕ) × (v ≡ Stamp n)
stamp_is (Stamp n) h = (n, refl)
stamp_is (Flag b) h = absurd cc
stamp_is (Text t) h = absurd cc
stamp_is (Paths n all) h = absurd cc
stamp_is (Swept all) h = absurd cc

pub flag_is : (v : Value) → kind_of v ≡ kind.Flag → (b : Bool) × (v ≡ Flag b)
flag_is (Flag b) h = (b, refl)
flag_is (Stamp n) h = absurd cc
flag_is (Text t) h = absurd cc
flag_is (Paths n all) h = absurd cc
flag_is (Swept all) h = absurd cc

-- a number that is among some or among others
pub or_cases : (a b : Bool) → (a || b) ≡ true → (a ≡ true) ⊎ (b ≡ true)
or_cases true b h = inl refl
or_cases false b h = inr h

pub or_right : (a b : Bool) → b ≡ true → (a || b) ≡ true
or_right true b h = refl
or_right false b h = h

-- if a member passes a test, one of the numbers does
pub any_member : (test : ℕ → Bool) (s : ℕ) (xs : List ℕ) → is_member s xs ≡ true → test s ≡ true → list_any test xs ≡ true
any_member test s [] h holds = absurd cc
any_member test s (x ∷ xs) h holds = elim (or_cases (x == s) (is_member s xs) h) [
  | inl at ↦ ap (λ (b : Bool). b || list_any test xs) (ap test (eqb-true x s at) ∙ holds)
  | inr more ↦ or_right (test x) (list_any test xs) (any_member test s xs more holds)
]

-- if one of the numbers passes a test, some member does
pub member_of_any : (test : ℕ → Bool) (xs : List ℕ) → list_any test xs ≡ true → (s : ℕ) × (is_member s xs ≡ true) × (test s ≡ true)
member_of_any test [] h = absurd cc
member_of_any test (x ∷ xs) h = elim (or_cases (test x) (list_any test xs) h) [
  | inl at ↦ (x, ap (λ (b : Bool). b || is_member x xs) (eq-eqb x x refl), at)
  | inr more ↦ let m = member_of_any test xs more in (m.0, or_right (x == m.0) (is_member m.0 xs) m.1, m.2)
]

pub both_ways : (a b : Bool) → (a ≡ true → b ≡ true) → (b ≡ true → a ≡ true) → a ≡ b
both_ways true b f g = sym (f refl)
both_ways false true f g = g refl
both_ways false false f g = refl

pub any_same : (test : ℕ → Bool) (xs ys : List ℕ) → ((s : ℕ) → is_member s xs ≡ is_member s ys) → list_any test xs ≡ list_any test ys
any_same test xs ys same =
    both_ways (list_any test xs) (list_any test ys)
    (λ h. let m = member_of_any test xs h in any_member test m.0 ys (sym (same m.0) ∙ m.1) m.2)
    (λ h. let m = member_of_any test ys h in any_member test m.0 xs (same m.0 ∙ m.1) m.2)

-- slots of different kinds are different
pub kinds_differ : (p : Parts) (a b : ℕ) → slot_kind p a ≡ kind.Flag → slot_kind p b ≡ kind.Stamp → a ≡ b → ⊥
kinds_differ p a b flag stamp same = let both : kind.Flag ≡ kind.Stamp = sym flag ∙ (ap (λ (n : ℕ). slot_kind p n) same ∙ stamp) in absurd cc

module _ (p : Parts) (e : ℕ) where
  pub no_stamp : (os : List Output) (s : ℕ) → AreOutputs p e os → slot_kind p s ≡ kind.Flag → IsNoStamp s os
  no_stamp [] s ok flag = tt
  no_stamp (o ∷ os) s ok flag = (kinds_differ p s o.stamp flag ok.0.1.1, no_stamp os s ok.1 flag)

  pub no_flag : (os : List Output) (s : ℕ) → AreOutputs p e os → slot_kind p s ≡ kind.Stamp → IsNoFlag s os
  no_flag [] s ok stamp = tt
  no_flag (o ∷ os) s ok stamp = ((λ same. kinds_differ p o.changed s ok.0.2.1 stamp (sym same)), no_flag os s ok.1 stamp)

  pub of_two_kinds : (os : List Output) → AreOutputs p e os → AreOfTwoKinds os
  of_two_kinds [] ok = tt
  of_two_kinds (o ∷ os) ok =
      (kinds_differ p o.changed o.stamp ok.0.2.1 ok.0.1.1, no_flag os o.stamp ok.1 ok.0.1.1, no_stamp os o.changed ok.1 ok.0.2.1, of_two_kinds os ok.1)

  pub has_path : (f : ℕ) → IsFile p f → HasPath p f
  has_path f inside =
      let x = get_inside p.files f (leb-false (length p.files) f inside) in
      x.1 ∙ ap (λ (o : Option (List ℕ)). Some (text_in o)) (sym x.1)

  pub has_text : (t : ℕ) → IsText p t → HasText p t
  has_text t inside =
      let x = get_inside p.texts t (leb-false (length p.texts) t inside) in
      x.1 ∙ ap (λ (o : Option (List ℕ)). Some (text_in o)) (sym x.1)

  pub files : (fs : List ℕ) → AreSourceFiles p fs → AreFiles p fs
  files [] h = tt
  files (f ∷ fs) h = (has_path f h.0, files fs h.1)

  pub have_paths : (os : List Output) → HaveFiles p os → HavePaths p os
  have_paths [] h = tt
  have_paths (o ∷ os) h = (has_path o.file h.0, have_paths os h.1)

  pub writable : (os : List Output) → AreOutputs p e os → AreWritable p e os
  writable [] h = tt
  writable (o ∷ os) h = ((has_path o.file h.0.0, h.0.1.0, h.0.2.0), writable os h.1)

  pub all_paths : (os : List Output) → AreOutputs p e os → paths_of p (files_of os) ≡ Some (map (output_path p) os)
  all_paths [] h = refl
  all_paths (o ∷ os) h =
      ap (λ (x : Option Path). with_path x (paths_of p (files_of os))) (has_path o.file h.0.0)
      ∙ ap (λ (x : Option (List Path)). with_path (Some (path_at p o.file)) x) (all_paths os h.1)

  pub first_is : (os : List Output) → (os ≡ [] → ⊥) → AreOutputs p e os → first_path p (files_of os) ≡ Some (first (map (output_path p) os))
  first_is [] some h = absurd (some refl)
  first_is (o ∷ os) some h = has_path o.file h.0.0

  -- the flag slots of inputs belong to edges that are waited for
  pub flag_lent : (is : List Input) (s : ℕ) → AreInputs p e is → is_member s (flags_of is) ≡ true → IsLentOf p e kind.Flag s
  flag_lent [] s h m = absurd cc
  flag_lent (File f ∷ is) s h m = flag_lent is s h.1 m
  flag_lent (Made st ch ∷ is) s h m = elim (or_cases (ch == s) (is_member s (flags_of is)) m) [
    | inl at ↦ subst (λ (n : ℕ). IsLentOf p e kind.Flag n) (eqb-true ch s at) h.0.1
    | inr more ↦ flag_lent is s h.1 more
  ]

  pub flags_lent : (is : List Input) (flags : List ℕ) → AreInputs p e is → HaveFlags is flags → (s : ℕ) → is_member s flags ≡ true → IsLentOf p e kind.Flag s
  flags_lent is flags h have s m = flag_lent is s h (sym (have s) ∙ m)

module _ (p : Parts) (e : ℕ) (slots : Slots) (typed : AreTyped p slots) (lent : AreLentSet p e slots) where
  pub has_stamp : (s : ℕ) → IsLentOf p e kind.Stamp s → HasStamp slots s
  has_stamp s l =
      let v = filled_is (slice_get slots s) (lent s l.1) in
      let n = stamp_is v.0 (typed.kinds s v.0 v.1 ∙ l.2) in
      let is : slice_get slots s ≡ Some (Some (Stamp n.0)) = v.1 ∙ ap (λ (x : Value). Some (Some x)) n.1 in
      is ∙ ap (λ (o : Option (Option Value)). Some (Some (Stamp (stamp_in o)))) (sym is)

  pub has_flag : (s : ℕ) → IsLentOf p e kind.Flag s → HasFlag slots s
  has_flag s l =
      let v = filled_is (slice_get slots s) (lent s l.1) in
      let b = flag_is v.0 (typed.kinds s v.0 v.1 ∙ l.2) in
      let is : slice_get slots s ≡ Some (Some (Flag b.0)) = v.1 ∙ ap (λ (x : Value). Some (Some x)) b.1 in
      is ∙ ap (λ (o : Option (Option Value)). Some (Some (Flag (flag_in o)))) (sym is)

  -- the inputs of an edge whose numbers are right can be read
  pub readable : (is : List Input) → AreInputs p e is → AreReadable p e slots is
  readable [] h = tt
  readable (File f ∷ is) h = (has_path p e f h.0, readable is h.1)
  readable (Made st ch ∷ is) h = ((has_stamp st h.0.0, h.0.0.0), readable is h.1)

  pub flags_readable : (flags : List ℕ) → ((s : ℕ) → is_member s flags ≡ true → IsLentOf p e kind.Flag s) → AreFlags p e slots flags
  flags_readable [] h = tt
  flags_readable (x ∷ xs) h =
      let l : IsLentOf p e kind.Flag x = h x (ap (λ (b : Bool). b || is_member x xs) (eq-eqb x x refl)) in
      ((has_flag x l, l.0), flags_readable xs (λ s m. h s (or_right (x == s) (is_member s xs) m)))

  pub changed_is : (is : List Input) → some_flag slots (flags_of is) ≡ some_changed (map (given p slots) is)
  changed_is [] = refl
  changed_is (File f ∷ is) = changed_is is
  changed_is (Made st ch ∷ is) = ap (λ (b : Bool). flag_at slots ch || b) (changed_is is)

  -- a command edge whose numbers are right
  pub laid_out : (w : CommandLayout) → IsCommand p e w → Wired p e w slots
  laid_out w c = record {
    named = readable w.named c.named;
    order_only = files p e w.order_only c.order_only;
    outputs = writable p e w.outputs c.outputs;
    some = c.some;
    apart = c.apart;
    kinds = of_two_kinds p e w.outputs c.outputs;
    changed = c.changed;
    flags = flags_readable w.flags (flags_lent p e w.named w.flags c.named c.flags);
    flags_are = any_same (λ s. flag_at slots s) w.flags (flags_of w.named) c.flags ∙ changed_is w.named;
    newest = c.newest.0.0;
    newest_stamp = c.newest.1;
    newest_flag = no_flag p e w.outputs w.newest c.outputs c.newest.0.1;
    own = c.own;
    table = typed.table;
    command = has_text p e w.command c.command.0;
    unblank = c.command.1;
    depfile = λ t is. (has_text p e t (c.depfile t is).0, (c.depfile t is).1);
    name = ap (λ (fs : List ℕ). first_path p fs) c.files ∙ first_is p e w.outputs c.some c.outputs;
    paths = ap (λ (fs : List ℕ). paths_of p fs) c.files ∙ all_paths p e w.outputs c.outputs;
    pool = c.pool;
  }
