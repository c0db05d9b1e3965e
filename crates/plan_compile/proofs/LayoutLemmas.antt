-- The numbers of each edge are right in the image.
use Rattle.std.proofs.Common.{◌≡◌, ℕ, zero, suc, ◌+◌, ◌<◌, Bool, true, false, List, [], ◌∷◌, length, Option, Some, None, refl, sym, ap, subst, ◌∙◌, arith, inl, inr}
use Rattle.std.specs.Prelude.{◌||◌, ◌&&◌, ◌==◌, slice_get, if◌then◌else◌, nat_le, nat_lt, is_some}
use Rattle.std.specs.List.{list_any}
use Rattle.std.proofs.lemmas.Bool.{eqb-true, eq-eqb, ltb-true, lt-leb}
use Rattle.std.proofs.lemmas.Option.{slice_get_within}
use Rattle.plan_image.specs.declared.body.Kind.{Kind}
use Rattle.plan_image.specs.declared.body.Kind.TheVariants.{Stamp, Flag}
use Rattle.plan_image.specs.declared.image.Edge.{Edge}
use Rattle.plan_image.specs.declared.image.Parts.{Parts}
use Rattle.plan_verify.specs.Members.{is_member, with_member}
use Rattle.plan_verify.specs.Tables.{owned_by, kind_in, lent_by, waits_in, waits_of, outputs_in, pool_in, is_outside}
use Rattle.plan_compile.specs.declared.layout.Input.{Input}
use Rattle.plan_compile.specs.declared.layout.Input.TheVariants.{File, Made}
use Rattle.plan_compile.specs.declared.layout.Output.{Output}
use Rattle.plan_compile.specs.declared.slot_pattern.SlotPattern.{SlotPattern}
use Rattle.plan_compile.specs.declared.slot_pattern.SlotPattern.TheVariants.{OneFlag, OwnFlags, Gathers, Alone}
use Rattle.plan_compile.specs.Builds.{Build, Builds}
use Rattle.plan_compile.specs.Means.{text_in, text_at, IsFile, IsText, IsOwnOf, IsLentOf, AreInputs, AreSourceFiles, AreOutputs, HaveFiles, flags_of, HaveFlags, HaveFlagSlots, slots_of, files_of, AreAllOwn, IsNoStamp, IsCommand, IsGather, IsAlone, IsLaidOut}
use Rattle.plan_compile.specs.Slots.{has_none, form_by, form_of, kinds_by, own_kinds, stamps, pairs, outputs_flagged, outputs_apart, outputs_by, made, newest_by, outputs_sharing, base, all_made, find, input_by, inputs_by, sources, with_flag, flags_from, flags_once}
use Rattle.plan_compile.specs.Names.{Text, text_number, unless_empty, texts_by, all_texts, depfile_number, pool_number, used_pools}
use Rattle.plan_compile.specs.Names.{pool_in as pool_name}
use Rattle.plan_compile.specs.Images.{is_blank, command_layout, gather_layout, layout_by, layout_of, image_of}
use Rattle.plan_compile.specs.Faithful.{IsEdge, AreInside, HasPool, IsSound}
use Rattle.plan_compile.proofs.ListLemmas.{some_is, bool_cases, or_false, or_left, or_right}
use Rattle.plan_compile.proofs.RunLemmas.{slot_at, IsSlotOf, slot_of, all_own}
use Rattle.plan_compile.proofs.OutputLemmas.{Holds, Runs, first_run, rest_run, own_of_held, flagged_own, apart_own, flagged_below, flagged_apart, flagged_share, apart_below_stamps, apart_apart, apart_flags, sharing_share, files_flagged, files_apart, in_stamps, flag_among, in_pairs, find_split, IsOutput, found_by}
use Rattle.plan_compile.proofs.EdgeLemmas.{image_edge, text_found, has_pool}

-- ---- the edge of an output

pub record IsMadeBy (b : ℕ) (xs : List Build) (f : ℕ) (o : Output) : Type 0 where
  pub edge : ℕ
  pub build : Build
  pub here : slice_get xs edge ≡ Some build
  pub found : find f (made (b + base xs edge) build) ≡ Some o

pub maker : (b : ℕ) (xs : List Build) (f : ℕ) (o : Output) → find f (all_made b xs) ≡ Some o → IsMadeBy b xs f o
maker b [] f o h = absurd cc
maker b (x ∷ xs) f o h =
    elim (find_split f (made b x) (all_made (b + length (own_kinds x)) xs) o h) as (λ c. IsMadeBy b (x ∷ xs) f o) [
      | inl g ↦ let same : b ≡ b + zero = omega arith in record { edge = zero; build = x; here = refl; found = subst (λ (n : ℕ). find f (made n x) ≡ Some o) same g }
      | inr g ↦
          let r : IsMadeBy (b + length (own_kinds x)) xs f o = maker (b + length (own_kinds x)) xs f o g in
          let same : b + length (own_kinds x) + base xs r.edge ≡ b + (length (own_kinds x) + base xs r.edge) = omega arith in
          record { edge = suc r.edge; build = r.build; here = r.here; found = subst (λ (n : ℕ). find f (made n r.build) ≡ Some o) same r.found }
    ]

pub own_run : (t : Builds) (e : ℕ) (x : Build) → IsEdge t e x → Runs (image_of t) e (base t.edges e) (own_kinds x)
own_run t e x at i k g = let same : zero + e ≡ e = omega arith in slot_at zero t.edges e x at i k g ∙ ap (λ (n : ℕ). Some (record { owner = n; kind = k })) same

-- ---- edges that use an edge's outputs may load their slots

module _ (t : Builds) (sound : IsSound t) (e : ℕ) (x : Build) (at : IsEdge t e x) where
  pub apart : (w : ℕ) → is_member w x.waits ≡ true → (w == e) ≡ false
  apart w waits =
      elim (bool_cases (w == e)) as (λ c. (w == e) ≡ false) [
        | inl same ↦
            let r = sound.ranks e x w at waits in
            let here : slice_get t.edges e ≡ Some r.0 = subst (λ (n : ℕ). slice_get t.edges n ≡ Some r.0) (eqb-true w e same) r.1 in
            let it : r.0 ≡ x = some_is r.0 x (sym here ∙ at) in
            let less : x.rank < x.rank = ltb-true x.rank x.rank (ap (λ (z : Build). nat_lt z.rank x.rank) (sym it) ∙ r.2) in
            absurd (omega (arith, less))
        | inr other ↦ other
      ]

  pub lent_slot : (w : ℕ) → is_member w x.waits ≡ true → (k : Kind) (s : ℕ) → Holds (image_of t) w k s → IsLentOf (image_of t) e k s
  lent_slot w waits k s h =
      let among : is_member w (waits_of (image_of t) e) ≡ true = ap (λ (o : Option Edge). is_member w (waits_in o)) (image_edge t e x at) ∙ waits in
      (ap (owned_by e) h ∙ apart w waits, ap (lent_by (waits_of (image_of t) e)) h ∙ among, ap kind_in h)

  pub lent : (f : ℕ) (o : Output) → is_member f x.named ≡ true → find f (all_made zero t.edges) ≡ Some o → IsLentOf (image_of t) e Stamp o.stamp × IsLentOf (image_of t) e Flag o.changed
  lent f o named h =
      let m : IsMadeBy zero t.edges f o = maker zero t.edges f o h in
      let same : zero + base t.edges m.edge ≡ base t.edges m.edge = omega arith in
      let out : IsOutput (image_of t) m.edge f m.build.outputs o =
      found_by (image_of t) m.edge f o (form_of m.build) (base t.edges m.edge) m.build.outputs (own_run t m.edge m.build m.here)
      (subst (λ (n : ℕ). find f (made n m.build) ≡ Some o) same m.found) in
      let waits : is_member m.edge x.waits ≡ true = sound.waits e x m.edge m.build f at m.here named out.member in
      (lent_slot m.edge waits Stamp o.stamp out.stamp, lent_slot m.edge waits Flag o.changed out.changed)

  input_right : (f : ℕ) (o : Option Output) (is : List Input) → find f (all_made zero t.edges) ≡ o → is_member f x.named ≡ true → nat_le (length t.files) f ≡ false
      → AreInputs (image_of t) e is → AreInputs (image_of t) e (input_by f o ∷ is)
  input_right f (Some o) is h named inside rest = (lent f o named h, rest)
  input_right f None is h named inside rest = (inside, rest)

  pub inputs_right : (fs : List ℕ) → AreInside t fs → ((f : ℕ) → is_member f fs ≡ true → is_member f x.named ≡ true) → AreInputs (image_of t) e (inputs_by (all_made zero t.edges) fs)
  inputs_right [] inside named = tt
  inputs_right (f ∷ fs) inside named =
      let o = or_false (nat_le (length t.files) f) (list_any (λ g. nat_le (length t.files) g) fs) inside in
      input_right f (find f (all_made zero t.edges)) (inputs_by (all_made zero t.edges) fs) refl (named f (or_left (f == f) (is_member f fs) (eq-eqb f f refl))) o.0
      (inputs_right fs o.1 (λ g m. named g (or_right (f == g) (is_member g fs) m)))

pub sources_right : (t : Builds) (outputs : List Output) (named fs : List ℕ) → AreInside t fs → AreSourceFiles (image_of t) (sources outputs named fs)
sources_right t outputs named [] inside = tt
sources_right t outputs named (f ∷ fs) inside =
    let o = or_false (nat_le (length t.files) f) (list_any (λ g. nat_le (length t.files) g) fs) inside in
    elim (is_some (find f outputs) || is_member f named) as (λ b. AreSourceFiles (image_of t) (if b then sources outputs named fs else f ∷ sources outputs named fs))
    [ true ↦ sources_right t outputs named fs o.1 | false ↦ (o.0, sources_right t outputs named fs o.1) ]

sharing_files : (t : Builds) (stamp changed : ℕ) (fs : List ℕ) → AreInside t fs → HaveFiles (image_of t) (outputs_sharing stamp changed fs)
sharing_files t stamp changed [] inside = tt
sharing_files t stamp changed (f ∷ fs) inside =
    let o = or_false (nat_le (length t.files) f) (list_any (λ g. nat_le (length t.files) g) fs) inside in
    (o.0, sharing_files t stamp changed fs o.1)

-- ---- the flags of inputs, without repetitions

or_none : (a : Bool) → (a || false) ≡ a
or_none true = refl
or_none false = refl

or_move : (a b c : Bool) → ((b || a) || c) ≡ (a || (b || c))
or_move true true c = refl
or_move true false c = refl
or_move false true c = refl
or_move false false c = refl

or_swap : (a b c d : Bool) → a ≡ (b || c) → (d || a) ≡ (b || (d || c))
or_swap a b c true h = sym (or_right b true refl)
or_swap a b c false h = h

-- an equal number is already there
or_there : (n m s : ℕ) (rest : Bool) → n ≡ m → ((m == s) || rest) ≡ ((n == s) || ((m == s) || rest))
or_there n m s rest is = subst (λ (k : ℕ). ((m == s) || rest) ≡ ((k == s) || ((m == s) || rest))) (sym is) (twice (m == s))
  where
    twice : (a : Bool) → (a || rest) ≡ (a || (a || rest))
    twice true = refl
    twice false = refl

pub with_member_has : (s n : ℕ) (ms : List ℕ) → is_member s (with_member n ms) ≡ ((n == s) || is_member s ms)
with_member_has s n [] = refl
with_member_has s n (m ∷ ms) =
    elim (bool_cases (nat_lt n m)) as (λ c. is_member s (if nat_lt n m then n ∷ m ∷ ms else if n == m then m ∷ ms else m ∷ with_member n ms) ≡ ((n == s) || ((m == s) || is_member s ms))) [
      | inl less ↦ ap (λ (b : Bool). is_member s (if b then n ∷ m ∷ ms else if n == m then m ∷ ms else m ∷ with_member n ms)) less
      | inr more ↦
          ap (λ (b : Bool). is_member s (if b then n ∷ m ∷ ms else if n == m then m ∷ ms else m ∷ with_member n ms)) more
          ∙ (elim (bool_cases (n == m)) as (λ c. is_member s (if n == m then m ∷ ms else m ∷ with_member n ms) ≡ ((n == s) || ((m == s) || is_member s ms))) [
            | inl same ↦ ap (λ (b : Bool). is_member s (if b then m ∷ ms else m ∷ with_member n ms)) same ∙ or_there n m s (is_member s ms) (eqb-true n m same)
            | inr other ↦
                ap (λ (b : Bool). is_member s (if b then m ∷ ms else m ∷ with_member n ms)) other
                ∙ or_swap (is_member s (with_member n ms)) (n == s) (is_member s ms) (m == s) (with_member_has s n ms)
          ])
    ]

flags_are : (s : ℕ) (flags : List ℕ) (is : List Input) → is_member s (flags_from flags is) ≡ (is_member s flags || is_member s (flags_of is))
flags_are s flags [] = sym (or_none (is_member s flags))
flags_are s flags (File f ∷ is) = flags_are s flags is
flags_are s flags (Made stamp c ∷ is) =
    flags_are s (with_flag flags (Made stamp c)) is
    ∙ ap (λ (b : Bool). b || is_member s (flags_of is)) (with_member_has s c flags)
    ∙ or_move (is_member s flags) (c == s) (is_member s (flags_of is))

pub have_flags : (is : List Input) → HaveFlags is (flags_once is)
have_flags is s = flags_are s [] is

-- ---- own slots

-- all own slots are among some, if each slot of the edge is
all_among : (t : Builds) (e : ℕ) (x : Build) → IsEdge t e x → (slots : List ℕ)
    → ((i : ℕ) (k : Kind) → slice_get (own_kinds x) i ≡ Some k → is_member (base t.edges e + i) slots ≡ true) → AreAllOwn (image_of t) e slots
all_among t e x at slots each =
    all_own (λ s. is_member s slots) e 0 (image_of t).slots λ j s h mine.
    let r : IsSlotOf zero t.edges j s = slot_of zero t.edges j s h in
    let whose : s.owner ≡ zero + r.edge = r.owner in
    let same : r.edge ≡ e = omega (arith, whose, mine) in
    let it : r.source ≡ x = some_is r.source x (sym r.here ∙ ap (λ (n : ℕ). slice_get t.edges n) same ∙ at) in
    let kind : slice_get (own_kinds x) r.place ≡ Some s.kind = subst (λ (z : Build). slice_get (own_kinds z) r.place ≡ Some s.kind) it r.kind in
    let stands : j ≡ base t.edges e + r.place = r.stands ∙ ap (λ (n : ℕ). base t.edges n + r.place) same in
    let place : 0 + j ≡ base t.edges e + r.place = omega (arith, stands) in
    ap (λ (n : ℕ). is_member n slots) place ∙ each r.place s.kind kind

one_flag_among : (b : ℕ) (fs : List ℕ) → (fs ≡ [] → ⊥) → (i : ℕ) (k : Kind) → slice_get (Flag ∷ Stamp ∷ stamps fs) i ≡ Some k
    → is_member (b + i) (suc b ∷ slots_of (outputs_flagged (suc (suc b)) b fs)) ≡ true
one_flag_among b fs some zero k g =
    let same : b ≡ b + zero = omega arith in
    or_right (suc b == b + zero) _ (subst (λ (n : ℕ). is_member n (slots_of (outputs_flagged (suc (suc b)) b fs)) ≡ true) same (flag_among (suc (suc b)) b fs some))
one_flag_among b fs some (suc zero) k g =
    let same : suc b ≡ b + suc zero = omega arith in
    or_left (suc b == b + suc zero) _ (eq-eqb (suc b) (b + suc zero) same)
one_flag_among b fs some (suc (suc i)) k g =
    let same : suc (suc b) + i ≡ b + suc (suc i) = omega arith in
    or_right (suc b == b + suc (suc i)) _ (subst (λ (n : ℕ). is_member n (slots_of (outputs_flagged (suc (suc b)) b fs)) ≡ true) same (in_stamps fs (suc (suc b)) b i k g))

own_flags_among : (b : ℕ) (fs : List ℕ) (i : ℕ) (k : Kind) → slice_get (Stamp ∷ pairs fs) i ≡ Some k → is_member (b + i) (b ∷ slots_of (outputs_apart (suc b) fs)) ≡ true
own_flags_among b fs zero k g = let same : b ≡ b + zero = omega arith in or_left (b == b + zero) _ (eq-eqb b (b + zero) same)
own_flags_among b fs (suc i) k g =
    let same : suc b + i ≡ b + suc i = omega arith in
    or_right (b == b + suc i) _ (subst (λ (n : ℕ). is_member n (slots_of (outputs_apart (suc b) fs)) ≡ true) same (in_pairs fs (suc b) i k g))

gathers_among : (b i : ℕ) (k : Kind) → slice_get (Stamp ∷ Flag ∷ []) i ≡ Some k → is_member (b + i) (b ∷ suc b ∷ []) ≡ true
gathers_among b zero k g = let same : b ≡ b + zero = omega arith in or_left (b == b + zero) (is_member (b + zero) (suc b ∷ [])) (eq-eqb b (b + zero) same)
gathers_among b (suc zero) k g =
    let same : suc b ≡ b + suc zero = omega arith in
    or_right (b == b + suc zero) (is_member (b + suc zero) (suc b ∷ [])) (or_left (suc b == b + suc zero) false (eq-eqb (suc b) (b + suc zero) same))
gathers_among b (suc (suc i)) k g = absurd cc

alone_among : (b : ℕ) (fs : List ℕ) (i : ℕ) (k : Kind) → slice_get (pairs fs) i ≡ Some k → is_member (b + i) (slots_of (outputs_apart b fs)) ≡ true
alone_among b fs i k g = in_pairs fs b i k g

-- ---- texts and pools

pub number_inside : (us : List Text) (t : Text) → slice_get us (text_number us t) ≡ Some t → nat_le (length us) (text_number us t) ≡ false
number_inside us t at = lt-leb (length us) (text_number us t) (slice_get_within us (text_number us t) t at)

pub command_found : (t : Builds) (e : ℕ) (x : Build) → IsEdge t e x → x.edge.phony ≡ false → slice_get (all_texts t.edges) (text_number (all_texts t.edges) x.edge.command) ≡ Some x.edge.command
command_found t e x at command =
    text_found t.edges e x at 1 x.edge.command (subst (λ (b : Bool). slice_get (texts_by b x.edge) 0 ≡ Some x.edge.command) (sym command) refl)

pub depfile_found : (t : Builds) (e : ℕ) (x : Build) → IsEdge t e x → x.edge.phony ≡ false → (k : ℕ) (d : Text) → slice_get (unless_empty x.edge.depfile) k ≡ Some d
    → slice_get (all_texts t.edges) (text_number (all_texts t.edges) d) ≡ Some d
depfile_found t e x at command k d h =
    text_found t.edges e x at (suc (suc k)) d (subst (λ (b : Bool). slice_get (texts_by b x.edge) (suc k) ≡ Some d) (sym command) h)

unblank : (c : Text) → is_blank c ≡ false → c ≡ [] → ⊥
unblank [] h none = absurd cc
unblank (c ∷ cs) h none = absurd cc

depfile_right : (p : Parts) (d : Text) → ((k : ℕ) (c : Text) → slice_get (unless_empty d) k ≡ Some c → slice_get p.texts (text_number p.texts c) ≡ Some c) → (n : ℕ)
    → depfile_number p.texts d ≡ Some n → IsText p n × (text_at p n ≡ [] → ⊥)
depfile_right p [] h n is = absurd cc
depfile_right p (c ∷ cs) h n is =
    let at : slice_get p.texts (text_number p.texts (c ∷ cs)) ≡ Some (c ∷ cs) = h zero (c ∷ cs) refl in
    let text : text_at p (text_number p.texts (c ∷ cs)) ≡ c ∷ cs = ap text_in at in
    subst (λ (m : ℕ). IsText p m × (text_at p m ≡ [] → ⊥)) (some_is (text_number p.texts (c ∷ cs)) n is) (number_inside p.texts (c ∷ cs) at, λ none. unblank (c ∷ cs) refl (sym text ∙ none))

pool_inside : (p : Parts) (n : Option ℕ) (own : List Text) → HasPool p n own → is_outside p n ≡ false
pool_inside p None [] h = refl
pool_inside p None (name ∷ own) h = absurd h
pool_inside p (Some n) [] h = absurd h
pool_inside p (Some n) (name ∷ []) h = lt-leb (length p.pools) n (slice_get_within p.pools n h.0 h.1)
pool_inside p (Some n) (name ∷ other ∷ own) h = absurd h

pub pool_right : (t : Builds) (e : ℕ) (x : Build) → IsEdge t e x → is_outside (image_of t) (pool_number (used_pools t.edges) (pool_name x)) ≡ false
pool_right t e x at = pool_inside (image_of t) (pool_number (used_pools t.edges) (pool_name x)) (pool_name x) (has_pool t e x at)

-- ---- slot patterns

pub one_flag_is : (phony restat none : Bool) → form_by phony restat none ≡ OneFlag → (phony ≡ false) × (restat ≡ false)
one_flag_is true restat true h = absurd cc
one_flag_is true restat false h = absurd cc
one_flag_is false true none h = absurd cc
one_flag_is false false none h = (refl, refl)

pub own_flags_is : (phony restat none : Bool) → form_by phony restat none ≡ OwnFlags → (phony ≡ false) × (restat ≡ true)
own_flags_is true restat true h = absurd cc
own_flags_is true restat false h = absurd cc
own_flags_is false true none h = (refl, refl)
own_flags_is false false none h = absurd cc

pub gathers_is : (phony restat none : Bool) → form_by phony restat none ≡ Gathers → (phony ≡ true) × (none ≡ false)
gathers_is true restat true h = absurd cc
gathers_is true restat false h = (refl, refl)
gathers_is false true none h = absurd cc
gathers_is false false none h = absurd cc

pub alone_is : (phony restat none : Bool) → form_by phony restat none ≡ Alone → (phony ≡ true) × (none ≡ true)
alone_is true restat true h = (refl, refl)
alone_is true restat false h = absurd cc
alone_is false true none h = absurd cc
alone_is false false none h = absurd cc

-- ---- each edge

module _ (t : Builds) (sound : IsSound t) (e : ℕ) (x : Build) (at : IsEdge t e x) where
  abbrev none : Bool
  none = has_none x.named && has_none x.order_only

  -- the facts about a command edge with either slot pattern
  command_right : (form : SlotPattern) → x.edge.phony ≡ false
      → AreOutputs (image_of t) e (outputs_by form (base t.edges e) x.outputs) → files_of (outputs_by form (base t.edges e) x.outputs) ≡ x.outputs
      → (outputs_by form (base t.edges e) x.outputs ≡ [] → ⊥) → Rattle.plan_compile.specs.Means.AreApart (outputs_by form (base t.edges e) x.outputs)
      → HaveFlagSlots x.edge.restat (outputs_by form (base t.edges e) x.outputs)
      → IsOwnOf (image_of t) e Stamp (newest_by form (base t.edges e)) → IsNoStamp (newest_by form (base t.edges e)) (outputs_by form (base t.edges e) x.outputs)
      → AreAllOwn (image_of t) e (newest_by form (base t.edges e) ∷ slots_of (outputs_by form (base t.edges e) x.outputs))
      → IsCommand (image_of t) e (command_layout (all_texts t.edges) (all_made zero t.edges) form (base t.edges e) x)
  command_right form command outputs files some apart flags newest stamp own =
      let found = command_found t e x at command in
      record {
        named = inputs_right t sound e x at x.named (sound.named e x at) (λ f m. m);
        order_only = sources_right t (all_made zero t.edges) x.named x.order_only (sound.order_only e x at);
        outputs = outputs;
        files = ap outputs_in (image_edge t e x at) ∙ sym files;
        some = some;
        apart = apart;
        changed = flags;
        flags = have_flags (inputs_by (all_made zero t.edges) x.named);
        newest = (newest, stamp);
        own = own;
        command = (number_inside (all_texts t.edges) x.edge.command found, λ not_blank none. unblank x.edge.command not_blank (sym (ap text_in found) ∙ none));
        depfile = depfile_right (image_of t) x.edge.depfile (depfile_found t e x at command);
        pool = ap (λ (o : Option Edge). is_outside (image_of t) (pool_in o)) (image_edge t e x at) ∙ pool_right t e x at;
      }

  flagged_some : (b c : ℕ) (fs : List ℕ) → (fs ≡ [] → ⊥) → outputs_flagged b c fs ≡ [] → ⊥
  flagged_some b c [] some none = some refl
  flagged_some b c (f ∷ fs) some none = absurd cc

  apart_some : (b : ℕ) (fs : List ℕ) → (fs ≡ [] → ⊥) → outputs_apart b fs ≡ [] → ⊥
  apart_some b [] some none = some refl
  apart_some b (f ∷ fs) some none = absurd cc

  share_first : (b c : ℕ) (fs : List ℕ) → HaveFlagSlots false (outputs_flagged b c fs)
  share_first b c [] = tt
  share_first b c (f ∷ fs) = flagged_share (suc b) c fs

  kinds_are : (form : SlotPattern) → form_of x ≡ form → (i : ℕ) (k : Kind) → slice_get (own_kinds x) i ≡ Some k → slice_get (kinds_by form x.outputs) i ≡ Some k
  kinds_are form is i k g = subst (λ (f : SlotPattern). slice_get (kinds_by f x.outputs) i ≡ Some k) is g

  run_of : (form : SlotPattern) → form_of x ≡ form → Runs (image_of t) e (base t.edges e) (kinds_by form x.outputs)
  run_of form is = subst (λ (f : SlotPattern). Runs (image_of t) e (base t.edges e) (kinds_by f x.outputs)) is (own_run t e x at)

  one_flag_right : form_of x ≡ OneFlag → IsCommand (image_of t) e (command_layout (all_texts t.edges) (all_made zero t.edges) OneFlag (base t.edges e) x)
  one_flag_right is =
      let p : Parts = image_of t in
      let b : ℕ = base t.edges e in
      let run : Runs p e b (Flag ∷ Stamp ∷ stamps x.outputs) = run_of OneFlag is in
      let more : Runs p e (suc b) (Stamp ∷ stamps x.outputs) = rest_run p e b Flag (Stamp ∷ stamps x.outputs) run in
      let flag : Holds p e Flag b = first_run p e b Flag (Stamp ∷ stamps x.outputs) run in
      let newest : Holds p e Stamp (suc b) = first_run p e (suc b) Stamp (stamps x.outputs) more in
      let forms = one_flag_is x.edge.phony x.edge.restat none is in
      let lt : suc b < suc (suc b) = omega arith in
      command_right OneFlag forms.0 (flagged_own p e (suc (suc b)) b x.outputs (rest_run p e (suc b) Stamp (stamps x.outputs) more) flag (sound.outputs e x at))
      (files_flagged (suc (suc b)) b x.outputs) (flagged_some (suc (suc b)) b x.outputs (sound.makes e x at)) (flagged_apart (suc (suc b)) b x.outputs)
      (subst (λ (r : Bool). HaveFlagSlots r (outputs_flagged (suc (suc b)) b x.outputs)) (sym forms.1) (share_first (suc (suc b)) b x.outputs))
      (own_of_held p e Stamp (suc b) newest) (flagged_below (suc b) (suc (suc b)) b x.outputs lt)
      (all_among t e x at (suc b ∷ slots_of (outputs_flagged (suc (suc b)) b x.outputs)) (λ i k g. one_flag_among b x.outputs (sound.makes e x at) i k (kinds_are OneFlag is i k g)))

  own_flags_right : form_of x ≡ OwnFlags → IsCommand (image_of t) e (command_layout (all_texts t.edges) (all_made zero t.edges) OwnFlags (base t.edges e) x)
  own_flags_right is =
      let p : Parts = image_of t in
      let b : ℕ = base t.edges e in
      let run : Runs p e b (Stamp ∷ pairs x.outputs) = run_of OwnFlags is in
      let newest : Holds p e Stamp b = first_run p e b Stamp (pairs x.outputs) run in
      let forms = own_flags_is x.edge.phony x.edge.restat none is in
      let lt : b < suc b = omega arith in
      command_right OwnFlags forms.0 (apart_own p e (suc b) x.outputs (rest_run p e b Stamp (pairs x.outputs) run) (sound.outputs e x at)) (files_apart (suc b) x.outputs)
      (apart_some (suc b) x.outputs (sound.makes e x at)) (apart_apart (suc b) x.outputs)
      (subst (λ (r : Bool). HaveFlagSlots r (outputs_apart (suc b) x.outputs)) (sym forms.1) (apart_flags (suc b) x.outputs))
      (own_of_held p e Stamp b newest) (apart_below_stamps b (suc b) x.outputs lt)
      (all_among t e x at (b ∷ slots_of (outputs_apart (suc b) x.outputs)) (λ i k g. own_flags_among b x.outputs i k (kinds_are OwnFlags is i k g)))

  gathers_right : form_of x ≡ Gathers → IsGather (image_of t) e (gather_layout (all_made zero t.edges) (base t.edges e) x)
  gathers_right is =
      let p : Parts = image_of t in
      let b : ℕ = base t.edges e in
      let run : Runs p e b (Stamp ∷ Flag ∷ []) = run_of Gathers is in
      record {
        named = inputs_right t sound e x at x.named (sound.named e x at) (λ f m. m);
        order_only = sources_right t (all_made zero t.edges) x.named x.order_only (sound.order_only e x at);
        flags = have_flags (inputs_by (all_made zero t.edges) x.named);
        files = sharing_files t b (suc b) x.outputs (sound.outputs e x at);
        share = sharing_share b (suc b) x.outputs;
        stamp = own_of_held p e Stamp b (first_run p e b Stamp (Flag ∷ []) run);
        changed = own_of_held p e Flag (suc b) (first_run p e (suc b) Flag [] (rest_run p e b Stamp (Flag ∷ []) run));
        own = all_among t e x at (b ∷ suc b ∷ []) (λ i k g. gathers_among b i k (kinds_are Gathers is i k g));
      }

  alone_right : form_of x ≡ Alone → IsAlone (image_of t) e (outputs_apart (base t.edges e) x.outputs)
  alone_right is =
      let p : Parts = image_of t in
      let b : ℕ = base t.edges e in
      record {
        outputs = apart_own p e b x.outputs (run_of Alone is) (sound.outputs e x at);
        apart = apart_apart b x.outputs;
        flags = apart_flags b x.outputs;
        own = all_among t e x at (slots_of (outputs_apart b x.outputs)) (λ i k g. alone_among b x.outputs i k (kinds_are Alone is i k g));
      }

  laid_out_by : (form : SlotPattern) → form_of x ≡ form → IsLaidOut (image_of t) e (layout_by form (all_texts t.edges) (all_made zero t.edges) (base t.edges e) x)
  laid_out_by OneFlag is = one_flag_right is
  laid_out_by OwnFlags is = own_flags_right is
  laid_out_by Gathers is = gathers_right is
  laid_out_by Alone is = alone_right is

  pub laid_out : IsLaidOut (image_of t) e (layout_of (all_texts t.edges) (all_made zero t.edges) (base t.edges e) x)
  laid_out = laid_out_by (form_of x) refl
