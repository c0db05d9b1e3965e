-- The edges and the bodies of an image that the code builds are those of the specification.
use Rattle.std.proofs.Common.{◌≡◌, ℕ, zero, suc, ◌+◌, Bool, true, false, List, [], ◌∷◌, ◌++◌, length, drop, map, Some, refl, sym, ap, subst, ◌∙◌, arith, inl, inr}
use Rattle.std.specs.Prelude.{◌||◌, ◌&&◌, ◌==◌, Ok, Err, if◌then◌else◌, slice_get, nat_le, nat_lt}
use Rattle.std.proofs.lemmas.Bool.{eqb-true}
use Rattle.std.specs.List.{list_any}
use Rattle.std.proofs.lemmas.List.{append_assoc}
use Rattle.plan_image.specs.declared.body.Instr.{Instr}
use Rattle.plan_image.specs.declared.image.Edge.{Edge}
use Rattle.plan_image.specs.declared.image.Pool.{Pool}
use Rattle.plan_image.specs.declared.image.Slot.{Slot}
use Rattle.plan_image.specs.declared.image.Parts.{Parts}
use Rattle.plan_image.specs.Bodies.{body_of, operands_of}
use Rattle.plan_image.specs.declared.image.EdgeCode.{EdgeCode}
use Rattle.plan_image.specs.declared.image.EdgeCode.TheVariants.{Shared}
use Rattle.plan_verify.specs.Members.{is_member}
use Rattle.plan_compile.specs.declared.layout.Output.{Output}
use Rattle.plan_compile.specs.declared.layout.EdgeLayout.{EdgeLayout}
use Rattle.plan_compile.specs.declared.layout.EdgeLayout.TheVariants as layout
use Rattle.plan_compile.specs.declared.slot_pattern.SlotPattern.{SlotPattern}
use Rattle.plan_compile.specs.declared.slot_pattern.SlotPattern.TheVariants.{OneFlag, OwnFlags, Gathers, Alone}
use Rattle.plan_compile.specs.Assembling.{command_in, first_changed, layout_in, layouts_in, codes_in, edge_in, edges_in}
use Rattle.plan_compile.specs.BodyKeys.{Body, same_body}
use Rattle.plan_compile.specs.Builds.{Build, Builds}
use Rattle.plan_compile.specs.EdgeNumbers.{command_numbers, numbers_by, numbers_in}
use Rattle.plan_compile.specs.Emit.{code_of, emitted}
use Rattle.plan_compile.specs.Faithful.{IsEdge, IsSound}
use Rattle.plan_compile.specs.Images.{command_layout, layout_by, layout_of, layouts_from, layouts, codes_from, codes, used_bodies, shared, edge_by, edge_of, edges_of, image_of}
use Rattle.plan_compile.specs.Refusals.{RefusesCodes, is_too_long}
use Rattle.plan_compile.specs.declared.fault.CompileFault.{CompileFault}
use Rattle.plan_compile.specs.declared.fault.CompileFault.TheVariants.{Limit, Memory}
use Rattle.plan_compile.specs.declared.numbers.Numbers.{Numbers}
use Rattle.plan_compile.specs.Names.{Text, all_texts, declared, depfile_number, label_by, label_of, pool_by, pool_in, pool_number, text_number, unless_empty, used_pools}
use Rattle.plan_compile.specs.Numbering.{has, number, with_item, with_items}
use Rattle.plan_compile.specs.OutputTable.{Table, found, inputs_in, outputs_in, sources_in}
use Rattle.plan_compile.specs.Slots.{form_by, form_of, has_none, own_len, outputs_by, outputs_sharing, made, base, newest_by, newest_from, slots_from, all_made, inputs_by, sources}
use Rattle.plan_compile.proofs.BodyKeyLemmas.{bodies_decide}
use Rattle.plan_compile.proofs.BuildLemmas.{drop_here}
use Rattle.plan_compile.proofs.ListLemmas.{bool_cases, or_false, or_left, or_right, some_is}
use Rattle.plan_compile.proofs.LookupLemmas.{table_of, found_is, inputs_meant, sources_meant, found_outputs}
use Rattle.plan_compile.proofs.MemberLemmas.{in_get, in_member}
use Rattle.plan_compile.proofs.NumberingLemmas.{items_keep, item_has}
use Rattle.plan_compile.proofs.OnceLemmas.{file_at, one_assignment}
use Rattle.plan_compile.proofs.OutputLemmas.{files_made}

-- ---- the loop

module _ (table : Table) where
  left_here : (ks : List Numbers) (ns : List ℕ) (xs : List Build) (n slot : ℕ) (k : Numbers) (x : Build) → slice_get ks n ≡ Some k → slice_get ns n ≡ Some slot → slice_get xs n ≡ Some x
      → codes_in table (drop n ks) (drop n ns) (drop n xs)
      ≡ code_of (layout_in (form_of x) k table slot x) ∷ codes_in table (drop (n + 1) ks) (drop (n + 1) ns) (drop (n + 1) xs)
  left_here ks ns xs n slot k x named at here =
      ap (λ (js : List Numbers). codes_in table js (drop n ns) (drop n xs)) (drop_here ks n k named)
      ∙ ap (λ (ms : List ℕ). codes_in table (k ∷ drop (n + 1) ks) ms (drop n xs)) (drop_here ns n slot at)
      ∙ ap (λ (ys : List Build). codes_in table (k ∷ drop (n + 1) ks) (slot ∷ drop (n + 1) ns) ys) (drop_here xs n x here)

  pub bodies_step : (ks : List Numbers) (ns : List ℕ) (xs : List Build) (n slot : ℕ) (k : Numbers) (x : Build) (code : List Instr) (old new final : List Body)
      → slice_get ks n ≡ Some k → slice_get ns n ≡ Some slot → slice_get xs n ≡ Some x
      → code ≡ code_of (layout_in (form_of x) k table slot x) → new ≡ with_item same_body old (body_of code)
      → with_items same_body old (map body_of (codes_in table (drop n ks) (drop n ns) (drop n xs))) ≡ final
      → with_items same_body new (map body_of (codes_in table (drop (n + 1) ks) (drop (n + 1) ns) (drop (n + 1) xs))) ≡ final
  bodies_step ks ns xs n slot k x code old new final named at here is put h =
      let rest : List (List Instr) = codes_in table (drop (n + 1) ks) (drop (n + 1) ns) (drop (n + 1) xs) in
      ap (λ (bs : List Body). with_items same_body bs (map body_of rest)) put
      ∙ ap (λ (c : List Instr). with_items same_body old (map body_of (c ∷ rest))) is
      ∙ ap (λ (cs : List (List Instr)). with_items same_body old (map body_of cs)) (sym (left_here ks ns xs n slot k x named at here))
      ∙ h

  pub edges_step : (ks : List Numbers) (ns : List ℕ) (xs : List Build) (n slot : ℕ) (k : Numbers) (x : Build) (code : List Instr) (old new final : List Body) (some more whole : List Edge)
      → slice_get ks n ≡ Some k → slice_get ns n ≡ Some slot → slice_get xs n ≡ Some x
      → code ≡ code_of (layout_in (form_of x) k table slot x) → new ≡ with_item same_body old (body_of code) → more ≡ some ++ edge_in k (shared new code) x ∷ []
      → with_items same_body new (map body_of (codes_in table (drop (n + 1) ks) (drop (n + 1) ns) (drop (n + 1) xs))) ≡ final
      → some ++ edges_in final (drop n ks) (codes_in table (drop n ks) (drop n ns) (drop n xs)) (drop n xs) ≡ whole
      → more ++ edges_in final (drop (n + 1) ks) (codes_in table (drop (n + 1) ks) (drop (n + 1) ns) (drop (n + 1) xs)) (drop (n + 1) xs) ≡ whole
  edges_step ks ns xs n slot k x code old new final some more whole named at here is put pushed ends h =
      let rest : List (List Instr) = codes_in table (drop (n + 1) ks) (drop (n + 1) ns) (drop (n + 1) xs) in
      let others : List Edge = edges_in final (drop (n + 1) ks) rest (drop (n + 1) xs) in
      let b : Body = body_of code in
      let kept = items_keep same_body bodies_decide new (map body_of rest) b (subst (λ (bs : List Body). has same_body bs b ≡ true) (sym put) (item_has same_body bodies_decide old b)) in
      let stays : number same_body b new ≡ number same_body b final = sym kept.stays ∙ ap (λ (bs : List Body). number same_body b bs) ends in
      ap (λ (es : List Edge). es ++ others) pushed
      ∙ append_assoc some (edge_in k (shared new code) x ∷ []) others
      ∙ ap (λ (m : ℕ). some ++ edge_in k (Shared m (operands_of code)) x ∷ others) stays
      ∙ ap (λ (c : List Instr). some ++ edge_in k (shared final c) x ∷ others) is
      ∙ ap (λ (ys : List Build). some ++ edges_in final (k ∷ drop (n + 1) ks) (code_of (layout_in (form_of x) k table slot x) ∷ rest) ys) (sym (drop_here xs n x here))
      ∙ ap (λ (js : List Numbers). some ++ edges_in final js (code_of (layout_in (form_of x) k table slot x) ∷ rest) (drop n xs)) (sym (drop_here ks n k named))
      ∙ ap (λ (cs : List (List Instr)). some ++ edges_in final (drop n ks) cs (drop n xs)) (sym (left_here ks ns xs n slot k x named at here))
      ∙ h

  -- a code that is too long is one of all codes
  pub long_there : (ks : List Numbers) (ns : List ℕ) (xs : List Build) (n slot : ℕ) (k : Numbers) (x : Build) → slice_get ks n ≡ Some k → slice_get ns n ≡ Some slot → slice_get xs n ≡ Some x
      → is_too_long (code_of (layout_in (form_of x) k table slot x)) ≡ true → list_any is_too_long (codes_in table ks ns xs) ≡ true
  long_there [] ns xs n slot k x named at here long = absurd cc
  long_there (j ∷ ks) [] xs n slot k x named at here long = absurd cc
  long_there (j ∷ ks) (m ∷ ns) [] n slot k x named at here long = absurd cc
  long_there (j ∷ ks) (m ∷ ns) (y ∷ xs) zero slot k x named at here long =
      let first : j ≡ k = some_is j k named in
      let second : m ≡ slot = some_is m slot at in
      let third : y ≡ x = some_is y x here in
      or_left (is_too_long (code_of (layout_in (form_of y) j table m y))) _
      (ap (λ (z : Build). is_too_long (code_of (layout_in (form_of z) j table m z))) third ∙ ap (λ (i : Numbers). is_too_long (code_of (layout_in (form_of x) i table m x))) first
      ∙ ap (λ (i : ℕ). is_too_long (code_of (layout_in (form_of x) k table i x))) second ∙ long)
  long_there (j ∷ ks) (m ∷ ns) (y ∷ xs) (suc n) slot k x named at here long =
      or_right (is_too_long (code_of (layout_in (form_of y) j table m y))) _ (long_there ks ns xs n slot k x named at here long)

-- ---- refused codes

-- code is refused only if it is too long
pub emitted_long : (is : List Instr) → emitted is ≡ Err Limit → is_too_long is ≡ true
emitted_long is = by_test (nat_lt 65536 (length is))
  where
    by_test : (b : Bool) → (if b then Err Limit else Ok is) ≡ Err Limit → b ≡ true
    by_test true h = refl
    by_test false h = absurd cc

-- otherwise it is the code that was to be emitted
pub emitted_is : (is js : List Instr) → emitted is ≡ Ok js → js ≡ is
emitted_is is js = by_test (nat_lt 65536 (length is))
  where
    by_test : (b : Bool) → (if b then Err Limit else Ok is) ≡ Ok js → js ≡ is
    by_test true h = absurd cc
    by_test false h = cc

pub code_refused : (fault : CompileFault) (table : Table) (ks : List Numbers) (ns : List ℕ) (xs : List Build) (n slot : ℕ) (k : Numbers) (x : Build) → slice_get ks n ≡ Some k → slice_get ns n ≡ Some slot → slice_get xs n ≡ Some x
    → ((fault ≡ Memory → ⊥) → emitted (code_of (layout_in (form_of x) k table slot x)) ≡ Err fault) → RefusesCodes fault (codes_in table ks ns xs)
code_refused Memory table ks ns xs n slot k x named at here h = tt
code_refused Limit table ks ns xs n slot k x named at here h =
    long_there table ks ns xs n slot k x named at here (emitted_long (code_of (layout_in (form_of x) k table slot x)) (h (λ e. absurd cc)))

-- ---- the layout of each edge

-- an edge with one of these slot patterns is no phony
one_flag : (phony restat none : Bool) → form_by phony restat none ≡ OneFlag → phony ≡ false
one_flag true restat true h = absurd cc
one_flag true restat false h = absurd cc
one_flag false restat none h = refl

own_flags : (phony restat none : Bool) → form_by phony restat none ≡ OwnFlags → phony ≡ false
own_flags true restat true h = absurd cc
own_flags true restat false h = absurd cc
own_flags false restat none h = refl

module _ (t : Builds) (sound : IsSound t) where
  abbrev outs : List Output
  outs = all_made zero t.edges

  abbrev files : ℕ
  files = length t.files

  abbrev table : Table
  table = table_of files outs

  module _ (e : ℕ) (x : Build) (at : IsEdge t e x) where
    abbrev b : ℕ
    b = base t.edges e

    named_is : inputs_in table x.named ≡ inputs_by outs x.named
    named_is = inputs_meant files outs x.named (sound.named e x at)

    sources_are : sources_in table x.named x.order_only ≡ sources outs x.named x.order_only
    sources_are = sources_meant files outs x.named x.order_only (sound.order_only e x at)

    member_inside : (fs : List ℕ) (f : ℕ) → list_any (λ g. nat_le files g) fs ≡ false → is_member f fs ≡ true → nat_le files f ≡ false
    member_inside [] f inside m = absurd cc
    member_inside (g ∷ fs) f inside m =
        let o = or_false (nat_le files g) (list_any (λ h. nat_le files h) fs) inside in
        elim (bool_cases (g == f)) as (λ c. nat_le files f ≡ false) [
          | inl is ↦ subst (λ (k : ℕ). nat_le files k ≡ false) (eqb-true g f is) o.0
          | inr other ↦ member_inside fs f o.1 (ap (λ (c : Bool). c || is_member f fs) (sym other) ∙ m)
        ]

    outputs_are : outputs_in table x.outputs ≡ made b x
    outputs_are =
        ap (λ (fs : List ℕ). outputs_in table fs) (sym (files_made (form_of x) b x.outputs))
        ∙ found_outputs table (made b x) each
      where
        each : (i : ℕ) (o : Output) → slice_get (made b x) i ≡ Some o → found (slice_get table o.file) ≡ Some o
        each i o here =
            let there : slice_get x.outputs i ≡ Some o.file = file_at b x i o here in
            let inside : nat_le files o.file ≡ false = member_inside x.outputs o.file (sound.outputs e x at) (in_member o.file x.outputs (in_get x.outputs i o.file there)) in
            found_is files outs o.file inside ∙ one_assignment t sound e x i o at here

    changed_is : (fs : List ℕ) → (fs ≡ [] → ⊥) → first_changed (outputs_sharing b (suc b) fs) ≡ suc b
    changed_is [] some = absurd (some refl)
    changed_is (f ∷ fs) some = refl

    abbrev numbers : Numbers
    numbers = numbers_in (all_texts t.edges) (used_pools t.edges) x

    command_is : (form : SlotPattern) (newest : ℕ) → form_of x ≡ form → x.edge.phony ≡ false → newest ≡ newest_by form b
        → command_in numbers table newest x ≡ command_layout (all_texts t.edges) outs form b x
    command_is form newest is plain slot =
        let same : numbers ≡ command_numbers (all_texts t.edges) (used_pools t.edges) x.edge = ap (λ (p : Bool). numbers_by p (all_texts t.edges) (used_pools t.edges) x.edge) plain in
        let command : numbers.command ≡ text_number (all_texts t.edges) x.edge.command = ap (λ (k : Numbers). k.command) same in
        let depfile : numbers.depfile ≡ depfile_number (all_texts t.edges) x.edge.depfile = ap (λ (k : Numbers). k.depfile) same in
        let named = named_is in
        let others = sources_are in
        let outputs : outputs_in table x.outputs ≡ outputs_by form b x.outputs = outputs_are ∙ ap (λ (f : SlotPattern). outputs_by f b x.outputs) is in
        cc

    pub layout_is : (form : SlotPattern) (newest : ℕ) → form_of x ≡ form → newest ≡ newest_by form b
        → layout_in form numbers table newest x ≡ layout_by form (all_texts t.edges) outs b x
    layout_is OneFlag newest is slot = ap (λ w. layout.Command w) (command_is OneFlag newest is (one_flag x.edge.phony x.edge.restat (has_none x.named && has_none x.order_only) is) slot)
    layout_is OwnFlags newest is slot = ap (λ w. layout.Command w) (command_is OwnFlags newest is (own_flags x.edge.phony x.edge.restat (has_none x.named && has_none x.order_only) is) slot)
    layout_is Gathers newest is slot =
        let named = named_is in
        let others = sources_are in
        let outputs : outputs_in table x.outputs ≡ outputs_sharing b (suc b) x.outputs = outputs_are ∙ ap (λ (f : SlotPattern). outputs_by f b x.outputs) is in
        let changed : first_changed (outputs_in table x.outputs) ≡ suc b = ap first_changed outputs ∙ changed_is x.outputs (sound.makes e x at) in
        cc
    layout_is Alone newest is slot =
        ap (λ os. layout.Alone os) (outputs_are ∙ ap (λ (f : SlotPattern). outputs_by f b x.outputs) is)

    pub code_is : (newest : ℕ) → newest ≡ newest_by (form_of x) b → code_of (layout_in (form_of x) numbers table newest x) ≡ code_of (layout_of (all_texts t.edges) outs b x)
    code_is newest slot = ap code_of (layout_is (form_of x) newest refl slot)

-- ---- all codes

codes_by : (texts pools : List Text) (table : Table) (outputs : List Output) (b : ℕ) (xs : List Build)
    → ((j : ℕ) (x : Build) → slice_get xs j ≡ Some x
    → code_of (layout_in (form_of x) (numbers_in texts pools x) table (newest_by (form_of x) (b + base xs j)) x) ≡ code_of (layout_of texts outputs (b + base xs j) x))
    → codes_in table (map (numbers_in texts pools) xs) (newest_from b xs) xs ≡ codes_from texts outputs b xs
codes_by texts pools table outputs b [] h = refl
codes_by texts pools table outputs b (x ∷ xs) h =
    let same : b + zero ≡ b = omega arith in
    ap (λ (is : List Instr). is ∷ codes_in table (map (numbers_in texts pools) xs) (newest_from (b + own_len x) xs) xs)
    (ap (λ (k : ℕ). code_of (layout_in (form_of x) (numbers_in texts pools x) table (newest_by (form_of x) k) x)) (sym same) ∙ h zero x refl ∙ ap (λ (k : ℕ). code_of (layout_of texts outputs k x)) same)
    ∙ ap (λ (cs : List (List Instr)). code_of (layout_of texts outputs b x) ∷ cs)
    (codes_by texts pools table outputs (b + own_len x) xs λ j y at.
    let place : b + own_len x + base xs j ≡ b + (own_len x + base xs j) = omega arith in
    ap (λ (k : ℕ). code_of (layout_in (form_of y) (numbers_in texts pools y) table (newest_by (form_of y) k) y)) place ∙ h (suc j) y at ∙ ap (λ (k : ℕ). code_of (layout_of texts outputs k y)) (sym place))

abbrev pub numbers_of : Builds → List Numbers
numbers_of t = map (numbers_in (all_texts t.edges) (used_pools t.edges)) t.edges

pub codes_are : (t : Builds) → IsSound t → codes_in (table_of (length t.files) (all_made zero t.edges)) (numbers_of t) (newest_from zero t.edges) t.edges ≡ codes t.edges
codes_are t sound =
    codes_by (all_texts t.edges) (used_pools t.edges) (table_of (length t.files) (all_made zero t.edges)) (all_made zero t.edges) zero t.edges λ e x at.
    let same : zero + base t.edges e ≡ base t.edges e = omega arith in
    code_is t sound e x at (newest_by (form_of x) (zero + base t.edges e)) (ap (λ (k : ℕ). newest_by (form_of x) k) same) ∙ ap (λ (k : ℕ). code_of (layout_of (all_texts t.edges) (all_made zero t.edges) k x)) (sym same)

-- ---- all layouts

layouts_by : (texts pools : List Text) (table : Table) (outputs : List Output) (b : ℕ) (xs : List Build)
    → ((j : ℕ) (x : Build) → slice_get xs j ≡ Some x
    → layout_in (form_of x) (numbers_in texts pools x) table (newest_by (form_of x) (b + base xs j)) x ≡ layout_of texts outputs (b + base xs j) x)
    → layouts_in table (map (numbers_in texts pools) xs) (newest_from b xs) xs ≡ layouts_from texts outputs b xs
layouts_by texts pools table outputs b [] h = refl
layouts_by texts pools table outputs b (x ∷ xs) h =
    let same : b + zero ≡ b = omega arith in
    ap (λ (w : EdgeLayout). w ∷ layouts_in table (map (numbers_in texts pools) xs) (newest_from (b + own_len x) xs) xs)
    (ap (λ (k : ℕ). layout_in (form_of x) (numbers_in texts pools x) table (newest_by (form_of x) k) x) (sym same) ∙ h zero x refl ∙ ap (λ (k : ℕ). layout_of texts outputs k x) same)
    ∙ ap (λ (ws : List EdgeLayout). layout_of texts outputs b x ∷ ws)
    (layouts_by texts pools table outputs (b + own_len x) xs λ j y at.
    let place : b + own_len x + base xs j ≡ b + (own_len x + base xs j) = omega arith in
    ap (λ (k : ℕ). layout_in (form_of y) (numbers_in texts pools y) table (newest_by (form_of y) k) y) place ∙ h (suc j) y at ∙ ap (λ (k : ℕ). layout_of texts outputs k y) (sym place))

layouts_are : (t : Builds) → IsSound t → layouts_in (table_of (length t.files) (all_made zero t.edges)) (numbers_of t) (newest_from zero t.edges) t.edges ≡ layouts t.edges
layouts_are t sound =
    layouts_by (all_texts t.edges) (used_pools t.edges) (table_of (length t.files) (all_made zero t.edges)) (all_made zero t.edges) zero t.edges λ e x at.
    let same : zero + base t.edges e ≡ base t.edges e = omega arith in
    layout_is t sound e x at (form_of x) (newest_by (form_of x) (zero + base t.edges e)) refl (ap (λ (k : ℕ). newest_by (form_of x) k) same)
    ∙ ap (λ (k : ℕ). layout_of (all_texts t.edges) (all_made zero t.edges) k x) (sym same)

pub all_layouts : (t : Builds) → IsSound t → (n : ℕ) (table : Table) (ks : List Numbers) (newest : List ℕ) → n ≡ length t.files → table ≡ table_of n (all_made zero t.edges) → ks ≡ numbers_of t
    → newest ≡ newest_from zero t.edges → layouts_in table ks newest t.edges ≡ layouts t.edges
all_layouts t sound n outputs ks newest hn hm hk hw =
    ap (λ (q : Table). layouts_in q ks newest t.edges) (hm ∙ ap (λ (k : ℕ). table_of k (all_made zero t.edges)) hn)
    ∙ ap (λ (js : List Numbers). layouts_in (table_of (length t.files) (all_made zero t.edges)) js newest t.edges) hk
    ∙ ap (λ (ns : List ℕ). layouts_in (table_of (length t.files) (all_made zero t.edges)) (numbers_of t) ns t.edges) hw ∙ layouts_are t sound

-- one more layout
pub layouts_step : (table : Table) (ks : List Numbers) (ns : List ℕ) (xs : List Build) (n slot : ℕ) (k : Numbers) (x : Build) (w : EdgeLayout) (old new whole : List EdgeLayout)
    → slice_get ks n ≡ Some k → slice_get ns n ≡ Some slot → slice_get xs n ≡ Some x
    → w ≡ layout_in (form_of x) k table slot x → new ≡ old ++ w ∷ []
    → old ++ layouts_in table (drop n ks) (drop n ns) (drop n xs) ≡ whole
    → new ++ layouts_in table (drop (n + 1) ks) (drop (n + 1) ns) (drop (n + 1) xs) ≡ whole
layouts_step table ks ns xs n slot k x w old new whole named at here is pushed h =
    let rest : List EdgeLayout = layouts_in table (drop (n + 1) ks) (drop (n + 1) ns) (drop (n + 1) xs) in
    ap (λ (ws : List EdgeLayout). ws ++ rest) pushed
    ∙ append_assoc old (w ∷ []) rest
    ∙ ap (λ (v : EdgeLayout). old ++ v ∷ rest) is
    ∙ ap (λ (ys : List Build). old ++ layouts_in table (k ∷ drop (n + 1) ks) (slot ∷ drop (n + 1) ns) ys) (sym (drop_here xs n x here))
    ∙ ap (λ (ms : List ℕ). old ++ layouts_in table (k ∷ drop (n + 1) ks) ms (drop n xs)) (sym (drop_here ns n slot at))
    ∙ ap (λ (js : List Numbers). old ++ layouts_in table js (drop n ns) (drop n xs)) (sym (drop_here ks n k named))
    ∙ h

-- ---- all edges

pool_is : (pools : List Text) (name : Text) → depfile_number pools name ≡ pool_number pools (unless_empty name)
pool_is pools [] = refl
pool_is pools (c ∷ cs) = refl

edge_is : (texts pools : List Text) (code : EdgeCode) (x : Build) → edge_in (numbers_in texts pools x) code x ≡ edge_by texts pools code x
edge_is texts pools code x = by_sort x.edge.phony refl
  where
    by_sort : (b : Bool) → x.edge.phony ≡ b → edge_in (numbers_in texts pools x) code x ≡ edge_by texts pools code x
    by_sort true is =
        let same : numbers_in texts pools x ≡ numbers_by true texts pools x.edge = ap (λ (p : Bool). numbers_by p texts pools x.edge) is in
        let label : (numbers_in texts pools x).label ≡ text_number texts (label_of x) = ap (λ (k : Numbers). k.label) same ∙ ap (λ (p : Bool). text_number texts (label_by p x.edge)) (sym is) in
        let pool : (numbers_in texts pools x).pool ≡ pool_number pools (pool_in x) = ap (λ (k : Numbers). k.pool) same ∙ ap (λ (p : Bool). pool_number pools (pool_by p x.edge.pool)) (sym is) in
        cc
    by_sort false is =
        let same : numbers_in texts pools x ≡ numbers_by false texts pools x.edge = ap (λ (p : Bool). numbers_by p texts pools x.edge) is in
        let label : (numbers_in texts pools x).label ≡ text_number texts (label_of x) = ap (λ (k : Numbers). k.label) same ∙ ap (λ (p : Bool). text_number texts (label_by p x.edge)) (sym is) in
        let pool : (numbers_in texts pools x).pool ≡ pool_number pools (pool_in x) =
        ap (λ (k : Numbers). k.pool) same ∙ pool_is pools x.edge.pool ∙ ap (λ (p : Bool). pool_number pools (pool_by p x.edge.pool)) (sym is) in
        cc

edges_are : (texts pools : List Text) (bodies : List Body) (cs : List (List Instr)) (xs : List Build) → edges_in bodies (map (numbers_in texts pools) xs) cs xs ≡ edges_of texts pools bodies cs xs
edges_are texts pools bodies [] [] = refl
edges_are texts pools bodies [] (x ∷ xs) = refl
edges_are texts pools bodies (c ∷ cs) [] = refl
edges_are texts pools bodies (c ∷ cs) (x ∷ xs) =
    ap (λ (e : Edge). e ∷ edges_in bodies (map (numbers_in texts pools) xs) cs xs) (edge_is texts pools (shared bodies c) x)
    ∙ ap (λ (es : List Edge). edge_of texts pools bodies c x ∷ es) (edges_are texts pools bodies cs xs)

pub newest_length : (b : ℕ) (xs : List Build) → length (newest_from b xs) ≡ length xs
newest_length b [] = refl
newest_length b (x ∷ xs) = ap suc (newest_length (b + own_len x) xs)

-- ---- the tables

pub all_codes : (t : Builds) → IsSound t → (n : ℕ) (table : Table) (ks : List Numbers) (newest : List ℕ) → n ≡ length t.files → table ≡ table_of n (all_made zero t.edges) → ks ≡ numbers_of t
    → newest ≡ newest_from zero t.edges → codes_in table ks newest t.edges ≡ codes t.edges
all_codes t sound n outputs ks newest hn hm hk hw =
    ap (λ (q : Table). codes_in q ks newest t.edges) (hm ∙ ap (λ (k : ℕ). table_of k (all_made zero t.edges)) hn)
    ∙ ap (λ (js : List Numbers). codes_in (table_of (length t.files) (all_made zero t.edges)) js newest t.edges) hk
    ∙ ap (λ (ns : List ℕ). codes_in (table_of (length t.files) (all_made zero t.edges)) (numbers_of t) ns t.edges) hw ∙ codes_are t sound

pub image_is : (t : Builds) → IsSound t → (n : ℕ) (texts files : List Text) (pools : List Pool) (slots : List Slot) (table : Table) (ks : List Numbers) (newest : List ℕ) (bodies : List Body) (edges : List Edge) (defaults : List ℕ)
    → n ≡ length t.files → texts ≡ all_texts t.edges → files ≡ t.files → pools ≡ map (declared t.pools) (used_pools t.edges) → slots ≡ slots_from zero t.edges
    → table ≡ table_of n (all_made zero t.edges) → ks ≡ numbers_of t → newest ≡ newest_from zero t.edges
    → bodies ≡ used_bodies (codes_in table ks newest t.edges) → edges ≡ edges_in (used_bodies (codes_in table ks newest t.edges)) ks (codes_in table ks newest t.edges) t.edges
    → defaults ≡ t.defaults
    → ◌≡◌ {A = Parts} (record { texts = texts; files = files; pools = pools; slots = slots; bodies = Some bodies; edges = edges; defaults = defaults }) (image_of t)
image_is t sound n texts files pools slots table ks newest bodies edges defaults hn ht hf hp hs hm hk hw hb he hd =
    let all : codes_in table ks newest t.edges ≡ codes t.edges = all_codes t sound n table ks newest hn hm hk hw in
    let same_bodies : bodies ≡ used_bodies (codes t.edges) = hb ∙ ap used_bodies all in
    let same_edges : edges ≡ edges_of (all_texts t.edges) (used_pools t.edges) (used_bodies (codes t.edges)) (codes t.edges) t.edges =
    he ∙ ap (λ (cs : List (List Instr)). edges_in (used_bodies cs) ks cs t.edges) all
    ∙ ap (λ (js : List Numbers). edges_in (used_bodies (codes t.edges)) js (codes t.edges) t.edges) hk
    ∙ edges_are (all_texts t.edges) (used_pools t.edges) (used_bodies (codes t.edges)) (codes t.edges) t.edges in
    cc
