-- The values in the slots of an edge's outputs.
use Rattle.std.proofs.Common.{◌≡◌, ℕ, zero, suc, ◌+◌, ◌<◌, Bool, true, false, List, [], ◌∷◌, ◌++◌, length, Some, refl, ap, subst, ◌∙◌, arith, inl, inr}
use Rattle.std.specs.Prelude.{◌⊎◌, ◌==◌, slice_get, if◌then◌else◌, nat_le}
use Rattle.std.specs.List.{list_any}
use Rattle.std.proofs.lemmas.Bool.{eq-eqb}
use Rattle.plan_image.specs.declared.body.Kind.{Kind}
use Rattle.plan_image.specs.declared.body.Kind.TheVariants.{Stamp, Flag}
use Rattle.plan_image.specs.declared.image.Parts.{Parts}
use Rattle.plan_verify.specs.Members.{is_member}
use Rattle.plan_verify.specs.Tables.{owned_by, kind_in}
use Rattle.plan_compile.specs.declared.layout.Output.{Output}
use Rattle.plan_compile.specs.declared.slot_pattern.SlotPattern.{SlotPattern}
use Rattle.plan_compile.specs.declared.slot_pattern.SlotPattern.TheVariants.{OneFlag, OwnFlags, Gathers, Alone}
use Rattle.plan_compile.specs.Means.{IsNoStamp, IsNoFlag, AreApart, HaveOwnFlags, ShareFlag, Share, slots_of, files_of, IsOwnOf, AreOutputs}
use Rattle.plan_compile.specs.Slots.{stamps, pairs, kinds_by, outputs_flagged, outputs_apart, outputs_sharing, outputs_by, find}
use Rattle.plan_compile.proofs.ListLemmas.{some_is, bool_cases, or_false, or_left, or_right}

-- ---- slots from b on belong to an edge and have these kinds

abbrev pub Holds : Parts → ℕ → Kind → ℕ → Type 0
Holds p e k s = slice_get p.slots s ≡ Some (record { owner = e; kind = k })

abbrev pub Runs : Parts → ℕ → ℕ → List Kind → Type 0
Runs p e b ks = (i : ℕ) (k : Kind) → slice_get ks i ≡ Some k → Holds p e k (b + i)

pub own_of_held : (p : Parts) (e : ℕ) (k : Kind) (s : ℕ) → Holds p e k s → IsOwnOf p e k s
own_of_held p e k s h = (ap (owned_by e) h ∙ eq-eqb e e refl, ap kind_in h)

abbrev pub Inside : Parts → List ℕ → Type 0
Inside p fs = list_any (λ f. nat_le (length p.files) f) fs ≡ false

module _ (p : Parts) (e : ℕ) where
  pub first_run : (b : ℕ) (k : Kind) (ks : List Kind) → Runs p e b (k ∷ ks) → Holds p e k b
  first_run b k ks run = let same : b ≡ b + zero = omega arith in ap (λ (n : ℕ). slice_get p.slots n) same ∙ run zero k refl

  pub rest_run : (b : ℕ) (k : Kind) (ks : List Kind) → Runs p e b (k ∷ ks) → Runs p e (suc b) ks
  rest_run b k ks run i l g = let same : suc b + i ≡ b + suc i = omega arith in ap (λ (n : ℕ). slice_get p.slots n) same ∙ run (suc i) l g

  -- ---- the outputs' slots are the edge's own

  pub flagged_own : (b c : ℕ) (fs : List ℕ) → Runs p e b (stamps fs) → Holds p e Flag c → Inside p fs → AreOutputs p e (outputs_flagged b c fs)
  flagged_own b c [] run flag inside = tt
  flagged_own b c (f ∷ fs) run flag inside =
      let o = or_false (nat_le (length p.files) f) (list_any (λ g. nat_le (length p.files) g) fs) inside in (
        (o.0, own_of_held p e Stamp b (first_run b Stamp (stamps fs) run), own_of_held p e Flag c flag),
        flagged_own (suc b) c fs (rest_run b Stamp (stamps fs) run) flag o.1,
      )

  pub apart_own : (b : ℕ) (fs : List ℕ) → Runs p e b (pairs fs) → Inside p fs → AreOutputs p e (outputs_apart b fs)
  apart_own b [] run inside = tt
  apart_own b (f ∷ fs) run inside =
      let o = or_false (nat_le (length p.files) f) (list_any (λ g. nat_le (length p.files) g) fs) inside in
      let more : Runs p e (suc b) (Flag ∷ pairs fs) = rest_run b Stamp (Flag ∷ pairs fs) run in (
        (o.0, own_of_held p e Stamp b (first_run b Stamp (Flag ∷ pairs fs) run), own_of_held p e Flag (suc b) (first_run (suc b) Flag (pairs fs) more)),
        apart_own (suc (suc b)) fs (rest_run (suc b) Flag (pairs fs) more) o.1,
      )

-- ---- apart by arithmetic

pub flagged_below : (s b c : ℕ) (fs : List ℕ) → s < b → IsNoStamp s (outputs_flagged b c fs)
flagged_below s b c [] lt = tt
flagged_below s b c (f ∷ fs) lt = ((λ same. omega (arith, lt, same)), flagged_below s (suc b) c fs (omega (arith, lt)))

pub flagged_apart : (b c : ℕ) (fs : List ℕ) → AreApart (outputs_flagged b c fs)
flagged_apart b c [] = tt
flagged_apart b c (f ∷ fs) = (flagged_below b (suc b) c fs (omega arith), flagged_apart (suc b) c fs)

pub flagged_share : (b c : ℕ) (fs : List ℕ) → ShareFlag c (outputs_flagged b c fs)
flagged_share b c [] = tt
flagged_share b c (f ∷ fs) = (refl, flagged_share (suc b) c fs)

pub apart_below_stamps : (s b : ℕ) (fs : List ℕ) → s < b → IsNoStamp s (outputs_apart b fs)
apart_below_stamps s b [] lt = tt
apart_below_stamps s b (f ∷ fs) lt = ((λ same. omega (arith, lt, same)), apart_below_stamps s (suc (suc b)) fs (omega (arith, lt)))

pub apart_below_flags : (s b : ℕ) (fs : List ℕ) → s < b → IsNoFlag s (outputs_apart b fs)
apart_below_flags s b [] lt = tt
apart_below_flags s b (f ∷ fs) lt = ((λ same. omega (arith, lt, same)), apart_below_flags s (suc (suc b)) fs (omega (arith, lt)))

pub apart_apart : (b : ℕ) (fs : List ℕ) → AreApart (outputs_apart b fs)
apart_apart b [] = tt
apart_apart b (f ∷ fs) = (apart_below_stamps b (suc (suc b)) fs (omega arith), apart_apart (suc (suc b)) fs)

pub apart_flags : (b : ℕ) (fs : List ℕ) → HaveOwnFlags (outputs_apart b fs)
apart_flags b [] = tt
apart_flags b (f ∷ fs) = (apart_below_flags (suc b) (suc (suc b)) fs (omega arith), apart_flags (suc (suc b)) fs)

pub sharing_share : (stamp changed : ℕ) (fs : List ℕ) → Share stamp changed (outputs_sharing stamp changed fs)
sharing_share stamp changed [] = tt
sharing_share stamp changed (f ∷ fs) = (refl, refl, sharing_share stamp changed fs)

-- ---- their files

pub files_flagged : (b c : ℕ) (fs : List ℕ) → files_of (outputs_flagged b c fs) ≡ fs
files_flagged b c [] = refl
files_flagged b c (f ∷ fs) = ap (λ (gs : List ℕ). f ∷ gs) (files_flagged (suc b) c fs)

pub files_apart : (b : ℕ) (fs : List ℕ) → files_of (outputs_apart b fs) ≡ fs
files_apart b [] = refl
files_apart b (f ∷ fs) = ap (λ (gs : List ℕ). f ∷ gs) (files_apart (suc (suc b)) fs)

pub files_sharing : (stamp changed : ℕ) (fs : List ℕ) → files_of (outputs_sharing stamp changed fs) ≡ fs
files_sharing stamp changed [] = refl
files_sharing stamp changed (f ∷ fs) = ap (λ (gs : List ℕ). f ∷ gs) (files_sharing stamp changed fs)

pub files_made : (form : SlotPattern) (b : ℕ) (fs : List ℕ) → files_of (outputs_by form b fs) ≡ fs
files_made OneFlag b fs = files_flagged (suc (suc b)) b fs
files_made OwnFlags b fs = files_apart (suc b) fs
files_made Gathers b fs = files_sharing b (suc b) fs
files_made Alone b fs = files_apart b fs

-- ---- each place of the run is an output's slot

pub in_stamps : (fs : List ℕ) (b c i : ℕ) (k : Kind) → slice_get (stamps fs) i ≡ Some k → is_member (b + i) (slots_of (outputs_flagged b c fs)) ≡ true
in_stamps [] b c i k g = absurd cc
in_stamps (f ∷ fs) b c zero k g =
    let same : b ≡ b + zero = omega arith in
    or_left (b == b + zero) (is_member (b + zero) (c ∷ slots_of (outputs_flagged (suc b) c fs))) (eq-eqb b (b + zero) same)
in_stamps (f ∷ fs) b c (suc i) k g =
    let same : b + suc i ≡ suc b + i = omega arith in
    let slots : List ℕ = slots_of (outputs_flagged (suc b) c fs) in
    or_right (b == b + suc i) (is_member (b + suc i) (c ∷ slots))
    (or_right (c == b + suc i) (is_member (b + suc i) slots) (ap (λ (n : ℕ). is_member n slots) same ∙ in_stamps fs (suc b) c i k g))

pub flag_among : (b c : ℕ) (fs : List ℕ) → (fs ≡ [] → ⊥) → is_member c (slots_of (outputs_flagged b c fs)) ≡ true
flag_among b c [] some = absurd (some refl)
flag_among b c (f ∷ fs) some =
    let slots : List ℕ = slots_of (outputs_flagged (suc b) c fs) in
    or_right (b == c) (is_member c (c ∷ slots)) (or_left (c == c) (is_member c slots) (eq-eqb c c refl))

pub in_pairs : (fs : List ℕ) (b i : ℕ) (k : Kind) → slice_get (pairs fs) i ≡ Some k → is_member (b + i) (slots_of (outputs_apart b fs)) ≡ true
in_pairs [] b i k g = absurd cc
in_pairs (f ∷ fs) b zero k g =
    let same : b ≡ b + zero = omega arith in
    or_left (b == b + zero) (is_member (b + zero) (suc b ∷ slots_of (outputs_apart (suc (suc b)) fs))) (eq-eqb b (b + zero) same)
in_pairs (f ∷ fs) b (suc zero) k g =
    let same : suc b ≡ b + suc zero = omega arith in
    let slots : List ℕ = slots_of (outputs_apart (suc (suc b)) fs) in
    or_right (b == b + suc zero) (is_member (b + suc zero) (suc b ∷ slots)) (or_left (suc b == b + suc zero) (is_member (b + suc zero) slots) (eq-eqb (suc b) (b + suc zero) same))
in_pairs (f ∷ fs) b (suc (suc i)) k g =
    let same : b + suc (suc i) ≡ suc (suc b) + i = omega arith in
    let slots : List ℕ = slots_of (outputs_apart (suc (suc b)) fs) in
    or_right (b == b + suc (suc i)) (is_member (b + suc (suc i)) (suc b ∷ slots))
    (or_right (suc b == b + suc (suc i)) (is_member (b + suc (suc i)) slots) (ap (λ (n : ℕ). is_member n slots) same ∙ in_pairs fs (suc (suc b)) i k g))

-- ---- an output that is found by its file

pub find_split : (f : ℕ) (os ps : List Output) (o : Output) → find f (os ++ ps) ≡ Some o → (find f os ≡ Some o) ⊎ (find f ps ≡ Some o)
find_split f [] ps o h = inr h
find_split f (q ∷ os) ps o h =
    elim (q.file == f) as (λ b. (if b then Some q else find f (os ++ ps)) ≡ Some o → ((if b then Some q else find f os) ≡ Some o) ⊎ (find f ps ≡ Some o))
    [ true ↦ λ g. inl g | false ↦ λ g. find_split f os ps o g ] h

-- the file is among those of an edge, and its slots belong to that edge
pub record IsOutput (p : Parts) (w f : ℕ) (fs : List ℕ) (o : Output) : Type 0 where
  pub member : is_member f fs ≡ true
  pub stamp : Holds p w Stamp o.stamp
  pub changed : Holds p w Flag o.changed

-- an output found among these, given the facts about the first one
pub found_first : (p : Parts) (w f : ℕ) (fs : List ℕ) (first o : Output) (os : List Output) → Holds p w Stamp first.stamp → Holds p w Flag first.changed
    → (find f os ≡ Some o → IsOutput p w f fs o) → find f (first ∷ os) ≡ Some o → IsOutput p w f (first.file ∷ fs) o
found_first p w f fs first o os stamp changed others h =
    elim (bool_cases (first.file == f)) as (λ c. IsOutput p w f (first.file ∷ fs) o) [
      | inl is ↦
          let same : first ≡ o = some_is first o (subst (λ (c : Bool). (if c then Some first else find f os) ≡ Some o) is h) in
          record {
            member = or_left (first.file == f) (is_member f fs) is;
            stamp = subst (λ (q : Output). Holds p w Stamp q.stamp) same stamp;
            changed = subst (λ (q : Output). Holds p w Flag q.changed) same changed;
          }
      | inr isnt ↦
          let r : IsOutput p w f fs o = others (subst (λ (c : Bool). (if c then Some first else find f os) ≡ Some o) isnt h) in
          record { member = or_right (first.file == f) (is_member f fs) r.member; stamp = r.stamp; changed = r.changed }
    ]

module _ (p : Parts) (w f : ℕ) (o : Output) where
  pub found_flagged : (fs : List ℕ) (b c : ℕ) → Runs p w b (stamps fs) → Holds p w Flag c → find f (outputs_flagged b c fs) ≡ Some o → IsOutput p w f fs o
  found_flagged [] b c run flag h = absurd cc
  found_flagged (g ∷ fs) b c run flag h =
      found_first p w f fs (record { file = g; stamp = b; changed = c }) o (outputs_flagged (suc b) c fs) (first_run p w b Stamp (stamps fs) run) flag
      (λ k. found_flagged fs (suc b) c (rest_run p w b Stamp (stamps fs) run) flag k) h

  pub found_apart : (fs : List ℕ) (b : ℕ) → Runs p w b (pairs fs) → find f (outputs_apart b fs) ≡ Some o → IsOutput p w f fs o
  found_apart [] b run h = absurd cc
  found_apart (g ∷ fs) b run h =
      let more : Runs p w (suc b) (Flag ∷ pairs fs) = rest_run p w b Stamp (Flag ∷ pairs fs) run in
      found_first p w f fs (record { file = g; stamp = b; changed = suc b }) o (outputs_apart (suc (suc b)) fs) (first_run p w b Stamp (Flag ∷ pairs fs) run)
      (first_run p w (suc b) Flag (pairs fs) more) (λ k. found_apart fs (suc (suc b)) (rest_run p w (suc b) Flag (pairs fs) more) k) h

  pub found_sharing : (fs : List ℕ) (stamp changed : ℕ) → Holds p w Stamp stamp → Holds p w Flag changed → find f (outputs_sharing stamp changed fs) ≡ Some o → IsOutput p w f fs o
  found_sharing [] stamp changed s c h = absurd cc
  found_sharing (g ∷ fs) stamp changed s c h =
      found_first p w f fs (record { file = g; stamp = stamp; changed = changed }) o (outputs_sharing stamp changed fs) s c (λ k. found_sharing fs stamp changed s c k) h

  pub found_by : (form : SlotPattern) (b : ℕ) (fs : List ℕ) → Runs p w b (kinds_by form fs) → find f (outputs_by form b fs) ≡ Some o → IsOutput p w f fs o
  found_by OneFlag b fs run h =
      found_flagged fs (suc (suc b)) b (rest_run p w (suc b) Stamp (stamps fs) (rest_run p w b Flag (Stamp ∷ stamps fs) run)) (first_run p w b Flag (Stamp ∷ stamps fs) run) h
  found_by OwnFlags b fs run h = found_apart fs (suc b) (rest_run p w b Stamp (pairs fs) run) h
  found_by Gathers b fs run h =
      found_sharing fs b (suc b) (first_run p w b Stamp (Flag ∷ []) run) (first_run p w (suc b) Flag [] (rest_run p w b Stamp (Flag ∷ []) run)) h
  found_by Alone b fs run h = found_apart fs b run h
