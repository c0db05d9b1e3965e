-- An edge that follows an interaction tree, run alone: its questions and replies are a path in the tree.
use Rattle.std.proofs.Common.{◌≡◌, ℕ, suc, Bool, false, List, ◌∷◌, Option, Some, None, refl, sym, ap, subst, ◌∙◌}
use Rattle.std.specs.Prelude.{if◌then◌else◌, slice_get}
use Rattle.plan_image.specs.declared.image.Parts.{Parts}
use Rattle.plan_image.specs.Code.{code}
use Rattle.plan_verify.specs.Turn.{Slots, Request, Reply, Meaning, Local, Turn, turn, question, heard, replied_at}
use Rattle.plan_verify.specs.Alone.{Stage, Runs, Alone, after, RunsAlone, rests, steps, hears}
use Rattle.plan_compile.specs.InteractionTree.{Left, InteractionTree, Obeys, is_over, has_failed, moves, asks, Follows}

pub stage_is : (x y : Alone) → x ≡ y → x.stage ≡ y.stage
stage_is x y e = ap (λ (a : Alone). a.stage) e

pub same_local : (l m : Local) → ◌≡◌ {A = Stage} (Runs l) (Runs m) → l ≡ m
same_local l m e = cc

pub some_same : {A : Type 0} (x y : A) → ◌≡◌ {A = Option A} (Some x) (Some y) → x ≡ y
some_same x y e = cc

module _ (meaning : Meaning) (p : Parts) (e : ℕ) (Leaves : Slots → Left → Type 0) where
  abbrev pub Leads : Alone → InteractionTree → List (Request × Reply) → Alone → Type 0
  Leads x interaction told y = (rest : InteractionTree) × Follows interaction told rest × Obeys meaning p e Leaves y rest

  pub by_step : (x : Alone) (interaction : InteractionTree) → Obeys meaning p e Leaves x interaction → (l : Local) (slots : Slots) → x.stage ≡ Runs l → x.slots ≡ slots → l.asked ≡ false
      → Obeys meaning p e Leaves (after l slots (turn p e slots l)) interaction
  by_step x interaction (is_over h) l slots s t quiet = absurd cc
  by_step x interaction has_failed l slots s t quiet = absurd cc
  by_step x interaction (moves {l = m} {slots = old} q o) l slots s t quiet =
      subst (λ (k : Local). Obeys meaning p e Leaves (after k slots (turn p e slots k)) interaction) (same_local m l s)
      (subst (λ (z : Slots). Obeys meaning p e Leaves (after m z (turn p e z m)) interaction) t o)
  by_step x interaction (asks {l = m} loud q h) l slots s t quiet = let e : m ≡ l = same_local m l s in absurd (cc)

  pub quiet_hears_none : (l : Local) (r : Reply) (t : Turn) → l.asked ≡ false → heard meaning p e l r ≡ Some t → ⊥
  unfolding heard
  quiet_hears_none l r t quiet is =
      let none : heard meaning p e l r ≡ None = ap (λ (b : Bool). if b then replied_at meaning l (slice_get (code p e) l.place) r else None) quiet in
      absurd (cc)

  pub by_reply : (x : Alone) (interaction : InteractionTree) → Obeys meaning p e Leaves x interaction → (l : Local) (slots : Slots) → x.stage ≡ Runs l → x.slots ≡ slots
      → (q : Request) (r : Reply) (t : Turn) → question p e slots l ≡ Some q → heard meaning p e l r ≡ Some t
      → (rest : List (Request × Reply)) (y : Alone) → ((next : InteractionTree) → Obeys meaning p e Leaves (after l slots t) next → Leads (after l slots t) next rest y)
      → Leads x interaction ((q, r) ∷ rest) y
  by_reply x interaction (is_over h) l slots s z q r t asked is rest y go = absurd cc
  by_reply x interaction has_failed l slots s z q r t asked is rest y go = absurd cc
  by_reply x interaction (moves {l = m} quiet o) l slots s z q r t asked is rest y go =
      let e : m ≡ l = same_local m l s in absurd (quiet_hears_none l r t (sym (ap (λ (k : Local). k.asked) e) ∙ quiet) is)
  by_reply x interaction (asks {l = m} {slots = old} {q = q2} {k = k} loud que h) l slots s z q r t asked is rest y go =
      let same : m ≡ l = same_local m l s in
      let que2 : question p e slots l ≡ Some q2 = subst (λ (i : Local). question p e slots i ≡ Some q2) same (subst (λ (w : Slots). question p e w m ≡ Some q2) z que) in
      let h2 : (r : Reply) (t : Turn) → heard meaning p e l r ≡ Some t → Obeys meaning p e Leaves (after l slots t) (k r) =
      subst (λ (i : Local). (r : Reply) (t : Turn) → heard meaning p e i r ≡ Some t → Obeys meaning p e Leaves (after i slots t) (k r)) same
      (subst (λ (w : Slots). (r : Reply) (t : Turn) → heard meaning p e m r ≡ Some t → Obeys meaning p e Leaves (after m w t) (k r)) z h) in
      let next = go (k r) (h2 r t is) in
      (next.0, (some_same q q2 (sym asked ∙ que2), next.1), next.2)

  -- the questions and replies of an edge that follows an interaction tree are a path in the tree, and the edge follows
  -- the subtree at the end of the path
  pub leads : (n : ℕ) (x y : Alone) (told : List (Request × Reply)) (interaction : InteractionTree) → Obeys meaning p e Leaves x interaction → RunsAlone meaning p e n x told y → Leads x interaction told y
  leads n x y told interaction o rests = (interaction, refl, o)
  leads (suc n) x y told interaction o (steps {l = l} {slots = slots} quiet run) = leads n (after l slots (turn p e slots l)) y told interaction (by_step x interaction o l slots refl refl quiet) run
  leads (suc n) x y told interaction o (hears {l = l} {slots = slots} {q = q} {r = r} {t = t} {told = rest} asked is run) =
      by_reply x interaction o l slots refl refl q r t asked is rest y (λ next good. leads n (after l slots t) y rest next good run)
