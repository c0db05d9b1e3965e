-- Journals, one event longer.
use Rattle.std.proofs.Common.{◌≡◌, ◌≢◌, ◌<◌, ◌⊎◌, ℕ, List, [], ◌∷◌, ◌++◌, length, length-append, take, Some, refl, sym, ap, ◌∙◌, inl, inr, subst, arith}
use Rattle.std.specs.Prelude.{slice_get}
use Rattle.std.proofs.lemmas.Bool.{cases_order}
use Rattle.std.proofs.lemmas.Option.{slice_get_within}
use Rattle.std.proofs.lemmas.List.{take-append-le}
use Rattle.std.proofs.Math.Seq.{take-append_seam}
use Rattle.plan_image.specs.declared.image.Parts.{Parts}
use Rattle.plan_verify.specs.Turn.{Request}
use Rattle.plan_machine.specs.Limits.{Limits}
use Rattle.plan_machine.specs.declared.event.Event.{Event}
use Rattle.plan_machine.specs.declared.event.Event.TheVariants.{Reply as Hear}
use Rattle.plan_machine.specs.declared.event.Mark.{Mark}
use Rattle.plan_machine.specs.declared.event.reply.Reply.{Reply}
use Rattle.plan_machine.specs.Depfile.{depfile}
use Rattle.plan_machine.specs.Edges.{edge_of}
use Rattle.plan_machine.specs.Requests.{asked_at}
use Rattle.plan_machine.specs.Runs.{Reached}
use Rattle.plan_machine.specs.State.{State}
use Rattle.plan_lanes.specs.Journals.{Rule, IsLastOf, IsAllowed}
use Rattle.plan_lanes.proofs.ListLemmas.{get_before, get_last, some_is}
use Rattle.plan_lanes.proofs.RunLemmas.{reached_same}

outside : (xs : List Event) (x z : Event) (k : ℕ) → slice_get (xs ++ x ∷ []) k ≡ Some z → length xs < k → ⊥
outside xs x z k here past = let h = slice_get_within (xs ++ x ∷ []) k z here in omega (arith, h, past, length-append xs (x ∷ []))

-- the last event is the last of its edge
pub last_here : (xs : List Event) (x : Event) → IsLastOf (edge_of x) (length xs) (xs ++ x ∷ [])
last_here xs x = record { event = x; there = get_last xs x; is = refl; last = λ k z past here. absurd (outside xs x z k here past) }

-- the last event of another edge stays its last
pub last_before : (xs : List Event) (x : Event) (e n : ℕ) → edge_of x ≢ e → IsLastOf e n xs → IsLastOf e n (xs ++ x ∷ [])
last_before xs x e n other is =
    record {
      event = is.event;
      there = get_before xs x n (slice_get_within xs n is.event is.there) ∙ is.there;
      is = is.is;
      last = λ k z past here of. by k z past here of (cases_order k (length xs));
    }
  where
    by : (k : ℕ) (z : Event) → n < k → slice_get (xs ++ x ∷ []) k ≡ Some z → edge_of z ≡ e → (k ≡ length xs) ⊎ ((k < length xs) ⊎ (length xs < k)) → ⊥
    by k z past here of (inl at) =
        let same : Some x ≡ Some z = sym (get_last xs x) ∙ (ap (slice_get (xs ++ x ∷ [])) (sym at) ∙ here) in
        other (ap edge_of (some_is x z same) ∙ of)
    by k z past here of (inr (inl left)) = is.last k z past (sym (get_before xs x k left) ∙ here) of
    by k z past here of (inr (inr right)) = outside xs x z k here right

-- an edge has one last event
pub last_same : (xs : List Event) (e n m : ℕ) → IsLastOf e n xs → IsLastOf e m xs → n ≡ m
last_same xs e n m one other =
    elim (cases_order n m) [
      | inl same ↦ same
      | inr (inl below) ↦ absurd (one.last m other.event below other.there other.is)
      | inr (inr above) ↦ absurd (other.last n one.event above one.there one.is)
    ]

no_event : (i : ℕ) (x : Event) → slice_get {X = Event} [] i ≡ Some x → ⊥
no_event i x h = cc

-- the empty journal is allowed
pub allowed_none : (rule : Rule) (p : Parts) (limits : Limits) (targets : List ℕ) → IsAllowed rule p limits targets []
allowed_none rule p limits targets i e r s marks q n at reached asked is = absurd (no_event i (Hear e r) at)

-- one event more is allowed, if it is no reply or a reply that the rule allows
pub allowed_more : (rule : Rule) (p : Parts) (limits : Limits) (targets : List ℕ) (xs : List Event) (x : Event) (t : State) (ms : List Mark)
    → Reached depfile p limits targets xs ms t → IsAllowed rule p limits targets xs
    → ((e : ℕ) (r : Reply) (q : Request) (n : ℕ) → x ≡ Hear e r → asked_at p t e ≡ Some q → IsLastOf e n xs → rule n q r)
    → IsAllowed rule p limits targets (xs ++ x ∷ [])
allowed_more rule p limits targets xs x t ms whole allowed may i e r s marks q n at reached asked is = by (cases_order i (length xs))
  where
    by : (i ≡ length xs) ⊎ ((i < length xs) ⊎ (length xs < i)) → rule n q r
    by (inl here) =
        let cut : take i (xs ++ x ∷ []) ≡ xs = ap (λ (k : ℕ). take k (xs ++ x ∷ [])) here ∙ take-append_seam xs (x ∷ []) in
        let same : s ≡ t = reached_same depfile p limits targets xs marks ms s t (subst (λ (l : List Event). Reached depfile p limits targets l marks s) cut reached) whole in
        let that : Some x ≡ Some (Hear e r) = sym (get_last xs x) ∙ (ap (slice_get (xs ++ x ∷ [])) (sym here) ∙ at) in
        may e r q n (some_is x (Hear e r) that) (subst (λ (u : State). asked_at p u e ≡ Some q) same asked) (subst (IsLastOf e n) cut is)
    by (inr (inl left)) =
        let cut : take i (xs ++ x ∷ []) ≡ take i xs = take-append-le i xs (x ∷ []) (omega (arith, left)) in
        allowed i e r s marks q n (sym (get_before xs x i left) ∙ at) (subst (λ (l : List Event). Reached depfile p limits targets l marks s) cut reached) asked (subst (IsLastOf e n) cut is)
    by (inr (inr right)) = absurd (outside xs x (Hear e r) i at right)
