-- The replies of each edge, one event later. Serves src/edge_replies.rt and src/journal_builder.rt.
use Rattle.std.proofs.Common.{◌≡◌, ℕ, Bool, true, false, List, [], ◌∷◌, ◌++◌, ◌==◌, if◌then◌else◌, refl, sym, ap, ◌∙◌, append-nil, get_or, Result, Ok, Err, OnOk}
use Rattle.plan_machine.specs.declared.event.Event.{Event}
use Rattle.plan_machine.specs.declared.event.Event.TheVariants.{Start, Skip, Stop, Step, Reply as Hear}
use Rattle.plan_machine.specs.declared.event.reply.Reply.{Reply}
use Rattle.plan_machine.specs.Agreement.{replies_to}
use Rattle.plan_journal.specs.declared.edge_replies.EdgeReplies.{EdgeReplies}
use Rattle.plan_journal.specs.declared.edge_replies.EdgeReplies.TheVariants.{Unknown, Known}
use Rattle.plan_journal.specs.EdgeReplies.{AreKnown, replies_for}

pub replies_append : (e : ℕ) (xs ys : List Event) → replies_to e (xs ++ ys) ≡ replies_to e xs ++ replies_to e ys
replies_append e [] ys = refl
replies_append e (Start f ∷ xs) ys = replies_append e xs ys
replies_append e (Skip f w ∷ xs) ys = replies_append e xs ys
replies_append e (Stop f ∷ xs) ys = replies_append e xs ys
replies_append e (Step f ∷ xs) ys = replies_append e xs ys
replies_append e (Hear f r ∷ xs) ys = by (f == e) (replies_append e xs ys)
  where
    by : (b : Bool) → replies_to e (xs ++ ys) ≡ replies_to e xs ++ replies_to e ys
        → (if b then r ∷ replies_to e (xs ++ ys) else replies_to e (xs ++ ys)) ≡ (if b then r ∷ replies_to e xs else replies_to e xs) ++ replies_to e ys
    by true is = ap (λ (l : List Reply). r ∷ l) is
    by false is = is

-- one reply more
pub known_reply : (old new : List (List Reply)) (f : ℕ) (r : Reply) (events : List Event) → ((e : ℕ) → get_or old e [] ≡ replies_to e events)
    → ((e : ℕ) → get_or new e [] ≡ get_or old e [] ++ replies_for e f r) → (e : ℕ) → get_or new e [] ≡ replies_to e (events ++ Hear f r ∷ [])
known_reply old new f r events known more e = more e ∙ (ap (λ (l : List Reply). l ++ replies_for e f r) (known e) ∙ sym (replies_append e events (Hear f r ∷ [])))

-- an event more that brings no reply
known_still : (known : EdgeReplies) (events : List Event) (x : Event) → ((e : ℕ) → replies_to e (x ∷ []) ≡ []) → AreKnown known events → AreKnown known (events ++ x ∷ [])
known_still (Known lists) events x none is =
    λ e. is e ∙ (sym (append-nil (replies_to e events)) ∙ (ap (λ (l : List Reply). replies_to e events ++ l) (sym (none e)) ∙ sym (replies_append e events (x ∷ []))))
known_still Unknown events x none is = tt

pub known_start : (known : EdgeReplies) (events : List Event) (f : ℕ) → AreKnown known events → AreKnown known (events ++ Start f ∷ [])
known_start known events f is = known_still known events (Start f) (λ e. refl) is

pub known_skip : (known : EdgeReplies) (events : List Event) (f w : ℕ) → AreKnown known events → AreKnown known (events ++ Skip f w ∷ [])
known_skip known events f w is = known_still known events (Skip f w) (λ e. refl) is

pub known_stop : (known : EdgeReplies) (events : List Event) (f : ℕ) → AreKnown known events → AreKnown known (events ++ Stop f ∷ [])
known_stop known events f is = known_still known events (Stop f) (λ e. refl) is

pub known_step : (known : EdgeReplies) (events : List Event) (f : ℕ) → AreKnown known events → AreKnown known (events ++ Step f ∷ [])
known_step known events f is = known_still known events (Step f) (λ e. refl) is

pub on_ok_then : {T E : Type 0} {P Q : Type 0} (result : Result T E) → (P → Q) → OnOk result P → OnOk result Q
on_ok_then (Ok x) next is = next is
on_ok_then (Err x) next is = tt
