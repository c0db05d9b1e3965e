-- What a board keeps, at its opening and with one event more.
use Rattle.std.proofs.Common.{◌≡◌, ◌≢◌, ◌<◌, ℕ, zero, suc, Bool, true, false, List, [], ◌∷◌, ◌++◌, length, Some, refl, sym, ap, ◌∙◌, inl, inr, subst, arith}
use Rattle.std.specs.Prelude.{map, slice_get, slice_set}
use Rattle.std.proofs.lemmas.Bool.{cases_order}
use Rattle.std.proofs.lemmas.List.{length-set}
use Rattle.std.proofs.lemmas.Option.{slice_get_within}
use Rattle.plan_image.specs.declared.image.Parts.{Parts}
use Rattle.plan_verify.specs.Turn.{Local}
use Rattle.plan_machine.specs.declared.event.Event.{Event}
use Rattle.plan_machine.specs.declared.event.Mark.{Mark}
use Rattle.plan_machine.specs.Depfile.{depfile}
use Rattle.plan_machine.specs.Edges.{edge_of}
use Rattle.plan_machine.specs.RunState.{RunState}
use Rattle.plan_machine.specs.Limits.{Limits}
use Rattle.plan_machine.specs.Kept.{Running, IsStateOf}
use Rattle.plan_machine.specs.Runs.{Opens, at_first}
use Rattle.plan_machine.specs.State.{Status, Active, State}
use Rattle.plan_machine.specs.Step.{Next, step}
use Rattle.plan_machine.specs.Wanted.{any_outside}
use Rattle.plan_lanes.specs.Boards.{AreNumbers, IsJournaled, IsKept, MayJournal}
use Rattle.plan_lanes.specs.Journals.{Rule, IsLastOf}
use Rattle.plan_lanes.specs.Progress.{Progress, opened_with, progress}
use Rattle.plan_lanes.specs.ObservableMarks.{observable}
use Rattle.plan_lanes.proofs.JournalLemmas.{allowed_more, allowed_none, last_before, last_here}
use Rattle.plan_lanes.proofs.ListLemmas.{get_other, get_set}
use Rattle.plan_lanes.proofs.RunLemmas.{MovesAlone, moves_alone, reached_more}
use Rattle.plan_lanes.proofs.ObservableLemmas.{observable_append}

-- no edge is under way at first
none_active : (wanted : List Bool) (e : ℕ) (l : Local) → slice_get (map at_first wanted) e ≡ Some (Active l) → ⊥
none_active [] e l h = cc
none_active (true ∷ wanted) zero l h = cc
none_active (false ∷ wanted) zero l h = cc
none_active (w ∷ wanted) (suc e) l h = none_active wanted e l h

-- a board that was opened
pub kept_opened : (rule : Rule) (numbers : List ℕ) (p : Parts) (targets : List ℕ) (r : Running) (journal : List Event) (marks : List Mark)
    → Opens p targets r.run_state.now → IsStateOf p r → journal ≡ [] → marks ≡ [] → length numbers ≡ length p.edges → any_outside p targets ≡ false
    → IsKept rule numbers r (progress p targets r.run_state journal marks)
kept_opened rule numbers p targets r journal marks opens state none bare all inside =
    rw (none, bare) (record {
      inside = inside;
      journaled = record {
        left = [];
        reached = record { start = r.run_state.now; opens = opens; run = refl };
        kept = refl;
        allowed = allowed_none rule p r.run_state.limits targets;
      };
      numbered = λ e l active. absurd (none_active opens.wanted e l (subst (λ (s : List Status). slice_get s e ≡ Some (Active l)) opens.edges active));
      all = all;
      state = state;
    })

-- what a board keeps, except the schedule of its state
pub record IsRecorded (rule : Rule) (numbers : List ℕ) (b : Progress) : Type 0 where
  pub journaled : IsJournaled rule b
  pub numbered : AreNumbers numbers b
  pub all : length numbers ≡ length b.opened.parts.edges
  pub long : length b.state.edges ≡ length b.opened.parts.edges

-- a board one event later
abbrev pub later_by : Progress → Event → Mark → State → Progress
later_by b event told t = record { opened = b.opened; state = t; journal = b.journal ++ event ∷ []; marks = b.marks ++ observable (told ∷ []) }

module _ (rule : Rule) (numbers : List ℕ) (b : Progress) (event : Event) (told : Mark) (t : State) (kept : IsRecorded rule numbers b) (may : MayJournal rule b event)
    (is : step depfile b.opened.parts b.opened.limits b.state event ≡ Next t told) where
  abbrev Numbers : List ℕ
  Numbers = slice_set numbers (edge_of event) (length b.journal)

  abbrev More : List Event
  More = b.journal ++ event ∷ []

  alone : MovesAlone b.state t (edge_of event) (slice_get b.state.edges (edge_of event)) told
  alone = moves_alone depfile b.opened.parts b.opened.limits b.state t event told is

  lengths : length t.edges ≡ length b.state.edges
  lengths = ap length alone.left ∙ length-set b.state.edges (edge_of event) alone.status

  other : (e : ℕ) (l : Local) → slice_get t.edges e ≡ Some (Active l) → e ≢ edge_of event → (n : ℕ) × (slice_get Numbers e ≡ Some n) × IsLastOf e n More
  other e l active apart =
      let was : slice_get b.state.edges e ≡ Some (Active l) =
      sym (get_other b.state.edges alone.status (edge_of event) e apart) ∙ sym (ap (λ (s : List Status). slice_get s e) alone.left) ∙ active in
      let before = kept.numbered e l was in (
        before.0,
        get_other numbers (length b.journal) (edge_of event) e apart ∙ before.1,
        last_before b.journal event e before.0 (λ h. apart (sym h)) before.2,
      )

  same : (e : ℕ) (l : Local) → slice_get t.edges e ≡ Some (Active l) → e ≡ edge_of event → (n : ℕ) × (slice_get Numbers e ≡ Some n) × IsLastOf e n More
  same e l active here =
      let within : e < length t.edges = slice_get_within t.edges e (Active l) active in (
        length b.journal,
        rw here (get_set numbers (length b.journal) (edge_of event) (omega (arith, kept.all, within, here, lengths, kept.long))),
        rw here (last_here b.journal event),
      )

  numbered : (e : ℕ) (l : Local) → slice_get t.edges e ≡ Some (Active l) → (n : ℕ) × (slice_get Numbers e ≡ Some n) × IsLastOf e n More
  numbered e l active =
      elim (cases_order e (edge_of event)) [
        | inl here ↦ same e l active here
        | inr (inl below) ↦ other e l active (λ h. absurd (omega (arith, below, h)))
        | inr (inr above) ↦ other e l active (λ h. absurd (omega (arith, above, h)))
      ]

  -- one event more
  pub recorded_more : IsRecorded rule Numbers (later_by b event told t)
  recorded_more =
      record {
        journaled = record {
          left = kept.journaled.left ++ told ∷ [];
          reached = reached_more depfile b.opened.parts b.opened.limits b.opened.targets b.journal kept.journaled.left b.state t event told kept.journaled.reached is;
          kept = ap (λ (l : List Mark). l ++ observable (told ∷ [])) kept.journaled.kept ∙ sym (observable_append kept.journaled.left (told ∷ []));
          allowed = allowed_more rule b.opened.parts b.opened.limits b.opened.targets b.journal event b.state kept.journaled.left kept.journaled.reached kept.journaled.allowed may;
        };
        numbered = numbered;
        all = length-set numbers (edge_of event) (length b.journal) ∙ kept.all;
        long = lengths ∙ kept.long;
      }

-- a board with its schedule, as it is recorded
pub recorded_of : (rule : Rule) (numbers : List ℕ) (r : Running) (b : Progress) → IsKept rule numbers r b → r.run_state ≡ record { limits = b.opened.limits; now = b.state } → IsRecorded rule numbers b
recorded_of rule numbers r b kept run_state =
    record {
      journaled = kept.journaled;
      numbered = kept.numbered;
      all = kept.all;
      long = subst (λ (g : RunState). length g.now.edges ≡ length b.opened.parts.edges) run_state kept.state.kept.long;
    }

-- and back
pub kept_of : (rule : Rule) (numbers : List ℕ) (next : Running) (b : Progress) (journal : List Event) (marks : List Mark) → any_outside b.opened.parts b.opened.targets ≡ false
    → IsRecorded rule numbers (record { opened = b.opened; state = next.run_state.now; journal = journal; marks = marks }) → next.run_state.limits ≡ b.opened.limits → IsStateOf b.opened.parts next
    → IsKept rule numbers next (progress b.opened.parts b.opened.targets next.run_state journal marks)
kept_of rule numbers next b journal marks inside recorded limits state =
    subst (λ (l : Limits). IsKept rule numbers next (record { opened = opened_with b.opened.parts l b.opened.targets; state = next.run_state.now; journal = journal; marks = marks })) (sym limits)
    (record { inside = inside; journaled = recorded.journaled; numbered = recorded.numbered; all = recorded.all; state = state })

-- a board that one event more was applied to
pub kept_more : (rule : Rule) (numbers : List ℕ) (r next : Running) (b : Progress) (event : Event) (told : Mark) → IsKept rule numbers r b → MayJournal rule b event
    → r.run_state ≡ record { limits = b.opened.limits; now = b.state } → step depfile b.opened.parts b.opened.limits b.state event ≡ Next next.run_state.now told → next.run_state.limits ≡ r.run_state.limits → IsStateOf b.opened.parts next
    → IsKept rule (slice_set numbers (edge_of event) (length b.journal)) next (progress b.opened.parts b.opened.targets next.run_state (b.journal ++ event ∷ []) (b.marks ++ observable (told ∷ [])))
kept_more rule numbers r next b event told kept may run_state is limits state =
    kept_of rule (slice_set numbers (edge_of event) (length b.journal)) next b (b.journal ++ event ∷ []) (b.marks ++ observable (told ∷ [])) kept.inside
    (recorded_more rule numbers b event told next.run_state.now (recorded_of rule numbers r b kept run_state) may is)
    (limits ∙ ap (λ (g : RunState). g.limits) run_state) state
