-- The invariant holds when an image opens, and so in each reached state.
use Rattle.std.proofs.Common.{◌≡◌, ℕ, zero, suc, Bool, true, false, List, [], ◌∷◌, length, map, replicate, Option, Some, None, refl, sym, ap, ◌∙◌}
use Rattle.std.specs.Prelude.{slice_get}
use Rattle.std.proofs.Math.ListN.{length-replicate}
use Rattle.plan_image.specs.declared.image.Parts.{Parts}
use Rattle.plan_verify.specs.declared.value.Value.{Value}
use Rattle.plan_verify.specs.Turn.{Local, Meaning}
use Rattle.plan_verify.specs.WellShaped.{IsWellShaped}
use Rattle.plan_machine.proofs.ListLemmas.{some_is, map_length}
use Rattle.plan_machine.specs.Limits.{Limits}
use Rattle.plan_machine.specs.TurnLaws.{TurnLaws}
use Rattle.plan_machine.specs.declared.event.Event.{Event}
use Rattle.plan_machine.specs.declared.event.Mark.{Mark}
use Rattle.plan_machine.specs.declared.event.Outcome.TheVariants.{NotWanted}
use Rattle.plan_machine.specs.State.{Status, Unbegun, Active, Over, State, has_succeeded}
use Rattle.plan_machine.specs.Wanted.{is_waited}
use Rattle.plan_machine.specs.Runs.{at_first, Opens, Reached}
use Rattle.plan_machine.specs.Standing.{Stands}
use Rattle.plan_machine.specs.NeverWrong.{NeverWrong}
use Rattle.plan_machine.proofs.StandingLemmas.{stands_at, runs_stand, not_wrong}

none_active : (wanted : List Bool) (e : ℕ) (l : Local) → slice_get (map at_first wanted) e ≡ Some (Active l) → ⊥
none_active [] e l h = absurd cc
none_active (true ∷ wanted) zero l h = absurd cc
none_active (false ∷ wanted) zero l h = absurd cc
none_active (b ∷ wanted) (suc e) l h = none_active wanted e l h

pub none_well : (wanted : List Bool) (e : ℕ) (status : Status) → slice_get (map at_first wanted) e ≡ Some status → has_succeeded status ≡ true → ⊥
none_well [] e status h well = absurd cc
none_well (true ∷ wanted) zero status h well = absurd (let clash : false ≡ true = ap has_succeeded (some_is Unbegun status h) ∙ well in cc)
none_well (false ∷ wanted) zero status h well = absurd (let clash : false ≡ true = ap has_succeeded (some_is (Over NotWanted) status h) ∙ well in cc)
none_well (b ∷ wanted) (suc e) status h well = none_well wanted e status h well

none_set : (n k : ℕ) (v : Value) → slice_get (replicate {A = Option Value} n None) k ≡ Some (Some v) → ⊥
none_set zero k v h = absurd cc
none_set (suc n) zero v h = absurd cc
none_set (suc n) (suc k) v h = none_set n k v h

pub first_unbegun : (wanted : List Bool) (e : ℕ) → slice_get (map at_first wanted) e ≡ Some Unbegun → slice_get wanted e ≡ Some true
first_unbegun [] e h = absurd cc
first_unbegun (true ∷ wanted) zero h = refl
first_unbegun (false ∷ wanted) zero h = absurd cc
first_unbegun (b ∷ wanted) (suc e) h = first_unbegun wanted e h

pub first_unwanted : (wanted : List Bool) (e : ℕ) → slice_get (map at_first wanted) e ≡ Some (Over NotWanted) → slice_get wanted e ≡ Some false
first_unwanted [] e h = absurd cc
first_unwanted (true ∷ wanted) zero h = absurd cc
first_unwanted (false ∷ wanted) zero h = refl
first_unwanted (b ∷ wanted) (suc e) h = first_unwanted wanted e h

pub opens_stand : (p : Parts) (targets : List ℕ) (s : State) → Opens p targets s → Stands p s
opens_stand p targets s opens =
    record {
      long = ap length opens.edges ∙ map_length at_first opens.wanted ∙ opens.are.long;
      typed = record {
        table = ap length opens.slots ∙ length-replicate {A = Option Value} (length p.slots) None;
        kinds = λ k v h. absurd (none_set (length p.slots) k v (ap (λ (l : List (Option Value)). slice_get l k) (sym opens.slots) ∙ h));
      };
      active = λ e l h. absurd (none_active opens.wanted e l (read e ∙ h));
      set = λ e well. let h = stands_at has_succeeded s e well in absurd (none_well opens.wanted e h.0 (read e ∙ h.1) h.2);
      needed = λ e w h wait gone.
          let one : slice_get opens.wanted e ≡ Some true = first_unbegun opens.wanted e (read e ∙ h) in
          let two : slice_get opens.wanted w ≡ Some true = (opens.are.each w).1 (is_waited ((opens.are.each e).0 one) wait) in
          let three : slice_get opens.wanted w ≡ Some false = first_unwanted opens.wanted w (read w ∙ gone) in
          absurd (let clash : ◌≡◌ {A = Option Bool} (Some true) (Some false) = sym two ∙ three in cc);
    }
  where
    read : (e : ℕ) → slice_get (map at_first opens.wanted) e ≡ slice_get s.edges e
    read e = ap (λ (l : List Status). slice_get l e) (sym opens.edges)

pub reached_stands : (laws : TurnLaws) (meaning : Meaning) (p : Parts) → IsWellShaped p → (limits : Limits) (targets : List ℕ) (events : List Event) (marks : List Mark) (s : State) → Reached meaning p limits targets events marks s → Stands p s
reached_stands laws meaning p shaped limits targets events marks s reached =
    runs_stand laws meaning p shaped limits reached.start events marks s (opens_stand p targets reached.start reached.opens) reached.run

pub never_wrong : TurnLaws → NeverWrong
never_wrong laws meaning p shaped limits targets events marks s reached event flaw =
    not_wrong laws meaning p shaped limits s event (reached_stands laws meaning p shaped limits targets events marks s reached) flaw
