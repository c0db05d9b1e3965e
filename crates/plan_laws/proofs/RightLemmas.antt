-- Edges that succeeded came to the end of their rules.
use Rattle.std.proofs.Common.{◌≡◌, ℕ, zero, suc, ◌<◌, Bool, true, false, ltb, List, [], ◌∷◌, length, Option, Some, None, refl, ap, ◌∙◌, subst, arith}
use Rattle.std.specs.Prelude.{slice_get}
use Rattle.std.proofs.lemmas.Bool.{and_parts, ltb-true, ltb-false}
use Rattle.std.proofs.lemmas.Option.{slice_get_within}
use Rattle.plan_image.specs.declared.image.Parts.{Parts}
use Rattle.plan_verify.specs.Turn.{Slots, Meaning}
use Rattle.plan_verify.specs.Alone.{Stage, Ended, Alone}
use Rattle.plan_compile.specs.Builds.{builds}
use Rattle.plan_compile.specs.Faithful.{ImageIsFaithful, ManifestsAreSound}
use Rattle.plan_compile.specs.Images.{compiled}
use Rattle.plan_compile.specs.Means.{Leaves}
use Rattle.plan_compile.specs.Names.{all_texts}
use Rattle.plan_compile.specs.Slots.{form_of, base, made, all_made}
use Rattle.plan_compile.specs.InteractionTree.{Left, InteractionTree, Over as Done, Obeys, is_over, has_failed, moves, asks, Follows}
use Rattle.plan_compile.specs.Told.{edge_does, facts, ImageIsShaped, ImageIsLaidOut, ImageKeepsToRule}
use Rattle.plan_machine.specs.Depfile.{depfile}
use Rattle.plan_machine.specs.Histories.{stage_of, EachRanByItself, SlotsStay}
use Rattle.plan_machine.specs.State.{State, Status, Unbegun, Active, Over, outcome_at}
use Rattle.plan_machine.specs.Step.{ended}
use Rattle.plan_machine.specs.declared.event.Mark.{Mark}
use Rattle.plan_machine.specs.declared.event.Outcome.TheVariants.{Clean, Ran, Failed, Skipped, Stopped, NotWanted}
use Rattle.plan_status.specs.Outcomes.{is_done, are_done}
use Rattle.plan_lanes.specs.Journals.{Rule}
use Rattle.plan_laws.specs.Ends.{EndsArePlain}
use Rattle.plan_laws.specs.Manifests.{RunsKeepToManifest}
use Rattle.plan_laws.specs.Right.{FinishedEdgesAreRight, FinishedRunsAreRight}
use Rattle.plan_laws.proofs.SlotLemmas.{leaves_by, rule_same}
use Rattle.plan_laws.proofs.AllowedLemmas.{replies_allowed}
use Rattle.plan_laws.proofs.BegunLemmas.{WasStarted, Fits, FitsIn, runs_fit, opens_fit}

-- ---- an edge

same_ran : (a b : Bool) → ◌≡◌ {A = Stage} (Ended a) (Ended b) → a ≡ b
same_ran a b e = cc

-- If an edge follows an interaction tree and has ended, the root of the tree is an end.
over_at_end : (meaning : Meaning) (p : Parts) (e : ℕ) (Leaving : Slots → Left → Type 0) (x : Alone) (interaction : InteractionTree) → Obeys meaning p e Leaving x interaction
    → (ran : Bool) (slots : Slots) → x.stage ≡ Ended ran → x.slots ≡ slots → (left : Left) × (interaction ≡ Done ran left) × Leaving slots left
over_at_end meaning p e Leaving x interaction (is_over {ran = b} {slots = old} {left = left} h) ran slots s z =
    (left, ap (λ (c : Bool). Done c left) (same_ran b ran s), subst (λ (w : Slots). Leaving w left) z h)
over_at_end meaning p e Leaving x interaction has_failed ran slots s z = absurd cc
over_at_end meaning p e Leaving x interaction (moves quiet o) ran slots s z = absurd cc
over_at_end meaning p e Leaving x interaction (asks loud q h) ran slots s z = absurd cc

ended_stage : (ran : Bool) → stage_of (Over (ended ran)) ≡ Some (Ended ran)
ended_stage true = refl
ended_stage false = refl

pub finished_edges_are_right : (allows : Rule) → RunsKeepToManifest allows → EndsArePlain → EachRanByItself → SlotsStay → ImageKeepsToRule → ImageIsShaped → ManifestsAreSound → ImageIsLaidOut → FinishedEdgesAreRight allows
finished_edges_are_right allows keeps plain own stay by_rule shaped whole layouts rule m g sound graph limits targets r run e x ran there at =
    let t = builds rule m g in
    let s = r.state.run_state.now in
    let n = base t.edges e in
    let k = keeps rule m g sound graph limits targets r run e x (Over (ended ran)) (Ended ran) there at (ended_stage ran) in
    let o = over_at_end depfile (compiled rule m g) e (Leaves (made n x)) (record { stage = Ended ran; slots = k.end }) k.rest k.keeps ran k.end refl refl in
    let laid_out = layouts t (whole rule m g sound graph) e x there in
    let same = rule_same t (compiled rule m g) e k.slots s.slots k.lent x depfile (form_of x) (all_texts t.edges) n refl laid_out in
    let came : Follows (edge_does x.edge.phony depfile (facts t k.slots x)) k.conversation (Done ran o.0) =
    subst (λ (interaction : InteractionTree). Follows (edge_does x.edge.phony depfile (facts t k.slots x)) k.conversation interaction) o.1 k.follows in
    let follows : Follows (edge_does x.edge.phony depfile (facts t s.slots x)) k.conversation (Done ran o.0) = subst (λ (interaction : InteractionTree). Follows interaction k.conversation (Done ran o.0)) same came in
    record {
      conversation = k.conversation;
      answered = replies_allowed own by_rule layouts stay allows t (whole rule m g sound graph) (shaped t (whole rule m g sound graph)) limits targets r.journal s run.allowed e x there (Done ran o.0) run.left run.reached k.conversation k.answered follows;
      left = o.0;
      follows = follows;
      succeeds = plain x.edge.phony depfile (facts t s.slots x) k.conversation ran o.0 follows;
      leaves = leaves_by (compiled rule m g) e k.end s.slots k.own (form_of x) (all_texts t.edges) (all_made zero t.edges) n x o.0 laid_out o.2;
    }

-- ---- all edges

last_or_before : (s : State) (n e : ℕ) → are_done s (suc n) ≡ true → e < suc n → (are_done s n ≡ true → e < n → is_done (outcome_at (slice_get s.edges e)) ≡ true) → is_done (outcome_at (slice_get s.edges e)) ≡ true
last_or_before s n e all less before = by_place (ltb e n) refl
  where
    both : (are_done s n ≡ true) × (is_done (outcome_at (slice_get s.edges n)) ≡ true)
    both = and_parts (are_done s n) (is_done (outcome_at (slice_get s.edges n))) all

    by_place : (b : Bool) → ltb e n ≡ b → is_done (outcome_at (slice_get s.edges e)) ≡ true
    by_place true below = before both.0 (ltb-true e n below)
    by_place false above =
        let high = ltb-false e n above in
        let same : e ≡ n = omega (arith, less, high) in
        ap (λ (k : ℕ). is_done (outcome_at (slice_get s.edges k))) same ∙ both.1

done_at : (s : State) (n e : ℕ) → are_done s n ≡ true → e < n → is_done (outcome_at (slice_get s.edges e)) ≡ true
done_at s zero e all less = absurd (omega (arith, less))
done_at s (suc n) e all less = last_or_before s n e all less (λ before below. done_at s n e before below)

get_inside : {A : Type 0} (xs : List A) (k : ℕ) → k < length xs → (x : A) × (slice_get xs k ≡ Some x)
get_inside [] k less = absurd (omega (arith, less))
get_inside (x ∷ xs) zero less = (x, refl)
get_inside (x ∷ xs) (suc k) less = get_inside xs k (omega (arith, less))

-- an edge that is done, and was wanted, succeeded
succeeded_edge : (e : ℕ) (marks : List Mark) (o : Option Status) → is_done (outcome_at o) ≡ true → ((st : Status) → o ≡ Some st → Fits e st marks) → (ran : Bool) × (o ≡ Some (Over (ended ran))) × WasStarted e marks
succeeded_edge e marks (Some (Over Clean)) done fits = (false, refl, fits (Over Clean) refl)
succeeded_edge e marks (Some (Over Ran)) done fits = (true, refl, fits (Over Ran) refl)
succeeded_edge e marks (Some (Over NotWanted)) done fits = absurd (fits (Over NotWanted) refl)
succeeded_edge e marks (Some (Over (Failed cause))) done fits = absurd cc
succeeded_edge e marks (Some (Over (Skipped w))) done fits = absurd cc
succeeded_edge e marks (Some (Over Stopped)) done fits = absurd cc
succeeded_edge e marks (Some (Active l)) done fits = absurd cc
succeeded_edge e marks (Some Unbegun) done fits = absurd cc
succeeded_edge e marks None done fits = absurd cc

pub finished_runs_are_right : (allows : Rule) → FinishedEdgesAreRight allows → ImageIsFaithful → FinishedRunsAreRight allows
finished_runs_are_right allows right faithful rule m g sound graph limits targets r run all e wanted =
    let p = compiled rule m g in
    let s = r.state.run_state.now in
    let opens = run.reached.opens in
    let chosen : slice_get opens.wanted e ≡ Some true = (opens.are.each e).1 wanted in
    let inside : e < length p.edges = omega (arith, slice_get_within opens.wanted e true chosen, opens.are.long) in
    let done = done_at s (length p.edges) e all inside in
    let fits : FitsIn e s run.left = runs_fit e depfile p limits run.reached.start [] r.journal run.left s (opens_fit e p targets run.reached.start opens chosen) run.reached.run in
    let w = succeeded_edge e run.left (slice_get s.edges e) done fits in
    let here = get_inside (builds rule m g).edges e (let count = (faithful (builds rule m g)).count in omega (arith, inside, count)) in
    record {
      edge = here.0;
      there = here.1;
      ran = w.0;
      succeeded = w.1;
      order = record { position = w.2.0; began = w.2.1; after = λ v waits. run.orderly.after_waits w.2.0 e v w.2.1 waits };
      right = right rule m g sound graph limits targets r run e here.0 w.0 here.1 w.1;
    }
