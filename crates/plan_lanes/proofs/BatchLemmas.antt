-- What a lane took. Serves src/lanes.rt and src/batch.rt.
use Rattle.std.proofs.Common.{◌≡◌, ℕ, true, false, Some, None, List, [], ◌∷◌, ◌++◌, refl, sym, ap, ◌∙◌, subst}
use Rattle.std.specs.Prelude.{map}
use Rattle.std.proofs.lemmas.List.{append-nil, append_assoc}
use Rattle.plan_image.specs.declared.image.Parts.{Parts}
use Rattle.plan_verify.specs.Turn.{Request}
use Rattle.plan_machine.specs.declared.event.Event.{Event}
use Rattle.plan_machine.specs.declared.event.Mark.{Mark}
use Rattle.plan_machine.specs.Depfile.{depfile}
use Rattle.plan_machine.specs.Limits.{Limits}
use Rattle.plan_machine.specs.Runs.{Runs}
use Rattle.plan_machine.specs.State.{State, has_ended}
use Rattle.plan_status.specs.Consoles.{is_console}
use Rattle.plan_lanes.specs.declared.batch.Question.{Question}
use Rattle.plan_lanes.specs.declared.board.Advance.TheVariants as advance
use Rattle.plan_lanes.specs.declared.board.Permit.{Permit}
use Rattle.plan_lanes.specs.declared.lanes.BatchEnd.TheVariants as taken
use Rattle.plan_lanes.specs.Batches.{Gathers, Held, RunNothing, Takes, held}
use Rattle.plan_lanes.specs.Permits.{IsPermitted, PermittedRun, permitted_run}
use Rattle.plan_lanes.specs.Proceeds.{AsksLast, CanOnlyWait, MovesOn, Proceeds, asking}
use Rattle.plan_lanes.specs.Progress.{Opened, Progress}
use Rattle.plan_lanes.specs.Questions.{is_run, shown}
use Rattle.plan_lanes.specs.LocalRuns.{AppliesAll, GoesOn}
use Rattle.plan_lanes.specs.ObservableMarks.{observable}
use Rattle.plan_lanes.proofs.ProceedLemmas.{asking_append}
use Rattle.plan_lanes.proofs.ObservableLemmas.{observable_append}

-- ---- events, and more events

runs_on : (p : Parts) (limits : Limits) (s mid t : State) (xs ys : List Event) (ms ns : List Mark) → Runs depfile p limits s xs ms mid → Runs depfile p limits mid ys ns t → Runs depfile p limits s (xs ++ ys) (ms ++ ns) t
runs_on p limits s mid t [] ys [] ns one other = subst (λ (u : State). Runs depfile p limits u ys ns t) (sym one) other
runs_on p limits s mid t (x ∷ xs) ys (m ∷ ms) ns one other = (one.0, one.1, runs_on p limits one.0 mid t xs ys ms ns one.2 other)
runs_on p limits s mid t [] ys (m ∷ ms) ns one other = absurd one
runs_on p limits s mid t (x ∷ xs) ys [] ns one other = absurd one

pub applies_on : (a b c : Progress) (xs ys : List Event) (ms ns : List Mark) → AppliesAll a b xs ms → AppliesAll b c ys ns → AppliesAll a c (xs ++ ys) (ms ++ ns)
applies_on a b c xs ys ms ns one other =
    let there : Runs depfile a.opened.parts a.opened.limits b.state ys ns c.state = subst (λ (o : Opened). Runs depfile o.parts o.limits b.state ys ns c.state) one.opened other.run in
    record {
      opened = other.opened ∙ one.opened;
      run = runs_on a.opened.parts a.opened.limits a.state b.state c.state xs ys ms ns one.run there;
      journal = other.journal ∙ ap (λ (l : List Event). l ++ ys) one.journal ∙ append_assoc a.journal xs ys;
      marks = other.marks ∙ ap (λ (l : List Mark). l ++ observable ns) one.marks ∙ append_assoc a.marks (observable ms) (observable ns) ∙ ap (λ (l : List Mark). a.marks ++ l) (sym (observable_append ms ns));
    }

pub goes_on : (a b c : Progress) → GoesOn a b → GoesOn b c → GoesOn a c
goes_on a b c one other =
    record { events = one.events ++ other.events; told = one.told ++ other.told; applies = applies_on a b c one.events other.events one.told other.told one.applies other.applies }

-- ---- what was taken so far

edges_append : (xs ys : List Held) → map (λ h. h.edge) (xs ++ ys) ≡ map (λ h. h.edge) xs ++ map (λ h. h.edge) ys
edges_append [] ys = refl
edges_append (x ∷ xs) ys = ap (λ (l : List ℕ). x.edge ∷ l) (edges_append xs ys)

pub gathers_none : (b : Progress) (batch : List Held) → Gathers b b batch batch []
gathers_none b batch =
    record {
      events = [];
      told = [];
      applies = record { opened = refl; run = refl; journal = sym (append-nil b.journal); marks = sym (append-nil b.marks) };
      more = [];
      kept = sym (append-nil batch);
      each = refl;
      plain = tt;
    }

plain_append : (xs : List Held) (y : Held) → RunNothing xs → is_run y.request ≡ false → RunNothing (xs ++ y ∷ [])
plain_append [] y all one = (one, tt)
plain_append (x ∷ xs) y all one = (all.0, plain_append xs y all.1 one)

module _ (a b c : Progress) (before after : List Held) (sofar : Gathers a b before after []) where
  -- what was asked and is held, and what came of it next
  joined : (ns : List Mark) (xs : List ℕ) → asking ns ≡ xs → asking (sofar.told ++ ns) ≡ map (λ h. h.edge) sofar.more ++ xs
  joined ns xs is = asking_append sofar.told ns ∙ ap (λ (l : List ℕ). l ++ asking ns) (sofar.each ∙ append-nil (map (λ h. h.edge) sofar.more)) ∙ ap (λ (l : List ℕ). map (λ h. h.edge) sofar.more ++ l) is

  pub gathers_moved : MovesOn b c → Gathers a c before after []
  gathers_moved h = record {
    events = sofar.events ++ h.first ∷ h.rest;
    told = sofar.told ++ h.told;
    applies = applies_on a b c sofar.events (h.first ∷ h.rest) sofar.told h.told sofar.applies h.applies;
    more = sofar.more;
    kept = sofar.kept;
    each = joined h.told [] h.silent;
    plain = sofar.plain;
  }

  module _ (e number : ℕ) (q : Request) (h : AsksLast b c e number q) where
    pub gathers_asked : Gathers a c before after (e ∷ [])
    gathers_asked = record {
      events = sofar.events ++ h.events;
      told = sofar.told ++ h.told;
      applies = applies_on a b c sofar.events h.events sofar.told h.told sofar.applies h.applies;
      more = sofar.more;
      kept = sofar.kept;
      each = joined h.told (e ∷ []) h.alone;
      plain = sofar.plain;
    }

    pub gathers_held : (longer : List Held) → longer ≡ after ++ held e number q ∷ [] → is_run q ≡ false → Gathers a c before longer []
    gathers_held longer is plain = record {
      events = sofar.events ++ h.events;
      told = sofar.told ++ h.told;
      applies = applies_on a b c sofar.events h.events sofar.told h.told sofar.applies h.applies;
      more = sofar.more ++ held e number q ∷ [];
      kept = is ∙ ap (λ (l : List Held). l ++ held e number q ∷ []) sofar.kept ∙ append_assoc before sofar.more (held e number q ∷ []);
      each = joined h.told (e ∷ []) h.alone ∙ sym (edges_append sofar.more (held e number q ∷ [])) ∙ sym (append-nil (map (λ h. h.edge) (sofar.more ++ held e number q ∷ [])));
      plain = plain_append sofar.more (held e number q) sofar.plain plain;
    }

  -- what a lane took at last
  pub takes_run : (e : ℕ) (question : Question) (permit : Permit) (order : PermittedRun) → order ≡ permitted_run e question.number (shown question.request) permit.console → Proceeds b c (advance.Job e question (Some permit))
      → Takes a c before after (taken.Run order)
  takes_run e question permit order is h =
      let run : is_run (shown question.request) ≡ true = sym h.1.0 in
      let console : permit.console ≡ is_console c.opened.parts e = subst (λ (o : Opened). permit.console ≡ is_console o.parts e) (sym h.0.applies.opened) h.1.1.2 in
      subst (λ (o : PermittedRun). Takes a c before after (taken.Run o)) (sym is) (gathers_asked e question.number (shown question.request) h.0, h.0.question, run, console)

  pub takes_held : (e : ℕ) (question : Question) → Proceeds b c (advance.Job e question None) → (longer : List Held) → longer ≡ after ++ held e question.number (shown question.request) ∷ [] → Gathers a c before longer []
  takes_held e question h longer is = gathers_held e question.number (shown question.request) h.0 longer is (sym h.1.0)

  pub takes_wait : Proceeds b c advance.Wait → Takes a c before after taken.Wait
  takes_wait h = (subst (λ (x : Progress). Gathers a x before after []) (sym h.0) sofar, subst CanOnlyWait (sym h.0) h.1)

  pub takes_ended : Proceeds b c advance.Ended → Takes a c before after taken.Ended
  takes_ended h = (subst (λ (x : Progress). Gathers a x before after []) (sym h.0) sofar, subst (λ (x : Progress). has_ended x.state ≡ true) (sym h.0) h.1)

  pub takes_nothing : GoesOn b c → Takes a c before after taken.NoMemory
  takes_nothing h = goes_on a b c (record { events = sofar.events; told = sofar.told; applies = sofar.applies }) h

pub permitted : (b c : Progress) (e : ℕ) (question : Question) (permit : Permit) → Proceeds b c (advance.Job e question (Some permit)) → IsPermitted e (shown question.request) permit
permitted b c e question permit h = (sym h.1.0, h.1.1.0, h.1.1.1)
