use Rattle.std.proofs.Common.{◌≡◌, ℕ, ◌-◌, ◌++◌, ◌∷◌, [], ap, List, sym, subst, ◌∙◌}
use Rattle.std.specs.Prelude.{slice_set}
use Rattle.plan_machine.specs.declared.event.Event.{Event}
use Rattle.plan_machine.specs.declared.event.Event.TheVariants.{Reply as Hear}
use Rattle.plan_machine.specs.declared.event.Mark.{Mark}
use Rattle.plan_machine.specs.LocalRuns.{local_run_events, local_run_marks}
use Rattle.plan_lanes.specs.Boards.{MayJournal}
use Rattle.plan_lanes.specs.Progress.{Progress}
use Rattle.plan_lanes.specs.ObservableMarks.{observable}
use Rattle.plan_lanes.proofs.LocalRunLemmas.{all_so, kept_followed, one_and_all}
use Rattle.plan_lanes.proofs.ObservableLemmas.{reply_alone}
use Rattle.plan_lanes.proofs.board.Board.record_reply.Goals as goal

pub invariant_of-self-in-Ok : goal.invariant_of-self-in-Ok
invariant_of-self-in-Ok g c =
    let b = c.self.inside in
    let next = c.follow.new.self in
    let e = c.args.edge in
    let local_run = c.in-Ok.local_run in
    let told = c.in-Ok.mark in
    let x = Hear e c.args.reply in
    let one : c.push_heard.new.self.events ≡ b.journal_builder.events ++ x ∷ [] = c.in_ok-push_heard.ensures.ok ∙ ap (λ (l : List Event). l ++ x ∷ []) c.reserve-2.ensures.same in
    let steps : c.push_steps.new.self.events ≡ c.push_heard.new.self.events ++ local_run_events e local_run =
    c.push_steps.ensures ∙ ap (λ (l : List Event). c.push_heard.new.self.events ++ l) (sym (c.count.ensures.steps e)) in
    let mark : c.keep.new.marks.items ≡ b.marks.items ++ observable (told ∷ local_run_marks e local_run) =
    c.keep.ensures ∙ ap (λ (l : List Mark). l ++ observable (told ∷ [])) c.reserve.ensures.items ∙ ap (λ (l : List Mark). b.marks.items ++ l) (reply_alone told e local_run) in
    kept_followed g.W.World.allows b.numbers.items b.image.now b.targets.items b.state next b.journal_builder.events b.marks.items e local_run c.self.invariant c.in-Ok.ensures.state
    c.put.new.numbers.items c.push_steps.new.self.events c.keep.new.marks.items
    (c.put.ensures ∙ ap (λ (n : ℕ). slice_set b.numbers.items e (n - 1)) c.len-number.ensures) c.args.reply told
    (one_and_all b.journal_builder.events c.push_heard.new.self.events c.push_steps.new.self.events (local_run_events e local_run) x one steps)
    mark
    (subst (λ (v : Progress). MayJournal g.W.World.allows v x) (sym c.self.view_is) c.requires) c.in-Ok.ensures.runs

pub returns-in-Ok-clause-ok : goal.returns-in-Ok-clause-ok
returns-in-Ok-clause-ok g c =
    let b = c.self.inside in
    let next = c.follow.new.self in
    let e = c.args.edge in
    let local_run = c.in-Ok.local_run in
    let told = c.in-Ok.mark in
    let x = Hear e c.args.reply in
    let one : c.push_heard.new.self.events ≡ b.journal_builder.events ++ x ∷ [] = c.in_ok-push_heard.ensures.ok ∙ ap (λ (l : List Event). l ++ x ∷ []) c.reserve-2.ensures.same in
    let steps : c.push_steps.new.self.events ≡ c.push_heard.new.self.events ++ local_run_events e local_run =
    c.push_steps.ensures ∙ ap (λ (l : List Event). c.push_heard.new.self.events ++ l) (sym (c.count.ensures.steps e)) in
    let mark : c.keep.new.marks.items ≡ b.marks.items ++ observable (told ∷ local_run_marks e local_run) =
    c.keep.ensures ∙ ap (λ (l : List Mark). l ++ observable (told ∷ [])) c.reserve.ensures.items ∙ ap (λ (l : List Mark). b.marks.items ++ l) (reply_alone told e local_run) in (
      told,
      all_so b.image.now b.targets.items b.state.run_state next.run_state b.journal_builder.events c.push_steps.new.self.events b.marks.items c.keep.new.marks.items c.args.self.now (x ∷ local_run_events e local_run) (told ∷ local_run_marks e local_run)
          c.self.view_is c.in-Ok.ensures.runs (one_and_all b.journal_builder.events c.push_heard.new.self.events c.push_steps.new.self.events (local_run_events e local_run) x one steps) mark,
    )
