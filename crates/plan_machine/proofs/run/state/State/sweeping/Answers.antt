use Rattle.std.proofs.Common.{◌≡◌, [], Some, sym, subst, true}
use Rattle.std.specs.Prelude.{IsSome}
use Rattle.std.proofs.lemmas.Option.{IfSome_then}
use Rattle.plan_image.specs.declared.image.Parts.{Parts}
use Rattle.plan_verify.specs.Turn.{Stat, StampIs, question}
use Rattle.plan_machine.specs.Requests.{asked_at}
use Rattle.plan_machine.proofs.StateLemmas.{can_hear, state_stands}
use Rattle.plan_machine.proofs.SweptRowLemmas.{to_asked}
use Rattle.plan_machine.proofs.run.state.State.sweeping.Goals as goal

pub swept_paths-requires : goal.swept_paths-requires
swept_paths-requires c =
    let r = c.args.self.now in
    let e = c.args.edge in
    let laws = c.turn_laws.ensures in
    let stands = state_stands laws c.args.image.now c.image-tables.ensures.shaped r c.requires in
    record {
      asks = λ l at. subst (λ (p : Parts). l.asked ≡ true → IsSome (question p e [] l)) (sym c.image-tables.ensures.same)
          (can_hear laws laws.ignore_slots c.args.image.now r.run_state.now stands e (StampIs 0) l at).asks;
    }

pub returns-clause-asked : goal.returns-clause-asked
returns-clause-asked c =
    let s = c.args.self.now.run_state.now in
    let e = c.args.edge in
    IfSome_then c.swept_paths.result c.swept_paths.ensures.some
    (λ r to path at. subst (λ (p : Parts). asked_at p s e ≡ Some (Stat path)) c.image-tables.ensures.same (to_asked c.image-tables.result.now s e r.0.now r.1 to path at))
