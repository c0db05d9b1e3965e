use Rattle.std.proofs.Common.{◌∙◌, ap, List, refl, sym}
use Rattle.std.specs.Prelude.{slice_get}
use Rattle.plan_image.specs.declared.body.BodyInstr.{BodyInstr}
use Rattle.plan_image.specs.Bodies.{instr_with_rank, with_operands}
use Rattle.plan_image.proofs.BodyLemmas.{instr_is_found}
use Rattle.plan_image.proofs.body.Body.rank.Goals as goal

pub returns : goal.returns
returns c = λ numbers.
    let is = c.self.inside.instrs.items in
    let place = c.args.place in
    ap (λ (xs : List BodyInstr). instr_with_rank numbers (slice_get xs place) c.rank_at.result) (sym c.self.view_is)
    ∙ (instr_is_found is numbers place (slice_get is place) c.as_slice.result.now c.rank_at.result (instr_with_rank numbers (slice_get is place) c.rank_at.result) refl refl c.rank_at.ensures (c.as_slice.ensures.value ∙ c.self.invariant.0)
    ∙ ap (λ (xs : List BodyInstr). slice_get (with_operands xs numbers) place) c.self.view_is)
