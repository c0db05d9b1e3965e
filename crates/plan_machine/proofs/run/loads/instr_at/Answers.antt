use Rattle.std.proofs.Common.{◌≡◌, ◌+◌, ◌∷◌, Some, drop, slice_get, ap, ◌∙◌}
use Rattle.std.proofs.lemmas.List.{drop_more}
use Rattle.std.proofs.lemmas.Option.{get_or_from_slice_get}
use Rattle.plan_machine.proofs.run.loads.instr_at.Goals as goal

pub returns : goal.returns
returns c =
    let here : slice_get c.args.view.now c.args.place ≡ Some c.in-Some.instr = cc in
    drop_more c.args.view.now c.args.place c.in-Some.instr c.requires
    ∙ ap (λ x. x ∷ drop (c.args.place + 1) c.args.view.now) (get_or_from_slice_get c.args.view.now c.args.place c.in-Some.instr c.in-Some.instr here)
