use Rattle.std.proofs.Common.{◌≡◌, sym, arith, length, rules}
use Rattle.std.proofs.lemmas.Option.{slice_get_within}
use Rattle.plan_image.specs.Code.{code}
use Rattle.plan_verify.proofs.PassLemmas.{moved_at, met, no_shape, check_refused, set_own, next_reached, shallow, jumps_within}
use Rattle.plan_verify.proofs.pass.pass_place.Goals as goal

pub returns-in-Some-clause-err : goal.returns-in-Some-clause-err
returns-in-Some-clause-err c =
    let lt = slice_get_within (code c.args.parts.now c.args.edge) c.args.place c.args.instr c.requires.here in
    let got = moved_at c.args.arrivals.now.items c.args.place _ c.replace-arrival.result _ lt (sym c.requires.long) c.index_mut.ensures.value c.replace-arrival.ensures.value in
    no_shape c.args.parts.now c.args.edge c.args.place c.args.arrivals.now.items c.args.flow.now c.requires.reached c.meet.new.flow.shape c.in-Some.refusal c.args.instr c.requires.tables c.requires.here
    (met c.args.parts.now c.args.edge c.args.place c.args.arrivals.now.items c.args.flow.now c.requires.reached c.replace-arrival.result c.meet.new.flow _ got c.in-Some.ensures)

pub refusal_at-requires-clause-place : goal.refusal_at-requires-clause-place
refusal_at-requires-clause-place c =
    let lt = slice_get_within (code c.args.parts.now c.args.edge) c.args.place c.args.instr c.requires.here in
    let long : length c.args.arrivals.now.items ≡ c.len-len.result = search rules in
    omega (arith, lt, c.requires.long, long)

pub refusal_at-requires-clause-set : goal.refusal_at-requires-clause-set
refusal_at-requires-clause-set c =
    let lt = slice_get_within (code c.args.parts.now c.args.edge) c.args.place c.args.instr c.requires.here in
    let got = moved_at c.args.arrivals.now.items c.args.place _ c.replace-arrival.result _ lt (sym c.requires.long) c.index_mut.ensures.value c.replace-arrival.ensures.value in
    set_own c.args.parts.now c.args.edge c.args.place c.args.arrivals.now.items c.args.flow.now c.requires.reached c.meet.new.flow.shape
    (met c.args.parts.now c.args.edge c.args.place c.args.arrivals.now.items c.args.flow.now c.requires.reached c.replace-arrival.result c.meet.new.flow _ got c.in_default.ensures)

pub returns-in-Some-refusal_at-clause-err : goal.returns-in-Some-refusal_at-clause-err
returns-in-Some-refusal_at-clause-err c =
    let lt = slice_get_within (code c.args.parts.now c.args.edge) c.args.place c.args.instr c.requires.here in
    let got = moved_at c.args.arrivals.now.items c.args.place _ c.replace-arrival.result _ lt (sym c.requires.long) c.index_mut.ensures.value c.replace-arrival.ensures.value in
    check_refused c.args.parts.now c.args.edge c.args.place c.args.arrivals.now.items c.args.flow.now c.requires.reached c.meet.new.flow.shape c.in-Some-refusal_at.refusal c.args.instr c.requires.tables c.requires.here
    (met c.args.parts.now c.args.edge c.args.place c.args.arrivals.now.items c.args.flow.now c.requires.reached c.replace-arrival.result c.meet.new.flow _ got c.in_default.ensures)
    (sym c.in-Some-refusal_at.ensures)

pub change-requires : goal.change-requires
change-requires c =
    let lt = slice_get_within (code c.args.parts.now c.args.edge) c.args.place c.args.instr c.requires.here in
    let got = moved_at c.args.arrivals.now.items c.args.place _ c.replace-arrival.result _ lt (sym c.requires.long) c.index_mut.ensures.value c.replace-arrival.ensures.value in
    shallow c.args.parts.now c.args.edge c.args.place c.args.arrivals.now.items c.args.flow.now c.requires.reached c.meet.new.flow.shape c.args.instr c.requires.here
    (met c.args.parts.now c.args.edge c.args.place c.args.arrivals.now.items c.args.flow.now c.requires.reached c.replace-arrival.result c.meet.new.flow _ got c.in_default.ensures)
    (sym c.in_default-refusal_at.ensures)

pub jump-requires : goal.jump-requires
jump-requires c =
    jumps_within c.args.parts.now c.args.edge c.args.place c.args.instr c.meet.new.flow.shape c.args.arrivals.now.items c.replace-arrival.new.dest c.requires.long (sym c.in_default-refusal_at.ensures)

pub returns-clause-ok : goal.returns-clause-ok
returns-clause-ok c =
    let lt = slice_get_within (code c.args.parts.now c.args.edge) c.args.place c.args.instr c.requires.here in
    let got = moved_at c.args.arrivals.now.items c.args.place _ c.replace-arrival.result _ lt (sym c.requires.long) c.index_mut.ensures.value c.replace-arrival.ensures.value in
    next_reached c.args.parts.now c.args.edge c.args.place c.args.arrivals.now.items c.args.flow.now c.requires.reached c.meet.new.flow.shape c.args.instr c.requires.here
    (met c.args.parts.now c.args.edge c.args.place c.args.arrivals.now.items c.args.flow.now c.requires.reached c.replace-arrival.result c.meet.new.flow _ got c.in_default.ensures)
    (sym c.in_default-refusal_at.ensures)
    c.replace-arrival.new.dest c.jump.new.all.items _
    (rw (← c.in_ok-change.ensures) c.in_ok-jump.ensures)
    c.in_ok-change.ensures
    c.falls_through-flow.ensures
