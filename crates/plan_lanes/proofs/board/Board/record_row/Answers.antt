use Rattle.std.proofs.Common.{◌≡◌, ◌<◌, ℕ, ◌-◌, ◌++◌, List, [], drop, get_or, length, length-append, take, ap, arith, sym, subst, ◌∙◌}
use Rattle.std.specs.Prelude.{slice_set}
use Rattle.std.proofs.lemmas.List.{length-take-le}
use Rattle.plan_verify.specs.Turn.{Stat}
use Rattle.plan_machine.specs.declared.event.Event.{Event}
use Rattle.plan_machine.specs.Sweeping.{row_events, row_marks}
use Rattle.plan_lanes.specs.Boards.{IsOpen}
use Rattle.plan_lanes.specs.Progress.{Progress, progress}
use Rattle.plan_lanes.specs.LocalRuns.{SweepsRow}
use Rattle.plan_lanes.specs.StampRows.{HaveStamps}
use Rattle.plan_lanes.proofs.LocalRunLemmas.{all_so, kept_row, row_awaits, row_long, row_open}
use Rattle.plan_lanes.proofs.StampRowLemmas.{have_take}
use Rattle.plan_lanes.proofs.ObservableLemmas.{row_leaves}
use Rattle.plan_lanes.proofs.board.Board.record_row.Goals as goal

pub overflow_sub-last : goal.overflow_sub-last
overflow_sub-last g c =
    let count : ℕ = c.sweep_row-count.result in
    let stamps : List ℕ = c.stamps-2.result.now in
    let some : 0 < count = omega (arith, c.if-count-eq0.false) in
    let taken : length (take count stamps) ≡ count = length-take-le count stamps c.sweep_row-count.ensures.most in
    let events : c.push_row.new.self.events ≡ c.reserve_row.new.self.events ++ row_events c.edge-edge.result (take count stamps) =
    c.push_row.ensures ∙ ap (λ (l : List ℕ). c.reserve_row.new.self.events ++ row_events c.edge-edge.result (take count l)) (c.stamps-3.ensures.same ∙ sym c.stamps-2.ensures.same) in
    let long : 0 < length (row_events c.edge-edge.result (take count stamps)) = row_long c.edge-edge.result (take count stamps) (omega (arith, some, taken)) in
    omega (arith, long, c.len-last.ensures, ap (λ (l : List Event). length l) events, length-append c.reserve_row.new.self.events (row_events c.edge-edge.result (take count stamps)))

pub invariant_of-self-2 : goal.invariant_of-self-2
invariant_of-self-2 g c =
    let b = c.self.inside in
    let rule = g.W.World.allows in
    let next = c.sweep_row-count.new.self in
    let e : ℕ = c.edge-edge.result in
    let count : ℕ = c.sweep_row-count.result in
    let stamps : List ℕ = c.stamps-2.result.now in
    let paths : List (List ℕ) = drop c.from.result c.paths.result.now in
    let some : 0 < count = omega (arith, c.if-count-eq0.false) in
    let taken : length (take count stamps) ≡ count = length-take-le count stamps c.sweep_row-count.ensures.most in
    let same : paths ≡ drop c.args.row.now.from c.args.row.now.paths = ap (λ (n : ℕ). drop n c.paths.result.now) c.from.ensures ∙ ap (λ (ps : List (List ℕ)). drop c.args.row.now.from ps) c.paths.ensures in
    let all : HaveStamps rule paths stamps = subst (λ (ps : List (List ℕ)). HaveStamps rule ps stamps) (sym same) c.stamps-2.ensures.allowed in
    let events : c.push_row.new.self.events ≡ b.journal_builder.events ++ row_events e (take count stamps) =
    c.push_row.ensures ∙ ap (λ (l : List ℕ). c.reserve_row.new.self.events ++ row_events e (take count l)) (c.stamps-3.ensures.same ∙ sym c.stamps-2.ensures.same)
    ∙ ap (λ (l : List Event). l ++ row_events e (take count stamps)) c.reserve_row.ensures.same in
    kept_row rule e b.numbers.items b.state next b.image.now b.targets.items b.journal_builder.events c.push_row.new.self.events b.marks.items paths (take count stamps) c.put.new.numbers.items
    c.self.invariant (have_take rule paths stamps count all) (omega (arith, some, taken)) c.sweep_row-count.ensures.row c.sweep_row-count.ensures.runs c.sweep_row-count.ensures.state events
    (c.put.ensures ∙ ap (λ (n : ℕ). slice_set b.numbers.items e (n - 1)) c.len-last.ensures)

pub returns-clause-ok : goal.returns-clause-ok
returns-clause-ok g c =
    let b = c.self.inside in
    let next = c.sweep_row-count.new.self in
    let e : ℕ = c.edge-edge.result in
    let count : ℕ = c.sweep_row-count.result in
    let stamps : List ℕ = c.stamps-2.result.now in
    let new : Progress = progress b.image.now b.targets.items next.run_state c.push_row.new.self.events b.marks.items in
    let events : c.push_row.new.self.events ≡ b.journal_builder.events ++ row_events e (take count stamps) =
    c.push_row.ensures ∙ ap (λ (l : List ℕ). c.reserve_row.new.self.events ++ row_events e (take count l)) (c.stamps-3.ensures.same ∙ sym c.stamps-2.ensures.same)
    ∙ ap (λ (l : List Event). l ++ row_events e (take count stamps)) c.reserve_row.ensures.same in
    let all : SweepsRow c.args.self.now new e (take count stamps) =
    all_so b.image.now b.targets.items b.state.run_state next.run_state b.journal_builder.events c.push_row.new.self.events b.marks.items b.marks.items c.args.self.now (row_events e (take count stamps)) (row_marks e (take count stamps))
    c.self.view_is c.sweep_row-count.ensures.runs events (row_leaves b.marks.items e (take count stamps)) in
    subst (λ (f : ℕ). SweepsRow c.args.self.now new f (take count c.args.row.now.stamps)) c.edge-edge.ensures
    (subst (λ (l : List ℕ). SweepsRow c.args.self.now new e (take count l)) c.stamps-2.ensures.same all)

pub returns-clause-awaited : goal.returns-clause-awaited
returns-clause-awaited g c some =
    let b = c.self.inside in
    let row = c.args.row.now in
    let old : Progress = c.args.self.now in
    let stamps : List ℕ = c.stamps-2.result.now in
    let count : ℕ = c.sweep_row-count.result in
    let taken : length (take count stamps) ≡ count = length-take-le count stamps c.sweep_row-count.ensures.most in
    let awaited : IsOpen old c.edge-edge.result c.number.result (Stat (get_or c.paths.result.now c.from.result [])) =
    row_open (progress b.image.now b.targets.items b.state.run_state b.journal_builder.events b.marks.items) old c.edge-edge.result c.number.result c.paths.result.now c.from.result (take count stamps) c.sweep_row-count.new.self.run_state
    c.self.view_is (omega (arith, some, taken)) c.sweep_row-count.ensures.row (c.is_numbered.ensures c.if-not-is_numbered.false) in
    let path : get_or c.paths.result.now c.from.result [] ≡ get_or row.paths row.from [] = ap (λ (n : ℕ). get_or c.paths.result.now n []) c.from.ensures ∙ ap (λ (ps : List (List ℕ)). get_or ps row.from []) c.paths.ensures in
    subst (λ (f : ℕ). IsOpen old f row.number (Stat (get_or row.paths row.from []))) c.edge-edge.ensures
    (subst (λ (n : ℕ). IsOpen old c.edge-edge.result n (Stat (get_or row.paths row.from []))) c.number.ensures
    (subst (λ (p : List ℕ). IsOpen old c.edge-edge.result c.number.result (Stat p)) path awaited))

pub returns-clause-asks : goal.returns-clause-asks
returns-clause-asks g c some =
    let b = c.self.inside in
    let stamps : List ℕ = c.stamps-2.result.now in
    let count : ℕ = c.sweep_row-count.result in
    let taken : length (take count stamps) ≡ count = length-take-le count stamps c.sweep_row-count.ensures.most in
    row_awaits b.image.now b.state.run_state c.sweep_row-count.new.self.run_state c.edge-edge.result c.args.row.now.edge (drop c.from.result c.paths.result.now) (take count stamps) (omega (arith, some, taken)) c.sweep_row-count.ensures.row c.edge-edge.ensures
