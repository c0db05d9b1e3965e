use Rattle.std.proofs.Common.{◌≡◌, ◌<◌, ◌∙◌, Bool, true, false, List, ap, arith, get_or, length, sym}
use Rattle.std.specs.Prelude.{slice_set}
use Rattle.plan_status.specs.Trues.{trues}
use Rattle.plan_status.proofs.TruesLemmas.{flag_high, flag_low, trues_down, trues_fewer, trues_up}
use Rattle.plan_status.proofs.consoles.Consoles.set.Goals as goal

pub overflow_add-self : goal.overflow_add-self
overflow_add-self c =
    let items : List Bool = c.args.self.now.holding.items in
    let was : get_or items c.args.edge false ≡ c.flag_at.result = ap (λ (xs : List Bool). get_or xs c.args.edge false) (sym c.deref.ensures.value) ∙ sym c.flag_at.ensures in
    let low : get_or items c.args.edge false ≡ false = was ∙ flag_low c.flag_at.result c.args.holds c.if-flag_at-holds.false c.if-holds.true in
    let within : c.args.edge < length items = omega (arith, c.if-at-len.false, c.len.ensures, c.args.self.now.holding.ok.0) in
    let fewer = trues_fewer items c.args.edge within low in
    let long : length c.deref.result.now ≡ length items = ap length c.deref.ensures.value in
    omega (arith, fewer, c.requires, long, c.deref.type_inv.0)

pub overflow_sub-self : goal.overflow_sub-self
overflow_sub-self c =
    let items : List Bool = c.args.self.now.holding.items in
    let was : get_or items c.args.edge false ≡ c.flag_at.result = ap (λ (xs : List Bool). get_or xs c.args.edge false) (sym c.deref.ensures.value) ∙ sym c.flag_at.ensures in
    let down = trues_down items c.args.edge (was ∙ flag_high c.flag_at.result c.args.holds c.if-flag_at-holds.false c.if-holds.false) in
    omega (arith, down, c.requires)

pub returns-then-holds-clause-held : goal.returns-then-holds-clause-held
returns-then-holds-clause-held c =
    let items : List Bool = c.args.self.now.holding.items in
    let was : get_or items c.args.edge false ≡ c.flag_at.result = ap (λ (xs : List Bool). get_or xs c.args.edge false) (sym c.deref.ensures.value) ∙ sym c.flag_at.ensures in
    let low : get_or items c.args.edge false ≡ false = was ∙ flag_low c.flag_at.result c.args.holds c.if-flag_at-holds.false c.if-holds.true in
    let within : c.args.edge < length items = omega (arith, c.if-at-len.false, c.len.ensures, c.args.self.now.holding.ok.0) in
    let up = trues_up items c.args.edge within low in
    let new : trues c.put.new.flags.items ≡ trues (slice_set items c.args.edge true) = ap trues c.put.ensures ∙ ap (λ (b : Bool). trues (slice_set items c.args.edge b)) c.if-holds.true in
    omega (arith, up, new, c.requires)

pub returns-else-holds-clause-held : goal.returns-else-holds-clause-held
returns-else-holds-clause-held c =
    let items : List Bool = c.args.self.now.holding.items in
    let was : get_or items c.args.edge false ≡ c.flag_at.result = ap (λ (xs : List Bool). get_or xs c.args.edge false) (sym c.deref.ensures.value) ∙ sym c.flag_at.ensures in
    let down = trues_down items c.args.edge (was ∙ flag_high c.flag_at.result c.args.holds c.if-flag_at-holds.false c.if-holds.false) in
    let new : trues c.put.new.flags.items ≡ trues (slice_set items c.args.edge false) = ap trues c.put.ensures ∙ ap (λ (b : Bool). trues (slice_set items c.args.edge b)) c.if-holds.false in
    omega (arith, down, new, c.requires)
