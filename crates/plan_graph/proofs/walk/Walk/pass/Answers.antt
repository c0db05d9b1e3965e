use Rattle.std.proofs.Common.{◌≡◌, ◌++◌, ◌∷◌, ◌<◌, ◌∙◌, [], List, Some, ℕ, ap, arith, get_or, length, subst, sym}
use Rattle.std.specs.Prelude.{Contains, slice_get}
use Rattle.std.proofs.lemmas.Option.{slice_get_within}
use Rattle.std.proofs.lemmas.List.Elements.{Contains-get_or}
use Rattle.plan_graph.specs.Cycles.{Chain, WaitsFor}
use Rattle.plan_graph.specs.Walking.{DoneTo, State}
use Rattle.plan_graph.specs.declared.walk.Mark.TheVariants as mark
use Rattle.plan_graph.specs.declared.walk.Mark.TheVariants.{Open}
use Rattle.plan_graph.proofs.WalkLemmas.{all_done, chain_push, passes, top_open}
use Rattle.plan_graph.proofs.walk.Walk.pass.Goals as goal

pub returns-then-passed-row-clause-next : goal.returns-then-passed-row-clause-next
returns-then-passed-row-clause-next c =
    let w = c.self.inside in
    let row : c.row-row.result.now ≡ get_or w.waits.now c.args.top [] = c.row-row.ensures in
    let n = c.done_len-passed.result in
    let marks : DoneTo w.marks.items c.row-row.result.now n = subst (λ m. DoneTo m c.row-row.result.now n) c.deref.ensures.value c.done_len-passed.ensures.done in
    let all : DoneTo w.marks.items c.row-row.result.now (length c.row-row.result.now) = subst (DoneTo w.marks.items c.row-row.result.now) c.if-passed-row.true marks in
    all_done w.marks.items (get_or w.waits.now c.args.top []) (subst (λ (r : List ℕ). DoneTo w.marks.items r (length r)) row all)

pub invariant_of-self-2 : goal.invariant_of-self-2
invariant_of-self-2 c =
    let w = c.self.inside in
    let waits = w.waits.now in
    let top = c.args.top in
    let n = c.done_len-passed.result in
    let path : w.path.items ≡ c.requires.0 ++ top ∷ [] = ap (λ (s : State). s.path) c.self.view_is ∙ c.requires.1 in
    let o = top_open waits w.marks.items w.passed.items w.ranks.items w.path.items c.requires.0 top c.self.invariant.walk path in
    let inside : top < length w.marks.items = slice_get_within w.marks.items top Open o in
    let here : top < length waits = omega (arith, inside, c.self.invariant.walk.marked) in
    let long : length (get_or waits top []) ≡ length c.row-row.result.now = ap length (sym c.row-row.ensures) in
    let marks : DoneTo w.marks.items c.row-row.result.now n = subst (λ m. DoneTo m c.row-row.result.now n) c.deref.ensures.value c.done_len-passed.ensures.done in
    let done : DoneTo w.marks.items (get_or waits top []) n = subst (λ r. DoneTo w.marks.items r n) c.row-row.ensures marks in
    record {
      range = c.self.invariant.range;
      few = c.self.invariant.few;
      walk = passes waits w.marks.items w.passed.items w.ranks.items w.path.items top n c.self.invariant.walk here (omega (arith, c.done_len-passed.ensures.within, long)) done;
    }

pub returns-clause-next : goal.returns-clause-next
returns-clause-next c =
    let w = c.self.inside in
    let waits = w.waits.now in
    let top = c.args.top in
    let n = c.done_len-passed.result in
    let row = c.row-row.result.now in
    let next = get_or row n 0 in
    let path : w.path.items ≡ c.requires.0 ++ top ∷ [] = ap (λ (s : State). s.path) c.self.view_is ∙ c.requires.1 in
    let here : n < length row = omega (arith, c.done_len-passed.ensures.within, c.if-passed-row.false) in
    let waited : WaitsFor waits top next = subst (λ (r : List ℕ). Contains r next) c.row-row.ensures (Contains-get_or row n 0 here) in
    let chain = subst (Chain waits) path c.self.invariant.walk.chain in
    let undone = subst (λ m. slice_get m next ≡ Some mark.Done → ⊥) c.deref.ensures.value (c.done_len-passed.ensures.stops here) in (
      subst (λ (r : List ℕ). get_or r n 0 < length waits) (sym c.row-row.ensures) (c.self.invariant.range top n 0 (subst (λ (r : List ℕ). n < length r) c.row-row.ensures here)),
      undone,
      subst (λ (p : List ℕ). Chain waits (p ++ next ∷ [])) (sym path) (chain_push waits c.requires.0 top next chain waited),
    )
