use Rattle.std.proofs.Common.{◌≡◌, ◌++◌, ◌∷◌, ◌+◌, ◌-◌, ◌<◌, [], ◌∙◌, List, Some, ℕ, ap, arith, get_or, length, set, subst, sym, take, vec_len}
use Rattle.std.specs.Prelude.{slice_get, slice_index}
use Rattle.std.proofs.lemmas.Option.{slice_get_within}
use Rattle.plan_graph.specs.Cycles.{rank_over}
use Rattle.plan_graph.specs.Walking.{AllDone, IsSound, IsWalk, KeepsMarks, State, left, pending}
use Rattle.plan_graph.specs.declared.walk.Mark.{Mark}
use Rattle.plan_graph.specs.declared.walk.Mark.TheVariants.{Done, Open}
use Rattle.plan_graph.proofs.WalkLemmas.{closes, done_not_new, done_of, left_done, length_end, marks_kept, take_end, top_open}
use Rattle.plan_graph.proofs.walk.Walk.close.Goals as goal

-- the last edge of a path is open
open_top : (waits : List (List ℕ)) (marks : List Mark) (passed ranks path front : List ℕ) (top : ℕ) (now : State) → IsSound waits marks passed ranks path
    → record { waits = waits; marks = marks; path = path } ≡ now → now.path ≡ front ++ top ∷ [] → slice_get marks top ≡ Some Open
open_top waits marks passed ranks path front top now sound view p = top_open waits marks passed ranks path front top sound.walk (ap (λ (s : State). s.path) view ∙ p)

pub index_mut-requires : goal.index_mut-requires
index_mut-requires c =
    let w = c.self.inside in
    let o = open_top w.waits.now w.marks.items w.passed.items w.ranks.items w.path.items c.requires.last.0 c.args.top c.args.self.now c.self.invariant c.self.view_is c.requires.last.1 in
    let within : c.args.top < length w.marks.items = slice_get_within w.marks.items c.args.top Open o in
    omega (arith, within, c.self.invariant.walk.marked, c.self.invariant.walk.ranked, w.ranks.ok)

pub index_mut-requires-2 : goal.index_mut-requires-2
index_mut-requires-2 c =
    let w = c.self.inside in
    let o = open_top w.waits.now w.marks.items w.passed.items w.ranks.items w.path.items c.requires.last.0 c.args.top c.args.self.now c.self.invariant c.self.view_is c.requires.last.1 in
    let within : c.args.top < length w.marks.items = slice_get_within w.marks.items c.args.top Open o in
    omega (arith, within, w.marks.ok)

pub rank_of-requires-clause-low : goal.rank_of-requires-clause-low
rank_of-requires-clause-low c k d lt =
    let w = c.self.inside in
    let all : AllDone w.marks.items (get_or w.waits.now c.args.top []) = subst (λ (s : State). AllDone s.marks (get_or s.waits c.args.top [])) (sym c.self.view_is) c.requires.done in
    let e = get_or c.row.result.now k d in
    let done : slice_get w.marks.items e ≡ Some Done = done_of w.marks.items c.row.result.now k d lt (subst (AllDone w.marks.items) (sym c.row.ensures) all) in
    let low : slice_index w.ranks.items e + pending w.marks.items < length w.marks.items = c.self.invariant.walk.low e done in
    subst (λ (r : List ℕ). slice_index r e + 1 < 4294967296) (sym c.deref.ensures.value) (omega (arith, low, c.self.invariant.few, c.self.invariant.walk.marked))

pub invariant_of-self : goal.invariant_of-self
invariant_of-self c =
    let w = c.self.inside in
    let waits = w.waits.now in
    let top = c.args.top in
    let front = c.requires.last.0 in
    let p : w.path.items ≡ front ++ top ∷ [] = ap (λ (s : State). s.path) c.self.view_is ∙ c.requires.last.1 in
    let done : AllDone w.marks.items (get_or waits top []) = subst (λ (s : State). AllDone s.marks (get_or s.waits top [])) (sym c.self.view_is) c.requires.done in
    let n : length w.path.items ≡ length front + 1 = ap length p ∙ length_end front top in
    let one_less : vec_len w.path - 1 ≡ length front = omega (arith, n, w.path.ok) in
    let rest : c.pop.new.self.items ≡ take (length front) w.path.items = c.pop.ensures.rest ∙ ap (λ (k : ℕ). take k w.path.items) one_less in
    let popped : c.pop.new.self.items ≡ front = rest ∙ (ap (take (length front)) p ∙ take_end front top) in
    let rank : c.rank_of.result ≡ rank_over w.ranks.items (get_or waits top [])
    = c.rank_of.ensures ∙ (ap (λ (r : List ℕ). rank_over r c.row.result.now) c.deref.ensures.value ∙ ap (rank_over w.ranks.items) c.row.ensures) in
    record {
      range = c.self.invariant.range;
      few = c.self.invariant.few;
      walk = subst (λ (q : List ℕ). IsWalk waits (set w.marks.items top Done) w.passed.items (set w.ranks.items top c.rank_of.result) q) (sym popped)
          (closes waits w.marks.items w.passed.items w.ranks.items w.path.items front top c.rank_of.result c.self.invariant.walk p done rank);
    }

pub returns : goal.returns
returns c =
    let w = c.self.inside in
    let marks = w.marks.items in
    let top = c.args.top in
    let o = open_top w.waits.now marks w.passed.items w.ranks.items w.path.items c.requires.last.0 top c.args.self.now c.self.invariant c.self.view_is c.requires.last.1 in
    let within : top < length marks = slice_get_within marks top Open o in
    record {
      same = ap (λ (s : State). s.waits) c.self.view_is;
      less = subst (λ (s : State). left (set marks top Done) < left s.marks) c.self.view_is (left_done marks top within o);
      kept = subst (λ (s : State). KeepsMarks s.marks (set marks top Done)) c.self.view_is (marks_kept marks top Done done_not_new);
    }
