use Rattle.std.proofs.Common.{◌≡◌, ◌≤◌, ◌+◌, ◌∷◌, ◌++◌, [], ℕ, arith, get_or, refl, subst, sym, take}
use Rattle.std.proofs.lemmas.List.{length-take-le, take_more}
use Rattle.plan_machine.specs.declared.event.Mark.{Mark as Told}
use Rattle.plan_machine.specs.declared.event.Mark.TheVariants.{Started}
use Rattle.plan_status.specs.declared.consoles.Consoles.{Consoles}
use Rattle.plan_status.specs.Consoles.{AreFree, AreNoted, HasLooked}
use Rattle.plan_status.proofs.ConsolesLemmas.{looked_free, looked_held}
use Rattle.plan_status.proofs.consoles.Consoles.look.Goals as goal
use Rattle.plan_status.proofs.consoles.Consoles.look.Goals.{then-self-eq0, else-self-eq0}

pub loop-at-preserved : goal.loop-at-preserved
loop-at-preserved c =
    let p = c.args.parts.now in
    let marks = c.args.marks.now in
    let i = c.loop-at.at in
    let so_far = c.loop-at.invariant in
    let x : Told = get_or marks i (Started 0) in
    let one : take (i + 1) marks ≡ take i marks ++ x ∷ [] = take_more marks i (Started 0) c.loop-at-test.true in
    let before : AreNoted p (take i marks) c.loop-at.self = subst (λ (n : ℕ). AreNoted p (take n marks) c.loop-at.self) so_far.1 so_far.0.noted in
    let were : AreFree p (take i marks) c.loop-at.self.free = subst (λ (n : ℕ). AreFree p (take n marks) c.loop-at.self.free) so_far.1 so_far.0.free in
    let noted : AreNoted p (take i marks ++ x ∷ []) c.note.new.self = c.note.ensures.noted (take i marks) before in
    let lt = c.loop-at-test.true in
    let from = so_far.2 in
    let kept = c.note.ensures.same.1 in
    let few = were.within in
    let long = length-take-le i marks (omega (arith, lt)) in
    let all : Consoles = record { holding = c.note.new.self.holding; held = c.note.new.self.held; looked = i + 1; free = i + 1 } in
    let some : Consoles = record { holding = c.note.new.self.holding; held = c.note.new.self.held; looked = i + 1; free = c.note.new.self.free } in
    elim c.if-self-eq0.branch [
      | then-self-eq0 w ↦ subst (λ (s : Consoles). HasLooked p marks s × (s.looked ≡ i + 1) × (c.args.self.now.free ≤ s.free)) (sym w.self-is)
          (looked_free p marks i x c.note.new.self all lt one noted refl refl w.if-self-eq0.true refl refl, refl, omega (arith, from, few, long))
      | else-self-eq0 w ↦ subst (λ (s : Consoles). HasLooked p marks s × (s.looked ≡ i + 1) × (c.args.self.now.free ≤ s.free)) (sym w.self-is)
          (looked_held p marks i c.loop-at.self.free x c.note.new.self some lt one noted were refl refl w.if-self-eq0.false refl kept, refl, omega (arith, from, kept))
    ]
