use Rattle.std.proofs.Common.{◌≡◌, ◌≤◌, ◌++◌, ◌+◌, ◌-◌, ℕ, List, length, take, drop, ap, sym, subst, ◌∙◌, arith}
use Rattle.std.proofs.KnownBytes.{Appends-trans}
use Rattle.std.proofs.lemmas.List.{take_rest, length-drop}
use Rattle.std.proofs.Math.Seq.{take-add}
use Rattle.std.specs.Io.KnownBytes.{Appends}
use Rattle.plan_record.proofs.spelling.write_bytes.Goals as goal

pub loop-written-preserved : goal.loop-written-preserved
loop-written-preserved g c =
    let bytes = c.args.bytes.now in
    let written = c.loop-written.written in
    let n = c.in-Ok.n in
    let rest : take (length bytes - written) (drop written bytes) ≡ drop written bytes = take_rest bytes written in
    let bound : n ≤ length (drop written bytes) = subst (λ (b : List ℕ). n ≤ length b) rest c.in-Ok.ensures.bound in
    let more : take (written + n) bytes ≡ take written bytes ++ take n (take (length bytes - written) (drop written bytes)) =
    take-add written n bytes ∙ ap (λ (b : List ℕ). take written bytes ++ take n b) (sym rest) in
    record {
      within = omega (arith, bound, length-drop written bytes, c.loop-written.invariant.within);
      kept = c.in-Ok.ensures.failures ∙ c.loop-written.invariant.kept;
      taken = subst (Appends _ _) (sym more) (Appends-trans _ _ _ (take written bytes) _ c.loop-written.invariant.taken c.in-Ok.ensures.taken);
    }
