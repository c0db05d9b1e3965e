use Rattle.std.proofs.Common.{◌≡◌, ◌∷◌, List, ℕ, sym, subst}
use Rattle.plan_trace.specs.Words.{pairs_of}
use Rattle.plan_trace.proofs.WordsLemmas.{behind, byte_more}
use Rattle.plan_trace.proofs.hex.pairs_of.Goals as goal

pub loop-high-preserved : goal.loop-high-preserved
loop-high-preserved c =
    let digits = c.args.digits.now in
    let bytes = c.loop-high.bytes.items in
    let high = c.in-Some.high in
    let low = c.in-Some.low in
    let rest = c.in-Some.behind.now in
    let so_far : behind bytes (pairs_of (high ∷ low ∷ rest)) ≡ pairs_of digits
    = subst (λ (ds : List ℕ). behind bytes (pairs_of ds) ≡ pairs_of digits) c.in-Some.ensures.some c.loop-high.invariant in
    let more = byte_more bytes high low c.in-Some-byte_of.byte rest (pairs_of digits) c.in-Some-byte_of.ensures so_far in
    subst (λ (bs : List ℕ). behind bs (pairs_of rest) ≡ pairs_of digits) (sym c.in_ok-push-in-Some-byte_of.ensures.items) more
