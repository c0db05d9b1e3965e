-- Chunks that others are appended to. Lemmas for src/chunks.rt.
use Rattle.std.proofs.Common.{◌≡◌, ℕ, ◌≤◌, List, [], ◌∷◌, ◌++◌, length, refl, ap, ◌∙◌, arith, length-append}
use Rattle.std.proofs.lemmas.List.{get_or_append_left}
use Rattle.std.proofs.lemmas.List.Elements.{All-head, All-tail, All-weaker}
use Rattle.plan_chunks.specs.Joining.{AreBelow, HasMore, IsBelow, Keeps, chunk_at, joined}

below_more : (a b : ℕ) (ns : List ℕ) → a ≤ b → AreBelow a ns → AreBelow b ns
below_more a b ns wide h = All-weaker (IsBelow a) (IsBelow b) (λ n lt. omega (arith, lt, wide)) ns h

joined_more : (chunks more : List (List ℕ)) (ns : List ℕ) → AreBelow (length chunks) ns → joined (chunks ++ more) ns ≡ joined chunks ns
joined_more chunks more [] h = refl
joined_more chunks more (n ∷ ns) h =
    let first = get_or_append_left chunks more [] n (All-head (IsBelow (length chunks)) n ns h) in
    let rest = joined_more chunks more ns (All-tail (IsBelow (length chunks)) n ns h) in
    ap (λ (t : List ℕ). t ++ joined (chunks ++ more) ns) first ∙ ap (λ (t : List ℕ). chunk_at chunks n ++ t) rest

-- Numbers stay valid when chunks are appended.
pub more_keeps : (before now : List (List ℕ)) → HasMore before now → Keeps before now
more_keeps before now more ns h =
    let grown = ap length more.1 ∙ length-append before more.0 in
    (below_more (length before) (length now) ns (omega (arith, grown)) h, ap (λ (cs : List (List ℕ)). joined cs ns) more.1 ∙ joined_more before more.0 ns h)
