-- The bytes that a sink took before a failure. Lemmas for src/sink.rt.
use Rattle.std.proofs.Common.{◌≡◌, ◌++◌, ℕ, ◌+◌, Bool, true, false, List, length, take, Option, sym, ap, subst, ◌∙◌, arith}
use Rattle.std.proofs.lemmas.List.{length-append, take-append-le}
use Rattle.std.proofs.KnownBytes.{Appends-kept, Appends-trans}
use Rattle.std.proofs.Math.Seq.{take-append-add}
use Rattle.std.specs.Io.KnownBytes.{Appends, Keeps}
use Rattle.plan_text.specs.Sinks.{AppendsFront, Writes}
use lib.Seq.{take-append_seam}

-- a failed write takes none of the rest of the bytes
pub stopped : (a b c : Option (List ℕ)) (done rest bytes : List ℕ) → done ++ rest ≡ bytes → Appends a b done → Keeps b c → AppendsFront a c bytes
stopped a b c done rest bytes e h k =
    let n = ap length e in
    let front : take (length done) bytes ≡ done = ap (take (length done)) (sym e) ∙ take-append_seam done rest in
    (length done, omega (arith, n, length-append done rest), subst (Appends a c) (sym front) (Appends-kept a b c done h k))

-- the front of some bytes is also a front of more bytes
front_longer : (a b : Option (List ℕ)) (xs ys : List ℕ) → AppendsFront a b xs → AppendsFront a b (xs ++ ys)
front_longer a b xs ys h =
    let n = length-append xs ys in
    (h.0, omega (arith, h.1, n), subst (Appends a b) (sym (take-append-le h.0 xs ys h.1)) h.2)

-- some bytes, followed by a front of the bytes after them
front_behind : (a b c : Option (List ℕ)) (xs ys : List ℕ) → Appends a b xs → AppendsFront b c ys → AppendsFront a c (xs ++ ys)
front_behind a b c xs ys h k =
    let n = length-append xs ys in
    (length xs + k.0, omega (arith, k.1, n), subst (Appends a c) (sym (take-append-add xs ys k.0)) (Appends-trans a b c xs (take k.0 ys) h k.2))

-- a write after a complete write counts as one write of the bytes of both
pub join : (well : Bool) (a b c : ℕ × Option (List ℕ)) (xs ys : List ℕ) → Writes true a b xs → Writes well b c ys → Writes well a c (xs ++ ys)
join true a b c xs ys h k = (k.0 ∙ h.0, Appends-trans a.1 b.1 c.1 xs ys h.1 k.1)
join false a b c xs ys h k = (k.0 ∙ ap (λ (n : ℕ). n + 1) h.0, front_behind a.1 b.1 c.1 xs ys h.1 k.1)

-- a failed write of some bytes also counts as a failed write of more bytes
pub failed : (a b : ℕ × Option (List ℕ)) (xs ys : List ℕ) → Writes false a b xs → Writes false a b (xs ++ ys)
failed a b xs ys h = (h.0, front_longer a.1 b.1 xs ys h.1)
