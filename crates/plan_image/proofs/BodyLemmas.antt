-- A code is its body with its numbers filled in, and the instruction at each of its places.
use Rattle.std.proofs.Common.{◌≡◌, ℕ, zero, suc, ◌+◌, List, [], ◌∷◌, ◌++◌, length, get_or, drop, Option, Some, refl, sym, ap, ◌∙◌, arith}
use Rattle.std.specs.Prelude.{slice_get, ◌≤◌, ◌^◌, None}
use Rattle.plan_image.specs.Code.{body, instrs_of}
use Rattle.plan_image.specs.Columns.{code_by, instr_with, instrs_by}
use Rattle.plan_image.specs.Spelling.{most_code}
use Rattle.plan_image.proofs.ColumnLemmas.{length_by}
use Rattle.std.proofs.lemmas.List.{get_or-drop}
use Rattle.plan_image.specs.declared.body.Instr.{Instr}
use Rattle.plan_image.specs.declared.body.Instr.TheVariants as op
use Rattle.plan_image.specs.declared.body.BodyInstr.{BodyInstr}
use Rattle.plan_image.specs.declared.body.BodyInstr.TheVariants as member
use Rattle.plan_image.specs.Spelling.{BodiesHaveSpelling, BodyInstrFits, InstrFits}
use Rattle.plan_image.specs.Bodies.{opens, put, with_operands, ranks_from, leave_open, open_operand, body_of, operands_of, IsSplit, instr_with_rank}

split_one : (i : Instr) (is : List Instr) → with_operands (body_of is) (operands_of is) ≡ is → with_operands (leave_open i ∷ body_of is) (open_operand i ++ operands_of is) ≡ i ∷ is
split_one op.End is e = ap (λ (xs : List Instr). op.End ∷ xs) e
split_one (op.Stat n) is e = ap (λ (xs : List Instr). op.Stat n ∷ xs) e
split_one (op.Need n) is e = ap (λ (xs : List Instr). op.Need n ∷ xs) e
split_one (op.Load n) is e = ap (λ (xs : List Instr). op.Load n ∷ xs) e
split_one (op.Store n) is e = ap (λ (xs : List Instr). op.Store n ∷ xs) e
split_one (op.Text n) is e = ap (λ (xs : List Instr). op.Text n ∷ xs) e
split_one op.Older is e = ap (λ (xs : List Instr). op.Older ∷ xs) e
split_one op.Newer is e = ap (λ (xs : List Instr). op.Newer ∷ xs) e
split_one op.Before is e = ap (λ (xs : List Instr). op.Before ∷ xs) e
split_one op.Same is e = ap (λ (xs : List Instr). op.Same ∷ xs) e
split_one op.IsMissing is e = ap (λ (xs : List Instr). op.IsMissing ∷ xs) e
split_one op.Or is e = ap (λ (xs : List Instr). op.Or ∷ xs) e
split_one op.Not is e = ap (λ (xs : List Instr). op.Not ∷ xs) e
split_one (op.Flag b) is e = ap (λ (xs : List Instr). op.Flag b ∷ xs) e
split_one op.Zero is e = ap (λ (xs : List Instr). op.Zero ∷ xs) e
split_one op.NoPaths is e = ap (λ (xs : List Instr). op.NoPaths ∷ xs) e
split_one op.Join is e = ap (λ (xs : List Instr). op.Join ∷ xs) e
split_one op.Equal is e = ap (λ (xs : List Instr). op.Equal ∷ xs) e
split_one op.Recall is e = ap (λ (xs : List Instr). op.Recall ∷ xs) e
split_one op.Sweep is e = ap (λ (xs : List Instr). op.Sweep ∷ xs) e
split_one (op.Jump d) is e = ap (λ (xs : List Instr). op.Jump d ∷ xs) e
split_one (op.JumpIf d) is e = ap (λ (xs : List Instr). op.JumpIf d ∷ xs) e
split_one op.Take is e = ap (λ (xs : List Instr). op.Take ∷ xs) e
split_one op.Release is e = ap (λ (xs : List Instr). op.Release ∷ xs) e
split_one op.Run is e = ap (λ (xs : List Instr). op.Run ∷ xs) e
split_one op.Deps is e = ap (λ (xs : List Instr). op.Deps ∷ xs) e
split_one op.Keep is e = ap (λ (xs : List Instr). op.Keep ∷ xs) e
split_one op.Drop is e = ap (λ (xs : List Instr). op.Drop ∷ xs) e
split_one op.Swap is e = ap (λ (xs : List Instr). op.Swap ∷ xs) e

count_one : (i : Instr) (is : List Instr) → length (operands_of is) ≡ opens (body_of is) → length (open_operand i ++ operands_of is) ≡ opens (leave_open i ∷ body_of is)
count_one op.End is e = e
count_one op.Older is e = e
count_one op.Newer is e = e
count_one op.Before is e = e
count_one op.Same is e = e
count_one op.IsMissing is e = e
count_one op.Or is e = e
count_one op.Not is e = e
count_one op.Zero is e = e
count_one op.NoPaths is e = e
count_one op.Join is e = e
count_one op.Equal is e = e
count_one op.Recall is e = e
count_one op.Sweep is e = e
count_one op.Take is e = e
count_one op.Release is e = e
count_one op.Run is e = e
count_one op.Deps is e = e
count_one op.Keep is e = e
count_one op.Drop is e = e
count_one op.Swap is e = e
count_one (op.Flag b) is e = e
count_one (op.Jump d) is e = e
count_one (op.JumpIf d) is e = e
count_one (op.Stat n) is e = ap suc e
count_one (op.Need n) is e = ap suc e
count_one (op.Load n) is e = ap suc e
count_one (op.Store n) is e = ap suc e
count_one (op.Text n) is e = ap suc e

pub split_is : IsSplit
split_is [] = (refl, refl)
split_is (i ∷ is) = let more = split_is is in (split_one i is more.0, count_one i is more.1)

pub filled_len : (is : List BodyInstr) (ns : List ℕ) → length (with_operands is ns) ≡ length is
filled_len [] ns = refl
filled_len (member.Fixed i ∷ is) ns = ap suc (filled_len is ns)
filled_len (member.Open o ∷ is) ns = ap suc (filled_len is (drop 1 ns))

more_dropped : (ns : List ℕ) (k : ℕ) → drop 1 (drop k ns) ≡ drop (k + 1) ns
more_dropped ns zero = refl
more_dropped [] (suc k) =
    let e : suc k + 1 ≡ suc (k + 1) = omega arith in
    rw e refl
more_dropped (n ∷ ns) (suc k) =
    let e : suc k + 1 ≡ suc (k + 1) = omega arith in
    rw e (more_dropped ns k)

first_is : (ns : List ℕ) (k : ℕ) → get_or (drop k ns) 0 0 ≡ get_or ns k 0
first_is ns k =
    let e : k + 0 ≡ k = omega arith in
    rw (get_or-drop, e) refl

pub seen_at : (ns : List ℕ) (is : List BodyInstr) (place k : ℕ) → slice_get (with_operands is (drop k ns)) place ≡ instr_with_rank ns (slice_get is place) (get_or (ranks_from k is) place 0)
seen_at ns [] place k = refl
seen_at ns (member.Fixed i ∷ is) zero k = refl
seen_at ns (member.Fixed i ∷ is) (suc place) k = seen_at ns is place k
seen_at ns (member.Open o ∷ is) zero k = ap (λ n. Some (put o n)) (first_is ns k)
seen_at ns (member.Open o ∷ is) (suc place) k = ap (λ (xs : List ℕ). slice_get (with_operands is xs) place) (more_dropped ns k) ∙ seen_at ns is place (k + 1)

pub instr_is_found : (is : List BodyInstr) (ns : List ℕ) (place : ℕ) (o : Option BodyInstr) (ranks : List ℕ) (rank : ℕ) (result : Option Instr)
    → result ≡ instr_with_rank ns o rank → o ≡ slice_get is place → rank ≡ get_or ranks place 0 → ranks ≡ ranks_from 0 is → result ≡ slice_get (with_operands is ns) place
instr_is_found is ns place o ranks rank result e eo er ek = e ∙ rw (eo, er, ek) (sym (seen_at ns is place 0))

-- the most instructions of a code of its own, and of one that shares a body
pub own_most : (bs : Option (List (List BodyInstr))) (used : ℕ) (os ns : List ℕ) → bs ≡ None → used + length os ≤ 2 ^ 24 → used + length (instrs_by os ns) ≤ most_code bs
own_most None used os ns is h = omega (arith, h, length_by (instr_with ns) 0 os)
own_most (Some bs) used os ns is h = absurd cc

pub shared_most : (bs : Option (List (List BodyInstr))) (those : List (List BodyInstr)) (used n : ℕ) (os ns : List ℕ) → bs ≡ Some those → used + length (body (Some those) n) ≤ 2 ^ 26
    → used + length (instrs_of bs (code_by (Some n) os ns)) ≤ most_code bs
shared_most None those used n os ns is h = absurd cc
shared_most (Some bs) those used n os ns is h =
    let same : bs ≡ those = cc in
    let long : length (with_operands (body (Some bs) n) ns) ≡ length (body (Some those) n) = filled_len (body (Some bs) n) ns ∙ ap (λ (ys : List (List BodyInstr)). length (body (Some ys) n)) same in
    omega (arith, h, long)

pub most_small : (bs : Option (List (List BodyInstr))) → most_code bs ≤ 2 ^ 26
most_small None = omega arith
most_small (Some bs) = omega arith

one_fits : (i : Instr) → InstrFits i → BodyInstrFits (leave_open i)
one_fits op.End fits = (refl, fits)
one_fits op.Older fits = (refl, fits)
one_fits op.Newer fits = (refl, fits)
one_fits op.Before fits = (refl, fits)
one_fits op.Same fits = (refl, fits)
one_fits op.IsMissing fits = (refl, fits)
one_fits op.Or fits = (refl, fits)
one_fits op.Not fits = (refl, fits)
one_fits op.Zero fits = (refl, fits)
one_fits op.NoPaths fits = (refl, fits)
one_fits op.Join fits = (refl, fits)
one_fits op.Equal fits = (refl, fits)
one_fits op.Recall fits = (refl, fits)
one_fits op.Sweep fits = (refl, fits)
one_fits op.Take fits = (refl, fits)
one_fits op.Release fits = (refl, fits)
one_fits op.Run fits = (refl, fits)
one_fits op.Deps fits = (refl, fits)
one_fits op.Keep fits = (refl, fits)
one_fits op.Drop fits = (refl, fits)
one_fits op.Swap fits = (refl, fits)
one_fits (op.Flag b) fits = (refl, fits)
one_fits (op.Jump d) fits = (refl, fits)
one_fits (op.JumpIf d) fits = (refl, fits)
one_fits (op.Stat n) fits = tt
one_fits (op.Need n) fits = tt
one_fits (op.Load n) fits = tt
one_fits (op.Store n) fits = tt
one_fits (op.Text n) fits = tt

-- a body has a spelling if its code's instructions have one
pub bodies_fit : BodiesHaveSpelling
bodies_fit [] fits = tt
bodies_fit (i ∷ is) fits = (one_fits i fits.0, bodies_fit is fits.1)
