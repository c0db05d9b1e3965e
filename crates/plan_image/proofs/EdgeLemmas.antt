-- Edges and their code are read as they were written, in both versions.
use Rattle.std.proofs.Common.{◌≡◌, ℕ, zero, suc, ◌+◌, ◌-◌, ◌^◌, ◌<◌, ◌≤◌, ltb, List, [], ◌∷◌, ◌++◌, length, Option, Some, None, Ok, refl, sym, ap, subst, ◌∙◌, append_assoc, arith}
use Rattle.std.specs.Prelude.{slice_get}
use Rattle.std.specs.Int.{w32}
use Rattle.std.specs.List.{flat_map, AllByRecursion}
use Rattle.std.proofs.lemmas.Bool.{ltb-false, le-ltb}
use Rattle.plan_image.specs.declared.fault.Cause.TheVariants as cause
use Rattle.plan_image.specs.declared.body.BodyInstr.{BodyInstr}
use Rattle.plan_image.specs.declared.image.Edge.{Edge}
use Rattle.plan_image.specs.declared.image.EdgeCode.{EdgeCode}
use Rattle.plan_image.specs.declared.image.EdgeCode.TheVariants as code_form
use Rattle.plan_image.specs.Bodies.{opens, with_operands}
use Rattle.plan_image.specs.Code.{body, instrs_of, HasBody}
use Rattle.plan_image.specs.Spelling.{counted, number, instr, IsWord, AscendsFrom, EdgeFits, CodeFits, sort_byte, pool_number, edge_code, edge, instructions, most_code}
use Rattle.plan_image.specs.Reading.{◌>>=◌, number_at, pool_of, instr_at, own_code_at, filling_at, shared_code_at, code_at, items_at, edge_at, edges_at, used_after}
use Rattle.plan_image.proofs.BodyLemmas.{filled_len}
use Rattle.plan_image.proofs.ItemLemmas.{Takes, Takes-then, bind_ok, ok_is, AllFrom, items_take, items_again}
use Rattle.plan_image.proofs.FieldLemmas.{IsReader, opens as begins, passes, wide32, word_law, up_to_law, numbers_law, ascending_law, counted_takes, counted_again, each_fits}
use Rattle.plan_image.proofs.CodeLemmas.{sort_law, instr_law}

-- ---- fields in a row

pub regroup7 : (a b c d e f g rest : List ℕ) → (a ++ b ++ c ++ d ++ e ++ f ++ g) ++ rest ≡ a ++ (b ++ (c ++ (d ++ (e ++ (f ++ (g ++ rest))))))
regroup7 a b c d e f g rest = simp append_assoc

pub Takes7 : (r0 a r1 b r2 c r3 d r4 e r5 f r6 g r7 : List ℕ) → Takes r0 a r1 → Takes r1 b r2 → Takes r2 c r3 → Takes r3 d r4 → Takes r4 e r5 → Takes r5 f r6 → Takes r6 g r7 → Takes r0 (a ++ b ++ c ++ d ++ e ++ f ++ g) r7
Takes7 r0 a r1 b r2 c r3 d r4 e r5 f r6 g r7 ta tb tc td te tf tg =
    Takes-then r0 (a ++ b ++ c ++ d ++ e ++ f) r6 g r7 (Takes-then r0 (a ++ b ++ c ++ d ++ e) r5 f r6 (Takes-then r0 (a ++ b ++ c ++ d) r4 e r5 (Takes-then r0 (a ++ b ++ c) r3 d r4 (Takes-then r0 (a ++ b) r2 c r3 (Takes-then r0 a r1 b r2 ta tb) tc) td) te) tf) tg

-- ---- the code of an edge

-- a code, if the edges before it have `used` instructions
pub record CodeAfter (bs : Option (List (List BodyInstr))) (used : ℕ) (c : EdgeCode) : Type 0 where
  pub most : length (instrs_of bs c) ≤ most_code bs - used
  pub fits : CodeFits c
  pub filled : HasBody bs c

pub own_code_law : (used : ℕ) → IsReader (own_code_at used) edge_code (CodeAfter None used)
unfolding own_code_at
own_code_law used = record {
  takes = λ bytes x fits e.
      let a = begins (up_to_law w32 (2 ^ 32) (2 ^ 24 - used) wide32) (λ n. items_at (λ (s : Unit {0}). instr_at) (λ s x. s) tt n.0 n.1 >>= λ is. Ok (code_form.Own is.0, is.1)) bytes x fits e in
      let n = bind_ok (items_at (λ (s : Unit {0}). instr_at) (λ s x. s) tt a.0.0 a.0.1) (λ is. Ok (code_form.Own is.0, is.1)) x a.3 in
      let b = counted_takes instr_law bytes a.0 n.0 a.1 n.1 in
      let made : EdgeCode × List ℕ = (code_form.Own n.0.0, n.0.1) in
      subst (λ (p : EdgeCode × List ℕ). Takes bytes (edge_code p.0) p.1 × CodeAfter None used p.0) (ok_is made x n.2)
      (b.0, record { most = rw b.1 a.2.0; fits = (rw b.1 a.2.1, b.2); filled = tt });
  again = own_again;
} where
  own_again : (c : EdgeCode) (rest : List ℕ) → CodeAfter None used c → own_code_at used (edge_code c ++ rest) ≡ Ok (c, rest)
  own_again (code_form.Own xs) rest fits =
      ap (own_code_at used) (append_assoc (number (length xs)) (flat_map instr xs) rest)
      ∙ rw ((up_to_law w32 (2 ^ 32) (2 ^ 24 - used) wide32).again (length xs) (flat_map instr xs ++ rest) (fits.most, fits.fits.0), counted_again instr_law xs rest fits.fits.1) refl
  own_again (code_form.Shared n ns) rest fits = absurd fits.filled

found_in : (bs : List (List BodyInstr)) (n : ℕ) (b : List BodyInstr) → slice_get bs n ≡ Some b → n < length bs
found_in [] n b e = absurd cc
found_in (x ∷ bs) zero b e = omega arith
found_in (x ∷ bs) (suc n) b e = omega (arith, found_in bs n b e)

body_found : (bs : List (List BodyInstr)) (n : ℕ) → n < length bs → slice_get bs n ≡ Some (body (Some bs) n)
body_found [] n lt = absurd (omega (arith, lt))
body_found (x ∷ bs) zero lt = refl
body_found (x ∷ bs) (suc n) lt = body_found bs n (omega (arith, lt))

module _ (bs : List (List BodyInstr)) (used : ℕ) where
  filling_takes : (n : ℕ) (o : Option (List BodyInstr)) (bytes rest : List ℕ) (x : EdgeCode × List ℕ) → slice_get bs n ≡ o → Takes bytes (number n) rest → IsWord n → filling_at used n o bytes rest ≡ Ok x
      → Takes bytes (edge_code x.0) x.1 × CodeAfter (Some bs) used x.0
  filling_takes n None bytes rest x is t w e = absurd cc
  filling_takes n (Some b) bytes rest x is t w e =
      let c = passes (ltb (2 ^ 26 - used) (length b)) cause.Limit bytes (λ _. items_at (λ (s : Unit {0}). number_at w32) (λ s x. s) tt (opens b) rest >>= λ ns. Ok (code_form.Shared n ns.0, ns.1)) x e in
      let m = bind_ok (items_at (λ (s : Unit {0}). number_at w32) (λ s x. s) tt (opens b) rest) (λ ns. Ok (code_form.Shared n ns.0, ns.1)) x c.1 in
      let it = items_take (λ (s : Unit {0}). number_at w32) (λ s x. s) number (λ s x. IsWord x) (λ s bytes x fits e. word_law.takes bytes x fits e) (opens b) tt rest m.0 t.rest_fits m.1 in
      let le : length b ≤ 2 ^ 26 - used = ltb-false _ _ c.0 in
      let same : body (Some bs) n ≡ b = rw is refl in
      let len : length (with_operands (body (Some bs) n) m.0.0) ≡ length b = filled_len (body (Some bs) n) m.0.0 ∙ ap (λ (y : List BodyInstr). length y) same in
      let made : EdgeCode × List ℕ = (code_form.Shared n m.0.0, m.0.1) in
      subst (λ (p : EdgeCode × List ℕ). Takes bytes (edge_code p.0) p.1 × CodeAfter (Some bs) used p.0) (ok_is made x m.2) (
        Takes-then bytes (number n) rest (flat_map number m.0.0) m.0.1 t it.0,
        record { most = rw len le; fits = (w, each_fits (number_at w32) number IsWord m.0.0 it.2); filled = (found_in bs n b is, it.1 ∙ ap opens (sym same)) },
      )

  pub shared_code_law : IsReader (shared_code_at bs used) edge_code (CodeAfter (Some bs) used)
  unfolding shared_code_at
  shared_code_law = record {
    takes = λ bytes x fits e.
        let a = begins word_law (λ n. filling_at used n.0 (slice_get bs n.0) bytes n.1) bytes x fits e in
        filling_takes a.0.0 (slice_get bs a.0.0) bytes a.0.1 x refl a.1 a.2 a.3;
    again = shared_again;
  } where
    shared_again : (c : EdgeCode) (rest : List ℕ) → CodeAfter (Some bs) used c → shared_code_at bs used (edge_code c ++ rest) ≡ Ok (c, rest)
    shared_again (code_form.Own xs) rest fits = absurd fits.filled
    shared_again (code_form.Shared n ns) rest fits =
        let b : List BodyInstr = body (Some bs) n in
        let le : length b ≤ 2 ^ 26 - used = omega (arith, fits.most, filled_len b ns) in
        let items : items_at (λ (s : Unit {0}). number_at w32) (λ s x. s) tt (opens b) (flat_map number ns ++ rest) ≡ Ok (ns, rest) =
        subst (λ (k : ℕ). items_at (λ (s : Unit {0}). number_at w32) (λ s x. s) tt k (flat_map number ns ++ rest) ≡ Ok (ns, rest)) fits.filled.1 (counted_again word_law ns rest fits.fits.1) in
        ap (shared_code_at bs used) (append_assoc (number n) (flat_map number ns) rest)
        ∙ rw (word_law.again n (flat_map number ns ++ rest) fits.fits.0, body_found bs n fits.filled.0, le-ltb (2 ^ 26 - used) (length b) le, items) refl

pub code_law : (bs : Option (List (List BodyInstr))) (used : ℕ) → IsReader (code_at bs used) edge_code (CodeAfter bs used)
code_law None used = own_code_law used
code_law (Some bs) used = shared_code_law bs used

-- ---- edges

pub pool_back : (n : ℕ) → pool_number (pool_of n) ≡ n
pool_back zero = refl
pool_back (suc n) = omega arith

pub pool_again : (o : Option ℕ) → pool_of (pool_number o) ≡ o
pool_again None = refl
pool_again (Some n) =
    let e : n + 1 ≡ suc n = omega arith in
    rw e refl

-- an edge, if the edges before it have `used` instructions
pub record FitsAfter (bs : Option (List (List BodyInstr))) (used : ℕ) (x : Edge) : Type 0 where
  pub fits : EdgeFits x
  pub waits : AscendsFrom 0 x.waits
  pub code : CodeAfter bs used x.code

pub edge_law : (bs : Option (List (List BodyInstr))) (used : ℕ) → IsReader (edge_at bs used) edge (FitsAfter bs used)
unfolding edge_at
edge_law bs used = record {
  takes = λ bytes x fits e.
      let a = begins sort_law _ bytes x fits e in
      let b = begins word_law _ a.0.1 x a.1.rest_fits a.3 in
      let c = begins word_law _ b.0.1 x b.1.rest_fits b.3 in
      let d = begins word_law _ c.0.1 x c.1.rest_fits c.3 in
      let o = begins numbers_law _ d.0.1 x d.1.rest_fits d.3 in
      let w = begins ascending_law _ o.0.1 x o.1.rest_fits o.3 in
      let k = begins (code_law bs used) _ w.0.1 x w.1.rest_fits w.3 in
      let made : Edge × List ℕ = (record { sort = a.0.0; pool = pool_of b.0.0; rank = c.0.0; label = d.0.0; outputs = o.0.0; waits = w.0.0; code = k.0.0 }, k.0.1) in
      let t6 = Takes7 bytes (sort_byte a.0.0 ∷ []) a.0.1 (number b.0.0) b.0.1 (number c.0.0) c.0.1 (number d.0.0) d.0.1 (counted number o.0.0) o.0.1 (counted number w.0.0) w.0.1 (edge_code k.0.0) k.0.1 a.1 b.1 c.1 d.1 o.1 w.1 k.1 in
      let t7 = subst (λ (n : ℕ). Takes bytes (sort_byte a.0.0 ∷ number n ++ number c.0.0 ++ number d.0.0 ++ counted number o.0.0 ++ counted number w.0.0 ++ edge_code k.0.0) k.0.1) (sym (pool_back b.0.0)) t6 in
      subst (λ (p : Edge × List ℕ). Takes bytes (edge p.0) p.1 × FitsAfter bs used p.0) (ok_is made x k.3)
      (t7, record { fits = record { pool = rw pool_back b.2; rank = c.2; label = d.2; outputs = o.2; waits = w.2.0; code = k.2.fits }; waits = w.2.1; code = k.2 });
  again = λ x rest fits.
      let regrouped : edge x ++ rest ≡ (sort_byte x.sort ∷ []) ++ (number (pool_number x.pool) ++ (number x.rank ++ (number x.label ++ (counted number x.outputs ++ (counted number x.waits ++ (edge_code x.code ++ rest)))))) = regroup7 (sort_byte x.sort ∷ []) (number (pool_number x.pool)) (number x.rank) (number x.label) (counted number x.outputs) (counted number x.waits) (edge_code x.code) rest in
      ap (edge_at bs used) regrouped
      ∙ rw (
        sort_law.again x.sort (number (pool_number x.pool) ++ (number x.rank ++ (number x.label ++ (counted number x.outputs ++ (counted number x.waits ++ (edge_code x.code ++ rest)))))) tt,
        word_law.again (pool_number x.pool) (number x.rank ++ (number x.label ++ (counted number x.outputs ++ (counted number x.waits ++ (edge_code x.code ++ rest))))) fits.fits.pool,
        word_law.again x.rank (number x.label ++ (counted number x.outputs ++ (counted number x.waits ++ (edge_code x.code ++ rest)))) fits.fits.rank,
        word_law.again x.label (counted number x.outputs ++ (counted number x.waits ++ (edge_code x.code ++ rest))) fits.fits.label,
        numbers_law.again x.outputs (counted number x.waits ++ (edge_code x.code ++ rest)) fits.fits.outputs,
        ascending_law.again x.waits (edge_code x.code ++ rest) (fits.fits.waits, fits.waits),
        (code_law bs used).again x.code rest fits.code,
        pool_again x.pool,
      ) refl;
}

abbrev AllAfter : Option (List (List BodyInstr)) → ℕ → List Edge → Type 0
AllAfter bs = AllFrom (edge_at bs) (used_after bs) edge (FitsAfter bs)

pub record EdgesFit (bs : Option (List (List BodyInstr))) (xs : List Edge) : Type 0 where
  pub count : length xs ≤ 2 ^ 20
  pub each : AllByRecursion EdgeFits xs
  pub waits : AllByRecursion (λ x. AscendsFrom 0 x.waits) xs
  pub filled : AllByRecursion (λ x. HasBody bs x.code) xs
  pub instructions : instructions bs xs ≤ most_code bs

all_fit : (bs : Option (List (List BodyInstr))) (used : ℕ) (xs : List Edge) → used ≤ most_code bs → AllAfter bs used xs
    → AllByRecursion EdgeFits xs × AllByRecursion (λ x. AscendsFrom 0 x.waits) xs × AllByRecursion (λ x. HasBody bs x.code) xs × (used + instructions bs xs ≤ most_code bs)
all_fit bs used [] le h = (tt, tt, tt, omega (arith, le))
all_fit bs used (x ∷ xs) le h =
    let more = all_fit bs (used + length (instrs_of bs x.code)) xs (omega (arith, le, h.0.code.most)) h.1 in
    ((h.0.fits, more.0), (h.0.waits, more.1), (h.0.code.filled, more.2), omega (arith, more.3))

all_after : (bs : Option (List (List BodyInstr))) (used : ℕ) (xs : List Edge) → AllByRecursion EdgeFits xs → AllByRecursion (λ x. AscendsFrom 0 x.waits) xs → AllByRecursion (λ x. HasBody bs x.code) xs
    → used + instructions bs xs ≤ most_code bs → AllAfter bs used xs
all_after bs used [] f w k le = tt
all_after bs used (x ∷ xs) f w k le =
    (record { fits = f.0; waits = w.0; code = record { most = omega (arith, le); fits = f.0.code; filled = k.0 } }, all_after bs (used + length (instrs_of bs x.code)) xs f.1 w.1 k.1 (omega (arith, le)))

pub edges_law : (bs : Option (List (List BodyInstr))) → IsReader (edges_at bs) (counted edge) (EdgesFit bs)
unfolding edges_at
edges_law bs = record {
  takes = λ bytes x fits e.
      let a = begins (up_to_law w32 (2 ^ 32) (2 ^ 20) wide32) (λ n. items_at (edge_at bs) (used_after bs) 0 n.0 n.1) bytes x fits e in
      let b = items_take (edge_at bs) (used_after bs) edge (FitsAfter bs) (λ used. (edge_law bs used).takes) a.0.0 0 a.0.1 x a.1.rest_fits a.3 in
      let both = Takes-then bytes (number a.0.0) a.0.1 (flat_map edge x.0) x.1 a.1 b.0 in
      let all = all_fit bs 0 x.0 (omega arith) b.2 in
      (subst (λ (k : ℕ). Takes bytes (number k ++ flat_map edge x.0) x.1) (sym b.1) both, record { count = rw b.1 a.2.0; each = all.0; waits = all.1; filled = all.2; instructions = omega (arith, all.3) });
  again = λ xs rest fits.
      ap (edges_at bs) (append_assoc (number (length xs)) (flat_map edge xs) rest)
      ∙ rw (
        (up_to_law w32 (2 ^ 32) (2 ^ 20) wide32).again (length xs) (flat_map edge xs ++ rest) (fits.count, omega (arith, fits.count)),
        items_again (edge_at bs) (used_after bs) edge (FitsAfter bs) (λ used. (edge_law bs used).again) xs 0 rest (all_after bs 0 xs fits.each fits.waits fits.filled (omega (arith, fits.instructions))),
      ) refl;
}
