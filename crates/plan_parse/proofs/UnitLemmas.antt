-- Paths, unit by unit. Lemmas for src/path_parts.rt and src/reading.rt.
use Rattle.std.proofs.Common.{◌≡◌, ℕ, zero, suc, ◌+◌, ◌<◌, ◌≤◌, ◌==◌, Bool, true, false, cond, List, [], ◌∷◌, length, take, drop, get_or, Result, Ok, Err, Option, Some, None, unwrap_or, refl, sym, ap, subst, ◌∙◌, arith}
use Rattle.std.specs.List.{prefix_len}
use Rattle.std.proofs.lemmas.Bool.{eqb-true}
use Rattle.std.proofs.lemmas.List.{drop-drop, drop-take, length-drop, length-take-le, get_or-take}
use Rattle.std.proofs.lemmas.List.Sums.{prefix_len-le-length}
use Rattle.plan_text.specs.Bytes.{nul, tab, dollar}
use Rattle.plan_text.specs.Gathering.{is_special, bytes_onto}
use Rattle.plan_text.specs.Pieces.{Sign, escape, escape_size, size_of, or_bad, onto, all_onto, sign_at, in_front, pieces_past, pieces_from}
use Rattle.plan_text.specs.Runs.{and_more, run_past}
use Rattle.plan_text.specs.declared.fault.TextFault.{TextFault}
use Rattle.plan_text.specs.declared.fault.TextFault.TheVariants as text
use Rattle.plan_text.specs.declared.piece_reader.Mode.TheVariants as mode
use Rattle.plan_text.specs.declared.piece_reader.Piece.{Piece}
use Rattle.plan_parse.specs.Parts.{map_pieces, escape_unit, unit_at, first_path, GoesWell, FailsAs}
use Rattle.plan_parse.specs.PlainPaths.{is_plain}
use Rattle.plan_parse.specs.Reading.{ends_path, path_unit, path_len, lift_fault}
use Rattle.plan_parse.proofs.CutLemmas.{escape_survives}
use Rattle.plan_parse.proofs.PartLemmas.{skipped, plain_part, plain_bytes}
use Rattle.plan_parse.proofs.ReadingLemmas.{run_within, run_end, path_plain}

-- === Two results with the same faults ===

fails_same : (r : Result (List Piece) TextFault) → FailsAs r r
fails_same (Ok v) = (v, refl)
fails_same (Err e) = refl

fails_onto : (s : Sign) (r : Result (List Piece) TextFault) → FailsAs (all_onto s r) r
fails_onto s (Ok v) = (onto s v, refl)
fails_onto s (Err e) = refl

fails_map : (f : List Piece → List Piece) (r : Result (List Piece) TextFault) → FailsAs (map_pieces f r) r
fails_map f (Ok v) = (f v, refl)
fails_map f (Err e) = refl

-- transitivity
fails_then : (r s t : Result (List Piece) TextFault) → FailsAs r s → FailsAs s t → FailsAs r t
fails_then r (Ok v) (Ok w) h k = h
fails_then r (Err e) (Ok w) h k = let f : Err e ≡ Ok k.0 = k.1 in absurd cc
fails_then r (Ok v) (Err d) h k = absurd cc
fails_then r (Err e) (Err d) h k = h ∙ k

-- === The length of a path ===

unit_past : (v : List ℕ) (n : ℕ) → n ≤ length v → run_past path_unit v n ≡ n + path_len (drop n v)
unit_past [] zero h = refl
unit_past [] (suc n) h = absurd (omega (arith, h))
unit_past (b ∷ rest) zero h = omega arith
unit_past (b ∷ rest) (suc n) h =
    let more = unit_past rest n (omega (arith, h)) in
    omega (arith, more)

-- a path that begins with a unit
unit_first : (b : ℕ) (rest : List ℕ) (n : ℕ) → path_unit (b ∷ rest) ≡ suc n → path_len (b ∷ rest) ≡ suc (run_past path_unit rest n)
unit_first b rest n e = ap (λ (k : ℕ). and_more k (λ skip. run_past path_unit rest skip)) e

unit_length : (b : ℕ) (rest : List ℕ) (n : ℕ) → path_unit (b ∷ rest) ≡ suc n → n ≤ length rest → path_len (b ∷ rest) ≡ suc n + path_len (drop n rest)
unit_length b rest n e within =
    let first = unit_first b rest n e in
    let more = unit_past rest n within in
    omega (arith, first, more)

path_within : (v : List ℕ) → path_len v ≤ length v
path_within v = run_within path_unit v 0

-- === The bytes that were walked ===

-- the path continues up to here without a fault
pub record Walked (at : ℕ) (v : List ℕ) (n : ℕ) : Type 0 where
  pub within : n ≤ length v
  pub len : path_len v ≡ n + path_len (drop n v)
  pub sound : FailsAs (first_path at v) (first_path (at + n) (drop n v))

-- two walks, one after the other
pub walked_on : (at : ℕ) (v : List ℕ) (n k : ℕ) → Walked at v n → Walked (at + n) (drop n v) k → Walked at v (n + k)
walked_on at v n k w x =
    let left = length-drop n v in
    let all = w.within in
    let fits = x.within in
    let rest : drop k (drop n v) ≡ drop (n + k) v = drop-drop k n v in
    let size : path_len (drop k (drop n v)) ≡ path_len (drop (n + k) v) = ap (λ (u : List ℕ). path_len u) rest in
    let first = w.len in
    let more = x.len in
    let place : at + n + k ≡ at + (n + k) = omega arith in
    record {
      within = omega (arith, left, all, fits);
      len = omega (arith, first, more, size);
      sound = subst (λ (u : List ℕ). FailsAs (first_path at v) (first_path (at + (n + k)) u)) rest
          (subst (λ (p : ℕ). FailsAs (first_path at v) (first_path p (drop k (drop n v)))) place
          (fails_then (first_path at v) (first_path (at + n) (drop n v)) (first_path (at + n + k) (drop k (drop n v))) w.sound x.sound));
    }

-- bytes that stand for themselves
walked_bytes : (at : ℕ) (v : List ℕ) (n : ℕ) → n ≤ length v → path_len v ≡ n + path_len (drop n v) → ((k : ℕ) → k < n → is_special mode.Path (get_or v k 0) ≡ false) → Walked at v n
walked_bytes at v n within len plain =
    let l = path_len (drop n v) in
    let left = length-drop n v in
    let last = path_within (drop n v) in
    let long : length (take (n + l) v) ≡ n + l = length-take-le (n + l) v (omega (arith, within, left, last)) in
    let cut : first_path at v ≡ pieces_from mode.Path at (take (n + l) v) = ap (λ (k : ℕ). pieces_from mode.Path at (take k v)) len in
    let front : pieces_from mode.Path at (take (n + l) v) ≡ map_pieces (bytes_onto (take n (take (n + l) v))) (pieces_from mode.Path (at + n) (drop n (take (n + l) v))) =
    plain_part n at (take (n + l) v) (omega (arith, long)) (λ k less. ap (is_special mode.Path) (get_or-take (n + l) v k 0 (omega (arith, less))) ∙ plain k less) in
    let behind : map_pieces (bytes_onto (take n (take (n + l) v))) (pieces_from mode.Path (at + n) (drop n (take (n + l) v))) ≡ map_pieces (bytes_onto (take n (take (n + l) v))) (first_path (at + n) (drop n v)) =
    ap (λ (u : List ℕ). map_pieces (bytes_onto (take n (take (n + l) v))) (pieces_from mode.Path (at + n) u)) (drop-take n l v) in
    record {
      within = within;
      len = len;
      sound = subst (λ (r : Result (List Piece) TextFault). FailsAs r (first_path (at + n) (drop n v))) (sym (cut ∙ front ∙ behind))
          (fails_map (bytes_onto (take n (take (n + l) v))) (first_path (at + n) (drop n v)));
    }

-- all of these bytes at the front
pub walked_plain : (at : ℕ) (v : List ℕ) (n : ℕ) → n ≡ prefix_len is_plain v → Walked at v n
walked_plain at v n e =
    let most = prefix_len-le-length is_plain v in
    walked_bytes at v n (omega (arith, e, most)) (path_plain v ∙ ap (λ (k : ℕ). k + path_len (drop k v)) (sym e)) (plain_bytes n v e)

-- a `$` with its escape
walked_escape : (at b : ℕ) (rest : List ℕ) (x : Sign × ℕ) → b ≡ dollar → escape rest ≡ Some x → path_unit (b ∷ rest) ≡ suc x.1 → x.1 ≤ length rest → Walked at (b ∷ rest) (suc x.1)
walked_escape at b rest x is read unit within =
    let n = x.1 in
    let l = path_len (drop n rest) in
    let left = length-drop n rest in
    let last = path_within (drop n rest) in
    let len : path_len (b ∷ rest) ≡ suc n + l = unit_length b rest n unit within in
    let less : path_len (b ∷ rest) ≡ suc (n + l) = omega (arith, len) in
    let short : List ℕ = take (n + l) rest in
    let long : length short ≡ n + l = length-take-le (n + l) rest (omega (arith, within, left, last)) in
    let kept : escape short ≡ Some x = (escape_survives rest (n + l)).some x read (omega arith) in
    let cut : first_path at (b ∷ rest) ≡ pieces_from mode.Path at (dollar ∷ short) =
    ap (λ (k : ℕ). pieces_from mode.Path at (take k (b ∷ rest))) less ∙ ap (λ (c : ℕ). pieces_from mode.Path at (c ∷ short)) is in
    let front : pieces_from mode.Path at (dollar ∷ short) ≡ all_onto x.0 (pieces_past mode.Path (at + 1) short n) =
    ap (λ (o : Option (Sign × ℕ)). in_front (or_bad at o) (λ (k : ℕ). pieces_past mode.Path (at + 1) short k)) kept in
    let place : at + 1 + n ≡ at + suc n = omega arith in
    let behind : pieces_past mode.Path (at + 1) short n ≡ first_path (at + suc n) (drop n rest) =
    skipped (at + 1) short n (omega (arith, long))
    ∙ ap (λ (u : List ℕ). pieces_from mode.Path (at + 1 + n) u) (drop-take n l rest)
    ∙ ap (λ (k : ℕ). first_path k (drop n rest)) place in
    record {
      within = omega (arith, within);
      len = len;
      sound = subst (λ (r : Result (List Piece) TextFault). FailsAs r (first_path (at + suc n) (drop n rest))) (sym (cut ∙ front ∙ ap (all_onto x.0) behind))
          (fails_onto x.0 (first_path (at + suc n) (drop n rest)));
    }

-- === One more unit ===

abbrev units : ℕ → Bool → Bool → Bool → Bool → Option ℕ → Result ℕ TextFault
units at e d n t o = cond e (Ok 0) (cond d (escape_unit at o) (cond n (Err (text.NulByte at)) (cond t (Err (text.TabBlank at)) (Ok 1))))

nothing : (k : ℕ) → ◌≡◌ {A = Result ℕ TextFault} (Ok 0) (Ok k) → 0 < k → ⊥
nothing k h some = let z : 0 ≡ k = cc in omega (arith, z, some)

escape_walked : (at b : ℕ) (rest : List ℕ) (k : ℕ) (o : Option (Sign × ℕ)) → ends_path b ≡ false → (b == dollar) ≡ true → escape rest ≡ o → escape_unit at (size_of o) ≡ Ok k → k ≤ suc (length rest) → Walked at (b ∷ rest) k
escape_walked at b rest k None e d read h fits = absurd cc
escape_walked at b rest k (Some x) e d read h fits =
    let size : suc x.1 ≡ k = cc in
    let unit : path_unit (b ∷ rest) ≡ suc x.1 = rw (e, d, read) refl in
    subst (λ (j : ℕ). Walked at (b ∷ rest) j) size (walked_escape at b rest x (eqb-true b dollar d) read unit (omega (arith, size, fits)))

byte_walked : (at b : ℕ) (rest : List ℕ) (k : ℕ) → ends_path b ≡ false → (b == dollar) ≡ false → (b == nul) ≡ false → (b == tab) ≡ false → ◌≡◌ {A = Result ℕ TextFault} (Ok 1) (Ok k) → Walked at (b ∷ rest) k
byte_walked at b rest k e d n t h =
    let size : 1 ≡ k = cc in
    let unit : path_unit (b ∷ rest) ≡ 1 = rw (e, d) refl in
    subst (λ (j : ℕ). Walked at (b ∷ rest) j) size
    (walked_bytes at (b ∷ rest) 1 (omega arith) (unit_length b rest 0 unit (omega arith)) plain)
  where
    plain : (i : ℕ) → i < 1 → is_special mode.Path (get_or (b ∷ rest) i 0) ≡ false
    plain zero l = rw (d, n, t) refl
    plain (suc i) l = absurd (omega (arith, l))

-- a unit
pub walked_unit : (at : ℕ) (v : List ℕ) (k : ℕ) → unit_at at v ≡ Ok k → 0 < k → k ≤ length v → Walked at v k
walked_unit at [] k h some fits = absurd (nothing k h some)
walked_unit at (b ∷ rest) k h some fits = by (ends_path b) (b == dollar) (b == nul) (b == tab) refl refl refl refl h where
  by : (e d n t : Bool) → ends_path b ≡ e → (b == dollar) ≡ d → (b == nul) ≡ n → (b == tab) ≡ t → units at e d n t (escape_size rest) ≡ Ok k → Walked at (b ∷ rest) k
  by true d n t p q r s g = absurd (nothing k g some)
  by false true n t p q r s g = escape_walked at b rest k (escape rest) p q refl g fits
  by false false true t p q r s g = absurd cc
  by false false false true p q r s g = absurd cc
  by false false false false p q r s g = byte_walked at b rest k p q r s g

-- the end of the path
pub unit_ends : (at : ℕ) (v : List ℕ) → unit_at at v ≡ Ok 0 → path_unit v ≡ 0
unit_ends at [] h = refl
unit_ends at (b ∷ rest) h = by (ends_path b) (b == dollar) (b == nul) (b == tab) (escape_size rest) h where
  by : (e d n t : Bool) (o : Option ℕ) → units at e d n t o ≡ Ok 0 → cond e 0 (cond d (suc (unwrap_or o 0)) 1) ≡ 0
  by true d n t o g = refl
  by false true n t None g = absurd cc
  by false true n t (Some k) g = let z : suc k ≡ 0 = cc in absurd (omega (arith, z))
  by false false true t o g = absurd cc
  by false false false true o g = absurd cc
  by false false false false o g = let z : ◌≡◌ {A = ℕ} 1 0 = cc in absurd (omega (arith, z))

-- a fault of the first byte is the first fault of the path
sign_fails : (at b : ℕ) (rest : List ℕ) (n : ℕ) (e : TextFault) → path_unit (b ∷ rest) ≡ suc n → sign_at mode.Path at b (take (run_past path_unit rest n) rest) ≡ Err e → first_path at (b ∷ rest) ≡ Err e
sign_fails at b rest n e unit h =
    let short : List ℕ = take (run_past path_unit rest n) rest in
    ap (λ (k : ℕ). pieces_from mode.Path at (take k (b ∷ rest))) (unit_first b rest n unit)
    ∙ ap (λ (r : Result (Sign × ℕ) TextFault). in_front r (λ (k : ℕ). pieces_past mode.Path (at + 1) short k)) h

escape_fails : (at b : ℕ) (rest : List ℕ) (f : TextFault) (o : Option (Sign × ℕ)) → ends_path b ≡ false → (b == dollar) ≡ true → escape rest ≡ o → escape_unit at (size_of o) ≡ Err f → first_path at (b ∷ rest) ≡ Err f
escape_fails at b rest f (Some x) e d read h = absurd cc
escape_fails at b rest f None e d read h =
    let unit : path_unit (b ∷ rest) ≡ 1 = rw (e, d, read) refl in
    let short : List ℕ = take (run_past path_unit rest 0) rest in
    let none : escape short ≡ None = (escape_survives rest (run_past path_unit rest 0)).none read in
    let sign : sign_at mode.Path at b short ≡ Err (text.BadEscape at) = rw (d, none) refl in
    let same : text.BadEscape at ≡ f = cc in
    sign_fails at b rest 0 f unit (sign ∙ ap (λ (x : TextFault). Err x) same)

nul_fails : (at b : ℕ) (rest : List ℕ) → ends_path b ≡ false → (b == dollar) ≡ false → (b == nul) ≡ true → first_path at (b ∷ rest) ≡ Err (text.NulByte at)
nul_fails at b rest e d n =
    let unit : path_unit (b ∷ rest) ≡ 1 = rw (e, d) refl in
    sign_fails at b rest 0 (text.NulByte at) unit (rw (d, n) refl)

tab_fails : (at b : ℕ) (rest : List ℕ) → ends_path b ≡ false → (b == dollar) ≡ false → (b == nul) ≡ false → (b == tab) ≡ true → first_path at (b ∷ rest) ≡ Err (text.TabBlank at)
tab_fails at b rest e d n t =
    let unit : path_unit (b ∷ rest) ≡ 1 = rw (e, d) refl in
    sign_fails at b rest 0 (text.TabBlank at) unit (rw (d, n, t) refl)

unit_fails : (at : ℕ) (v : List ℕ) (f : TextFault) → unit_at at v ≡ Err f → first_path at v ≡ Err f
unit_fails at [] f h = absurd cc
unit_fails at (b ∷ rest) f h = by (ends_path b) (b == dollar) (b == nul) (b == tab) refl refl refl refl h where
  by : (e d n t : Bool) → ends_path b ≡ e → (b == dollar) ≡ d → (b == nul) ≡ n → (b == tab) ≡ t → units at e d n t (escape_size rest) ≡ Err f → first_path at (b ∷ rest) ≡ Err f
  by true d n t p q r s g = absurd cc
  by false true n t p q r s g = escape_fails at b rest f (escape rest) p q refl g
  by false false true t p q r s g = let same : text.NulByte at ≡ f = cc in nul_fails at b rest p q r ∙ ap (λ (x : TextFault). Err x) same
  by false false false true p q r s g = let same : text.TabBlank at ≡ f = cc in tab_fails at b rest p q r s ∙ ap (λ (x : TextFault). Err x) same
  by false false false false p q r s g = absurd cc

-- === The walk's end ===

-- the length of the path
pub walked_all : (at : ℕ) (v : List ℕ) (n : ℕ) → Walked at v n → path_unit (drop n v) ≡ 0 → n ≡ path_len v
walked_all at v n w e =
    let all = w.len in
    let none = run_end path_unit (drop n v) e in
    omega (arith, all, none)

-- the path has pieces
pub walked_well : (at : ℕ) (v : List ℕ) (n : ℕ) → Walked at v n → path_unit (drop n v) ≡ 0 → GoesWell (first_path at v)
walked_well at v n w e =
    let none : path_len (drop n v) ≡ 0 = run_end path_unit (drop n v) e in
    let last : first_path (at + n) (drop n v) ≡ Ok [] = ap (λ (k : ℕ). pieces_from mode.Path (at + n) (take k (drop n v))) none in
    subst (λ (r : Result (List Piece) TextFault). FailsAs (first_path at v) r) last w.sound

-- or it has a fault
pub walked_fails : (at : ℕ) (v : List ℕ) (n : ℕ) (f : TextFault) → Walked at v n → unit_at (at + n) (drop n v) ≡ Err f → first_path at v ≡ Err f
walked_fails at v n f w h = subst (λ (r : Result (List Piece) TextFault). FailsAs (first_path at v) r) (unit_fails (at + n) (drop n v) f h) w.sound

-- the same, as a path of a line
pub lifted_well : (r : Result (List Piece) TextFault) → GoesWell r → GoesWell (lift_fault r)
lifted_well r h = (h.0, ap lift_fault h.1)
