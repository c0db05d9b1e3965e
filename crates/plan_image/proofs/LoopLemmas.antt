-- Reading items one after another, as a loop does.
use Rattle.std.proofs.Common.{◌≡◌, ℕ, suc, ◌-◌, ◌+◌, ◌≤◌, ◌<◌, List, [], ◌∷◌, ◌++◌, Ok, Err, refl, sym, ap, ◌∙◌, append_assoc, arith}
use Rattle.std.proofs.lemmas.List.{append-nil}
use Rattle.plan_image.specs.declared.reading.stop.ReadFault.{ReadFault}
use Rattle.plan_image.specs.declared.reading.stop.ReadFault.TheVariants as errors
use Rattle.plan_image.specs.Reading.{◌>>=◌, Fails, Read, items_at}

-- the items that were read before those that remain to be read
abbrev pub with_front : {X : Type 0} → List X → Read (List X) → Read (List X)
with_front front read = read >>= λ x. Ok (front ++ x.0, x.1)

regroup : {X : Type 0} (front : List X) (n : X) (read : Read (List X)) → with_front front (read >>= λ x. Ok (n ∷ x.0, x.1)) ≡ with_front (front ++ n ∷ []) read
regroup front n (Ok x) = ap (λ ns. Ok (ns, x.1)) (simp append_assoc)
regroup front n (Err f) = refl

module _ {S X : Type 0} (item : S → List ℕ → Read X) (next : S → X → S) where
  pub goes_on : (s : S) (front : List X) (count i : ℕ) (bytes : List ℕ) (n : X) (after : List ℕ) (total : Read (List X)) → i < count → item s bytes ≡ Ok (n, after)
      → with_front front (items_at item next s (count - i) bytes) ≡ total → with_front (front ++ n ∷ []) (items_at item next (next s n) (count - (i + 1)) after) ≡ total
  unfolding items_at
  goes_on s front count i bytes n after total lt h so_far =
      let k : count - i ≡ suc (count - (i + 1)) = omega arith in
      let one : with_front front (items_at item next s (count - i) bytes) ≡ with_front (front ++ n ∷ []) (items_at item next (next s n) (count - (i + 1)) after) = rw (k, h) (regroup front n (items_at item next (next s n) (count - (i + 1)) after)) in
      sym one ∙ so_far

  pub ends : (s : S) (e : ReadFault) (front : List X) (count i : ℕ) (bytes : List ℕ) (total : Read (List X)) → i < count → Fails e (item s bytes)
      → with_front front (items_at item next s (count - i) bytes) ≡ total → Fails e total
  unfolding items_at
  ends s errors.Memory front count i bytes total lt h so_far = tt
  ends s (errors.Stop f) front count i bytes total lt h so_far =
      let k : count - i ≡ suc (count - (i + 1)) = omega arith in
      let one : with_front front (items_at item next s (count - i) bytes) ≡ Err f = rw (k, h) refl in
      sym so_far ∙ one

  pub is_done : (s : S) (front : List X) (count i : ℕ) (bytes : List ℕ) (total : Read (List X)) → count ≤ i → with_front front (items_at item next s (count - i) bytes) ≡ total → total ≡ Ok (front, bytes)
  unfolding items_at
  is_done s front count i bytes total le so_far =
      let k : count - i ≡ 0 = omega arith in
      let one : with_front front (items_at item next s (count - i) bytes) ≡ Ok (front, bytes) = rw k (ap (λ ns. Ok (ns, bytes)) (append-nil front)) in
      sym so_far ∙ one
