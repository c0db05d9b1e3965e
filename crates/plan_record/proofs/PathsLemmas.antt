-- Consecutive paths. Lemmas for src/paths.rt.
use Rattle.std.proofs.Common.{◌≡◌, ◌<◌, ◌≤◌, ◌+◌, ◌-◌, ℕ, zero, suc, List, [], ◌∷◌, ◌++◌, append_assoc, length, drop, map, subst, take, Some, None, refl, sym, ap, ◌∙◌, arith}
use Rattle.std.specs.Prelude.{slice_get}
use Rattle.std.specs.Int.{w16, to_be_bytes}
use Rattle.std.proofs.lemmas.List.{append-nil, drop-drop, drop_at, length-append, length-drop, map-append, take_at}
use Rattle.plan_text.specs.SharedRows.{row_in}
use Rattle.plan_text.specs.declared.shared_rows.Place.{Place}
use Rattle.plan_record.specs.Entries.{path_spelling}
use Rattle.plan_record.specs.Paths.{paths_in, ArePaths}
use Rattle.plan_record.specs.Reading.{◌>>=◌, path_at, some_paths_at}
use Rattle.plan_record.proofs.EntryLemmas.{IsBytes, bind_some, some_is, path_law}

-- the first of some paths, and those after it
record StandsFirst (n : ℕ) (bytes : List ℕ) : Type 0 where
  pub path : List ℕ × List ℕ
  pub read : path_at bytes ≡ Some path
  pub paths : List (List ℕ) × List ℕ
  pub behind : some_paths_at n path.1 ≡ Some paths
  pub all : some_paths_at (suc n) bytes ≡ Some (path.0 ∷ paths.0, paths.1)

stands_first : (n : ℕ) (bytes : List ℕ) → ArePaths (suc n) bytes → StandsFirst n bytes
unfolding some_paths_at
stands_first n bytes there =
    let a = bind_some (path_at bytes) (λ path. some_paths_at n path.1 >>= λ paths. Some (path.0 ∷ paths.0, paths.1)) there.0 there.1 in
    let b = bind_some (some_paths_at n a.0.1) (λ paths. Some (a.0.0 ∷ paths.0, paths.1)) there.0 a.2 in
    record { path = a.0; read = a.1; paths = b.0; behind = b.1; all = there.1 ∙ sym b.2 }

-- If there are no paths, there is no first one.
pub none_first : (count : ℕ) (bytes : List ℕ) → count ≡ 0 → None ≡ slice_get (paths_in (some_paths_at count bytes)) 0
unfolding some_paths_at
none_first count bytes e = rw e refl

-- If there are paths, the first one is read.
pub some_first : (count : ℕ) (bytes path rest : List ℕ) → 0 < count → ArePaths count bytes → Some (path, rest) ≡ path_at bytes → Some path ≡ slice_get (paths_in (some_paths_at count bytes)) 0
some_first zero bytes path rest lt there read = absurd (omega (arith, lt))
some_first (suc n) bytes path rest lt there read =
    let first = stands_first n bytes there in
    let same : path ≡ first.path.0 = ap (λ (p : List ℕ × List ℕ). p.0) (some_is _ _ (read ∙ first.read)) in
    rw first.all (ap (λ p. Some p) same)

pub first_not_missing : (count : ℕ) (bytes : List ℕ) → 0 < count → ArePaths count bytes → None ≡ path_at bytes → ⊥
first_not_missing zero bytes lt there read = omega (arith, lt)
first_not_missing (suc n) bytes lt there read = let first = stands_first n bytes there in none_is_some (read ∙ first.read)
  where
    none_is_some : {x : List ℕ × List ℕ} → None ≡ Some x → ⊥
    none_is_some e = absurd cc

-- the rest after a first path of this length
pub record GoesOn (count : ℕ) (bytes : List ℕ) (len : ℕ) : Type 0 where
  pub few : len ≤ 4096
  pub within : 2 + len ≤ length bytes
  pub there : ArePaths (count - 1) (drop (2 + len) bytes)
  pub left : paths_in (some_paths_at (count - 1) (drop (2 + len) bytes)) ≡ drop 1 (paths_in (some_paths_at count bytes))
  pub first : slice_get (paths_in (some_paths_at count bytes)) 0 ≡ Some (take (2 + len - 2) (drop 2 bytes))

-- One more path.
pub goes_on : (count : ℕ) (bytes path rest : List ℕ) → IsBytes bytes → ArePaths count bytes → 0 < count → Some (path, rest) ≡ path_at bytes → GoesOn count bytes (length path)
goes_on zero bytes path rest fits there lt e = absurd (omega (arith, lt))
goes_on (suc n) bytes path rest fits there lt e =
    let first = stands_first n bytes there in
    let same : path ≡ first.path.0 = ap (λ (p : List ℕ × List ℕ). p.0) (some_is _ _ (e ∙ first.read)) in
    let t = path_law.takes bytes first.path fits first.read in
    let len : length (path_spelling first.path.0) ≡ 2 + length path = length-append (to_be_bytes w16 (length first.path.0)) first.path.0 ∙ ap (λ p. 2 + length p) (sym same) in
    let behind_it : drop (2 + length path) bytes ≡ first.path.1 = ap (drop (2 + length path)) t.0.parts ∙ drop_at (path_spelling first.path.0) first.path.1 (2 + length path) len in
    let all : length bytes ≡ length (path_spelling first.path.0) + length first.path.1 = ap length t.0.parts ∙ length-append (path_spelling first.path.0) first.path.1 in
    let one_less : suc n - 1 ≡ n = omega arith in
    let left : some_paths_at (suc n - 1) (drop (2 + length path) bytes) ≡ Some first.paths = ap (λ k. some_paths_at k (drop (2 + length path) bytes)) one_less ∙ ap (some_paths_at n) behind_it ∙ first.behind in
    record {
      few = rw same t.1.1;
      within = omega (arith, all, len);
      there = (first.paths, left);
      left = ap paths_in left ∙ sym (ap (λ r. drop 1 (paths_in r)) first.all);
      first =
          let marked : length (to_be_bytes w16 (length first.path.0)) ≡ 2 = refl in
          let rest : drop 2 bytes ≡ first.path.0 ++ first.path.1 =
          ap (drop 2) (t.0.parts ∙ append_assoc (to_be_bytes w16 (length first.path.0)) first.path.0 first.path.1)
          ∙ drop_at (to_be_bytes w16 (length first.path.0)) (first.path.0 ++ first.path.1) 2 marked in
          let long : length path ≡ length first.path.0 = ap length same in
          let short : 2 + length path - 2 ≡ length first.path.0 = omega (arith, long) in
          let cut : take (2 + length path - 2) (drop 2 bytes) ≡ path =
          ap (λ k. take k (drop 2 bytes)) short ∙ ap (take (length first.path.0)) rest ∙ take_at first.path.0 first.path.1 (length first.path.0) refl ∙ sym same in
          ap (λ r. slice_get (paths_in r) 0) first.all ∙ ap Some (sym same) ∙ ap Some (sym cut);
    }

-- No paths, without the first one, are no paths.
pub none_left : (count : ℕ) (bytes : List ℕ) → count ≡ 0 → paths_in (some_paths_at count bytes) ≡ drop 1 (paths_in (some_paths_at count bytes))
unfolding some_paths_at
none_left count bytes e = rw e refl

-- the placed paths and the remaining ones are all paths
pub record Placed (count taken : ℕ) (bytes : List ℕ) (start : ℕ) (places : List Place) : Type 0 where
  pub within : start ≤ length bytes
  pub there : ArePaths (count - taken) (drop start bytes)
  pub all : map (row_in bytes) places ++ paths_in (some_paths_at (count - taken) (drop start bytes)) ≡ paths_in (some_paths_at count bytes)

-- No path is placed before the first.
pub none_placed : (count : ℕ) (bytes : List ℕ) → ArePaths count bytes → Placed count 0 bytes 0 []
none_placed count bytes there =
    let all : count ≡ count - 0 = omega arith in
    record {
      within = omega arith;
      there = subst (λ (k : ℕ). ArePaths k bytes) all there;
      all = ap (λ (k : ℕ). paths_in (some_paths_at k bytes)) (sym all);
    }

-- A list that begins with an item is that item and those after it.
begins_with : {X : Type 0} (xs : List X) (x : X) → slice_get xs 0 ≡ Some x → x ∷ drop 1 xs ≡ xs
begins_with [] x e = absurd cc
begins_with (y ∷ ys) x e = cc

-- One more place.
pub one_more_placed : (count taken : ℕ) (bytes rest : List ℕ) (start len : ℕ) (places : List Place) (place : Place) → taken < count
    → Placed count taken bytes start places
    → rest ≡ drop start bytes
    → len ≤ length rest
    → ArePaths (count - taken - 1) (drop len rest)
    → paths_in (some_paths_at (count - taken - 1) (drop len rest)) ≡ drop 1 (paths_in (some_paths_at (count - taken) rest))
    → slice_get (paths_in (some_paths_at (count - taken) rest)) 0 ≡ Some (take (len - 2) (drop 2 rest))
    → place.start ≡ start + 2 → place.len ≡ len - 2
    → Placed count (taken + 1) bytes (start + len) (places ++ place ∷ [])
one_more_placed count taken bytes rest start len places place lt so_far is within there left first begins long =
    let one_less : count - taken - 1 ≡ count - (taken + 1) = omega arith in
    let past : drop len rest ≡ drop (start + len) bytes = ap (drop len) is ∙ drop-drop len start bytes in
    let to_come : List (List ℕ) = paths_in (some_paths_at (count - taken) rest) in
    let row : row_in bytes place ≡ take (len - 2) (drop 2 rest) =
    rw (begins, long) (ap (take (len - 2)) (sym (ap (drop 2) is ∙ drop-drop 2 start bytes))) in
    let split : row_in bytes place ∷ drop 1 to_come ≡ to_come = begins_with to_come (row_in bytes place) (first ∙ ap Some (sym row)) in
    let behind : paths_in (some_paths_at (count - (taken + 1)) (drop (start + len) bytes)) ≡ drop 1 to_come =
    ap (λ k. paths_in (some_paths_at k (drop (start + len) bytes))) (sym one_less) ∙ ap (λ b. paths_in (some_paths_at (count - taken - 1) b)) (sym past) ∙ left in
    let room : length rest ≡ length bytes - start = ap length is ∙ length-drop start bytes in
    record {
      within = omega (arith, within, so_far.within, room);
      there = subst (λ (b : List ℕ). ArePaths (count - (taken + 1)) b) past (subst (λ (k : ℕ). ArePaths k (drop len rest)) one_less there);
      all =
          ap (λ (ps : List (List ℕ)). map (row_in bytes) (places ++ place ∷ []) ++ ps) behind
          ∙ ap (λ (ps : List (List ℕ)). ps ++ drop 1 to_come) (map-append (row_in bytes) places (place ∷ []))
          ∙ append_assoc (map (row_in bytes) places) (row_in bytes place ∷ []) (drop 1 to_come)
          ∙ ap (λ (ps : List (List ℕ)). map (row_in bytes) places ++ ps) split
          ∙ ap (λ (b : List ℕ). map (row_in bytes) places ++ paths_in (some_paths_at (count - taken) b)) is
          ∙ so_far.all;
    }

-- If no path remains, all are placed.
pub all_placed : (count taken : ℕ) (bytes : List ℕ) (start : ℕ) (places : List Place) → count ≤ taken → Placed count taken bytes start places
    → map (row_in bytes) places ≡ paths_in (some_paths_at count bytes)
unfolding some_paths_at
all_placed count taken bytes start places le so_far =
    let none : count - taken ≡ 0 = omega arith in
    let nothing : paths_in (some_paths_at (count - taken) (drop start bytes)) ≡ [] = rw none refl in
    sym (append-nil (map (row_in bytes) places)) ∙ ap (λ (ps : List (List ℕ)). map (row_in bytes) places ++ ps) (sym nothing) ∙ so_far.all
