-- Paths skipped one after the other.
use Rattle.std.proofs.Common.{◌≡◌, ◌∷◌, ℕ, suc, ◌-◌, ◌+◌, ◌≤◌, ◌<◌, List, Option, Some, None, refl, sym, ◌∙◌, ap, arith, option_map}
use Rattle.plan_record.specs.Entries.{EntryData}
use Rattle.plan_record.specs.Reading.{◌>>=◌, Read, path_at, some_paths_at, entry_at}

-- the bytes after this many paths
abbrev pub behind : ℕ → List ℕ → Option (List ℕ)
behind n bytes = option_map (λ x. x.1) (some_paths_at n bytes)

-- after the first path, one path fewer remains to be skipped
one_less : (path : List ℕ) (read : Read (List (List ℕ))) → option_map (λ (x : List (List ℕ) × List ℕ). x.1) (read >>= λ x. Some (path ∷ x.0, x.1)) ≡ option_map (λ x. x.1) read
one_less path (Some x) = refl
one_less path None = refl

pub goes_on : (count i : ℕ) (bytes path after : List ℕ) (total : Option (List ℕ)) → i < count → Some (path, after) ≡ path_at bytes
    → total ≡ behind (count - i) bytes → total ≡ behind (count - (i + 1)) after
unfolding some_paths_at
goes_on count i bytes path after total lt read so_far =
    let k : count - i ≡ suc (count - (i + 1)) = omega arith in
    let one : behind (count - i) bytes ≡ behind (count - (i + 1)) after = rw (k, sym read) (one_less path (some_paths_at (count - (i + 1)) after)) in
    so_far ∙ one

pub ends : (count i : ℕ) (bytes : List ℕ) (total : Option (List ℕ)) → i < count → None ≡ path_at bytes → total ≡ behind (count - i) bytes → total ≡ None
unfolding some_paths_at
ends count i bytes total lt read so_far =
    let k : count - i ≡ suc (count - (i + 1)) = omega arith in
    let one : behind (count - i) bytes ≡ None = rw (k, sym read) refl in
    so_far ∙ one

pub is_done : (count i : ℕ) (bytes : List ℕ) (total : Option (List ℕ)) → count ≤ i → total ≡ behind (count - i) bytes → total ≡ Some bytes
unfolding some_paths_at
is_done count i bytes total le so_far =
    let k : count - i ≡ 0 = omega arith in
    let one : behind (count - i) bytes ≡ Some bytes = rw k refl in
    so_far ∙ one

-- the paths at the front of some bytes
pub paths_in_front : (count : ℕ) (bytes rest : List ℕ) → Some rest ≡ behind count bytes → (paths : List (List ℕ)) × (some_paths_at count bytes ≡ Some (paths, rest))
paths_in_front count bytes rest e = found (some_paths_at count bytes) e where
  found : (read : Read (List (List ℕ))) → Some rest ≡ option_map (λ (x : List (List ℕ) × List ℕ). x.1) read → (paths : List (List ℕ)) × (read ≡ Some (paths, rest))
  found (Some x) e = let same : rest ≡ x.1 = cc in (x.0, ap (λ r. Some (x.0, r)) (sym same))
  found None e = absurd cc

-- the entry at the front of some bytes
pub entry_in_front : (bytes rest : List ℕ) → Some rest ≡ option_map (λ x. x.1) (entry_at bytes) → (x : EntryData) × (entry_at bytes ≡ Some (x, rest))
entry_in_front bytes rest e = found (entry_at bytes) e where
  found : (read : Read EntryData) → Some rest ≡ option_map (λ (x : EntryData × List ℕ). x.1) read → (x : EntryData) × (read ≡ Some (x, rest))
  found (Some x) e = let same : rest ≡ x.1 = cc in (x.0, ap (λ r. Some (x.0, r)) (sym same))
  found None e = absurd cc

-- no entry is at the front of some bytes
pub no_entry_in_front : (bytes : List ℕ) → None ≡ option_map (λ (x : EntryData × List ℕ). x.1) (entry_at bytes) → entry_at bytes ≡ None
no_entry_in_front bytes e = found (entry_at bytes) e where
  found : (read : Read EntryData) → None ≡ option_map (λ (x : EntryData × List ℕ). x.1) read → read ≡ None
  found (Some x) e = absurd cc
  found None e = refl
