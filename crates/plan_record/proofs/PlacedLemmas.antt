-- The head, the paths and the spelling of the entry that begins at `start`.
use Rattle.std.proofs.Common.{◌≡◌, ◌≤◌, ◌-◌, ◌+◌, ℕ, List, ◌++◌, length, [], take, drop, Some, None, refl, sym, ap, subst, ◌∙◌, option_map, append_assoc, arith, inl, inr}
use Rattle.std.proofs.lemmas.Bool.{cases_lt}
use Rattle.std.proofs.lemmas.List.{take_at, drop_at, drop_all, length-append, length-drop, drop-drop}
use Rattle.std.specs.Int.{w16, w32, w64, to_be_bytes}
use Rattle.std.specs.List.{flat_map}
use Rattle.plan_record.specs.Entries.{EntryData, HasSpelling, path_spelling, command_spelling, body, spelling}
use Rattle.plan_record.specs.Entry.{data_of, IsPlaced}
use Rattle.plan_record.specs.Reading.{Head, head_of, entry_at, entry_head_at, some_paths_at}
use Rattle.plan_record.proofs.EntryLemmas.{IsBytes, IsBytes-drop, some_is, head_is, entry_law, head_spelling, some_paths_again, spelled_again}
use Rattle.plan_record.proofs.ReadingLemmas.{entry_in_front}

-- the head that was read is that of the entry
pub head_there : (bytes : List ℕ) (start : ℕ) (head : Head) (rest : List ℕ) → IsBytes bytes → IsPlaced bytes start → Some (head, rest) ≡ entry_head_at (drop start bytes)
    → head ≡ head_of (data_of (entry_at (drop start bytes)))
head_there bytes start head rest fits placed e =
    let is = head_is (drop start bytes) placed.0 (IsBytes-drop start bytes fits) placed.1 in
    ap (λ (p : Head × List ℕ). p.0) (some_is _ _ (e ∙ is)) ∙ ap (λ r. head_of (data_of r)) (sym placed.1)

-- there is a head
pub head_not_missing : (bytes : List ℕ) (start : ℕ) → IsBytes bytes → IsPlaced bytes start → None ≡ entry_head_at (drop start bytes) → ⊥
head_not_missing bytes start fits placed e =
    let is = head_is (drop start bytes) placed.0 (IsBytes-drop start bytes fits) placed.1 in
    none_is_some (e ∙ is)
  where
    none_is_some : {x : Head × List ℕ} → None ≡ Some x → ⊥
    none_is_some e = absurd cc

-- The spelling of an entry is before the bytes after the entry.
pub spelling_there : (bytes rest : List ℕ) → IsBytes bytes → Some rest ≡ option_map (λ x. x.1) (entry_at bytes) → bytes ≡ spelling (data_of (entry_at bytes)) ++ rest
spelling_there bytes rest fits e =
    let found = entry_in_front bytes rest e in
    let t = entry_law.takes bytes (found.0, rest) fits found.1 in
    t.0.parts ∙ ap (λ r. spelling (data_of r) ++ rest) (sym found.1)

-- the number of bytes after it
pub rest_within : (bytes rest : List ℕ) → IsBytes bytes → Some rest ≡ option_map (λ x. x.1) (entry_at bytes) → length rest ≤ length bytes
rest_within bytes rest fits e =
    let all : length bytes ≡ length (spelling (data_of (entry_at bytes))) + length rest = ap length (spelling_there bytes rest fits e) ∙ length-append (spelling (data_of (entry_at bytes))) rest in
    omega (arith, all)

-- The bytes before those are the spelling.
pub spelling_in_front : (bytes rest : List ℕ) → IsBytes bytes → Some rest ≡ option_map (λ x. x.1) (entry_at bytes) → take (length bytes - length rest) bytes ≡ spelling (data_of (entry_at bytes))
spelling_in_front bytes rest fits e =
    let there = spelling_there bytes rest fits e in
    let all : length bytes ≡ length (spelling (data_of (entry_at bytes))) + length rest = ap length there ∙ length-append (spelling (data_of (entry_at bytes))) rest in
    let len : length (spelling (data_of (entry_at bytes))) ≡ length bytes - length rest = omega (arith, all) in
    ap (take (length bytes - length rest)) there ∙ take_at (spelling (data_of (entry_at bytes))) rest (length bytes - length rest) len

-- the bytes of an entry before its paths
front_of : EntryData → List ℕ
front_of x = to_be_bytes w32 (length (body x)) ++ head_spelling (head_of x)

front_len : (x : EntryData) → length (front_of x) ≡ 22 + length x.output + length x.command
unfolding front_of
front_len x =
    let a : length (to_be_bytes w32 (length (body x)) ++ head_spelling (head_of x)) ≡ 4 + length (head_spelling (head_of x)) = length-append (to_be_bytes w32 (length (body x))) (head_spelling (head_of x)) in
    let b = length-append (path_spelling x.output ++ command_spelling x.command ++ to_be_bytes w64 x.basis) (to_be_bytes w32 (length x.paths)) in
    let c = length-append (path_spelling x.output ++ command_spelling x.command) (to_be_bytes w64 x.basis) in
    let d = length-append (path_spelling x.output) (command_spelling x.command) in
    let e : length (path_spelling x.output) ≡ 2 + length x.output = length-append (to_be_bytes w16 (length x.output)) x.output in
    let f : length (command_spelling x.command) ≡ 4 + length x.command = length-append (to_be_bytes w32 (length x.command)) x.command in
    let g : length (to_be_bytes w64 x.basis) ≡ 8 = refl in
    let h : length (to_be_bytes w32 (length x.paths)) ≡ 4 = refl in
    omega (arith, a, b, c, d, e, f, g, h)

-- the place at which the paths of an entry begin, after the bytes before them
pub record PathsThere (bytes : List ℕ) (x : EntryData) : Type 0 where
  pub few_output : length x.output ≤ 4096
  pub few_command : length x.command ≤ 1048576
  pub rest : List ℕ
  pub read : some_paths_at (length x.paths) (drop (22 + length x.output + length x.command) bytes) ≡ Some (x.paths, rest)

-- The place at which the paths of the entry at `start` begin.
pub paths_there : (bytes : List ℕ) (start : ℕ) → IsBytes bytes → IsPlaced bytes start → PathsThere (drop start bytes) (data_of (entry_at (drop start bytes)))
unfolding spelling front_of
paths_there bytes start fits placed =
    let x = placed.0.0 in
    let rest = placed.0.1 in
    let t = entry_law.takes (drop start bytes) placed.0 (IsBytes-drop start bytes fits) placed.1 in
    let paths = flat_map path_spelling x.paths in
    let n32 = to_be_bytes w32 (length (body x)) in
    let parts : drop start bytes ≡ front_of x ++ (paths ++ rest) =
    t.0.parts ∙ append_assoc n32 (body x) rest ∙ ap (λ (b : List ℕ). n32 ++ b) (append_assoc (head_spelling (head_of x)) paths rest) ∙ sym (append_assoc n32 (head_spelling (head_of x)) (paths ++ rest)) in
    let there : drop (22 + length x.output + length x.command) (drop start bytes) ≡ paths ++ rest =
    ap (drop (22 + length x.output + length x.command)) parts ∙ drop_at (front_of x) (paths ++ rest) (22 + length x.output + length x.command) (front_len x) in
    subst (λ (y : EntryData). PathsThere (drop start bytes) y) (sym (ap data_of placed.1))
    (record {
      few_output = t.1.output.1;
      few_command = t.1.command;
      rest = rest;
      read = ap (some_paths_at (length x.paths)) there ∙ some_paths_again x.paths rest t.1.paths;
    })

-- the place at which a rest of some bytes begins, by its length
at_rest : (bytes : List ℕ) (n : ℕ) → drop (length bytes - length (drop n bytes)) bytes ≡ drop n bytes
at_rest bytes n =
    elim (cases_lt n (length bytes)) [
      | inl lt ↦ let same : length bytes - length (drop n bytes) ≡ n = omega (arith, lt, length-drop n bytes) in ap (λ k. drop k bytes) same
      | inr le ↦
          let all : length bytes - length (drop n bytes) ≡ length bytes = omega (arith, le, length-drop n bytes) in
          ap (λ k. drop k bytes) all ∙ drop_all (length bytes) bytes (omega arith) ∙ sym (drop_all n bytes le)
    ]

at_rest_behind : (bytes : List ℕ) (start front : ℕ) → drop (length bytes - length (drop front (drop start bytes))) bytes ≡ drop front (drop start bytes)
at_rest_behind bytes start front =
    let both : drop front (drop start bytes) ≡ drop (start + front) bytes = drop-drop front start bytes in
    ap (λ (r : List ℕ). drop (length bytes - length r) bytes) both ∙ at_rest bytes (start + front) ∙ sym both

-- the same by the head that was read, and by the place at which the rest of the bytes begins
pub record PathsBehind (bytes : List ℕ) (start : ℕ) (head : Head) (place : ℕ) : Type 0 where
  pub rest : List ℕ
  pub read : some_paths_at head.count (drop place bytes) ≡ Some ((data_of (entry_at (drop start bytes))).paths, rest)

pub paths_behind : (bytes : List ℕ) (start : ℕ) (head : Head) (place : ℕ) → IsBytes bytes → IsPlaced bytes start → head ≡ head_of (data_of (entry_at (drop start bytes)))
    → place ≡ length bytes - length (drop (22 + length head.output + length head.command) (drop start bytes)) → PathsBehind bytes start head place
paths_behind bytes start head place fits placed is at =
    let x = data_of (entry_at (drop start bytes)) in
    let there = paths_there bytes start fits placed in
    let front = 22 + length x.output + length x.command in
    let place_is : place ≡ length bytes - length (drop front (drop start bytes)) = at ∙ ap (λ (h : Head). length bytes - length (drop (22 + length h.output + length h.command) (drop start bytes))) is in
    let same : drop place bytes ≡ drop front (drop start bytes) = ap (λ n. drop n bytes) place_is ∙ at_rest_behind bytes start front in
    record {
      rest = there.rest;
      read = ap (λ (h : Head). some_paths_at h.count (drop place bytes)) is ∙ ap (some_paths_at (length x.paths)) same ∙ there.read;
    }

-- The spelling of the entry at `start` is read as that entry, with no bytes after it.
pub spelling_reads : (bytes : List ℕ) (start : ℕ) (text : List ℕ) → IsBytes bytes → IsPlaced bytes start → text ≡ spelling (data_of (entry_at (drop start bytes))) → entry_at text ≡ Some (data_of (entry_at (drop start bytes)), [])
spelling_reads bytes start text fits placed is =
    let t = entry_law.takes (drop start bytes) placed.0 (IsBytes-drop start bytes fits) placed.1 in
    spelled_again text (data_of (entry_at (drop start bytes))) (subst HasSpelling (sym (ap data_of placed.1)) t.1) is
