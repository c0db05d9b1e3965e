-- Entries are read as they were written, and each written entry can be read.
use Rattle.std.proofs.Common.{◌≡◌, ℕ, zero, suc, ◌+◌, ◌^◌, ◌<◌, ◌≤◌, Bool, true, false, ◌||◌, cond, ltb, eqb, List, [], ◌∷◌, ◌++◌, length, get_or, take, drop, Option, Some, None, refl, sym, ap, subst, ◌∙◌, append_assoc, arith, inl, inr}
use Rattle.std.specs.Int.{Width, w16, w32, w64, byte_len, from_be_bytes, to_be_bytes}
use Rattle.std.specs.List.{flat_map, AllByRecursion}
use Rattle.std.proofs.lemmas.Bool.{cases_lt, ltb-false, le-ltb, ne_eqb}
use Rattle.std.proofs.lemmas.List.{append-nil, take_at, drop_at, take-append-drop, length-append, length-take, get_or-drop, get_or-take, get_or_past}
use Rattle.std.proofs.lemmas.List.Concat.{flat_map-cons}
use Rattle.std.proofs.lemmas.Nat.{be_bytes_2, be_bytes_4, be_bytes_8, from_be_bytes-to_be_bytes_2, from_be_bytes-to_be_bytes_4, from_be_bytes-to_be_bytes_8}
use Rattle.plan_record.specs.Entries.{EntryData, path_spelling, command_spelling, body, spelling, IsPath, ArePartsFit, HasSpelling, IsPrefixFree}
use Rattle.plan_record.specs.Reading.{◌>>=◌, Read, number_at, bytes_at, path_at, command_at, some_paths_at, Head, head_of, head_at, entry_head_at, with_paths, body_at, exactly, entry_of, entry_at}

abbrev pub IsBytes : List ℕ → Type 0
IsBytes bytes = (i : ℕ) → get_or bytes i 0 < 256

-- the bytes that a reader took from the front
pub record Takes (bytes text rest : List ℕ) : Type 0 where
  pub parts : bytes ≡ text ++ rest
  pub rest_fits : IsBytes rest

Takes-then : (a x b y c : List ℕ) → Takes a x b → Takes b y c → Takes a (x ++ y) c
Takes-then a x b y c p q = record { parts = p.parts ∙ ap (λ (t : List ℕ). x ++ t) q.parts ∙ sym (append_assoc x y c); rest_fits = q.rest_fits }

pub bind_some : {A B : Type 0} (r : Option A) (f : A → Option B) (y : B) → (r >>= f) ≡ Some y → (x : A) × (r ≡ Some x) × (f x ≡ Some y)
bind_some (Some x) f y e = (x, refl, e)
bind_some None f y e = absurd cc

pub some_is : {A : Type 0} (x y : A) → Some x ≡ Some y → x ≡ y
some_is x y e = cc

-- a test that refuses was false
passes : {A : Type 0} (b : Bool) (r : Option A) (y : A) → cond b None r ≡ Some y → (b ≡ false) × (r ≡ Some y)
passes true r y e = absurd cc
passes false r y e = (refl, e)

pub IsBytes-drop : (n : ℕ) (bytes : List ℕ) → IsBytes bytes → IsBytes (drop n bytes)
IsBytes-drop n bytes h i = rw get_or-drop (h (n + i))

IsBytes-take : (n : ℕ) (bytes : List ℕ) → IsBytes bytes → IsBytes (take n bytes)
IsBytes-take n bytes h i =
    elim (cases_lt i n) [
      | inl lt ↦ rw (get_or-take n bytes i 0 lt) (h i)
      | inr le ↦ rw (get_or_past (take n bytes) i 0 (omega (arith, length-take n bytes))) (omega arith)
    ]

-- a reader and a speller of the same items
pub record IsReader {X : Type 0} (item : List ℕ → Read X) (spell : X → List ℕ) (Fits : X → Type 0) : Type 0 where
  pub takes : (bytes : List ℕ) (x : X × List ℕ) → IsBytes bytes → item bytes ≡ Some x → Takes bytes (spell x.0) x.1 × Fits x.0
  pub again : (x : X) (rest : List ℕ) → Fits x → item (spell x ++ rest) ≡ Some (x, rest)

-- the bytes that a first step took, if the whole didn't fail
opens : {X Y : Type 0} {item : List ℕ → Read X} {spell : X → List ℕ} {Fits : X → Type 0} → IsReader item spell Fits
    → (f : X × List ℕ → Option Y) (bytes : List ℕ) (y : Y) → IsBytes bytes → (item bytes >>= f) ≡ Some y
    → (x : X × List ℕ) × Takes bytes (spell x.0) x.1 × Fits x.0 × (f x ≡ Some y)
opens {item = item} r f bytes y fits e =
    let a = bind_some (item bytes) f y e in
    let t = r.takes bytes a.0 fits a.1 in
    (a.0, t.0, t.1, a.2)

-- ---- numbers

pub record IsWide (w : Width) (limit : ℕ) : Type 0 where
  pub len : (n : ℕ) → length (to_be_bytes w n) ≡ byte_len w
  pub back : (bytes : List ℕ) → length bytes ≡ byte_len w → IsBytes bytes → to_be_bytes w (from_be_bytes w bytes) ≡ bytes
  pub again : (n : ℕ) → n < limit → from_be_bytes w (to_be_bytes w n) ≡ n
  pub below : (bytes : List ℕ) → IsBytes bytes → from_be_bytes w bytes < limit

wide16 : IsWide w16 (2 ^ 16)
wide16 = record {
  len = λ n. refl;
  back = λ bytes len fits. be_bytes_2 bytes _ len fits refl;
  again = λ n lt. from_be_bytes-to_be_bytes_2 n lt;
  below = λ bytes fits. omega (arith, fits 0, fits 1);
}

pub wide32 : IsWide w32 (2 ^ 32)
wide32 = record {
  len = λ n. refl;
  back = λ bytes len fits. be_bytes_4 bytes _ len fits refl;
  again = λ n lt. from_be_bytes-to_be_bytes_4 n lt;
  below = λ bytes fits. omega (arith, fits 0, fits 1, fits 2, fits 3);
}

wide64 : IsWide w64 (2 ^ 64)
wide64 = record {
  len = λ n. refl;
  back = λ bytes len fits. be_bytes_8 bytes _ len fits refl;
  again = λ n lt. from_be_bytes-to_be_bytes_8 n lt;
  below = λ bytes fits. omega (arith, fits 0, fits 1, fits 2, fits 3, fits 4, fits 5, fits 6, fits 7);
}

number_takes : (w : Width) (limit : ℕ) (wide : IsWide w limit) (bytes : List ℕ) (x : ℕ × List ℕ) → IsBytes bytes → number_at w bytes ≡ Some x → Takes bytes (to_be_bytes w x.0) x.1 × (x.0 < limit)
unfolding number_at
number_takes w limit wide bytes x fits e =
    let g = passes (ltb (length bytes) (byte_len w)) (Some (from_be_bytes w (take (byte_len w) bytes), drop (byte_len w) bytes)) x e in
    let long : byte_len w ≤ length bytes = ltb-false _ _ g.0 in
    let front : to_be_bytes w (from_be_bytes w (take (byte_len w) bytes)) ≡ take (byte_len w) bytes = wide.back (take (byte_len w) bytes) (omega (arith, length-take (byte_len w) bytes)) (IsBytes-take (byte_len w) bytes fits) in
    subst (λ (p : ℕ × List ℕ). Takes bytes (to_be_bytes w p.0) p.1 × (p.0 < limit)) (some_is _ _ g.1)
    (record { parts = rw front (sym (take-append-drop (byte_len w) bytes)); rest_fits = IsBytes-drop (byte_len w) bytes fits }, wide.below (take (byte_len w) bytes) (IsBytes-take (byte_len w) bytes fits))

number_again : (w : Width) (limit : ℕ) (wide : IsWide w limit) (n : ℕ) (rest : List ℕ) → n < limit → number_at w (to_be_bytes w n ++ rest) ≡ Some (n, rest)
unfolding number_at
number_again w limit wide n rest lt =
    let len = wide.len n in
    let long : ltb (length (to_be_bytes w n ++ rest)) (byte_len w) ≡ false = le-ltb _ _ (omega (arith, length-append (to_be_bytes w n) rest)) in
    rw (long, take_at (to_be_bytes w n) rest (byte_len w) len, drop_at (to_be_bytes w n) rest (byte_len w) len, wide.again n lt) refl

pub number_law : (w : Width) (limit : ℕ) → IsWide w limit → IsReader (number_at w) (to_be_bytes w) (λ n. n < limit)
number_law w limit wide = record { takes = number_takes w limit wide; again = number_again w limit wide }

-- ---- paths and commands

bytes_takes : (n : ℕ) (bytes : List ℕ) (x : List ℕ × List ℕ) → IsBytes bytes → bytes_at n bytes ≡ Some x → Takes bytes x.0 x.1 × (length x.0 ≡ n)
unfolding bytes_at
bytes_takes n bytes x fits e =
    let g = passes (ltb (length bytes) n) (Some (take n bytes, drop n bytes)) x e in
    let long : n ≤ length bytes = ltb-false _ _ g.0 in
    subst (λ (p : List ℕ × List ℕ). Takes bytes p.0 p.1 × (length p.0 ≡ n)) (some_is _ _ g.1)
    (record { parts = sym (take-append-drop n bytes); rest_fits = IsBytes-drop n bytes fits }, omega (arith, length-take n bytes))

bytes_again : (text rest : List ℕ) → bytes_at (length text) (text ++ rest) ≡ Some (text, rest)
unfolding bytes_at
bytes_again text rest =
    let long : ltb (length (text ++ rest)) (length text) ≡ false = le-ltb _ _ (omega (arith, length-append text rest)) in
    rw (long, take_at text rest (length text) refl, drop_at text rest (length text) refl) refl

-- a length, and that many bytes
text_takes : (w : Width) (bytes : List ℕ) (n : ℕ × List ℕ) (x : List ℕ × List ℕ) → Takes bytes (to_be_bytes w n.0) n.1 → bytes_at n.0 n.1 ≡ Some x → Takes bytes (to_be_bytes w (length x.0) ++ x.0) x.1 × (length x.0 ≡ n.0)
text_takes w bytes n x t e =
    let b = bytes_takes n.0 n.1 x t.rest_fits e in
    (subst (λ (k : ℕ). Takes bytes (to_be_bytes w k ++ x.0) x.1) (sym b.1) (Takes-then bytes (to_be_bytes w n.0) n.1 x.0 x.1 t b.0), b.1)

pub path_law : IsReader path_at path_spelling IsPath
unfolding path_at
path_law = record {
  takes = λ bytes x fits e.
      let a = opens (number_law w16 (2 ^ 16) wide16) (λ n. cond (eqb n.0 0 || ltb 4096 n.0) None (bytes_at n.0 n.1)) bytes x fits e in
      let c = passes (eqb a.0.0 0 || ltb 4096 a.0.0) (bytes_at a.0.0 a.0.1) x a.3 in
      let b = text_takes w16 bytes a.0 x a.1 c.1 in
      let range = in_range a.0.0 c.0 in
      (b.0, (rw b.1 range.0, rw b.1 range.1));
  again = λ path rest fits.
      ap path_at (append_assoc (to_be_bytes w16 (length path)) path rest)
      ∙ rw (number_again w16 (2 ^ 16) wide16 (length path) (path ++ rest) (omega (arith, fits.1)), tested (length path) fits.0 fits.1, bytes_again path rest) refl;
} where
  in_range : (n : ℕ) → (eqb n 0 || ltb 4096 n) ≡ false → (0 < n) × (n ≤ 4096)
  in_range zero e = absurd cc
  in_range (suc n) e =
      let some : eqb (suc n) 0 ≡ false = ne_eqb (suc n) 0 (λ z. omega (arith, z)) in
      (omega arith, ltb-false 4096 (suc n) (subst (λ (b : Bool). (b || ltb 4096 (suc n)) ≡ false) some e))

  tested : (n : ℕ) → 0 < n → n ≤ 4096 → (eqb n 0 || ltb 4096 n) ≡ false
  tested n some most = rw (ne_eqb n 0 (λ e. omega (arith, some, e)), le-ltb 4096 n most) refl

command_law : IsReader command_at command_spelling (λ t. length t ≤ 1048576)
unfolding command_at
command_law = record {
  takes = λ bytes x fits e.
      let a = opens (number_law w32 (2 ^ 32) wide32) (λ n. cond (ltb 1048576 n.0) None (bytes_at n.0 n.1)) bytes x fits e in
      let c = passes (ltb 1048576 a.0.0) (bytes_at a.0.0 a.0.1) x a.3 in
      let b = text_takes w32 bytes a.0 x a.1 c.1 in
      let most : a.0.0 ≤ 1048576 = ltb-false 1048576 a.0.0 c.0 in
      (b.0, rw b.1 most);
  again = λ text rest fits.
      ap command_at (append_assoc (to_be_bytes w32 (length text)) text rest)
      ∙ rw (number_again w32 (2 ^ 32) wide32 (length text) (text ++ rest) (omega (arith, fits)), le-ltb 1048576 (length text) fits, bytes_again text rest) refl;
}

-- ---- lists of paths

some_paths_take : (n : ℕ) (bytes : List ℕ) (x : List (List ℕ) × List ℕ) → IsBytes bytes → some_paths_at n bytes ≡ Some x
    → Takes bytes (flat_map path_spelling x.0) x.1 × (length x.0 ≡ n) × AllByRecursion IsPath x.0
unfolding some_paths_at
some_paths_take zero bytes x fits e =
    subst (λ (y : List (List ℕ) × List ℕ). Takes bytes (flat_map path_spelling y.0) y.1 × (length y.0 ≡ 0) × AllByRecursion IsPath y.0) (some_is ([], bytes) x e)
    (record { parts = refl; rest_fits = fits }, refl, tt)
some_paths_take (suc n) bytes x fits e =
    let a = opens path_law (λ path. some_paths_at n path.1 >>= λ paths. Some (path.0 ∷ paths.0, paths.1)) bytes x fits e in
    let b = bind_some (some_paths_at n a.0.1) (λ paths. Some (a.0.0 ∷ paths.0, paths.1)) x a.3 in
    let more = some_paths_take n a.0.1 b.0 a.1.rest_fits b.1 in
    let both = Takes-then bytes (path_spelling a.0.0) a.0.1 (flat_map path_spelling b.0.0) b.0.1 a.1 more.0 in
    let made : List (List ℕ) × List ℕ = (a.0.0 ∷ b.0.0, b.0.1) in
    subst (λ (y : List (List ℕ) × List ℕ). Takes bytes (flat_map path_spelling y.0) y.1 × (length y.0 ≡ suc n) × AllByRecursion IsPath y.0) (some_is made x b.2)
    (rw flat_map-cons both, ap suc more.1, (a.2, more.2))

pub some_paths_again : (paths : List (List ℕ)) (rest : List ℕ) → AllByRecursion IsPath paths → some_paths_at (length paths) (flat_map path_spelling paths ++ rest) ≡ Some (paths, rest)
unfolding some_paths_at
some_paths_again [] rest fits = refl
some_paths_again (path ∷ paths) rest fits =
    let regrouped : flat_map path_spelling (path ∷ paths) ++ rest ≡ path_spelling path ++ (flat_map path_spelling paths ++ rest) =
    ap (λ (t : List ℕ). t ++ rest) (flat_map-cons path_spelling path paths) ∙ append_assoc (path_spelling path) (flat_map path_spelling paths) rest in
    ap (some_paths_at (suc (length paths))) regrouped ∙ rw (path_law.again path (flat_map path_spelling paths ++ rest) fits.0, some_paths_again paths rest fits.1) refl

-- ---- bodies and entries

-- the fields before the paths
abbrev pub head_spelling : Head → List ℕ
head_spelling h = path_spelling h.output ++ command_spelling h.command ++ to_be_bytes w64 h.basis ++ to_be_bytes w32 h.count

record IsHead (h : Head) : Type 0 where
  output : IsPath h.output
  command : length h.command ≤ 1048576
  basis : h.basis < 2 ^ 64
  count : h.count < 2 ^ 32

head_law : IsReader head_at head_spelling IsHead
unfolding head_at
head_law = record {
  takes = λ bytes x fits e.
      let o = opens path_law (λ output. command_at output.1 >>= λ command. number_at w64 command.1 >>= λ basis. number_at w32 basis.1 >>= λ count. Some (record { output = output.0; command = command.0; basis = basis.0; count = count.0 }, count.1)) bytes x fits e in
      let c = opens command_law (λ command. number_at w64 command.1 >>= λ basis. number_at w32 basis.1 >>= λ count. Some (record { output = o.0.0; command = command.0; basis = basis.0; count = count.0 }, count.1)) o.0.1 x o.1.rest_fits o.3 in
      let b = opens (number_law w64 (2 ^ 64) wide64) (λ basis. number_at w32 basis.1 >>= λ count. Some (record { output = o.0.0; command = c.0.0; basis = basis.0; count = count.0 }, count.1)) c.0.1 x c.1.rest_fits c.3 in
      let n = opens (number_law w32 (2 ^ 32) wide32) (λ count. Some (record { output = o.0.0; command = c.0.0; basis = b.0.0; count = count.0 }, count.1)) b.0.1 x b.1.rest_fits b.3 in
      let two = Takes-then bytes (path_spelling o.0.0) o.0.1 (command_spelling c.0.0) c.0.1 o.1 c.1 in
      let three = Takes-then bytes (path_spelling o.0.0 ++ command_spelling c.0.0) c.0.1 (to_be_bytes w64 b.0.0) b.0.1 two b.1 in
      let all = Takes-then bytes (path_spelling o.0.0 ++ command_spelling c.0.0 ++ to_be_bytes w64 b.0.0) b.0.1 (to_be_bytes w32 n.0.0) n.0.1 three n.1 in
      let made : Head × List ℕ = (record { output = o.0.0; command = c.0.0; basis = b.0.0; count = n.0.0 }, n.0.1) in
      subst (λ (y : Head × List ℕ). Takes bytes (head_spelling y.0) y.1 × IsHead y.0) (some_is made x n.3)
      (all, record { output = o.2; command = c.2; basis = b.2; count = n.2 });
  again = λ h rest fits.
      ap head_at (regroup (path_spelling h.output) (command_spelling h.command) (to_be_bytes w64 h.basis) (to_be_bytes w32 h.count) rest)
      ∙ rw (
        path_law.again h.output (command_spelling h.command ++ (to_be_bytes w64 h.basis ++ (to_be_bytes w32 h.count ++ rest))) fits.output,
        command_law.again h.command (to_be_bytes w64 h.basis ++ (to_be_bytes w32 h.count ++ rest)) fits.command,
        number_again w64 (2 ^ 64) wide64 h.basis (to_be_bytes w32 h.count ++ rest) fits.basis,
        number_again w32 (2 ^ 32) wide32 h.count rest fits.count,
      ) refl;
} where
  regroup : (a b c d rest : List ℕ) → (a ++ b ++ c ++ d) ++ rest ≡ a ++ (b ++ (c ++ (d ++ rest)))
  regroup a b c d rest = simp append_assoc

body_law : IsReader body_at body ArePartsFit
unfolding body_at
body_law = record {
  takes = λ bytes x fits e.
      let h = opens head_law (λ h. some_paths_at h.0.count h.1 >>= λ paths. Some (with_paths h.0 paths.0, paths.1)) bytes x fits e in
      let b = bind_some (some_paths_at h.0.0.count h.0.1) (λ paths. Some (with_paths h.0.0 paths.0, paths.1)) x h.3 in
      let p = some_paths_take h.0.0.count h.0.1 b.0 h.1.rest_fits b.1 in
      let both = Takes-then bytes (head_spelling h.0.0) h.0.1 (flat_map path_spelling b.0.0) b.0.1 h.1 p.0 in
      let few = h.2.count in
      let made : EntryData × List ℕ = (with_paths h.0.0 b.0.0, b.0.1) in
      subst (λ (y : EntryData × List ℕ). Takes bytes (body y.0) y.1 × ArePartsFit y.0) (some_is made x b.2) (
        subst (λ (k : ℕ). Takes bytes (path_spelling h.0.0.output ++ command_spelling h.0.0.command ++ to_be_bytes w64 h.0.0.basis ++ to_be_bytes w32 k ++ flat_map path_spelling b.0.0) b.0.1) (sym p.1) both,
        record { output = h.2.output; command = h.2.command; basis = h.2.basis; count = rw p.1 few; paths = p.2 },
      );
  again = λ x rest fits.
      ap body_at (append_assoc (head_spelling (head_of x)) (flat_map path_spelling x.paths) rest)
      ∙ rw (
        head_law.again (head_of x) (flat_map path_spelling x.paths ++ rest) (record { output = fits.output; command = fits.command; basis = fits.basis; count = fits.count }),
        some_paths_again x.paths rest fits.paths,
      ) refl;
}

-- a body with nothing after it
exactly_is : {X : Type 0} (x : X × List ℕ) (y : X) → exactly x ≡ Some y → x ≡ (y, [])
exactly_is (x, []) y e = cc
exactly_is (x, b ∷ bytes) y e = absurd cc

-- bytes that are the body of an entry are spelled so
pub entry_of_is : (bytes : List ℕ) (x : EntryData) → IsBytes bytes → entry_of bytes ≡ Some x → (bytes ≡ body x) × ArePartsFit x
unfolding entry_of
entry_of_is bytes x fits e =
    let a = bind_some (body_at bytes) exactly x e in
    let whole = exactly_is a.0 x a.2 in
    let t = body_law.takes bytes a.0 fits a.1 in
    let parts : Takes bytes (body x) [] × ArePartsFit x = subst (λ (y : EntryData × List ℕ). Takes bytes (body y.0) y.1 × ArePartsFit y.0) whole t in
    (parts.0.parts ∙ append-nil (body x), parts.1)

pub entry_of_again : (x : EntryData) → ArePartsFit x → entry_of (body x) ≡ Some x
unfolding entry_of
entry_of_again x fits = ap entry_of (sym (append-nil (body x))) ∙ rw (body_law.again x [] fits) refl

pub front_fits : (n : ℕ) (bytes : List ℕ) (x : List ℕ × List ℕ) → IsBytes bytes → bytes_at n bytes ≡ Some x → IsBytes x.0
unfolding bytes_at
front_fits n bytes x fits e =
    let g = passes (ltb (length bytes) n) (Some (take n bytes, drop n bytes)) x e in
    subst (λ (p : List ℕ × List ℕ). IsBytes p.0) (some_is _ _ g.1) (IsBytes-take n bytes fits)

-- The parts of an entry that has a spelling are within their limits.
pub parts_of : (x : EntryData) → HasSpelling x → ArePartsFit x
parts_of x h = record { output = h.output; command = h.command; basis = h.basis; count = h.count; paths = h.paths }

pub entry_law : IsReader entry_at spelling HasSpelling
unfolding entry_at spelling
entry_law = record {
  takes = λ bytes x fits e.
      let n = opens (number_law w32 (2 ^ 32) wide32) (λ n. bytes_at n.0 n.1 >>= λ body. entry_of body.0 >>= λ x. Some (x, body.1)) bytes x fits e in
      let b = bind_some (bytes_at n.0.0 n.0.1) (λ body. entry_of body.0 >>= λ x. Some (x, body.1)) x n.3 in
      let y = bind_some (entry_of b.0.0) (λ x. Some (x, b.0.1)) x b.2 in
      let t = text_takes w32 bytes n.0 b.0 n.1 b.1 in
      let front : IsBytes b.0.0 = front_fits n.0.0 n.0.1 b.0 n.1.rest_fits b.1 in
      let is = entry_of_is b.0.0 y.0 front y.1 in
      let few : length b.0.0 < 2 ^ 32 = rw t.1 n.2 in
      let long : length (body y.0) < 2 ^ 32 = subst (λ (k : List ℕ). length k < 2 ^ 32) is.0 few in
      subst (λ (z : EntryData × List ℕ). Takes bytes (to_be_bytes w32 (length (body z.0)) ++ body z.0) z.1 × HasSpelling z.0) (some_is _ _ y.2) (
        subst (λ (k : List ℕ). Takes bytes (to_be_bytes w32 (length k) ++ k) b.0.1) is.0 t.0,
        record { output = is.1.output; command = is.1.command; basis = is.1.basis; count = is.1.count; paths = is.1.paths; body = long },
      );
  again = λ x rest fits.
      ap entry_at (append_assoc (to_be_bytes w32 (length (body x))) (body x) rest)
      ∙ rw (number_again w32 (2 ^ 32) wide32 (length (body x)) (body x ++ rest) fits.body, bytes_again (body x) rest, entry_of_again x (parts_of x fits)) refl;
}

-- No spelling of an entry is a prefix of another one.
pub prefix_free : IsPrefixFree
prefix_free x y rest fx fy e =
    let one : entry_at (spelling x ++ rest) ≡ Some (x, rest) = entry_law.again x rest fx in
    let other : entry_at (spelling y ++ []) ≡ Some (y, []) = entry_law.again y [] fy in
    let same : spelling x ++ rest ≡ spelling y ++ [] = e ∙ sym (append-nil (spelling y)) in
    let both : (x, rest) ≡ (y, []) = some_is _ _ (sym one ∙ ap entry_at same ∙ other) in
    (ap (λ (p : EntryData × List ℕ). p.0) both, ap (λ (p : EntryData × List ℕ). p.1) both)

-- ---- reading at the place of an entry

head_again : (x : EntryData) (rest : List ℕ) → HasSpelling x → entry_head_at (spelling x ++ rest) ≡ Some (head_of x, flat_map path_spelling x.paths)
unfolding entry_head_at spelling
head_again x rest fits =
    ap entry_head_at (append_assoc (to_be_bytes w32 (length (body x))) (body x) rest)
    ∙ rw (number_again w32 (2 ^ 32) wide32 (length (body x)) (body x ++ rest) fits.body, bytes_again (body x) rest)
    (head_law.again (head_of x) (flat_map path_spelling x.paths) (record { output = fits.output; command = fits.command; basis = fits.basis; count = fits.count }))

-- The head of an entry, and the bytes of its paths after it.
pub head_is : (bytes : List ℕ) (x : EntryData × List ℕ) → IsBytes bytes → entry_at bytes ≡ Some x → entry_head_at bytes ≡ Some (head_of x.0, flat_map path_spelling x.0.paths)
head_is bytes x fits e =
    let t = entry_law.takes bytes x fits e in
    ap entry_head_at t.0.parts ∙ head_again x.0 x.1 t.1

-- The paths of an entry fill the bytes after its head.
pub paths_fill : (bytes : List ℕ) (x : EntryData × List ℕ) → IsBytes bytes → entry_at bytes ≡ Some x → some_paths_at (length x.0.paths) (flat_map path_spelling x.0.paths) ≡ Some (x.0.paths, [])
paths_fill bytes x fits e =
    let t = entry_law.takes bytes x fits e in
    ap (some_paths_at (length x.0.paths)) (sym (append-nil (flat_map path_spelling x.0.paths))) ∙ some_paths_again x.0.paths [] t.1.paths

-- Items of a Vec that are bytes.
pub vec_bytes : (bytes : List ℕ) → ((i : ℕ) → i < length bytes → get_or bytes i 0 < 256) → IsBytes bytes
vec_bytes bytes each i =
    elim (cases_lt i (length bytes)) [
      | inl lt ↦ each i lt
      | inr le ↦ rw (get_or_past bytes i 0 le) (omega arith)
    ]

-- Bytes that spell an entry are read as that entry.
pub spelled_again : (bytes : List ℕ) (x : EntryData) → HasSpelling x → bytes ≡ spelling x → entry_at bytes ≡ Some (x, [])
spelled_again bytes x fits e = ap entry_at (e ∙ sym (append-nil (spelling x))) ∙ entry_law.again x [] fits
