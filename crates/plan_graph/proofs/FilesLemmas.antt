-- A table of paths, by its set and by the facts about each path. Lemmas for src/files.rt.
use Rattle.std.proofs.Common.{◌≡◌, ◌<◌, ◌≤◌, ◌+◌, ℕ, true, false, List, [], ◌∷◌, ◌++◌, ◌∙◌, inl, inr, Bool, Option, Some, None, refl, ap, arith, bytes_eq, cond, get_or, length, map, not, set, sym, zero, suc}
use Rattle.std.specs.Prelude.{◌||◌, if◌then◌else◌, position, nat_lt}
use Rattle.std.specs.List.{list_any, position_or_len, zip}
use Rattle.std.proofs.lemmas.Slice.Eq.{bytes_eq-Decides}
use Rattle.std.proofs.lemmas.Bool.{cases_lt, false≢true, le-ltb, lt-ltb}
use Rattle.plan_scope.specs.Edges.{is_among}
use Rattle.plan_graph.specs.declared.files.File.{File}
use Rattle.plan_graph.specs.Files.{Path, Table, file_at, file_of, number_of, paths_in, unknown, with_file}

file_zip : (ps : List Path) (fs : List File) (n : ℕ) → length fs ≡ length ps → file_at n (zip ps fs) ≡ get_or fs n unknown
file_zip [] [] n h = refl
file_zip [] (f ∷ fs) n h = absurd (omega (arith, h))
file_zip (p ∷ ps) [] n h = absurd (omega (arith, h))
file_zip (p ∷ ps) (f ∷ fs) zero h = refl
file_zip (p ∷ ps) (f ∷ fs) (suc n) h = file_zip ps fs n (omega (arith, h))

zip_paths : (ps : List Path) (fs : List File) → length fs ≡ length ps → paths_in (zip ps fs) ≡ ps
zip_paths [] [] h = refl
zip_paths [] (f ∷ fs) h = absurd (omega (arith, h))
zip_paths (p ∷ ps) [] h = absurd (omega (arith, h))
zip_paths (p ∷ ps) (f ∷ fs) h = ap (λ (qs : List Path). p ∷ qs) (zip_paths ps fs (omega (arith, h)))

zip_length : (ps : List Path) (fs : List File) → length fs ≡ length ps → length (zip ps fs) ≡ length ps
zip_length [] [] h = refl
zip_length [] (f ∷ fs) h = absurd (omega (arith, h))
zip_length (p ∷ ps) [] h = absurd (omega (arith, h))
zip_length (p ∷ ps) (f ∷ fs) h = ap suc (zip_length ps fs (omega (arith, h)))

-- the facts at the number of a path are those about the path
pub file_numbered : (files : Table) (path : Path) → file_at (number_of (paths_in files) path) files ≡ file_of path files
file_numbered [] path = refl
file_numbered (f ∷ fs) path =
    elim (bytes_eq path f.0) as (λ b. file_at (if b then 0 else suc (number_of (paths_in fs) path)) (f ∷ fs) ≡ (if b then f.1 else file_of path fs)) [ true ↦ refl | false ↦ file_numbered fs path ]

number_within : (ps : List Path) (path : Path) → is_among ps path ≡ true → number_of ps path < length ps
number_within [] path h = cc
number_within (p ∷ ps) path h =
    elim (bytes_eq path p) as (λ b. (b || is_among ps path) ≡ true → (if b then 0 else suc (number_of ps path)) < length (p ∷ ps))
    [ true ↦ λ _. omega arith | false ↦ λ i. let rest : number_of ps path < length ps = number_within ps path i in omega (arith, rest) ] h

number_past : (ps : List Path) (path : Path) → is_among ps path ≡ false → number_of ps path ≡ length ps
number_past [] path h = refl
number_past (p ∷ ps) path h =
    elim (bytes_eq path p) as (λ b. (b || is_among ps path) ≡ false → (if b then 0 else suc (number_of ps path)) ≡ length (p ∷ ps))
    [ true ↦ λ i. cc | false ↦ λ i. ap suc (number_past ps path i) ] h

-- the index of a path among keys is its number
pub number_is : {X : Type 0} (shown : X → Path) (path : Path) (keys : List X) → position_or_len (λ k. bytes_eq path (shown k)) keys ≡ number_of (map shown keys) path
number_is shown path [] = refl
number_is shown path (k ∷ ks) =
    let rest = number_is shown path ks in
    elim (bytes_eq path (shown k)) as (λ b. cond (not b) (1 + position_or_len (λ x. bytes_eq path (shown x)) ks) 0 ≡ (if b then 0 else suc (number_of (map shown ks) path)))
    [ true ↦ refl | false ↦ omega (arith, rest) ]

-- a path is among keys if one of them is the path
pub among_is : {X : Type 0} (shown : X → Path) (path : Path) (keys : List X) → list_any (λ k. bytes_eq path (shown k)) keys ≡ is_among (map shown keys) path
among_is shown path [] = refl
among_is shown path (k ∷ ks) = ap (λ (b : Bool). bytes_eq path (shown k) || b) (among_is shown path ks)

map_length : {X : Type 0} (shown : X → Path) (keys : List X) → length (map shown keys) ≡ length keys
map_length shown [] = refl
map_length shown (k ∷ ks) = ap suc (map_length shown ks)

-- the number of a path, if it has one
pub place_is : {X : Type 0} (shown : X → Path) (path : Path) (keys : List X)
    → position (λ k. bytes_eq path (shown k)) keys ≡ (if is_among (map shown keys) path then Some (number_of (map shown keys) path) else None)
place_is shown path keys =
    let ps = map shown keys in
    ap (λ n. cond (nat_lt n (length keys)) (Some n) None) (number_is shown path keys)
    ∙ (ap (λ n. cond (nat_lt (number_of ps path) n) (Some (number_of ps path)) None) (sym (map_length shown keys))
    ∙ elim (is_among ps path) as (λ b. is_among ps path ≡ b → cond (nat_lt (number_of ps path) (length ps)) (Some (number_of ps path)) None ≡ (if b then Some (number_of ps path) else None)) [
      | true ↦ λ e. ap (λ (b : Bool). cond b (Some (number_of ps path)) None) (lt-ltb (number_of ps path) (length ps) (number_within ps path e))
      | false ↦ λ e. ap (λ (b : Bool). cond b (Some (number_of ps path)) None) (le-ltb (number_of ps path) (length ps) (let past : number_of ps path ≡ length ps = number_past ps path e in omega (arith, past)))
    ] refl)

-- the facts about a path in the table stay the same
named_before : (files : Table) (path : Path) → is_among (paths_in files) path ≡ true → files ≡ with_file files path (file_of path files)
named_before [] path h = cc
named_before (f ∷ fs) path h =
    elim (bytes_eq path f.0) as (λ b. (b || is_among (paths_in fs) path) ≡ true
    → f ∷ fs ≡ (if b then (f.0, (if b then f.1 else file_of path fs)) ∷ fs else f ∷ with_file fs path (if b then f.1 else file_of path fs)))
    [ true ↦ λ i. refl | false ↦ λ i. ap (λ (t : Table). f ∷ t) (named_before fs path i) ] h

-- there are no facts about a new path
named_now : (files : Table) (path : Path) → is_among (paths_in files) path ≡ false → files ++ (path, unknown) ∷ [] ≡ with_file files path (file_of path files)
named_now [] path h = refl
named_now (f ∷ fs) path h =
    elim (bytes_eq path f.0) as (λ b. (b || is_among (paths_in fs) path) ≡ false
    → f ∷ (fs ++ (path, unknown) ∷ []) ≡ (if b then (f.0, (if b then f.1 else file_of path fs)) ∷ fs else f ∷ with_file fs path (if b then f.1 else file_of path fs)))
    [ true ↦ λ i. cc | false ↦ λ i. ap (λ (t : Table). f ∷ t) (named_now fs path i) ] h

zip_push : (ps : List Path) (fs : List File) (path : Path) (file : File) → length fs ≡ length ps → zip (ps ++ path ∷ []) (fs ++ file ∷ []) ≡ zip ps fs ++ (path, file) ∷ []
zip_push [] [] path file h = refl
zip_push [] (f ∷ fs) path file h = absurd (omega (arith, h))
zip_push (p ∷ ps) [] path file h = absurd (omega (arith, h))
zip_push (p ∷ ps) (f ∷ fs) path file h = ap (λ (t : Table). (p, f) ∷ t) (zip_push ps fs path file (omega (arith, h)))

map_push : {X : Type 0} (shown : X → Path) (keys : List X) (key : X) → map shown (keys ++ key ∷ []) ≡ map shown keys ++ shown key ∷ []
map_push shown [] key = refl
map_push shown (k ∷ ks) key = ap (λ (ps : List Path). shown k ∷ ps) (map_push shown ks key)

-- the table after one more key
pub table_new : {X : Type 0} (shown : X → Path) (keys : List X) (fs : List File) (key : X) → length fs ≡ length keys → is_among (map shown keys) (shown key) ≡ false
    → zip (map shown (keys ++ key ∷ [])) (fs ++ unknown ∷ []) ≡ with_file (zip (map shown keys) fs) (shown key) (file_of (shown key) (zip (map shown keys) fs))
table_new shown keys fs key h new =
    let ps = map shown keys in
    let long : length fs ≡ length ps = h ∙ sym (map_length shown keys) in
    ap (λ (qs : List Path). zip qs (fs ++ unknown ∷ [])) (map_push shown keys key)
    ∙ (zip_push ps fs (shown key) unknown long ∙ named_now (zip ps fs) (shown key) (ap (λ (qs : List Path). is_among qs (shown key)) (zip_paths ps fs long) ∙ new))

-- a path in the table keeps the facts about it
pub table_old : {X : Type 0} (shown : X → Path) (keys : List X) (fs : List File) (key : X) → length fs ≡ length keys → is_among (map shown keys) (shown key) ≡ true
    → zip (map shown keys) fs ≡ with_file (zip (map shown keys) fs) (shown key) (file_of (shown key) (zip (map shown keys) fs))
table_old shown keys fs key h old =
    let ps = map shown keys in
    named_before (zip ps fs) (shown key) (ap (λ (qs : List Path). is_among qs (shown key)) (zip_paths ps fs (h ∙ sym (map_length shown keys))) ∙ old)

-- the paths of a table are those of its keys
pub paths_are : {X : Type 0} (shown : X → Path) (keys : List X) (fs : List File) → length fs ≡ length keys → paths_in (zip (map shown keys) fs) ≡ map shown keys
paths_are shown keys fs h = zip_paths (map shown keys) fs (h ∙ sym (map_length shown keys))

-- a table is as long as its keys
pub table_length : {X : Type 0} (shown : X → Path) (keys : List X) (fs : List File) → length fs ≡ length keys → length (zip (map shown keys) fs) ≡ length keys
table_length shown keys fs h = zip_length (map shown keys) fs (h ∙ sym (map_length shown keys)) ∙ map_length shown keys

-- the facts at a number
pub table_at : {X : Type 0} (shown : X → Path) (keys : List X) (fs : List File) (n : ℕ) → length fs ≡ length keys → file_at n (zip (map shown keys) fs) ≡ get_or fs n unknown
table_at shown keys fs n h = file_zip (map shown keys) fs n (h ∙ sym (map_length shown keys))

-- facts that are stored at the number of a path are facts about the path
zip_set : (ps : List Path) (fs : List File) (path : Path) (file : File) → length fs ≡ length ps → number_of ps path < length ps → zip ps (set fs (number_of ps path) file) ≡ with_file (zip ps fs) path file
zip_set [] fs path file h lt = absurd (omega (arith, lt))
zip_set (p ∷ ps) [] path file h lt = absurd (omega (arith, h))
zip_set (p ∷ ps) (f ∷ fs) path file h lt =
    elim (bytes_eq path p) as (λ b. (if b then 0 else suc (number_of ps path)) < length (p ∷ ps)
    → zip (p ∷ ps) (set (f ∷ fs) (if b then 0 else suc (number_of ps path)) file) ≡ (if b then (p, file) ∷ zip ps fs else (p, f) ∷ with_file (zip ps fs) path file))
    [ true ↦ λ _. refl | false ↦ λ l. ap (λ (t : Table). (p, f) ∷ t) (zip_set ps fs path file (omega (arith, h)) (omega (arith, l))) ] lt

-- the facts about a path are stored at its number
pub table_set : {X : Type 0} (shown : X → Path) (keys : List X) (fs : List File) (path : Path) (file : File) (n : ℕ) → length fs ≡ length keys → n < length fs
    → n ≡ number_of (paths_in (zip (map shown keys) fs)) path → zip (map shown keys) (set fs n file) ≡ with_file (zip (map shown keys) fs) path file
table_set shown keys fs path file n h lt e =
    let ps = map shown keys in
    let long : length fs ≡ length ps = h ∙ sym (map_length shown keys) in
    let place : n ≡ number_of ps path = e ∙ ap (λ (qs : List Path). number_of qs path) (zip_paths ps fs long) in
    ap (λ k. zip ps (set fs k file)) place ∙ zip_set ps fs path file long (omega (arith, place, lt, long))

-- if a number is found, it is that of the path
pub place_given : (ps : List Path) (path : Path) (n : ℕ) → Some n ≡ (if is_among ps path then Some (number_of ps path) else None) → n ≡ number_of ps path
place_given ps path n h = elim (is_among ps path) as (λ b. Some n ≡ (if b then Some (number_of ps path) else None) → n ≡ number_of ps path) [ true ↦ λ e. cc | false ↦ λ e. cc ] h

-- if no number is found, the path is not in the table
pub place_missing : (ps : List Path) (path : Path) → ◌≡◌ {A = Option ℕ} None (if is_among ps path then Some (number_of ps path) else None) → is_among ps path ≡ false
place_missing ps path h = elim (is_among ps path) as (λ b. ◌≡◌ {A = Option ℕ} None (if b then Some (number_of ps path) else None) → b ≡ false) [ true ↦ λ e. cc | false ↦ λ e. refl ] h

-- there are no facts about a path that is not in the table
pub file_missing : (files : Table) (path : Path) → is_among (paths_in files) path ≡ false → unknown ≡ file_of path files
file_missing [] path h = refl
file_missing (f ∷ fs) path h =
    elim (bytes_eq path f.0) as (λ b. (b || is_among (paths_in fs) path) ≡ false → unknown ≡ (if b then f.1 else file_of path fs)) [ true ↦ λ i. cc | false ↦ λ i. file_missing fs path i ] h

-- a number that is not below a length
pub not_below : (n len : ℕ) → false ≡ nat_lt n len → len ≤ n
not_below n len h = elim (cases_lt n len) [ inl lt ↦ absurd (false≢true (h ∙ lt-ltb n len lt)) | inr ge ↦ ge ]

-- a key that is new was not in the table
pub was_new : (there new : Bool) → new ≡ not there → new ≡ true → there ≡ false
was_new true new e h = sym h ∙ e
was_new false new e h = refl

-- a key that is not new was in the table
pub was_old : (there new : Bool) → new ≡ not there → new ≡ false → there ≡ true
was_old true new e h = refl
was_old false new e h = sym h ∙ e

-- the keys after a new one
pub keys_new : {X : Type 0} (there : Bool) (keys : List X) (key : X) → there ≡ false → (if there then keys else keys ++ key ∷ []) ≡ keys ++ key ∷ []
keys_new there keys key h = ap (λ (b : Bool). if b then keys else keys ++ key ∷ []) h

-- the keys stay the same if the key is there
pub keys_old : {X : Type 0} (there : Bool) (keys : List X) (key : X) → there ≡ true → (if there then keys else keys ++ key ∷ []) ≡ keys
keys_old there keys key h = ap (λ (b : Bool). if b then keys else keys ++ key ∷ []) h

-- the number of a path is within the table that has it
pub named_within : (files : Table) (path : Path) (file : File) → number_of (paths_in files) path < length (with_file files path file)
named_within [] path file = omega arith
named_within (f ∷ fs) path file =
    elim (bytes_eq path f.0) as (λ b. (if b then 0 else suc (number_of (paths_in fs) path)) < length (if b then (f.0, file) ∷ fs else f ∷ with_file fs path file))
    [ true ↦ omega arith | false ↦ let rest : number_of (paths_in fs) path < length (with_file fs path file) = named_within fs path file in omega (arith, rest) ]

bytes_self : (path : Path) → bytes_eq path path ≡ true
bytes_self path = (bytes_eq-Decides path path).1 refl

-- a path keeps its number when facts about it are stored
number_named : (files : Table) (path : Path) (file : File) → number_of (paths_in (with_file files path file)) path ≡ number_of (paths_in files) path
number_named [] path file = ap (λ (b : Bool). if b then 0 else 1) (bytes_self path)
number_named (f ∷ fs) path file =
    elim (bytes_eq path f.0) as (λ b. bytes_eq path f.0 ≡ b → number_of (paths_in (if b then (f.0, file) ∷ fs else f ∷ with_file fs path file)) path ≡ (if b then 0 else suc (number_of (paths_in fs) path))) [
      | true ↦ λ e. ap (λ (b : Bool). if b then 0 else suc (number_of (paths_in fs) path)) e
      | false ↦ λ e. ap (λ (b : Bool). if b then 0 else suc (number_of (paths_in (with_file fs path file)) path)) e ∙ ap suc (number_named fs path file)
    ] refl

-- the facts that were stored last count
with_twice : (files : Table) (path : Path) (one two : File) → with_file (with_file files path one) path two ≡ with_file files path two
with_twice [] path one two = ap (λ (b : Bool). if b then (path, two) ∷ [] else (path, one) ∷ (path, two) ∷ []) (bytes_self path)
with_twice (f ∷ fs) path one two =
    elim (bytes_eq path f.0) as (λ b. bytes_eq path f.0 ≡ b → with_file (if b then (f.0, one) ∷ fs else f ∷ with_file fs path one) path two ≡ (if b then (f.0, two) ∷ fs else f ∷ with_file fs path two)) [
      | true ↦ λ e. ap (λ (b : Bool). if b then (f.0, two) ∷ fs else (f.0, one) ∷ with_file fs path two) e
      | false ↦ λ e. ap (λ (b : Bool). if b then (f.0, two) ∷ with_file fs path one else f ∷ with_file (with_file fs path one) path two) e ∙ ap (λ (t : Table). f ∷ t) (with_twice fs path one two)
    ] refl

file_named : (files : Table) (path : Path) (file : File) → file_at (number_of (paths_in files) path) (with_file files path file) ≡ file
file_named [] path file = refl
file_named (f ∷ fs) path file =
    elim (bytes_eq path f.0) as (λ b. file_at (if b then 0 else suc (number_of (paths_in fs) path)) (if b then (f.0, file) ∷ fs else f ∷ with_file fs path file) ≡ file)
    [ true ↦ refl | false ↦ file_named fs path file ]

-- the facts at the number that a path was given
pub file_there : (files more : Table) (path : Path) (n : ℕ) → more ≡ with_file files path (file_of path files) → n ≡ number_of (paths_in files) path → file_at n more ≡ file_of path files
file_there files more path n e here = ap (file_at n) e ∙ (ap (λ k. file_at k (with_file files path (file_of path files))) here ∙ file_named files path (file_of path files))

-- the facts that are stored there
pub known_there : (files more last : Table) (path : Path) (n : ℕ) (file : File) → more ≡ with_file files path (file_of path files) → n ≡ number_of (paths_in files) path
    → ((p : Path) → n ≡ number_of (paths_in more) p → last ≡ with_file more p file) → last ≡ with_file files path file
known_there files more last path n file e here write =
    write path (here ∙ (sym (number_named files path (file_of path files)) ∙ ap (λ (t : Table). number_of (paths_in t) path) (sym e)))
    ∙ (ap (λ (t : Table). with_file t path file) e ∙ with_twice files path (file_of path files) file)
