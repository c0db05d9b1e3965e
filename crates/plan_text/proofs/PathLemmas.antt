-- How adding a component changes the components that remain. Lemmas for src/path.rt.
use Rattle.std.proofs.Common.{◌≡◌, ℕ, true, false, List, [], ◌∷◌, ◌++◌, refl, sym, ap, subst, ◌∙◌, append_assoc, Option, Some, None, is_some, take, get_or, ◌<◌, ◌+◌, suc, length, arith}
use Rattle.std.proofs.lemmas.List.{take_more, length-take}
use Rattle.std.specs.Prelude.{option_to_list}
use denote.Ref.{Bor}
use Rattle.std.specs.List.{join_with_byte}
use Rattle.plan_text.specs.Path.{is_current_dir, is_parent_dir, normal_onto, component_onto, reduced, without_parent_dirs, absolute_path}
use Rattle.plan_text.specs.Reducing.{AllNormal, AllParentDirs, texts}

-- adds components before those that remain of the components after them
abbrev over : List (List ℕ) → List (List ℕ) → List (List ℕ)
over [] rest = rest
over (component ∷ components) rest = component_onto component (over components rest)

reduced-append : (k x : List (List ℕ)) → reduced (k ++ x) ≡ over k (reduced x)
reduced-append [] x = refl
reduced-append (p ∷ k) x = ap (component_onto p) (reduced-append k x)

-- if two lists of components reduce to the same list, so do they with the same components before them
reduced-same : (k x y : List (List ℕ)) → reduced x ≡ reduced y → reduced (k ++ x) ≡ reduced (k ++ y)
reduced-same k x y e = reduced-append k x ∙ ap (over k) e ∙ sym (reduced-append k y)

component_onto-nothing : (p : List ℕ) (rest : List (List ℕ)) → is_current_dir p ≡ true → component_onto p rest ≡ rest
component_onto-nothing p rest e = rw e refl

component_onto-up : (p : List ℕ) (rest : List (List ℕ)) → is_current_dir p ≡ false → is_parent_dir p ≡ true → component_onto p rest ≡ p ∷ rest
component_onto-up p rest e f = rw (e, f) refl

component_onto-normal : (p : List ℕ) (rest : List (List ℕ)) → is_current_dir p ≡ false → is_parent_dir p ≡ false → component_onto p rest ≡ normal_onto p rest
component_onto-normal p rest e f = rw (e, f) refl

-- `..` removes the component before it
pub normal_onto-up : (p q : List ℕ) (rest : List (List ℕ)) → is_parent_dir q ≡ true → normal_onto p (q ∷ rest) ≡ rest
normal_onto-up p q rest e = rw e refl

-- a normal component stays before one that is no `..`
pub normal_onto-normal : (p q : List ℕ) (rest : List (List ℕ)) → is_parent_dir q ≡ false → normal_onto p (q ∷ rest) ≡ p ∷ q ∷ rest
normal_onto-normal p q rest e = rw e refl

-- an empty component or `.` changes nothing
pub adds_current_dir : (k : List (List ℕ)) (p : List ℕ) (rest : List (List ℕ)) → is_current_dir p ≡ true → reduced (k ++ rest) ≡ reduced (k ++ p ∷ rest)
adds_current_dir k p rest e = reduced-same k rest (p ∷ rest) (sym (component_onto-nothing p (reduced rest) e))

-- `..` removes the normal component before it
adds_parent_dir : (k : List (List ℕ)) (n up : List ℕ) (rest : List (List ℕ)) → is_current_dir n ≡ false → is_parent_dir n ≡ false → is_current_dir up ≡ false → is_parent_dir up ≡ true
    → reduced (k ++ rest) ≡ reduced ((k ++ n ∷ []) ++ up ∷ rest)
adds_parent_dir k n up rest n1 n2 u1 u2 =
    let gone : reduced rest ≡ component_onto n (component_onto up (reduced rest)) =
    sym (ap (component_onto n) (component_onto-up up (reduced rest) u1 u2) ∙ component_onto-normal n (up ∷ reduced rest) n1 n2 ∙ normal_onto-up n up (reduced rest) u2) in
    reduced-same k rest (n ∷ up ∷ rest) gone ∙ ap reduced (sym (append_assoc k (n ∷ []) (up ∷ rest)))

AllNormal-append : (a b : List (List ℕ)) → AllNormal a → AllNormal b → AllNormal (a ++ b)
AllNormal-append [] b h k = k
AllNormal-append (x ∷ a) b h k = (h.0, h.1, AllNormal-append a b h.2 k)

AllNormal-components : (a b : List (List ℕ)) → AllNormal (a ++ b) → AllNormal a × AllNormal b
AllNormal-components [] b h = (tt, h)
AllNormal-components (x ∷ a) b h = let rest = AllNormal-components a b h.2 in ((h.0, h.1, rest.0), rest.1)

AllParentDirs-append : (a b : List (List ℕ)) → AllParentDirs a → AllParentDirs b → AllParentDirs (a ++ b)
AllParentDirs-append [] b h k = k
AllParentDirs-append (x ∷ a) b h k = (h.0, h.1, AllParentDirs-append a b h.2 k)

-- normal components remain
pub reduced-normal : (ns : List (List ℕ)) → AllNormal ns → reduced ns ≡ ns
reduced-normal [] h = refl
reduced-normal (p ∷ []) h = component_onto-normal p [] h.0 h.1
reduced-normal (p ∷ q ∷ ns) h =
    ap (component_onto p) (reduced-normal (q ∷ ns) h.2) ∙ component_onto-normal p (q ∷ ns) h.0 h.1 ∙ normal_onto-normal p q ns h.2.1

-- leading `..` components and the normal ones after them remain
pub reduced-kept : (us ns : List (List ℕ)) → AllParentDirs us → AllNormal ns → reduced (us ++ ns) ≡ us ++ ns
reduced-kept [] ns h k = reduced-normal ns k
reduced-kept (u ∷ us) ns h k = ap (component_onto u) (reduced-kept us ns h.2 k) ∙ component_onto-up u (us ++ ns) h.0 h.1

-- normal components have no `..` to remove after the root
pub without_parent_dirs-normal : (ns : List (List ℕ)) → AllNormal ns → without_parent_dirs ns ≡ ns
without_parent_dirs-normal [] h = refl
without_parent_dirs-normal (p ∷ ns) h = rw h.1 refl

without_parent_dirs-up : (u : List ℕ) (x : List (List ℕ)) → is_parent_dir u ≡ true → without_parent_dirs (u ∷ x) ≡ without_parent_dirs x
without_parent_dirs-up u x e = rw e refl

-- leading `..` components are removed after the root
pub without_parent_dirs-kept : (us ns : List (List ℕ)) → AllParentDirs us → AllNormal ns → without_parent_dirs (us ++ ns) ≡ ns
without_parent_dirs-kept [] ns h k = without_parent_dirs-normal ns k
without_parent_dirs-kept (u ∷ us) ns h k = without_parent_dirs-up u (us ++ ns) h.1 ∙ without_parent_dirs-kept us ns h.2 k

-- appends a component, after a slash
joined-more : (c : ℕ) (xs : List (List ℕ)) (y x : List ℕ) → join_with_byte c ((y ∷ xs) ++ x ∷ []) ≡ join_with_byte c (y ∷ xs) ++ c ∷ x
joined-more c [] y x = refl
joined-more c (z ∷ xs) y x = ap (λ (v : List ℕ). y ++ c ∷ v) (joined-more c xs z x) ∙ sym (append_assoc y (c ∷ join_with_byte c (z ∷ xs)) (c ∷ x))

texts-append : (a b : List (Bor (List ℕ))) → texts (a ++ b) ≡ texts a ++ texts b
texts-append [] b = refl
texts-append (x ∷ a) b = ap (λ (v : List (List ℕ)). x.now ∷ v) (texts-append a b)

-- normal components stay normal if the last one is removed
pub shape_popped : (ns left : List (Bor (List ℕ))) (o : Option (Bor (List ℕ))) → ns ≡ left ++ option_to_list o → AllNormal (texts ns) → AllNormal (texts left)
shape_popped ns left o e h =
    (AllNormal-components (texts left) (texts (option_to_list o)) (subst AllNormal (ap texts e ∙ texts-append left (option_to_list o)) h)).0

-- normal components stay normal if a normal one is added
pub shape_pushed : (ns more : List (Bor (List ℕ))) (p : Bor (List ℕ)) → more ≡ ns ++ p ∷ [] → AllNormal (texts ns) → is_current_dir p.now ≡ false → is_parent_dir p.now ≡ false → AllNormal (texts more)
shape_pushed ns more p e h k l =
    subst AllNormal (sym (ap texts e ∙ texts-append ns (p ∷ []))) (AllNormal-append (texts ns) (p.now ∷ []) h (k, l, tt))

-- a list of `..` stays one if a `..` is added
pub parent_dirs_pushed : (us more : List (Bor (List ℕ))) (p : Bor (List ℕ)) → more ≡ us ++ p ∷ [] → AllParentDirs (texts us) → is_current_dir p.now ≡ false → is_parent_dir p.now ≡ true → AllParentDirs (texts more)
parent_dirs_pushed us more p e h k l =
    subst AllParentDirs (sym (ap texts e ∙ texts-append us (p ∷ []))) (AllParentDirs-append (texts us) (p.now ∷ []) h (k, l, tt))

takes_last : (us left : List (Bor (List ℕ))) (n : Bor (List ℕ)) (up : List ℕ) (rest : List (List ℕ)) → AllNormal (texts (left ++ n ∷ [])) → is_current_dir up ≡ false → is_parent_dir up ≡ true
    → reduced ((texts us ++ texts left) ++ rest) ≡ reduced ((texts us ++ texts (left ++ n ∷ [])) ++ up ∷ rest)
takes_last us left n up rest h u1 u2 =
    let last = (AllNormal-components (texts left) (n.now ∷ []) (subst AllNormal (texts-append left (n ∷ [])) h)).1 in
    adds_parent_dir (texts us ++ texts left) n.now up rest last.0 last.1 u1 u2
    ∙ ap (λ (v : List (List ℕ)). reduced (v ++ up ∷ rest)) (append_assoc (texts us) (texts left) (n.now ∷ []) ∙ ap (λ (v : List (List ℕ)). texts us ++ v) (sym (texts-append left (n ∷ []))))

-- a `..` removes the last normal component that remains so far
pub takes_popped : (us ns left : List (Bor (List ℕ))) (o : Option (Bor (List ℕ))) (up : List ℕ) (rest : List (List ℕ)) → ns ≡ left ++ option_to_list o → is_some o ≡ true → AllNormal (texts ns)
    → is_current_dir up ≡ false → is_parent_dir up ≡ true → reduced ((texts us ++ texts left) ++ rest) ≡ reduced ((texts us ++ texts ns) ++ up ∷ rest)
takes_popped us ns left None up rest e s h u1 u2 = absurd cc
takes_popped us ns left (Some n) up rest e s h u1 u2 =
    takes_last us left n up rest (subst (λ (v : List (Bor (List ℕ))). AllNormal (texts v)) e h) u1 u2
    ∙ ap (λ (v : List (Bor (List ℕ))). reduced ((texts us ++ texts v) ++ up ∷ rest)) (sym e)

joined_behind : (xs : List (List ℕ)) (x : List ℕ) → 0 < length xs → join_with_byte 47 (xs ++ x ∷ []) ≡ join_with_byte 47 xs ++ 47 ∷ x
joined_behind [] x h = absurd (omega arith)
joined_behind (y ∷ xs) x h = joined-more 47 xs y x

texts-length : (xs : List (Bor (List ℕ))) → length (texts xs) ≡ length xs
texts-length [] = refl
texts-length (x ∷ xs) = ap suc (texts-length xs)

texts-take_more : (components : List (Bor (List ℕ))) (i : ℕ) (d : Bor (List ℕ)) → i < length components → texts (take (i + 1) components) ≡ texts (take i components) ++ (get_or components i d).now ∷ []
texts-take_more components i d h = ap texts (take_more components i d h) ∙ texts-append (take i components) (get_or components i d ∷ [])

-- joins the first component
joined_first : (components : List (Bor (List ℕ))) (i : ℕ) (d : Bor (List ℕ)) → i < length components → i ≡ 0 → join_with_byte 47 (texts (take (i + 1) components)) ≡ join_with_byte 47 (texts (take i components)) ++ (get_or components i d).now
joined_first components i d h z =
    ap (join_with_byte 47) (texts-take_more components i d h) ∙ rw z refl

joined_later : (components : List (Bor (List ℕ))) (i : ℕ) (d : Bor (List ℕ)) → i < length components → 0 < i → join_with_byte 47 (texts (take (i + 1) components)) ≡ join_with_byte 47 (texts (take i components)) ++ 47 ∷ (get_or components i d).now
joined_later components i d h z =
    ap (join_with_byte 47) (texts-take_more components i d h)
    ∙ joined_behind (texts (take i components)) (get_or components i d).now (omega (arith, texts-length (take i components), length-take i components))

-- the step of the loop that writes the first component
pub writes_first : (old out new : List ℕ) (components : List (Bor (List ℕ))) (i : ℕ) (d : Bor (List ℕ)) → i < length components → i ≡ 0
    → out ≡ old ++ join_with_byte 47 (texts (take i components)) → new ≡ out ++ (get_or components i d).now → new ≡ old ++ join_with_byte 47 (texts (take (i + 1) components))
writes_first old out new components i d h z so_far e =
    rw (e, so_far, joined_first components i d h z, append_assoc) refl

-- a later step of the loop that writes components
pub writes_later : (old out mid new : List ℕ) (components : List (Bor (List ℕ))) (i : ℕ) (d : Bor (List ℕ)) → i < length components → 0 < i
    → out ≡ old ++ join_with_byte 47 (texts (take i components)) → mid ≡ out ++ 47 ∷ [] → new ≡ mid ++ (get_or components i d).now → new ≡ old ++ join_with_byte 47 (texts (take (i + 1) components))
writes_later old out mid new components i d h z so_far m e =
    e ∙ ap (λ (v : List ℕ). v ++ (get_or components i d).now) (m ∙ ap (λ (v : List ℕ). v ++ 47 ∷ []) so_far)
    ∙ append_assoc (old ++ join_with_byte 47 (texts (take i components))) (47 ∷ []) (get_or components i d).now
    ∙ append_assoc old (join_with_byte 47 (texts (take i components))) (47 ∷ (get_or components i d).now)
    ∙ ap (λ (v : List ℕ). old ++ v) (sym (joined_later components i d h z))

-- the bytes that are written for an absolute path
pub absolute_path-kept : (us ns all : List (List ℕ)) → us ++ ns ≡ reduced all → AllParentDirs us → AllNormal ns → 47 ∷ join_with_byte 47 ns ≡ absolute_path (reduced all)
absolute_path-kept us ns all e h k = ap (λ (v : List (List ℕ)). 47 ∷ join_with_byte 47 v) (sym (without_parent_dirs-kept us ns h k)) ∙ ap absolute_path e
