-- Paths of an entry, one after another. Lemmas for src/replies.rt.
use Rattle.std.proofs.Common.{◌≡◌, ℕ, ◌+◌, ◌<◌, List, [], ◌∷◌, ◌++◌, Option, Some, None, length, get_or, drop, map, option_map, refl, sym, ap, ◌∙◌, append_assoc}
use Rattle.std.proofs.lemmas.List.{drop_more}
use Rattle.plan_trace.specs.Reading.{path_onto, paths_of}
use Rattle.plan_trace.specs.Words.{bytes_of}

-- the paths that were read, before those that remain to be read
abbrev pub behind : List (List ℕ) → Option (List (List ℕ)) → Option (List (List ℕ))
behind done rest = option_map (λ more. done ++ more) rest

onto_behind : (done : List (List ℕ)) (path : List ℕ) (rest : Option (List (List ℕ))) → behind (done ++ path ∷ []) rest ≡ behind done (path_onto (Some path) rest)
onto_behind done path None = refl
onto_behind done path (Some more) = ap Some (append_assoc done (path ∷ []) more)

pub path_more : {W : Type 0} (now : W → List ℕ) (done : List (List ℕ)) (words : List W) (i : ℕ) (d : W) (path : List ℕ) (whole : Option (List (List ℕ))) → i < length words
    → Some path ≡ bytes_of (now (get_or words i d)) → behind done (paths_of (map now (drop i words))) ≡ whole → behind (done ++ path ∷ []) (paths_of (map now (drop (i + 1) words))) ≡ whole
path_more now done words i d path whole lt is so_far =
    let rest : Option (List (List ℕ)) = paths_of (map now (drop (i + 1) words)) in
    let there : behind done (path_onto (bytes_of (now (get_or words i d))) rest) ≡ whole
    = ap (λ ws. behind done (paths_of (map now ws))) (sym (drop_more words i d lt)) ∙ so_far in
    onto_behind done path rest ∙ (ap (λ (p : Option (List ℕ)). behind done (path_onto p rest)) is ∙ there)

pub no_path : {W : Type 0} (now : W → List ℕ) (done : List (List ℕ)) (words : List W) (i : ℕ) (d : W) (whole : Option (List (List ℕ))) → i < length words
    → None ≡ bytes_of (now (get_or words i d)) → behind done (paths_of (map now (drop i words))) ≡ whole → None ≡ whole
no_path now done words i d whole lt is so_far =
    let rest : Option (List (List ℕ)) = paths_of (map now (drop (i + 1) words)) in
    let there : behind done (path_onto (bytes_of (now (get_or words i d))) rest) ≡ whole
    = ap (λ ws. behind done (paths_of (map now ws))) (sym (drop_more words i d lt)) ∙ so_far in
    ap (λ (p : Option (List ℕ)). behind done (path_onto p rest)) is ∙ there
