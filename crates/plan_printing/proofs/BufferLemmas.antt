-- Lemmas about held bytes. Serves src/screen.rt.
use Rattle.std.proofs.Common.{◌+◌, ◌≤◌, ℕ, List, ◌++◌, Option, Some, None, length, take, drop, ap, sym, subst, ◌∙◌, ◌-◌, arith}
use Rattle.std.specs.Io.KnownBytes.{Appends, Keeps, append_known}
use Rattle.std.proofs.lemmas.List.{append_assoc, length-drop, take-append-drop, take_all, drop-drop}

-- Held bytes that the sink took are no longer held.
pub handed_on : (old new : Option (List ℕ)) (bytes : List ℕ) (start n : ℕ) → Appends old new (take n (drop start bytes))
    → Keeps (append_known old (drop start bytes)) (append_known new (drop (start + n) bytes))
handed_on None new bytes start n h = tt
handed_on (Some xs) None bytes start n h = absurd h
handed_on (Some xs) (Some ys) bytes start n h =
    let held = drop start bytes in
    ap (λ z. z ++ drop (start + n) bytes) h ∙ append_assoc xs (take n held) (drop (start + n) bytes)
    ∙ ap (λ z. xs ++ (take n held ++ z)) (sym (drop-drop n start bytes)) ∙ ap (λ z. xs ++ z) (take-append-drop n held)

-- The same for a slice up to the end.
pub rest_handed_on : (old new : Option (List ℕ)) (bytes : List ℕ) (start n : ℕ) → Appends old new (take n (take (length bytes - start) (drop start bytes)))
    → Keeps (append_known old (drop start bytes)) (append_known new (drop (start + n) bytes))
rest_handed_on old new bytes start n h =
    let rest : length (drop start bytes) ≤ length bytes - start = let same = length-drop start bytes in omega (arith, same) in
    handed_on old new bytes start n (subst (λ (b : List ℕ). Appends old new (take n b)) (take_all (length bytes - start) (drop start bytes) rest) h)

pub keeps_on : (a b c : Option (List ℕ)) → Keeps a b → Keeps b c → Keeps a c
keeps_on None b c h k = tt
keeps_on (Some xs) None c h k = absurd h
keeps_on (Some xs) (Some ys) None h k = absurd k
keeps_on (Some xs) (Some ys) (Some zs) h k = k ∙ h
