-- Runs of units read from left to right. Lemmas for src/run_reader.rt.
use Rattle.std.proofs.Common.{◌≡◌, ◌≢◌, ℕ, zero, suc, ◌+◌, ◌<◌, ◌≤◌, Bool, false, List, [], ◌∷◌, length, get_or, drop, Option, Some, None, unwrap_or, refl, sym, ap, ◌∙◌, arith}
use Rattle.std.proofs.lemmas.Bool.{false_from_ne_true}
use Rattle.std.proofs.lemmas.List.{drop-drop}
use Rattle.std.proofs.lemmas.List.Sums.{position_or_len_is, fails_before_first}
use Rattle.std.specs.List.{position_or_len}
use Rattle.memchr.specs.Find.{IsFirstByte}
use Rattle.plan_text.specs.Runs.{and_more, run_past, run}

run_skipped : (size : List ℕ → ℕ) (text : List ℕ) (n : ℕ) → n ≤ length text → run_past size text n ≡ n + run size (drop n text)
run_skipped size [] zero h = refl
run_skipped size [] (suc n) h = absurd (omega arith)
run_skipped size (b ∷ rest) zero h = omega arith
run_skipped size (b ∷ rest) (suc n) h =
    let e = run_skipped size rest n (omega arith) in
    omega (arith, e)

run_step : (size : List ℕ → ℕ) (text : List ℕ) (n : ℕ) → size text ≡ suc n → suc n ≤ length text → run size text ≡ suc n + run size (drop (suc n) text)
run_step size [] n e h = absurd (omega arith)
run_step size (b ∷ rest) n e h =
    let first : run size (b ∷ rest) ≡ suc (run_past size rest n) = ap (λ (k : ℕ). and_more k (λ n. run_past size rest n)) e in
    let more = run_skipped size rest n (omega arith) in
    omega (arith, first, more)

-- the step over bytes that are skipped at once
pub run_passed : (size : List ℕ → ℕ) (text rest : List ℕ) (at n : ℕ) → rest ≡ drop at text → run size rest ≡ n + run size (drop n rest) → run size (drop at text) ≡ n + run size (drop (at + n) text)
run_passed size text rest at n r h =
    sym (ap (run size) r) ∙ h ∙ ap (λ (v : List ℕ). n + run size (drop n v)) r ∙ ap (λ (v : List ℕ). n + run size v) (drop-drop n at text)

-- the step over one more unit
pub run_more : (size : List ℕ → ℕ) (text : List ℕ) (at unit : ℕ) → unit ≡ size (drop at text) → unit ≤ length (drop at text) → unit ≢ 0
    → run size (drop at text) ≡ unit + run size (drop (at + unit) text)
run_more size text at zero e h ne = absurd (ne refl)
run_more size text at (suc n) e h ne = run_step size (drop at text) n (sym e) h ∙ ap (λ (v : List ℕ). suc n + run size v) (drop-drop (suc n) at text)

-- the run ends if no unit follows
pub run_end : (size : List ℕ → ℕ) (text : List ℕ) → size text ≡ 0 → run size text ≡ 0
run_end size [] e = refl
run_end size (b ∷ rest) e = ap (λ (k : ℕ). and_more k (λ n. run_past size rest n)) e

more_some : (k : ℕ) (more : ℕ → ℕ) → 0 < k → 0 < and_more k more
more_some zero more h = h
more_some (suc n) more h = omega arith

-- a text that begins with a unit begins with a run
pub run_some : (size : List ℕ → ℕ) (b : ℕ) (rest : List ℕ) → 0 < size (b ∷ rest) → 0 < run size (b ∷ rest)
run_some size b rest h = more_some (size (b ∷ rest)) (λ n. run_past size rest n) h

-- the result of a search for bytes that pass a test, as the index of the first one, or the length
pub first_or_len : (test : ℕ → Bool) (text : List ℕ) (found : Option ℕ) → IsFirstByte test text found → unwrap_or found (length text) ≡ position_or_len test text
first_or_len test text None h = sym (position_or_len_is test text (length text) 0 (omega arith) (λ k l. false_from_ne_true _ (h k (omega arith) l)) (λ l. absurd (omega arith)))
first_or_len test text (Some at) h =
    let high = h.0.high in
    sym (position_or_len_is test text at 0 (omega (arith, high)) (λ k l. false_from_ne_true _ (h.0.before k (omega arith) l)) (λ _. h.1))

-- the result of a search is at most the length of the text
pub first_within : (test : ℕ → Bool) (text : List ℕ) (found : Option ℕ) → IsFirstByte test text found → unwrap_or found (length text) ≤ length text
first_within test text None h = omega arith
first_within test text (Some at) h = let high = h.0.high in omega (arith, high)

plain_go : (size : List ℕ → ℕ) (test : ℕ → Bool) → ((b : ℕ) (rest : List ℕ) → test b ≡ false → size (b ∷ rest) ≡ 1) → (text : List ℕ) (n : ℕ) → n ≤ length text → ((k : ℕ) → k < n → test (get_or text k 0) ≡ false)
    → run size text ≡ n + run size (drop n text)
plain_go size test one text zero h plain = omega arith
plain_go size test one [] (suc n) h plain = absurd (omega arith)
plain_go size test one (b ∷ rest) (suc n) h plain =
    let first = run_step size (b ∷ rest) 0 (one b rest (plain 0 (omega arith))) (omega arith) in
    let more = plain_go size test one rest n (omega arith) (λ k l. plain (suc k) (omega arith)) in
    omega (arith, first, more)

-- bytes before the first one that passes a test form a run, if each of them is a unit
pub run_plain : (size : List ℕ → ℕ) (test : ℕ → Bool) → ((b : ℕ) (rest : List ℕ) → test b ≡ false → size (b ∷ rest) ≡ 1) → (text : List ℕ) (n : ℕ) → n ≤ length text → n ≡ position_or_len test text
    → run size text ≡ n + run size (drop n text)
run_plain size test one text n h e = plain_go size test one text n h (λ k l. fails_before_first test text k 0 (omega (arith, e)))
