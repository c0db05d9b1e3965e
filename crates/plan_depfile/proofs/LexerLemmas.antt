-- The effect of one step of the lexer on the result.
use Rattle.std.proofs.Common.{◌≡◌, ℕ, ◌+◌, ◌≤◌, nat_lt, Bool, false, List, [], ◌∷◌, length, Result, Ok, Err, refl, sym, ap, ◌∙◌, zero-add, if◌then◌else◌, arith}
use Rattle.std.proofs.lemmas.Bool.Decides.{nat_tests}
use Rattle.plan_depfile.specs.Tokens.{Mark, marks_past}
use Rattle.plan_depfile.specs.Depfile.{Met, met_at, path_from, canonical_word, without_repeats, with_path, with_paths, most, within, depfile_of}
use Rattle.plan_text.specs.Outcome.{◌>>=◌}
use Rattle.plan_depfile.specs.LexerRun.{LexState, Fresh, Inside, go, path_and_more}
use Rattle.plan_depfile.specs.Lexer.{found_with, within_limit}
use Rattle.plan_depfile.proofs.LexerRunLemmas.{goes_as_read}
use Rattle.plan_depfile.specs.declared.fault.DepFault.TheVariants.{PathTooLong}

-- at the beginning of a text
pub begins : (paths : List (List ℕ)) → paths ≡ [] → (rest : List ℕ) → found_with paths Fresh (0 + length rest) (marks_past 0 rest 0) ≡ depfile_of rest
begins paths e rest =
    ap (λ (v : List (List ℕ)). found_with v Fresh (0 + length rest) (marks_past 0 rest 0)) e
    ∙ ap (λ (n : ℕ). found_with [] Fresh n (marks_past 0 rest 0)) (zero-add (length rest))
    ∙ ap (λ (r : Result (List (List ℕ)) Met). within_limit (length rest) ((r >>= (λ more. Ok (without_repeats more))))) (goes_as_read (length rest) (marks_past 0 rest 0))

-- a path of an allowed length
short : (start : ℕ) (bytes : List ℕ) (met : ℕ) → length bytes ≤ 4096 → path_from start bytes met ≡ Ok (canonical_word bytes)
short start bytes met h =
    let e : nat_lt 4096 (length bytes) ≡ false = grind (arith, nat_tests, h) in
    ap (λ (v : Bool). if v then Err (met_at met (PathTooLong start)) else Ok (canonical_word bytes)) e

taken : (paths : List (List ℕ)) (path : List ℕ) (r : Result (List (List ℕ)) Met)
    → (r >>= (λ more. Ok (with_paths (with_path paths path) more))) ≡ (((r >>= (λ more. Ok (path ∷ more)))) >>= (λ more. Ok (with_paths paths more)))
taken paths path (Ok more) = refl
taken paths path (Err m) = refl

-- a path of an allowed length ends
pub closes : (paths new : List (List ℕ)) (start : ℕ) (bytes : List ℕ) (last : ℕ) (outside inside : LexState) → length bytes ≤ 4096 → new ≡ with_path paths (canonical_word bytes) → outside ≡ inside
    → (stop : ℕ) (marks : List Mark) → found_with new outside stop marks ≡ within_limit stop (((path_and_more start bytes last (go stop inside marks)) >>= (λ more. Ok (with_paths paths more))))
closes paths new start bytes last outside inside h e f stop marks =
    ap (λ (v : List (List ℕ)). found_with v outside stop marks) e
    ∙ ap (λ (s : LexState). found_with (with_path paths (canonical_word bytes)) s stop marks) f
    ∙ ap (within_limit stop) (taken paths (canonical_word bytes) (go stop inside marks))
    ∙ ap (λ (p : Result (List ℕ) Met). within_limit stop ((((p >>= (λ path. ((go stop inside marks) >>= (λ more. Ok (path ∷ more)))))) >>= (λ more. Ok (with_paths paths more))))) (sym (short start bytes last h))

-- a path that ends with the text
pub ends_inside : (paths new : List (List ℕ)) (start : ℕ) (bytes : List ℕ) (at : ℕ) → length bytes ≤ 4096 → new ≡ with_path paths (canonical_word bytes) → at ≤ most
    → Ok new ≡ found_with paths (Inside start bytes) (at + 0) []
ends_inside paths new start bytes at h e f =
    let inside : nat_lt most (at + 0) ≡ false = grind (arith, nat_tests, f) in
    ap (λ (v : List (List ℕ)). Ok v) e
    ∙ sym (ap (λ (t : Bool). within t (Ok (with_path paths (canonical_word bytes)))) inside)
    ∙ ap (λ (p : Result (List ℕ) Met). within_limit (at + 0) ((((p >>= (λ path. Ok (path ∷ [])))) >>= (λ more. Ok (with_paths paths more))))) (sym (short start bytes (at + 0) h))
