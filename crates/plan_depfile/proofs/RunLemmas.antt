-- The effect of a run of plain bytes on the result.
use Rattle.std.proofs.Common.{◌≡◌, ◌≢◌, ℕ, zero, suc, ◌+◌, ◌-◌, ◌≤◌, ◌==◌, nat_lt, Bool, true, false, List, [], ◌∷◌, ◌++◌, length, take, drop, length-drop, refl, sym, ap, ◌∙◌, add-zero, append_assoc, append-nil, if◌then◌else◌, arith}
use Rattle.std.specs.List.{prefix_len}
use Rattle.std.proofs.lemmas.List.{length-append, take_all}
use Rattle.std.proofs.lemmas.Bool.Decides.{nat_tests}
use Rattle.plan_depfile.specs.declared.lexer.token.Token.TheVariants.{Byte}
use Rattle.plan_depfile.specs.Tokens.{Mark, token_at, and_past, marks_past}
use Rattle.plan_depfile.specs.LexerRun.{LexState, Fresh, Comment, Targets, Between, Inside, grown, go}
use Rattle.plan_depfile.specs.declared.state.Lexer.{Lexer}
use Rattle.plan_depfile.specs.declared.state.Held.{Held}
use Rattle.plan_depfile.specs.declared.state.Held.TheVariants as held
use Rattle.plan_depfile.specs.declared.state.LexState.{LexState as RustStand}
use Rattle.plan_depfile.specs.declared.state.LexState.TheVariants as lex_state
use Rattle.plan_depfile.specs.Lexer.{found_with, found_after, paths_found, unless, stand_at, bytes_of, answer}
use Rattle.plan_depfile.specs.Runs.{is_plain, IsSteady, past_plain, past_run}

plain_token : (b : ℕ) (rest : List ℕ) → is_plain b ≡ true → token_at b rest ≡ (Byte b, 0)
plain_token b rest h =
    let e92 : (b == 92) ≡ false = grind (arith, nat_tests, h) in
    let e36 : (b == 36) ≡ false = grind (arith, nat_tests, h) in
    let e58 : (b == 58) ≡ false = grind (arith, nat_tests, h) in
    let e35 : (b == 35) ≡ false = grind (arith, nat_tests, h) in
    let e32 : (b == 32) ≡ false = grind (arith, nat_tests, h) in
    let e9 : (b == 9) ≡ false = grind (arith, nat_tests, h) in
    let e10 : (b == 10) ≡ false = grind (arith, nat_tests, h) in
    let e13 : (b == 13) ≡ false = grind (arith, nat_tests, h) in
    rw (e92, e36, e58, e35, e32, e9, e10, e13) refl

steady_past : (lex_state : LexState) (b : ℕ) → IsSteady lex_state → IsSteady (past_plain lex_state b)
steady_past Fresh b h = h
steady_past Comment b h = h
steady_past (Targets first) b h = h
steady_past Between b h = h
steady_past (Inside start word) b h = tt

one_plain : (stop at b : ℕ) (lex_state : LexState) (more : List Mark) → IsSteady lex_state
    → go stop lex_state (record { token = Byte b; start = at; last = at + 0 } ∷ more) ≡ go stop (past_plain lex_state b) more
one_plain stop at b Fresh more h = absurd h
one_plain stop at b Comment more h = refl
one_plain stop at b (Targets first) more h = refl
one_plain stop at b Between more h = absurd h
one_plain stop at b (Inside start word) more h = refl

first_plain : (b n : ℕ) (text : List ℕ) → suc n ≤ prefix_len is_plain (b ∷ text) → (is_plain b ≡ true) × (n ≤ prefix_len is_plain text)
first_plain b n text h = by_test (is_plain b) refl
  where
    by_test : (t : Bool) → is_plain b ≡ t → (is_plain b ≡ true) × (n ≤ prefix_len is_plain text)
    by_test true e = (e, (let k : suc n ≤ suc (prefix_len is_plain text) = grind (arith, h, e) in omega (arith, k)))
    by_test false e = let f : ⊥ = grind (arith, h, e) in absurd f

-- plain bytes, in a state that they keep
run_read : (stop at n : ℕ) (lex_state : LexState) (text rest : List ℕ) → IsSteady lex_state → n ≤ prefix_len is_plain text
    → go stop lex_state (marks_past at (text ++ rest) 0) ≡ go stop (past_run lex_state (take n text)) (marks_past (at + n) (drop n text ++ rest) 0)
run_read stop at zero lex_state text rest s h = ap (λ (n : ℕ). go stop lex_state (marks_past n (text ++ rest) 0)) (sym (add-zero at))
run_read stop at (suc n) lex_state [] rest s h = let f : ⊥ = omega (arith, h) in absurd f
run_read stop at (suc n) lex_state (b ∷ text) rest s h =
    let p = first_plain b n text h in
    ap (λ g. go stop lex_state (and_past at g (λ n. marks_past (suc at) (text ++ rest) n))) (plain_token b (text ++ rest) p.0)
    ∙ one_plain stop at b lex_state (marks_past (suc at) (text ++ rest) 0) s
    ∙ run_read stop (suc at) n (past_plain lex_state b) text rest (steady_past lex_state b s) p.1
    ∙ ap (λ (k : ℕ). go stop (past_run (past_plain lex_state b) (take n text)) (marks_past k (drop n text ++ rest) 0)) (omega arith)

-- the same for the result
run_taken : (paths : List (List ℕ)) (lex_state : LexState) (at n : ℕ) (text rest : List ℕ) → IsSteady lex_state → n ≤ prefix_len is_plain text → n ≤ length text
    → found_with paths (past_run lex_state (take n text)) (at + n + length (drop n text ++ rest)) (marks_past (at + n) (drop n text ++ rest) 0) ≡ found_with paths lex_state (at + length (text ++ rest)) (marks_past at (text ++ rest) 0)
run_taken paths lex_state at n text rest s h within =
    let stops : at + n + length (drop n text ++ rest) ≡ at + length (text ++ rest) = rw (length-append (drop n text) rest, length-append text rest, length-drop n text) (omega (arith, within)) in
    ap (λ (k : ℕ). found_with paths (past_run lex_state (take n text)) k (marks_past (at + n) (drop n text ++ rest) 0)) stops
    ∙ ap (λ r. found_after paths (at + length (text ++ rest)) r) (sym (run_read (at + length (text ++ rest)) at n lex_state text rest s h))

-- the same for a lexer without pending bytes
pub run_answered : (old new : Lexer) (n : ℕ) (text rest : List ℕ) → old.held ≡ held.Nothing → IsSteady (stand_at old.lex_state old.word.items) → n ≤ prefix_len is_plain text → n ≤ length text
    → new.held ≡ old.held → new.fault ≡ old.fault → new.at ≡ old.at + n → paths_found new ≡ paths_found old → stand_at new.lex_state new.word.items ≡ past_run (stand_at old.lex_state old.word.items) (take n text)
    → answer new (drop n text ++ rest) ≡ answer old (text ++ rest)
run_answered old new n text rest nothing steady plain within same_held same_fault place same_found past =
    let after = drop n text ++ rest in
    let mid = stand_at new.lex_state new.word.items in
    ap (λ (h : Held). unless new.fault (found_with (paths_found new) mid (new.at + length (bytes_of h ++ after)) (marks_past new.at (bytes_of h ++ after) 0))) (same_held ∙ nothing)
    ∙ ap (λ (k : ℕ). unless new.fault (found_with (paths_found new) mid (k + length after) (marks_past k after 0))) place
    ∙ ap (λ (s : LexState). unless new.fault (found_with (paths_found new) s (old.at + n + length after) (marks_past (old.at + n) after 0))) past
    ∙ ap (λ (paths : List (List ℕ)). unless new.fault (found_with paths (past_run (stand_at old.lex_state old.word.items) (take n text)) (old.at + n + length after) (marks_past (old.at + n) after 0))) same_found
    ∙ ap (λ r. unless new.fault r) (run_taken (paths_found old) (stand_at old.lex_state old.word.items) old.at n text rest steady plain within)
    ∙ ap (λ f. unless f (found_with (paths_found old) (stand_at old.lex_state old.word.items) (old.at + length (text ++ rest)) (marks_past old.at (text ++ rest) 0))) same_fault
    ∙ sym (ap (λ (h : Held). unless old.fault (found_with (paths_found old) (stand_at old.lex_state old.word.items) (old.at + length (bytes_of h ++ (text ++ rest))) (marks_past old.at (bytes_of h ++ (text ++ rest)) 0))) nothing)

-- outside of paths
pub run_elsewhere : (s : RustStand) (word run : List ℕ) → ((start : ℕ) → s ≢ lex_state.Inside start) → stand_at s word ≡ past_run (stand_at s word) run
run_elsewhere lex_state.Fresh word [] h = refl
run_elsewhere lex_state.Fresh word (b ∷ run) h = run_elsewhere lex_state.Fresh word run h
run_elsewhere lex_state.Comment word [] h = refl
run_elsewhere lex_state.Comment word (b ∷ run) h = run_elsewhere lex_state.Comment word run h
run_elsewhere (lex_state.Targets first) word [] h = refl
run_elsewhere (lex_state.Targets first) word (b ∷ run) h = run_elsewhere (lex_state.Targets first) word run h
run_elsewhere lex_state.Between word [] h = refl
run_elsewhere lex_state.Between word (b ∷ run) h = run_elsewhere lex_state.Between word run h
run_elsewhere (lex_state.Inside start) word run h = absurd (h start refl)

-- in a path, as many bytes are appended as there is room for
pub run_of_path : (start : ℕ) (word run : List ℕ) → past_run (Inside start word) run ≡ Inside start (word ++ take (4097 - length word) run)
run_of_path start word [] = ap (λ (w : List ℕ). Inside start w) (sym (ap (λ (r : List ℕ). word ++ r) (take_all (4097 - length word) [] (omega arith)) ∙ append-nil word))
run_of_path start word (b ∷ run) = by_test (λ w. run_of_path start w run) (nat_lt 4096 (length word)) refl
  where
    by_test : ((w : List ℕ) → past_run (Inside start w) run ≡ Inside start (w ++ take (4097 - length w) run)) → (t : Bool) → nat_lt 4096 (length word) ≡ t → past_run (Inside start word) (b ∷ run) ≡ Inside start (word ++ take (4097 - length word) (b ∷ run))
    by_test more true e =
        let none : 4097 - length word ≡ 0 = grind (arith, nat_tests, e) in
        let same : grown word b ≡ word = ap (λ (t : Bool). if t then word else word ++ b ∷ []) e in
        ap (λ (w : List ℕ). past_run (Inside start w) run) same ∙ more word
        ∙ ap (λ (k : ℕ). Inside start (word ++ take k run)) none ∙ sym (ap (λ (k : ℕ). Inside start (word ++ take k (b ∷ run))) none)
    by_test more false e =
        let some : 4097 - length word ≡ suc (4097 - length (word ++ b ∷ [])) = rw (length-append word (b ∷ [])) (grind (arith, nat_tests, e)) in
        let same : grown word b ≡ word ++ b ∷ [] = ap (λ (t : Bool). if t then word else word ++ b ∷ []) e in
        ap (λ (w : List ℕ). past_run (Inside start w) run) same ∙ more (word ++ b ∷ [])
        ∙ ap (λ (w : List ℕ). Inside start w) (append_assoc word (b ∷ []) (take (4097 - length (word ++ b ∷ [])) run))
        ∙ sym (ap (λ (k : ℕ). Inside start (word ++ take k (b ∷ run))) some)
