-- Reading the tokens one after another gives the same result as the grammar of lines.
use Rattle.std.proofs.Common.{◌≡◌, ℕ, nat_lt, Bool, true, false, List, [], ◌∷◌, ◌++◌, length, Result, Ok, Err, refl, sym, ap, ◌∙◌, append_assoc, append-nil, if◌then◌else◌, arith}
use Rattle.std.proofs.lemmas.Bool.Decides.{nat_tests}
use Rattle.std.proofs.lemmas.List.{length-append}
use Rattle.plan_depfile.specs.declared.fault.DepFault.TheVariants.{PathTooLong}
use Rattle.plan_depfile.specs.declared.lexer.token.Token.{Token}
use Rattle.plan_depfile.specs.declared.lexer.token.Token.TheVariants.{Byte, Blank, Colon, Hash, Dollar, Newline}
use Rattle.plan_depfile.specs.Tokens.{Mark}
use Rattle.plan_depfile.specs.Depfile.{Met, met_at, and_more, Part, part, Parts, all_parts, split, filled, words, is_newline, is_blank, plain, path_from, path_of, canonical_word, targets, behind, paths_of, line_of, paths_in}
use Rattle.plan_text.specs.Outcome.{◌>>=◌, each}
use Rattle.plan_depfile.specs.LexerRun.{LexState, Fresh, Comment, Targets, Between, Inside, turn, grown, path_and_more, follow, ends, go}

abbrev Paths : Type 0
Paths = Result (List (List ℕ)) Met

-- the rest of a path, and the words after it
abbrev pub inside : ℕ → List ℕ → Parts → Paths
inside start bytes parts =
    ((plain parts.first.marks) >>= (λ more. ((path_from start (bytes ++ more) parts.first.met) >>= (λ path.
    ((each path_of (filled parts.others)) >>= (λ paths. Ok (path ∷ paths)))))))

-- the paths of the rest of a line, from the state of a lexer
abbrev pub rest_of_line : LexState → Part → Paths
rest_of_line Fresh line = line_of line
rest_of_line Comment line = Ok []
rest_of_line (Targets start) line = ((plain (targets line.marks)) >>= (λ _. paths_of start line.met (behind line.marks)))
rest_of_line Between line = each path_of (words line.met line.marks)
rest_of_line (Inside start bytes) line = inside start bytes (split is_blank line.met line.marks)

abbrev pub rest_of : LexState → Parts → Paths
rest_of lex_state lines = and_more (rest_of_line lex_state lines.first) (paths_in lines.others)

pub none_before : (r : Paths) → and_more (Ok []) r ≡ r
none_before (Ok paths) = refl
none_before (Err m) = refl

-- a byte whose value doesn't matter
skipped : {Y : Type 0} (b : ℕ) (r : Result (List ℕ) Met) (x : Result Y Met) → (r >>= (λ _. x)) ≡ (((r >>= (λ bytes. Ok (b ∷ bytes)))) >>= (λ _. x))
skipped b (Ok bytes) x = refl
skipped b (Err m) x = refl

-- a path that is already too long
too_long : (start : ℕ) (bytes more : List ℕ) (met : ℕ) → nat_lt 4096 (length bytes) ≡ true → path_from start (bytes ++ more) met ≡ Err (met_at met (PathTooLong start))
too_long start bytes more met h =
    let longer : nat_lt 4096 (length (bytes ++ more)) ≡ true = rw (length-append bytes more) (grind (arith, nat_tests, h)) in
    ap (λ (v : Bool). if v then Err (met_at met (PathTooLong start)) else Ok (canonical_word (bytes ++ more))) longer

grows : (start : ℕ) (bytes : List ℕ) (b met : ℕ) (more : List ℕ) (t : Bool) → nat_lt 4096 (length bytes) ≡ t
    → path_from start ((if t then bytes else bytes ++ b ∷ []) ++ more) met ≡ path_from start (bytes ++ b ∷ more) met
grows start bytes b met more false h = ap (λ (v : List ℕ). path_from start v met) (append_assoc bytes (b ∷ []) more)
grows start bytes b met more true h = too_long start bytes more met h ∙ sym (too_long start bytes (b ∷ more) met h)

-- one more byte of a path
one_more : (start : ℕ) (bytes : List ℕ) (b met : ℕ) (r : Result (List ℕ) Met) (others : Paths)
    → (r >>= (λ more. ((path_from start (grown bytes b ++ more) met) >>= (λ path. (others >>= (λ paths. Ok (path ∷ paths)))))))
    ≡ (((r >>= (λ more. Ok (b ∷ more)))) >>= (λ more. ((path_from start (bytes ++ more) met) >>= (λ path. (others >>= (λ paths. Ok (path ∷ paths)))))))
one_more start bytes b met (Ok more) others =
    ap (λ (p : Result (List ℕ) Met). (p >>= (λ path. (others >>= (λ paths. Ok (path ∷ paths)))))) (grows start bytes b met more (nat_lt 4096 (length bytes)) refl)
one_more start bytes b met (Err m) others = refl

-- the first byte of a path
first_byte : (start b met : ℕ) (r : Result (List ℕ) Met) (others : Paths)
    → (r >>= (λ more. ((path_from start ((b ∷ []) ++ more) met) >>= (λ path. (others >>= (λ paths. Ok (path ∷ paths)))))))
    ≡ (((((r >>= (λ more. Ok (b ∷ more)))) >>= (λ bytes. path_from start bytes met))) >>= (λ path. (others >>= (λ paths. Ok (path ∷ paths)))))
first_byte start b met (Ok more) others = refl
first_byte start b met (Err m) others = refl

-- a path that ends, other paths of its line and further lines
in_front : (p : Result (List ℕ) Met) (line more : Paths)
    → (p >>= (λ path. ((and_more line more) >>= (λ paths. Ok (path ∷ paths)))))
    ≡ and_more ((p >>= (λ path. (line >>= (λ paths. Ok (path ∷ paths)))))) more
in_front (Ok path) (Ok line) (Ok more) = refl
in_front (Ok path) (Ok line) (Err m) = refl
in_front (Ok path) (Err m) more = refl
in_front (Err m) line more = refl

-- the same at the end of a line
at_line_end : (p : Result (List ℕ) Met) (more : Paths)
    → (p >>= (λ path. (more >>= (λ paths. Ok (path ∷ paths)))))
    ≡ and_more ((p >>= (λ path. Ok (path ∷ [])))) more
at_line_end (Ok path) (Ok more) = refl
at_line_end (Ok path) (Err m) = refl
at_line_end (Err m) more = refl

no_more_bytes : (start : ℕ) (bytes : List ℕ) (met : ℕ) (r : Paths)
    → ((path_from start bytes met) >>= (λ path. (r >>= (λ paths. Ok (path ∷ paths)))))
    ≡ ((path_from start (bytes ++ []) met) >>= (λ path. (r >>= (λ paths. Ok (path ∷ paths)))))
no_more_bytes start bytes met r =
    ap (λ (v : List ℕ). ((path_from start v met) >>= (λ path. (r >>= (λ paths. Ok (path ∷ paths)))))) (sym (append-nil bytes))

abbrev mark : Token → ℕ → ℕ → Mark
mark token start last = record { token = token; start = start; last = last }

abbrev lines : ℕ → List Mark → Parts
lines stop more = split is_newline stop more

-- the effect of one more token on the rest of the lines
turned : (stop : ℕ) (lex_state : LexState) (token : Token) (start last : ℕ) (more : List Mark) → ((s : LexState) → go stop s more ≡ rest_of s (lines stop more))
    → follow (turn lex_state (mark token start last)) (λ next. go stop next more) ≡ rest_of lex_state (lines stop (mark token start last ∷ more))
turned stop Fresh (Byte b) start last more h = h (Targets start) ∙ ap (λ (r : Paths). and_more r (paths_in (lines stop more).others)) (skipped b (plain (targets (lines stop more).first.marks)) (paths_of start (lines stop more).first.met (behind (lines stop more).first.marks)))
turned stop Fresh Blank start last more h = h Fresh
turned stop Fresh Colon start last more h = refl
turned stop Fresh Hash start last more h = h Comment
turned stop Fresh Dollar start last more h = refl
turned stop Fresh Newline start last more h = h Fresh ∙ sym (none_before (rest_of Fresh (lines stop more)))
turned stop Comment (Byte b) start last more h = h Comment
turned stop Comment Blank start last more h = h Comment
turned stop Comment Colon start last more h = h Comment
turned stop Comment Hash start last more h = h Comment
turned stop Comment Dollar start last more h = h Comment
turned stop Comment Newline start last more h = h Fresh ∙ sym (none_before (rest_of Fresh (lines stop more)))
turned stop (Targets f) (Byte b) start last more h = h (Targets f) ∙ ap (λ (r : Paths). and_more r (paths_in (lines stop more).others)) (skipped b (plain (targets (lines stop more).first.marks)) (paths_of f (lines stop more).first.met (behind (lines stop more).first.marks)))
turned stop (Targets f) Blank start last more h = h (Targets f) ∙ ap (λ (r : Paths). and_more r (paths_in (lines stop more).others)) (skipped 32 (plain (targets (lines stop more).first.marks)) (paths_of f (lines stop more).first.met (behind (lines stop more).first.marks)))
turned stop (Targets f) Colon start last more h = h Between
turned stop (Targets f) Hash start last more h = h (Targets f) ∙ ap (λ (r : Paths). and_more r (paths_in (lines stop more).others)) (skipped 35 (plain (targets (lines stop more).first.marks)) (paths_of f (lines stop more).first.met (behind (lines stop more).first.marks)))
turned stop (Targets f) Dollar start last more h = refl
turned stop (Targets f) Newline start last more h = refl
turned stop Between (Byte b) start last more h = h (Inside start (b ∷ [])) ∙ ap (λ (r : Paths). and_more r (paths_in (lines stop more).others)) (begins b)
  where
    begins : (b : ℕ) → rest_of_line (Inside start (b ∷ [])) (lines stop more).first ≡ rest_of_line Between (part (mark (Byte b) start last ∷ (lines stop more).first.marks) (lines stop more).first.met)
    begins b = let ws = split is_blank (lines stop more).first.met (lines stop more).first.marks in
        first_byte start b ws.first.met (plain ws.first.marks) (each path_of (filled ws.others))
turned stop Between Blank start last more h = h Between
turned stop Between Colon start last more h =
    let ws = split is_blank (lines stop more).first.met (lines stop more).first.marks in
    h (Inside start (58 ∷ [])) ∙ ap (λ (r : Paths). and_more r (paths_in (lines stop more).others)) (first_byte start 58 ws.first.met (plain ws.first.marks) (each path_of (filled ws.others)))
turned stop Between Hash start last more h =
    let ws = split is_blank (lines stop more).first.met (lines stop more).first.marks in
    h (Inside start (35 ∷ [])) ∙ ap (λ (r : Paths). and_more r (paths_in (lines stop more).others)) (first_byte start 35 ws.first.met (plain ws.first.marks) (each path_of (filled ws.others)))
turned stop Between Dollar start last more h = refl
turned stop Between Newline start last more h = h Fresh ∙ sym (none_before (rest_of Fresh (lines stop more)))
turned stop (Inside at bytes) (Byte b) start last more h =
    let ws = split is_blank (lines stop more).first.met (lines stop more).first.marks in
    h (Inside at (grown bytes b)) ∙ ap (λ (r : Paths). and_more r (paths_in (lines stop more).others)) (one_more at bytes b ws.first.met (plain ws.first.marks) (each path_of (filled ws.others)))
turned stop (Inside at bytes) Colon start last more h =
    let ws = split is_blank (lines stop more).first.met (lines stop more).first.marks in
    h (Inside at (grown bytes 58)) ∙ ap (λ (r : Paths). and_more r (paths_in (lines stop more).others)) (one_more at bytes 58 ws.first.met (plain ws.first.marks) (each path_of (filled ws.others)))
turned stop (Inside at bytes) Hash start last more h =
    let ws = split is_blank (lines stop more).first.met (lines stop more).first.marks in
    h (Inside at (grown bytes 35)) ∙ ap (λ (r : Paths). and_more r (paths_in (lines stop more).others)) (one_more at bytes 35 ws.first.met (plain ws.first.marks) (each path_of (filled ws.others)))
turned stop (Inside at bytes) Blank start last more h =
    ap (λ (r : Paths). path_and_more at bytes last r) (h Between)
    ∙ no_more_bytes at bytes last (rest_of Between (lines stop more))
    ∙ in_front (path_from at (bytes ++ []) last) (rest_of_line Between (lines stop more).first) (paths_in (lines stop more).others)
turned stop (Inside at bytes) Newline start last more h =
    ap (λ (r : Paths). path_and_more at bytes last r) (h Fresh)
    ∙ no_more_bytes at bytes last (rest_of Fresh (lines stop more))
    ∙ at_line_end (path_from at (bytes ++ []) last) (rest_of Fresh (lines stop more))
turned stop (Inside at bytes) Dollar start last more h = refl

ended : (stop : ℕ) (lex_state : LexState) → ends stop lex_state ≡ rest_of lex_state (lines stop [])
ended stop Fresh = refl
ended stop Comment = refl
ended stop (Targets first) = refl
ended stop Between = refl
ended stop (Inside start bytes) = no_more_bytes start bytes stop (Ok []) ∙ at_line_end (path_from start (bytes ++ []) stop) (Ok [])

-- the result is the same for all tokens and all states of a lexer
pub goes : (stop : ℕ) (marks : List Mark) (lex_state : LexState) → go stop lex_state marks ≡ rest_of lex_state (lines stop marks)
goes stop [] lex_state = ended stop lex_state
goes stop (m ∷ more) lex_state = turned stop lex_state m.token m.start m.last more (goes stop more)

-- from the beginning of a text, the result is that of the grammar
pub goes_as_read : (stop : ℕ) (marks : List Mark) → go stop Fresh marks ≡ paths_in (all_parts (split is_newline stop marks))
goes_as_read stop marks = goes stop marks Fresh
