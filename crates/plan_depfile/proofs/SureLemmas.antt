-- If there is no fault yet, no fault is sure: some further bytes give another result.
use Rattle.std.proofs.Common.{◌≡◌, ℕ, ◌+◌, ◌≤◌, nat_lt, Bool, true, false, List, [], ◌∷◌, ◌++◌, length, Result, Ok, Err, Option, None, sym, ap, ◌∙◌, subst, if◌then◌else◌, arith}
use Rattle.std.proofs.lemmas.Bool.Decides.{nat_tests}
use Rattle.plan_depfile.specs.declared.fault.DepFault.{DepFault}
use Rattle.plan_depfile.specs.declared.fault.DepFault.TheVariants.{NoColon, NoTarget, LoneDollar, TooLong, PathTooLong, Memory}
use Rattle.plan_depfile.specs.declared.state.Held.{Held}
use Rattle.plan_depfile.specs.declared.state.Held.TheVariants as held
use Rattle.plan_depfile.specs.declared.reader.Reader.{Reader}
use Rattle.plan_depfile.specs.Tokens.{marks_past}
use Rattle.plan_depfile.specs.Depfile.{Met, met_at, canonical_word, with_paths, most, within}
use Rattle.plan_text.specs.Outcome.{◌>>=◌}
use Rattle.plan_depfile.specs.LexerRun.{LexState, Fresh, Comment, Targets, Between, Inside, go, grown}
use Rattle.plan_depfile.specs.Lexer.{bytes_of, found_with, paths_found, stand_at, unless}
use Rattle.plan_depfile.specs.Reader.{IsSure, failed}

abbrev IsTooLong : DepFault → Type 0
IsTooLong (TooLong at) = Unit {0}
IsTooLong other = ⊥

abbrev IsShort : DepFault → Type 0
IsShort (TooLong at) = ⊥
IsShort other = Unit {0}

abbrev IsLone : DepFault → Type 0
IsLone (LoneDollar at) = Unit {0}
IsLone other = ⊥

abbrev IsNoLone : DepFault → Type 0
IsNoLone (LoneDollar at) = ⊥
IsNoLone other = Unit {0}

abbrev IsPath : DepFault → Type 0
IsPath (PathTooLong at) = Unit {0}
IsPath other = ⊥

abbrev IsNoPath : DepFault → Type 0
IsNoPath (PathTooLong at) = ⊥
IsNoPath other = Unit {0}

long_and_short : (f : DepFault) → IsTooLong f → IsShort f → ⊥
long_and_short (TooLong at) l s = s
long_and_short (NoColon at) l s = l
long_and_short (NoTarget at) l s = l
long_and_short (LoneDollar at) l s = l
long_and_short (PathTooLong at) l s = l
long_and_short Memory l s = l

lone_and_not : (f : DepFault) → IsLone f → IsNoLone f → ⊥
lone_and_not (LoneDollar at) l s = s
lone_and_not (NoColon at) l s = l
lone_and_not (NoTarget at) l s = l
lone_and_not (TooLong at) l s = l
lone_and_not (PathTooLong at) l s = l
lone_and_not Memory l s = l

path_and_not : (f : DepFault) → IsPath f → IsNoPath f → ⊥
path_and_not (PathTooLong at) l s = s
path_and_not (NoColon at) l s = l
path_and_not (NoTarget at) l s = l
path_and_not (TooLong at) l s = l
path_and_not (LoneDollar at) l s = l
path_and_not Memory l s = l

-- a property of the fault, if there is one
abbrev OfFault : (DepFault → Type 0) → Result (List (List ℕ)) DepFault → Type 0
OfFault P (Ok paths) = Unit {0}
OfFault P (Err fault) = P fault

abbrev OfMet : (DepFault → Type 0) → Result (List (List ℕ)) Met → Type 0
OfMet P (Ok paths) = Unit {0}
OfMet P (Err m) = P m.fault

either : (P : DepFault → Type 0) (t : Bool) (a b : DepFault) → P a → P b → OfFault P (if t then Err a else Err b)
either P true a b p q = p
either P false a b p q = q

-- for a text that isn't too long
below : (P : DepFault → Type 0) (paths : List (List ℕ)) (r : Result (List (List ℕ)) Met) → OfMet P r → OfFault P (within false ((r >>= (λ more. Ok (with_paths paths more)))))
below P paths (Ok more) h = tt
below P paths (Err m) h = h

-- for a text of any length
always : (P : DepFault → Type 0) → P (TooLong most) → (t : Bool) (paths : List (List ℕ)) (r : Result (List (List ℕ)) Met) → OfMet P r → OfFault P (within t ((r >>= (λ more. Ok (with_paths paths more)))))
always P long false paths r h = below P paths r h
always P long true paths (Ok more) h = long
always P long true paths (Err m) h = either P (nat_lt m.met most) m.fault (TooLong most) h long

-- bytes after which a line has its colon, or is a comment
abbrev colon_behind : Held → List ℕ
colon_behind held.Dollar = 36 ∷ 58 ∷ []
colon_behind held.Nothing = 120 ∷ 58 ∷ []
colon_behind held.Backslash = 120 ∷ 58 ∷ []
colon_behind held.BackslashReturn = 120 ∷ 58 ∷ []
colon_behind held.Return = 120 ∷ 58 ∷ []

-- the result outside of paths
abbrev Finds : (DepFault → Type 0) → LexState → ℕ → ℕ → List ℕ → Type 0
Finds P s stop at text = OfMet P (go stop s (marks_past at text 0))

fresh_ends : (stop at : ℕ) (h : Held) → Finds IsShort Fresh stop at (bytes_of h ++ [])
fresh_ends stop at held.Nothing = tt
fresh_ends stop at held.Backslash = tt
fresh_ends stop at held.BackslashReturn = tt
fresh_ends stop at held.Dollar = tt
fresh_ends stop at held.Return = tt

fresh_goes_on : (stop at : ℕ) (h : Held) → Finds IsTooLong Fresh stop at (bytes_of h ++ colon_behind h)
fresh_goes_on stop at held.Nothing = tt
fresh_goes_on stop at held.Backslash = tt
fresh_goes_on stop at held.BackslashReturn = tt
fresh_goes_on stop at held.Dollar = tt
fresh_goes_on stop at held.Return = tt

comment_ends : (stop at : ℕ) (h : Held) → Finds IsShort Comment stop at (bytes_of h ++ [])
comment_ends stop at held.Nothing = tt
comment_ends stop at held.Backslash = tt
comment_ends stop at held.BackslashReturn = tt
comment_ends stop at held.Dollar = tt
comment_ends stop at held.Return = tt

comment_goes_on : (stop at : ℕ) (h : Held) → Finds IsTooLong Comment stop at (bytes_of h ++ colon_behind h)
comment_goes_on stop at held.Nothing = tt
comment_goes_on stop at held.Backslash = tt
comment_goes_on stop at held.BackslashReturn = tt
comment_goes_on stop at held.Dollar = tt
comment_goes_on stop at held.Return = tt

targets_ends : (first : ℕ) (stop at : ℕ) (h : Held) → Finds IsShort (Targets first) stop at (bytes_of h ++ [])
targets_ends first stop at held.Nothing = tt
targets_ends first stop at held.Backslash = tt
targets_ends first stop at held.BackslashReturn = tt
targets_ends first stop at held.Dollar = tt
targets_ends first stop at held.Return = tt

targets_goes_on : (first : ℕ) (stop at : ℕ) (h : Held) → Finds IsTooLong (Targets first) stop at (bytes_of h ++ colon_behind h)
targets_goes_on first stop at held.Nothing = tt
targets_goes_on first stop at held.Backslash = tt
targets_goes_on first stop at held.BackslashReturn = tt
targets_goes_on first stop at held.Dollar = tt
targets_goes_on first stop at held.Return = tt

between_ends : (stop at : ℕ) (h : Held) → Finds IsShort Between stop at (bytes_of h ++ [])
between_ends stop at held.Nothing = tt
between_ends stop at held.Backslash = tt
between_ends stop at held.BackslashReturn = tt
between_ends stop at held.Dollar = tt
between_ends stop at held.Return = tt

between_goes_on : (stop at : ℕ) (h : Held) → Finds IsTooLong Between stop at (bytes_of h ++ colon_behind h)
between_goes_on stop at held.Nothing = tt
between_goes_on stop at held.Backslash = tt
between_goes_on stop at held.BackslashReturn = tt
between_goes_on stop at held.Dollar = tt
between_goes_on stop at held.Return = tt

-- bytes that begin with a `$`; after a pending `$` it isn't single
abbrev dollar_behind : Held → List ℕ
dollar_behind held.Dollar = 36 ∷ []
dollar_behind held.Nothing = 36 ∷ 120 ∷ []
dollar_behind held.Backslash = 36 ∷ 120 ∷ []
dollar_behind held.BackslashReturn = 36 ∷ 120 ∷ []
dollar_behind held.Return = 36 ∷ 120 ∷ []

-- the faults of a path if the text ends here
abbrev ends_with : Held → DepFault → Type 0
ends_with held.Dollar = IsLone
ends_with held.Nothing = IsPath
ends_with held.Backslash = IsPath
ends_with held.BackslashReturn = IsPath
ends_with held.Return = IsPath

-- the faults of a path if the text goes on
abbrev goes_with : Held → DepFault → Type 0
goes_with held.Dollar = IsNoLone
goes_with held.Nothing = IsNoPath
goes_with held.Backslash = IsNoPath
goes_with held.BackslashReturn = IsNoPath
goes_with held.Return = IsNoPath

by_len : (start met : ℕ) (bytes : List ℕ) (t : Bool) → OfMet IsPath ((if t then Err (met_at met (PathTooLong start)) else Ok (canonical_word bytes)) >>= (λ path. Ok (path ∷ [])))
by_len start met bytes true = tt
by_len start met bytes false = tt

by_len_too : (start met : ℕ) (bytes : List ℕ) (t : Bool) → OfMet IsNoLone ((if t then Err (met_at met (PathTooLong start)) else Ok (canonical_word bytes)) >>= (λ path. Ok (path ∷ [])))
by_len_too start met bytes true = tt
by_len_too start met bytes false = tt

-- in a path, if the text ends here
path_ends : (start : ℕ) (bytes : List ℕ) (stop at : ℕ) (h : Held) → Finds (ends_with h) (Inside start bytes) stop at (bytes_of h ++ [])
path_ends start bytes stop at held.Nothing = by_len start stop bytes (nat_lt 4096 (length bytes))
path_ends start bytes stop at held.Backslash = by_len start stop (grown bytes 92) (nat_lt 4096 (length (grown bytes 92)))
path_ends start bytes stop at held.BackslashReturn = by_len start stop (grown (grown bytes 92) 13) (nat_lt 4096 (length (grown (grown bytes 92) 13)))
path_ends start bytes stop at held.Return = by_len start stop (grown bytes 13) (nat_lt 4096 (length (grown bytes 13)))
path_ends start bytes stop at held.Dollar = tt

-- in a path, if a `$` follows
path_goes_on : (start : ℕ) (bytes : List ℕ) (stop at : ℕ) (h : Held) → Finds (goes_with h) (Inside start bytes) stop at (bytes_of h ++ dollar_behind h)
path_goes_on start bytes stop at held.Nothing = tt
path_goes_on start bytes stop at held.Backslash = tt
path_goes_on start bytes stop at held.BackslashReturn = tt
path_goes_on start bytes stop at held.Return = tt
path_goes_on start bytes stop at held.Dollar = by_len_too start stop (grown bytes 36) (nat_lt 4096 (length (grown bytes 36)))

long_goes : (h : Held) → goes_with h (TooLong most)
long_goes held.Nothing = tt
long_goes held.Backslash = tt
long_goes held.BackslashReturn = tt
long_goes held.Return = tt
long_goes held.Dollar = tt

ends_or_goes : (h : Held) (f : DepFault) → ends_with h f → goes_with h f → ⊥
ends_or_goes held.Nothing f e g = path_and_not f e g
ends_or_goes held.Backslash f e g = path_and_not f e g
ends_or_goes held.BackslashReturn f e g = path_and_not f e g
ends_or_goes held.Return f e g = path_and_not f e g
ends_or_goes held.Dollar f e g = lone_and_not f e g

-- a text that ends here isn't too long
is_short : (at : ℕ) (h : Held) → at + length (bytes_of h) ≤ most → nat_lt most (at + length (bytes_of h ++ [])) ≡ false
is_short at held.Nothing w = grind (arith, nat_tests, w)
is_short at held.Backslash w = grind (arith, nat_tests, w)
is_short at held.BackslashReturn w = grind (arith, nat_tests, w)
is_short at held.Dollar w = grind (arith, nat_tests, w)
is_short at held.Return w = grind (arith, nat_tests, w)

-- the result from this state if these bytes follow
abbrev found : List (List ℕ) → LexState → ℕ → Held → List ℕ → Result (List (List ℕ)) DepFault
found paths s at h rest = found_with paths s (at + length (bytes_of h ++ rest)) (marks_past at (bytes_of h ++ rest) 0)

-- a fault that is found whatever follows
abbrev FoundAlways : List (List ℕ) → LexState → ℕ → Held → DepFault → Type 0
FoundAlways paths s at h fault = (rest : List ℕ) → found paths s at h rest ≡ Err fault

by_end : (P : DepFault → Type 0) (paths : List (List ℕ)) (s : LexState) (at : ℕ) (h : Held) (fault : DepFault) → at + length (bytes_of h) ≤ most → FoundAlways paths s at h fault
    → Finds P s (at + length (bytes_of h ++ [])) at (bytes_of h ++ []) → P fault
by_end P paths s at h fault w always f =
    let r : Result (List (List ℕ)) Met = go (at + length (bytes_of h ++ [])) s (marks_past at (bytes_of h ++ []) 0) in
    subst (OfFault P) (always []) (subst (λ (t : Bool). OfFault P (within t ((r >>= (λ more. Ok (with_paths paths more)))))) (sym (is_short at h w)) (below P paths r f))

by_more : (P : DepFault → Type 0) → P (TooLong most) → (paths : List (List ℕ)) (s : LexState) (at : ℕ) (h : Held) (fault : DepFault) (rest : List ℕ) → FoundAlways paths s at h fault
    → Finds P s (at + length (bytes_of h ++ rest)) at (bytes_of h ++ rest) → P fault
by_more P long paths s at h fault rest found_always f =
    subst (OfFault P) (found_always rest) (always P long (nat_lt most (at + length (bytes_of h ++ rest))) paths (go (at + length (bytes_of h ++ rest)) s (marks_past at (bytes_of h ++ rest) 0)) f)

outside : (paths : List (List ℕ)) (s : LexState) (at : ℕ) (h : Held) (fault : DepFault) → at + length (bytes_of h) ≤ most → FoundAlways paths s at h fault
    → Finds IsShort s (at + length (bytes_of h ++ [])) at (bytes_of h ++ [])
    → Finds IsTooLong s (at + length (bytes_of h ++ colon_behind h)) at (bytes_of h ++ colon_behind h) → ⊥
outside paths s at h fault w always e g =
    long_and_short fault (by_more IsTooLong tt paths s at h fault (colon_behind h) always g) (by_end IsShort paths s at h fault w always e)

none_always : (paths : List (List ℕ)) (s : LexState) (at : ℕ) (h : Held) (fault : DepFault) → at + length (bytes_of h) ≤ most → FoundAlways paths s at h fault → ⊥
none_always paths Fresh at h fault w always =
    outside paths Fresh at h fault w always (fresh_ends (at + length (bytes_of h ++ [])) at h) (fresh_goes_on (at + length (bytes_of h ++ colon_behind h)) at h)
none_always paths Comment at h fault w always =
    outside paths Comment at h fault w always (comment_ends (at + length (bytes_of h ++ [])) at h) (comment_goes_on (at + length (bytes_of h ++ colon_behind h)) at h)
none_always paths (Targets first) at h fault w always =
    outside paths (Targets first) at h fault w always (targets_ends first (at + length (bytes_of h ++ [])) at h) (targets_goes_on first (at + length (bytes_of h ++ colon_behind h)) at h)
none_always paths Between at h fault w always =
    outside paths Between at h fault w always (between_ends (at + length (bytes_of h ++ [])) at h) (between_goes_on (at + length (bytes_of h ++ colon_behind h)) at h)
none_always paths (Inside start bytes) at h fault w always =
    ends_or_goes h fault (by_end (ends_with h) paths (Inside start bytes) at h fault w always (path_ends start bytes (at + length (bytes_of h ++ [])) at h))
    (by_more (goes_with h) (long_goes h) paths (Inside start bytes) at h fault (dollar_behind h) always (path_goes_on start bytes (at + length (bytes_of h ++ dollar_behind h)) at h))

-- if there is no fault yet, no fault is sure
pub none_is_sure : (reader : Reader) → failed reader ≡ None → (fault : DepFault) → IsSure reader fault → ⊥
none_is_sure reader none fault sure =
    let m = reader.lexer in
    none_always (paths_found m) (stand_at m.lex_state m.word.items) m.at m.held fault reader.short
    (λ (rest : List ℕ). sym (ap (λ (o : Option DepFault). unless o (found (paths_found m) (stand_at m.lex_state m.word.items) m.at m.held rest)) none) ∙ sure rest)
