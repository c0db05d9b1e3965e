-- Lines of a block read in order. Lemmas for src/block.rt.
use Rattle.std.proofs.Common.{◌≡◌, ℕ, All, ◌+◌, ◌<◌, Bool, true, false, List, [], ◌∷◌, ◌++◌, length, get_or, take, drop, Result, Ok, Err, refl, sym, ap, subst, ◌∙◌, append_assoc}
use Rattle.std.specs.Prelude.{◌||◌}
use Rattle.std.specs.List.{list_any}
use Rattle.std.proofs.lemmas.List.{drop_more, take_more, map_push, get_or-map, length-map}
use Rattle.plan_text.specs.Outcome.{◌>>=◌, each}
use Rattle.plan_parse.specs.declared.block.BlockLine as the_line
use Rattle.plan_parse.specs.BlockLines.{block_line_of, block_lines_of}
use Rattle.plan_parse.specs.declared.fault.ParseFault.{ParseFault}
use Rattle.plan_parse.specs.declared.block.BlockKind.{BlockKind}
use Rattle.plan_parse.specs.declared.statement.Binding.{Binding}
use Rattle.plan_parse.specs.Blocks.{BlockLine}
use Rattle.plan_parse.specs.Statements.{block_variable_at, block_variables_at}

-- the items that were read, before those of the rest
abbrev pub in_front : {B : Type 0} → List B → Result (List B) ParseFault → Result (List B) ParseFault
in_front front (Ok more) = Ok (front ++ more)
in_front front (Err e) = Err e

regroup : {B : Type 0} (front : List B) (y : B) (r : Result (List B) ParseFault) → in_front (front ++ y ∷ []) r ≡ in_front front (r >>= λ ys. Ok (y ∷ ys))
regroup front y (Ok ys) = ap (λ (v : List _). Ok v) (append_assoc front (y ∷ []) ys)
regroup front y (Err e) = refl

-- one more line
pub one_more : {A B : Type 0} (f : A → Result B ParseFault) (front : List B) (x : A) (xs : List A) (y : B) (all : Result (List B) ParseFault) → f x ≡ Ok y
    → in_front front (each f (x ∷ xs)) ≡ all → in_front (front ++ y ∷ []) (each f xs) ≡ all
one_more f front x xs y all e so_far = regroup front y (each f xs) ∙ ap (λ r. in_front front (r >>= λ y. each f xs >>= λ ys. Ok (y ∷ ys))) (sym e) ∙ so_far

-- one more line of a rule or a pool
pub one_more_variable : (block : BlockKind) (front : List Binding) (above : List BlockLine) (m : BlockLine) (more : List BlockLine) (b : Binding) (all : Result (List Binding) ParseFault) → block_variable_at block above m ≡ Ok b
    → in_front front (block_variables_at block above (m ∷ more)) ≡ all → in_front (front ++ b ∷ []) (block_variables_at block (above ++ m ∷ []) more) ≡ all
one_more_variable block front above m more b all e so_far =
    regroup front b (block_variables_at block (above ++ m ∷ []) more)
    ∙ ap (λ r. in_front front (r >>= λ b. block_variables_at block (above ++ m ∷ []) more >>= λ bs. Ok (b ∷ bs))) (sym e) ∙ so_far

-- the lines from one on
pub lines_from : (ms : List the_line.BlockLine) (i : ℕ) (m : the_line.BlockLine) → i < length ms → m ≡ get_or ms i m → block_lines_of (drop i ms) ≡ block_line_of m ∷ block_lines_of (drop (i + 1) ms)
lines_from ms i m h e = ap block_lines_of (drop_more ms i m h ∙ ap (λ (x : the_line.BlockLine). x ∷ drop (i + 1) ms) (sym e))

-- the lines up to one
pub lines_to : (ms : List the_line.BlockLine) (i : ℕ) (m : the_line.BlockLine) → i < length ms → m ≡ get_or ms i m → block_lines_of (take (i + 1) ms) ≡ block_lines_of (take i ms) ++ block_line_of m ∷ []
lines_to ms i m h e = ap block_lines_of (take_more ms i m h ∙ ap (λ (x : the_line.BlockLine). take i ms ++ x ∷ []) (sym e)) ∙ map_push block_line_of (take i ms) m

-- a property of all lines is one of each line
pub line_among : (P : BlockLine → Type 0) (ms : List the_line.BlockLine) (i : ℕ) (m : the_line.BlockLine) → i < length ms → m ≡ get_or ms i m → All P (block_lines_of ms) → P (block_line_of m)
line_among P ms i m h e all =
    let within : i < length (block_lines_of ms) = subst (λ (n : ℕ). i < n) (sym (length-map ms block_line_of)) h in
    subst P (get_or-map block_line_of ms i m (block_line_of m) h ∙ ap block_line_of (sym e)) (all i (block_line_of m) within)

-- whether any item passes a test, with one more item
pub any_more : {A : Type 0} (test : A → Bool) (xs : List A) (x : A) → list_any test (xs ++ x ∷ []) ≡ list_any test xs || test x
any_more test [] x = or_false (test x) where
  or_false : (v : Bool) → v || false ≡ v
  or_false true = refl
  or_false false = refl
any_more test (y ∷ xs) x = ap (λ (v : Bool). test y || v) (any_more test xs x) ∙ sym (or_assoc (test y) (list_any test xs) (test x)) where
  or_assoc : (a b c : Bool) → (a || b) || c ≡ a || (b || c)
  or_assoc true b c = refl
  or_assoc false b c = refl
