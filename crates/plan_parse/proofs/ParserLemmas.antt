-- Blocks that end at the beginning of the next. Lemmas for src/parser.rt.
use Rattle.std.proofs.Common.{◌≡◌, List, [], ◌∷◌, ◌++◌, Result, Ok, Err, Option, Some, None, refl, sym, ap, ◌∙◌, append_assoc}
use Rattle.std.proofs.lemmas.List.{append-nil}
use Rattle.plan_text.specs.Outcome.{◌>>=◌, each}
use Rattle.plan_parse.specs.declared.fault.ParseFault.{ParseFault}
use Rattle.plan_parse.specs.Kinds.{Statement}
use Rattle.plan_parse.specs.Reading.{Place}
use Rattle.plan_parse.specs.Blocks.{BlockLine, LineRole, Head, Below, below, blocks_of}
use Rattle.plan_parse.specs.Statements.{no_block_allowed, statement_of, statement_in}
use Rattle.plan_parse.specs.Progress.{State, block_statement, statements_at_end, statements_with}

-- a line of the block
pub takes_below : (done : List Statement) (head : Option Place) (lines new : List BlockLine) (m : BlockLine) (rest : List LineRole) → new ≡ lines ++ m ∷ []
    → statements_with (record { done = done; head = head; lines = new }) rest ≡ statements_with (record { done = done; head = head; lines = lines }) (Below m ∷ rest)
takes_below done head lines new m rest e =
    ap (λ (v : List BlockLine). block_statement head (v ++ below rest) >>= λ front. each statement_in (blocks_of rest) >>= λ back. Ok (done ++ (front ++ back))) e
    ∙ ap (λ (v : List BlockLine). block_statement head v >>= λ front. each statement_in (blocks_of rest) >>= λ back. Ok (done ++ (front ++ back))) (append_assoc lines (m ∷ []) (below rest))

head_go : (done more : List Statement) (last : Result (List Statement) ParseFault) (next : Result Statement ParseFault) (rest : Result (List Statement) ParseFault) → (last >>= λ front. Ok (done ++ front)) ≡ Ok more
    → ((next >>= λ s. Ok (s ∷ [])) >>= λ front. rest >>= λ back. Ok (more ++ (front ++ back))) ≡ (last >>= λ front. (next >>= λ y. rest >>= λ ys. Ok (y ∷ ys)) >>= λ back. Ok (done ++ (front ++ back)))
head_go done more (Err e) next rest h = absurd cc
head_go done more (Ok front) (Err e) rest h = refl
head_go done more (Ok front) (Ok y) (Err e) h = refl
head_go done more (Ok front) (Ok y) (Ok ys) h =
    let same : done ++ front ≡ more = cc in
    ap (λ (v : List Statement). Ok (v ++ y ∷ ys)) (sym same) ∙ ap (λ (v : List Statement). Ok v) (append_assoc done front (y ∷ ys))

closing_all : (head : Option Place) (lines : List BlockLine) → block_statement head (lines ++ []) ≡ block_statement head lines
closing_all head lines = ap (block_statement head) (append-nil lines)

-- a line that ends the block and begins another
pub takes_head : (s : State) (more : List Statement) (p : Place) (rest : List LineRole) → statements_at_end s ≡ Ok more
    → statements_with (record { done = more; head = Some p; lines = [] }) rest ≡ statements_with s (Head p ∷ rest)
takes_head s more p rest e =
    head_go s.done more (block_statement s.head s.lines) (statement_of p (below rest)) (each statement_in (blocks_of rest)) e
    ∙ ap (λ (r : Result (List Statement) ParseFault). r >>= λ front. (statement_of p (below rest) >>= λ y. each statement_in (blocks_of rest) >>= λ ys. Ok (y ∷ ys)) >>= λ back. Ok (s.done ++ (front ++ back))) (sym (closing_all s.head s.lines))

last_go : (done : List Statement) (last : Result (List Statement) ParseFault) → (last >>= λ front. Ok (done ++ (front ++ []))) ≡ (last >>= λ front. Ok (done ++ front))
last_go done (Ok front) = ap (λ (v : List Statement). Ok (done ++ v)) (append-nil front)
last_go done (Err e) = refl

-- the end of the text
pub ends : (s : State) → statements_with s [] ≡ statements_at_end s
ends s = ap (λ (r : Result (List Statement) ParseFault). r >>= λ front. Ok (s.done ++ (front ++ []))) (closing_all s.head s.lines) ∙ last_go s.done (block_statement s.head s.lines)

-- no line above all blocks
pub none_above : (done : List Statement) (lines : List BlockLine) → no_block_allowed lines ≡ Ok tt → statements_at_end (record { done = done; head = None; lines = lines }) ≡ Ok done
none_above done lines none =
    ap (λ (r : Result (Unit {0}) ParseFault). (r >>= λ _. Ok []) >>= λ last. Ok (done ++ last)) none ∙ ap (λ (v : List Statement). Ok v) (append-nil done)
