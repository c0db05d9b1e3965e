-- The meaning of a statement doesn't depend on its offset. Proofs for the law statements_join.
use Rattle.std.proofs.Common.{◌≡◌, ℕ, ◌+◌, ◌==◌, Bool, ◌||◌, ◌&&◌, true, false, not, cond, List, [], ◌∷◌, ◌++◌, length, Result, Ok, Err, refl, ap, subst, ◌∙◌}
use Rattle.std.specs.Prelude.{codes}
use Rattle.std.specs.List.{list_any}
use Rattle.std.specs.Str.{bytes_eq}
use Rattle.plan_text.specs.Bytes.{colon, equals_sign}
use Rattle.plan_text.specs.Outcome.{◌>>=◌, each}
use Rattle.plan_text.specs.declared.piece_reader.Piece.{Piece}
use Rattle.plan_parse.specs.declared.fault.ParseFault.{ParseFault}
use Rattle.plan_parse.specs.declared.fault.ParseFault.TheVariants as fault
use Rattle.plan_parse.specs.declared.block.BlockKind.{BlockKind}
use Rattle.plan_parse.specs.declared.block.BlockKind.TheVariants.{Rule, Pool}
use Rattle.plan_parse.specs.declared.statement.Binding.{Binding}
use Rattle.plan_parse.specs.Kinds as kind
use Rattle.plan_parse.specs.Kinds.{Statement}
use Rattle.plan_parse.specs.Reading.{Place, past, past_gap, name_of, name_at, byte_at, line_end_at, value_at, path_len, path_at, paths_at}
use Rattle.plan_parse.specs.Blocks.{BlockLine, Text, Refused}
use Rattle.plan_parse.specs.Statements.{binding_at, block_line_at, no_block_allowed, is_named, required_name, unknown_variable, missing_or_repeated, may_bind, block_variable_at, block_variables_at, has_required, named_line, named_block, rule_of, pool_of, depth_of, is_bar, is_two_bars, is_validation, implicit_at, order_only_at, no_validation, some_path, outputs_at, inputs_at, build_of, targets_at, default_of, some_byte, file_at, include_of, subninja_of, binding_of, statement_of}
use Rattle.plan_parse.proofs.LikeLemmas.{Like, Same, SameText, SameFound, bind_like, here, by_text, name_like, byte_like, end_like, value_like, paths_like, one_path_like, by_test, unless_test}

-- === Bindings and lines of blocks ===

-- `name = value`
bound_rest : List ℕ × Place → Result Binding ParseFault
bound_rest n = byte_at equals_sign fault.ExpectedEquals n.1 >>= λ v. value_at v >>= λ value. Ok (record { name = n.0; value = value })

binding_like : (p q : Place) → SameText p q → Like Same (binding_at p) (binding_at q)
unfolding bound_rest
binding_like p q e =
    bind_like SameFound Same (name_at (past_gap p)) (name_at (past_gap q)) bound_rest bound_rest
    (by_text (λ p q. Like SameFound (name_at (past_gap p)) (name_at (past_gap q))) (λ a b v. name_like (past_gap (here a v)) (past_gap (here b v)) refl) p q e)
    (λ n m f. bind_like SameText Same (byte_at equals_sign fault.ExpectedEquals n.1) (byte_at equals_sign fault.ExpectedEquals m.1)
    (λ v. value_at v >>= λ value. Ok (record { name = n.0; value = value })) (λ v. value_at v >>= λ value. Ok (record { name = m.0; value = value }))
    (byte_like equals_sign fault.ExpectedEquals n.1 m.1 f.1)
    (λ v w g. bind_like Same Same (value_at v) (value_at w) (λ value. Ok (record { name = n.0; value = value })) (λ value. Ok (record { name = m.0; value = value }))
    (value_like v w g)
    (λ x y h. made n.0 m.0 x y f.0 h)))
  where
    made : (n m : List ℕ) (x y : List Piece) → n ≡ m → x ≡ y → ◌≡◌ {A = Binding} (record { name = n; value = x }) (record { name = m; value = y })
    made n m x y e f = rw (e, f) refl

-- lines of a block with the same text
abbrev pub SameBlockLine : BlockLine → BlockLine → Type 0
SameBlockLine (Text p) (Text q) = SameText p q
SameBlockLine (Refused e) (Refused f) = Unit {0}
SameBlockLine (Text p) (Refused f) = ⊥
SameBlockLine (Refused e) (Text q) = ⊥

-- lines of two blocks with the same texts, one by one
abbrev pub SameBlockLines : List BlockLine → List BlockLine → Type 0
SameBlockLines [] [] = Unit {0}
SameBlockLines (m ∷ ms) (n ∷ ns) = SameBlockLine m n × SameBlockLines ms ns
SameBlockLines [] (n ∷ ns) = ⊥
SameBlockLines (m ∷ ms) [] = ⊥

block_lines_append : (a b : List BlockLine) (m n : BlockLine) → SameBlockLines a b → SameBlockLine m n → SameBlockLines (a ++ m ∷ []) (b ++ n ∷ [])
block_lines_append [] [] m n h k = (k, tt)
block_lines_append (x ∷ a) (y ∷ b) m n h k = (h.0, block_lines_append a b m n h.1 k)
block_lines_append [] (y ∷ b) m n h k = absurd h
block_lines_append (x ∷ a) [] m n h k = absurd h

block_line_like : (m n : BlockLine) → SameBlockLine m n → Like Same (block_line_at m) (block_line_at n)
block_line_like (Text p) (Text q) h = binding_like p q h
block_line_like (Refused e) (Refused f) h = tt
block_line_like (Text p) (Refused f) h = absurd h
block_line_like (Refused e) (Text q) h = absurd h

no_block_like : (a b : List BlockLine) → SameBlockLines a b → Like Same (no_block_allowed a) (no_block_allowed b)
no_block_like [] [] h = refl
no_block_like (Text p ∷ a) (Text q ∷ b) h = tt
no_block_like (Refused e ∷ a) (Refused f ∷ b) h = tt
no_block_like (Text p ∷ a) (Refused f ∷ b) h = absurd h.0
no_block_like (Refused e ∷ a) (Text q ∷ b) h = absurd h.0
no_block_like [] (n ∷ b) h = absurd h
no_block_like (m ∷ a) [] h = absurd h

cons_like : {B : Type 0} (x y : B) → x ≡ y → (r q : Result (List B) ParseFault) → Like Same r q → Like Same (r >>= λ xs. Ok (x ∷ xs)) (q >>= λ ys. Ok (y ∷ ys))
cons_like x y e (Ok xs) (Ok ys) h = rw (e, h) refl
cons_like x y e (Err a) (Err b) h = tt
cons_like x y e (Ok xs) (Err b) h = absurd h
cons_like x y e (Err a) (Ok ys) h = absurd h

block_lines_like : (a b : List BlockLine) → SameBlockLines a b → Like Same (each block_line_at a) (each block_line_at b)
block_lines_like [] [] h = refl
block_lines_like (m ∷ a) (n ∷ b) h =
    bind_like Same Same (block_line_at m) (block_line_at n) (λ y. each block_line_at a >>= λ ys. Ok (y ∷ ys)) (λ y. each block_line_at b >>= λ ys. Ok (y ∷ ys))
    (block_line_like m n h.0) (λ x y e. cons_like x y e (each block_line_at a) (each block_line_at b) (block_lines_like a b h.1))
block_lines_like [] (n ∷ b) h = absurd h
block_lines_like (m ∷ a) [] h = absurd h

-- === Lines of a rule or a pool ===

-- lines of a rule or a pool
named_same : (name : List ℕ) (p q : Place) → SameText p q → is_named name (Text p) ≡ is_named name (Text q)
named_same name = by_text (λ p q. is_named name (Text p) ≡ is_named name (Text q)) (λ a b v. refl)

any_named : (name : List ℕ) (a b : List BlockLine) → SameBlockLines a b → list_any (is_named name) a ≡ list_any (is_named name) b
any_named name [] [] h = refl
any_named name (Text p ∷ a) (Text q ∷ b) h = ap (λ (t : Bool). t || list_any (is_named name) a) (named_same name p q h.0) ∙ ap (λ (t : Bool). is_named name (Text q) || t) (any_named name a b h.1)
any_named name (Refused e ∷ a) (Refused f ∷ b) h = any_named name a b h.1
any_named name (Text p ∷ a) (Refused f ∷ b) h = absurd h.0
any_named name (Refused e ∷ a) (Text q ∷ b) h = absurd h.0
any_named name [] (n ∷ b) h = absurd h
any_named name (m ∷ a) [] h = absurd h

tests_like : {A B : Type 0} (R : A → B → Type 0) (t u : Bool) (e f g h : ParseFault) (r : Result A ParseFault) (q : Result B ParseFault) → Like R r q → Like R (cond t (Err e) (cond u (Err f) r)) (cond t (Err g) (cond u (Err h) q))
tests_like R true u e f g h r q k = tt
tests_like R false true e f g h r q k = tt
tests_like R false false e f g h r q k = k

block_variable_like : (o : BlockKind) (a b : List BlockLine) → SameBlockLines a b → (m n : BlockLine) → SameBlockLine m n → Like Same (block_variable_at o a m) (block_variable_at o b n)
block_variable_like o a b s (Text p) (Text q) h =
    bind_like SameFound Same (name_at (past_gap p)) (name_at (past_gap q))
    (λ n. cond (not (may_bind o n.0)) (Err (unknown_variable o (past_gap p).at)) (cond (bytes_eq n.0 (required_name o) && list_any (is_named (required_name o)) a) (Err (missing_or_repeated o (past_gap p).at)) (binding_at p)))
    (λ n. cond (not (may_bind o n.0)) (Err (unknown_variable o (past_gap q).at)) (cond (bytes_eq n.0 (required_name o) && list_any (is_named (required_name o)) b) (Err (missing_or_repeated o (past_gap q).at)) (binding_at q)))
    (by_text (λ p q. Like SameFound (name_at (past_gap p)) (name_at (past_gap q))) (λ a b v. name_like (past_gap (here a v)) (past_gap (here b v)) refl) p q h)
    (λ x y f. last x.0 y.0 f.0)
  where
    last : (x y : List ℕ) → x ≡ y
        → Like Same (cond (not (may_bind o x)) (Err (unknown_variable o (past_gap p).at)) (cond (bytes_eq x (required_name o) && list_any (is_named (required_name o)) a) (Err (missing_or_repeated o (past_gap p).at)) (binding_at p)))
        (cond (not (may_bind o y)) (Err (unknown_variable o (past_gap q).at)) (cond (bytes_eq y (required_name o) && list_any (is_named (required_name o)) b) (Err (missing_or_repeated o (past_gap q).at)) (binding_at q)))
    last x y e =
        subst (λ (v : List ℕ). Like Same (cond (not (may_bind o x)) (Err (unknown_variable o (past_gap p).at)) (cond (bytes_eq x (required_name o) && list_any (is_named (required_name o)) a) (Err (missing_or_repeated o (past_gap p).at)) (binding_at p)))
        (cond (not (may_bind o v)) (Err (unknown_variable o (past_gap q).at)) (cond (bytes_eq v (required_name o) && list_any (is_named (required_name o)) b) (Err (missing_or_repeated o (past_gap q).at)) (binding_at q)))) e
        (subst (λ (t : Bool). Like Same (cond (not (may_bind o x)) (Err (unknown_variable o (past_gap p).at)) (cond (bytes_eq x (required_name o) && list_any (is_named (required_name o)) a) (Err (missing_or_repeated o (past_gap p).at)) (binding_at p)))
        (cond (not (may_bind o x)) (Err (unknown_variable o (past_gap q).at)) (cond (bytes_eq x (required_name o) && t) (Err (missing_or_repeated o (past_gap q).at)) (binding_at q)))) (any_named (required_name o) a b s)
        (tests_like Same (not (may_bind o x)) (bytes_eq x (required_name o) && list_any (is_named (required_name o)) a) _ _ _ _ (binding_at p) (binding_at q) (binding_like p q h)))
block_variable_like o a b s (Refused e) (Refused f) h = tt
block_variable_like o a b s (Text p) (Refused f) h = absurd h
block_variable_like o a b s (Refused e) (Text q) h = absurd h

block_variables_like : (o : BlockKind) (a b : List BlockLine) → SameBlockLines a b → (c d : List BlockLine) → SameBlockLines c d → Like Same (block_variables_at o a c) (block_variables_at o b d)
block_variables_like o a b s [] [] h = refl
block_variables_like o a b s (m ∷ c) (n ∷ d) h =
    bind_like Same Same (block_variable_at o a m) (block_variable_at o b n) (λ x. block_variables_at o (a ++ m ∷ []) c >>= λ xs. Ok (x ∷ xs)) (λ x. block_variables_at o (b ++ n ∷ []) d >>= λ xs. Ok (x ∷ xs))
    (block_variable_like o a b s m n h.0)
    (λ x y e. cons_like x y e (block_variables_at o (a ++ m ∷ []) c) (block_variables_at o (b ++ n ∷ []) d) (block_variables_like o (a ++ m ∷ []) (b ++ n ∷ []) (block_lines_append a b m n s h.0) c d h.1))
block_variables_like o a b s [] (n ∷ d) h = absurd h
block_variables_like o a b s (m ∷ c) [] h = absurd h

required_like : (o : BlockKind) (i j : ℕ) (a b : List BlockLine) → SameBlockLines a b → Like Same (has_required o i a) (has_required o j b)
required_like o i j a b h =
    subst (λ (t : Bool). Like Same (has_required o i a) (cond t (Ok tt) (Err (missing_or_repeated o j)))) (any_named (required_name o) a b h) (unless_test Same (list_any (is_named (required_name o)) a) tt tt _ _ refl)

named_line_like : (p q : Place) → SameText p q → Like Same (named_line p) (named_line q)
named_line_like p q e =
    bind_like SameFound Same (name_at p) (name_at q) (λ n. line_end_at n.0 n.1) (λ n. line_end_at n.0 n.1) (name_like p q e) (λ x y f. end_like x.0 y.0 f.0 x.1 y.1 f.1)

block_like : (o : BlockKind) (i j : ℕ) (p q : Place) (a b : List BlockLine) → SameText p q → SameBlockLines a b → Like Same (named_block o i p a) (named_block o j q b)
block_like o i j p q a b e h =
    bind_like Same Same (has_required o i a) (has_required o j b)
    (λ _. named_line p >>= λ name. block_variables_at o [] a >>= λ bindings. Ok (name, bindings)) (λ _. named_line q >>= λ name. block_variables_at o [] b >>= λ bindings. Ok (name, bindings))
    (required_like o i j a b h)
    (λ _ _ _. bind_like Same Same (named_line p) (named_line q) (λ name. block_variables_at o [] a >>= λ bindings. Ok (name, bindings)) (λ name. block_variables_at o [] b >>= λ bindings. Ok (name, bindings))
    (named_line_like p q e)
    (λ x y f. bind_like Same Same (block_variables_at o [] a) (block_variables_at o [] b) (λ bindings. Ok (x, bindings)) (λ bindings. Ok (y, bindings))
    (block_variables_like o [] [] tt a b h) (λ v w g. pair x y v w f g)))
  where
    pair : (x y : List ℕ) (v w : List Binding) → x ≡ y → v ≡ w → ◌≡◌ {A = List ℕ × List Binding} (x, v) (y, w)
    pair x y v w f g = rw (f, g) refl

-- === Lists of paths ===

-- lists of paths
list_by : (t : Bool) (r q : Result (List (List Piece) × Place) ParseFault) (x y : List (List Piece) × Place) → Like SameFound r q → SameFound x y → Like SameFound (cond t r (Ok x)) (cond t q (Ok y))
list_by true r q x y h k = h
list_by false r q x y h k = k

implicit_like : (p q : Place) → SameText p q → Like SameFound (implicit_at p) (implicit_at q)
implicit_like = by_text (λ p q. Like SameFound (implicit_at p) (implicit_at q))
    (λ a b v. list_by (is_bar (here a v)) (paths_at (past 1 (here a v))) (paths_at (past 1 (here b v))) ([], here a v) ([], here b v) (paths_like (past 1 (here a v)) (past 1 (here b v)) refl) (refl, refl))

order_like : (p q : Place) → SameText p q → Like SameFound (order_only_at p) (order_only_at q)
order_like = by_text (λ p q. Like SameFound (order_only_at p) (order_only_at q))
    (λ a b v. list_by (is_two_bars (here a v)) (paths_at (past 2 (here a v))) (paths_at (past 2 (here b v))) ([], here a v) ([], here b v) (paths_like (past 2 (here a v)) (past 2 (here b v)) refl) (refl, refl))

validation_like : (p q : Place) → SameText p q → Like Same (no_validation p) (no_validation q)
validation_like = by_text (λ p q. Like Same (no_validation p) (no_validation q)) (λ a b v. by_test Same (is_validation (here a v)) tt tt _ _ refl)

some_like : (p q : Place) (xs ys vs ws : List (List Piece)) → xs ≡ ys → vs ≡ ws → Like Same (some_path p xs vs) (some_path q ys ws)
some_like p q xs ys vs ws e f =
    subst (λ (l : List (List Piece)). Like Same (some_path p xs vs) (some_path q l ws)) e
    (subst (λ (l : List (List Piece)). Like Same (some_path p xs vs) (some_path q xs l)) f (by_test Same (length xs + length vs == 0) tt tt _ _ refl))

abbrev Outputs : Type 0
Outputs = List (List Piece) × List (List Piece) × Place

abbrev Inputs : Type 0
Inputs = List (List Piece) × List (List Piece) × List (List Piece)

abbrev SameOutputs : Outputs → Outputs → Type 0
SameOutputs x y = (x.0 ≡ y.0) × (x.1 ≡ y.1) × SameText x.2 y.2

outputs_like : (p q : Place) → SameText p q → Like SameOutputs (outputs_at p) (outputs_at q)
outputs_like p q e =
    bind_like SameFound SameOutputs (paths_at p) (paths_at q)
    (λ outputs. implicit_at outputs.1 >>= λ implicit. some_path implicit.1 outputs.0 implicit.0 >>= λ _. byte_at colon fault.ExpectedColon implicit.1 >>= λ behind. Ok (outputs.0, implicit.0, behind))
    (λ outputs. implicit_at outputs.1 >>= λ implicit. some_path implicit.1 outputs.0 implicit.0 >>= λ _. byte_at colon fault.ExpectedColon implicit.1 >>= λ behind. Ok (outputs.0, implicit.0, behind))
    (paths_like p q e)
    (λ o u f. bind_like SameFound SameOutputs (implicit_at o.1) (implicit_at u.1)
    (λ implicit. some_path implicit.1 o.0 implicit.0 >>= λ _. byte_at colon fault.ExpectedColon implicit.1 >>= λ behind. Ok (o.0, implicit.0, behind))
    (λ implicit. some_path implicit.1 u.0 implicit.0 >>= λ _. byte_at colon fault.ExpectedColon implicit.1 >>= λ behind. Ok (u.0, implicit.0, behind))
    (implicit_like o.1 u.1 f.1)
    (λ i j g. bind_like Same SameOutputs (some_path i.1 o.0 i.0) (some_path j.1 u.0 j.0)
    (λ _. byte_at colon fault.ExpectedColon i.1 >>= λ behind. Ok (o.0, i.0, behind)) (λ _. byte_at colon fault.ExpectedColon j.1 >>= λ behind. Ok (u.0, j.0, behind))
    (some_like i.1 j.1 o.0 u.0 i.0 j.0 f.0 g.0)
    (λ _ _ _. bind_like SameText SameOutputs (byte_at colon fault.ExpectedColon i.1) (byte_at colon fault.ExpectedColon j.1) (λ behind. Ok (o.0, i.0, behind)) (λ behind. Ok (u.0, j.0, behind))
    (byte_like colon fault.ExpectedColon i.1 j.1 g.1) (λ v w h. (f.0, g.0, h)))))

inputs_like : (p q : Place) → SameText p q → Like Same (inputs_at p) (inputs_at q)
inputs_like p q e =
    bind_like SameFound Same (paths_at p) (paths_at q)
    (λ inputs. implicit_at inputs.1 >>= λ implicit. order_only_at implicit.1 >>= λ order_only. no_validation order_only.1 >>= λ _. line_end_at (inputs.0, implicit.0, order_only.0) order_only.1)
    (λ inputs. implicit_at inputs.1 >>= λ implicit. order_only_at implicit.1 >>= λ order_only. no_validation order_only.1 >>= λ _. line_end_at (inputs.0, implicit.0, order_only.0) order_only.1)
    (paths_like p q e)
    (λ o u f. bind_like SameFound Same (implicit_at o.1) (implicit_at u.1)
    (λ implicit. order_only_at implicit.1 >>= λ order_only. no_validation order_only.1 >>= λ _. line_end_at (o.0, implicit.0, order_only.0) order_only.1)
    (λ implicit. order_only_at implicit.1 >>= λ order_only. no_validation order_only.1 >>= λ _. line_end_at (u.0, implicit.0, order_only.0) order_only.1)
    (implicit_like o.1 u.1 f.1)
    (λ i j g. bind_like SameFound Same (order_only_at i.1) (order_only_at j.1)
    (λ order_only. no_validation order_only.1 >>= λ _. line_end_at (o.0, i.0, order_only.0) order_only.1)
    (λ order_only. no_validation order_only.1 >>= λ _. line_end_at (u.0, j.0, order_only.0) order_only.1)
    (order_like i.1 j.1 g.1)
    (λ x y h. bind_like Same Same (no_validation x.1) (no_validation y.1) (λ _. line_end_at (o.0, i.0, x.0) x.1) (λ _. line_end_at (u.0, j.0, y.0) y.1)
    (validation_like x.1 y.1 h.1)
    (λ _ _ _. end_like (o.0, i.0, x.0) (u.0, j.0, y.0) (triple o.0 u.0 i.0 j.0 x.0 y.0 f.0 g.0 h.0) x.1 y.1 h.1))))
  where
    triple : (a b c d e f : List (List Piece)) → a ≡ b → c ≡ d → e ≡ f → ◌≡◌ {A = Inputs} (a, c, e) (b, d, f)
    triple a b c d e f g h k = rw (g, h, k) refl

-- === Statements ===

-- statements of one text, at these offsets
abbrev pub AtOffsets : ℕ → ℕ → Statement → Statement → Type 0
AtOffsets i j s t = (s.offset ≡ i) × (t.offset ≡ j) × (s.kind ≡ t.kind)

rule_like : (i j : ℕ) (p q : Place) (a b : List BlockLine) → SameText p q → SameBlockLines a b → Like (AtOffsets i j) (rule_of i p a) (rule_of j q b)
rule_like i j p q a b e h =
    bind_like Same (AtOffsets i j) (named_block Rule i p a) (named_block Rule j q b)
    (λ x. Ok (record { offset = i; kind = kind.Rule (record { name = x.0; bindings = x.1 }) })) (λ x. Ok (record { offset = j; kind = kind.Rule (record { name = x.0; bindings = x.1 }) }))
    (block_like Rule i j p q a b e h) (λ x y f. (refl, refl, ap (λ (x : List ℕ × List Binding). kind.Rule (record { name = x.0; bindings = x.1 })) f))

pool_like : (i j : ℕ) (p q : Place) (a b : List BlockLine) → SameText p q → SameBlockLines a b → Like (AtOffsets i j) (pool_of i p a) (pool_of j q b)
pool_like i j p q a b e h =
    bind_like Same (AtOffsets i j) (named_block Pool i p a) (named_block Pool j q b)
    (λ x. Ok (record { offset = i; kind = kind.Pool (record { name = x.0; depth = depth_of x.1 }) })) (λ x. Ok (record { offset = j; kind = kind.Pool (record { name = x.0; depth = depth_of x.1 }) }))
    (block_like Pool i j p q a b e h) (λ x y f. (refl, refl, ap (λ (x : List ℕ × List Binding). kind.Pool (record { name = x.0; depth = depth_of x.1 })) f))

build_made : ℕ → Outputs → List ℕ → Inputs → List Binding → Statement
build_made at o rule inputs bindings = record {
  offset = at;
  kind = kind.Build (record {
    paths = record {
      outputs = o.0;
      implicit_outputs = o.1;
      inputs = inputs.0;
      implicit_inputs = inputs.1;
      order_only_inputs = inputs.2;
    };
    rule = rule;
    bindings = bindings;
  });
}

made_like : (i j : ℕ) (o u : Outputs) (r s : List ℕ) (x y : Inputs) (v w : List Binding) → SameOutputs o u → r ≡ s → x ≡ y → v ≡ w → AtOffsets i j (build_made i o r x v) (build_made j u s y w)
unfolding build_made
made_like i j o u r s x y v w e f g h = (refl, refl, rw (e.0, e.1, f, g, h) refl)

build_like : (i j : ℕ) (p q : Place) (a b : List BlockLine) → SameText p q → SameBlockLines a b → Like (AtOffsets i j) (build_of i p a) (build_of j q b)
unfolding build_made
build_like i j p q a b e h =
    bind_like SameOutputs (AtOffsets i j) (outputs_at p) (outputs_at q)
    (λ outputs. name_at outputs.2 >>= λ rule. inputs_at rule.1 >>= λ inputs. each block_line_at a >>= λ bindings. Ok (build_made i outputs rule.0 inputs bindings))
    (λ outputs. name_at outputs.2 >>= λ rule. inputs_at rule.1 >>= λ inputs. each block_line_at b >>= λ bindings. Ok (build_made j outputs rule.0 inputs bindings))
    (outputs_like p q e)
    (λ o u f. bind_like SameFound (AtOffsets i j) (name_at o.2) (name_at u.2)
    (λ rule. inputs_at rule.1 >>= λ inputs. each block_line_at a >>= λ bindings. Ok (build_made i o rule.0 inputs bindings))
    (λ rule. inputs_at rule.1 >>= λ inputs. each block_line_at b >>= λ bindings. Ok (build_made j u rule.0 inputs bindings))
    (name_like o.2 u.2 f.2)
    (λ r s g. bind_like Same (AtOffsets i j) (inputs_at r.1) (inputs_at s.1)
    (λ inputs. each block_line_at a >>= λ bindings. Ok (build_made i o r.0 inputs bindings)) (λ inputs. each block_line_at b >>= λ bindings. Ok (build_made j u s.0 inputs bindings))
    (inputs_like r.1 s.1 g.1)
    (λ x y k. bind_like Same (AtOffsets i j) (each block_line_at a) (each block_line_at b)
    (λ bindings. Ok (build_made i o r.0 x bindings)) (λ bindings. Ok (build_made j u s.0 y bindings))
    (block_lines_like a b h)
    (λ v w l. made_like i j o u r.0 s.0 x y v w f g.0 k l))))

-- a statement without a block
no_block_behind : {A : Type 0} (i j : ℕ) (make : ℕ → A → Statement) → ((x : A) → AtOffsets i j (make i x) (make j x)) → (r q : Result A ParseFault) (a b : List BlockLine) → Like Same r q → SameBlockLines a b
    → Like (AtOffsets i j) (r >>= λ x. no_block_allowed a >>= λ _. Ok (make i x)) (q >>= λ x. no_block_allowed b >>= λ _. Ok (make j x))
no_block_behind i j make same r q a b h k =
    bind_like Same (AtOffsets i j) r q (λ x. no_block_allowed a >>= λ _. Ok (make i x)) (λ x. no_block_allowed b >>= λ _. Ok (make j x)) h
    (λ x y e. bind_like Same (AtOffsets i j) (no_block_allowed a) (no_block_allowed b) (λ _. Ok (make i x)) (λ _. Ok (make j y)) (no_block_like a b k)
    (λ _ _ _. subst (λ v. AtOffsets i j (make i x) (make j v)) e (same x)))

targets_like : (p q : Place) → SameText p q → Like Same (targets_at p) (targets_at q)
targets_like p q e =
    bind_like SameFound Same (paths_at p) (paths_at q) (λ targets. some_path targets.1 targets.0 [] >>= λ _. line_end_at targets.0 targets.1) (λ targets. some_path targets.1 targets.0 [] >>= λ _. line_end_at targets.0 targets.1)
    (paths_like p q e)
    (λ x y f. bind_like Same Same (some_path x.1 x.0 []) (some_path y.1 y.0 []) (λ _. line_end_at x.0 x.1) (λ _. line_end_at y.0 y.1)
    (some_like x.1 y.1 x.0 y.0 [] [] f.0 refl) (λ _ _ _. end_like x.0 y.0 f.0 x.1 y.1 f.1))

some_byte_like : (p q : Place) → SameText p q → Like Same (some_byte p) (some_byte q)
some_byte_like = by_text (λ p q. Like Same (some_byte p) (some_byte q)) (λ a b v. by_test Same (path_len v == 0) tt tt _ _ refl)

file_like : (p q : Place) → SameText p q → Like Same (file_at p) (file_at q)
file_like = by_text (λ p q. Like Same (file_at p) (file_at q))
    (λ a b v. bind_like Same Same (some_byte (here a v)) (some_byte (here b v))
    (λ _. path_at (here a v) (path_len v) >>= λ path. line_end_at path (past_gap (past (path_len v) (here a v)))) (λ _. path_at (here b v) (path_len v) >>= λ path. line_end_at path (past_gap (past (path_len v) (here b v))))
    (some_byte_like (here a v) (here b v) refl)
    (λ _ _ _. bind_like Same Same (path_at (here a v) (path_len v)) (path_at (here b v) (path_len v))
    (λ path. line_end_at path (past_gap (past (path_len v) (here a v)))) (λ path. line_end_at path (past_gap (past (path_len v) (here b v))))
    (one_path_like (here a v) (here b v) refl)
    (λ x y e. end_like x y e (past_gap (past (path_len v) (here a v))) (past_gap (past (path_len v) (here b v))) refl)))

-- the sort of a statement depends on its first word
words_like : {A B : Type 0} (R : A → B → Type 0) (s t u v w x : Bool) (r0 r1 r2 r3 r4 r5 r6 : Result A ParseFault) (q0 q1 q2 q3 q4 q5 q6 : Result B ParseFault)
    → Like R r0 q0 → Like R r1 q1 → Like R r2 q2 → Like R r3 q3 → Like R r4 q4 → Like R r5 q5 → Like R r6 q6
    → Like R (cond s r0 (cond t r1 (cond u r2 (cond v r3 (cond w r4 (cond x r5 r6)))))) (cond s q0 (cond t q1 (cond u q2 (cond v q3 (cond w q4 (cond x q5 q6))))))
words_like R true t u v w x r0 r1 r2 r3 r4 r5 r6 q0 q1 q2 q3 q4 q5 q6 h0 h1 h2 h3 h4 h5 h6 = h0
words_like R false true u v w x r0 r1 r2 r3 r4 r5 r6 q0 q1 q2 q3 q4 q5 q6 h0 h1 h2 h3 h4 h5 h6 = h1
words_like R false false true v w x r0 r1 r2 r3 r4 r5 r6 q0 q1 q2 q3 q4 q5 q6 h0 h1 h2 h3 h4 h5 h6 = h2
words_like R false false false true w x r0 r1 r2 r3 r4 r5 r6 q0 q1 q2 q3 q4 q5 q6 h0 h1 h2 h3 h4 h5 h6 = h3
words_like R false false false false true x r0 r1 r2 r3 r4 r5 r6 q0 q1 q2 q3 q4 q5 q6 h0 h1 h2 h3 h4 h5 h6 = h4
words_like R false false false false false true r0 r1 r2 r3 r4 r5 r6 q0 q1 q2 q3 q4 q5 q6 h0 h1 h2 h3 h4 h5 h6 = h5
words_like R false false false false false false r0 r1 r2 r3 r4 r5 r6 q0 q1 q2 q3 q4 q5 q6 h0 h1 h2 h3 h4 h5 h6 = h6

at_here : (i j : ℕ) (v : List ℕ) (a b : List BlockLine) → SameBlockLines a b → Like (AtOffsets i j) (statement_of (here i v) a) (statement_of (here j v) b)
at_here i j v a b h =
    let word = name_of (past_gap (here i v)) in
    let p = past_gap (past (length word) (past_gap (here i v))) in
    let q = past_gap (past (length word) (past_gap (here j v))) in
    words_like (AtOffsets i j) (bytes_eq word (codes "rule")) (bytes_eq word (codes "build")) (bytes_eq word (codes "pool")) (bytes_eq word (codes "default")) (bytes_eq word (codes "include")) (bytes_eq word (codes "subninja"))
    (rule_of i p a) (build_of i p a) (pool_of i p a) (default_of i p a) (include_of i p a) (subninja_of i p a) (binding_of (here i v) a)
    (rule_of j q b) (build_of j q b) (pool_of j q b) (default_of j q b) (include_of j q b) (subninja_of j q b) (binding_of (here j v) b)
    (rule_like i j p q a b refl h) (build_like i j p q a b refl h) (pool_like i j p q a b refl h)
    (no_block_behind i j (λ at x. record { offset = at; kind = kind.Default x }) (λ x. (refl, refl, refl)) (targets_at p) (targets_at q) a b (targets_like p q refl) h)
    (no_block_behind i j (λ at x. record { offset = at; kind = kind.Include x }) (λ x. (refl, refl, refl)) (file_at p) (file_at q) a b (file_like p q refl) h)
    (no_block_behind i j (λ at x. record { offset = at; kind = kind.Subninja x }) (λ x. (refl, refl, refl)) (file_at p) (file_at q) a b (file_like p q refl) h)
    (no_block_behind i j (λ at x. record { offset = at; kind = kind.Binding x }) (λ x. (refl, refl, refl)) (binding_at (here i v)) (binding_at (here j v)) a b (binding_like (here i v) (here j v) refl) h)

-- two lines with the same text, and blocks with the same texts, form the same statement
pub statement_like : (p q : Place) (a b : List BlockLine) → SameText p q → SameBlockLines a b → Like (AtOffsets p.at q.at) (statement_of p a) (statement_of q b)
statement_like p q a b e h = subst (λ (v : List ℕ). Like (AtOffsets p.at q.at) (statement_of p a) (statement_of (here q.at v) b)) e (at_here p.at q.at p.bytes a b h)
