-- Concatenated lists. Lemmas for src/block.rt, src/reading.rt and src/statement_reader.rt.
use Rattle.std.proofs.Common.{◌≡◌, ℕ, ◌+◌, ◌≤◌, List, [], ◌∷◌, ◌++◌, length, take, drop, Ok, refl, sym, ap, ◌∙◌, arith}
use Rattle.plan_text.specs.Outcome.{each}
use Rattle.plan_text.specs.declared.piece_reader.Piece.{Piece}
use Rattle.std.proofs.lemmas.List.{take_all, take-append-drop, take-append-le, length-append, append_assoc, append-nil}
use Rattle.std.proofs.Math.Seq.{drop-append_seam}
use Rattle.plan_parse.specs.declared.compact.PathLists.{PathLists}
use Rattle.plan_parse.specs.declared.compact.PathPlaces.{PathPlaces}
use Rattle.plan_parse.specs.declared.statement.Binding.{Binding}
use Rattle.plan_parse.specs.PathLists.{Extends, added_to, between, lists_at}
use Rattle.plan_parse.specs.Kinds.{Statement}
use Rattle.plan_parse.specs.Kinds as kind
use Rattle.plan_parse.specs.Blocks.{BlockLine}
use Rattle.plan_parse.specs.Reading.{Place, name_at}
use Rattle.plan_parse.specs.Statements.{block_line_at, outputs_at, inputs_at, build_of}

-- the items that were added to a list
pub added : {A : Type 0} (older items more : List A) → items ≡ older ++ more → added_to older items ≡ more
added older items more e = ap (drop (length older)) e ∙ drop-append_seam older more

-- a list extends itself
pub extends_itself : {A : Type 0} (items : List A) → Extends items items
extends_itself items = sym (append-nil items) ∙ ap (λ v. items ++ v) (sym (added items items [] (sym (append-nil items))))

-- nothing was added to the list itself
pub none_added : {A : Type 0} (items : List A) → added_to items items ≡ []
none_added items = added items items [] (sym (append-nil items))

-- one more item is added
pub one_more : {A : Type 0} (older items : List A) (x : A) → Extends older items → added_to older (items ++ x ∷ []) ≡ added_to older items ++ x ∷ []
one_more older items x extends = added older (items ++ x ∷ []) (added_to older items ++ x ∷ []) (ap (λ v. v ++ x ∷ []) extends ∙ append_assoc older (added_to older items) (x ∷ []))

pub extends_more : {A : Type 0} (older items : List A) (x : A) → Extends older items → Extends older (items ++ x ∷ [])
extends_more older items x extends =
    ap (λ v. v ++ x ∷ []) extends ∙ append_assoc older (added_to older items) (x ∷ []) ∙ ap (λ v. older ++ v) (sym (one_more older items x extends))

-- the lengths of the parts
pub added_length : {A : Type 0} (older items : List A) → Extends older items → length items ≡ length older + length (added_to older items)
added_length older items extends = ap length extends ∙ length-append older (added_to older items)

-- a list with more items after it
pub extends_by : {A : Type 0} (older items more : List A) → items ≡ older ++ more → Extends older items
extends_by older items more e = e ∙ ap (λ v. older ++ v) (sym (added older items more e))

-- the same list
pub extends_same : {A : Type 0} (older items : List A) → items ≡ older → Extends older items
extends_same older items e = extends_by older items [] (e ∙ sym (append-nil older))

-- a list that extends another one that extends a third one
pub extends_far : {A : Type 0} (older front items : List A) → Extends older front → Extends front items → Extends older items
extends_far older front items near far =
    extends_by older items (added_to older front ++ added_to front items) (far ∙ ap (λ v. v ++ added_to front items) near ∙ append_assoc older (added_to older front) (added_to front items))

-- a list whose front extends another one
pub extends_front : {A : Type 0} (n : ℕ) (older items : List A) → Extends older (take n items) → Extends older items
extends_front n older items extends = extends_far older (take n items) items extends (extends_by (take n items) items (drop n items) (sym (take-append-drop n items)))

-- an older list is the front
pub front_same : {A : Type 0} (n : ℕ) (older items : List A) → n ≤ length older → Extends older items → take n items ≡ take n older
front_same n older items within extends = ap (take n) extends ∙ take-append-le n older (added_to older items) within

-- a range before the end of an older list stays the same
pub between_same : {A : Type 0} (start end : ℕ) (older items : List A) → end ≤ length older → Extends older items → between start end items ≡ between start end older
between_same start end older items within extends = ap (drop start) (front_same end older items within extends)

-- the range from the end of an older list to the end
pub added_between : {A : Type 0} (older items : List A) (start end : ℕ) → start ≡ length older → end ≡ length items → between start end items ≡ added_to older items
added_between older items start end begin stop = ap (λ n. drop n (take end items)) begin ∙ ap (drop (length older)) (take_all end items (omega (arith, stop)))

same_five : {A : Type 0} (p q : PathLists (List A)) → p.outputs ≡ q.outputs → p.implicit_outputs ≡ q.implicit_outputs → p.inputs ≡ q.inputs → p.implicit_inputs ≡ q.implicit_inputs → p.order_only_inputs ≡ q.order_only_inputs → p ≡ q
same_five p q a b c d e = λ i. record { outputs = a i; implicit_outputs = b i; inputs = c i; implicit_inputs = d i; order_only_inputs = e i }

-- five lists, two of which were added to an older list, and three to the result of that
abbrev pub cut : {A : Type 0} → ℕ → ℕ → ℕ → List A → List A → List A → PathLists (List A)
cut a c d older front items = record {
  outputs = added_to older (take a front);
  implicit_outputs = drop a front;
  inputs = added_to front (take c items);
  implicit_inputs = drop c (take d items);
  order_only_inputs = drop d items;
}

-- they have their ranges
pub stand_at : {A : Type 0} (places : PathPlaces) (older front items : List A) → places.start ≡ length older → places.outputs ≤ length front → places.implicit_outputs ≡ length front → places.order_only_inputs ≡ length items → Extends front (take places.inputs items)
    → lists_at places items ≡ cut places.outputs places.inputs places.implicit_inputs older front items
stand_at places older front items start outputs implicit_outputs order_only_inputs extends =
    let far : Extends front items = extends_front places.inputs front items extends in
    same_five (lists_at places items) (cut places.outputs places.inputs places.implicit_inputs older front items)
    (ap (λ n. drop n (take places.outputs items)) start ∙ ap (drop (length older)) (front_same places.outputs front items outputs far))
    (ap (drop places.outputs) (front_same places.implicit_outputs front items (omega (arith, implicit_outputs)) far ∙ take_all places.implicit_outputs front (omega (arith, implicit_outputs))))
    (ap (λ n. drop n (take places.inputs items)) implicit_outputs)
    refl
    (ap (drop places.implicit_inputs) (take_all places.order_only_inputs items (omega (arith, order_only_inputs))))

-- they keep their ranges, whatever follows
pub stand_still : {A : Type 0} (places : PathPlaces) (older items : List A) → places.outputs ≤ length older → places.implicit_outputs ≤ length older → places.inputs ≤ length older → places.implicit_inputs ≤ length older
    → places.order_only_inputs ≤ length older → Extends older items → lists_at places items ≡ lists_at places older
stand_still places older items a b c d e extends =
    same_five (lists_at places items) (lists_at places older)
    (between_same places.start places.outputs older items a extends)
    (between_same places.outputs places.implicit_outputs older items b extends)
    (between_same places.implicit_outputs places.inputs older items c extends)
    (between_same places.inputs places.implicit_inputs older items d extends)
    (between_same places.implicit_inputs places.order_only_inputs older items e extends)

-- a build line consists of the parts that were read
pub build_read : (at : ℕ) (p : Place) (lines : List BlockLine) (x : List (List Piece) × List (List Piece) × Place) (n : List ℕ × Place) (y : List (List Piece) × List (List Piece) × List (List Piece)) (bindings : List Binding)
    → outputs_at p ≡ Ok x → name_at x.2 ≡ Ok n → inputs_at n.1 ≡ Ok y → each block_line_at lines ≡ Ok bindings
    → build_of at p lines
    ≡ Ok (record {
      offset = at;
      kind = kind.Build (record {
        paths = record {
          outputs = x.0;
          implicit_outputs = x.1;
          inputs = y.0;
          implicit_inputs = y.1;
          order_only_inputs = y.2;
        };
        rule = n.0;
        bindings = bindings;
      });
    })
build_read at p lines x n y bindings e f g h = rw (e, f, g, h) refl
