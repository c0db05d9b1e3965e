use Rattle.std.proofs.Common.{◌≡◌, ◌∙◌, ◌||◌, Bool, List, ap, get_or, map, sym, take, option_map}
use Rattle.std.specs.List.{list_any}
use Rattle.std.proofs.lemmas.List.{take_all}
use Rattle.plan_text.specs.declared.piece_reader.Piece.{Piece}
use Rattle.plan_parse.specs.declared.compact.CompactBinding.{CompactBinding}
use Rattle.plan_parse.specs.declared.compact.CompactValue.TheVariants as kept_value
use Rattle.plan_parse.specs.Compact.{variable_in}
use Rattle.plan_scope.specs.Scopes.{Text, Bindings, expand, last_of, is_too_long}
use Rattle.plan_scope.specs.Edges.{block_of}
use Rattle.plan_scope.specs.Kept.{kept}
use Rattle.plan_scope.proofs.TextLemmas.{any_item, long_kept}
use Rattle.plan_scope.proofs.PathLemmas.{block_read, long_push}
use Rattle.plan_scope.proofs.SmallMapLemmas.{pushed_both}
use Rattle.plan_scope.proofs.edge.paths.block.Goals as goal

pub loop-binding-preserved : goal.loop-binding-preserved
loop-binding-preserved c = λ meant h.
    let i = c.loop-binding.binding-index in
    let source = c.args.block.now.text.now in
    let all = c.args.block.now.bindings.now in
    let first : CompactBinding = record { name = record { at = 0; len = 0 }; value = kept_value.Plain (record { at = 0; len = 0 }) } in
    let item : CompactBinding = get_or all i first in
    let b = variable_in source item in
    let held : Text = c.in_ok-text.text in
    let old = c.loop-binding.invariant meant h in
    let front = block_of meant (map (variable_in source) (take i all)) in
    let text = expand meant b.value in
    let more = block_read meant source all i item c.loop-binding-test.true (any_item all i first item c.loop-binding-test.true) in
    let same : kept held ≡ kept text = c.in_ok-text.ensures meant h ∙ ap (λ (ps : List Piece). kept (expand meant ps)) c.value_in.ensures in
    let long : c.is_long-has_long.result ≡ is_too_long text = c.is_long-has_long.ensures ∙ (ap is_too_long c.as_slice.ensures ∙ long_kept held text same) in (
      λ n.
          ap (option_map kept) (c.in_ok-set.ensures.bound n)
          ∙ (pushed_both kept kept n c.loop-binding.values front c.name_in.result.now b.name held text c.name_in.ensures same (old.0 n)
          ∙ ap (λ (bs : Bindings Text). option_map kept (last_of n bs)) (sym more)),
      ap (λ (t : Bool). t || c.is_long-has_long.result) old.1
          ∙ (ap (λ (t : Bool). list_any (λ x. is_too_long x.1) front || t) long
          ∙ (sym (long_push front (b.name, text))
          ∙ ap (λ (bs : Bindings Text). list_any (λ x. is_too_long x.1) bs) (sym more))),
    )

pub returns-clause-values : goal.returns-clause-values
returns-clause-values c = λ meant h n.
    (c.loop-binding.invariant meant h).0 n
    ∙ ap (λ (bs : List CompactBinding). option_map kept (last_of n (block_of meant (map (variable_in c.args.block.now.text.now) bs)))) (take_all c.loop-binding.binding-index c.args.block.now.bindings.now c.loop-binding-test.false)

pub returns-clause-long : goal.returns-clause-long
returns-clause-long c = λ meant h.
    (c.loop-binding.invariant meant h).1
    ∙ ap (λ (bs : List CompactBinding). list_any (λ x. is_too_long x.1) (block_of meant (map (variable_in c.args.block.now.text.now) bs))) (take_all c.loop-binding.binding-index c.args.block.now.bindings.now c.loop-binding-test.false)
