use Rattle.std.proofs.Common.{◌≡◌, ◌≤◌, ℕ, List, Ok, sym, ap, map, take, drop, length, ◌∙◌, arith}
use Rattle.plan_parse.specs.declared.compact.CompactPath.{CompactPath}
use Rattle.plan_parse.specs.declared.compact.PathPlaces.{PathPlaces}
use Rattle.plan_parse.specs.declared.compact.PathLists.{PathLists}
use Rattle.plan_parse.specs.BlockLines.{block_lines_of}
use Rattle.plan_parse.specs.Compact.{line_in, path_in, variable_in}
use Rattle.plan_parse.specs.PathLists.{added_to, between, lists_at, map_lists}
use Rattle.plan_parse.specs.Kinds as kind
use Rattle.plan_parse.specs.Views.{place_of}
use Rattle.plan_parse.proofs.CompactLemmas.{name_again, name_stands}
use Rattle.plan_parse.proofs.JoinedLemmas.{build_read, cut, extends_far, extends_front, extends_itself, added_length, stand_at}
use Rattle.plan_parse.proofs.KeptLemmas.{build_lasts}
use Rattle.plan_parse.proofs.statement_reader.build_of.Goals as goal

pub inputs_at-requires : goal.inputs_at-requires
inputs_at-requires c =
    name_stands c.args.text.now (place_of c.in_ok-outputs.rest) (c.in_ok-rule.rule.now, place_of c.in_ok-rule.rest) c.in_ok-outputs.ensures.stands (sym c.in_ok-rule.ensures)

pub returns-clause-read : goal.returns-clause-read
returns-clause-read c =
    let text = c.args.text.now in
    let a = c.in_ok-outputs.outputs in
    let e = c.in_ok-inputs.inputs.explicit in
    let i = c.in_ok-inputs.inputs.implicit in
    let older = c.args.lists.now.paths.items in
    let front = c.outputs_at.new.paths.items in
    let items = c.inputs_at.new.paths.items in
    let places : PathPlaces = record {
      start = c.in_ok-start.start;
      outputs = a;
      implicit_outputs = c.in_ok-implicit_outputs.implicit_outputs;
      inputs = e;
      implicit_inputs = i;
      order_only_inputs = c.in_ok-order_only_inputs.order_only_inputs;
    } in
    let same : lists_at places items ≡ cut a e i older front items =
    stand_at places older front items
    (c.in_ok-start.ensures ∙ ap length c.deref.ensures.value)
    c.in_ok-outputs.ensures.within
    (c.in_ok-implicit_outputs.ensures ∙ ap length c.deref-2.ensures.value)
    (c.in_ok-order_only_inputs.ensures ∙ ap length c.deref-3.ensures.value)
    c.in_ok-inputs.ensures.keeps in
    let begin = c.in_ok-outputs.rest in
    let named : c.in_ok-rule.rule.now ≡ (line_in text c.in_ok-rule-2.rule).bytes =
    name_again text c.in_ok-rule-2.rule (place_of begin) (place_of c.in_ok-rule.rest) c.in_ok-rule.rule.now c.in_ok-outputs.ensures.stands (sym c.in_ok-rule.ensures) c.in_ok-rule-2.ensures.0 c.in_ok-rule-2.ensures.1 in
    let found = map (variable_in text) (between c.in_ok-bindings.bindings.start c.in_ok-bindings.bindings.end c.bindings_at.new.bindings.items) in
    build_read c.args.at (place_of c.args.p) (block_lines_of c.args.lines.now)
    (map (path_in text) (added_to older (take a front)), map (path_in text) (drop a front), place_of begin)
    (c.in_ok-rule.rule.now, place_of c.in_ok-rule.rest)
    (map (path_in text) (added_to front (take e items)), map (path_in text) (drop e (take i items)), map (path_in text) (drop i items))
    found
    c.in_ok-outputs.ensures.read (sym c.in_ok-rule.ensures) c.in_ok-inputs.ensures.read c.in_ok-bindings.ensures.read
    ∙ ap (λ (name : List ℕ). Ok (record {
      offset = c.args.at;
      kind = kind.Build (record {
        paths = map_lists (map (path_in text)) (cut a e i older front items);
        rule = name;
        bindings = found;
      });
    })) named
    ∙ ap (λ (paths : PathLists (List CompactPath)). Ok (record {
      offset = c.args.at;
      kind = kind.Build (record {
        paths = map_lists (map (path_in text)) paths;
        rule = (line_in text c.in_ok-rule-2.rule).bytes;
        bindings = found;
      });
    })) (sym same)
    ∙ ap (λ (offset : ℕ). Ok (record {
      offset = offset;
      kind = kind.Build (record {
        paths = map_lists (map (path_in text)) (lists_at places items);
        rule = (line_in text c.in_ok-rule-2.rule).bytes;
        bindings = found;
      });
    })) (sym c.in_ok-offset.ensures)

pub returns-clause-follows : goal.returns-clause-follows
returns-clause-follows c =
    let front = c.outputs_at.new.paths.items in
    let items = c.inputs_at.new.paths.items in
    record {
      builds = extends_itself c.args.lists.now.builds.items;
      paths = extends_far c.args.lists.now.paths.items front items
          (extends_front c.in_ok-outputs.outputs c.args.lists.now.paths.items front c.in_ok-outputs.ensures.keeps)
          (extends_front c.in_ok-inputs.inputs.explicit front items c.in_ok-inputs.ensures.keeps);
      bindings = c.in_ok-bindings.ensures.keeps;
    }

pub returns-clause-lasts : goal.returns-clause-lasts
returns-clause-lasts c =
    let front = c.outputs_at.new.paths.items in
    let items = c.inputs_at.new.paths.items in
    let more : length front ≤ length items =
    omega (arith, added_length front items (extends_front c.in_ok-inputs.inputs.explicit front items c.in_ok-inputs.ensures.keeps)) in
    let all : c.in_ok-order_only_inputs.order_only_inputs ≡ length items = c.in_ok-order_only_inputs.ensures ∙ ap length c.deref-3.ensures.value in
    let outputs : c.in_ok-implicit_outputs.implicit_outputs ≡ length front = c.in_ok-implicit_outputs.ensures ∙ ap length c.deref-2.ensures.value in
    build_lasts c.args.text.now (record { builds = c.args.lists.now.builds; paths = c.inputs_at.new.paths; bindings = c.bindings_at.new.bindings }) _
    (omega (arith, more, c.in_ok-outputs.ensures.within))
    (omega (arith, more, outputs))
    (omega (arith, c.in_ok-inputs.ensures.rise, c.in_ok-inputs.ensures.within))
    c.in_ok-inputs.ensures.within
    (omega (arith, all))
    c.in_ok-bindings.ensures.within
