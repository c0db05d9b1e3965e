use Rattle.std.proofs.Common.{◌≡◌, true, false, sym, ◌∙◌, arith, is_some}
use Rattle.plan_text.specs.Path.{is_parent_dir}
use Rattle.plan_text.specs.Reducing.{kept_of}
use Rattle.plan_text.proofs.PathLemmas.{adds_current_dir, shape_popped, shape_pushed, parent_dirs_pushed, takes_popped}
use Rattle.plan_text.proofs.path.add_component.Goals as goal

pub returns-then-is_current_dir-clause-takes : goal.returns-then-is_current_dir-clause-takes
returns-then-is_current_dir-clause-takes c =
    λ rest. adds_current_dir (kept_of c.args.kept.now) c.args.component.now rest (sym c.is_current_dir.ensures ∙ c.if-is_current_dir.true)

pub returns-in_ok-push-clause-reduced : goal.returns-in_ok-push-clause-reduced
returns-in_ok-push-clause-reduced c =
    let e : is_parent_dir c.args.component.now ≡ false = grind (arith, c.is_parent_dir.ensures) in record {
      parent_dirs = c.requires.parent_dirs;
      names = shape_pushed _ _ c.args.component c.in_ok-push.ensures.items c.requires.names (sym c.is_current_dir.ensures ∙ c.if-is_current_dir.false) e;
    }

pub returns-in_ok-push-2-clause-reduced : goal.returns-in_ok-push-2-clause-reduced
returns-in_ok-push-2-clause-reduced c =
    let e : is_parent_dir c.args.component.now ≡ true = grind (arith, c.is_parent_dir.ensures) in record {
      parent_dirs = parent_dirs_pushed _ _ c.args.component c.in_ok-push-2.ensures.items c.requires.parent_dirs (sym c.is_current_dir.ensures ∙ c.if-is_current_dir.false) e;
      names = shape_popped _ _ _ c.pop.ensures.items c.requires.names;
    }

pub returns-else-is_none-clause-reduced : goal.returns-else-is_none-clause-reduced
returns-else-is_none-clause-reduced c = record {
  parent_dirs = c.requires.parent_dirs;
  names = shape_popped _ _ _ c.pop.ensures.items c.requires.names;
}

pub returns-else-is_none-clause-takes : goal.returns-else-is_none-clause-takes
returns-else-is_none-clause-takes c =
    let e : is_parent_dir c.args.component.now ≡ true = grind (arith, c.is_parent_dir.ensures) in
    let s : is_some c.pop.result ≡ true = grind (arith, c.is_none.ensures) in
    λ rest. takes_popped c.args.kept.now.parent_dirs.items c.args.kept.now.names.items c.pop.new.self.items c.pop.result c.args.component.now rest c.pop.ensures.items s c.requires.names (sym c.is_current_dir.ensures ∙ c.if-is_current_dir.false) e
