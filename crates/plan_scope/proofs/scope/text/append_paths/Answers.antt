use Rattle.std.proofs.Common.{◌≡◌, ℕ, ◌++◌, ◌<◌, ◌≤◌, length, length-append, ltb, sym, List, map, [], ◌∷◌, take, ap, ◌∙◌, cond, arith, get_or}
use Rattle.std.specs.List.{join_with_byte}
use Rattle.std.proofs.lemmas.Bool.{ltb-true}
use Rattle.std.proofs.lemmas.List.{take_all}
use Rattle.std.proofs.lemmas.Bool.Decides.{nat_tests}
use Rattle.plan_text.specs.Limits.{max_text}
use Rattle.plan_scope.specs.Scopes.{Text}
use Rattle.plan_scope.specs.ShellQuoting.{quoted_as}
use Rattle.plan_scope.specs.Kept.{kept}
use Rattle.plan_scope.proofs.TextLemmas.{any_item, both_long, kept_then, join_taken}
use Rattle.plan_scope.proofs.scope.text.append_paths.Goals as goal

pub loop-number-preserved : goal.loop-number-preserved
loop-number-preserved c =
    let i = c.loop-number.number in
    let paths : List Text = c.args.paths.now in
    let s = c.args.separator in
    let show = quoted_as c.args.quoting in
    let before = c.args.out.now.items in
    let front = join_with_byte s (map show (take i paths)) in
    let gap : List ℕ = cond c.loop-number.is_first [] (s ∷ []) in
    let path : Text = c.path.result.now in
    let lt : i < length paths = omega (arith, c.loop-number-test.true, c.len-number-end.ensures) in
    let is : path ≡ get_or paths i path = c.path.ensures ∙ any_item paths i [] path lt in
    let middle = kept_then before c.loop-number.out.items c.append_separator.new.out.items front gap c.loop-number.invariant.1 c.in_ok-append_separator.ensures in
    let all = kept_then before c.append_separator.new.out.items c.append_path.new.out.items (front ++ gap) (show path) middle c.in_ok-append_path.ensures in
    let more = join_taken show s paths i path c.loop-number.is_first lt is c.loop-number.invariant.0 in
    (grind (arith, nat_tests), all ∙ ap (λ (t : List ℕ). kept (before ++ t)) more)

pub returns-then-is_long : goal.returns-then-is_long
returns-then-is_long c =
    let out = c.args.out.now.items in
    let paths = join_with_byte c.args.separator (map (quoted_as c.args.quoting) c.args.paths.now) in
    let long : max_text < length out = ltb-true max_text (length out) (ap (λ (t : List ℕ). ltb max_text (length t)) (sym c.deref.ensures.value) ∙ (sym c.is_long.ensures ∙ c.if-is_long.true)) in
    both_long out (out ++ paths) long (omega (arith, length-append out paths))

pub returns : goal.returns
returns c =
    let paths : List Text = c.args.paths.now in
    let all : length paths ≤ c.loop-number.number = omega (arith, c.loop-number-test.false, c.len-number-end.ensures) in
    c.loop-number.invariant.1 ∙ ap (λ (ps : List Text). kept (c.args.out.now.items ++ join_with_byte c.args.separator (map (quoted_as c.args.quoting) ps))) (take_all c.loop-number.number paths all)
