use Rattle.std.proofs.Common.{◌≡◌, ℕ, ◌++◌, List, flat_map, [], ◌∷◌, take, ap, sym, ◌∙◌, get_or, take_all}
use Rattle.std.proofs.lemmas.Result.{on_ok_weaker}
use Rattle.plan_scope.specs.Expansion.{escaped}
use Rattle.plan_scope.specs.Kept.{kept}
use Rattle.plan_scope.proofs.TextLemmas.{kept_then, flat_map_taken}
use Rattle.plan_scope.proofs.scope.text.append_between_quotes.Goals as goal

pub loop-byte-preserved : goal.loop-byte-preserved
loop-byte-preserved c =
    let i = c.loop-byte.byte-index in
    let path = c.args.path.now in
    let before = c.args.out.now.items in
    kept_then before c.loop-byte.out.items c.append_escaped.new.out.items (39 ∷ flat_map escaped (take i path)) (escaped (get_or path i 0)) c.loop-byte.invariant c.in_ok-append_escaped.ensures
    ∙ ap (λ (t : List ℕ). kept (before ++ 39 ∷ t)) (sym (flat_map_taken escaped path i 0 c.loop-byte-test.true))

pub returns : goal.returns
returns c =
    let i = c.loop-byte.byte-index in
    let path = c.args.path.now in
    let before = c.args.out.now.items in
    on_ok_weaker c.append-2.result
    (λ (e : kept c.append-2.new.out.items ≡ kept (c.loop-byte.out.items ++ 39 ∷ [])).
    kept_then before c.loop-byte.out.items c.append-2.new.out.items (39 ∷ flat_map escaped (take i path)) (39 ∷ []) c.loop-byte.invariant e
    ∙ ap (λ (p : List ℕ). kept (before ++ (39 ∷ (flat_map escaped p ++ 39 ∷ [])))) (take_all i path c.loop-byte-test.false))
    c.append-2.ensures.appended
