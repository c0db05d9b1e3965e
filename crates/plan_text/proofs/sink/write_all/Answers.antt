use Rattle.std.proofs.Common.{◌≡◌, ◌++◌, ◌+◌, ◌-◌, ℕ, List, length, take, drop, ap, ◌∙◌, append_assoc}
use Rattle.std.proofs.KnownBytes.{Appends-trans}
use Rattle.std.proofs.lemmas.Result.{err_from_is_err_and}
use Rattle.std.proofs.lemmas.List.{take-append-drop, take_rest}
use Rattle.plan_text.proofs.SinkLemmas.{stopped}
use Rattle.plan_text.proofs.sink.write_all.Goals as goal

pub loop-rest-preserved : goal.loop-rest-preserved
loop-rest-preserved g c =
    let more : take c.in_ok-n.n c.loop-rest.rest.now ++ take (length c.loop-rest.rest.now - c.in_ok-n.n) (drop c.in_ok-n.n c.loop-rest.rest.now) ≡ c.loop-rest.rest.now =
    ap (λ (v : List ℕ). take c.in_ok-n.n c.loop-rest.rest.now ++ v) (take_rest c.loop-rest.rest.now c.in_ok-n.n) ∙ take-append-drop c.in_ok-n.n c.loop-rest.rest.now in
    let component_onto = c.loop-rest.invariant.taken in
    record {
      kept = c.in_ok-n.ensures.failures ∙ c.loop-rest.invariant.kept;
      taken = (
        component_onto.0 ++ take c.in_ok-n.n c.loop-rest.rest.now,
        append_assoc component_onto.0 (take c.in_ok-n.n c.loop-rest.rest.now) _ ∙ ap (λ (v : List ℕ). component_onto.0 ++ v) more ∙ component_onto.1,
        Appends-trans _ _ _ component_onto.0 (take c.in_ok-n.n c.loop-rest.rest.now) component_onto.2 c.in_ok-n.ensures.taken,
      );
    }

pub returns-in_err-n : goal.returns-in_err-n
returns-in_err-n g c =
    let component_onto = c.loop-rest.invariant.taken in
    let p = err_from_is_err_and c.from_residual.result c.from_residual.ensures.1 in
    rw p.1 (c.in_err-n.ensures.failures ∙ ap (λ (n : ℕ). n + 1) c.loop-rest.invariant.kept, stopped _ _ _ component_onto.0 c.loop-rest.rest.now _ component_onto.1 component_onto.2 c.in_err-n.ensures.taken)
