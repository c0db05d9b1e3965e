use Rattle.std.proofs.Common.{◌≡◌, ◌<◌, ◌++◌, ◌∷◌, ◌∙◌, [], List, Vec, Global, Some, length, ℕ, ap, refl, subst, sym, arith}
use Rattle.std.specs.Prelude.{slice_get}
use Rattle.std.specs.Vec.Iter.{into_iter_items}
use Rattle.std.proofs.lemmas.List.{append_assoc, length-append, length-map}
use Rattle.std.proofs.lemmas.Option.{slice_get_read}
use Rattle.plan_compile.specs.BodyKeys.{Body, key_of, same_body}
use Rattle.plan_compile.specs.Numbering.{number}
use Rattle.plan_compile.proofs.BodyTableLemmas.{bodies_put, key_here, numbers_put}
use Rattle.plan_compile.proofs.body_table.BodyTable.put_bodies.Goals as goal

abbrev Key : Type 0
Key = Vec ℕ Global

abbrev items : Key → List ℕ
items k = k.items

pub put_body-requires-clause-key : goal.put_body-requires-clause-key
put_body-requires-clause-key c =
    let keys : List Key = c.args.keys.now in
    let bodies : List Body = c.args.bodies.items in
    let done : List Body = c.loop-body.yielded in
    let body : Body = c.in-Some.body in
    let rest : List Body = into_iter_items c.next.new.self in
    let split : done ++ body ∷ rest ≡ bodies = ap (λ (bs : List Body). done ++ bs) (sym c.in-Some.ensures.steps.0) ∙ c.loop-body.invariant.3 in
    let n : c.len-in-loop-body.result ≡ length done =
    omega (arith, c.len-in-loop-body.ensures, ap (λ (ns : List ℕ). length ns) c.loop-body.invariant.1, length-map done (λ b. number same_body b c.loop-body.self)) in
    let as_many : length keys ≡ length bodies = sym (length-map keys items) ∙ ap (λ (ks : List (List ℕ)). length ks) c.requires.keys ∙ length-map bodies key_of in
    let inside : c.len-in-loop-body.result < length keys = omega (arith, n, as_many, ap (λ (bs : List Body). length bs) split, length-append done (body ∷ rest)) in
    let at : slice_get keys c.len-in-loop-body.result ≡ Some c.index-keys-len.result = slice_get_read keys (length keys) c.len-in-loop-body.result c.index-keys-len.result refl inside c.index-keys-len.is in
    c.in_ok-key.ensures ∙ c.as_slice.ensures.value
    ∙ key_here items keys bodies done rest body c.index-keys-len.result c.requires.keys split (subst (λ (m : ℕ). slice_get keys m ≡ Some c.index-keys-len.result) n at)

pub loop-body-preserved : goal.loop-body-preserved
loop-body-preserved c =
    let start : List Body = c.args.self.now in
    let old : List Body = c.loop-body.self in
    let new : List Body = c.put_body.new.self in
    let done : List Body = c.loop-body.yielded in
    let body : Body = c.in-Some.body in
    let rest : List Body = into_iter_items c.next.new.self in
    let few = c.loop-body.invariant.2 in
    let more = c.in_ok-number.ensures.few in (
      bodies_put start old new done body c.loop-body.invariant.0 c.in_ok-number.ensures.bodies,
      numbers_put start old new done body c.loop-body.numbers.items c.push.new.self.items c.in_ok-number.number c.loop-body.invariant.0 c.loop-body.invariant.1 c.in_ok-number.ensures.bodies
          c.in_ok-number.ensures.number c.in_ok-push.ensures.items,
      omega (arith, few, more, length-append done (body ∷ [])),
      append_assoc done (body ∷ []) rest ∙ ap (λ (bs : List Body). done ++ bs) (sym c.in-Some.ensures.steps.0) ∙ c.loop-body.invariant.3,
    )
