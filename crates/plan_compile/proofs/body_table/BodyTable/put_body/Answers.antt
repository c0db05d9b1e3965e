use Rattle.std.proofs.Common.{◌≡◌, ◌∙◌, ◌++◌, ◌∷◌, [], List, Vec, Global, true, false, ℕ, not, ap, sym}
use Rattle.std.specs.List.{list_any, position_or_len}
use Rattle.plan_compile.specs.BodyKeys.{Body, same_body}
use Rattle.plan_compile.specs.Numbering.{has, number, with_item}
use Rattle.plan_compile.proofs.BodyTableLemmas.{same_key, there, place, is_last, is_there, not_true, not_false}
use Rattle.plan_compile.proofs.body_table.BodyTable.put_body.Goals as goal

abbrev Key : Type 0
Key = Vec ℕ Global

abbrev items : Key → List ℕ
items k = k.items

pub returns-then-is_new-clause-bodies : goal.returns-then-is_new-clause-bodies
returns-then-is_new-clause-bodies c =
    let keys : List Key = c.self.inside.keys.keys in
    let bodies : List Body = c.self.inside.bodies.items in
    let new : not (list_any (same_key items c.args.key) keys) ≡ true = sym c.in_ok-place.ensures.added ∙ c.if-is_new.true in
    let absent : has same_body bodies c.args.body ≡ false = sym (there items c.args.key keys c.args.body bodies c.requires.key c.self.invariant) ∙ not_true (list_any (same_key items c.args.key) keys) new in
    c.in_ok-push.ensures.items ∙ ap (λ (bs : List Body). bs ++ c.args.body ∷ []) c.in_ok-reserve.ensures.items ∙ is_last bodies c.args.body absent
    ∙ ap (λ (bs : List Body). with_item same_body bs c.args.body) c.self.view_is

pub returns-then-is_new-clause-number : goal.returns-then-is_new-clause-number
returns-then-is_new-clause-number c =
    let keys : List Key = c.self.inside.keys.keys in
    let bodies : List Body = c.self.inside.bodies.items in
    let new : not (list_any (same_key items c.args.key) keys) ≡ true = sym c.in_ok-place.ensures.added ∙ c.if-is_new.true in
    let absent : has same_body bodies c.args.body ≡ false = sym (there items c.args.key keys c.args.body bodies c.requires.key c.self.invariant) ∙ not_true (list_any (same_key items c.args.key) keys) new in
    let i : c.in_ok-place.place ≡ position_or_len (same_key items c.args.key) keys = c.in_ok-place.ensures.index in
    c.word.ensures ∙ i ∙ place items c.args.key keys c.args.body bodies c.requires.key c.self.invariant
    ∙ ap (λ (bs : List Body). number same_body c.args.body bs)
    (sym (c.in_ok-push.ensures.items ∙ ap (λ (bs : List Body). bs ++ c.args.body ∷ []) c.in_ok-reserve.ensures.items ∙ is_last bodies c.args.body absent))

pub returns-clause-bodies : goal.returns-clause-bodies
returns-clause-bodies c =
    let keys : List Key = c.self.inside.keys.keys in
    let bodies : List Body = c.self.inside.bodies.items in
    let old : not (list_any (same_key items c.args.key) keys) ≡ false = sym c.in_ok-place.ensures.added ∙ c.if-is_new.false in
    let present : has same_body bodies c.args.body ≡ true = sym (there items c.args.key keys c.args.body bodies c.requires.key c.self.invariant) ∙ not_false (list_any (same_key items c.args.key) keys) old in
    c.in_ok-reserve.ensures.items ∙ is_there bodies c.args.body present ∙ ap (λ (bs : List Body). with_item same_body bs c.args.body) c.self.view_is

pub returns-clause-number : goal.returns-clause-number
returns-clause-number c =
    let keys : List Key = c.self.inside.keys.keys in
    let bodies : List Body = c.self.inside.bodies.items in
    let old : not (list_any (same_key items c.args.key) keys) ≡ false = sym c.in_ok-place.ensures.added ∙ c.if-is_new.false in
    let present : has same_body bodies c.args.body ≡ true = sym (there items c.args.key keys c.args.body bodies c.requires.key c.self.invariant) ∙ not_false (list_any (same_key items c.args.key) keys) old in
    let i : c.in_ok-place.place ≡ position_or_len (same_key items c.args.key) keys = c.in_ok-place.ensures.index in
    c.word-2.ensures ∙ i ∙ place items c.args.key keys c.args.body bodies c.requires.key c.self.invariant
    ∙ ap (λ (bs : List Body). number same_body c.args.body bs) (sym (c.in_ok-reserve.ensures.items ∙ is_there bodies c.args.body present))
