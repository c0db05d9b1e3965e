use Rattle.std.proofs.Common.{◌≡◌, ◌∙◌, List, Vec, Global, None, Some, length, ℕ, ap, refl, sym}
use Rattle.std.specs.Prelude.{slice_get}
use Rattle.std.proofs.lemmas.Option.{slice_get_past, slice_get_read}
use Rattle.plan_image.specs.Bodies.{body_of}
use Rattle.plan_compile.specs.BodyKeys.{Body, same_body}
use Rattle.plan_compile.specs.Numbering.{number}
use Rattle.plan_compile.proofs.MatchLemmas.{first_place, key_there, none_there}
use Rattle.plan_compile.proofs.body_table.BodyTable.is_at.Goals as goal

abbrev Key : Type 0
Key = Vec ℕ Global

abbrev items : Key → List ℕ
items k = k.items

pub returns-in-Some-clause-there : goal.returns-in-Some-clause-there
returns-in-Some-clause-there c =
    let bodies : List Body = c.self.inside.bodies.items in
    let keys : List Key = c.as_slice.result.now in
    let n : ℕ = c.args.place in
    let at : slice_get keys n ≡ Some c.in-Some.key.now = slice_get_read keys (length keys) n c.in-Some.key.now refl c.in-Some.ensures.lookup.3.0 c.in-Some.ensures.lookup.1 in
    let there : slice_get c.self.inside.keys.keys n ≡ Some c.in-Some.key.now = ap (λ (ks : List Key). slice_get ks n) (sym c.as_slice.ensures.keys) ∙ at in
    let same = key_there items c.self.inside.keys.keys bodies n c.in-Some.key.now c.args.code.now c.self.invariant there in (
      λ t. ap (λ (bs : List Body). slice_get bs n) (sym c.self.view_is) ∙ same.0 (sym c.deref.ensures.value ∙ c.is_same.ensures.0 t ∙ c.key.ensures),
      λ e. c.is_same.ensures.1 (c.deref.ensures.value ∙ same.1 (ap (λ (bs : List Body). slice_get bs n) c.self.view_is ∙ e) ∙ sym c.key.ensures),
    )

pub returns-in-Some-clause-first : goal.returns-in-Some-clause-first
returns-in-Some-clause-first c = λ t.
    let bodies : List Body = c.self.inside.bodies.items in
    let keys : List Key = c.as_slice.result.now in
    let n : ℕ = c.args.place in
    let at : slice_get keys n ≡ Some c.in-Some.key.now = slice_get_read keys (length keys) n c.in-Some.key.now refl c.in-Some.ensures.lookup.3.0 c.in-Some.ensures.lookup.1 in
    let there : slice_get c.self.inside.keys.keys n ≡ Some c.in-Some.key.now = ap (λ (ks : List Key). slice_get ks n) (sym c.as_slice.ensures.keys) ∙ at in
    let same = key_there items c.self.inside.keys.keys bodies n c.in-Some.key.now c.args.code.now c.self.invariant there in
    let body : slice_get bodies n ≡ Some (body_of c.args.code.now) = same.0 (sym c.deref.ensures.value ∙ c.is_same.ensures.0 t ∙ c.key.ensures) in
    first_place items c.self.inside.keys.keys bodies n (body_of c.args.code.now) c.as_slice.ensures.unique c.self.invariant body
    ∙ ap (λ (bs : List Body). number same_body (body_of c.args.code.now) bs) c.self.view_is

pub returns-in-None-clause-there : goal.returns-in-None-clause-there
returns-in-None-clause-there c =
    let bodies : List Body = c.self.inside.bodies.items in
    let keys : List Key = c.as_slice.result.now in
    let n : ℕ = c.args.place in
    let none : slice_get c.self.inside.keys.keys n ≡ None = ap (λ (ks : List Key). slice_get ks n) (sym c.as_slice.ensures.keys) ∙ slice_get_past keys n c.in-None.ensures.lookup.3 in (
      λ e. absurd cc,
      λ e. absurd (none_there items c.self.inside.keys.keys bodies n _ c.self.invariant none (ap (λ (bs : List Body). slice_get bs n) c.self.view_is ∙ e)),
    )
